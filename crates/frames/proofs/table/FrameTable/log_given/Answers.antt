use Rattle.std.proofs.Common.{length, slice_set, ap, sym, ◌∙◌, ◌-◌}
use Rattle.std.proofs.lemmas.List.{length-set}
use Rattle.arrayvec.proofs.ArrayVecLemmas.{items-with_items}
use Rattle.model.specs.Frames.{is_open}
use Rattle.frames.specs.Tables.{handed_out}
use Rattle.frames.specs.OpenFrames.{written_lawful, counted_up_number}
use Rattle.frames.proofs.table.FrameTable.log_given.Goals as goal

pub invariant_of-self-clause-lawful : goal.invariant_of-self-clause-lawful
invariant_of-self-clause-lawful c f e =
    let t = c.args.self.now in
    let x = c.count_up.new.frame in
    let last = length t.frames.items - 1 in
    let same = ap (λ o. o.1.number) c.count_up.ensures ∙ rw (c.deref_mut.ensures.value, c.len-newest.ensures.value) (counted_up_number _) in
    let written = ap (is_open f) (items-with_items t.frames (slice_set t.frames.items last x) (length-set t.frames.items last x)) in
    written_lawful (handed_out t) x same t.lawful f (sym written ∙ rw (c.deref_mut.ensures.value, c.len-newest.ensures.value) at e)
