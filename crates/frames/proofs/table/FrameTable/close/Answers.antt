use Rattle.std.proofs.Common.{nat_lt}
use Rattle.std.proofs.Math.Bool.{and-true}
use Rattle.frames.specs.Tables.{handed_out}
use Rattle.frames.specs.OpenFrames.{less_lawful}
use Rattle.frames.proofs.table.FrameTable.close.Goals as goal

pub invariant_of-self-clause-lawful : goal.invariant_of-self-clause-lawful
invariant_of-self-clause-lawful c f e =
    let t = c.args.self.now in
    rw (and-true (nat_lt f t.next)) at (less_lawful (handed_out t) t.lawful f (rw c.pop.ensures.rest at e))
