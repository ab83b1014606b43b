-- Too few places, a word that is not plain, or the head and the words behind it.
use Rattle.std.proofs.Common.{sym, refl, arith}
use Rattle.std.proofs.lemmas.List.{length-append}
use Rattle.wordlog.proofs.Plain.{plain_both, plain_parts}
use Rattle.wordlog.proofs.Records.{record_written}
use Rattle.wordlog.proofs.writer.write_record.Goals as goal
use Rattle.wordlog.proofs.writer.write_record.Goals.{then-out-end-via-then-out-end, then-out-end-via-else-out-end+then-not-all_plain, then-out-end-via-else-out-end+else-not-all_plain+then-not-all_plain-2}

pub returns-then-out-end : goal.returns-then-out-end
returns-then-out-end c =
    let n = length-append c.args.first.now c.args.second.now in (
      refl,
      λ p.
          let parts = plain_parts c.args.first.now c.args.second.now p in
          elim c.then-out-end.branch [
            | then-out-end-via-then-out-end w ↦ omega arith
            | then-out-end-via-else-out-end+then-not-all_plain w ↦ absurd (cc (parts.0, w.if-not-all_plain.ensures))
            | then-out-end-via-else-out-end+else-not-all_plain+then-not-all_plain-2 w ↦ absurd (cc (parts.1, w.if-not-all_plain-2.ensures))
          ],
    )

pub returns : goal.returns
returns c =
    let first = c.args.first.now in
    let second = c.args.second.now in
    let n = length-append first second in
    let w = record_written c.args.head first second c.args.out.now c.if-out-end.false in
    (plain_both first second (sym c.if-not-all_plain.ensures) (sym c.if-not-all_plain-2.ensures), omega arith, omega arith, simp (c.copy_from_slice.ensures.after, c.copy_from_slice-2.ensures.after) w)
