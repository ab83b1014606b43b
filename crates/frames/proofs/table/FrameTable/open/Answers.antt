use Rattle.std.proofs.Common.{arith}
use Rattle.std.proofs.lemmas.Bool.Decides.{nat_tests}
use Rattle.frames.specs.Tables.{handed_out}
use Rattle.frames.specs.OpenFrames.{more_lawful}
use Rattle.frames.proofs.table.FrameTable.open.Goals as goal

pub invariant_of-self-clause-lawful : goal.invariant_of-self-clause-lawful
invariant_of-self-clause-lawful c f e = let counts = more_lawful (handed_out c.args.self.now) c.args.self.now.lawful f (rw c.push.ensures.items at e) in grind (arith, nat_tests, counts)
