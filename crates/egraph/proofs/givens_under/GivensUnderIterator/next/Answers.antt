use Rattle.std.proofs.Common.{ap, arith, length}
use Rattle.egraph.proofs.GivensUnder.{back_more}
use Rattle.egraph.proofs.givens_under.GivensUnderIterator.next.Goals as goal

pub returns-clause-steps : goal.returns-clause-steps
returns-clause-steps c = let s = c.args.self.now in back_more s.rows.now s.older_named s.next c.in_ok-number.number c.in_ok-number.was s.next_filed

pub returns-clause-goes : goal.returns-clause-goes
returns-clause-goes c = let s = c.args.self.now in let more = ap length (back_more s.rows.now s.older_named s.next c.in_ok-number.number c.in_ok-number.was s.next_filed) in record { on = λ _. (tt, tt, omega arith); keeps = tt; rests = λ _. tt }
