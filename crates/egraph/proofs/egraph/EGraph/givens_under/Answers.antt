use Rattle.egraph.proofs.GivensUnder.{all_back, older_named, newest_filed}
use Rattle.egraph.proofs.egraph.EGraph.givens_under.Goals as goal

pub invariant_of-result : goal.invariant_of-result
invariant_of-result g c =
    let s = c.args.self.now in
    rw (c.filed.ensures, c.filed-2.ensures) (record { next_filed = newest_filed s.records s.in_lists c.args.enode c.requires; older_named = older_named s.records s.in_lists })

pub returns : goal.returns
returns g c =
    let s = c.args.self.now in
    rw (c.filed.ensures, c.filed-2.ensures) (all_back s.records s.in_lists c.args.enode c.requires)
