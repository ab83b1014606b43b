use Rattle.std.proofs.Common.{ap, ◌∙◌}
use Rattle.model.specs.declared.items.Pair.{Pair}
use Rattle.model.specs.Refusals.{asked}
use Rattle.model.specs.Walks.{links}
use Rattle.egraph.specs.View.{given_list, size}
use Rattle.model.proofs.PathLaws.{walks_lawful}
use Rattle.egraph.proofs.PathAnswers.{found_some, pair_known, eq_answered}
use Rattle.egraph.proofs.egraph.EGraph.check_eq.Goals as goal

pub returns : goal.returns
returns g c =
    let laws = walks_lawful _ _ _ c.args.self.now.ends_filed in
    let pair : Pair = record { from = c.args.from; to = c.args.to } in
    let checks = c.in_ok-asked.ensures ∙ ap (asked pair) c.check_pair.ensures in
    let known = pair_known _ pair _ _ checks in
    let s = c.args.self.now in
    let next = links (g.R.FrameRule.means s.rule).counts (given_list s.records) in
    let found = found_some next (size s.records) pair c.get_simple_path.new.walks c.get_simple_path.result c.get_simple_path.ensures.found in
    record {
      outcome = eq_answered _ _ pair c.args.marks.now _ _ _ checks (c.is_some.ensures ∙ found ∙ laws.exists _ _ known.0 known.1) c.get_simple_path.ensures.marks;
      laws = laws;
    }
