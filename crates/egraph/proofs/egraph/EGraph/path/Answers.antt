use Rattle.std.proofs.Common.{sym, ap, ◌∙◌}
use Rattle.model.specs.declared.items.Pair.{Pair}
use Rattle.model.specs.Refusals.{asked}
use Rattle.model.specs.WalkCalls.{told_path}
use Rattle.model.proofs.PathLaws.{walks_lawful}
use Rattle.egraph.proofs.PathAnswers.{path_answered}
use Rattle.egraph.proofs.egraph.EGraph.path.Goals as goal

pub returns-in_default : goal.returns-in_default
returns-in_default g c =
    let pair : Pair = record { from = c.args.from; to = c.args.to } in
    let checks = c.in_ok-asked.ensures ∙ ap (asked pair) c.check_path.ensures in
    record {
      outcome = path_answered _ _ pair c.args.marks.now _ c.args.steps.now _ _ _ checks c.get_simple_path.ensures.marks (ap (λ o. told_path o c.args.steps.now) (sym c.in_default.ensures.found));
      laws = walks_lawful _ _ _ c.args.self.now.ends_filed;
    }

pub returns : goal.returns
returns g c =
    let pair : Pair = record { from = c.args.from; to = c.args.to } in
    let checks = c.in_ok-asked.ensures ∙ ap (asked pair) c.check_path.ensures in
    record {
      outcome = path_answered _ _ pair c.args.marks.now _ c.args.steps.now _ _ _ checks c.get_simple_path.ensures.marks c.write_steps.ensures;
      laws = walks_lawful _ _ _ c.args.self.now.ends_filed;
    }
