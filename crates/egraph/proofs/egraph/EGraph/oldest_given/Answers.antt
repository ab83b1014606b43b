use Rattle.std.proofs.Common.{◌≡◌, length, None, rules, sym, ap, ◌∙◌, eqb}
use Rattle.std.specs.List.{last_or}
use Rattle.std.specs.Option.{option_map}
use Rattle.std.proofs.lemmas.List.{map-id}
use Rattle.egraph.specs.Table.{listed}
use borrow.Author.Tests.{tests}
use Rattle.std.proofs.lemmas.Iterator.{items_from_drains}
use Rattle.std.proofs.lemmas.Iterator.Consumers.{YieldsList-from_first, YieldsList-from_filter, YieldsList-at}
use Rattle.egraph.specs.GivensUnder.{newest_first, givens_back}
use Rattle.egraph.proofs.GivensUnder.{number, leading, oldest_found}
use Rattle.egraph.proofs.egraph.EGraph.oldest_given.Goals as goal

pub returns : goal.returns
returns g c =
    let s = c.args.self.now in
    let all = items_from_drains c.last.ensures.ran.0 (c.last.ensures.ran.1.1.0, c.last.ensures.ran.1.1.1, λ _. (c.last.ensures.ran.1.0, c.last.ensures.ran.1.1.2)) (YieldsList-from_filter _ (λ p. eqb p.1.to c.args.pair.to) (YieldsList-at c.filter.ensures.source (YieldsList-from_first (λ x. x) (λ i. givens_back i.rows.now i.next) _ c.givens_under.ensures)) c.filter.ensures.closure (λ x r q k. search (rules, tests))) in
    let mapped : c.map.result ≡ option_map number c.last.result = search rules in
    let left : c.last.ensures.ran.0 ≡ leading s.records c.args.pair.from c.args.pair.to (newest_first c.args.pair.from (listed s.records.givens) (length (listed s.records.givens))) = sym (map-id c.last.ensures.ran.0) ∙ all in
    mapped ∙ ap (option_map number) (c.last.ensures.ran.2 ∙ ap (last_or None) left) ∙ oldest_found s.records c.args.pair.from c.args.pair.to
