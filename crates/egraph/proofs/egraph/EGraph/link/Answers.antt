use Rattle.std.proofs.Common.{◌≡◌, rules, sym, ap, ◌∙◌}
use Rattle.std.specs.Option.{option_map}
use Rattle.std.proofs.lemmas.Iterator.Adapters.{option_map_id}
use borrow.Author.Tests.{tests}
use Rattle.egraph.specs.GivensUnder.{givens_back}
use Rattle.std.proofs.lemmas.Iterator.Consumers.{YieldsList-from_first}
use Rattle.std.proofs.lemmas.Iterator.Search.{find_from_yields_List}
use Rattle.egraph.proofs.GivensUnder.{link_of, link_found}
use Rattle.egraph.proofs.egraph.EGraph.link.Goals as goal

pub returns : goal.returns
returns g c =
    let s = c.args.self.now in
    let found = find_from_yields_List (λ p. (g.R.FrameRule.means s.rule).counts p.1.frame) c.find.new.self _ c.find.result c.find.ensures.ran (YieldsList-from_first (λ x. x) (λ i. givens_back i.rows.now i.next) _ c.givens_under.ensures) (λ x b q k. search (rules, tests)) in
    let mapped : c.map.result ≡ option_map link_of c.find.result = search rules in
    mapped ∙ ap (option_map link_of) (sym (option_map_id c.find.result) ∙ found) ∙ link_found s.records (g.R.FrameRule.means s.rule).counts c.args.enode
