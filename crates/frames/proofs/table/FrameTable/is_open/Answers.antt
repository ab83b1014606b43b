use Rattle.std.proofs.Common.{◌∙◌, ◌==◌, ◌||◌, refl, rules, tests}
use Rattle.std.specs.List.{list_any}
use Rattle.std.proofs.lemmas.Iterator.{YieldsList-from_slice}
use Rattle.std.proofs.lemmas.Iterator.Search.{any_from_yields_List}
use Rattle.std.proofs.lemmas.List.Recursion.{same_from_clauses}
use Rattle.model.specs.Frames.{is_open}
use Rattle.frames.proofs.table.FrameTable.is_open.Goals as goal

pub returns : goal.returns
returns c =
    let frames = c.args.self.now.frames.items in
    let frame = c.args.frame in
    let by_call = any_from_yields_List (λ o. frame == o.number) _ _ c.any.result c.any.ensures.ran (YieldsList-from_slice frames cc) (λ x b q k. search (rules, tests)) in
    by_call ∙ same_from_clauses (list_any (λ o. frame == o.number)) (is_open frame) (λ o b. (frame == o.number) || b) refl (λ _ _. refl) (λ _ _. refl) frames
