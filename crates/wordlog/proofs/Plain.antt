-- Plain words by test and by fact, and of two lists in a row.
use Rattle.std.proofs.Common.{◌≡◌, ℕ, true, List, [], ◌∷◌, ◌++◌, sym, refl, ◌∙◌}
use Rattle.std.proofs.lemmas.Bool.{ltb-true, lt-ltb, and_parts, and_from}
use Rattle.std.proofs.lemmas.List.Folds.{list_all-append}
use Rattle.model.specs.Format.{AllPlain}
use Rattle.wordlog.specs.Reading.{plain, all_plain}

pub plain_fact : (ws : List ℕ) → all_plain ws ≡ true → AllPlain ws
plain_fact [] e = tt
plain_fact (w ∷ ws) e = let both = and_parts _ _ e in (ltb-true w _ both.0, plain_fact ws both.1)

pub plain_test : (ws : List ℕ) → AllPlain ws → all_plain ws ≡ true
plain_test [] p = refl
plain_test (w ∷ ws) p = and_from _ _ (lt-ltb w _ p.0) (plain_test ws p.1)

pub plain_both : (xs ys : List ℕ) → all_plain xs ≡ true → all_plain ys ≡ true → AllPlain (xs ++ ys)
plain_both xs ys p q = plain_fact (xs ++ ys) (list_all-append plain xs ys ∙ and_from _ _ p q)

pub plain_parts : (xs ys : List ℕ) → AllPlain (xs ++ ys) → (all_plain xs ≡ true) × (all_plain ys ≡ true)
plain_parts xs ys p = and_parts _ _ (sym (list_all-append plain xs ys) ∙ plain_test (xs ++ ys) p)
