-- What the calls on paths answer. Assumes nothing.
use Rattle.std.proofs.Common.{◌≡◌, ℕ, ◌*◌, ◌<◌, Bool, List, [], ◌∷◌, length, is_some, Some, None, Ok, Err, Option, Result, sym, refl, ap, ◌∙◌, arith, MatchOption}
use Rattle.model.specs.declared.items.Pair.{Pair}
use Rattle.model.specs.declared.items.Step.{Step}
use Rattle.model.specs.Refusals.{Refusal, asked}
use Rattle.model.specs.Checks.{Check, all_known, unless_refused}
use Rattle.model.specs.Walks.{Links, check_eq}
use Rattle.model.specs.WalkCalls.{cleared, long_enough, pair_checks, check_eq_call, path_checks, path_call, told_path}
use Rattle.model.specs.Paths.{path}
use Rattle.egraph.specs.declared.simple_path.SimplePath.{SimplePath}
use Rattle.egraph.specs.SimplePath.{FoundPath}
use Rattle.egraph.proofs.GivenChecks.{both_pass, first_known}

module _ (next : Links) (size : ℕ) (p : Pair) (walks : List ℕ) where
  -- a path is found where there is one
  pub found_some : (o : Option SimplePath) → MatchOption o (path next size p.from p.to ≡ None) (FoundPath next size p walks) → is_some o ≡ is_some (path next size p.from p.to)
  found_some None h = ap is_some (sym h)
  found_some (Some s) h = ap is_some (sym h.is)

-- a question that is not refused passed its checks
asked_passes : (p : Pair) (c : Check) → Ok tt ≡ asked p c → Ok tt ≡ c
asked_passes p (Ok tt) h = refl
asked_passes p (Err r) h = absurd (let z : ◌≡◌ {A = ℕ} 0 1 = cc in omega arith)

ends_known : (size : ℕ) (p : Pair) → Ok tt ≡ all_known size (p.from ∷ p.to ∷ []) → (p.from < size) × (p.to < size)
ends_known size p h =
    let first = first_known size p.from (p.to ∷ []) (sym h) in
    (first.0, (first_known size p.to [] first.1).0)

pub pair_known : (size : ℕ) (p : Pair) (marks walks : ℕ) → Ok tt ≡ asked p (pair_checks size p marks walks) → (p.from < size) × (p.to < size)
pair_known size p marks walks h =
    let bytes = both_pass (long_enough size marks) _ tt (asked_passes p _ h) in
    let places = both_pass (long_enough (2 * size) walks) _ tt bytes.1 in
    ends_known size p places.1

pub eq_answered : (next : Links) (size : ℕ) (p : Pair) (marks : List ℕ) (walks : ℕ) (b : Bool) (after : List ℕ) → Ok tt ≡ asked p (pair_checks size p (length marks) walks) →
    b ≡ check_eq next size p.from p.to → after ≡ cleared marks → ◌≡◌ {A = Result Bool Refusal × List ℕ} (Ok b, after) (check_eq_call next size p marks walks)
eq_answered next size p marks walks b after checks same clear =
    (λ i. (Ok (same i), clear i)) ∙ ap (λ c. unless_refused c marks (Ok (check_eq next size p.from p.to), cleared marks)) checks

pub path_answered : (next : Links) (size : ℕ) (p : Pair) (marks : List ℕ) (walks : ℕ) (out : List Step) (count : Option ℕ) (after : List ℕ) (steps : List Step) → Ok tt ≡ asked p (path_checks size p (length marks) walks (length out)) →
    after ≡ cleared marks → ◌≡◌ {A = Option ℕ × List Step} (count, steps) (told_path (path next size p.from p.to) out) → ◌≡◌ {A = Result (Option ℕ) Refusal × (List ℕ × List Step)} (Ok count, (after, steps)) (path_call next size p marks walks out)
path_answered next size p marks walks out count after steps checks clear told =
    let o = told_path (path next size p.from p.to) out in
    (λ i. (Ok (told i).0, (clear i, (told i).1))) ∙ ap (λ c. unless_refused c (marks, out) (Ok o.0, (cleared marks, o.1))) checks
