-- What a call answered, by whether its checks passed. Assumes nothing.
use Rattle.std.proofs.Common.{◌≡◌, ℕ, ◌*◌, ◌<◌, ◌≤◌, Bool, true, false, List, [], ◌∷◌, length, Some, Ok, Err, Option, Result, sym, refl, ap, ◌∙◌, arith}
use Rattle.std.proofs.lemmas.Bool.{leb-true, le-leb, lt-ltb}
use Rattle.model.specs.declared.items.Pair.{Pair}
use Rattle.model.specs.declared.items.Step.{Step}
use Rattle.model.specs.declared.items.RootWalk.{RootWalk}
use Rattle.model.specs.Refusals.{Refusal, asked}
use Rattle.model.specs.Checks.{Check, require, unless_refused}
use Rattle.model.specs.Walks.{Links, root_walk}
use Rattle.model.specs.Paths.{path}
use Rattle.model.specs.WalkCalls.{long_enough, cleared, placed, told_walk, walk_checks, path_to_root, path_checks, told_path, path_call}
use Rattle.egraph.proofs.GivenChecks.{both_pass, first_known}

module _ {A S : Type 0} where
  -- an answer comes from checks that passed
  pub passes : (c : Check) (s : S) (o : Result A Refusal × S) (a : A) (t : S) → ◌≡◌ {A = Result A Refusal × S} (Ok a, t) (unless_refused c s o) → (c ≡ Ok tt) × (◌≡◌ {A = Result A Refusal × S} (Ok a, t) o)
  passes (Ok tt) s o a t h = (refl, h)
  passes (Err r) s o a t h = absurd (let e = ap (λ x. x.0) h in let z : ◌≡◌ {A = ℕ} 0 1 = cc in omega arith)

  -- a refusal is that of the checks, where there is an answer behind them
  pub declines : (c : Check) (s : S) (a : A) (u : S) (r : Refusal) (t : S) → ◌≡◌ {A = Result A Refusal × S} (Err r, t) (unless_refused c s (Ok a, u)) → c ≡ Err r
  declines (Ok tt) s a u r t h = absurd (let e = ap (λ x. x.0) h in let z : ◌≡◌ {A = ℕ} 0 1 = cc in omega arith)
  declines (Err e) s a u r t h = let q = ap (λ x. x.0) h in cc

asked_passes : (p : Pair) (c : Check) → asked p c ≡ Ok tt → c ≡ Ok tt
asked_passes p (Ok tt) h = refl
asked_passes p (Err r) h = absurd (let z : ◌≡◌ {A = ℕ} 0 1 = cc in omega arith)

required : (b : Bool) (r : Refusal) → require b r ≡ Ok tt → b ≡ true
required true r h = refl
required false r h = absurd (let z : ◌≡◌ {A = ℕ} 0 1 = cc in omega arith)

-- both enodes of a question are on the books, of which there are no more than mark bytes
pub record Known (size : ℕ) (p : Pair) (marks : ℕ) : Type 0 where
  pub few : size ≤ marks
  pub from_known : p.from < size
  pub to_known : p.to < size

pub question_known : (size : ℕ) (p : Pair) (marks walks steps : ℕ) → asked p (path_checks size p marks walks steps) ≡ Ok tt → (path_checks size p marks walks steps ≡ Ok tt) × Known size p marks
question_known size p marks walks steps h =
    let passed = asked_passes p (path_checks size p marks walks steps) h in
    let bytes = both_pass (long_enough size marks) _ tt (sym passed) in
    let places = both_pass (long_enough (2 * size) walks) _ tt bytes.1 in
    let room = both_pass (long_enough size steps) _ tt places.1 in
    let first = first_known size p.from (p.to ∷ []) (sym room.1) in (
      passed,
      record {
        few = leb-true _ _ (required _ _ bytes.0);
        from_known = first.0;
        to_known = (first_known size p.to [] first.1).0;
      },
    )

pub record PathTold (next : Links) (size : ℕ) (p : Pair) (out : List Step) (count : Option ℕ) (steps : List Step) : Type 0 where
  pub checks : path_checks size p 128 256 128 ≡ Ok tt
  pub known : Known size p 128
  pub is : ◌≡◌ {A = Option ℕ × List Step} (count, steps) (told_path (path next size p.from p.to) out)

-- what a question's path call answers with scratch for 128 enodes
module _ (next : Links) (size : ℕ) (p : Pair) (marks : List ℕ) (walks : ℕ) (out : List Step) (bytes : length marks ≡ 128) (places : walks ≡ 256) (rows : length out ≡ 128) where
  checks_at : path_checks size p (length marks) walks (length out) ≡ path_checks size p 128 256 128
  checks_at = λ i. path_checks size p (bytes i) (places i) (rows i)

  abbrev told : Option ℕ × List Step
  told = told_path (path next size p.from p.to) out

  pub path_answered : (count : Option ℕ) (after : List ℕ) (steps : List Step) → ◌≡◌ {A = Result (Option ℕ) Refusal × (List ℕ × List Step)} (Ok count, (after, steps)) (path_call next size p marks walks out) →
      PathTold next size p out count steps
  path_answered count after steps h =
      let c = path_checks size p (length marks) walks (length out) in
      let passed = passes (asked p c) (marks, out) (Ok told.0, (cleared marks, told.1)) count (after, steps) h in
      let k = question_known size p 128 256 128 (ap (asked p) (sym checks_at) ∙ passed.0) in
      let first = ap (λ x. x.0) passed.1 in
      let same : count ≡ told.0 = cc in
      record { checks = k.0; known = k.1; is = λ i. (same i, (passed.1 i).1.1) }

-- a walk with scratch enough between enodes on the books is not refused
pub walk_answered : (next : Links) (size e root : ℕ) (marks out : List ℕ) (r : Refusal) (t : List ℕ × List ℕ) → size ≤ length marks → size ≤ length out → e < size → root < size →
    ◌≡◌ {A = Result RootWalk Refusal × (List ℕ × List ℕ)} (Err r, t) (path_to_root next size e (Some root) marks out) → ⊥
walk_answered next size e root marks out r t bytes places low known h =
    let w = root_walk next size (Some root) e in
    let refused = declines (walk_checks size e (Some root) (length marks) (length out)) (marks, out) (told_walk w) (cleared marks, placed 0 w.enodes out) r t h in
    let passed : walk_checks size e (Some root) (length marks) (length out) ≡ Ok tt =
    simp (le-leb size (length marks) bytes, le-leb size (length out) places, lt-ltb e size low, lt-ltb root size known) refl in
    let z : ◌≡◌ {A = ℕ} 0 1 = cc in
    omega arith
