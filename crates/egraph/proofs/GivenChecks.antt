-- The checks of a given, by what the tables hold. Assumes nothing.
use Rattle.std.proofs.Common.{◌≡◌, ℕ, ◌+◌, ◌<◌, ◌≤◌, min, Bool, true, false, cond, eqb, ltb, leb, List, ◌∷◌, length, Ok, Err, Result, sym, refl, ap, ◌∙◌, arith}
use Rattle.std.proofs.lemmas.List.{length-map}
use Rattle.std.proofs.lemmas.Bool.{ltb-true, leb-true}
use Rattle.std.proofs.lemmas.Bool.Decides.{nat_tests}
use Rattle.model.specs.Records.{Kind, args_of, arg_count}
use Rattle.model.specs.Frames.{Frames}
use Rattle.model.specs.Refusals.{Refusal, not_first_end, unknown_enode, full}
use Rattle.model.specs.declared.error.TableName.TheVariants.{Givens, Arguments}
use Rattle.model.specs.Checks.{Check, require, and_then, all_known}
use Rattle.model.specs.Logging.{given_checks, pair_ends}
use Rattle.egraph.specs.declared.records.Records.{Records}
use Rattle.egraph.specs.Table.{listed, places}
use Rattle.egraph.specs.Records.{enode_of, given_of}
use Rattle.egraph.specs.View.{case_of, given_list, size, ArgumentsFiled, room_checks}

pub below_is_room : (a b : ℕ) → ltb a b ≡ leb (a + 1) b
below_is_room a b = grind (arith, nat_tests)

pub checks_filed : (m : Frames) (t : Records) → ArgumentsFiled t → (under from to : ℕ) (kind : Kind) →
    given_checks under from to kind (case_of m t)
    ≡ and_then (all_known (size t) (under ∷ from ∷ to ∷ pair_ends (args_of kind))) (and_then (require (eqb under from) (not_first_end under)) (room_checks t (length (args_of kind))))
checks_filed m t filed under from to kind =
    let room : ltb (length (given_list t)) (min 65536 (places t.givens)) ≡ leb (length (listed t.givens) + 1) (min 65536 (places t.givens)) =
    below_is_room (length (given_list t)) (min 65536 (places t.givens)) ∙ ap (λ n. leb (n + 1) (min 65536 (places t.givens))) (length-map (listed t.givens) (given_of (listed t.arguments))) in
    let checks : ℕ → Bool → ℕ → Check =
    λ n test k. and_then (all_known n (under ∷ from ∷ to ∷ pair_ends (args_of kind)))
    (and_then (require (eqb under from) (not_first_end under))
    (and_then (require test (full Givens)) (require (leb (k + length (args_of kind)) (min 131072 (places t.arguments))) (full Arguments)))) in
    ap (λ n. checks n (ltb (length (given_list t)) (min 65536 (places t.givens))) (arg_count (given_list t))) (length-map (listed t.enodes) enode_of)
    ∙ ap (λ b. checks (size t) b (arg_count (given_list t))) room
    ∙ ap (checks (size t) (leb (length (listed t.givens) + 1) (min 65536 (places t.givens)))) filed.1

-- what is known once all checks have passed
pub record Passed (t : Records) (from to : ℕ) (kind : Kind) : Type 0 where
  pub from_known : from < size t
  pub to_known : to < size t
  pub given_room : length (listed t.givens) + 1 ≤ min 65536 (places t.givens)
  pub argument_room : length (listed t.arguments) + length (args_of kind) ≤ min 131072 (places t.arguments)

pub both_pass : {A : Type 0} (c : Check) (r : Result A Refusal) (a : A) → Ok a ≡ and_then c r → (c ≡ Ok tt) × (Ok a ≡ r)
both_pass (Ok tt) r a h = (refl, h)
both_pass (Err e) r a h = absurd (let z : ◌≡◌ {A = ℕ} 0 1 = cc in omega arith)

pub required : (b : Bool) (r : Refusal) → require b r ≡ Ok tt → b ≡ true
required true r h = refl
required false r h = absurd (let z : ◌≡◌ {A = ℕ} 0 1 = cc in omega arith)

pub first_known : (size e : ℕ) (es : List ℕ) → all_known size (e ∷ es) ≡ Ok tt → (e < size) × (all_known size es ≡ Ok tt)
first_known size e es h = go (ltb e size) refl h
  where
    go : (b : Bool) → ltb e size ≡ b → cond b (all_known size es) (Err (unknown_enode e)) ≡ Ok tt → (e < size) × (all_known size es ≡ Ok tt)
    go true t k = (ltb-true e size t, k)
    go false t k = absurd (let z : ◌≡◌ {A = ℕ} 0 1 = cc in omega arith)

pub passed : (m : Frames) (t : Records) → ArgumentsFiled t → (under from to : ℕ) (kind : Kind) → Ok tt ≡ given_checks under from to kind (case_of m t) → Passed t from to kind
passed m t filed under from to kind h =
    let ends = both_pass (all_known (size t) (under ∷ from ∷ to ∷ pair_ends (args_of kind))) _ tt (h ∙ checks_filed m t filed under from to kind) in
    let first = both_pass (require (eqb under from) (not_first_end under)) _ tt ends.1 in
    let room = both_pass (require (leb (length (listed t.givens) + 1) (min 65536 (places t.givens))) (full Givens)) _ tt first.1 in
    let behind = first_known (size t) under (from ∷ to ∷ pair_ends (args_of kind)) ends.0 in
    let second = first_known (size t) from (to ∷ pair_ends (args_of kind)) behind.1 in
    record {
      from_known = second.0;
      to_known = (first_known (size t) to (pair_ends (args_of kind)) second.1).0;
      given_room = leb-true _ _ (required _ _ room.0);
      argument_room = leb-true _ _ (required _ _ (sym room.1));
    }
