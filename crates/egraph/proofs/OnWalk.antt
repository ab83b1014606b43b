-- A root walk with mark bytes, enode by enode. Assumes nothing.
use Rattle.std.proofs.Common.{◌≡◌, ℕ, ◌+◌, ◌<◌, ◌≤◌, Bool, true, false, cond, eqb, List, [], ◌∷◌, ◌++◌, length, get_or, set, replicate, Some, None, Option, sym, refl, ap, ◌∙◌, inl, inr, zero-add, arith}
use Rattle.std.specs.Option.{option_eq}
use Rattle.std.proofs.lemmas.List.{get_or-set_same, get_or-set_other, length_push, get_or-replicate}
use Rattle.std.proofs.lemmas.Bool.{cases_Bool, cases_eq}
use Rattle.std.proofs.lemmas.Bool.Decides.{nat_tests}
use Rattle.model.specs.declared.items.Link.{Link}
use Rattle.model.specs.Walks.{Links, Walk, met, is_root, root_walk}
use Rattle.model.proofs.Members.{met_append, distinct_short}
use Rattle.model.proofs.Walks.{walk_begins, walk_short}
use Rattle.model.proofs.Resuming.{resume, Partway, partway_start, partway_more, resume_start, resume_again, resume_stops, resume_ends, resume_goes_on}
use Rattle.model.specs.declared.items.RootWalk.{RootWalk}
use Rattle.model.specs.WalkCalls.{placed, told_walk}
use Rattle.egraph.proofs.Places.{placed_none, placed_push}

pub told_root : (root : Option ℕ) (e : ℕ) → is_root root e ≡ option_eq eqb root (Some e)
told_root None e = refl
told_root (Some r) e = refl

abbrev pub mark : Bool → ℕ
mark b = cond b 1 0

-- the walk from `from` has come to `at`: what it met is marked, and written from the first place on
pub record OnWalk (next : Links) (root : Option ℕ) (size from : ℕ) (before : List ℕ) (marks out : List ℕ) (len at : ℕ) : Type 0 where
  pub done : List ℕ
  pub partway : Partway size done
  pub whole : root_walk next size root from ≡ resume next root size done at
  pub long : length done ≡ len
  pub here : at < size
  pub marked : (x : ℕ) → x < size → get_or marks x 0 ≡ mark (met x done)
  pub written : out ≡ placed 0 done before

-- it ends with these enodes
pub record Ended (next : Links) (root : Option ℕ) (size from : ℕ) (before out : List ℕ) (r : RootWalk) : Type 0 where
  pub answer : r ≡ told_walk (root_walk next size root from)
  pub places : out ≡ placed 0 (root_walk next size root from).enodes before
  pub bounds : (1 ≤ r.len) × (r.len ≤ size)

module _ (next : Links) (root : Option ℕ) (size from : ℕ) (before : List ℕ) where
  pub walk_start : (n : ℕ) (marks : List ℕ) → marks ≡ replicate n 0 → size ≤ n → from < size → OnWalk next root size from before marks before 0 from
  walk_start n marks clear fits low = record {
    done = [];
    partway = partway_start size;
    whole = sym (resume_start next root size from);
    long = refl;
    here = low;
    marked = λ x lt. ap (λ ms. get_or ms x 0) clear ∙ get_or-replicate n x 0 0 (omega arith);
    written = sym (placed_none 0 before);
  }

  ended : from < size → (out : List ℕ) (r : RootWalk) (w : Walk) → root_walk next size root from ≡ w → r ≡ told_walk w → out ≡ placed 0 w.enodes before → Ended next root size from before out r
  ended low out r w e a b =
      let answer : r ≡ told_walk (root_walk next size root from) = a ∙ ap told_walk (sym e) in
      let first = walk_begins next root size from low in
      let long : r.len ≡ length (root_walk next size root from).enodes = ap (λ x. x.len) answer in
      record {
        answer = answer;
        places = b ∙ ap (λ x. placed 0 x.enodes before) (sym e);
        bounds = (omega (arith, long, ap length first.1), omega (arith, long, walk_short next root size [] from));
      }

  module _ (low : from < size) (marks out : List ℕ) (len at : ℕ) (w : OnWalk next root size from before marks out len at) where
    -- met again
    seen : met at w.done ≡ true → Ended next root size from before out (record { tells = Some at; len = len })
    seen h = ended low out _ _ (w.whole ∙ resume_again next root size w.done at h) (ap (λ n. record { tells = Some at; len = n }) (sym w.long)) w.written

    pub walk_again : (get_or marks at 0 ≡ 0 → ⊥) → Ended next root size from before out (record { tells = Some at; len = len })
    walk_again h = let m = w.marked at w.here in seen (elim (cases_Bool (met at w.done)) [ inl e ↦ e | inr e ↦ absurd (h (m ∙ ap mark e)) ])

    module _ (new : get_or marks at 0 ≡ 0) (fits : size ≤ length before) (room : size ≤ length marks) where
      fresh : met at w.done ≡ false
      fresh = let m = w.marked at w.here in elim (cases_Bool (met at w.done)) [ inl e ↦ absurd (let z : ◌≡◌ {A = ℕ} 0 1 = sym new ∙ m ∙ ap mark e in omega arith) | inr e ↦ e ]

      more : Partway size (w.done ++ (at ∷ []))
      more = partway_more size w.done at w.partway w.here fresh

      more_long : length (w.done ++ (at ∷ [])) ≡ len + 1
      more_long = length_push w.done at ∙ ap (λ n. n + 1) w.long

      written_more : set out len at ≡ placed 0 (w.done ++ (at ∷ [])) before
      written_more =
          let short : length (w.done ++ (at ∷ [])) ≤ size = distinct_short size (w.done ++ (at ∷ [])) more.distinct more.below in
          let low : 0 + length w.done < length before = omega (arith, w.long, more_long) in
          ap (λ n. set out n at) (sym (zero-add (length w.done) ∙ w.long)) ∙ ap (λ r. set r (0 + length w.done) at) w.written ∙ placed_push 0 w.done before at low

      pub walk_stops : is_root root at ≡ true → Ended next root size from before (set out len at) (record { tells = Some at; len = len + 1 })
      walk_stops h = ended low _ _ _ (w.whole ∙ resume_stops next root size w.done at w.partway w.here fresh h) (ap (λ n. record { tells = Some at; len = n }) (sym more_long)) written_more

      pub walk_ends : is_root root at ≡ false → next at ≡ None → Ended next root size from before (set out len at) (record { tells = None; len = len + 1 })
      walk_ends h k = ended low _ _ _ (w.whole ∙ resume_ends next root size w.done at w.partway w.here fresh h k) (ap (λ n. record { tells = None; len = n }) (sym more_long)) written_more

      pub walk_on : is_root root at ≡ false → (l : Link) → next at ≡ Some l → l.to < size → OnWalk next root size from before (set marks at 1) (set out len at) (len + 1) l.to
      walk_on h l k there = record {
        done = w.done ++ (at ∷ []);
        partway = more;
        whole = w.whole ∙ resume_goes_on next root size w.done at w.partway w.here fresh l h k;
        long = more_long;
        here = there;
        marked = λ x lt. elim (cases_eq x at) [
          | inl same ↦ let m = met_append at w.done (at ∷ []) in let yes : met at (w.done ++ (at ∷ [])) ≡ true = grind (arith, nat_tests, m) in rw (same, get_or-set_same marks at 1 0 (omega (arith, w.here)), yes)
          | inr other ↦ let m = met_append x w.done (at ∷ []) in let same : met x (w.done ++ (at ∷ [])) ≡ met x w.done = grind (arith, nat_tests, m) in rw (get_or-set_other marks at x 1 0 other, same) (w.marked x lt)
        ];
        written = written_more;
      }
