-- A chain over kept entries reads as the path's steps. Assumes nothing.
use Rattle.std.proofs.Common.{◌≡◌, ℕ, zero, suc, ◌-◌, ◌<◌, ◌≤◌, Bool, true, false, ◌&&◌, eqb, leb, ◌⊎◌, List, [], ◌∷◌, ◌++◌, length, get_or, take, drop, Some, None, refl, ap, ◌∙◌, inl, inr, arith, take-append-drop, take_all}
use Rattle.std.proofs.lemmas.Bool.{and_parts, eqb-true}
use Rattle.std.proofs.lemmas.Bool.Decides.{nat_tests}
use Rattle.std.specs.List.{AllByRecursion as All}
use Rattle.model.specs.declared.items.Step.{Step}
use Rattle.model.specs.Records.{turned}
use Rattle.model.specs.Memory.{Segment, step, entry, mark, Entry, is_mark}
use Rattle.model.specs.Reading.{reads, segment_steps, segments_steps, same_steps, one_way}
use Rattle.model.specs.Chains.{Edge, stretch, kept, spans, best, chains, chain, first_chain}
use Rattle.model.proofs.Steps.{turned_turned}
use Rattle.model.proofs.Strikes.{same_step_eq}
use Rattle.model.proofs.Growth.{Longer, longer_reads}
use Rattle.model.proofs.PathPlaces.{drop_here}

pub same_steps_eq : (xs ys : List Step) → same_steps xs ys ≡ true → xs ≡ ys
same_steps_eq [] [] h = refl
same_steps_eq [] (y ∷ ys) h = cc
same_steps_eq (x ∷ xs) [] h = cc
same_steps_eq (x ∷ xs) (y ∷ ys) h = grind (arith, same_steps_eq xs ys, same_step_eq x y)

-- a step, or an entry on file: no chain has a mark
abbrev pub OnFile : ℕ → Segment → Type 0
OnFile n (step s u) = Unit {0}
OnFile n (entry m w) = m < n
OnFile n (mark e) = ⊥

pub no_mark : (n : ℕ) (segs : List Segment) → All (OnFile n) segs → is_mark segs ≡ false
no_mark n [] h = refl
no_mark n (step s u ∷ ss) h = refl
no_mark n (entry m w ∷ ss) h = refl
no_mark n (mark e ∷ ss) h = absurd h.0

-- entries on file read as before in a chain too
stable_one : {es more : List Entry} → Longer es more → (s : Segment) → OnFile (length es) s → segment_steps (reads more) s ≡ segment_steps (reads es) s
stable_one l (step s u) h = refl
stable_one l (entry n w) h = ap (one_way w) (longer_reads l n h)
stable_one l (mark e) h = refl

pub stable : {es more : List Entry} → Longer es more → (segs : List Segment) → All (OnFile (length es)) segs → segments_steps (reads more) segs ≡ segments_steps (reads es) segs
stable l [] h = refl
stable l (s ∷ segs) h = cc (stable_one l s h.0, stable l segs h.1)

pub first_is : (cs : List (List Segment)) → first_chain cs ≡ get_or cs 0 []
first_is [] = refl
first_is (c ∷ cs) = refl

module _ (es : List Entry) (ss : List Step) where
  -- an edge's segment reads as the stretch between its places
  pub record Good (d : Edge) : Type 0 where
    pub rises : d.from < d.to
    pub is : segment_steps (reads es) d.segment ≡ stretch ss d.from d.to
    pub filed : OnFile (length es) d.segment

  -- a standing entry is kept straight or turned
  abbrev Straight : ℕ → ℕ → ℕ → Edge → Type 0
  Straight i j n d = (i < j) × (reads es n ≡ stretch ss i j) × (d ≡ record { from = i; to = j; segment = entry n true })

  abbrev Turned : ℕ → ℕ → ℕ → Edge → Type 0
  Turned i j n d = (j < i) × (reads es n ≡ turned (stretch ss j i)) × (d ≡ record { from = j; to = i; segment = entry n false })

  pub kept_cases : (i j n : ℕ) (d : Edge) → kept (reads es) ss i j n ≡ Some d → Straight i j n d ⊎ Turned i j n d
  kept_cases i j n d h = grind (arith, nat_tests, same_steps_eq (reads es n) (stretch ss i j), same_steps_eq (reads es n) (turned (stretch ss j i)))

  pub kept_good : (i j n : ℕ) (d : Edge) → n < length es → kept (reads es) ss i j n ≡ Some d → Good d
  kept_good i j n d lt h = elim (kept_cases i j n d h) [
    | inl (l, r, e) ↦ rw e (record { rises = l; is = r; filed = lt })
    | inr (l, r, e) ↦ rw e (record { rises = l; is = ap turned r ∙ turned_turned (stretch ss j i); filed = lt })
  ]

  -- an entry kept from the first place that spans the path
  pub span_start : (j n : ℕ) (d : Edge) → kept (reads es) ss 0 j n ≡ Some d → spans (length ss) d ≡ true → reads es n ≡ ss
  span_start j n d h s = elim (kept_cases 0 j n d h) [
    | inl (l, r, e) ↦
        let t : j ≡ length ss = grind (arith, nat_tests) in
        let k : length ss ≤ j - 0 = omega arith in
        r ∙ take_all (j - 0) ss k
    | inr (l, r, e) ↦ absurd (omega arith)
  ]

  -- and from the last place
  pub span_end : (j n : ℕ) (d : Edge) → kept (reads es) ss (length ss) j n ≡ Some d → spans (length ss) d ≡ true → reads es n ≡ turned ss
  span_end j n d h s = elim (kept_cases (length ss) j n d h) [
    | inl (l, r, e) ↦
        let t : j ≡ length ss = grind (arith, nat_tests) in
        absurd (omega arith)
    | inr (l, r, e) ↦
        let t : j ≡ 0 = grind (arith, nat_tests) in
        let k : length ss ≤ length ss - j = omega arith in
        let q : stretch ss j (length ss) ≡ ss = ap (λ (x : ℕ). take (length ss - j) (drop x ss)) t ∙ take_all (length ss - j) ss k in
        r ∙ ap turned q
  ]

  -- segments that read as the steps
  pub record Says (segs : List Segment) (steps : List Step) : Type 0 where
    pub is : segments_steps (reads es) segs ≡ steps
    pub filed : All (OnFile (length es)) segs

  best_says : (i : ℕ) (s : Step) (rest : List Step) (later : List (List Segment)) → drop i ss ≡ s ∷ rest → ((k : ℕ) → Says (get_or later k []) (drop k rest)) →
      (so_far : List Segment) → Says so_far (s ∷ rest) → (ds : List Edge) → All Good ds → Says (best i later so_far ds) (s ∷ rest)
  best_says i s rest later at ih so_far h [] g = h
  best_says i s rest later at ih so_far h (d ∷ ds) g =
      go (eqb d.from i && leb (length (d.segment ∷ get_or later (d.to - suc i) [])) (length (best i later so_far ds))) refl
      (best_says i s rest later at ih so_far h ds g.1)
    where
      go : (b : Bool) → (eqb d.from i && leb (length (d.segment ∷ get_or later (d.to - suc i) [])) (length (best i later so_far ds))) ≡ b →
          Says (best i later so_far ds) (s ∷ rest) → Says (best i later so_far (d ∷ ds)) (s ∷ rest)
      go true e old =
          let gd = g.0 in
          let q = d.to - suc i in
          let f : d.from ≡ i = eqb-true d.from i (and_parts (eqb d.from i) _ e).0 in
          let m : d.to - d.from ≡ suc q = omega (arith, gd.rises) in
          let one : segment_steps (reads es) d.segment ≡ s ∷ take q rest =
          gd.is ∙ ap (λ k. take k (drop d.from ss)) m ∙ ap (λ k. take (suc q) (drop k ss)) f ∙ ap (take (suc q)) at in
          let all : segments_steps (reads es) (d.segment ∷ get_or later q []) ≡ s ∷ rest =
          ap (λ r. r ++ segments_steps (reads es) (get_or later q [])) one ∙ ap (λ r. (s ∷ take q rest) ++ r) (ih q).is ∙ ap (λ r. s ∷ r) (take-append-drop q rest) in
          rw (e, best) (record { is = all; filed = (gd.filed, (ih q).filed) })
      go false e old = rw (e, best) old

  says_none : Says [] []
  says_none = record { is = refl; filed = tt }

  chains_say : (ds : List Edge) → All Good ds → (i : ℕ) (rest : List Step) → drop i ss ≡ rest → (k : ℕ) → Says (get_or (chains ds i rest) k []) (drop k rest)
  chains_say ds g i [] at zero = says_none
  chains_say ds g i [] at (suc k) = says_none
  chains_say ds g i (s ∷ rest) at zero =
      let ih : (k : ℕ) → Says (get_or (chains ds (suc i) rest) k []) (drop k rest) = chains_say ds g (suc i) rest (drop_here i ss s s rest at).2 in
      let h : Says (first_chain (chains ds (suc i) rest)) rest = rw first_is (ih 0) in
      best_says i s rest (chains ds (suc i) rest) at ih (step s None ∷ first_chain (chains ds (suc i) rest)) (record { is = ap (λ r. s ∷ r) h.is; filed = (tt, h.filed) }) ds g
  chains_say ds g i (s ∷ rest) at (suc k) = chains_say ds g (suc i) rest (drop_here i ss s s rest at).2 k

  -- the chain taken reads as the path's steps
  pub chain_says : (ds : List Edge) → All Good ds → Says (chain ds ss) ss
  chain_says ds g = rw first_is (chains_say ds g 0 ss refl 0)
