-- Standing entries that are kept, and that the chain taken has the fewest segments. Assumes nothing.
use Rattle.std.proofs.Common.{◌≡◌, ℕ, zero, suc, ◌+◌, ◌-◌, ◌<◌, ◌≤◌, ◌⊎◌, List, [], ◌∷◌, length, get_or, Some, None, sym, refl, ap, ◌∙◌, subst, inl, inr, arith}
use mathlib.Core.List.Memᴰ
use mathlib.Core.List.{Memᴰ}
use Rattle.std.proofs.lemmas.Bool.Decides.{nat_tests}
use Rattle.model.specs.declared.items.Step.{Step}
use Rattle.model.specs.Paths.{Path}
use Rattle.model.specs.Memory.{Segment, step, Entry, Memory, stands}
use Rattle.model.specs.Reading.{reads}
use Rattle.model.specs.Chains.{Edge, kept, best, first_chain, chains, chain}
use Rattle.model.specs.RunLaws.{OpenChain, ends, by_step, by_standing}
use Rattle.model.proofs.ChainSteps.{kept_cases, first_is}

-- an edge from a look at place i rises, and has that place at one end
pub kept_rises : (es : List Entry) (ss : List Step) (i j n : ℕ) (d : Edge) → kept (reads es) ss i j n ≡ Some d → (d.from < d.to) × ((d.from ≡ i) ⊎ (d.to ≡ i))
kept_rises es ss i j n d h = elim (kept_cases es ss i j n d h) [
  | inl (lt, _, is) ↦ rw is (lt, inl refl)
  | inr (lt, _, is) ↦ rw is (lt, inr refl)
]

best_least : (i : ℕ) (later : List (List Segment)) (so_far : List Segment) (ds : List Edge) →
    (length (best i later so_far ds) ≤ length so_far)
    × ((d : Edge) → Memᴰ d ds → d.from ≡ i → length (best i later so_far ds) ≤ suc (length (get_or later (d.to - suc i) [])))
best_least i later so_far [] = (omega arith, λ d m e. absurd (Memᴰ.not-nil m))
best_least i later so_far (x ∷ ds) =
    let ih = best_least i later so_far ds in
    let most : length (best i later so_far (x ∷ ds)) ≤ length (best i later so_far ds) = grind (arith, nat_tests) in
    let here : x.from ≡ i → length (best i later so_far (x ∷ ds)) ≤ suc (length (get_or later (x.to - suc i) [])) = λ e. grind (arith, nat_tests) in (
      omega (arith, ih.0),
      λ d m e. elim (Memᴰ.cases_cons m) [
        | inl q ↦ subst (λ (y : Edge). y.from ≡ i → length (best i later so_far (x ∷ ds)) ≤ suc (length (get_or later (y.to - suc i) []))) (sym q) here e
        | inr q ↦ omega (arith, ih.1 d q e)
      ],
    )

-- an open chain over some steps has a segment
pub open_some : (m : Memory) (way : Path) (cs : List Segment) → 0 < length way.steps → OpenChain m way 0 cs → 1 ≤ length cs
open_some m way cs lt (ends e) = absurd (omega arith)
open_some m way cs lt (by_step s l is rest) = omega arith
open_some m way cs lt (by_standing a b n d la lb st ke e rest) = omega arith

module _ (m : Memory) (way : Path) where
  -- entry n stands between two places of the path, and a look would keep it as the edge d
  pub record Keepable (a b n : ℕ) (d : Edge) : Type 0 where
    pub first : a ≤ length way.steps
    pub second : b ≤ length way.steps
    pub standing : stands m.standing (get_or way.enodes a 0) (get_or way.enodes b 0) ≡ Some n
    pub is_kept : kept (reads m.entries) way.steps a b n ≡ Some d

  -- among these edges are all that a look would keep
  abbrev pub HasAll : List Edge → Type 0
  HasAll ds = (a b n : ℕ) (d : Edge) → Keepable a b n d → Memᴰ d ds

  module _ (ds : List Edge) (has : HasAll ds) where
    -- the chain at place i, from what holds of the places after it
    best_chain : (i : ℕ) (s : Step) (later : List (List Segment)) → i < length way.steps →
        ((k j : ℕ) (cs : List Segment) → j ≡ suc i + k → OpenChain m way j cs → length (get_or later k []) ≤ length cs) →
        (j : ℕ) (cs : List Segment) → j ≡ i → OpenChain m way j cs → length (best i later (step s None ∷ first_chain later) ds) ≤ length cs
    best_chain i s later lt ih j cs at (ends e) = absurd (omega arith)
    best_chain i s later lt ih j cs at (by_step {ss = more} t l is rest) =
        omega (arith, ih 0 (j + 1) more (omega arith) rest, (best_least i later (step s None ∷ first_chain later) ds).0, ap length (first_is later))
    best_chain i s later lt ih j cs at (by_standing {ss = more} a b n d la lb st ke e rest) =
        let rises = (kept_rises m.entries way.steps a b n d ke).0 in
        let mem = has a b n d (record { first = la; second = lb; standing = st; is_kept = ke }) in
        omega (arith, ih (d.to - suc i) d.to more (omega arith) rest, (best_least i later (step s None ∷ first_chain later) ds).1 d mem (e ∙ at))

    chains_least : (i : ℕ) (rest : List Step) → i + length rest ≡ length way.steps →
        (k j : ℕ) (cs : List Segment) → j ≡ i + k → OpenChain m way j cs → length (get_or (chains ds i rest) k []) ≤ length cs
    chains_least i [] at zero j cs q h = omega arith
    chains_least i [] at (suc k) j cs q h = omega arith
    chains_least i (s ∷ rest) at zero j cs q h =
        best_chain i s (chains ds (suc i) rest) (omega arith) (λ k n more e g. chains_least (suc i) rest (omega arith) k n more e g) j cs (omega arith) h
    chains_least i (s ∷ rest) at (suc k) j cs q h = chains_least (suc i) rest (omega arith) k j cs (omega arith) h

    -- no open chain has fewer segments than the one taken over all the edges
    pub chain_least : (cs : List Segment) → OpenChain m way 0 cs → length (chain ds way.steps) ≤ length cs
    chain_least cs h = rw first_is (chains_least 0 way.steps (omega arith) 0 0 cs (omega arith) h)
