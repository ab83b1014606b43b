-- The newest given that passes a test, and the link that it makes. Assumes nothing.
use Rattle.std.proofs.Common.{◌≡◌, ℕ, zero, suc, ◌<◌, ◌≤◌, Bool, true, false, cond, List, [], ◌∷◌, ◌++◌, length, Some, None, sym, refl, ap, inl, inr, arith}
use Rattle.std.proofs.lemmas.List.{get_or_append_left, get_or_push}
use Rattle.std.proofs.lemmas.Bool.{cases_Bool, cases_eq}
use Rattle.std.proofs.lemmas.Bool.Decides.{nat_tests}
use Rattle.model.specs.declared.items.Link.{Link}
use Rattle.model.specs.Records.{Given, no_given, given_at, newest}
use Rattle.model.specs.Walks.{links, counting}
use Rattle.model.specs.PathLaws.{EndsKnown}

module _ (test : Given → Bool) (gs : List Given) where
  -- given number k passes, and none from k to n does after it
  pub record Newest (n k : ℕ) : Type 0 where
    pub below : k < n
    pub passes : test (given_at gs k) ≡ true
    pub newer_fail : (j : ℕ) → k < j → j < n → test (given_at gs j) ≡ false

  pub newest_found : (n k : ℕ) → newest test gs n ≡ Some k → Newest n k
  newest_found zero k h = absurd (cc)
  newest_found (suc n) k h = elim (cases_Bool (test (given_at gs n))) [
    | inl e ↦
        let found : Some n ≡ Some k = rw e at h in
        let same : n ≡ k = cc in
        record { below = omega arith; passes = rw (← same) e; newer_fail = λ j low high. absurd (omega arith) }
    | inr e ↦
        let more = newest_found n k (rw e at h) in
        record {
          below = omega (arith, more.below);
          passes = more.passes;
          newer_fail = λ j low high. elim (cases_eq j n) [ inl s ↦ rw s e | inr ne ↦ more.newer_fail j low (omega arith) ];
        }
  ]

  pub newest_none : (n : ℕ) → newest test gs n ≡ None → (j : ℕ) → j < n → test (given_at gs j) ≡ false
  newest_none zero h j lt = absurd (omega arith)
  newest_none (suc n) h j lt = grind (arith, newest_none n)

  -- below a number from which on none passes, nothing is missed
  pub newest_skip : (n k : ℕ) → k ≤ n → ((j : ℕ) → k ≤ j → j < n → test (given_at gs j) ≡ false) → newest test gs n ≡ newest test gs k
  newest_skip zero k le fail = let none : k ≡ 0 = omega arith in ap (newest test gs) (sym none)
  newest_skip (suc n) k le fail = elim (cases_eq k (suc n)) [
    | inl e ↦ ap (newest test gs) (sym e)
    | inr ne ↦
        let here : test (given_at gs n) ≡ false = fail n (omega arith) (omega arith) in
        rw here (newest_skip n k (omega arith) (λ j low high. fail j low (omega arith)))
  ]

-- givens that are logged later change nothing below
pub newest_append : (test : Given → Bool) (gs hs : List Given) (n : ℕ) → n ≤ length gs → newest test (gs ++ hs) n ≡ newest test gs n
newest_append test gs hs zero le = refl
newest_append test gs hs (suc n) le =
    let same : given_at (gs ++ hs) n ≡ given_at gs n = get_or_append_left gs hs no_given n (omega arith) in
    rw (same, newest_append test gs hs n (omega arith))

pub newest_push : (test : Given → Bool) (gs : List Given) (g : Given) → newest test (gs ++ (g ∷ [])) (suc (length gs)) ≡ cond (test g) (Some (length gs)) (newest test gs (length gs))
newest_push test gs g =
    let last : given_at (gs ++ (g ∷ [])) (length gs) ≡ g = get_or_push gs g no_given (length gs) refl in
    rw (last, newest_append test gs (g ∷ []) (length gs) (omega arith))

-- tests that agree on the first n givens find the same one
pub newest_same : (test test' : Given → Bool) (gs : List Given) (n : ℕ) → ((j : ℕ) → j < n → test (given_at gs j) ≡ test' (given_at gs j)) → newest test gs n ≡ newest test' gs n
newest_same test test' gs zero same = refl
newest_same test test' gs (suc n) same = rw (same n (omega arith), newest_same test test' gs n (λ j lt. same j (omega arith)))

-- the given that a link follows is on file, begins at the enode and leads to the link's end
pub record Linked (gs : List Given) (e : ℕ) (l : Link) : Type 0 where
  pub on_file : l.given < length gs
  pub begins : (given_at gs l.given).from ≡ e
  pub leads_to : (given_at gs l.given).to ≡ l.to

module _ (counts : ℕ → Bool) (gs : List Given) (e : ℕ) (l : Link) (is : links counts gs e ≡ Some l) where
  parts : (newest (counting counts e) gs (length gs) ≡ Some l.given) × ((given_at gs l.given).to ≡ l.to)
  parts = grind arith

  -- a link follows the newest given of its enode whose frame counts
  pub link_newest : Newest (counting counts e) gs (length gs) l.given
  link_newest = newest_found (counting counts e) gs (length gs) l.given parts.0

  pub linked : Linked gs e l
  linked = let passes = link_newest.passes in record { on_file = link_newest.below; begins = grind (arith, nat_tests); leads_to = parts.1 }

  pub link_within : (size : ℕ) → EndsKnown gs size → l.to < size
  link_within size known = rw linked.leads_to at (known l.given linked.on_file).1
