-- A rule under which the open frames count, and so does the one that was closed last.
use Rattle.std.proofs.Common.{◌≡◌, ℕ, ◌+◌, ◌-◌, ◌≤◌, Bool, false, not, ◌&&◌, ◌||◌, ◌==◌, nat_lt, [], ◌∷◌, ◌++◌, length, Ok, Err, Result, sym, ap, ◌∙◌, inl, inr, arith}
use mathlib.Core.Path.{fun_ext}
use Rattle.std.proofs.lemmas.Bool.Decides.{nat_tests}
use Rattle.std.proofs.lemmas.List.{take_more, take_all}
use Rattle.std.proofs.lemmas.Bool.{cases_Bool}
use Rattle.model.specs.Refusals.{Refusal, only_base}
use Rattle.model.specs.Frames.{Frames, no_frame, is_open, before_current, current, opened_more, counted_more, closed, close_frame}
use Rattle.frames.specs.Counting.{open_also}
use Rattle.frames.specs.OpenFrames.{open_push, open_counted}

-- at a closing the frame closed before leaves
abbrev pub not_open : Frames → ℕ → Bool
not_open m f = not (is_open f m.opened)

module _ (last : ℕ) (m : Frames) where
  pub also_opens : (f : ℕ) → (open_also last (opened_more m)).counts f ≡ ((open_also last m).counts f || f == m.next)
  also_opens f = let p = open_push f m.opened (record { number = m.next; count = 0 }) in grind (arith, nat_tests)

  pub also_logs : (f : ℕ) → (open_also last (counted_more m)).counts f ≡ (open_also last m).counts f
  also_logs f = ap (λ b. b || f == last) (open_counted f m.opened)

  pub closing_also : 1 ≤ length m.opened → (x : ℕ) (n : Frames) → (Ok x, n) ≡ close_frame (λ _. false) m → (Ok x, open_also (current m.opened).number n) ≡ close_frame (not_open m) (open_also last m)
  closing_also h x n e = elim (cases_Bool (nat_lt 1 (length m.opened))) [
    | inl q ↦
        let p : ◌≡◌ {A = Result ℕ Refusal × Frames} (Ok x, n) (Ok (current m.opened).count, closed (λ _. false) m) = e ∙ rw q in
        ap (λ o. (o.0, open_also (current m.opened).number o.1)) p ∙ rw (q, fun_ext stays)
    | inr q ↦ let z : ◌≡◌ {A = Result ℕ Refusal} (Ok x) (Err only_base) = ap (λ o. o.0) e ∙ rw q in absurd (let y : ◌≡◌ {A = ℕ} 0 1 = cc in omega arith)
  ]
    where
      all_of : m.opened ≡ before_current m.opened ++ (current m.opened ∷ [])
      all_of = sym (take_all (length m.opened - 1 + 1) m.opened (omega arith)) ∙ take_more m.opened (length m.opened - 1) no_frame (omega arith)

      drops : (a b : Bool) → a ≡ ((a || b) && not (not a))
      drops a b = grind (arith, nat_tests)

      stays : (f : ℕ) → (is_open f (before_current m.opened) || f == (current m.opened).number) ≡ ((is_open f m.opened || f == last) && not (not_open m f))
      stays f =
          let p : is_open f m.opened ≡ (is_open f (before_current m.opened) || f == (current m.opened).number) = ap (is_open f) all_of ∙ open_push f (before_current m.opened) (current m.opened) in
          sym p ∙ drops (is_open f m.opened) (f == last)
