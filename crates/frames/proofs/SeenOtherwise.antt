-- What a call comes to where another set of frames counts.
use Rattle.std.proofs.Common.{◌≡◌, ℕ, Bool, true, false, cond, not, ◌&&◌, ◌||◌, ◌==◌, nat_lt, length, Result, ap, ◌∙◌}
use mathlib.Core.Path.{fun_ext}
use Rattle.model.specs.Refusals.{Refusal}
use Rattle.model.specs.Frames.{Frames, current, opened_more, counted_more, closed, open_frame, log_frame, close_frame}
use Rattle.frames.specs.Counting.{counting}

abbrev Outcome : Type 0
Outcome = Result ℕ Refusal × Frames

-- a call is granted with other frames, or refused with the same
either_way : (view : Frames → Frames) (test : Bool) (a e : Result ℕ Refusal) (m n p : Frames) → view n ≡ p → (r : Result ℕ Refusal) (u : Frames) → ◌≡◌ {A = Outcome} (r, u) (cond test (a, n) (e, m)) → ◌≡◌ {A = Outcome} (r, view u) (cond test (a, p) (e, view m))
either_way view true a e m n p q r u h = ap (λ o. (o.0, view o.1)) h ∙ rw q
either_way view false a e m n p q r u h = ap (λ o. (o.0, view o.1)) h

module _ (members : Frames → ℕ → Bool) (m n : Frames) (r : Result ℕ Refusal) where
  pub opening_seen : (limit : ℕ) → ((f : ℕ) → members (opened_more m) f ≡ (members m f || f == m.next)) → (r, n) ≡ open_frame limit m → (r, counting members n) ≡ open_frame limit (counting members m)
  opening_seen limit law h = either_way (counting members) (nat_lt (length m.opened) limit && nat_lt m.next 65536) _ _ m (opened_more m) (opened_more (counting members m)) (rw (fun_ext law)) r n h

  pub logging_seen : ((f : ℕ) → members (counted_more m) f ≡ members m f) → (r, n) ≡ log_frame m → (r, counting members n) ≡ log_frame (counting members m)
  logging_seen law h = either_way (counting members) (nat_lt (current m.opened).count 65536) _ _ m (counted_more m) (counted_more (counting members m)) (rw (fun_ext law)) r n h

  -- whichever frames the closing takes out of the set that is not looked at
  pub closing_seen : (taken leaving : ℕ → Bool) → ((f : ℕ) → members (closed taken m) f ≡ (members m f && not (leaving f))) → (r, n) ≡ close_frame taken m → (r, counting members n) ≡ close_frame leaving (counting members m)
  closing_seen taken leaving law h = either_way (counting members) (nat_lt 1 (length m.opened)) _ _ m (closed taken m) (closed leaving (counting members m)) (rw (fun_ext law)) r n h
