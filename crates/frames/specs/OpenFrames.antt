-- Which frames are open, and that every open frame counts.
use Rattle.std.specs.Prelude.{◌≡◌, ℕ, zero, suc, ◌+◌, ◌-◌, ◌<◌, ◌≤◌, Bool, true, false, cond, not, ◌&&◌, ◌||◌, List, [], ◌∷◌, ◌++◌, length, take, drop, Result, ◌==◌, ◌≢◌, nat_lt, slice_index_or, slice_set, refl}
use Rattle.std.proofs.Common.{sym, ap, inl, inr, arith}
use Rattle.std.proofs.lemmas.Bool.{cases_Bool, eq-eqb, ne_eqb}
use Rattle.std.proofs.lemmas.List.{at_drop_more}
use Rattle.std.proofs.lemmas.List.Recursion.{or_push}
use Rattle.std.proofs.lemmas.Bool.Decides.{nat_tests}
use Rattle.std.proofs.Math.Bool.{or-false}
use Rattle.model.specs.declared.items.Frame.{Frame}
use Rattle.model.specs.Refusals.{Refusal}
use Rattle.model.specs.Frames.{Frames, Lawful, no_frame, base, is_open, current, counted, opened_more, counted_more, closed, open_frame, log_frame}
use Rattle.frames.specs.Counting.{open_only, open_also, not_below, counted_up}

pub open_push : (f : ℕ) (os : List Frame) (o : Frame) → is_open f (os ++ (o ∷ [])) ≡ (is_open f os || f == o.number)
open_push f os o = or_push (is_open f) (λ x. f == x.number) refl (λ _ _. refl) os o

-- a record is written under its own number
pub open_set : (f : ℕ) (os : List Frame) (i : ℕ) (o : Frame) → o.number ≡ (slice_index_or os i no_frame).number → is_open f (slice_set os i o) ≡ is_open f os
open_set f [] i o e = refl
open_set f (x ∷ xs) zero o e = rw e
open_set f (x ∷ xs) (suc i) o e = ap (λ b. (f == x.number) || b) (open_set f xs i o e)

pub open_take : (f n : ℕ) (os : List Frame) → is_open f (take n os) ≡ true → is_open f os ≡ true
open_take f zero os e = grind (arith, nat_tests)
open_take f (suc n) [] e = e
open_take f (suc n) (x ∷ xs) e = let ih : is_open f (take n xs) ≡ true → is_open f xs ≡ true = open_take f n xs in grind (arith, nat_tests, ih)

pub open_counted : (f : ℕ) (os : List Frame) → is_open f (slice_set os (length os - 1) (counted (current os))) ≡ is_open f os
open_counted f os = open_set f os (length os - 1) (counted (current os)) refl

-- a look through a list, at one place of it
open_from : (f : ℕ) (os : List Frame) (i : ℕ) → i < length os → is_open f (drop i os) ≡ (f == (slice_index_or os i no_frame).number || is_open f (drop (i + 1) os))
open_from f os i h = at_drop_more (is_open f) os i no_frame h

pub open_here : (f : ℕ) (os : List Frame) (i : ℕ) → i < length os → (slice_index_or os i no_frame).number ≡ f → is_open f (drop i os) ≡ true
open_here f os i h e = rw (open_from f os i h, eq-eqb f _ (sym e))

pub open_later : (f : ℕ) (os : List Frame) (i : ℕ) → i < length os → ((slice_index_or os i no_frame).number ≢ f) → is_open f (drop i os) ≡ is_open f (drop (i + 1) os)
open_later f os i h ne = rw (open_from f os i h, ne_eqb f _ (λ e. ne (sym e)))

-- a frame keeps its number, counted up or full
pub counted_up_number : (o : Frame) → (counted_up o).1.number ≡ o.number
counted_up_number o = elim (cases_Bool (nat_lt o.count 65536)) [ inl q ↦ rw q refl | inr q ↦ rw q refl ]

-- one frame more, the last one counted up, and one less with none taken out of the set
pub more_lawful : (m : Frames) → Lawful m → Lawful (opened_more m)
more_lawful m l f e =
    let p = open_push f m.opened (record { number = m.next; count = 0 }) in
    let q = l f in
    grind (arith, nat_tests, q)

pub written_lawful : (m : Frames) (o : Frame) → o.number ≡ (current m.opened).number → Lawful m → Lawful (record { opened = slice_set m.opened (length m.opened - 1) o; next = m.next; counts = m.counts })
written_lawful m o e l f w = l f (rw (open_set f m.opened (length m.opened - 1) o e) at w)

pub counted_lawful : (m : Frames) → Lawful m → Lawful (counted_more m)
counted_lawful m l = written_lawful m (counted (current m.opened)) refl l

pub less_lawful : (m : Frames) → Lawful m → Lawful (closed (λ _. false) m)
less_lawful m l f e = rw (l f (open_take f (length m.opened - 1) m.opened e))

-- where the open frames count, alone or with one more
pub open_only_lawful : (m : Frames) → Lawful (open_only m)
open_only_lawful m f e = e

pub open_also_lawful : (last : ℕ) (m : Frames) → Lawful (open_also last m)
open_also_lawful last m f e = grind (arith, nat_tests, e)

-- where the open frames alone count, at the start and at a closing
pub open_only_starts : (f : ℕ) → (open_only base).counts f ≡ base.counts f
open_only_starts f = or-false (f == 0)

pub open_only_closes : (m : Frames) (f : ℕ) → (open_only (closed (λ _. false) m)).counts f ≡ ((open_only m).counts f && not (not_below m f))
open_only_closes m f = let p = open_take f (length m.opened - 1) m.opened in grind (arith, nat_tests, p)

-- what holds after a call is shown where it is granted and where it is refused
after : (P : Frames → Type 0) (test : Bool) (granted refused : Result ℕ Refusal × Frames) → P granted.1 → P refused.1 → P (cond test granted refused).1
after P true granted refused p q = p
after P false granted refused p q = q

-- opening and logging keep the law, whatever the rule
pub opening_lawful : (limit : ℕ) (m : Frames) → Lawful m → Lawful (open_frame limit m).1
opening_lawful limit m l = after Lawful (nat_lt (length m.opened) limit && nat_lt m.next 65536) _ _ (more_lawful m l) l

pub logging_lawful : (m : Frames) → Lawful m → Lawful (log_frame m).1
logging_lawful m l = after Lawful (nat_lt (current m.opened).count 65536) _ _ (counted_lawful m l) l

-- the limit of every rule over a table of frames
pub table_limited : (1 ≤ 64) × (64 ≤ 64)
table_limited = (omega arith, omega arith)
