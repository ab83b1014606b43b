-- Runs of frame calls: one call more, and that every open frame counts.
use Rattle.std.proofs.Common.{◌≡◌, ℕ, ◌+◌, ◌<◌, ◌≤◌, Bool, true, false, eqb, List, [], ◌∷◌, ◌++◌, length, get_or, take, is_err, Ok, Err, Result, sym, refl, ap, ◌∙◌, subst, arith}
use mathlib.Core.Bool.{or-false}
use Rattle.std.proofs.lemmas.List.{take_more}
use Rattle.model.specs.declared.error.Fault.{Fault}
use Rattle.model.specs.Refusals.{Refusal, told}
use Rattle.model.specs.Frames.{Frames, Lawful, base}
use Rattle.frames.specs.declared.run.FrameCall.{FrameCall}
use Rattle.frames.specs.declared.run.FrameCall.TheVariants.{Open, Log, Close}
use Rattle.frames.specs.Runs.{Reaches, Allowed, call_frame, refusals, OpenFramesCount}
use Rattle.frames.specs.OpenFrames.{opening_lawful, logging_lawful}

module _ (limit : ℕ) where
  call_lawful : (leaves : ℕ → Bool) (c : FrameCall) (m : Frames) → Allowed leaves c m → Lawful m → Lawful (call_frame limit leaves c m).1
  call_lawful leaves Open m a l = opening_lawful limit m l
  call_lawful leaves Log m a l = logging_lawful m l
  call_lawful leaves Close m a l = a

  run_lawful : (m : Frames) (cs : List FrameCall) (n : ℕ) (last : Frames) → Lawful m → Reaches limit m cs n last → Lawful last
  run_lawful m [] n last l r = subst Lawful (sym r.1) l
  run_lawful m (c ∷ cs) n last l (leaves, later, a, e, r) = run_lawful (call_frame limit leaves c m).1 cs later last (call_lawful leaves c m a l) r

  -- a rule whose frames are lawful after a call was allowed what it took
  allowed : (leaves : ℕ → Bool) (c : FrameCall) (m : Frames) → Lawful (call_frame limit leaves c m).1 → Allowed leaves c m
  allowed leaves Open m l = tt
  allowed leaves Log m l = tt
  allowed leaves Close m l = l

  run_more : (first : Frames) (cs : List FrameCall) (n : ℕ) (m : Frames) (leaves : ℕ → Bool) (c : FrameCall) → Allowed leaves c m → Reaches limit first cs n m → Reaches limit first (cs ++ (c ∷ [])) (n + refusals (call_frame limit leaves c m).0) (call_frame limit leaves c m).1
  run_more first [] n m leaves c a r =
      (leaves, 0, subst (Allowed leaves c) r.1 a, rw (r.0, r.1) (omega arith), (refl, ap (λ b. (call_frame limit leaves c b).1) r.1))
  run_more first (x ∷ xs) n m leaves c a (others, later, b, e, r) =
      (others, later + refusals (call_frame limit leaves c m).0, b, omega arith, run_more (call_frame limit others x first).1 xs later m leaves c a r)

  -- a turn of the loop over the calls
  pub run_turn : (first : Frames) (calls : List FrameCall) (i n : ℕ) (m : Frames) (leaves : ℕ → Bool) (d : FrameCall) (a : Result ℕ Refusal) (last : Frames) (more : ℕ) →
      i < length calls → Reaches limit first (take i calls) n m → (a, last) ≡ call_frame limit leaves (get_or calls i d) m → Lawful last → more ≡ n + refusals a →
      Reaches limit first (take (i + 1) calls) more last
  run_turn first calls i n m leaves d a last more h r e l q =
      let c = get_or calls i d in
      let end : last ≡ (call_frame limit leaves c m).1 = ap (λ o. o.1) e in
      let grown = run_more first (take i calls) n m leaves c (allowed leaves c m (subst Lawful end l)) r in
      let so : more ≡ n + refusals (call_frame limit leaves c m).0 = q ∙ ap (λ o. n + refusals o.0) e in
      rw (take_more calls i d h, so, end) grown

-- a call is refused once or not at all, as its test tells
pub refused_once : (r : Result ℕ Fault) → true ≡ is_err r → refusals (told r) ≡ 1
refused_once (Ok n) e = cc
refused_once (Err f) e = refl

pub refused_not : (r : Result ℕ Fault) → false ≡ is_err r → refusals (told r) ≡ 0
refused_not (Ok n) e = refl
refused_not (Err f) e = cc

pub refused_few : (a : Result ℕ Refusal) → refusals a ≤ 1
refused_few (Ok n) = omega arith
refused_few (Err r) = omega arith

base_lawful : Lawful base
base_lawful f e = sym (or-false (eqb f 0)) ∙ e

pub open_frames_count : OpenFramesCount
open_frames_count limit calls n m r = run_lawful limit base calls n m base_lawful r
