-- Runs of frame calls under any rule, and that every open frame counts after each. Assumes nothing.
use Rattle.std.specs.Prelude.{◌≡◌, ℕ, ◌+◌, Bool, true, List, [], ◌∷◌, Ok, Err, Result}
use Rattle.model.specs.Refusals.{Refusal}
use Rattle.model.specs.Frames.{Frames, Lawful, base, open_frame, log_frame, close_frame}
use Rattle.frames.specs.declared.run.FrameCall.{FrameCall}
use Rattle.frames.specs.declared.run.FrameCall.TheVariants.{Open, Log, Close}

-- what a call comes to, where a closing takes these frames out of the set
abbrev pub call_frame : ℕ → (ℕ → Bool) → FrameCall → Frames → Result ℕ Refusal × Frames
call_frame limit leaves Open m = open_frame limit m
call_frame limit leaves Log m = log_frame m
call_frame limit leaves Close m = close_frame leaves m

-- a rule may take any frames out of the set so long as every frame that stays open counts
abbrev pub Allowed : (ℕ → Bool) → FrameCall → Frames → Type 0
Allowed leaves Open m = Unit {0}
Allowed leaves Log m = Unit {0}
Allowed leaves Close m = Lawful (close_frame leaves m).1

abbrev pub refusals : Result ℕ Refusal → ℕ
refusals (Ok n) = 0
refusals (Err r) = 1

-- these calls lead from the first frames to the last, with so many of them refused; each has frames of its own that the rule takes out of the set
abbrev pub Reaches : ℕ → Frames → List FrameCall → ℕ → Frames → Type 0
Reaches limit first [] refused last = (refused ≡ 0) × (last ≡ first)
Reaches limit first (c ∷ cs) refused last =
    (leaves : ℕ → Bool) × (later : ℕ) ×
    Allowed leaves c first ×
    (refused ≡ refusals (call_frame limit leaves c first).0 + later) ×
    Reaches limit (call_frame limit leaves c first).1 cs later last

-- every frame that is open after any calls from an empty case counts, whatever the rule
abbrev pub OpenFramesCount : Type 0
OpenFramesCount = (limit : ℕ) (calls : List FrameCall) (refused : ℕ) (m : Frames) → Reaches limit base calls refused m → Lawful m

-- a call after which every open frame counts where every one did before
abbrev pub KeepsLawful : (Frames → Result ℕ Refusal × Frames) → Type 0
KeepsLawful call = (m : Frames) → Lawful m → Lawful (call m).1

-- a call that brings no frame into the set
abbrev pub AddsNone : (Frames → Result ℕ Refusal × Frames) → Type 0
AddsNone call = (m : Frames) (f : ℕ) → (call m).1.counts f ≡ true → m.counts f ≡ true
