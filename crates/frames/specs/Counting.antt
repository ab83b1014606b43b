-- What a list of open frames and the next number mean. Assumes nothing.
use Rattle.std.specs.Prelude.{ℕ, Bool, cond, not, ◌||◌, List, Ok, Err, Result, ◌==◌, nat_lt}
use Rattle.model.specs.declared.items.Frame.{Frame}
use Rattle.model.specs.declared.error.TableName.TheVariants.{FrameCount}
use Rattle.model.specs.Refusals.{Refusal, full}
use Rattle.model.specs.Frames.{Frames, is_open, before_current, counted}

-- these frames are open, and every number below the next one counts
abbrev pub all_below : List Frame → ℕ → Frames
all_below opened next = record { opened = opened; next = next; counts = λ f. nat_lt f next }

-- the same frames, where those of another set count
abbrev pub counting : (Frames → ℕ → Bool) → Frames → Frames
counting members m = record { opened = m.opened; next = m.next; counts = members m }

-- the same frames, where only the open ones count
abbrev pub open_only : Frames → Frames
open_only m = record { opened = m.opened; next = m.next; counts = λ f. is_open f m.opened }

-- the same frames, where the open ones count and so does this one
abbrev pub open_also : ℕ → Frames → Frames
open_also last m = record { opened = m.opened; next = m.next; counts = λ f. is_open f m.opened || (f == last) }

-- the frames that are not open any more once the last one is closed
abbrev pub not_below : Frames → ℕ → Bool
not_below m f = not (is_open f (before_current m.opened))

-- one given more under a frame
abbrev pub counted_up : Frame → Result ℕ Refusal × Frame
counted_up f = cond (nat_lt f.count 65536) (Ok f.number, counted f) (Err (full FrameCount), f)
