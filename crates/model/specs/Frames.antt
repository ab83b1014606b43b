-- The frames of a case, by what a frame rule means. Assumes nothing.
use Rattle.std.specs.Prelude.{◌≡◌, ℕ, ◌+◌, ◌-◌, ◌≤◌, Bool, true, false, cond, not, ◌&&◌, ◌||◌, List, [], ◌∷◌, ◌++◌, length, get_or, take, Ok, Err, Result, ◌==◌, nat_lt, slice_index_or, slice_set}
use Rattle.model.specs.declared.items.Frame.{Frame}
use Rattle.model.specs.declared.error.TableName.TheVariants.{FrameCount}
use Rattle.model.specs.Refusals.{Refusal, full, frame_limit, only_base}

-- the open frames, base frame 0 first; the next unused number; the set of frames that count
pub record Frames : Type 0 where
  pub opened : List Frame
  pub next : ℕ
  pub counts : ℕ → Bool

abbrev pub no_frame : Frame
no_frame = record { number = 0; count = 0 }

-- an empty case has base frame 0, at count 0
abbrev pub base : Frames
base = record { opened = no_frame ∷ []; next = 1; counts = λ f. (f == 0) }

-- the last open frame, and those before it
abbrev pub current : List Frame → Frame
current fs = slice_index_or fs (length fs - 1) no_frame

abbrev pub before_current : List Frame → List Frame
before_current fs = take (length fs - 1) fs

abbrev pub is_open : ℕ → List Frame → Bool
is_open f [] = false
is_open f (o ∷ os) = f == o.number || is_open f os

-- the law of every rule: every open frame counts
abbrev pub Lawful : Frames → Type 0
Lawful m = (f : ℕ) → is_open f m.opened ≡ true → m.counts f ≡ true

-- base frame 0 is open, and no more frames are than the rule's limit
abbrev pub Within : ℕ → Frames → Type 0
Within limit m = (1 ≤ length m.opened) × (length m.opened ≤ limit) × ((get_or m.opened 0 no_frame).number ≡ 0)

-- opening appends the next number, which alone joins the set
abbrev pub opened_more : Frames → Frames
opened_more m = record {
  opened = m.opened ++ (record { number = m.next; count = 0 } ∷ []);
  next = m.next + 1;
  counts = λ f. m.counts f || (f == m.next);
}

abbrev pub open_frame : ℕ → Frames → Result ℕ Refusal × Frames
open_frame limit m =
    cond (nat_lt (length m.opened) limit && nat_lt m.next 65536)
    (Ok m.next, opened_more m)
    (Err (frame_limit (length m.opened)), m)

-- logging a given adds one to the last open frame's count
abbrev pub counted : Frame → Frame
counted f = record { number = f.number; count = f.count + 1 }

abbrev pub counted_more : Frames → Frames
counted_more m = record {
  opened = slice_set m.opened (length m.opened - 1) (counted (current m.opened));
  next = m.next;
  counts = m.counts;
}

-- answers the frame that the given is logged in
abbrev pub log_frame : Frames → Result ℕ Refusal × Frames
log_frame m =
    cond (nat_lt (current m.opened).count 65536)
    (Ok (current m.opened).number, counted_more m)
    (Err (full FrameCount), m)

-- closing removes the last open frame and adds none to the set; the rule alone tells which frames leave it
abbrev pub closed : (ℕ → Bool) → Frames → Frames
closed leaves m = record {
  opened = before_current m.opened;
  next = m.next;
  counts = λ f. m.counts f && not (leaves f);
}

-- answers how many givens were logged under the frame
abbrev pub close_frame : (ℕ → Bool) → Frames → Result ℕ Refusal × Frames
close_frame leaves m =
    cond (nat_lt 1 (length m.opened))
    (Ok (current m.opened).count, closed leaves m)
    (Err only_base, m)
