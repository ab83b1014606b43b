-- The text of an answer whose walks and steps stand in the scratch. Assumes nothing.
use Rattle.std.specs.Prelude.{ℕ, List, ◌++◌, take, Some, None, Ok, Err, Option, Result}
use Rattle.model.specs.declared.items.Pair.{Pair}
use Rattle.model.specs.declared.items.Step.{Step}
use Rattle.model.specs.declared.error.Fault.{Fault}
use Rattle.model.specs.Refusals.{number_of}
use Rattle.lines.specs.Text.{same_text, walk_text, path_text, no_path_text, refused_text}
use Rattle.listing.specs.declared.scratch.Scratch.{Scratch}
use Rattle.listing.specs.declared.scratch.Walks.{Walks}

-- the first steps of the scratch
abbrev pub steps_shown : Option ℕ → List Step → List ℕ
steps_shown None steps = no_path_text
steps_shown (Some n) steps = path_text (take n steps)

-- none where both ends are one enode
abbrev pub shown : Pair → Scratch → Option Walks → List ℕ
shown p s None = same_text p.from
shown p s (Some w) =
    walk_text (take w.first.len s.first) w.first.tells
    ++ (walk_text (take w.second.len s.second) w.second.tells ++ steps_shown w.steps s.steps)

abbrev pub reply_shown : Pair → Scratch → ℕ → Result (Option Walks) Fault → List ℕ
reply_shown p s place (Ok a) = shown p s a
reply_shown p s place (Err f) = refused_text (number_of f.cause) place
