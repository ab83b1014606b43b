-- The text of a question and its answer. Assumes nothing.
use Rattle.std.specs.Prelude.{ℕ, cond, List, ◌++◌, Some, None, Ok, Err, Option, ◌==◌}
use Rattle.model.specs.declared.items.Pair.{Pair}
use Rattle.model.specs.Checks.{Check}
use Rattle.model.specs.Walks.{Links, Walk, tells, root_walk, last}
use Rattle.model.specs.Paths.{Path, path}
use Rattle.model.specs.WalkCalls.{path_checks}
use Rattle.lines.specs.Text.{ask_text, same_text, walk_text, path_text, no_path_text, refused_text}

abbrev pub walk_line : Walk → List ℕ
walk_line w = walk_text w.enodes (tells w.ending)

abbrev pub path_line : Option Path → List ℕ
path_line None = no_path_text
path_line (Some p) = path_text p.steps

module _ (next : Links) (size : ℕ) (p : Pair) where
  abbrev pub first_walk : Walk
  first_walk = root_walk next size None p.from

  -- told the first walk's last enode
  abbrev pub second_walk : Walk
  second_walk = root_walk next size (Some (last p.from first_walk.enodes)) p.to

  abbrev pub answer_text : List ℕ
  answer_text =
      cond (p.from == p.to) (same_text p.from)
      (walk_line first_walk ++ (walk_line second_walk ++ path_line (path next size p.from p.to)))

-- what a check lets pass, or its refusal
abbrev pub text_unless : ℕ → Check → List ℕ → List ℕ
text_unless place (Ok _) text = text
text_unless place (Err r) text = refused_text r.number place

-- among that many enodes, by tables of 128 enodes
abbrev pub reply_text : Links → ℕ → Pair → ℕ → List ℕ
reply_text next size p place = text_unless place (path_checks size p 128 256 128) (answer_text next size p)

abbrev pub question_text : Links → ℕ → Pair → ℕ → List ℕ
question_text next size p place = ask_text p.from p.to ++ reply_text next size p place
