-- What a graph has on file, with the frames of its rule. Assumes nothing.
use Rattle.std.specs.Prelude.{ℕ, List}
use Rattle.model.specs.Records.{Given}
use Rattle.model.specs.Frames.{Frames}
use Rattle.model.specs.Walks.{Links}
use Rattle.model.specs.Logging.{Case}
use Rattle.model.specs.PathLaws.{WalkLaws}
use Rattle.frames.specs.declared.rule.FrameRule.{Ghosts}
use Rattle.egraph.specs.declared.egraph.EGraph.{EGraph}
use Rattle.egraph.specs.View.{given_list, links_in, size, case_of}

module _ {R : Type 0} {rule : Ghosts R} where
  abbrev pub frames_of : EGraph R rule → Frames
  frames_of g = rule.means g.rule

  abbrev pub case_on_file : EGraph R rule → Case
  case_on_file g = case_of (frames_of g) g.records

  abbrev pub links_on_file : EGraph R rule → Links
  links_on_file g = links_in (frames_of g) g.records

  abbrev pub givens_on_file : EGraph R rule → List Given
  givens_on_file g = given_list g.records

  -- how many enodes there are
  abbrev pub size_on_file : EGraph R rule → ℕ
  size_on_file g = size g.records

  -- the laws of walks and paths, for what is on file
  abbrev pub LawfulWalks : EGraph R rule → Type 0
  LawfulWalks g = WalkLaws (frames_of g).counts (givens_on_file g) (size_on_file g)
