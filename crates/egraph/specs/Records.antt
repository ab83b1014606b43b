-- What the rows of the tables stand for, and what always holds of them. Assumes nothing.
use Rattle.std.specs.Prelude.{◌≡◌, ℕ, suc, ◌+◌, ◌<◌, ◌≤◌, Bool, List, map, length, take, drop, Some, None, Option, ◌==◌, slice_index_or}
use Rattle.model.specs.declared.items.Pair.{Pair}
use Rattle.model.specs.Records as M
use Rattle.model.specs.Records.{newest, arg_count}
use Rattle.egraph.specs.declared.enode.ENode.{ENode}
use Rattle.egraph.specs.declared.equality.Given.{Given}
use Rattle.egraph.specs.declared.equality.Kind.{Kind}
use Rattle.egraph.specs.declared.equality.Kind.TheVariants.{Root, Literal, Congruence, Theory, Axiom, Unknown}

abbrev pub enode_of : ENode → M.Enode
enode_of e = record { owner = e.owner; frame = e.frame }

abbrev pub kind_of : List Pair → Kind → M.Kind
kind_of args Root = M.Root
kind_of args (Literal n) = M.Literal n
kind_of args (Congruence start len) = M.Congruence (take len (drop start args))
kind_of args (Theory n) = M.Theory n
kind_of args Axiom = M.Axiom
kind_of args (Unknown n) = M.Unknown n

abbrev pub given_of : List Pair → Given → M.Given
given_of args g = record { from = g.from; to = g.to; frame = g.frame; kind = kind_of args g.kind }

abbrev pub givens_of : List Pair → List Given → List M.Given
givens_of args gs = map (given_of args) gs

abbrev pub records_of : List ENode → List Given → List Pair → M.Records
records_of es gs args = record { enodes = map enode_of es; givens = givens_of args gs }

abbrev pub no_enode : ENode
no_enode = record { owner = 0; frame = 0; newest = None }

abbrev pub no_row : Given
no_row = record { from = 0; to = 0; frame = 0; kind = Root; older = None }

abbrev pub under : ℕ → M.Given → Bool
under e g = g.from == e

-- where a congruence's argument pairs end
abbrev pub range_end : Kind → ℕ
range_end Root = 0
range_end (Literal x) = 0
range_end (Congruence start len) = start + len
range_end (Theory x) = 0
range_end Axiom = 0
range_end (Unknown x) = 0

-- an optional number as a number: equal where the options are
abbrev pub past : Option ℕ → ℕ
past None = 0
past (Some n) = suc n

-- each given names the next older one under its enode
abbrev pub Listed : List M.Given → List Given → Type 0
Listed gs rows = (k : ℕ) → k < length rows → (slice_index_or rows k no_row).older ≡ newest (under (slice_index_or rows k no_row).from) gs k

-- each enode names the newest given under it
abbrev pub Headed : List M.Given → List ENode → Type 0
Headed gs es = (e : ℕ) → e < length es → (slice_index_or es e no_enode).newest ≡ newest (under e) gs (length gs)

-- the argument pairs of each given are among the first n
abbrev pub Ranged : ℕ → List Given → Type 0
Ranged n rows = (k : ℕ) → k < length rows → range_end (slice_index_or rows k no_row).kind ≤ n
