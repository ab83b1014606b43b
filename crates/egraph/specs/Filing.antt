-- The tables after a given is filed. Assumes nothing.
use Rattle.std.specs.Prelude.{◌≡◌, ℕ, ◌+◌, ◌<◌, ◌≤◌, min, [], ◌∷◌, ◌++◌, length, Some, slice_index_or, slice_set}
use Rattle.model.specs.declared.items.EqualityExpl.{EqualityExpl}
use Rattle.model.specs.declared.items.EqualityExpl.TheVariants as expl
use Rattle.model.specs.Records.{args_of}
use Rattle.model.specs.Explanations.{pairs_of, from_of, to_of, kind_of}
use Rattle.egraph.specs.declared.enode.ENode.{ENode}
use Rattle.egraph.specs.declared.equality.Given.{Given}
use Rattle.egraph.specs.declared.equality.Kind.{Kind}
use Rattle.egraph.specs.declared.equality.Kind.TheVariants.{Root, Literal, Congruence, Theory, Axiom, Unknown}
use Rattle.egraph.specs.declared.records.Records.{Records}
use Rattle.egraph.specs.Table.{listed, places}
use Rattle.egraph.specs.Records.{no_enode}

-- the kind as it is filed, its argument pairs from a place on
abbrev pub row_kind : ℕ → EqualityExpl → Kind
row_kind start (expl.Root e) = Root
row_kind start (expl.Literal a n b) = Literal n
row_kind start (expl.Congruence a ps b) = Congruence start (length (pairs_of ps.words.now))
row_kind start (expl.Theory a n b) = Theory n
row_kind start (expl.Axiom a b) = Axiom
row_kind start (expl.Unknown n a b) = Unknown n

-- the enode that the given is filed under
abbrev pub enode_under : Records → EqualityExpl → ENode
enode_under t e = slice_index_or (listed t.enodes) (from_of e) no_enode

abbrev pub row_of : Records → EqualityExpl → ℕ → Given
row_of t e frame = record { from = from_of e; to = to_of e; frame = frame; kind = row_kind (length (listed t.arguments)) e; older = (enode_under t e).newest }

abbrev pub with_newest : ENode → ℕ → ENode
with_newest e g = record { owner = e.owner; frame = e.frame; newest = Some g }

-- the given is the newest under its first end, its argument pairs stand behind all others
pub record GivenFiled (t : Records) (e : EqualityExpl) (frame : ℕ) (u : Records) : Type 0 where
  pub enodes : listed u.enodes ≡ slice_set (listed t.enodes) (from_of e) (with_newest (enode_under t e) (length (listed t.givens)))
  pub givens : listed u.givens ≡ listed t.givens ++ (row_of t e frame ∷ [])
  pub arguments : listed u.arguments ≡ listed t.arguments ++ args_of (kind_of e)
  pub enode_places : places u.enodes ≡ places t.enodes
  pub given_places : places u.givens ≡ places t.givens
  pub argument_places : places u.arguments ≡ places t.arguments

-- there is room for the given
pub record GivenFits (t : Records) (e : EqualityExpl) : Type 0 where
  pub known : from_of e < length (listed t.enodes)
  pub given_room : length (listed t.givens) + 1 ≤ min 65536 (places t.givens)
  pub argument_room : length (listed t.arguments) + length (args_of (kind_of e)) ≤ min 131072 (places t.arguments)
