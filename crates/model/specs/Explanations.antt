-- What a given is logged as. Assumes nothing.
use Rattle.std.specs.Prelude.{ℕ, List, [], ◌∷◌}
use Rattle.model.specs.declared.items.Pair.{Pair}
use Rattle.model.specs.declared.items.Pairs.{Pairs}
use Rattle.model.specs.declared.items.EqualityExpl.{EqualityExpl}
use Rattle.model.specs.declared.items.EqualityExpl.TheVariants as expl
use Rattle.model.specs.Records.{Kind}
use Rattle.model.specs.Records as records

-- two words a pair; an odd last word is in no pair
abbrev pub pairs_of : List ℕ → List Pair
pairs_of [] = []
pairs_of (a ∷ []) = []
pairs_of (a ∷ b ∷ ws) = record { from = a; to = b } ∷ pairs_of ws

-- the pairs that an iterator has still to give
abbrev pub pairs_left : Pairs → List Pair
pairs_left p = pairs_of p.rest.words.now

abbrev pub from_of : EqualityExpl → ℕ
from_of (expl.Root e) = e
from_of (expl.Literal a n b) = a
from_of (expl.Congruence a ps b) = a
from_of (expl.Theory a n b) = a
from_of (expl.Axiom a b) = a
from_of (expl.Unknown n a b) = a

abbrev pub to_of : EqualityExpl → ℕ
to_of (expl.Root e) = e
to_of (expl.Literal a n b) = b
to_of (expl.Congruence a ps b) = b
to_of (expl.Theory a n b) = b
to_of (expl.Axiom a b) = b
to_of (expl.Unknown n a b) = b

abbrev pub kind_of : EqualityExpl → Kind
kind_of (expl.Root e) = records.Root
kind_of (expl.Literal a n b) = records.Literal n
kind_of (expl.Congruence a ps b) = records.Congruence (pairs_of ps.words.now)
kind_of (expl.Theory a n b) = records.Theory n
kind_of (expl.Axiom a b) = records.Axiom
kind_of (expl.Unknown n a b) = records.Unknown n
