-- The words of a log: what each call is written as. Assumes nothing.
use Rattle.std.specs.Prelude.{◌≡◌, ℕ, ◌+◌, ◌*◌, ◌^◌, ◌<◌, ◌≤◌, List, [], ◌∷◌, length}
use Rattle.model.specs.declared.items.Pair.{Pair}
use Rattle.model.specs.Records.{Kind, Root, Axiom, Literal, Theory, Unknown, Congruence}

-- the five calls; a question has its two permissions, for itself and for its arguments, as one number
pub data Call : Type 0 where
  enode : ℕ → Call
  given : ℕ → ℕ → Kind → Call
  open_frame close_frame : Call
  ask : ℕ → ℕ → ℕ → Call

-- a head word: the kind in the top four bits, the payload in the others
abbrev pub head : ℕ → ℕ → ℕ
head kind payload = kind * 2 ^ 28 + payload

-- a given's head: its kind, and how many plain words follow
abbrev pub given_head : ℕ → ℕ → ℕ
given_head kind count = head 2 (kind * 2 ^ 24 + count)

abbrev pub pair_words : List Pair → List ℕ
pair_words [] = []
pair_words (p ∷ ps) = p.from ∷ p.to ∷ pair_words ps

abbrev pub given_words : ℕ → ℕ → Kind → List ℕ
given_words a b Root = given_head 0 1 ∷ a ∷ []
given_words a b (Literal n) = given_head 1 3 ∷ a ∷ b ∷ n ∷ []
given_words a b (Congruence ps) = given_head 2 (2 + length (pair_words ps)) ∷ a ∷ b ∷ pair_words ps
given_words a b (Theory n) = given_head 3 3 ∷ a ∷ b ∷ n ∷ []
given_words a b Axiom = given_head 4 2 ∷ a ∷ b ∷ []
given_words a b (Unknown n) = given_head 5 3 ∷ a ∷ b ∷ n ∷ []

-- the words that a call is written as
abbrev pub words : Call → List ℕ
words (enode owner) = head 1 owner ∷ []
words (given a b k) = given_words a b k
words open_frame = head 3 0 ∷ []
words close_frame = head 4 0 ∷ []
words (ask may a b) = head 5 may ∷ a ∷ b ∷ []

-- a plain word has 0 in its top four bits
abbrev pub Plain : ℕ → Type 0
Plain n = n < 2 ^ 28

abbrev pub AllPlain : List ℕ → Type 0
AllPlain [] = Unit {0}
AllPlain (n ∷ ns) = Plain n × AllPlain ns

-- which givens a log can hold: a root has one enode at both ends, a congruence at least one argument pair
abbrev pub GivenAllowed : ℕ → ℕ → Kind → Type 0
GivenAllowed a b Root = Plain a × (b ≡ a)
GivenAllowed a b (Literal n) = Plain a × Plain b × Plain n
GivenAllowed a b (Congruence ps) = Plain a × Plain b × AllPlain (pair_words ps) × (1 ≤ length ps) × (2 + length (pair_words ps) < 2 ^ 24)
GivenAllowed a b (Theory n) = Plain a × Plain b × Plain n
GivenAllowed a b Axiom = Plain a × Plain b
GivenAllowed a b (Unknown n) = Plain a × Plain b × Plain n

-- which calls a log can hold
abbrev pub Allowed : Call → Type 0
Allowed (enode owner) = Plain owner
Allowed (given a b k) = GivenAllowed a b k
Allowed open_frame = Unit {0}
Allowed close_frame = Unit {0}
Allowed (ask may a b) = (may < 4) × Plain a × Plain b
