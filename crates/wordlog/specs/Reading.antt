-- Which call stands at the front of some words. Assumes nothing.
use Rattle.std.specs.Prelude.{◌≡◌, ℕ, ◌+◌, ◌/◌, ◌%◌, ◌^◌, ◌≤◌, Bool, cond, ◌&&◌, List, [], ◌∷◌, ◌++◌, length, take, Some, None, Option, ◌==◌, nat_le, nat_lt}
use Rattle.std.specs.List.{list_all}
use Rattle.model.specs.Records.{Kind, Root, Axiom, Literal, Theory, Unknown, Congruence}
use Rattle.model.specs.Format.{Call, enode, given, open_frame, close_frame, ask, words, Allowed}
use Rattle.model.specs.Explanations.{pairs_of}

-- a call, and how many words it takes
abbrev pub Front : Type 0
Front = Option (Call × ℕ)

abbrev pub some_if : {A : Type 0} → Bool → A → Option A
some_if test a = cond test (Some a) None

abbrev pub plain : ℕ → Bool
plain w = nat_lt w (2 ^ 28)

abbrev pub all_plain : List ℕ → Bool
all_plain = list_all plain

-- a root's words: its enode
abbrev pub root_from : List ℕ → Option Call
root_from [] = None
root_from (e ∷ []) = Some (given e e Root)
root_from (e ∷ w ∷ ws) = None

abbrev pub axiom_from : List ℕ → Option Call
axiom_from [] = None
axiom_from (a ∷ []) = None
axiom_from (a ∷ b ∷ []) = Some (given a b Axiom)
axiom_from (a ∷ b ∷ w ∷ ws) = None

-- two ends and one number
abbrev pub number_from : (ℕ → Kind) → List ℕ → Option Call
number_from kind [] = None
number_from kind (a ∷ []) = None
number_from kind (a ∷ b ∷ []) = None
number_from kind (a ∷ b ∷ n ∷ []) = Some (given a b (kind n))
number_from kind (a ∷ b ∷ n ∷ w ∷ ws) = None

-- two ends and at least one argument pair
abbrev pub congruence_from : List ℕ → Option Call
congruence_from [] = None
congruence_from (a ∷ []) = None
congruence_from (a ∷ b ∷ ws) = some_if (nat_lt 0 (length ws) && length ws % 2 == 0) (given a b (Congruence (pairs_of ws)))

-- the given of that kind with these plain words
abbrev pub given_from : ℕ → List ℕ → Option Call
given_from kind ws =
    cond (kind == 0) (root_from ws)
    (cond (kind == 1) (number_from Literal ws)
    (cond (kind == 2) (congruence_from ws)
    (cond (kind == 3) (number_from Theory ws)
    (cond (kind == 4) (axiom_from ws)
    (cond (kind == 5) (number_from Unknown ws)
    None)))))

abbrev pub taking : ℕ → Option Call → Front
taking n None = None
taking n (Some c) = Some (c, n)

-- behind a given's head: that many plain words
abbrev pub given_front : ℕ → ℕ → List ℕ → Front
given_front kind count ws = cond (nat_le count (length ws) && all_plain (take count ws)) (taking (count + 1) (given_from kind (take count ws))) None

-- behind a question's head
abbrev pub ask_front : ℕ → List ℕ → Front
ask_front may [] = None
ask_front may (a ∷ []) = None
ask_front may (a ∷ b ∷ ws) = some_if (nat_lt may 4 && (plain a && plain b)) (ask may a b, 3)

abbrev pub front_of : ℕ → ℕ → List ℕ → Front
front_of kind payload ws =
    cond (kind == 1) (Some (enode payload, 1))
    (cond (kind == 2) (given_front (payload / 2 ^ 24) (payload % 2 ^ 24) ws)
    (cond (kind == 3) (some_if (payload == 0) (open_frame, 1))
    (cond (kind == 4) (some_if (payload == 0) (close_frame, 1))
    (cond (kind == 5) (ask_front payload ws)
    None))))

-- the call at the front of the words
abbrev pub front : List ℕ → Front
front [] = None
front (w ∷ ws) = front_of (w / 2 ^ 28) (w % 2 ^ 28) ws

-- a call that is read is allowed, and stands there word for word
abbrev pub Accepts : List ℕ → Front → Type 0
Accepts ws None = Unit {0}
Accepts ws (Some p) = Allowed p.0 × (p.1 ≤ length ws) × (take p.1 ws ≡ words p.0)

-- an allowed call that stands there is read
abbrev pub Complete : List ℕ → Front → Type 0
Complete ws r = (c : Call) (rest : List ℕ) → Allowed c → ws ≡ words c ++ rest → r ≡ Some (c, length (words c))
