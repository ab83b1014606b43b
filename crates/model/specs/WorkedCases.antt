-- Worked cases: what runs answer, and what they leave on file. Assumes nothing.
use Rattle.std.specs.Prelude.{◌≡◌, ℕ, true, false, List, [], ◌∷◌, ◌++◌, map, Some, None, ◌==◌}
use Rattle.model.specs.declared.items.Pair.{Pair}
use Rattle.model.specs.Records.{Root, Axiom, Congruence}
use Rattle.model.specs.Memory.{Segment, step, entry, mark, Entry, Standing, Memory, stands, nothing_filed}
use Rattle.model.specs.Format as F
use Rattle.model.specs.Format.{Call}
use Rattle.model.specs.Runs.{Session, empty_session, Answer, number, same_enode, by_entry, refused, Move, reached, answers}

-- tables of 128 records, 512 for argument pairs, segments and use members, and scratch for that
abbrev pub start : Session
start = empty_session
    (record { enodes = 128; givens = 128; arguments = 512 })
    (record { entries = 128; segments = 512; pairs = 128; lists = 128; members = 512 })
    (record { marks = 128; links = 128; walks = 256; chains = 4224; answers = 16896; edges = 128; reading = 128 })

-- under Every no frame leaves the set; under Live the closed one does, here frame 1
abbrev pub every : Call → Move
every c = record { call = c; leaves = λ f. false }

abbrev pub live : Call → Move
live c = record { call = c; leaves = λ f. (f == 1) }

abbrev pub four : List Call
four = F.enode 0 ∷ F.enode 0 ∷ F.enode 0 ∷ F.enode 0 ∷ []

abbrev pub axiom_from_to : ℕ → ℕ → Call
axiom_from_to a b = F.given a b Axiom

abbrev pub ask_for : ℕ → ℕ → Call
ask_for a b = F.ask 0 a b

-- two branches that meet in enode 2
abbrev pub branches : List Call
branches = four ++ (axiom_from_to 0 1 ∷ axiom_from_to 1 2 ∷ axiom_from_to 3 2 ∷ [])

abbrev pub circle : List Call
circle = four ++ (axiom_from_to 0 1 ∷ axiom_from_to 1 0 ∷ [])

-- what the last calls answer, and what all of them leave
abbrev pub tell : (Call → Move) → List Call → List Call → List Answer
tell rule before cs = answers 64 (reached 64 start (map rule before)) (map rule cs)

abbrev pub left : (Call → Move) → List Call → Memory
left rule cs = (reached 64 start (map rule cs)).memory

abbrev pub forth : ℕ → Segment
forth g = step (record { given = g; forward = true }) None

abbrev pub back : ℕ → Segment
back g = step (record { given = g; forward = false }) None

abbrev pub entry_of : List Segment → ℕ → ℕ → Entry
entry_of ss n e = record { segments = ss; count = n; last = e }

abbrev pub standing : ℕ → ℕ → ℕ → Standing
standing a b n = record { from = a; to = b; entry = n }

abbrev pub no_way : ℕ → ℕ → Answer
no_way a b = refused (record { number = 5; values = a ∷ b ∷ []; pair = Some (record { from = a; to = b }); level = 0; argument = None })

-- asking for an enode and itself files nothing
pub record Same : Type 0 where
  pub told : tell every branches (ask_for 0 0 ∷ []) ≡ (same_enode 0 ∷ [])
  pub leaves : left every (branches ++ (ask_for 0 0 ∷ [])) ≡ nothing_filed

-- a path's steps, and then its entry again; turned, it is one turned entry
pub record Again : Type 0 where
  pub told : tell every branches (ask_for 0 3 ∷ ask_for 0 3 ∷ ask_for 3 0 ∷ ask_for 3 0 ∷ []) ≡ (by_entry 0 ∷ by_entry 0 ∷ by_entry 1 ∷ by_entry 1 ∷ [])
  pub leaves : left every (branches ++ (ask_for 0 3 ∷ ask_for 0 3 ∷ ask_for 3 0 ∷ ask_for 3 0 ∷ [])) ≡ record {
    entries = entry_of (entry 0 false ∷ []) 3 0 ∷ entry_of (forth 0 ∷ forth 1 ∷ back 2 ∷ []) 3 3 ∷ [];
    uses = [];
    standing = standing 3 0 1 ∷ standing 0 3 0 ∷ [];
  }

-- a part that stands is used where it spans a step of the path
pub record Part : Type 0 where
  pub told : tell every branches (ask_for 1 0 ∷ ask_for 0 3 ∷ []) ≡ (by_entry 0 ∷ by_entry 1 ∷ [])
  pub leaves : left every (branches ++ (ask_for 1 0 ∷ ask_for 0 3 ∷ [])) ≡ record {
    entries = entry_of (entry 0 false ∷ forth 1 ∷ back 2 ∷ []) 3 3 ∷ entry_of (back 0 ∷ []) 1 0 ∷ [];
    uses = [];
    standing = standing 0 3 1 ∷ standing 1 0 0 ∷ [];
  }

-- in a circle of two each way has its own step, so that an entry filed for one way is no help for the other
pub record Circle : Type 0 where
  pub told : tell every circle (ask_for 0 1 ∷ ask_for 1 0 ∷ ask_for 0 1 ∷ []) ≡ (by_entry 0 ∷ by_entry 1 ∷ by_entry 2 ∷ [])
  pub leaves : left every (circle ++ (ask_for 0 1 ∷ ask_for 1 0 ∷ ask_for 0 1 ∷ [])) ≡ record {
    entries = entry_of (forth 0 ∷ []) 1 1 ∷ entry_of (forth 1 ∷ []) 1 0 ∷ entry_of (forth 0 ∷ []) 1 1 ∷ [];
    uses = [];
    standing = standing 0 1 2 ∷ [];
  }

-- without a path the question is refused, or marked where that is permitted; a later path is explained
pub record Marked : Type 0 where
  pub told : tell every four (ask_for 0 1 ∷ F.ask 1 0 1 ∷ F.ask 1 0 1 ∷ axiom_from_to 0 1 ∷ ask_for 0 1 ∷ []) ≡ (no_way 0 1 ∷ by_entry 0 ∷ by_entry 0 ∷ number 0 ∷ by_entry 1 ∷ [])
  pub leaves : left every (four ++ (ask_for 0 1 ∷ F.ask 1 0 1 ∷ F.ask 1 0 1 ∷ axiom_from_to 0 1 ∷ ask_for 0 1 ∷ [])) ≡ record {
    entries = entry_of (forth 0 ∷ []) 1 1 ∷ entry_of (mark 0 ∷ []) 0 1 ∷ [];
    uses = [];
    standing = standing 0 1 1 ∷ [];
  }

abbrev pub congruence : ℕ → ℕ → List Pair → Call
congruence a b ps = F.given a b (Congruence ps)

abbrev pub two_pairs : List Call
two_pairs = four ++ (axiom_from_to 2 3 ∷ congruence 0 1 (record { from = 2; to = 3 } ∷ []) ∷ [])

-- a congruence step is settled by the answers for its arguments
pub record Settled : Type 0 where
  pub told : tell every two_pairs (ask_for 0 1 ∷ []) ≡ (by_entry 1 ∷ [])
  pub leaves : left every (two_pairs ++ (ask_for 0 1 ∷ [])) ≡ record {
    entries = entry_of (step (record { given = 1; forward = true }) (Some 0) ∷ []) 1 1 ∷ entry_of (forth 0 ∷ []) 1 3 ∷ [];
    uses = record { given = 1; members = 0 ∷ [] } ∷ [];
    standing = standing 0 1 1 ∷ standing 2 3 0 ∷ [];
  }

-- a congruence that needs itself is refused at level 33, and nothing is filed
pub record Endless : Type 0 where
  pub told : tell every (four ++ (congruence 0 1 (record { from = 0; to = 1 } ∷ []) ∷ [])) (ask_for 0 1 ∷ []) ≡
      (refused (record { number = 6; values = 0 ∷ 1 ∷ []; pair = Some (record { from = 0; to = 1 }); level = 33; argument = Some (record { given = 0; place = 0 }) }) ∷ [])
  pub leaves : left every (four ++ (congruence 0 1 (record { from = 0; to = 1 } ∷ []) ∷ ask_for 0 1 ∷ [])) ≡ nothing_filed

abbrev pub in_frame : List Call
in_frame = four ++ (axiom_from_to 0 1 ∷ F.open_frame ∷ axiom_from_to 0 2 ∷ [])

-- a given of a closed frame counts under Every and not under Live
pub record Closed : Type 0 where
  pub every_told : tell every in_frame (ask_for 0 1 ∷ F.close_frame ∷ ask_for 0 1 ∷ []) ≡ (no_way 0 1 ∷ number 1 ∷ no_way 0 1 ∷ [])
  pub live_told : tell live in_frame (ask_for 0 1 ∷ F.close_frame ∷ ask_for 0 1 ∷ []) ≡ (no_way 0 1 ∷ number 1 ∷ by_entry 0 ∷ [])
  pub live_leaves : left live (in_frame ++ (ask_for 0 1 ∷ F.close_frame ∷ ask_for 0 1 ∷ [])) ≡ record { entries = entry_of (forth 0 ∷ []) 1 1 ∷ []; uses = []; standing = standing 0 1 0 ∷ [] }

abbrev pub turned_while_closed : List Call
turned_while_closed = four ++ (axiom_from_to 0 1 ∷ ask_for 0 1 ∷ ask_for 1 0 ∷ F.open_frame ∷ F.given 0 0 Root ∷ F.ask 1 0 1 ∷ F.close_frame ∷ [])

-- the entry that spans from the end is one turned entry: the inner one is the answer, and stands for nothing
pub record Inner : Type 0 where
  pub told : tell live turned_while_closed (ask_for 0 1 ∷ []) ≡ (by_entry 0 ∷ [])
  pub none_stands : stands (left live (turned_while_closed ++ (ask_for 0 1 ∷ []))).standing 0 1 ≡ None

abbrev pub looked_at : List Call
looked_at = four ++ (axiom_from_to 1 0 ∷ axiom_from_to 2 1 ∷ ask_for 0 2 ∷ axiom_from_to 0 1 ∷ ask_for 0 1 ∷ ask_for 2 0 ∷ [])

-- the look at the end stops at the entry that spans the path, so that what it did not come to still stands
pub record Stops : Type 0 where
  pub told : tell every looked_at (ask_for 0 1 ∷ []) ≡ (by_entry 1 ∷ [])

abbrev pub filed_meanwhile : List Call
filed_meanwhile =
    F.enode 0 ∷ four
    ++ (congruence 0 1 (record { from = 2; to = 4 } ∷ record { from = 0; to = 4 } ∷ []) ∷ axiom_from_to 1 2 ∷ axiom_from_to 2 3 ∷ F.ask 2 0 2 ∷ axiom_from_to 3 4 ∷ [])

-- a nested question files an entry for the very pair, which the outer one then replaces
pub record Replaced : Type 0 where
  pub told : tell every filed_meanwhile (ask_for 1 4 ∷ ask_for 0 4 ∷ []) ≡ (by_entry 3 ∷ by_entry 6 ∷ [])
  pub now_stands : stands (left every (filed_meanwhile ++ (ask_for 1 4 ∷ ask_for 0 4 ∷ []))).standing 0 4 ≡ Some 6

abbrev pub congruence_circle : List Call
congruence_circle = four ++ (congruence 0 1 (record { from = 2; to = 3 } ∷ []) ∷ axiom_from_to 1 0 ∷ axiom_from_to 2 3 ∷ [])

-- a congruence that is settled again by the same answers has one use list
pub record UsedAgain : Type 0 where
  pub told : tell every congruence_circle (ask_for 0 1 ∷ ask_for 1 0 ∷ ask_for 0 1 ∷ []) ≡ (by_entry 1 ∷ by_entry 2 ∷ by_entry 3 ∷ [])
  pub uses : (left every (congruence_circle ++ (ask_for 0 1 ∷ ask_for 1 0 ∷ ask_for 0 1 ∷ []))).uses ≡ (record { given = 0; members = 0 ∷ [] } ∷ [])

abbrev pub same_argument : List Call
same_argument = four ++ (congruence 0 1 (record { from = 2; to = 2 } ∷ []) ∷ [])

-- equal enodes are no member of a use list; an empty list is one too
pub record WithoutSame : Type 0 where
  pub told : tell every same_argument (ask_for 0 1 ∷ []) ≡ (by_entry 0 ∷ [])
  pub leaves : left every (same_argument ++ (ask_for 0 1 ∷ [])) ≡ record {
    entries = entry_of (step (record { given = 0; forward = true }) (Some 0) ∷ []) 1 1 ∷ [];
    uses = record { given = 0; members = [] } ∷ [];
    standing = standing 0 1 0 ∷ [];
  }

pub record WorkedCases : Type 0 where
  pub same : Same
  pub again : Again
  pub part : Part
  pub circle_of_two : Circle
  pub marked : Marked
  pub settled : Settled
  pub endless : Endless
  pub closed : Closed
  pub inner : Inner
  pub stops : Stops
  pub replaced : Replaced
  pub used_again : UsedAgain
  pub without_same : WithoutSame
