-- What a case remembers: entries, use lists and standing pairs. Assumes nothing.
use Rattle.std.specs.Prelude.{ℕ, ◌+◌, Bool, true, false, cond, ◌&&◌, List, [], ◌∷◌, length, Some, None, Option, ◌==◌}
use Rattle.model.specs.declared.items.Step.{Step}

-- a step, with the number of its use list for a congruence; an earlier entry, straight or turned; a mark's first enode
pub data Segment : Type 0 where
  step : Step → Option ℕ → Segment
  entry : ℕ → Bool → Segment
  mark : ℕ → Segment

-- what was filed for a pair: an explanation, or a mark that there is none. The count is of steps, nested entries opened
pub record Entry : Type 0 where
  pub segments : List Segment
  pub count : ℕ
  pub last : ℕ

-- the entries that explain the argument pairs of a congruence, in one use of it
pub record Use : Type 0 where
  pub given : ℕ
  pub members : List ℕ

-- the entry that stands for an ordered pair
pub record Standing : Type 0 where
  pub from : ℕ
  pub to : ℕ
  pub entry : ℕ

-- entries are listed newest first, since each cites earlier ones alone; use lists oldest first
pub record Memory : Type 0 where
  pub entries : List Entry
  pub uses : List Use
  pub standing : List Standing

abbrev pub nothing_filed : Memory
nothing_filed = record { entries = []; uses = []; standing = [] }

abbrev pub is_for : ℕ → ℕ → Standing → Bool
is_for a b s = s.from == a && s.to == b

-- which entry stands for a pair
abbrev pub stands : List Standing → ℕ → ℕ → Option ℕ
stands [] a b = None
stands (s ∷ ss) a b = cond (is_for a b s) (Some s.entry) (stands ss a b)

-- no entry stands for the pair
abbrev pub without : List Standing → ℕ → ℕ → List Standing
without [] a b = []
without (s ∷ ss) a b = cond (is_for a b s) (without ss a b) (s ∷ without ss a b)

-- the use lists of a given, in their order
abbrev pub uses_of : ℕ → List Use → List (List ℕ)
uses_of g [] = []
uses_of g (u ∷ us) = cond (u.given == g) (u.members ∷ uses_of g us) (uses_of g us)

abbrev pub no_entry : Entry
no_entry = record { segments = []; count = 0; last = 0 }

-- entry number n
abbrev pub entry_at : List Entry → ℕ → Entry
entry_at [] n = no_entry
entry_at (e ∷ earlier) n = cond (n == length earlier) e (entry_at earlier n)

abbrev pub is_mark : List Segment → Bool
is_mark [] = false
is_mark (mark e ∷ ss) = true
is_mark (step s u ∷ ss) = false
is_mark (entry n w ∷ ss) = false

-- the entry that an entry of one turned entry turns
abbrev pub turned_entry : List Segment → Option ℕ
turned_entry [] = None
turned_entry (step s u ∷ ss) = None
turned_entry (mark e ∷ ss) = None
turned_entry (entry n true ∷ ss) = None
turned_entry (entry n false ∷ []) = Some n
turned_entry (entry n false ∷ t ∷ ss) = None

-- the segments of all entries, and the members of all use lists
abbrev pub segment_count : List Entry → ℕ
segment_count [] = 0
segment_count (e ∷ es) = length e.segments + segment_count es

abbrev pub member_count : List Use → ℕ
member_count [] = 0
member_count (u ∷ us) = length u.members + member_count us
