-- Logging enodes and givens. Assumes nothing.
use Rattle.std.specs.Prelude.{ℕ, ◌+◌, min, Bool, ◌&&◌, List, [], ◌∷◌, ◌++◌, length, Ok, Err, Option, Result, ◌==◌, nat_le, nat_lt}
use Rattle.model.specs.declared.items.Pair.{Pair}
use Rattle.model.specs.declared.error.TableName.TheVariants.{Enodes, Givens, Arguments}
use Rattle.model.specs.Records.{Enode, Kind, Given, Records, args_of, arg_count, oldest_from}
use Rattle.model.specs.Refusals.{Refusal, not_first_end, full}
use Rattle.model.specs.Frames.{Frames, current, log_frame}
use Rattle.model.specs.Checks.{Check, require, and_then, unless_refused, all_known}

-- how many records the tables of a case have places for
pub record Room : Type 0 where
  pub enodes : ℕ
  pub givens : ℕ
  pub arguments : ℕ

-- one set of tables with one frame rule
pub record Case : Type 0 where
  pub room : Room
  pub frames : Frames
  pub records : Records

-- with nothing on its books
abbrev pub empty_case : Room → Frames → Case
empty_case room m = record { room = room; frames = m; records = record { enodes = []; givens = [] } }

-- what a call answers, and the case after it
abbrev pub Outcome : Type 0
Outcome = Result ℕ Refusal × Case

abbrev pub enode_added : Case → Enode → Case
enode_added k e = record { room = k.room; frames = k.frames; records = record { enodes = k.records.enodes ++ (e ∷ []); givens = k.records.givens } }

abbrev pub new_enode : ℕ → Case → Outcome
new_enode owner k =
    unless_refused (require (nat_lt (length k.records.enodes) (min 65536 k.room.enodes)) (full Enodes)) k
    (Ok (length k.records.enodes), enode_added k (record { owner = owner; frame = (current k.frames.opened).number }))

abbrev pub pair_ends : List Pair → List ℕ
pair_ends [] = []
pair_ends (p ∷ ps) = p.from ∷ p.to ∷ pair_ends ps

-- a given is logged under its first end; its enodes are on the books, and there is room for it and its argument pairs
abbrev pub given_checks : ℕ → ℕ → ℕ → Kind → Case → Check
given_checks under from to kind k =
    and_then (all_known (length k.records.enodes) (under ∷ from ∷ to ∷ pair_ends (args_of kind)))
    (and_then (require (under == from) (not_first_end under))
    (and_then (require (nat_lt (length k.records.givens) (min 65536 k.room.givens)) (full Givens))
    (require (nat_le (arg_count k.records.givens + length (args_of kind)) (min 131072 k.room.arguments)) (full Arguments))))

abbrev pub given_added : Case → Frames → Given → Case
given_added k m g = record { room = k.room; frames = m; records = record { enodes = k.records.enodes; givens = k.records.givens ++ (g ∷ []) } }

abbrev pub in_frame : Case → (ℕ → Given) → Result ℕ Refusal × Frames → Outcome
in_frame k g (Ok frame, m) = (Ok (length k.records.givens), given_added k m (g frame))
in_frame k g (Err r, m) = (Err r, k)

-- the frame's count is checked last
abbrev pub new_given : ℕ → ℕ → ℕ → Kind → Case → Outcome
new_given under from to kind k =
    unless_refused (given_checks under from to kind k) k
    (in_frame k (λ frame. record { from = from; to = to; frame = frame; kind = kind }) (log_frame k.frames))

-- opening and closing frames change nothing but the frames
abbrev pub on_frames : Case → Result ℕ Refusal × Frames → Outcome
on_frames k o = (o.0, record { room = k.room; frames = o.1; records = k.records })

abbrev pub between : ℕ → ℕ → Given → Bool
between from to g = g.from == from && g.to == to

-- an enode's oldest given to an end, whichever frames count
abbrev pub get_given : ℕ → ℕ → Records → Result (Option ℕ) Refusal
get_given from to r =
    and_then (all_known (length r.enodes) (from ∷ to ∷ []))
    (Ok (oldest_from 0 (between from to) r.givens))
