-- Asking for a pair. Assumes nothing.
use Rattle.std.specs.Prelude.{ℕ, zero, suc, ◌+◌, ◌-◌, min, Bool, true, false, cond, ◌&&◌, List, [], ◌∷◌, ◌++◌, length, drop, Some, None, Option, ◌==◌, nat_le, nat_lt}
use Rattle.model.specs.declared.items.Pair.{Pair}
use Rattle.model.specs.declared.items.Step.{Step}
use Rattle.model.specs.Records.{Records, args_of, given_at}
use Rattle.model.specs.Refusals.{Refusal}
use Rattle.model.specs.Walks.{Links}
use Rattle.model.specs.Paths.{Path, path}
use Rattle.model.specs.Memory.{Segment, step, entry, mark, Entry, Memory, stands, without, uses_of, entry_at, is_mark, turned_entry, segment_count, member_count}
use Rattle.model.specs.Reading.{reads}
use Rattle.model.specs.Chains.{Edge, kept, spans, chain}
use Rattle.model.specs.Acts.{Act, Done, done, stop, ◌>>=◌, ◌>>◌, pure, refuse_with, need, memory, drop_pair, put_entry, put_use, acts}

-- may a pair without a path be marked: the pair asked for, and the arguments of its chain
pub record Permission : Type 0 where
  pub start : Bool
  pub arguments : Bool

-- how many records the tables of what is remembered have places for
pub record Places : Type 0 where
  pub entries : ℕ
  pub segments : ℕ
  pub pairs : ℕ
  pub lists : ℕ
  pub members : ℕ

-- equal enodes need no explanation; else an entry answers, one on file or a new one
pub data Reply : Type 0 where
  same : ℕ → Reply
  on_file : ℕ → Reply
  filed : ℕ → Reply

abbrev pub filed_by : Reply → Option ℕ
filed_by (same e) = None
filed_by (on_file n) = None
filed_by (filed n) = Some n

-- the numbers of the tables that can be full
abbrev pub entry_table : ℕ
entry_table = 4

abbrev pub segment_table : ℕ
segment_table = 5

abbrev pub pair_table : ℕ
pair_table = 6

abbrev pub list_table : ℕ
list_table = 7

abbrev pub member_table : ℕ
member_table = 8

-- what the looks have found: edges, newest first, and an entry that spans the whole path
pub record Found : Type 0 where
  pub edges : List Edge
  pub spanning : Option ℕ

abbrev pub none_found : Found
none_found = record { edges = []; spanning = None }

abbrev pub same_list : List ℕ → List ℕ → Bool
same_list [] [] = true
same_list [] (y ∷ ys) = false
same_list (x ∷ xs) [] = false
same_list (x ∷ xs) (y ∷ ys) = x == y && same_list xs ys

-- the number of an equal list, of lists numbered from k
abbrev pub place_of : List ℕ → ℕ → List (List ℕ) → Option ℕ
place_of u k [] = None
place_of u k (v ∷ vs) = cond (same_list u v) (Some k) (place_of u (suc k) vs)

-- the links of a question are read once, for its nested ones too; the level is the question's
module _ (next : Links) (records : Records) (places : Places) (level : ℕ) where
  -- a refusal of the question for p
  abbrev pub refusal : Pair → ℕ → List ℕ → Refusal
  refusal p number values = record { number = number; values = values; pair = Some p; level = level; argument = None }

  abbrev pub full : Pair → ℕ → Refusal
  full p table = refusal p 4 (table ∷ [])

  -- the entry stands for the pair, replacing any other; room is needed for the entry, its segments, and a pair where none stands
  abbrev pub file : Pair → Entry → Act Reply
  file p e = do
    m ← memory
    need (nat_lt (length m.entries) (min 65536 places.entries)) (full p entry_table)
    need (nat_le (segment_count m.entries + length e.segments) (min 262144 places.segments)) (full p segment_table)
    need (nat_lt (length (without m.standing p.from p.to)) (min 65536 places.pairs)) (full p pair_table)
    n ← put_entry p e
    pure (filed n)

  -- a kept edge is added; the look stops at one that spans the path
  abbrev pub added : ℕ → Found → (Found → Act Found) → Edge → Bool → Act Found
  added n f on d true = pure (record { edges = d ∷ f.edges; spanning = Some n })
  added n f on d false = on (record { edges = d ∷ f.edges; spanning = None })

  -- entry n, which stands from e to x, is kept as an edge or loses its standing; `on` goes on to the next place
  abbrev pub judged : ℕ → ℕ → ℕ → ℕ → Found → (Found → Act Found) → Option Edge → Act Found
  judged size e x n f on None = do
    drop_pair e x
    on f
  judged size e x n f on (Some d) = added n f on d (spans size d)

  abbrev pub look_at : List Step → ℕ → ℕ → ℕ → ℕ → Found → (Found → Act Found) → Option ℕ → Act Found
  look_at ss i e j x f on None = on f
  look_at ss i e j x f on (Some n) = do
    m ← memory
    judged (length ss) e x n f on (kept (reads m.entries) ss i j n)

  -- a look at place i, whose enode is e, takes what stands from e to the path's enodes, here those from place j on, by rising place
  abbrev pub look : List Step → ℕ → ℕ → ℕ → List ℕ → Found → Act Found
  look ss i e j [] f = pure f
  look ss i e j (x ∷ xs) f = do
    m ← memory
    look_at ss i e j x f (look ss i e (suc j) xs) (stands m.standing e x)

  -- a look at each of k places from place i on, whose enodes come first in the list
  abbrev pub looks : List Step → List ℕ → ℕ → ℕ → List ℕ → Found → Act Found
  looks ss all zero i es f = pure f
  looks ss all (suc k) i [] f = pure f
  looks ss all (suc k) i (e ∷ es) f = do
    g ← look ss i e 0 all f
    looks ss all k (suc i) es g

  -- a refusal out of a nested question names the outermost argument that it came from
  abbrev pub for_argument : ℕ → ℕ → Refusal → Refusal
  for_argument g k r = record { number = r.number; values = r.values; pair = r.pair; level = r.level; argument = Some (record { given = g; place = k }) }

  abbrev pub naming : {A : Type 0} → ℕ → ℕ → Done A → Done A
  naming g k (done a m qs) = done a m qs
  naming g k (stop r m qs) = stop (for_argument g k r) m qs

  -- equal enodes are no member of a use list
  abbrev pub member : Reply → List ℕ → List ℕ
  member (same e) ns = ns
  member (on_file n) ns = n ∷ ns
  member (filed n) ns = n ∷ ns

  module _ (nested : Pair → Act Reply) (p : Pair) where
    -- the argument pairs of given g from place k on, asked in order
    abbrev pub ask_arguments : ℕ → ℕ → List Pair → Act (List ℕ)
    ask_arguments g k [] = pure []
    ask_arguments g k (q ∷ qs) = do
      r ← (λ m. naming g k (nested q m))
      ns ← ask_arguments g (suc k) qs
      pure (member r ns)

    abbrev pub new_use : ℕ → List ℕ → Option ℕ → Act ℕ
    new_use g u (Some k) = pure k
    new_use g u None = do
      m ← memory
      need (nat_lt (length m.uses) (min 65536 places.lists)) (full p list_table)
      need (nat_le (member_count m.uses + length u) (min 262144 places.members)) (full p member_table)
      put_use g u

    -- the number of a use list of given g: an equal list of that given serves again
    abbrev pub use_of : ℕ → List ℕ → Act ℕ
    use_of g u = do
      m ← memory
      new_use g u (place_of u 0 (uses_of g m.uses))

    abbrev pub settle_step : Step → List Pair → Act Segment
    settle_step s [] = pure (step s None)
    settle_step s (q ∷ qs) = do
      u ← ask_arguments s.given 0 (q ∷ qs)
      k ← use_of s.given u
      pure (step s (Some k))

    abbrev pub settle_segment : Segment → Act Segment
    settle_segment (step s u) = settle_step s (args_of (given_at records.givens s.given).kind)
    settle_segment (entry n straight) = pure (entry n straight)
    settle_segment (mark e) = pure (mark e)

    -- each argument pair of the chain's own congruence steps is asked for
    abbrev pub settle : List Segment → Act (List Segment)
    settle [] = pure []
    settle (s ∷ ss) = do
      t ← settle_segment s
      ts ← settle ss
      pure (t ∷ ts)

    abbrev pub settle_and_file : ℕ → List Segment → Act Reply
    settle_and_file n ss = do
      ts ← settle ss
      file p (record { segments = ts; count = n; last = p.to })

    abbrev pub file_mark : Act Reply
    file_mark = file p (record { segments = mark p.from ∷ []; count = 0; last = p.to })

    abbrev pub if_mark : ℕ → Bool → Act Reply
    if_mark n true = pure (on_file n)
    if_mark n false = file_mark

    -- a mark that stands is the answer, else a new one is filed
    abbrev pub marked : Option ℕ → Act Reply
    marked None = file_mark
    marked (Some n) = do
      m ← memory
      if_mark n (is_mark (entry_at m.entries n).segments)

    -- there is no path
    abbrev pub unjoined : Bool → Act Reply
    unjoined false = refuse_with (refusal p 5 (p.from ∷ p.to ∷ []))
    unjoined true = do
      m ← memory
      marked (stands m.standing p.from p.to)

    -- entry e spans the path from its end: if it is one turned entry, the inner one is the answer
    abbrev pub turn_round : ℕ → ℕ → Option ℕ → Act Reply
    turn_round n e (Some inner) = pure (on_file inner)
    turn_round n e None = settle_and_file n (entry e false ∷ [])

    abbrev pub from_end : Path → Found → Option ℕ → Act Reply
    from_end way f (Some e) = do
      m ← memory
      turn_round (length way.steps) e (turned_entry (entry_at m.entries e).segments)
    from_end way f None = do
      g ← looks way.steps way.enodes (length way.steps - 1) 1 (drop 1 way.enodes) f
      settle_and_file (length way.steps) (chain g.edges way.steps)

    abbrev pub from_start : Path → Found → Option ℕ → Act Reply
    from_start way f (Some e) = pure (on_file e)
    from_start way f None = do
      g ← look way.steps (length way.steps) p.to 0 way.enodes f
      from_end way g g.spanning

    abbrev pub joined : Path → Act Reply
    joined way = do
      f ← look way.steps 0 p.from 0 way.enodes none_found
      from_start way f f.spanning

    abbrev pub by_path : Bool → Option Path → Act Reply
    by_path may None = unjoined may
    by_path may (Some way) = joined way

    abbrev pub answer : Bool → Act Reply
    answer may = by_path may (path next (length records.enodes) p.from p.to)

  abbrev pub unless_same : Bool → Pair → Act Reply → Act Reply
  unless_same true p rest = pure (same p.from)
  unless_same false p rest = rest

  -- the enodes are on the books, and equal ones need no explanation
  abbrev pub checked : Pair → Act Reply → Act Reply
  checked p rest = do
    need (nat_lt p.from (length records.enodes)) (refusal p 1 (p.from ∷ []))
    need (nat_lt p.to (length records.enodes)) (refusal p 1 (p.to ∷ []))
    unless_same (p.from == p.to) p rest

  -- the question is told once it has ended
  abbrev pub noted : Pair → Memory → Done Reply → Done Reply
  noted p before (done r m qs) = done r m (qs ++ (record { pair = p; level = level; before = before; filed = filed_by r } ∷ []))
  noted p before (stop r m qs) = stop r m (qs ++ (record { pair = p; level = level; before = before; filed = None } ∷ []))

  abbrev pub put_question : Pair → Act Reply → Act Reply
  put_question p act m = noted p m (checked p act m)

-- below the first question arguments are permitted by the second flag, and below those by none
abbrev pub below : Permission → Permission
below may = record { start = may.arguments; arguments = false }

-- a question with `left` levels above the one that is refused
unfoldable pub ask_at : Links → Records → Places → ℕ → ℕ → Permission → Pair → Act Reply
ask_at next records places zero level may p = put_question next records places level p (refuse_with (refusal next records places level p 6 (p.from ∷ p.to ∷ [])))
ask_at next records places (suc left) level may p =
    put_question next records places level p (answer next records places level (ask_at next records places left (suc level) (below may)) p may.start)

-- level 32 is accepted, level 33 refused
unfoldable pub ask : Links → Records → Places → Permission → Pair → Act Reply
ask next records places = ask_at next records places 33 0

-- what a proof that computes a question unfolds
unfoldable pub asking : Unit {0}
unfolding ask ask_at acts
asking = tt
