-- What the tables of a case stand for, and what always holds of them. Assumes nothing.
use Rattle.std.specs.Prelude.{◌≡◌, ℕ, ◌+◌, min, List, length, nat_le, None}
use Rattle.model.specs.Records as M
use Rattle.model.specs.Records.{arg_count}
use Rattle.model.specs.Frames.{Frames}
use Rattle.model.specs.Walks.{Links, links}
use Rattle.model.specs.Logging.{Case}
use Rattle.model.specs.PathLaws.{EndsKnown}
use Rattle.model.specs.Refusals.{Refusal, full, refusal_of}
use Rattle.model.specs.declared.error.Cause.{Cause}
use Rattle.model.specs.Checks.{Check, require, and_then}
use Rattle.model.specs.declared.error.TableName.TheVariants.{Givens, Arguments}
use Rattle.egraph.specs.declared.records.Records.{Records}
use Rattle.egraph.specs.Table.{listed, places}
use Rattle.egraph.specs.Records.{records_of, givens_of, Listed, Headed, Ranged}

abbrev pub given_list : Records → List M.Given
given_list t = givens_of (listed t.arguments) (listed t.givens)

-- the links that the givens have, by the frames that count
abbrev pub links_in : Frames → Records → Links
links_in m t = links m.counts (given_list t)

-- how many enodes are on the books
abbrev pub size : Records → ℕ
size t = length (listed t.enodes)

abbrev pub records_in : Records → M.Records
records_in t = records_of (listed t.enodes) (listed t.givens) (listed t.arguments)

-- the case that the tables hold, with the frames of a rule
abbrev pub case_of : Frames → Records → Case
case_of m t = record {
  room = record { enodes = places t.enodes; givens = places t.givens; arguments = places t.arguments };
  frames = m;
  records = records_in t;
}

abbrev pub ArgumentsFiled : Records → Type 0
ArgumentsFiled t = Ranged (length (listed t.arguments)) (listed t.givens) × (arg_count (given_list t) ≡ length (listed t.arguments))

abbrev pub EndsFiled : Records → Type 0
EndsFiled t = EndsKnown (given_list t) (size t)

abbrev pub InLists : Records → Type 0
InLists t = Listed (given_list t) (listed t.givens) × Headed (given_list t) (listed t.enodes)

-- the same rows in every table, those on file and those that are free
abbrev pub Unchanged : Records → Records → Type 0
Unchanged t u =
    (u.enodes.rows.now ≡ t.enodes.rows.now) × (u.enodes.len ≡ t.enodes.len)
    × (u.givens.rows.now ≡ t.givens.rows.now) × (u.givens.len ≡ t.givens.len)
    × (u.arguments.rows.now ≡ t.arguments.rows.now) × (u.arguments.len ≡ t.arguments.len)

-- room for a given with that many argument pairs
abbrev pub room_checks : Records → ℕ → Check
room_checks t n =
    and_then (require (nat_le (length (listed t.givens) + 1) (min 65536 (places t.givens))) (full Givens))
    (require (nat_le (length (listed t.arguments) + n) (min 131072 (places t.arguments))) (full Arguments))

-- the refusal for a cause, outside of questions
abbrev pub refuse_for : Cause → Refusal
refuse_for c = refusal_of (record { cause = c; pair = None; level = 0; argument = None })
