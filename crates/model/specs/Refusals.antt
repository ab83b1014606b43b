-- Refusals by number and values. Assumes nothing.
use Rattle.std.specs.Prelude.{ℕ, List, [], ◌∷◌, Some, None, Ok, Err, Option, Result}
use Rattle.model.specs.declared.items.Pair.{Pair}
use Rattle.model.specs.declared.items.Argument.{Argument}
use Rattle.model.specs.declared.error.TableName.{TableName}
use Rattle.model.specs.declared.error.TableName.TheVariants.{Enodes, Givens, Arguments, FrameCount}
use Rattle.model.specs.declared.error.Cause.{Cause}
use Rattle.model.specs.declared.error.Cause.TheVariants.{UnknownEnode, NotFirstEnd, Full, FrameLimit, OnlyBase, Short, Unreadable}
use Rattle.model.specs.declared.error.Fault.{Fault}

-- what a refused call returns: a number with values; of a question also the pair, how deep it was nested, and the outermost argument that it came from
pub record Refusal : Type 0 where
  pub number : ℕ
  pub values : List ℕ
  pub pair : Option Pair
  pub level : ℕ
  pub argument : Option Argument

abbrev pub table_number : TableName → ℕ
table_number Enodes = 0
table_number Givens = 1
table_number Arguments = 2
table_number FrameCount = 3

abbrev pub number_of : Cause → ℕ
number_of (UnknownEnode e) = 1
number_of (NotFirstEnd e) = 3
number_of (Full t) = 4
number_of (FrameLimit n) = 7
number_of OnlyBase = 8
number_of (Short n) = 9
number_of (Unreadable p) = 10

abbrev pub values_of : Cause → List ℕ
values_of (UnknownEnode e) = e ∷ []
values_of (NotFirstEnd e) = e ∷ []
values_of (Full t) = table_number t ∷ []
values_of (FrameLimit n) = n ∷ []
values_of OnlyBase = 0 ∷ []
values_of (Short n) = n ∷ []
values_of (Unreadable p) = p ∷ []

abbrev pub refusal_of : Fault → Refusal
refusal_of f = record { number = number_of f.cause; values = values_of f.cause; pair = f.pair; level = f.level; argument = f.argument }

-- what a call answers, each refusal by its number and values
abbrev pub told : {A : Type 0} → Result A Fault → Result A Refusal
told (Ok a) = Ok a
told (Err f) = Err (refusal_of f)

-- a refusal outside of questions
abbrev pub refuse : ℕ → ℕ → Refusal
refuse n v = record { number = n; values = v ∷ []; pair = None; level = 0; argument = None }

-- an enode that is not on the books
abbrev pub unknown_enode : ℕ → Refusal
unknown_enode e = refuse 1 e

-- an enode that is not the first end
abbrev pub not_first_end : ℕ → Refusal
not_first_end e = refuse 3 e

-- no space in a table
abbrev pub full : TableName → Refusal
full t = refuse 4 (table_number t)

abbrev pub frame_limit : ℕ → Refusal
frame_limit opened = refuse 7 opened

abbrev pub only_base : Refusal
only_base = refuse 8 0

-- a table that is lent is shorter than needed
abbrev pub short : ℕ → Refusal
short needed = refuse 9 needed

abbrev pub unreadable : ℕ → Refusal
unreadable place = refuse 10 place

-- the same refusal, of the question for a pair
abbrev pub for_pair : Pair → Refusal → Refusal
for_pair p r = record { number = r.number; values = r.values; pair = Some p; level = r.level; argument = r.argument }

-- what the question for a pair answers: a refusal names the pair
abbrev pub asked : {A : Type 0} → Pair → Result A Refusal → Result A Refusal
asked p (Ok a) = Ok a
asked p (Err r) = Err (for_pair p r)
