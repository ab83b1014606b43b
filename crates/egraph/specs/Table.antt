-- What a lent table holds. Assumes nothing.
use Rattle.std.specs.Prelude.{ℕ, List, length, take}
use Rattle.egraph.specs.declared.table.Table.{Table}

module _ {T : Type 0} {limit : ℕ} where
  -- the records on file
  abbrev pub listed : Table T limit → List T
  listed t = take t.len t.rows.now

  -- how many records the table has places for
  abbrev pub places : Table T limit → ℕ
  places t = length t.rows.now
