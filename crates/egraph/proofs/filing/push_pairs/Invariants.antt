use Rattle.std.proofs.Common.{◌≡◌, ◌+◌, ◌++◌, length}
use Rattle.model.specs.Explanations.{pairs_of, pairs_left}
use Rattle.egraph.specs.Table.{listed, places}
use Rattle.egraph.proofs.filing.push_pairs.Given as goal

-- what is on file and what is left are all of them
abbrev pub invariant-loop-pair : goal.invariant-loop-pair
invariant-loop-pair l =
    (l.table.len + length (pairs_left l.pair-iterator) ≡ l.initial.table.len + length (pairs_of l.fn.pairs.words.now))
    × (places l.table ≡ places l.initial.table)
    × (listed l.table ++ pairs_left l.pair-iterator ≡ listed l.initial.table ++ pairs_of l.fn.pairs.words.now)
