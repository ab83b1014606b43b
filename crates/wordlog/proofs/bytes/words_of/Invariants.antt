-- The first words stand in front of what was there.
use Rattle.std.proofs.Common.{◌≡◌, ◌++◌, take, drop}
use Rattle.wordlog.specs.Bytes.{words_in}
use Rattle.wordlog.proofs.bytes.words_of.Given as goal

abbrev pub invariant-loop-i : goal.invariant-loop-i
invariant-loop-i l = l.out ≡ take l.i (words_in l.bytes) ++ drop l.i l.initial.out
