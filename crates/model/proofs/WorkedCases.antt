-- The worked cases hold, by computation. Assumes nothing.
use Rattle.std.proofs.Common.{refl}
use Rattle.model.specs.Runs.{calling}
use Rattle.model.specs.WorkedCases.{WorkedCases}

pub worked_cases : WorkedCases
unfolding calling
worked_cases = record {
  same = record { told = refl; leaves = refl };
  again = record { told = refl; leaves = refl };
  part = record { told = refl; leaves = refl };
  circle_of_two = record { told = refl; leaves = refl };
  marked = record { told = refl; leaves = refl };
  settled = record { told = refl; leaves = refl };
  endless = record { told = refl; leaves = refl };
  closed = record { every_told = refl; live_told = refl; live_leaves = refl };
  inner = record { told = refl; none_stands = refl };
  stops = record { told = refl };
  replaced = record { told = refl; now_stands = refl };
  used_again = record { told = refl; uses = refl };
  without_same = record { told = refl; leaves = refl };
}
