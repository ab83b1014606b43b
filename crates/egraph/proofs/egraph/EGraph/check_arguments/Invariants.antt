use Rattle.std.proofs.Common.{◌≡◌}
use Rattle.model.specs.Checks.{all_known}
use Rattle.model.specs.Explanations.{pairs_of, pairs_left}
use Rattle.model.specs.Logging.{pair_ends}
use Rattle.egraph.specs.Graph.{size_on_file}
use Rattle.egraph.proofs.egraph.EGraph.check_arguments.Given as goal

-- what is left to check decides
abbrev pub invariant-loop-pair : goal.invariant-loop-pair
invariant-loop-pair g l = all_known (size_on_file l.self) (pair_ends (pairs_of l.fn.arguments.words.now)) ≡ all_known (size_on_file l.self) (pair_ends (pairs_left l.pair-iterator))
