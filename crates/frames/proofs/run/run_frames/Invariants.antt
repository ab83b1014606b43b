use Rattle.std.proofs.Common.{◌≤◌, take}
use Rattle.frames.specs.Runs.{Reaches}
use Rattle.frames.proofs.run.run_frames.Given as goal

-- the calls so far lead to where the rule is
abbrev pub invariant-loop-call : goal.invariant-loop-call
invariant-loop-call g l =
    Reaches g.R.FrameRule.limit (g.R.FrameRule.means l.initial.rule) (take l.call-index l.calls) l.refused (g.R.FrameRule.means l.rule) ×
    (l.refused ≤ l.call-index)
