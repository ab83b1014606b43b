use Rattle.std.proofs.Common.{◌≡◌, ◌+◌, arith}
use Rattle.std.proofs.lemmas.List.{take_all}
use Rattle.model.specs.Refusals.{told}
use Rattle.frames.specs.declared.run.FrameCall.TheVariants.{Open}
use Rattle.frames.specs.Runs.{refusals}
use Rattle.frames.proofs.Running.{run_turn, refused_once, refused_not, refused_few}
use Rattle.frames.proofs.run.run_frames.Goals as goal
use Rattle.frames.proofs.run.run_frames.Goals.{then-is_err, else-is_err}

pub loop-call-preserved : goal.loop-call-preserved
loop-call-preserved g c =
    let rule = g.R.FrameRule in
    let before = c.loop-call in
    let r = c.run_call.result in
    let after = c.run_call.new.rule in
    let many : c.if-is_err.refused ≡ before.refused + refusals (told r) = elim c.if-is_err.branch [
      | then-is_err w ↦ omega (arith, w.refused-is, refused_once r w.if-is_err.ensures.value)
      | else-is_err w ↦ omega (arith, w.refused-is, refused_not r w.if-is_err.ensures.value)
    ] in
    let turn = run_turn rule.limit (rule.means c.args.rule.now) c.args.calls.now before.call-index before.refused (rule.means before.rule) (rule.leaves before.rule) Open (told r) (rule.means after) c.if-is_err.refused c.loop-call-test.true before.invariant.0 c.run_call.ensures (g.met.R.FrameRule.lawful after) many in
    (turn, omega (arith, many, refused_few (told r), before.invariant.1))

pub returns : goal.returns
returns g c = record { reaches = rw (take_all _ _ c.loop-call-test.false) at c.loop-call.invariant.0; lawful = g.met.R.FrameRule.lawful c.loop-call.rule }
