-- Each turn runs the next call of the log, which lies further on.
use Rattle.std.proofs.Common.{◌++◌, length, Some, None, ap, ◌∙◌, arith}
use Rattle.std.proofs.lemmas.Result.{IfOk-weaker}
use Rattle.model.specs.Refusals.{number_of, refusal_of}
use Rattle.egraph.specs.View.{case_of}
use Rattle.wordlog.specs.Calls.{call_of}
use Rattle.wordlog.specs.Log.{next, moved}
use Rattle.lines.specs.Text.{refused_text}
use Rattle.listing.specs.Runs.{call_text}
use Rattle.listing.proofs.Calls.{moved_on, next_further, read_as}
use Rattle.listing.proofs.Listings.{called, ended, unreadable}
use Rattle.listing.proofs.text.Listing.run_calls.Goals as goal

pub calls-smaller : goal.calls-smaller
calls-smaller g c =
    let r = c.calls.reader in
    let s = c.next_call.new.self in
    let n = next r.log.words.now r.log.ragged r.at in
    let read = read_as c.in-Ok-Some.field-0 (Some c.in-Ok-Some.call) s.at (moved r.at n) c.in-Ok-Some.field-0-is c.in-Ok-Some.ensures.outcome in
    let further = next_further r.log.words.now r.log.ragged r.at (call_of c.in-Ok-Some.call) s.at (moved_on r.at n (Some (call_of c.in-Ok-Some.call)) s.at read) in
    omega (arith, ap length c.in-Ok-Some.ensures.words, s.within, further)

pub calls-preserved : goal.calls-preserved
calls-preserved g c =
    let r = c.calls.reader in
    let t = c.calls.graph in
    let u = c.run_call.new.graph in
    let k = case_of (g.R.FrameRule.means t.rule) t.records in
    let s = c.next_call.new.self in
    let read = read_as c.in-Ok-Some.field-0 (Some c.in-Ok-Some.call) s.at (moved r.at (next r.log.words.now r.log.ragged r.at)) c.in-Ok-Some.field-0-is c.in-Ok-Some.ensures.outcome in
    called g.R.FrameRule.limit c.args.log.words.now c.args.log.ragged _ _ k c.calls.self r.log.words.now r.log.ragged r.at c.calls.invariant
    (call_of c.in-Ok-Some.call) s.at (case_of (g.R.FrameRule.means u.rule) u.records) c.run_call.new.self s.log.words.now s.log.ragged
    c.in-Ok-Some.ensures.words c.in-Ok-Some.ensures.ragged read c.in_ok-run_call-in-Ok-Some.ensures.case
    (c.in_ok-run_call-in-Ok-Some.ensures.text ∙ ap (λ p. c.calls.self ++ call_text g.R.FrameRule.limit p k (call_of c.in-Ok-Some.call)) c.place-place.ensures)

pub returns-in-Ok-None : goal.returns-in-Ok-None
returns-in-Ok-None g c =
    let r = c.calls.reader in
    let s = c.next_call.new.self in
    let read = read_as c.in-Ok-None.field-0 None s.at (moved r.at (next r.log.words.now r.log.ragged r.at)) c.in-Ok-None.field-0-is c.in-Ok-None.ensures.outcome in
    ended g.R.FrameRule.limit c.args.log.words.now c.args.log.ragged _ _ _ _ r.log.words.now r.log.ragged r.at c.calls.invariant s.at read

pub returns-in-Err : goal.returns-in-Err
returns-in-Err g c =
    let r = c.calls.reader in
    let f = c.in-Err.fault in
    IfOk-weaker c.show_fault.result _ _
    (λ x e. unreadable g.R.FrameRule.limit c.args.log.words.now c.args.log.ragged _ _ _ c.calls.self r.log.words.now r.log.ragged r.at c.calls.invariant (refusal_of f) c.next_call.new.self.at _ c.in-Err.ensures.outcome
    (e ∙ ap (λ p. c.calls.self ++ refused_text (number_of f.cause) p) c.place-place.ensures))
    c.show_fault.ensures
