use Rattle.std.proofs.Common.{◌≤◌, length, sym, ◌∙◌, arith, length-set, rules}
use Rattle.model.proofs.Links.{link_within}
use Rattle.egraph.specs.View.{size}
use Rattle.egraph.proofs.OnWalk.{told_root, walk_again, walk_stops, walk_ends, walk_on}
use Rattle.egraph.proofs.egraph.EGraph.walk.Goals as goal

pub returns-then-guard-at-ne0 : goal.returns-then-guard-at-ne0
returns-then-guard-at-ne0 g c =
    let e = walk_again _ c.args.root _ c.args.from c.args.out.now c.requires.known _ _ c.loop-len.len c.loop-len.at c.loop-len.invariant.0 c.if-guard-at-ne0.true in
    record { walk = e.answer; bounds = e.bounds; marks = search rules; out = e.places }

pub returns-then-eq : goal.returns-then-eq
returns-then-eq g c =
    let room : size c.args.self.now.records ≤ length c.loop-len.guard.bytes.now = omega (arith, c.requires.bytes, c.loop-len.invariant.1, c.fill.ensures.len) in
    let e = walk_stops _ c.args.root _ c.args.from c.args.out.now c.requires.known _ _ c.loop-len.len c.loop-len.at c.loop-len.invariant.0 c.if-guard-at-ne0.false c.requires.places room (told_root c.args.root c.loop-len.at ∙ sym c.if-eq.ensures) in
    record { walk = e.answer; bounds = e.bounds; marks = search rules; out = e.places }

pub returns-in_default : goal.returns-in_default
returns-in_default g c =
    let room : size c.args.self.now.records ≤ length c.loop-len.guard.bytes.now = omega (arith, c.requires.bytes, c.loop-len.invariant.1, c.fill.ensures.len) in
    let e = walk_ends _ c.args.root _ c.args.from c.args.out.now c.requires.known _ _ c.loop-len.len c.loop-len.at c.loop-len.invariant.0 c.if-guard-at-ne0.false c.requires.places room (told_root c.args.root c.loop-len.at ∙ sym c.if-eq.ensures) (sym c.in_default.ensures) in
    record { walk = e.answer; bounds = e.bounds; marks = search rules; out = e.places }

pub loop-len-preserved : goal.loop-len-preserved
loop-len-preserved g c =
    let s = c.args.self.now in
    let room : size s.records ≤ length c.loop-len.guard.bytes.now = omega (arith, c.requires.bytes, c.loop-len.invariant.1, c.fill.ensures.len) in
    let linked = sym c.in-Some.ensures in (
      walk_on _ c.args.root _ c.args.from c.args.out.now c.requires.known _ _ c.loop-len.len c.loop-len.at c.loop-len.invariant.0 c.if-guard-at-ne0.false c.requires.places room (told_root c.args.root c.loop-len.at ∙ sym c.if-eq.ensures) c.in-Some.link linked
          (link_within (g.R.FrameRule.means s.rule).counts _ c.loop-len.at c.in-Some.link linked (size s.records) s.ends_filed),
      length-set c.loop-len.guard.bytes.now c.loop-len.at 1 ∙ c.loop-len.invariant.1,
    )
