-- The walks and the path of a question stand in the scratch; only the path's call refuses.
use Rattle.std.proofs.Common.{◌-◌, length, get_or, Some, sym, refl, ap, ◌∙◌, arith, rules}
use Rattle.egraph.specs.View.{links_in, given_list, size}
use Rattle.listing.specs.Question.{text_unless, answer_text}
use Rattle.listing.proofs.Outcomes.{walk_answered}
use Rattle.listing.proofs.Replies.{links_within, walked, begun, answer_shown}
use Rattle.listing.proofs.scratch.Scratch.find.Goals as goal

pub overflow_sub-root : goal.overflow_sub-root
overflow_sub-root g c =
    let t = c.args.graph.now in
    let s = c.args.self.now in
    let b = begun (g.R.FrameRule.means t.rule).counts (given_list t.records) (size t.records) t.ends_filed c.args.pair s.marks (length s.walks) s.steps (search rules) (search rules) (search rules)
    c.in_ok-steps.steps c.path.new.marks c.path.new.steps c.in_ok-steps.ensures.outcome s.first (search rules) c.in_ok-first.first c.path_to_root.new.marks c.path_to_root.new.path c.in_ok-first.ensures.outcome in
    omega (arith, b.walk.some)

pub returns-in_err-second : goal.returns-in_err-second
returns-in_err-second g c =
    let t = c.args.graph.now in
    let s = c.args.self.now in
    let counts = (g.R.FrameRule.means t.rule).counts in
    let b = begun counts (given_list t.records) (size t.records) t.ends_filed c.args.pair s.marks (length s.walks) s.steps (search rules) (search rules) (search rules)
    c.in_ok-steps.steps c.path.new.marks c.path.new.steps c.in_ok-steps.ensures.outcome s.first (search rules) c.in_ok-first.first c.path_to_root.new.marks c.path_to_root.new.path c.in_ok-first.ensures.outcome in
    absurd (walk_answered _ (size t.records) c.args.pair.to _ c.path_to_root.new.marks s.second _ _ (omega (arith, b.told.known.few)) (omega (arith, b.told.known.few)) b.told.known.to_known b.walk.end_known c.in_err-second.ensures.outcome)

-- the walks and the path are no longer than the tables that they stand in
pub invariant_of-result : goal.invariant_of-result
invariant_of-result g c =
    let t = c.args.graph.now in
    let s = c.args.self.now in
    let counts = (g.R.FrameRule.means t.rule).counts in
    let next = links_in (g.R.FrameRule.means t.rule) t.records in
    let b = begun counts (given_list t.records) (size t.records) t.ends_filed c.args.pair s.marks (length s.walks) s.steps (search rules) (search rules) (search rules)
    c.in_ok-steps.steps c.path.new.marks c.path.new.steps c.in_ok-steps.ensures.outcome s.first (search rules) c.in_ok-first.first c.path_to_root.new.marks c.path_to_root.new.path c.in_ok-first.ensures.outcome in
    let v = walked next (size t.records) (links_within counts (given_list t.records) (size t.records) t.ends_filed) c.args.pair.to (Some (get_or c.path_to_root.new.path (c.in_ok-first.first.len - 1) 0)) c.path_to_root.new.marks s.second c.in_ok-second.second c.path_to_root-2.new.marks c.path_to_root-2.new.path b.told.known.to_known (omega (arith, b.told.known.few)) c.in_ok-second.ensures.outcome in
    record { first_stands = omega (arith, b.walk.few, b.told.known.few); second_stands = omega (arith, v.few, b.told.known.few); steps_stand = b.few }

pub returns : goal.returns
returns g c =
    let t = c.args.graph.now in
    let s = c.args.self.now in
    let counts = (g.R.FrameRule.means t.rule).counts in
    let next = links_in (g.R.FrameRule.means t.rule) t.records in
    let b = begun counts (given_list t.records) (size t.records) t.ends_filed c.args.pair s.marks (length s.walks) s.steps (search rules) (search rules) (search rules)
    c.in_ok-steps.steps c.path.new.marks c.path.new.steps c.in_ok-steps.ensures.outcome s.first (search rules) c.in_ok-first.first c.path_to_root.new.marks c.path_to_root.new.path c.in_ok-first.ensures.outcome in
    let v = walked next (size t.records) (links_within counts (given_list t.records) (size t.records) t.ends_filed) c.args.pair.to _ c.path_to_root.new.marks s.second c.in_ok-second.second c.path_to_root-2.new.marks c.path_to_root-2.new.path b.told.known.to_known (omega (arith, b.told.known.few)) c.in_ok-second.ensures.outcome in
    λ place. answer_shown next (size t.records) c.args.pair c.in_ok-first.first c.in_ok-second.second c.path_to_root.new.path c.path_to_root-2.new.path _ c.in_ok-steps.steps c.path.new.steps s.steps c.if-pair.false b.walk refl v b.told.is
    ∙ ap (λ r. text_unless place r (answer_text next (size t.records) c.args.pair)) (sym b.told.checks)
