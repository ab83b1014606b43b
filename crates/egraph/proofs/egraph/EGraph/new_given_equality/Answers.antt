use Rattle.model.specs.Explanations.{from_of, to_of, kind_of}
use Rattle.egraph.proofs.GivenChecks.{passed}
use Rattle.egraph.proofs.GivenFiled.{given_outcome, arguments_filed, ends_filed, in_lists}
use Rattle.egraph.proofs.egraph.EGraph.new_given_equality.Goals as goal

pub file_given-requires : goal.file_given-requires
file_given-requires g c =
    let s = c.args.self.now in
    let e = c.args.expl in
    let p = passed (g.R.FrameRule.means s.rule) s.records s.arguments_filed c.args.from (from_of e) (to_of e) (kind_of e) c.in_ok-check_given.ensures in
    record { known = p.from_known; given_room = p.given_room; argument_room = p.argument_room }

pub invariant_of-self-2 : goal.invariant_of-self-2
invariant_of-self-2 g c =
    let s = c.args.self.now in
    let e = c.args.expl in
    let t = s.records in
    let u = c.file_given.new.self in
    let f = c.file_given.ensures.filed in
    let p = passed (g.R.FrameRule.means s.rule) t s.arguments_filed c.args.from (from_of e) (to_of e) (kind_of e) c.in_ok-check_given.ensures in
    record {
      arguments_filed = arguments_filed t u e _ f s.arguments_filed;
      ends_filed = ends_filed t u e _ f s.arguments_filed p.from_known p.to_known s.ends_filed;
      in_lists = in_lists t u e _ f s.arguments_filed p.from_known s.in_lists;
    }

pub returns : goal.returns
returns g c =
    let s = c.args.self.now in
    let means = g.R.FrameRule.means in
    record {
      outcome =
          given_outcome s.records c.file_given.new.self c.args.expl _ c.file_given.ensures.filed s.arguments_filed (means s.rule) (means c.log_given.new.self) c.file_given.result c.args.from
          c.file_given.ensures.number c.in_ok-check_given.ensures c.in_ok-frame.ensures.outcome;
      kept = tt;
    }
