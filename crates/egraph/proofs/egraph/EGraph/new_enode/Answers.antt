use Rattle.std.proofs.Common.{refl}
use Rattle.egraph.proofs.Filed.{enode_ends, enode_in_lists}
use Rattle.egraph.proofs.egraph.EGraph.new_enode.Goals as goal

pub invariant_of-self : goal.invariant_of-self
invariant_of-self g c =
    let s = c.args.self.now in
    let t = s.records in
    let filed = c.push.ensures.listed in
    record {
      arguments_filed = s.arguments_filed;
      ends_filed = enode_ends t c.push.new.self _ filed s.ends_filed;
      in_lists = enode_in_lists t c.push.new.self _ filed refl s.ends_filed s.in_lists;
    }
