use Rattle.std.proofs.Common.{◌+◌, ◌-◌, length, drop, arith}
use Rattle.std.proofs.lemmas.List.{length-take-le, length-drop}
use Rattle.egraph.specs.Graph.{frames_of, givens_on_file, size_on_file}
use Rattle.egraph.proofs.WriteSteps.{path_parts}
use Rattle.egraph.proofs.egraph.EGraph.write_steps.Goals as goal

pub write_links-requires : goal.write_links-requires
write_links-requires g c =
    let s = c.args.self.now in
    let f = c.args.found in
    let parts = path_parts (frames_of s).counts (givens_on_file s) (size_on_file s) s.ends_filed c.args.pair c.requires.from c.requires.to c.args.walks.now f c.requires.found c.rising-rising.result c.falling-falling.result (omega arith) (omega arith) in
    record { known = parts.up_known; places = omega (arith, parts.up_few, c.requires.places) }

pub write_links-requires-2 : goal.write_links-requires-2
write_links-requires-2 g c =
    let s = c.args.self.now in
    let f = c.args.found in
    let n = c.rising-rising.result in
    let once = c.write_links.new.steps in
    let parts = path_parts (frames_of s).counts (givens_on_file s) (size_on_file s) s.ends_filed c.args.pair c.requires.from c.requires.to c.args.walks.now f c.requires.found n (f.from_to_root + c.falling-falling.result - f.from_to_root) (omega arith) (omega arith) in
    let behind = length-take-le (length once - n) (drop n once) (omega (arith, length-drop n once)) in
    record { known = parts.down_known; places = omega (arith, behind, c.write_links.auto.steps, parts.down_few, c.requires.places) }
