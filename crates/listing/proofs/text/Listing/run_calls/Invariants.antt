-- Each call lies further on in the words.
use Rattle.std.proofs.Common.{◌-◌, length}
use Rattle.egraph.specs.View.{case_of}
use Rattle.listing.proofs.Listings.{SoFar}
use Rattle.listing.proofs.text.Listing.run_calls.Given as goal

abbrev pub invariant-calls : goal.invariant-calls
invariant-calls g l =
    SoFar g.R.FrameRule.limit l.log.words.now l.log.ragged (case_of (g.R.FrameRule.means l.initial.graph.rule) l.initial.graph.records) (case_of (g.R.FrameRule.means l.graph.rule) l.graph.records)
    l.initial.self l.self l.reader.log.words.now l.reader.log.ragged l.reader.at

abbrev pub decreases-calls : goal.decreases-calls
decreases-calls g l = length l.reader.log.words.now - l.reader.at
