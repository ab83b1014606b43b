-- How many enodes there are, by the tables and by the case that they hold. Assumes nothing.
use Rattle.std.proofs.Common.{◌≡◌, length}
use Rattle.std.proofs.lemmas.List.{length-map}
use Rattle.egraph.specs.declared.records.Records.{Records}
use Rattle.egraph.specs.Table.{listed}
use Rattle.egraph.specs.Records.{enode_of}
use Rattle.egraph.specs.View.{records_in, size}

pub size_in : (t : Records) → length (records_in t).enodes ≡ size t
size_in t = length-map (listed t.enodes) enode_of
