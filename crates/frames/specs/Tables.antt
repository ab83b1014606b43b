-- What a table of open frames means. Assumes nothing.
use Rattle.model.specs.Frames.{Frames}
use Rattle.frames.specs.declared.table.FrameTable.{FrameTable}
use Rattle.frames.specs.Counting.{all_below}

-- the frames of a table, where every number handed out counts
abbrev pub handed_out : FrameTable → Frames
handed_out t = all_below t.frames.items t.next
