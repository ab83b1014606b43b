use Rattle.frames.specs.OpenFrames.{opening_lawful, logging_lawful}
use Rattle.frames.proofs.Running.{open_frames_count}
use Rattle.frames.proofs.laws.open_frames_count.Goals as goal

pub returns : goal.returns
returns c = record { runs = open_frames_count; opening = opening_lawful; logging = logging_lawful }
