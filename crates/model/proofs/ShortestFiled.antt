-- Every question of a run, nested or not, that files an explanation files a shortest one. Assumes nothing.
use Rattle.std.proofs.Common.{ℕ}
use Rattle.model.specs.Logging.{Room}
use Rattle.model.specs.Questions.{Places}
use Rattle.model.specs.Runs.{Scratch, links_of, play, reached}
use Rattle.model.specs.RunLaws.{size_of, start, FilesShortest, ShortestFiled}
use Rattle.model.proofs.Passing.{each_map, FilesFor}
use Rattle.model.proofs.Sessions.{play_goes_on, start_in_order}

pub shortest_filed : (limit : ℕ) (room : Room) (places : Places) (scratch : Scratch) → ShortestFiled limit room places scratch
shortest_filed limit room places scratch ms m =
    let s = reached limit (start limit room places scratch) ms in
    let t = play limit s m in
    let entries = t.after.memory.entries in
    each_map (FilesFor (links_of s.case) (size_of s) entries) (FilesShortest s entries) (λ q f. record { shortest = λ n way cs filed _ is c. (f n filed).least way cs is c }) t.questions
    (play_goes_on limit s m (start_in_order limit room places scratch ms)).passes.filed
