-- The words of the pairs are written behind the two ends.
use Rattle.std.proofs.Common.{◌≡◌, ◌*◌, ◌/◌, length, take, arith}
use Rattle.std.proofs.lemmas.List.{length-take-le}
use Rattle.wordlog.proofs.PairWords.{words_in_pairs}
use Rattle.wordlog.proofs.Records.{congruence_writes}
use Rattle.wordlog.proofs.writer.write_congruence.Goals as goal

pub returns : goal.returns
returns c =
    let ws = c.args.arguments.words.now in
    let n : length (take (length ws / 2 * 2) ws) ≡ length ws / 2 * 2 = length-take-le _ ws (omega arith) in
    congruence_writes c.args.from c.args.to ws _ c.args.out.now _ _ (words_in_pairs ws) (omega arith) c.write_words.ensures
