-- There are as many places as words.
use Rattle.std.proofs.Common.{◌≡◌, length, ap, ◌∙◌, arith, take_at}
use Rattle.wordlog.specs.Bytes.{words_in}
use Rattle.wordlog.proofs.Words.{words_in_length}
use Rattle.listing.proofs.Filled.{all_filled}
use Rattle.listing.proofs.input.whole_words.Goals as goal

pub returns : goal.returns
returns c =
    let ws = words_in c.args.bytes.now in
    let out = c.deref_mut.result.now in
    let same : length ws ≡ length out = omega (arith, words_in_length c.args.bytes.now, c.deref_mut.ensures.len, c.in_ok-words.ensures.len) in
    let all : c.words_of.new.out ≡ ws = c.words_of.ensures.filled ∙ all_filled ws out same in
    take_at c.words_of.new.out _ _ (omega (arith, ap length all, same, c.deref_mut.ensures.len)) ∙ all
