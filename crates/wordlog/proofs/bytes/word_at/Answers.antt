-- The four bytes at the place.
use Rattle.std.proofs.Common.{◌≡◌, ◌/◌, ◌<◌, length, get_or, sym, refl, ap, ◌∙◌, arith}
use Rattle.std.proofs.lemmas.Bool.Decides.{nat_tests}
use Rattle.std.specs.Simd.{first_chunks}
use Rattle.wordlog.specs.Bytes.{word_from}
use Rattle.wordlog.proofs.Words.{words_in_at, chunk_word}
use Rattle.wordlog.proofs.bytes.word_at.Goals as goal

pub returns : goal.returns
returns c =
    let bs = c.args.bytes.now in
    let i = c.args.i in
    let w = c.in_ok-four.four.now in
    let l : i < length bs / 4 = grind (arith, nat_tests, c.in_ok-four.ensures.lookup.0, c.as_chunks.ensures.front_len) in
    let chunk : w ≡ get_or (first_chunks 4 (length bs / 4) bs) i w = c.in_ok-four.ensures.lookup.1 ∙ ap (λ cs. get_or cs i w) c.as_chunks.ensures.front in
    (l, c.word_of.ensures ∙ ap (λ four. word_from four 0) chunk ∙ chunk_word (length bs / 4) i bs w refl l ∙ sym (words_in_at bs i l))
