-- A place more is filled by the four bytes at its place.
use Rattle.std.proofs.Common.{◌≡◌, ◌/◌, ◌++◌, [], length, get_or, take, drop, set, refl, ap, ◌∙◌, arith}
use Rattle.std.proofs.lemmas.List.{length-take-le, get_or-take}
use Rattle.std.specs.Simd.{first_chunks}
use Rattle.wordlog.specs.Bytes.{word_from, words_in, fitting}
use Rattle.wordlog.proofs.Words.{words_in_length, chunk_word, filled_more}
use Rattle.wordlog.proofs.bytes.words_of.Goals as goal

pub loop-i-preserved : goal.loop-i-preserved
loop-i-preserved c =
    let bs = c.args.bytes.now in
    let i = c.loop-i.i in
    let n = c.min-count.result in
    let cs = c.as_chunks.result.0.now in
    let few : length (take n cs) ≡ n = length-take-le n cs (omega arith) in
    let chunk : get_or (take n cs) i [] ≡ get_or (first_chunks 4 (length bs / 4) bs) i [] = get_or-take n cs i [] (omega arith) ∙ ap (λ xs. get_or xs i []) c.as_chunks.ensures.front in
    let word : c.word_of.result ≡ get_or (words_in bs) i 0 = c.word_of.ensures ∙ ap (λ four. word_from four 0) chunk ∙ chunk_word (length bs / 4) i bs [] refl (omega arith) in
    ap (λ os. set os i c.word_of.result) c.loop-i.invariant
    ∙ filled_more (words_in bs) c.args.out.now i c.word_of.result (omega (arith, words_in_length bs)) (omega arith) word

pub returns : goal.returns
returns c =
    let ws = words_in c.args.bytes.now in
    let cs = c.as_chunks.result.0.now in
    let few : length (take c.min-count.result cs) ≡ c.min-count.result = length-take-le c.min-count.result cs (omega arith) in
    let count : c.min-count.result ≡ fitting ws c.args.out.now = omega (arith, words_in_length c.args.bytes.now) in
    let all : c.loop-i.i ≡ fitting ws c.args.out.now = omega arith in
    record { count = count; filled = c.loop-i.invariant ∙ ap (λ n. take n ws ++ drop n c.args.out.now) all }
