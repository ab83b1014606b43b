-- Each allowed call is read from its words.
use Rattle.std.proofs.Common.{◌≡◌, ℕ, suc, ◌+◌, ◌^◌, ◌<◌, ◌≤◌, true, List, [], ◌∷◌, ◌++◌, length, take, Some, Option, sym, refl, ap, ◌∙◌, arith}
use Rattle.std.proofs.lemmas.List.{take_at, length-append}
use Rattle.std.proofs.lemmas.Bool.Decides.{nat_tests}
use Rattle.model.specs.declared.items.Pair.{Pair}
use Rattle.model.specs.Records.{Kind, Root, Axiom, Literal, Theory, Unknown, Congruence}
use Rattle.model.specs.Format.{Call, enode, given, open_frame, close_frame, ask, pair_words, given_head, words, Plain, AllPlain, Allowed, GivenAllowed}
use Rattle.wordlog.specs.Reading.{all_plain, given_from, taking, given_front, front, Complete}
use Rattle.wordlog.proofs.Plain.{plain_test}
use Rattle.wordlog.proofs.PairWords.{pair_words_length, pairs_of_words}
use Rattle.wordlog.proofs.Heads.{front_at, given_at}

given_reads : (kind count : ℕ) (ws : List ℕ) (o : Option Call) → count ≤ length ws → true ≡ all_plain (take count ws) → o ≡ given_from kind (take count ws) → taking (count + 1) o ≡ given_front kind count ws
given_reads kind count ws o l p e = grind (arith, nat_tests)

-- a given whose plain words are read, behind a head that counts them
given_front_at : (kind count : ℕ) (us rest : List ℕ) (c : Call) → kind < 16 → count < 2 ^ 24 → count ≡ length us → AllPlain us → Some c ≡ given_from kind us → front (given_head kind count ∷ us ++ rest) ≡ Some (c, suc (length us))
given_front_at kind count us rest c k l n p e =
    let t = take_at us rest count (sym n) in
    let fits : count ≤ length (us ++ rest) = omega (arith, length-append us rest) in
    let plain = plain_test us p in
    let more : count + 1 ≡ suc (length us) = omega arith in
    given_at kind count (us ++ rest) k l
    ∙ sym (given_reads kind count (us ++ rest) (Some c) fits (cc) (cc))
    ∙ ap (λ m. Some (c, m)) more

congruence_from_words : (a b : ℕ) (ps : List Pair) → 1 ≤ length ps → Some (given a b (Congruence ps)) ≡ given_from 2 (a ∷ b ∷ pair_words ps)
congruence_from_words a b ps l =
    let n = pair_words_length ps in
    let e = pairs_of_words ps in
    grind (arith, nat_tests)

number_complete : (kind a b n : ℕ) (rest : List ℕ) (c : Call) → kind < 16 → Plain a × Plain b × Plain n → Some c ≡ given_from kind (a ∷ b ∷ n ∷ []) → front (given_head kind 3 ∷ a ∷ b ∷ n ∷ rest) ≡ Some (c, 4)
number_complete kind a b n rest c k p e = given_front_at kind 3 (a ∷ b ∷ n ∷ []) rest c k (omega arith) refl (p.0, (p.1, (p.2, tt))) e

given_complete : (a b : ℕ) (k : Kind) (rest : List ℕ) → GivenAllowed a b k → front (words (given a b k) ++ rest) ≡ Some (given a b k, length (words (given a b k)))
given_complete a b Root rest p = given_front_at 0 1 (a ∷ []) rest (given a b Root) (omega arith) (omega arith) refl (p.0, tt) (ap (λ e. Some (given a e Root)) p.1)
given_complete a b (Literal n) rest p = number_complete 1 a b n rest (given a b (Literal n)) (omega arith) p refl
given_complete a b (Theory n) rest p = number_complete 3 a b n rest (given a b (Theory n)) (omega arith) p refl
given_complete a b (Unknown n) rest p = number_complete 5 a b n rest (given a b (Unknown n)) (omega arith) p refl
given_complete a b Axiom rest p = given_front_at 4 2 (a ∷ b ∷ []) rest (given a b Axiom) (omega arith) (omega arith) refl (p.0, (p.1, tt)) refl
given_complete a b (Congruence ps) rest p =
    given_front_at 2 (2 + length (pair_words ps)) (a ∷ b ∷ pair_words ps) rest (given a b (Congruence ps)) (omega arith) p.4 (omega arith) (p.0, (p.1, p.2)) (congruence_from_words a b ps p.3)

pub complete : (c : Call) (rest : List ℕ) → Allowed c → front (words c ++ rest) ≡ Some (c, length (words c))
complete (enode owner) rest p = front_at 1 owner rest p
complete (given a b k) rest p = given_complete a b k rest p
complete open_frame rest p = front_at 3 0 rest (omega arith)
complete close_frame rest p = front_at 4 0 rest (omega arith)
complete (ask may a b) rest p = front_at 5 may (a ∷ b ∷ rest) (omega arith) ∙ grind (arith, nat_tests)

pub front_complete : (ws : List ℕ) → Complete ws (front ws)
front_complete ws c rest p e = ap front e ∙ complete c rest p
