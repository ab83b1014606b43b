-- A record's words written over a list's first places.
use Rattle.std.proofs.Common.{◌≡◌, ℕ, ◌+◌, ◌-◌, ◌^◌, ◌<◌, ◌≤◌, List, [], ◌∷◌, ◌++◌, length, drop, set, Some, None, Option, sym, ap, ◌∙◌, subst, arith, rules}
use borrow.Rule.Slice.PartMut.{put_mid}
use Rattle.std.proofs.lemmas.List.{places, same_lists}
use Rattle.model.specs.Format.{pair_words, given_head, words, AllPlain, Allowed}
use Rattle.wordlog.specs.Calls.{congruence}
use Rattle.model.specs.Explanations.{pairs_of}
use Rattle.wordlog.specs.Writing.{Puts, PutsGiven, Writes}
use Rattle.wordlog.proofs.PairWords.{pair_words_length}

-- a head, and two parts behind it
pub record_written : (head : ℕ) (first second out : List ℕ) → 1 + length first + length second ≤ length out → put_mid (1 + length first) (1 + length first + length second - (1 + length first)) (put_mid 1 (1 + length first - 1) (set out 0 head) first) second ≡ head ∷ (first ++ second) ++ drop (1 + length first + length second) out
record_written head first second [] l = absurd (omega arith)
record_written head first second (o ∷ out) l = same_lists _ _ (search (rules, places)) (λ k d h. grind (arith, places))

-- the same words under another condition
puts_as : (P Q : Type 0) (us ws before after : List ℕ) (r : Option ℕ) → (P → Q) → (Q → P) → us ≡ ws → Puts P us before r after → Puts Q ws before r after
puts_as P Q us ws before after None forth back e p = (p.0, λ q. subst (λ vs. length before < length vs) e (p.1 (back q)))
puts_as P Q us ws before after (Some n) forth back e p = (forth p.0, p.1 ∙ ap length e, p.2, p.3 ∙ ap (λ vs. vs ++ drop n before) e)

-- part has the words of the pairs
pub congruence_writes : (a b : ℕ) (ws part before after : List ℕ) (r : Option ℕ) → pair_words (pairs_of ws) ≡ part → 0 < length part → PutsGiven 2 (a ∷ b ∷ part) before r after → Writes (congruence a b ws) before r after
congruence_writes a b ws part before after r is some p =
    let n = ap length is in
    let pairs = pair_words_length (pairs_of ws) in
    puts_as (AllPlain (a ∷ b ∷ part) × (length (a ∷ b ∷ part) < 2 ^ 24)) (Allowed (congruence a b ws)) (given_head 2 (length (a ∷ b ∷ part)) ∷ a ∷ b ∷ part) (words (congruence a b ws)) before after r
    (λ q. (q.0.0, q.0.1.0, subst AllPlain (sym is) q.0.1.1, omega arith, omega arith))
    (λ q. ((q.0, (q.1, subst AllPlain is q.2)), omega arith))
    (let head : length (a ∷ b ∷ part) ≡ 2 + length (pair_words (pairs_of ws)) = omega arith in cc)
    p
