-- What the calls of a log print and leave behind. Assumes nothing.
use Rattle.std.proofs.Common.{◌≡◌, ℕ, ◌+◌, ◌/◌, ◌%◌, ◌^◌, ◌<◌, Bool, true, false, cond, ◌&&◌, ltb, leb, List, [], ◌∷◌, length, take, drop, Some, None, Ok, Err, Option, Result, sym, refl, ap, ◌∙◌, subst, arith}
use Rattle.std.proofs.lemmas.Bool.Decides.{nat_tests}
use Rattle.model.specs.declared.items.Pair.{Pair}
use Rattle.model.specs.declared.items.EqualityExpl.{EqualityExpl}
use Rattle.model.specs.Refusals.{Refusal}
use Rattle.model.specs.Explanations.{from_of, to_of, kind_of}
use Rattle.model.specs.Frames.{Frames}
use Rattle.model.specs.Logging.{Case, new_given}
use Rattle.model.specs.Format.{Call}
use Rattle.wordlog.specs.declared.call.TransEqAllowed.{TransEqAllowed}
use Rattle.wordlog.specs.declared.call.Call.{Call as CodeCall}
use Rattle.wordlog.specs.declared.call.Call.TheVariants as code
use Rattle.wordlog.specs.Calls.{call_of, call_as}
use Rattle.wordlog.specs.Reading.{Front, front, taking, all_plain, given_from, given_front, ask_front}
use Rattle.wordlog.specs.Log.{Next, next, step, end, moved}
use Rattle.egraph.specs.declared.records.Records.{Records}
use Rattle.egraph.specs.View.{case_of, links_in, size}
use Rattle.egraph.proofs.Sizes.{size_in}
use Rattle.listing.specs.Question.{question_text}
use Rattle.listing.specs.Runs.{refusal_text, call_text, After}

module _ (limit place : ℕ) (call : CodeCall) where
  -- a given is logged under its first end
  pub given_logged : (k k' : Case) (e : EqualityExpl) (under : ℕ) (r : Result ℕ Refusal) → call ≡ code.Given e → under ≡ from_of e →
      ◌≡◌ {A = Result ℕ Refusal × Case} (r, k') (new_given under (from_of e) (to_of e) (kind_of e) k) → (refusal_text place r ≡ call_text limit place k (call_of call)) × After limit k (call_of call) k'
  given_logged k k' e under r is first h =
      let whole = h ∙ ap (λ u. new_given u (from_of e) (to_of e) (kind_of e) k) first in
      (ap (λ o. refusal_text place o.0) whole ∙ ap (λ q. call_text limit place k (call_of q)) (sym is), subst (λ q. After limit k (call_of q) k') (sym is) (ap (λ o. o.1) whole))

  -- a question changes nothing
  pub question_asked : (m : Frames) (t : Records) (may : TransEqAllowed) (p : Pair) → call ≡ code.Ask may p.from p.to →
      (question_text (links_in m t) (size t) p place ≡ call_text limit place (case_of m t) (call_of call)) × After limit (case_of m t) (call_of call) (case_of m t)
  question_asked m t may p is =
      (ap (λ n. question_text (links_in m t) n p place) (sym (size_in t)) ∙ ap (λ q. call_text limit place (case_of m t) (call_of q)) (sym is), subst (λ q. After limit (case_of m t) (call_of q) (case_of m t)) (sym is) refl)

-- how many words a call takes: at least one
abbrev taken : Front → ℕ
taken None = 1
taken (Some p) = p.1

taking_some : (n : ℕ) (c : Option Call) → 0 < taken (taking (n + 1) c)
taking_some n None = omega arith
taking_some n (Some c) = omega arith

given_takes : (kind count : ℕ) (ws : List ℕ) → 0 < taken (given_front kind count ws)
given_takes kind count ws = guarded (leb count (length ws) && all_plain (take count ws)) (taking_some count (given_from kind (take count ws)))
  where
    guarded : (b : Bool) → 0 < taken (taking (count + 1) (given_from kind (take count ws))) → 0 < taken (cond b (taking (count + 1) (given_from kind (take count ws))) None)
    guarded true h = h
    guarded false h = omega arith

ask_takes : (may : ℕ) (ws : List ℕ) → 0 < taken (ask_front may ws)
ask_takes may [] = omega arith
ask_takes may (a ∷ []) = omega arith
ask_takes may (a ∷ b ∷ ws) = grind (arith, nat_tests)

front_takes : (ws : List ℕ) → 0 < taken (front ws)
front_takes [] = omega arith
front_takes (w ∷ ws) =
    let given = given_takes (w % 2 ^ 28 / 2 ^ 24) (w % 2 ^ 28 % 2 ^ 24) ws in
    let ask = ask_takes (w % 2 ^ 28) ws in
    grind (arith, nat_tests)

abbrev behind_of : Next → ℕ
behind_of (Ok p) = p.1
behind_of (Err r) = 0

-- so that the next call lies further on
pub next_further : (ws : List ℕ) (ragged : Bool) (at : ℕ) (c : Call) (behind : ℕ) → next ws ragged at ≡ Ok (Some c, behind) → at < behind
next_further ws ragged at c behind h = go (ltb at (length ws)) ragged h
  where
    stepped : (f : Front) → 0 < taken f → step at f ≡ Ok (Some c, behind) → at < behind
    stepped None t k = absurd (let z : ◌≡◌ {A = ℕ} 0 1 = cc in omega arith)
    stepped (Some p) t k = omega (arith, ap behind_of k)

    go : (b r : Bool) → cond b (step at (front (drop at ws))) (end r at) ≡ Ok (Some c, behind) → at < behind
    go true r k = stepped (front (drop at ws)) (front_takes (drop at ws)) k
    go false true k = absurd (let z : ◌≡◌ {A = ℕ} 0 1 = cc in omega arith)
    go false false k = absurd (let e : ◌≡◌ {A = Option Call × ℕ} (None, at) (Some c, behind) = cc in let f = ap (λ x. x.0) e in let z : ◌≡◌ {A = ℕ} 0 1 = cc in omega arith)

-- what the reader answered is the next call
pub moved_on : (at : ℕ) (n : Next) (o : Option Call) (behind : ℕ) → ◌≡◌ {A = Result (Option Call) Refusal × ℕ} (Ok o, behind) (moved at n) → n ≡ Ok (o, behind)
moved_on at (Ok p) o behind h =
    let f = ap (λ x. x.0) h in
    let call : o ≡ p.0 = cc in
    λ i. Ok (sym call i, sym (ap (λ x. x.1) h) i)
moved_on at (Err r) o behind h = absurd (let f = ap (λ x. x.0) h in let z : ◌≡◌ {A = ℕ} 0 1 = cc in omega arith)

-- the call that was read by the code, as it was told
pub read_as : (o q : Option CodeCall) (behind : ℕ) (m : Result (Option Call) Refusal × ℕ) → o ≡ q → ◌≡◌ {A = Result (Option Call) Refusal × ℕ} (Ok (call_as o), behind) m → ◌≡◌ {A = Result (Option Call) Refusal × ℕ} (Ok (call_as q), behind) m
read_as o q behind m is h = subst (λ n. ◌≡◌ {A = Result (Option Call) Refusal × ℕ} (Ok (call_as n), behind) m) is h

pub stopped : (at : ℕ) (n : Next) (r : Refusal) (behind : ℕ) → ◌≡◌ {A = Result (Option Call) Refusal × ℕ} (Err r, behind) (moved at n) → n ≡ Err r
stopped at (Ok p) r behind h = absurd (let f = ap (λ x. x.0) h in let z : ◌≡◌ {A = ℕ} 0 1 = cc in omega arith)
stopped at (Err e) r behind h = let f = ap (λ x. x.0) h in cc
