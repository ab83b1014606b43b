-- The words are a head and what stands behind it; the rest are laws of what is read.
use Rattle.std.proofs.Common.{◌≡◌, ℕ, ◌/◌, ◌%◌, ◌^◌, ◌<◌, List, [], ◌∷◌, length, get_or, drop, sym, refl, subst, ap, ◌∙◌, arith}
use Rattle.std.proofs.lemmas.List.{take_rest}
use Rattle.std.proofs.lemmas.Bool.Decides.{nat_tests}
use Rattle.wordlog.specs.Calls.{front_as}
use Rattle.wordlog.specs.Kinds.{record_number}
use Rattle.wordlog.specs.Reading.{front, front_of, Accepts, Complete}
use Rattle.wordlog.proofs.Numbers.{named, no_record}
use Rattle.wordlog.proofs.Accepted.{front_accepted}
use Rattle.wordlog.proofs.Completeness.{front_complete}
use Rattle.wordlog.proofs.reader.read_call.Goals as goal

front_reads : (ws : List ℕ) → 0 < length ws → front ws ≡ front_of (get_or ws 0 0 / 2 ^ 28) (get_or ws 0 0 % 2 ^ 28) (drop 1 ws)
front_reads [] l = absurd (omega arith)
front_reads (w ∷ ws) l = refl

pub returns-in_err-kind : goal.returns-in_err-kind
returns-in_err-kind c =
    let ws = c.args.words.now in
    let f = front_reads ws (grind (arith, nat_tests)) in
    let none = no_record (get_or ws 0 0 / 2 ^ 28) (get_or ws 0 0 % 2 ^ 28) (drop 1 ws) c.try_from.result c.try_from.ensures (sym c.ok.ensures.value ∙ c.in_err-kind.was) in
    let e : front_as c.from_residual.result ≡ front ws = ap front_as c.from_residual.ensures ∙ sym (f ∙ none) in
    record {
      is = e;
      accepts = subst (Accepts ws) (sym e) (front_accepted ws);
      complete = subst (Complete ws) (sym e) (front_complete ws);
    }

pub returns : goal.returns
returns c =
    let ws = c.args.words.now in
    let t = take_rest ws 1 in
    let f = front_reads ws (grind (arith, nat_tests)) in
    let kind = named record_number (get_or ws 0 0 / 2 ^ 28) c.try_from.result c.in_ok-kind.kind c.try_from.ensures (sym c.ok.ensures.value ∙ c.in_ok-kind.was) in
    let e : front_as c.read_record.result ≡ front ws = cc in
    record {
      is = e;
      accepts = subst (Accepts ws) (sym e) (front_accepted ws);
      complete = subst (Complete ws) (sym e) (front_complete ws);
    }
