-- A log that has been run up to some place. Assumes nothing.
use Rattle.std.proofs.Common.{◌≡◌, ℕ, Bool, List, [], ◌++◌, length, Some, None, Ok, Err, Result, sym, refl, ap, ◌∙◌, subst, append_assoc, append-nil}
use Rattle.model.specs.Refusals.{Refusal}
use Rattle.model.specs.Frames.{Frames}
use Rattle.model.specs.Logging.{Case, empty_case}
use Rattle.model.specs.Format.{Call}
use Rattle.wordlog.specs.Log.{next, moved, words_read, ragged_read}
use Rattle.lines.specs.Text.{refused_text, totals_text}
use Rattle.listing.specs.Runs.{call_text, After, Prints, ends, stops, goes_on, Adds, Listed}
use Rattle.listing.proofs.Calls.{moved_on, stopped}

-- what was printed so far goes before what the rest of the log prints
pub record SoFar (limit : ℕ) (ws : List ℕ) (ragged : Bool) (first k : Case) (before now : List ℕ) (words : List ℕ) (rag : Bool) (at : ℕ) : Type 0 where
  pub words_are : words ≡ words_read ws
  pub ragged_is : rag ≡ ragged_read ws ragged
  pub text : List ℕ
  pub is : now ≡ before ++ text
  pub prints : (more : List ℕ) (last : Case) → Prints limit (words_read ws) (ragged_read ws ragged) at k more last → Prints limit (words_read ws) (ragged_read ws ragged) 0 first (text ++ more) last

module _ (limit : ℕ) (ws : List ℕ) (ragged : Bool) (first : Case) (before : List ℕ) where
  module _ (k : Case) (now words : List ℕ) (rag : Bool) (at : ℕ) (s : SoFar limit ws ragged first k before now words rag at) where
    next_is : next words rag at ≡ next (words_read ws) (ragged_read ws ragged) at
    next_is = λ i. next (s.words_are i) (s.ragged_is i) at

    -- one call more
    pub called : (c : Call) (behind : ℕ) (k' : Case) (now' words' : List ℕ) (rag' : Bool) → words' ≡ words → rag' ≡ rag →
        ◌≡◌ {A = Result _ Refusal × ℕ} (Ok (Some c), behind) (moved at (next words rag at)) → After limit k c k' → now' ≡ now ++ call_text limit at k c →
        SoFar limit ws ragged first k' before now' words' rag' behind
    called c behind k' now' words' rag' w r read after wrote = record {
      words_are = w ∙ s.words_are;
      ragged_is = r ∙ s.ragged_is;
      text = s.text ++ call_text limit at k c;
      is = wrote ∙ ap (λ t. t ++ call_text limit at k c) s.is ∙ append_assoc before s.text (call_text limit at k c);
      prints = λ more last p.
          subst (λ t. Prints limit (words_read ws) (ragged_read ws ragged) 0 first t last) (sym (append_assoc s.text (call_text limit at k c) more))
          (s.prints (call_text limit at k c ++ more) last (goes_on c behind k' more (sym next_is ∙ moved_on at (next words rag at) (Some c) behind read) after refl p));
    }

    -- the end of the log
    pub ended : (behind : ℕ) → ◌≡◌ {A = Result _ Refusal × ℕ} (Ok None, behind) (moved at (next words rag at)) → Adds limit ws ragged first k before now
    ended behind read = record {
      text = s.text ++ [];
      is = s.is ∙ ap (λ t. before ++ t) (sym (append-nil s.text));
      prints = s.prints [] k (ends behind (sym next_is ∙ moved_on at (next words rag at) None behind read) refl refl);
    }

    -- words that cannot be read
    pub unreadable : (r : Refusal) (behind : ℕ) (now' : List ℕ) → ◌≡◌ {A = Result _ Refusal × ℕ} (Err r, behind) (moved at (next words rag at)) → now' ≡ now ++ refused_text r.number at → Adds limit ws ragged first k before now'
    unreadable r behind now' read wrote = record {
      text = s.text ++ refused_text r.number at;
      is = wrote ∙ ap (λ t. t ++ refused_text r.number at) s.is ∙ append_assoc before s.text (refused_text r.number at);
      prints = s.prints (refused_text r.number at) k (stops r (sym next_is ∙ stopped at (next words rag at) r behind read) refl refl);
    }

-- the whole text of a log, with its last line
pub whole_text : (limit : ℕ) (ws : List ℕ) (ragged : Bool) (m : Frames) (k last : Case) (before mid text : List ℕ) (enodes givens frames : ℕ) → k ≡ empty_case (record { enodes = 128; givens = 128; arguments = 512 }) m → before ≡ [] →
    Adds limit ws ragged k last before mid → enodes ≡ length last.records.enodes → givens ≡ length last.records.givens → frames ≡ length last.frames.opened →
    text ≡ mid ++ totals_text enodes givens frames → Listed limit ws ragged m text
whole_text limit ws ragged m k last before mid text enodes givens frames empty none adds e g f wrote = record {
  last = last;
  calls = adds.text;
  prints = subst (λ c. Prints limit (words_read ws) (ragged_read ws ragged) 0 c adds.text last) empty adds.prints;
  is = wrote ∙ (λ i. (adds.is ∙ ap (λ b. b ++ adds.text) none) i ++ totals_text (e i) (g i) (f i));
}
