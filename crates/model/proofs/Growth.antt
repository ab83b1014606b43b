-- What is filed stays: more entries and more use lists change nothing of the earlier ones. Assumes nothing.
use Rattle.std.proofs.Common.{◌≡◌, ℕ, ◌<◌, ◌≤◌, List, [], ◌∷◌, ◌++◌, length, sym, refl, ap, ◌∙◌, append_assoc, append-nil, arith}
use Rattle.std.proofs.lemmas.List.{length-append}
use Rattle.std.proofs.lemmas.Bool.Decides.{nat_tests}
use Rattle.model.specs.Memory.{Entry, Use, entry_at, uses_of}
use Rattle.model.specs.Reading.{reads}

-- entries are listed newest first
pub record Longer (old new : List Entry) : Type 0 where
  pub newer : List Entry
  pub is : new ≡ newer ++ old

pub longer_self : (es : List Entry) → Longer es es
longer_self es = record { newer = []; is = refl }

pub longer_one : (e : Entry) (es : List Entry) → Longer es (e ∷ es)
longer_one e es = record { newer = e ∷ []; is = refl }

pub longer_trans : {a b c : List Entry} → Longer a b → Longer b c → Longer a c
longer_trans {a} {b} {c} h k = record { newer = k.newer ++ h.newer; is = k.is ∙ ap (λ r. k.newer ++ r) h.is ∙ sym (append_assoc k.newer h.newer a) }

pub longer_length : {a b : List Entry} → Longer a b → length a ≤ length b
longer_length {a} {b} h = omega (arith, ap length h.is, length-append h.newer a)

reads_append : (newer es : List Entry) (n : ℕ) → n < length es → reads (newer ++ es) n ≡ reads es n
reads_append [] es n lt = refl
reads_append (e ∷ newer) es n lt = grind (arith, nat_tests, reads_append newer es n lt, length-append newer es)

entry_append : (newer es : List Entry) (n : ℕ) → n < length es → entry_at (newer ++ es) n ≡ entry_at es n
entry_append [] es n lt = refl
entry_append (e ∷ newer) es n lt = grind (arith, nat_tests, entry_append newer es n lt, length-append newer es)

-- entries on file read as before
pub longer_reads : {a b : List Entry} → Longer a b → (n : ℕ) → n < length a → reads b n ≡ reads a n
longer_reads {a} {b} h n lt = ap (λ es. reads es n) h.is ∙ reads_append h.newer a n lt

pub longer_entry : {a b : List Entry} → Longer a b → (n : ℕ) → n < length a → entry_at b n ≡ entry_at a n
longer_entry {a} {b} h n lt = ap (λ es. entry_at es n) h.is ∙ entry_append h.newer a n lt

-- use lists are listed oldest first
pub record MoreUses (old new : List Use) : Type 0 where
  pub newer : List Use
  pub is : new ≡ old ++ newer

pub more_self : (us : List Use) → MoreUses us us
more_self us = record { newer = []; is = sym (append-nil us) }

pub more_trans : {a b c : List Use} → MoreUses a b → MoreUses b c → MoreUses a c
more_trans {a} {b} {c} h k = record { newer = h.newer ++ k.newer; is = k.is ∙ ap (λ r. r ++ k.newer) h.is ∙ append_assoc a h.newer k.newer }

-- the use lists of a given are numbered as before
pub uses_append : (g : ℕ) (us vs : List Use) → uses_of g (us ++ vs) ≡ uses_of g us ++ uses_of g vs
uses_append g [] vs = refl
uses_append g (u ∷ us) vs = grind (arith, nat_tests, uses_append g us vs)
