-- Memories in order: what stands is on file, entries cite earlier ones, marks read as no steps. Assumes nothing.
use Rattle.std.proofs.Common.{◌≡◌, ℕ, ◌<◌, ◌≤◌, Bool, true, false, eqb, List, [], ◌∷◌, length, Some, None, sym, refl, ap, ◌∙◌, append-nil, arith}
use Rattle.std.proofs.lemmas.Bool.Decides.{nat_tests}
use Rattle.std.specs.List.{AllByRecursion as All}
use Rattle.model.specs.declared.items.Pair.{Pair}
use Rattle.model.specs.declared.items.Step.{Step}
use Rattle.model.specs.Records.{turned}
use Rattle.model.specs.Memory.{Segment, entry, Entry, Use, Standing, Memory, nothing_filed, stands, without, entry_at, is_mark, turned_entry}
use Rattle.model.specs.Reading.{reads, segments_steps}
use Rattle.model.proofs.Steps.{turned_turned}
use Rattle.model.proofs.Growth.{MoreUses, longer_one, longer_reads}
use Rattle.model.proofs.Citations.{Cited, CitedEarlier, cited_earlier_more}

without_gone : (ss : List Standing) (a b : ℕ) → stands (without ss a b) a b ≡ None
without_gone [] a b = refl
without_gone (s ∷ ss) a b = grind (arith, nat_tests, without_gone ss a b)

-- dropping a pair makes nothing stand
pub without_stands : (ss : List Standing) (a b x y n : ℕ) → stands (without ss a b) x y ≡ Some n → stands ss x y ≡ Some n
without_stands [] a b x y n h = h
without_stands (s ∷ ss) a b x y n h = grind (arith, nat_tests, without_gone ss a b, without_stands ss a b x y n)

pub record Sound (m : Memory) : Type 0 where
  pub standing : (a b n : ℕ) → stands m.standing a b ≡ Some n → n < length m.entries
  pub cited : CitedEarlier m.uses m.entries
  pub marks : (n : ℕ) → is_mark (entry_at m.entries n).segments ≡ true → reads m.entries n ≡ []

pub sound_none : Sound nothing_filed
sound_none = record { standing = λ a b n h. absurd (cc); cited = tt; marks = λ n h. refl }

pub sound_dropped : (m : Memory) (a b : ℕ) → Sound m → Sound (record { entries = m.entries; uses = m.uses; standing = without m.standing a b })
sound_dropped m a b s = record { standing = λ x y n h. s.standing x y n (without_stands m.standing a b x y n h); cited = s.cited; marks = s.marks }

pub sound_used : (m : Memory) (us : List Use) → MoreUses m.uses us → Sound m → Sound (record { entries = m.entries; uses = us; standing = m.standing })
sound_used m us more s = record { standing = s.standing; cited = cited_earlier_more more m.entries s.cited; marks = s.marks }

-- the newest entry
pub reads_newest : (e : Entry) (es : List Entry) → reads (e ∷ es) (length es) ≡ segments_steps (reads es) e.segments
reads_newest e es = grind (arith, nat_tests)

pub newest_entry : (e : Entry) (es : List Entry) → entry_at (e ∷ es) (length es) ≡ e
newest_entry e es = grind (arith, nat_tests)

-- one more entry, which stands for the pair
abbrev pub with_entry : Pair → Entry → Memory → Memory
with_entry p e m = record {
  entries = e ∷ m.entries;
  uses = m.uses;
  standing = record { from = p.from; to = p.to; entry = length m.entries } ∷ without m.standing p.from p.to;
}

pub sound_filed : (m : Memory) (p : Pair) (e : Entry) → All (Cited m.uses (length m.entries)) e.segments → (is_mark e.segments ≡ true → segments_steps (reads m.entries) e.segments ≡ []) → Sound m →
    Sound (with_entry p e m)
sound_filed m p e cites bare s = record {
  standing = λ x y n q.
      let old : stands (without m.standing p.from p.to) x y ≡ Some n → n < length m.entries = λ r. s.standing x y n (without_stands m.standing p.from p.to x y n r) in
      grind (arith, nat_tests, old);
  cited = (cites, s.cited);
  marks = λ n h. grind (arith, nat_tests, bare, s.marks n);
}

-- an entry that is not on file reads as nothing
pub reads_past : (es : List Entry) (n : ℕ) → length es ≤ n → reads es n ≡ []
reads_past [] n h = refl
reads_past (e ∷ es) n h = grind (arith, nat_tests, reads_past es n)

turned_entry_is : (segs : List Segment) (inner : ℕ) → turned_entry segs ≡ Some inner → segs ≡ entry inner false ∷ []
turned_entry_is segs inner h = grind arith

module _ (ss : List Step) (some : 0 < length ss) where
  -- an entry with steps is on file
  pub reads_filed : (es : List Entry) (n : ℕ) → reads es n ≡ ss → n < length es
  reads_filed es n h = grind (arith, reads_past es n)

  -- and is no mark
  pub reads_no_mark : (m : Memory) → Sound m → (n : ℕ) → reads m.entries n ≡ ss → is_mark (entry_at m.entries n).segments ≡ false
  reads_no_mark m s n h = grind (arith, s.marks n)

  reads_more : (x : Entry) (es : List Entry) (n : ℕ) → reads es n ≡ ss → reads (x ∷ es) n ≡ ss
  reads_more x es n h = longer_reads (longer_one x es) n (reads_filed es n h) ∙ h

  -- the entry that an entry turns reads the other way
  pub reads_inner : (es : List Entry) (e inner : ℕ) → turned_entry (entry_at es e).segments ≡ Some inner → reads es e ≡ turned ss → reads es inner ≡ ss
  reads_inner [] e inner t h = absurd (cc)
  reads_inner (x ∷ es) e inner t h = go (eqb e (length es)) refl (reads_inner es e inner)
    where
      go : (b : Bool) → eqb e (length es) ≡ b → (turned_entry (entry_at es e).segments ≡ Some inner → reads es e ≡ turned ss → reads es inner ≡ ss) → reads (x ∷ es) inner ≡ ss
      go true q ih =
          let t' : turned_entry x.segments ≡ Some inner = rw (q, entry_at) at t in
          let h' : segments_steps (reads es) x.segments ≡ turned ss = rw (q, reads) at h in
          let one : turned (reads es inner) ≡ turned ss = sym (append-nil (turned (reads es inner))) ∙ ap (segments_steps (reads es)) (sym (turned_entry_is x.segments inner t')) ∙ h' in
          reads_more x es inner (sym (turned_turned (reads es inner)) ∙ ap turned one ∙ turned_turned ss)
      go false q ih = reads_more x es inner (ih (rw (q, entry_at) at t) (rw (q, reads) at h))
