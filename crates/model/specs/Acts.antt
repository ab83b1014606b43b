-- Acts on what a case remembers: each answers something or refuses, may write, and tells the questions that were put. Assumes nothing.
use Rattle.std.specs.Prelude.{ℕ, Bool, true, false, List, [], ◌∷◌, ◌++◌, length, Option}
use Rattle.model.specs.declared.items.Pair.{Pair}
use Rattle.model.specs.Refusals.{Refusal}
use Rattle.model.specs.Memory.{Entry, Memory, uses_of, without}

-- a question that was put, nested or not: its pair and level, what was remembered when it was put, and the entry that it filed
pub record Question : Type 0 where
  pub pair : Pair
  pub level : ℕ
  pub before : Memory
  pub filed : Option ℕ

-- what an act comes to; questions are told in the order in which they ended
pub data Done (A : Type 0) : Type 0 where
  done : A → Memory → List Question → Done A
  stop : Refusal → Memory → List Question → Done A

abbrev pub Act : Type 0 → Type 0
Act A = Memory → Done A

unfoldable pub after : {A : Type 0} → List Question → Done A → Done A
after qs (done a m rs) = done a m (qs ++ rs)
after qs (stop r m rs) = stop r m (qs ++ rs)

unfoldable pub and_then : {A B : Type 0} → Done A → (A → Act B) → Done B
unfolding after
and_then (done a m qs) k = after qs (k a m)
and_then (stop r m qs) k = stop r m qs

infixl 20 ◌>>=◌
infixl 20 ◌>>◌
unfoldable pub ◌>>=◌ : {A B : Type 0} → Act A → (A → Act B) → Act B
unfolding and_then
◌>>=◌ act k m = and_then (act m) k

unfoldable pub ◌>>◌ : {A B : Type 0} → Act A → Act B → Act B
unfolding and_then
◌>>◌ act next m = and_then (act m) (λ a. next)

unfoldable pub pure : {A : Type 0} → A → Act A
pure a m = done a m []

unfoldable pub refuse_with : {A : Type 0} → Refusal → Act A
refuse_with r m = stop r m []

-- refuse unless the test passes
unfoldable pub need : Bool → Refusal → Act (Unit {0})
need true r m = done tt m []
need false r m = stop r m []

unfoldable pub memory : Act Memory
memory m = done m m []

-- the three writes

-- no entry stands for the pair any more
unfoldable pub drop_pair : ℕ → ℕ → Act (Unit {0})
drop_pair a b m = done tt (record { entries = m.entries; uses = m.uses; standing = without m.standing a b }) []

-- a new entry, which stands for the pair
unfoldable pub put_entry : Pair → Entry → Act ℕ
put_entry p e m = done (length m.entries) (record {
  entries = e ∷ m.entries;
  uses = m.uses;
  standing = record { from = p.from; to = p.to; entry = length m.entries } ∷ without m.standing p.from p.to;
}) []

-- one more use list of a given, which answers its number among those
unfoldable pub put_use : ℕ → List ℕ → Act ℕ
put_use g u m = done (length (uses_of g m.uses)) (record {
  entries = m.entries;
  uses = m.uses ++ (record { given = g; members = u } ∷ []);
  standing = m.standing;
}) []

-- names all of them on one `unfolding` line: a proof that computes an act says `unfolding acts`
unfoldable pub acts : Unit {0}
unfolding after and_then ◌>>=◌ ◌>>◌ pure refuse_with need memory drop_pair put_entry put_use
acts = tt
