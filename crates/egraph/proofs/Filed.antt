-- The tables after a record is filed. Assumes nothing.
use Rattle.std.proofs.Common.{◌≡◌, ℕ, ◌+◌, ◌≤◌, min, ltb, leb, List, [], ◌∷◌, ◌++◌, map, length, None, Ok, Err, sym, ap, ◌∙◌, inl, inr, arith}
use Rattle.std.proofs.lemmas.List.{get_or_append_left, get_or_push, length_push, length-map, map_push}
use Rattle.std.proofs.lemmas.Bool.{cases_lt, ne_eqb}
use Rattle.model.specs.Records as M
use Rattle.model.specs.Records.{given_at, newest}
use Rattle.model.specs.Frames.{Frames, current}
use Rattle.model.specs.Refusals.{Refusal, full}
use Rattle.model.specs.Checks.{Check, require, unless_refused}
use Rattle.model.specs.Logging.{Outcome, enode_added, new_enode}
use Rattle.model.specs.PathLaws.{EndsKnown}
use Rattle.model.specs.declared.error.TableName.TheVariants.{Enodes}
use Rattle.egraph.specs.declared.enode.ENode.{ENode}
use Rattle.egraph.specs.declared.table.Table.{Table}
use Rattle.egraph.specs.declared.records.Records.{Records}
use Rattle.egraph.specs.declared.equality.Kind.{Kind}
use Rattle.model.specs.declared.items.EqualityExpl.{EqualityExpl}
use Rattle.model.specs.Explanations.{from_of, to_of}
use Rattle.egraph.specs.Filing.{row_kind, row_of, enode_under}
use Rattle.egraph.specs.Table.{listed, places}
use Rattle.egraph.specs.Records.{enode_of, no_enode, under, Headed}
use Rattle.egraph.specs.View.{case_of, given_list, size, EndsFiled, InLists}
use Rattle.model.proofs.Links.{newest_skip}
use Rattle.egraph.proofs.GivenChecks.{below_is_room}

-- a new enode has no given
headed_more : (gs : List M.Given) (es : List ENode) (row : ENode) → row.newest ≡ None → EndsKnown gs (length es) → Headed gs es → Headed gs (es ++ (row ∷ []))
headed_more gs es row none known headed e lt = elim (cases_lt e (length es)) [
  | inl below ↦ rw (get_or_append_left es (row ∷ []) no_enode e below) (headed e below)
  | inr above ↦
      let at : length es ≡ e = omega (arith, length_push es row) in
      let no : newest (under e) gs (length gs) ≡ None =
      newest_skip (under e) gs (length gs) 0 (omega arith) (λ k _ lk. ne_eqb (given_at gs k).from e (λ q. omega (arith, (known k lk).0))) in
      rw (get_or_push es row no_enode e at, none, no)
]

known_more : (gs : List M.Given) (n m : ℕ) → n ≤ m → EndsKnown gs n → EndsKnown gs m
known_more gs n m le known k lt = let h = known k lt in (omega (arith, h.0), omega (arith, h.1))

-- room for an enode
abbrev pub enode_room : Records → Check
enode_room t = require (leb (length (listed t.enodes) + 1) (min 65536 (places t.enodes))) (full Enodes)

room_checked : (t : Records) → enode_room t ≡ require (ltb (length (map enode_of (listed t.enodes))) (min 65536 (places t.enodes))) (full Enodes)
room_checked t =
    let limit = min 65536 (places t.enodes) in
    ap (λ b. require b (full Enodes)) (sym (below_is_room (length (listed t.enodes)) limit) ∙ ap (λ n. ltb n limit) (sym (length-map (listed t.enodes) enode_of)))

-- the tables with other enodes
abbrev pub with_enodes : Records → Table ENode 65536 → Records
with_enodes t u = record { enodes = u; givens = t.givens; arguments = t.arguments }

module _ (t : Records) (u : Table ENode 65536) (row : ENode) (filed : listed u ≡ listed t.enodes ++ (row ∷ [])) where
  pub enode_ends : EndsFiled t → EndsFiled (with_enodes t u)
  enode_ends = known_more (given_list t) (size t) (length (listed u)) (rw filed (omega (arith, length_push (listed t.enodes) row)))

  pub enode_in_lists : row.newest ≡ None → EndsFiled t → InLists t → InLists (with_enodes t u)
  enode_in_lists none known lists = (lists.0, rw filed (headed_more (given_list t) (listed t.enodes) row none known lists.1))

  pub enode_outcome : (m : Frames) (n : ℕ) → length (listed t.enodes) ≡ n → places u ≡ places t.enodes → row.frame ≡ (current m.opened).number → Ok tt ≡ enode_room t →
      ◌≡◌ {A = Outcome} (Ok n, case_of m (with_enodes t u)) (new_enode row.owner (case_of m t))
  enode_outcome m n is same frame room =
      let es = listed t.enodes in
      let long : length (map enode_of es) ≡ length es = length-map es enode_of in
      let k = case_of m t in
      let added = enode_added k (record { owner = row.owner; frame = (current m.opened).number }) in
      let done : ◌≡◌ {A = Outcome} (Ok n, case_of m (with_enodes t u)) (Ok (length (map enode_of es)), added) = rw (filed, same, map_push enode_of es row, long, frame, is) in
      done ∙ ap (λ c. unless_refused c k (Ok (length (map enode_of es)), added)) (room ∙ room_checked t)

pub enode_refused : (m : Frames) (t : Records) (owner : ℕ) (r : Refusal) → Err r ≡ enode_room t → ◌≡◌ {A = Outcome} (Err r, case_of m t) (new_enode owner (case_of m t))
enode_refused m t owner r full =
    let k = case_of m t in
    ap (λ c. unless_refused c k (Ok (length k.records.enodes), enode_added k (record { owner = owner; frame = (current k.frames.opened).number }))) (full ∙ room_checked t)

-- the row of a given, by what it was made of
pub row_made : (t : Records) (e : EqualityExpl) (frame from to : ℕ) (kind : Kind) (n : ℕ) (enode : ENode) →
    from ≡ from_of e → to ≡ to_of e → kind ≡ row_kind n e → length (listed t.arguments) ≡ n → enode ≡ enode_under t e →
    record { from = from; to = to; frame = frame; kind = kind; older = enode.newest } ≡ row_of t e frame
row_made t e frame from to kind n enode f l k s h = rw (f, l, k, ← s, h)
