-- The tables after a given is filed hold the case with that given, and stay in order. Assumes nothing.
use Rattle.std.proofs.Common.{◌≡◌, Some, ℕ, suc, ◌+◌, ◌<◌, ◌≤◌, true, false, eqb, ◌⊎◌, List, [], ◌∷◌, ◌++◌, map, length, get_or, take, drop, set, Ok, Result, sym, refl, ap, ◌∙◌, inl, inr, add-one, arith, length-append, length-set}
use lib.Seq.{drop-append_seam, take-length}
use Rattle.std.proofs.lemmas.List.{get_or_append_left, get_or_push, length_push, length-map, map_push, map-set, get_or-map, set-get_or, get_or-set_same, get_or-set_other, take-append-le, drop-append-le, length-drop, set_past}
use Rattle.std.proofs.lemmas.Bool.{cases_lt, cases_eq, ne_eqb, eq-eqb}
use Rattle.model.specs.declared.items.Pair.{Pair}
use Rattle.model.specs.declared.items.EqualityExpl.{EqualityExpl}
use Rattle.model.specs.declared.items.EqualityExpl.TheVariants as expl
use Rattle.model.specs.Records as M
use Rattle.model.specs.Records.{given_at, no_given, newest, args_of, arg_count}
use Rattle.model.specs.Frames.{Frames, log_frame}
use Rattle.model.specs.Logging.{Case, Outcome, given_added, given_checks, in_frame, new_given}
use Rattle.model.specs.Checks.{unless_refused}
use Rattle.model.specs.Refusals.{Refusal}
use Rattle.model.specs.Explanations as X
use Rattle.model.specs.Explanations.{from_of, to_of, pairs_of}
use Rattle.egraph.specs.declared.equality.Given.{Given}
use Rattle.egraph.specs.declared.equality.Kind.{Kind}
use Rattle.egraph.specs.declared.equality.Kind.TheVariants.{Root, Literal, Congruence, Theory, Axiom, Unknown}
use Rattle.egraph.specs.declared.records.Records.{Records}
use Rattle.egraph.specs.Table.{listed}
use Rattle.egraph.specs.Records.{enode_of, kind_of, given_of, givens_of, no_enode, no_row, under, past, range_end, Ranged, Listed, Headed}
use Rattle.egraph.specs.View.{case_of, given_list, size, ArgumentsFiled, EndsFiled, InLists}
use Rattle.egraph.specs.Filing.{row_kind, row_of, enode_under, with_newest, GivenFiled}
use Rattle.model.proofs.Links.{newest_append, newest_push}

-- argument pairs behind those of a given do not change it
kind_same : (qs ps : List Pair) (k : Kind) → range_end k ≤ length qs → kind_of (qs ++ ps) k ≡ kind_of qs k
kind_same qs ps Root h = refl
kind_same qs ps (Literal n) h = refl
kind_same qs ps (Congruence start len) h =
    let front : drop start (qs ++ ps) ≡ drop start qs ++ ps = drop-append-le start qs ps (omega arith) in
    let fits : len ≤ length (drop start qs) = rw (length-drop start qs) (omega arith) in
    ap M.Congruence (ap (take len) front ∙ take-append-le len (drop start qs) ps fits)
kind_same qs ps (Theory n) h = refl
kind_same qs ps Axiom h = refl
kind_same qs ps (Unknown n) h = refl

abbrev with_kind : Given → M.Kind → M.Given
with_kind g k = record { from = g.from; to = g.to; frame = g.frame; kind = k }

givens_same : (qs ps : List Pair) (gs : List Given) → Ranged (length qs) gs → givens_of (qs ++ ps) gs ≡ givens_of qs gs
givens_same qs ps [] h = refl
givens_same qs ps (g ∷ gs) h =
    let one : given_of (qs ++ ps) g ≡ given_of qs g = ap (with_kind g) (kind_same qs ps g.kind (h 0 (omega arith))) in
    let rest : givens_of (qs ++ ps) gs ≡ givens_of qs gs = givens_same qs ps gs (λ k lt. h (suc k) (omega arith)) in
    cc (one, rest)

-- a new given's argument pairs are found again
kind_new : (qs : List Pair) (e : EqualityExpl) → kind_of (qs ++ args_of (X.kind_of e)) (row_kind (length qs) e) ≡ X.kind_of e
kind_new qs (expl.Root e) = refl
kind_new qs (expl.Literal a n b) = refl
kind_new qs (expl.Congruence a ps b) =
    let args = pairs_of ps.words.now in
    ap M.Congruence (ap (take (length args)) (drop-append_seam qs args) ∙ take-length args)
kind_new qs (expl.Theory a n b) = refl
kind_new qs (expl.Axiom a b) = refl
kind_new qs (expl.Unknown n a b) = refl

range_new : (n : ℕ) (e : EqualityExpl) → range_end (row_kind n e) ≤ n + length (args_of (X.kind_of e))
range_new n (expl.Root e) = omega arith
range_new n (expl.Literal a x b) = omega arith
range_new n (expl.Congruence a ps b) = omega arith
range_new n (expl.Theory a x b) = omega arith
range_new n (expl.Axiom a b) = omega arith
range_new n (expl.Unknown x a b) = omega arith

arg_count_push : (gs : List M.Given) (g : M.Given) → arg_count (gs ++ (g ∷ [])) ≡ arg_count gs + length (args_of g.kind)
arg_count_push [] g = omega arith
arg_count_push (h ∷ gs) g = let ih = arg_count_push gs g in omega arith

-- what holds at each place of a list, and at one more
push_each : {T : Type 0} (P : ℕ → T → Type 0) (xs : List T) (y d : T) → ((k : ℕ) → k < length xs → P k (get_or xs k d)) → P (length xs) y → (k : ℕ) → k < length (xs ++ (y ∷ [])) → P k (get_or (xs ++ (y ∷ [])) k d)
push_each P xs y d all one k lt = elim (cases_lt k (length xs)) [
  | inl below ↦ rw (get_or_append_left xs (y ∷ []) d k below) (all k below)
  | inr above ↦ let at : length xs ≡ k = omega (arith, length_push xs y) in rw (get_or_push xs y d k at) (rw at at one)
]

module _ (t u : Records) (e : EqualityExpl) (frame : ℕ) (f : GivenFiled t e frame u) (filed : ArgumentsFiled t) where
  abbrev new : M.Given
  new = record { from = from_of e; to = to_of e; frame = frame; kind = X.kind_of e }

  -- one given more
  list_more : given_list u ≡ given_list t ++ (new ∷ [])
  list_more =
      let qs = listed t.arguments in
      let ps = args_of (X.kind_of e) in
      let row = row_of t e frame in
      ap (λ xs. givens_of xs (listed u.givens)) f.arguments
      ∙ ap (givens_of (qs ++ ps)) f.givens
      ∙ map_push (given_of (qs ++ ps)) (listed t.givens) row
      ∙ ap (λ gs. gs ++ (given_of (qs ++ ps) row ∷ [])) (givens_same qs ps (listed t.givens) filed.0)
      ∙ ap (λ k. given_list t ++ (with_kind row k ∷ [])) (kind_new qs e)

  -- a record of an enode stands for the same, whatever its newest given
  enodes_same : map enode_of (listed u.enodes) ≡ map enode_of (listed t.enodes)
  enodes_same = go (cases_lt (from_of e) (length (listed t.enodes)))
    where
      go : (from_of e < length (listed t.enodes)) ⊎ (length (listed t.enodes) ≤ from_of e) → map enode_of (listed u.enodes) ≡ map enode_of (listed t.enodes)
      go (inl lt) =
          ap (map enode_of) f.enodes
          ∙ map-set enode_of (listed t.enodes) (from_of e) (with_newest (enode_under t e) (length (listed t.givens)))
          ∙ ap (λ v. set (map enode_of (listed t.enodes)) (from_of e) v) (sym (get_or-map enode_of (listed t.enodes) (from_of e) no_enode (enode_of no_enode) lt))
          ∙ set-get_or (map enode_of (listed t.enodes)) (from_of e) (enode_of no_enode)
      go (inr ge) = ap (map enode_of) (f.enodes ∙ set_past (listed t.enodes) (from_of e) _ ge)

  pub case_filed : (m m' : Frames) → case_of m' u ≡ given_added (case_of m t) m' new
  case_filed m m' = rw (enodes_same, list_more, f.enode_places, f.given_places, f.argument_places)

  pub arguments_filed : ArgumentsFiled u
  arguments_filed =
      let qs = listed t.arguments in
      let ps = args_of (X.kind_of e) in
      let long : length (listed u.arguments) ≡ length qs + length ps = ap length f.arguments ∙ length-append qs ps in (
        rw (f.givens, long) (push_each (λ k g. range_end g.kind ≤ length qs + length ps) (listed t.givens) (row_of t e frame) no_row (λ k lt. omega (arith, filed.0 k lt)) (range_new (length qs) e)),
        ap arg_count list_more ∙ arg_count_push (given_list t) new ∙ ap (λ n. n + length ps) filed.1 ∙ sym long,
      )

  size_same : size u ≡ size t
  size_same = ap length f.enodes ∙ length-set (listed t.enodes) (from_of e) _

  pub ends_filed : from_of e < size t → to_of e < size t → EndsFiled t → EndsFiled u
  ends_filed from to known =
      rw (list_more, size_same) (push_each (λ k g. (g.from < size t) × (g.to < size t)) (given_list t) new no_given known (from, to))

  rows_long : length (listed t.givens) ≡ length (given_list t)
  rows_long = sym (length-map (listed t.givens) (given_of (listed t.arguments)))

  listed_more : from_of e < size t → InLists t → Listed (given_list u) (listed u.givens)
  listed_more from lists =
      let more = new ∷ [] in
      let old : (k : ℕ) (x : ℕ) → k ≤ length (listed t.givens) → newest (under x) (given_list t ++ more) k ≡ newest (under x) (given_list t) k =
      λ k x le. newest_append (under x) (given_list t) more k (omega (arith, rows_long)) in
      rw (list_more, f.givens) (push_each (λ k g. g.older ≡ newest (under g.from) (given_list t ++ more) k) (listed t.givens) (row_of t e frame) no_row
      (λ k lt. lists.0 k lt ∙ sym (old k (get_or (listed t.givens) k no_row).from (omega arith)))
      (lists.1 (from_of e) from ∙ ap (λ n. newest (under (from_of e)) (given_list t) n) (sym rows_long) ∙ sym (old (length (listed t.givens)) (from_of e) (omega arith))))

  more_long : length (given_list t ++ (new ∷ [])) ≡ suc (length (given_list t))
  more_long = length_push (given_list t) new ∙ add-one (length (given_list t))

  headed_more : from_of e < size t → InLists t → Headed (given_list u) (listed u.enodes)
  headed_more from lists x lt = elim (cases_eq x (from_of e)) [
    | inl same ↦
        let test : eqb (from_of e) x ≡ true = eq-eqb (from_of e) x (sym same) in
        rw (f.enodes, list_more, more_long, newest_push (under x) (given_list t) new, test, same, get_or-set_same (listed t.enodes) (from_of e) (with_newest (enode_under t e) (length (listed t.givens))) no_enode from) (ap Some rows_long)
    | inr other ↦
        let test : eqb (from_of e) x ≡ false = ne_eqb (from_of e) x (λ q. other (sym q)) in
        let low : x < size t = omega (arith, size_same) in
        rw (f.enodes, list_more, more_long, newest_push (under x) (given_list t) new, test, get_or-set_other (listed t.enodes) (from_of e) x (with_newest (enode_under t e) (length (listed t.givens))) no_enode other) (lists.1 x low)
  ]

  pub in_lists : from_of e < size t → InLists t → InLists u
  in_lists from lists = (listed_more from lists, headed_more from lists)

  abbrev answering : ℕ → Case → Outcome
  answering n k = (Ok n, k)

  -- what logging the given answers, and leaves
  pub given_outcome : (m m' : Frames) (n from : ℕ) → n ≡ length (listed t.givens) →
      Ok tt ≡ given_checks from (from_of e) (to_of e) (X.kind_of e) (case_of m t) → ◌≡◌ {A = Result ℕ Refusal × Frames} (Ok frame, m') (log_frame m) →
      ◌≡◌ {A = Outcome} (Ok n, case_of m' u) (new_given from (from_of e) (to_of e) (X.kind_of e) (case_of m t))
  given_outcome m m' n from number checks logged =
      let k = case_of m t in
      let g : ℕ → M.Given = λ x. record { from = from_of e; to = to_of e; frame = x; kind = X.kind_of e } in
      ap (λ c. answering n c) (case_filed m m')
      ∙ ap (λ x. answering x (given_added k m' new)) (number ∙ rows_long)
      ∙ ap (in_frame k g) logged
      ∙ ap (λ c. unless_refused c k (in_frame k g (log_frame m))) checks
