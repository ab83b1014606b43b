-- The givens under an enode: along the list that their records make they are all that are under it, and a link and an oldest given are found among them. Assumes nothing.
use Rattle.std.proofs.Common.{◌≡◌, ℕ, zero, suc, ◌+◌, ◌<◌, ◌≤◌, Bool, true, false, cond, eqb, List, [], ◌∷◌, length, get_or, take, Some, None, Option, sym, refl, ap, ◌∙◌, inl, inr, add-zero, zero-add, arith}
use Rattle.std.specs.List.{find, filter, last_or}
use Rattle.std.specs.Option.{option_map}
use Rattle.std.proofs.lemmas.List.{get_or-map, length-map, length-take-le, take_all}
use Rattle.std.proofs.lemmas.Bool.{eqb-true, cases_Bool, cases_eq}
use Rattle.model.specs.declared.items.Link.{Link}
use Rattle.model.specs.Records.{Given, no_given, given_at, newest, oldest_from}
use Rattle.model.specs.Walks.{links, as_link, counting}
use Rattle.model.specs.Logging.{between}
use Rattle.model.proofs.Links.{Newest, newest_found, newest_none}
use Rattle.egraph.specs.declared.equality.Given.{Given as Row}
use Rattle.egraph.specs.declared.records.Records.{Records}
use Rattle.egraph.specs.Table.{listed}
use Rattle.egraph.specs.Records.{given_of, no_row, no_enode, under, past}
use Rattle.egraph.specs.GivensUnder.{newest_first, OlderNamed, some_back, givens_back}
use Rattle.egraph.specs.View.{given_list, size, InLists}

module _ (rows : List Row) (older : OlderNamed rows) where
  -- it makes no difference how many more there may be
  same_back : (m n : ℕ) (next : Option ℕ) → past next ≤ length rows → past next ≤ m → past next ≤ n → some_back m rows next ≡ some_back n rows next
  same_back zero zero None filed low high = refl
  same_back zero (suc n) None filed low high = refl
  same_back (suc m) zero None filed low high = refl
  same_back (suc m) (suc n) None filed low high = refl
  same_back zero n (Some k) filed low high = absurd (omega arith)
  same_back (suc m) zero (Some k) filed low high = absurd (omega arith)
  same_back (suc m) (suc n) (Some k) filed low high =
      let falls = older k (omega arith) in
      ap (λ xs. (k, get_or rows k no_row) ∷ xs) (same_back m n (get_or rows k no_row).older (omega arith) (omega arith) (omega arith))

  pub back_more : (next : Option ℕ) (k : ℕ) → next ≡ Some k → past next ≤ length rows → givens_back rows next ≡ (k, get_or rows k no_row) ∷ givens_back rows (get_or rows k no_row).older
  back_more next k is filed =
      let number = ap past is in
      let falls = older k (omega arith) in
      ap (givens_back rows) is ∙ ap (λ xs. (k, get_or rows k no_row) ∷ xs) (same_back k (past (get_or rows k no_row).older) (get_or rows k no_row).older (omega arith) (omega arith) (omega arith))

-- below a number from which on none is under the enode, nothing is missed
first_skip : (e : ℕ) (rows : List Row) (n k : ℕ) → k ≤ n → ((j : ℕ) → k ≤ j → j < n → eqb (get_or rows j no_row).from e ≡ false) → newest_first e rows n ≡ newest_first e rows k
first_skip e rows zero k le fail = let none : k ≡ 0 = omega arith in ap (newest_first e rows) (sym none)
first_skip e rows (suc n) k le fail = elim (cases_eq k (suc n)) [
  | inl q ↦ ap (newest_first e rows) (sym q)
  | inr ne ↦ rw (fail n (omega arith) (omega arith)) (first_skip e rows n k (omega arith) (λ j low high. fail j low (omega arith)))
]

newest_past : (test : Given → Bool) (gs : List Given) (n : ℕ) → past (newest test gs n) ≤ n
newest_past test gs zero = omega arith
newest_past test gs (suc n) = let ih = newest_past test gs n in elim (cases_Bool (test (given_at gs n))) [ inl e ↦ rw e (omega arith) | inr e ↦ rw e (omega arith) ]

-- the link that a given makes, by its number and row
abbrev pub link_of : ℕ × Row → Link
link_of p = record { given = p.0; to = p.1.to }

abbrev pub number : ℕ × Row → ℕ
number p = p.0

module _ (t : Records) where
  abbrev rows : List Row
  rows = listed t.givens

  abbrev row : ℕ → Row
  row n = get_or rows n no_row

  rows_long : length (given_list t) ≡ length rows
  rows_long = length-map rows (given_of (listed t.arguments))

  pub given_count : length (given_list t) ≡ t.givens.len
  given_count = rows_long ∙ length-take-le t.givens.len t.givens.rows.now t.givens.in_rows

  -- a given by its row
  given_row : (n : ℕ) → n < length rows → given_at (given_list t) n ≡ given_of (listed t.arguments) (row n)
  given_row n lt = get_or-map (given_of (listed t.arguments)) rows n no_row no_given lt

  under_row : (e n : ℕ) → n < length rows → under e (given_at (given_list t) n) ≡ eqb (row n).from e
  under_row e n lt = ap (under e) (given_row n lt)

  module _ (lists : InLists t) where
    pub older_named : OlderNamed rows
    older_named k lt = omega (arith, ap past (lists.0 k lt), newest_past (under (row k).from) (given_list t) k)

    pub newest_filed : (e : ℕ) → e < size t → past (get_or (listed t.enodes) e no_enode).newest ≤ length rows
    newest_filed e lt = omega (arith, ap past (lists.1 e lt), newest_past (under e) (given_list t) (length (given_list t)), rows_long)

    module _ (e : ℕ) where
      back_none : (bound : ℕ) → bound ≤ length rows → newest (under e) (given_list t) bound ≡ None → [] ≡ newest_first e rows bound
      back_none bound low none = sym (first_skip e rows bound 0 (omega arith) (λ j _ lt. sym (under_row e j (omega arith)) ∙ newest_none (under e) (given_list t) bound none j lt))

      back_from : (most : ℕ) (next : Option ℕ) (bound : ℕ) → past next ≤ most → bound ≤ length rows → next ≡ newest (under e) (given_list t) bound → some_back most rows next ≡ newest_first e rows bound
      back_from zero None bound few low is = back_none bound low (sym is)
      back_from zero (Some n) bound few low is = absurd (omega arith)
      back_from (suc most) None bound few low is = back_none bound low (sym is)
      back_from (suc most) (Some n) bound few low is =
          let found : Newest (under e) (given_list t) bound n = newest_found (under e) (given_list t) bound n (sym is) in
          let filed : n < length rows = omega (arith, found.below) in
          let passes : eqb (row n).from e ≡ true = sym (under_row e n filed) ∙ found.passes in
          let begins : (row n).from ≡ e = eqb-true (row n).from e passes in
          let falls = older_named n filed in
          let rest : some_back most rows (row n).older ≡ newest_first e rows n =
          back_from most (row n).older n (omega arith) (omega arith) (lists.0 n filed ∙ ap (λ x. newest (under x) (given_list t) n) begins) in
          let skipped : newest_first e rows bound ≡ newest_first e rows (suc n) =
          first_skip e rows bound (suc n) found.below (λ j high lt. sym (under_row e j (omega arith)) ∙ found.newer_fail j high lt) in
          rw (skipped, passes) (ap (λ xs. (n, row n) ∷ xs) rest)

      pub all_back : e < size t → givens_back rows (get_or (listed t.enodes) e no_enode).newest ≡ newest_first e rows (length rows)
      all_back lt = back_from _ _ (length rows) (omega arith) (omega arith) (lists.1 e lt ∙ ap (λ n. newest (under e) (given_list t) n) rows_long)

  -- the link is the first whose frame counts
  module _ (counts : ℕ → Bool) (e : ℕ) where
    first_counts : (n : ℕ) → n ≤ length rows → as_link (given_list t) (newest (counting counts e) (given_list t) n) ≡ option_map link_of (find (λ p. counts p.1.frame) (newest_first e rows n))
    first_counts zero le = refl
    first_counts (suc n) le =
        let ih = first_counts n (omega arith) in
        let same = given_row n (omega arith) in
        elim (cases_Bool (eqb (row n).from e)) [
          | inl u ↦ elim (cases_Bool (counts (row n).frame)) [
            | inl c ↦ rw (same, u, c) (ap (λ g. Some (record { given = n; to = g.to })) same)
            | inr c ↦ rw (same, u, c) ih
          ]
          | inr u ↦ rw (same, u) ih
        ]

    pub link_found : option_map link_of (find (λ p. counts p.1.frame) (newest_first e rows (length rows))) ≡ links counts (given_list t) e
    link_found = sym (first_counts (length rows) (omega arith)) ∙ ap (λ n. as_link (given_list t) (newest (counting counts e) (given_list t) n)) (sym rows_long)

abbrev or_else : Option ℕ → Option ℕ → Option ℕ
or_else None p = p
or_else (Some n) p = Some n

or_none : (o : Option ℕ) → or_else o None ≡ o
or_none None = refl
or_none (Some n) = refl

or_some : (o p : Option ℕ) (n : ℕ) → or_else (or_else o (Some n)) p ≡ or_else o (Some n)
or_some None p n = refl
or_some (Some m) p n = refl

-- one given more
oldest_more : (test : Given → Bool) (k : ℕ) (gs : List Given) (n : ℕ) → n < length gs → oldest_from k test (take (suc n) gs) ≡ or_else (oldest_from k test (take n gs)) (cond (test (given_at gs n)) (Some (k + n)) None)
oldest_more test k [] n lt = absurd (omega arith)
oldest_more test k (g ∷ gs) zero lt = ap (λ m. cond (test g) (Some m) None) (sym (add-zero k))
oldest_more test k (g ∷ gs) (suc n) lt =
    let next : suc k + n ≡ k + suc n = omega arith in
    let ih = oldest_more test (suc k) gs n (omega arith) in
    elim (cases_Bool (test g)) [
      | inl e ↦ rw e
      | inr e ↦ rw e (ih ∙ ap (λ m. or_else (oldest_from (suc k) test (take n gs)) (cond (test (given_at gs n)) (Some m) None)) next)
    ]

-- the oldest given between two enodes is the last that leads to the second
module _ (t : Records) (from to : ℕ) where
  abbrev pub leading : List (ℕ × Row) → List (ℕ × Row)
  leading = filter (λ p. eqb p.1.to to)

  last_leads : (n : ℕ) (o : Option (ℕ × Row)) → n ≤ length (rows t) → option_map number (last_or o (leading (newest_first from (rows t) n))) ≡ or_else (oldest_from 0 (between from to) (take n (given_list t))) (option_map number o)
  last_leads zero o le = refl
  last_leads (suc n) o le =
      let more = oldest_more (between from to) 0 (given_list t) n (omega (arith, rows_long t)) in
      let same = given_row t n (omega arith) in
      let before = oldest_from 0 (between from to) (take n (given_list t)) in
      elim (cases_Bool (eqb (row t n).from from)) [
        | inl u ↦ elim (cases_Bool (eqb (row t n).to to)) [
          | inl l ↦ rw (more, same, u, l, zero-add n) (last_leads n (Some (n, row t n)) (omega arith) ∙ sym (or_some before (option_map number o) n))
          | inr l ↦ rw (more, same, u, l) (last_leads n o (omega arith) ∙ ap (λ b. or_else b (option_map number o)) (sym (or_none before)))
        ]
        | inr u ↦ rw (more, same, u) (last_leads n o (omega arith) ∙ ap (λ b. or_else b (option_map number o)) (sym (or_none before)))
      ]

  pub oldest_found : option_map number (last_or None (leading (newest_first from (rows t) (length (rows t))))) ≡ oldest_from 0 (between from to) (given_list t)
  oldest_found = last_leads (length (rows t)) None (omega arith) ∙ or_none _ ∙ ap (oldest_from 0 (between from to)) (take_all (length (rows t)) (given_list t) (omega (arith, rows_long t)))
