-- What a question does: how it leads from one memory to the next, what it answers, and when it is refused. Assumes nothing.
use Rattle.std.proofs.Common.{◌≡◌, ◌⊎◌, inl, inr, ℕ, zero, suc, ◌-◌, ◌<◌, ◌≤◌, Bool, true, false, eqb, List, [], ◌∷◌, ◌++◌, map, length, drop, Some, None, Option, sym, refl, ap, ◌∙◌, subst, append-nil, arith}
use Rattle.std.proofs.lemmas.List.{length-map}
use Rattle.std.proofs.lemmas.Bool.{both_ways, ltb-true, eqb-true, eqb-false}
use Rattle.std.proofs.lemmas.Bool.Decides.{nat_tests}
use Rattle.std.specs.List.{AllByRecursion as All}
use Rattle.model.specs.declared.items.Pair.{Pair}
use Rattle.model.specs.declared.items.Step.{Step}
use Rattle.model.specs.Records.{Records, turned, args_of, given_at}
use Rattle.model.specs.Refusals.{Refusal}
use Rattle.model.specs.Walks.{Links}
use Rattle.model.specs.Paths.{Path}
use Rattle.model.specs.Memory.{Segment, step, entry, mark, Entry, Memory, stands, uses_of, entry_at, is_mark, turned_entry}
use Rattle.model.specs.Reading.{reads, segments_steps}
use Rattle.model.specs.Chains.{chain}
use Rattle.model.specs.RunLaws.{OpenChain}
use Rattle.model.specs.Acts.{Question, Act, Done, done, stop, pure}
use Rattle.model.specs.Questions as Q
use Rattle.model.specs.Questions.{Permission, Places, Reply, same, on_file, filed, filed_by, Found, none_found, entry_table, segment_table, pair_table, list_table, member_table, place_of, below, ask_at}
use Rattle.model.proofs.Members.{Below}
use Rattle.model.proofs.Steps.{turned_turned}
use Rattle.model.proofs.Growth.{Longer, longer_length}
use Rattle.model.proofs.Citations.{all_weaker, Cited, UseBelow, cited_more, use_again}
use Rattle.model.proofs.ChainSteps.{OnFile, no_mark, stable, span_start, span_end, Says, chain_says}
use Rattle.model.proofs.Remembering.{Sound, reads_newest, newest_entry, reads_filed, reads_no_mark, reads_inner}
use Rattle.model.proofs.PathPlaces.{Laid}
use Rattle.model.proofs.Fewest.{open_some, chain_least}
use Rattle.model.proofs.Looks.{Looked, looking_as, place_does, looks_does}
use Rattle.model.proofs.Passing.{way_of, SaysOf, explains, marks, AnswersBy, FiledFor, Passes, passes_self, passes_trans, passes_told, passes_filed, ComesTo, Does, none_pending, does_bind, does_pure, does_refuse, does_read, does_need, does_use, does_put}

-- a segment without the number of its use list
abbrev bare : Segment → Segment
bare (step s u) = step s None
bare (entry n w) = entry n w
bare (mark e) = mark e

bare_steps : (read : ℕ → List Step) (ts : List Segment) → segments_steps read (map bare ts) ≡ segments_steps read ts
bare_steps read [] = refl
bare_steps read (t ∷ ts) = grind (arith, bare_steps read ts)

is_mark_bare : (ts : List Segment) → is_mark (map bare ts) ≡ is_mark ts
is_mark_bare ts = grind arith

on_file_more : {m n : ℕ} → m ≤ n → (s : Segment) → OnFile m s → OnFile n s
on_file_more le (step s u) h = tt
on_file_more le (entry k w) h = omega arith
on_file_more le (mark e) h = h

module _ (next : Links) (records : Records) (places : Places) where
  abbrev size : ℕ
  size = length records.enodes

  abbrev pub Replies : Pair → Reply → Memory → Type 0
  Replies p (same e) m = (p.from < size) × (p.from ≡ p.to)
  Replies p (on_file n) m = AnswersBy next size m.entries p n
  Replies p (filed n) m = AnswersBy next size m.entries p n

  -- refusal 5 at the question's own level is for want of a path
  abbrev pub Refused : Pair → ℕ → Refusal → Type 0
  Refused p level r = (level ≤ r.level) × (r.number ≡ 5 → r.level ≡ level → (p.from < size) × (p.to < size) × (way_of next size p ≡ None))

  -- a question, nested or not, that is put
  abbrev pub Asks : Pair → ℕ → Act Reply → Memory → Type 0
  Asks p level act m = Does next size none_pending (Replies p) (Refused p level) act m

  refused_deeper : (p : Pair) (level : ℕ) (r : Refusal) → suc level ≤ r.level → Refused p level r
  refused_deeper p level r h = (omega arith, λ _ e. absurd (omega arith))

  module _ (level : ℕ) (p : Pair) where
    -- an act within the question
    abbrev Acts : {A : Type 0} → (A → Memory → Type 0) → Act A → Memory → Type 0
    Acts Q act m = Does next size none_pending Q (Refused p level) act m

    full_refused : (t : ℕ) → Refused p level (Q.full next records places level p t)
    full_refused t = (omega arith, λ h _. absurd (omega (arith, h)))

    module _ (before : Memory) where
      -- the question, which is told once it has ended
      abbrev note : Option ℕ → Question
      note n = record { pair = p; level = level; before = before; filed = n }

      abbrev own : Reply → List Question
      own r = note (filed_by r) ∷ []

      abbrev Answers : Act Reply → Memory → Type 0
      Answers act m = Does next size own (Replies p) (Refused p level) act m

      file_does : (e : Entry) {m : Memory} → Sound m → All (Cited m.uses (length m.entries)) e.segments → (is_mark e.segments ≡ true → segments_steps (reads m.entries) e.segments ≡ []) →
          FiledFor next size (e ∷ m.entries) (note (Some (length m.entries))) (length m.entries) → Answers (Q.file next records places level p e) m
      file_does e {m} s cites marked f =
          does_read _
          (does_need _ _ s (full_refused entry_table) (λ _.
          does_need _ _ s (full_refused segment_table) (λ _.
          does_need _ _ s (full_refused pair_table) (λ _.
          does_put p e filed (passes_filed e (note (Some (length m.entries))) refl s cites marked f) f.answers))))

      checked_does : (rest : Act Reply) {m : Memory} → Sound m → (p.from < size → p.to < size → (p.from ≡ p.to → ⊥) → Answers rest m) → Answers (Q.checked next records places level p rest) m
      checked_does rest {m} s h =
          does_need _ _ s (omega arith, λ q _. absurd (omega (arith, q))) (λ a.
          does_need _ _ s (omega arith, λ q _. absurd (omega (arith, q))) (λ b.
          go (ltb-true p.from size a) (ltb-true p.to size b) (eqb p.from p.to) refl))
        where
          go : p.from < size → p.to < size → (b : Bool) → eqb p.from p.to ≡ b → Answers (Q.unless_same next records places level b p rest) m
          go la lb true e = does_pure (same p.from) (passes_told (note None) refl s) (la, eqb-true p.from p.to e)
          go la lb false e = h la lb (eqb-false p.from p.to e)

    -- the question is told
    put_does : (rest : Act Reply) (m : Memory) → Sound m → (p.from < size → p.to < size → (p.from ≡ p.to → ⊥) → Answers m rest m) → Asks p level (Q.put_question next records places level p rest) m
    put_does rest m s h = record { holds = go (Q.checked next records places level p rest m) (checked_does m rest s h).holds }
      where
        go : (d : Done Reply) → ComesTo next size (own m) (Replies p) (Refused p level) m d → ComesTo next size none_pending (Replies p) (Refused p level) m (Q.noted next records places level p m d)
        go (done r n qs) k = (subst (λ ts. Passes next size m ts n) (sym (append-nil (qs ++ own m r))) k.0, k.1)
        go (stop r n qs) k = (passes_trans k.0 (passes_told (note m None) refl k.0.sound), k.1)

    module _ (nested : Pair → Act Reply) (hn : (q : Pair) (m : Memory) → Sound m → Asks q (suc level) (nested q) m) where
      naming_does : (g k : ℕ) (q : Pair) {m : Memory} → Sound m → Acts (Replies q) (λ m. Q.naming next records places level g k (nested q m)) m
      naming_does g k q {m} s = record { holds = go (nested q m) (hn q m s).holds }
        where
          go : (d : Done Reply) → ComesTo next size none_pending (Replies q) (Refused q (suc level)) m d → ComesTo next size none_pending (Replies q) (Refused p level) m (Q.naming next records places level g k d)
          go (done r n qs) h = h
          go (stop r n qs) h = (h.0, refused_deeper p level (Q.for_argument next records places level g k r) h.1.0)

      member_below : (q : Pair) (r : Reply) (n : Memory) (bound : ℕ) → Replies q r n → length n.entries ≤ bound → (ns : List ℕ) → Below bound ns → Below bound (Q.member next records places level r ns)
      member_below q (same e) n bound h le ns b = b
      member_below q (on_file k) n bound h le ns b = let lt = h.on_file in λ y m. grind (arith, nat_tests, b)
      member_below q (filed k) n bound h le ns b = let lt = h.on_file in λ y m. grind (arith, nat_tests, b)

      args_does : (g k : ℕ) (qs : List Pair) {m : Memory} → Sound m → Acts (λ ns n. Below (length n.entries) ns) (Q.ask_arguments next records places level nested p g k qs) m
      args_does g k [] s = does_pure [] (passes_self s) (λ y m. grind arith)
      args_does g k (q ∷ qs) s =
          does_bind (naming_does g k q s) (λ r n _ pn hr.
          does_bind (args_does g (suc k) qs pn.sound) (λ ns o _ po b.
          does_pure _ (passes_self po.sound) (member_below q r n (length o.entries) hr (longer_length po.longer) ns b)))

      abbrev Used : ℕ → ℕ → Memory → Type 0
      Used g k n = UseBelow n.uses (length n.entries) g k

      new_use_does : (g : ℕ) (u : List ℕ) (o : Option ℕ) {m : Memory} → place_of u 0 (uses_of g m.uses) ≡ o → Sound m → Below (length m.entries) u → Acts (Used g) (Q.new_use next records places level nested p g u o) m
      new_use_does g u (Some k) {m} e s b = does_pure k (passes_self s) (use_again m.uses (length m.entries) g u k b e)
      new_use_does g u None {m} e s b = does_read _ (does_need _ _ s (full_refused list_table) (λ _. does_need _ _ s (full_refused member_table) (λ _. does_use g u s b)))

      settle_step_does : (t : Step) (qs : List Pair) {m : Memory} → Sound m → Acts (λ r n. Cited n.uses (length n.entries) r × (bare r ≡ step t None)) (Q.settle_step next records places level nested p t qs) m
      settle_step_does t [] s = does_pure (step t None) (passes_self s) (tt, refl)
      settle_step_does t (q ∷ qs) s =
          does_bind (args_does t.given 0 (q ∷ qs) s) (λ u n _ pn b.
          does_bind {Q = Used t.given} (does_read _ (new_use_does t.given u (place_of u 0 (uses_of t.given n.uses)) refl pn.sound b)) (λ k o _ po h.
          does_pure (step t (Some k)) (passes_self po.sound) (h, refl)))

      settle_segment_does : (t : Segment) {m : Memory} → Sound m → OnFile (length m.entries) t → Acts (λ r n. Cited n.uses (length n.entries) r × (bare r ≡ bare t)) (Q.settle_segment next records places level nested p t) m
      settle_segment_does (step t u) s h = settle_step_does t (args_of (given_at records.givens t.given).kind) s
      settle_segment_does (entry n w) s h = does_pure (entry n w) (passes_self s) (h, refl)
      settle_segment_does (mark e) s h = absurd h

      -- settling changes the numbers of use lists alone
      abbrev Settled : List Segment → List Segment → Memory → Type 0
      Settled segs ts n = All (Cited n.uses (length n.entries)) ts × (map bare ts ≡ map bare segs)

      settle_does : (segs : List Segment) {m : Memory} → Sound m → All (OnFile (length m.entries)) segs → Acts (Settled segs) (Q.settle next records places level nested p segs) m
      settle_does [] s h = does_pure [] (passes_self s) (tt, refl)
      settle_does (t ∷ segs) s h =
          does_bind (settle_segment_does t s h.0) (λ r n _ pn c.
          does_bind (settle_does segs pn.sound (all_weaker (OnFile _) (OnFile _) (on_file_more (longer_length pn.longer)) segs h.1)) (λ rs o _ po d.
          does_pure (r ∷ rs) (passes_self po.sound) ((cited_more po.uses (longer_length po.longer) r c.0, d.0), cc (c.1, d.1))))

      module _ (before : Memory) (from_known : p.from < size) (to_known : p.to < size) where
        -- an entry on file that says something of the pair
        on_file_does : (n : ℕ) {m : Memory} → Sound m → n < length m.entries → SaysOf next size m.entries p n → Answers before (pure (on_file n)) m
        on_file_does n s lt says = does_pure (on_file n) (passes_told (note before None) refl s) (record { from_known = from_known; to_known = to_known; on_file = lt; says = says })

        -- no path
        module _ (none : way_of next size p ≡ None) where
          file_mark_does : {m : Memory} → Sound m → Answers before (Q.file_mark next records places level nested p) m
          file_mark_does {m} s =
              let e : Entry = record { segments = mark p.from ∷ []; count = 0; last = p.to } in
              file_does before e s (tt, tt) (λ _. refl) (record {
                answers = record { from_known = from_known; to_known = to_known; on_file = omega arith; says = marks none (ap (λ (x : Entry). is_mark x.segments) (newest_entry e m.entries)) };
                count = λ way q. absurd (cc);
                ends_at = ap (λ (x : Entry). x.last) (newest_entry e m.entries);
                least = λ way cs q c. absurd (cc);
              })

          if_mark_does : (n : ℕ) {m : Memory} → Sound m → n < length m.entries → (b : Bool) → is_mark (entry_at m.entries n).segments ≡ b → Answers before (Q.if_mark next records places level nested p n b) m
          if_mark_does n s lt true e = on_file_does n s lt (marks none e)
          if_mark_does n s lt false e = file_mark_does s

          marked_does : {m : Memory} → Sound m → (o : Option ℕ) → stands m.standing p.from p.to ≡ o → Answers before (Q.marked next records places level nested p o) m
          marked_does s None e = file_mark_does s
          marked_does {m} s (Some n) e = does_read _ (if_mark_does n s (s.standing p.from p.to n e) (is_mark (entry_at m.entries n).segments) refl)

          unjoined_does : (may : Bool) {m : Memory} → Sound m → Answers before (Q.unjoined next records places level nested p may) m
          unjoined_does false s = does_refuse _ s (omega arith, λ _ _. (from_known, to_known, none))
          unjoined_does true {m} s = does_read _ (marked_does s (stands m.standing p.from p.to) refl)

        -- a path with steps
        module _ (way : Path) (is : way_of next size p ≡ Some way) (laid : Laid p way) where
          abbrev ss : List Step
          ss = way.steps

          abbrev es : List Entry
          es = before.entries

          -- no open chain has fewer segments
          abbrev Least : List Segment → Type 0
          Least segs = (cs : List Segment) → OpenChain before way 0 cs → length segs ≤ length cs

          spanning_does : (n : ℕ) {m : Memory} → Sound m → reads m.entries n ≡ ss → Answers before (pure (on_file n)) m
          spanning_does n {m} s h = on_file_does n s (reads_filed ss laid.some m.entries n h) (explains way is h (reads_no_mark ss laid.some m s n h))

          settled_does : (segs ts : List Segment) (m : Memory) {n : Memory} → Sound n → Longer m.entries n.entries → Says m.entries ss segs ss → Least segs → Settled segs ts n →
              Answers before (Q.file next records places level p (record { segments = ts; count = length ss; last = p.to })) n
          settled_does segs ts m {n} s l h fewest (cites, same_bare) =
              let e : Entry = record { segments = ts; count = length ss; last = p.to } in
              let plain : is_mark ts ≡ false = sym (is_mark_bare ts) ∙ ap is_mark same_bare ∙ is_mark_bare segs ∙ no_mark (length m.entries) segs h.filed in
              let read : segments_steps (reads n.entries) ts ≡ ss =
              sym (bare_steps (reads n.entries) ts) ∙ ap (segments_steps (reads n.entries)) same_bare ∙ bare_steps (reads n.entries) segs ∙ stable l segs h.filed ∙ h.is in
              let newest = newest_entry e n.entries in
              file_does before e s cites (λ q. absurd (both_ways (is_mark ts) plain q)) (record {
                answers = record { from_known = from_known; to_known = to_known; on_file = omega arith; says = explains way is (reads_newest e n.entries ∙ read) (ap (λ (x : Entry). is_mark x.segments) newest ∙ plain) };
                count = λ other q. ap (λ (x : Entry). x.count) newest ∙ (let same_way : way ≡ other = cc in ap (λ (w : Path). length w.steps) same_way);
                ends_at = ap (λ (x : Entry). x.last) newest;
                least = λ other cs q c.
                    let fewer = fewest cs (subst (λ (w : Path). OpenChain before w 0 cs) (let same_way : other ≡ way = cc in same_way) c) in
                    omega (arith, ap (λ (x : Entry). length x.segments) newest, ap length same_bare, length-map ts bare, length-map segs bare);
              })

          explain_does : (segs : List Segment) {m : Memory} → Sound m → Says m.entries ss segs ss → Least segs → Answers before (Q.settle_and_file next records places level nested p (length ss) segs) m
          explain_does segs {m} s h fewest = does_bind (settle_does segs s h.filed) (λ ts n _ pn settled. settled_does segs ts m pn.sound pn.longer h fewest settled)

          -- an entry that spans the path from its end
          abbrev Back : List Entry → ℕ → Type 0
          Back all n = (reads all n ≡ turned ss) × (n < length all)

          turn_round_does : (e : ℕ) {m : Memory} → Sound m → Back m.entries e → (o : Option ℕ) → turned_entry (entry_at m.entries e).segments ≡ o → Answers before (Q.turn_round next records places level nested p (length ss) e o) m
          turn_round_does e {m} s b (Some inner) t = spanning_does inner s (reads_inner ss laid.some m.entries e inner t b.0)
          turn_round_does e {m} s b None t = explain_does (entry e false ∷ []) s (record { is = append-nil (turned (reads m.entries e)) ∙ ap turned b.0 ∙ turned_turned ss; filed = (b.1, tt) }) (λ cs c. open_some before way cs laid.some c)

          abbrev EndsSeen : ℕ → ℕ → Type 0
          EndsSeen a b = (⊥ ⊎ (a ≡ 0)) ⊎ (a ≡ length ss)

          from_end_does : (f : Found) {m : Memory} → Sound m → Looked before laid EndsSeen (Back es) f m → (o : Option ℕ) → f.spanning ≡ o → Answers before (Q.from_end next records places level nested p way f o) m
          from_end_does f {m} s l (Some e) q =
              does_read _ (turn_round_does e s (subst (λ (x : List Entry). Back x e) (sym l.entries) (l.spanning e q)) (turned_entry (entry_at m.entries e).segments) refl)
          from_end_does f {m} s l None q =
              does_bind
              (looks_does before laid next records places level (Refused p level) (length ss - 1) 1 (omega arith) (omega (arith, laid.some)) (drop 1 way.enodes) refl f s
              (looking_as before laid (λ a b n d r _. elim r [ inl lt ↦ inl (inr (omega arith)) | inr e ↦ inr e ]) (l.goes_on q))) (λ g n _ pn k.
              explain_does (chain g.edges ss) pn.sound (subst (λ (x : List Entry). Says x ss (chain g.edges ss) ss) (sym k.entries) (chain_says es ss g.edges k.edges))
              (chain_least before way g.edges (λ a b n d ke. k.found a b n d tt ke)))

          from_start_does : (f : Found) {m : Memory} → Sound m → Looked before laid (λ a b. ⊥ ⊎ (a ≡ 0)) (λ n. reads es n ≡ ss) f m → (o : Option ℕ) → f.spanning ≡ o → Answers before (Q.from_start next records places level nested p way f o) m
          from_start_does f s l (Some e) q = spanning_does e s (subst (λ (x : List Entry). reads x e ≡ ss) (sym l.entries) (l.spanning e q))
          from_start_does f s l None q =
              does_bind
              (place_does before laid next records places level (Refused p level) (λ a b. ⊥ ⊎ (a ≡ 0)) (Back es) (length ss) (omega arith) (λ j n d lt h t. (span_end es ss j n d h t, lt)) p.to laid.last f s (l.goes_on q))
              (λ g n _ pn k. from_end_does g pn.sound k g.spanning refl)

          joined_does : Sound before → Answers before (Q.joined next records places level nested p way) before
          joined_does s =
              does_bind
              (place_does before laid next records places level (Refused p level) (λ a b. ⊥) (λ n. reads es n ≡ ss) 0 (omega arith) (λ j n d lt h t. span_start es ss j n d h t) p.from laid.first none_found s
              (record { entries = refl; standing = λ a b n d ke. ke.standing; edges = tt; found = λ a b n d no. absurd no; none = refl }))
              (λ f n _ pn l. from_start_does f pn.sound l f.spanning refl)

        answer_does : (may : Bool) → ((way : Path) → way_of next size p ≡ Some way → Laid p way) → Sound before → Answers before (Q.answer next records places level nested p may) before
        answer_does may lay s = go (way_of next size p) refl
          where
            go : (o : Option Path) → way_of next size p ≡ o → Answers before (Q.by_path next records places level nested p may o) before
            go None e = unjoined_does e may s
            go (Some way) e = joined_does way e (lay way e) s

  -- a question leads on from a memory in order
  module _ (lay : (p : Pair) (way : Path) → p.from < size → p.to < size → (p.from ≡ p.to → ⊥) → way_of next size p ≡ Some way → Laid p way) where
    pub ask_does : (left level : ℕ) (may : Permission) (p : Pair) (m : Memory) → Sound m → Asks p level (ask_at next records places left level may p) m
    unfolding ask_at
    ask_does zero level may p m s =
        put_does level p _ m s (λ _ _ _. does_refuse _ s (omega arith, λ h _. absurd (omega (arith, h))))
    ask_does (suc left) level may p m s =
        let nested : Pair → Act Reply = ask_at next records places left (suc level) (below may) in
        let hn : (q : Pair) (n : Memory) → Sound n → Asks q (suc level) (nested q) n = ask_does left (suc level) (below may) in
        put_does level p _ m s (λ la lb ne. answer_does level p nested hn m la lb may.start (λ way is. lay p way la lb ne is) s)
