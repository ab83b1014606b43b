-- The laws of walks and paths. Assumes nothing.
use Rattle.std.proofs.Common.{◌≡◌, ℕ, ◌<◌, true, List, [], ◌∷◌, ◌++◌, map, is_some, Some, None, sym, refl, ap, ◌∙◌, subst, inl, inr, arith}
use Rattle.std.proofs.lemmas.Bool.{cases_Bool, eq-eqb}
use Rattle.std.proofs.lemmas.Bool.Decides.{nat_tests}
use Rattle.model.specs.declared.items.Link.{Link}
use Rattle.model.specs.declared.items.Step.{Step}
use Rattle.model.specs.Records.{Given, turned}
use Rattle.model.specs.Walks.{Links, links, met, Distinct, root_walk, last, check_eq, shares, NoCircle}
use Rattle.model.specs.Paths.{Path, up, join, path}
use Rattle.model.specs.PathLaws.{Strikes, Bare, Ancestor, Nearest, OverNearest, WalksLawful}
use Rattle.model.proofs.Members.{met_append, shares_from, shared_by}
use Rattle.model.proofs.Links.{Linked, linked, link_within}
use Rattle.model.proofs.Walks.{Within, follows_from, walk_follows, walk_distinct, walk_short, walk_has_first, walk_has_last, root_last}
use Rattle.model.proofs.Rooms.{Closed, walk_closed}
use Rattle.model.proofs.Endings.{Terminal, walk_terminal, walk_told}
use Rattle.model.proofs.Ancestors.{ancestor_trans, closed_ancestor, follows_ancestor, last_ancestor}
use Rattle.model.proofs.Strikes.{Reduced, reduce, reduce_reduced, reduce_append, reduce_forth, reduced_same, bare_from_reduced, struck_out, joins_reduced}
use Rattle.model.proofs.Confluence.{join_over}
use Rattle.model.proofs.Paths.{Meeting, join_turned, rising_follows, falling_follows, rises, falls, join_distinct, join_reduces, join_joins, join_meets, first_walk, second_walk, path_found, path_made, walks_meet, path_joins}

module _ (next : Links) (size : ℕ) (within : Within next size) where
  abbrev W : ℕ → List ℕ
  W e = first_walk next size e

  -- a walk that is told no root has every ancestor of its enodes
  has_ancestors : (b x : ℕ) → b < size → Ancestor next b x → met x (W b) ≡ true
  has_ancestors b x lb h = closed_ancestor next (W b) (walk_closed next None size within b lb (λ _ _. refl)) b x h (walk_has_first next None size b lb)

  module _ (a b : ℕ) (la : a < size) (lb : b < size) where
    abbrev f : ℕ
    f = last a (W a)

    abbrev T : List ℕ
    T = second_walk next size a b

    ends_share : f ≡ last b T → shares (W a) (W b) ≡ true
    ends_share e =
        let up_b : Ancestor next b f = follows_ancestor next b f T (walk_follows next (Some f) size [] b) (rw e (walk_has_last next (Some f) size b lb)) in
        shares_from f (W a) (W b) (walk_has_last next None size a la) (has_ancestors b f lb up_b)

    share_ends : shares (W a) (W b) ≡ true → f ≡ last b T
    share_ends h =
        let s = shared_by (W a) (W b) h in
        let z = s.0 in
        let up_b : Ancestor next b f = ancestor_trans next b z f (follows_ancestor next b z (W b) (walk_follows next None size [] b) s.2) (last_ancestor next a z (W a) (walk_follows next None size [] a) s.1) in
        let there : met f T ≡ true = elim (cases_Bool (met f T)) [
          | inl e ↦ e
          | inr e ↦
              let closed : Closed next T = walk_closed next (Some f) size within b lb (λ x m. grind (arith, nat_tests)) in
              closed_ancestor next T closed b f up_b (walk_has_first next (Some f) size b lb)
        ] in
        root_last next (Some f) size [] b f there (eq-eqb f f refl)

    pub path_exists : is_some (path next size a b) ≡ check_eq next size a b
    path_exists = grind (arith, nat_tests, ends_share, share_ends)

  -- where a's walk has no circle, the second walk is the one that is told no root
  record Plain (a b : ℕ) (p : Path) : Type 0 where
    ends : last a (W a) ≡ last b (W b)
    is : p ≡ join next (W a) (W b)

  plain : (a b : ℕ) (p : Path) → Terminal next (last a (W a)) → path next size a b ≡ Some p → Plain a b p
  plain a b p end h =
      let found = path_found next size a b p h in
      let same = walk_told next (last a (W a)) end size [] b in
      record { ends = found.ends ∙ ap (last b) same; is = found.is ∙ ap (join next (W a)) same }

  plain_made : (a b : ℕ) → Terminal next (last a (W a)) → last a (W a) ≡ last b (W b) → path next size a b ≡ Some (join next (W a) (W b))
  plain_made a b end e =
      let same = walk_told next (last a (W a)) end size [] b in
      path_made next size a b (e ∙ ap (last b) (sym same)) ∙ ap (λ t. Some (join next (W a) t)) same

  plain_meet : (a b : ℕ) → a < size → b < size → last a (W a) ≡ last b (W b) → Meeting next a b (W a) (W b)
  plain_meet a b la lb e = walks_meet next size None None a b la lb e

  -- the top of two walks is the nearest common ancestor
  top_nearest : (a b : ℕ) → a < size → b < size → (m : Meeting next a b (W a) (W b)) → Nearest next a b m.together.top
  top_nearest a b la lb m =
      let rising = m.together.rising in
      let falling = m.together.falling in
      let top = m.together.top in
      let tail = m.together.tail in
      let from_a = rising_follows m in
      record {
        of_first = follows_ancestor next a top (rising ++ (top ∷ tail)) from_a (grind (arith, nat_tests, met_append top rising (top ∷ tail)));
        of_second = follows_ancestor next b top (falling ++ (top ∷ tail)) (falling_follows m) (grind (arith, nat_tests, met_append top falling (top ∷ tail)));
        nearest = λ z above_a above_b.
            let z_a : met z (rising ++ (top ∷ tail)) ≡ true = subst (λ w. met z w ≡ true) m.together.first_is (has_ancestors a z la above_a) in
            let z_b : met z (falling ++ (top ∷ tail)) ≡ true = subst (λ w. met z w ≡ true) m.together.second_is (has_ancestors b z lb above_b) in
            follows_ancestor next top z (top ∷ tail) (follows_from next a top rising tail from_a) (grind (arith, met_append z rising (top ∷ tail), met_append z falling (top ∷ tail), m.together.apart z));
      }

  pub path_over_nearest : (a b : ℕ) → a < size → b < size → (p : Path) → NoCircle a (root_walk next size None a) → path next size a b ≡ Some p → OverNearest next a b p.steps
  path_over_nearest a b la lb p nc h =
      let pl = plain a b p (walk_terminal next size a la nc) h in
      let m = plain_meet a b la lb pl.ends in
      record {
        top = m.together.top;
        is_nearest = top_nearest a b la lb m;
        rising = map (up next) m.together.rising;
        falling = map (up next) m.together.falling;
        rises = rises m;
        falls = falls m;
        is = ap (λ (q : Path). q.steps) (pl.is ∙ join_over next m.together);
      }

  pub path_turns : (a b : ℕ) → a < size → b < size → (p : Path) → NoCircle a (root_walk next size None a) → path next size a b ≡ Some p →
      (q : Path) × (path next size b a ≡ Some q) × (q.steps ≡ turned p.steps)
  path_turns a b la lb p nc h =
      let end = walk_terminal next size a la nc in
      let pl = plain a b p end h in
      let m = plain_meet a b la lb pl.ends in
      (join next (W b) (W a), plain_made b a (subst (Terminal next) pl.ends end) (sym pl.ends), join_turned next m.together ∙ ap (λ (q : Path). turned q.steps) (sym pl.is))

  module _ (gs : List Given) (ok : (e : ℕ) (l : Link) → next e ≡ Some l → Linked gs e l) where
    -- the walks' words cancel in the middle
    joins_cancel : (a b c : ℕ) → Meeting next a b (W a) (W b) → Meeting next b c (W b) (W c) → Meeting next a c (W a) (W c) →
        reduce ((join next (W a) (W b)).steps ++ (join next (W b) (W c)).steps) [] ≡ reduce (join next (W a) (W c)).steps []
    joins_cancel a b c ab bc ac =
        let A = map (up next) (W a) in
        let B = map (up next) (W b) in
        let C = map (up next) (W c) in
        let q = (join next (W b) (W c)).steps in
        reduce_append (join next (W a) (W b)).steps q []
        ∙ join_reduces ab (reduce q []) (reduce_reduced q [] tt)
        ∙ ap (λ w. reduce A (reduce (turned B) w)) (join_reduces bc [] tt)
        ∙ ap (reduce A) (reduce_forth B (reduce (turned C) []) (reduce_reduced (turned C) [] tt))
        ∙ sym (join_reduces ac [] tt)

    pub paths_compose : (a b c : ℕ) → a < size → b < size → c < size → (p q : Path) → NoCircle a (root_walk next size None a) → path next size a b ≡ Some p → path next size b c ≡ Some q →
        (r : Path) × (path next size a c ≡ Some r)
        × Bare r.steps
        × ((zs : List Step) → Strikes (p.steps ++ q.steps) zs → Bare zs → zs ≡ r.steps)
    paths_compose a b c la lb lc p q nc h k =
        let end = walk_terminal next size a la nc in
        let pl = plain a b p end h in
        let ql = plain b c q (subst (Terminal next) pl.ends end) k in
        let e : last a (W a) ≡ last c (W c) = pl.ends ∙ ql.ends in
        let ac = plain_meet a c la lc e in
        let r = join next (W a) (W c) in
        let reduced : Reduced r.steps = joins_reduced gs r.steps a c (join_joins ac gs ok) (subst Distinct (sym (join_meets ac gs ok)) (join_distinct ac)) in
        let total : reduce (p.steps ++ q.steps) [] ≡ r.steps =
        (λ i. reduce ((pl.is i).steps ++ (ql.is i).steps) [])
        ∙ joins_cancel a b c (plain_meet a b la lb pl.ends) (plain_meet b c lb lc ql.ends) ac
        ∙ reduced_same r.steps reduced in
        (r, plain_made a c end e, bare_from_reduced r.steps reduced, λ zs s bare. struck_out (p.steps ++ q.steps) zs s bare ∙ total)

pub walks_lawful : WalksLawful
walks_lawful counts gs size known =
    let next = links counts gs in
    let within : Within next size = λ e l h. link_within counts gs e l h size known in
    let ok : (e : ℕ) (l : Link) → next e ≡ Some l → Linked gs e l = λ e l h. linked counts gs e l h in
    record {
      ends = λ root e. (walk_distinct next root size [] e, walk_short next root size [] e);
      exists = path_exists next size within;
      joins = path_joins next size gs ok;
      over_nearest = path_over_nearest next size within;
      turns = path_turns next size within;
      compose = paths_compose next size within gs ok;
    }
