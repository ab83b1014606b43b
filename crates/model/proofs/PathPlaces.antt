-- The places of a path, each with an enode of its own. Assumes nothing.
use Rattle.std.proofs.Common.{◌≡◌, ℕ, zero, suc, ◌<◌, Bool, List, [], ◌∷◌, length, get_or, drop, Some, sym, ap, ◌∙◌, arith}
use Rattle.std.proofs.lemmas.List.{length-map}
use Rattle.model.specs.declared.items.Pair.{Pair}
use Rattle.model.specs.declared.items.Step.{Step}
use Rattle.model.specs.Records.{Given}
use Rattle.model.specs.Walks.{Distinct, links}
use Rattle.model.specs.Paths.{Path, path}
use Rattle.model.specs.PathLaws.{arrival, Joins, meets}
use Rattle.model.proofs.Links.{linked}
use Rattle.model.proofs.Steps.{meets_arrivals}
use Rattle.model.proofs.Paths.{path_joins}

-- the element at a place, and those after it
pub drop_here : {X : Type 0} (j : ℕ) (ys : List X) (x d : X) (xs : List X) → drop j ys ≡ x ∷ xs → (j < length ys) × (get_or ys j d ≡ x) × (drop (suc j) ys ≡ xs)
drop_here zero [] x d xs h = absurd (cc)
drop_here zero (y ∷ ys) x d xs h = (omega arith, (cc), (cc))
drop_here (suc j) [] x d xs h = absurd (cc)
drop_here (suc j) (y ∷ ys) x d xs h = let r = drop_here j ys x d xs h in (omega (arith, r.0), r.1, r.2)

-- how a path is laid between the ends of its pair
pub record Laid (p : Pair) (way : Path) : Type 0 where
  pub once : Distinct way.enodes
  pub count : length way.enodes ≡ suc (length way.steps)
  pub first : get_or way.enodes 0 0 ≡ p.from
  pub last : get_or way.enodes (length way.steps) 0 ≡ p.to
  pub some : 0 < length way.steps

-- the enodes that steps meet, by place
pub meets_count : (gs : List Given) (x : ℕ) (ss : List Step) → length (meets gs x ss) ≡ suc (length ss)
meets_count gs x ss = ap length (meets_arrivals gs x ss) ∙ ap suc (length-map ss (arrival gs))

pub meets_first : (gs : List Given) (x : ℕ) (ss : List Step) → get_or (meets gs x ss) 0 0 ≡ x
meets_first gs x ss = ap (λ es. get_or es 0 0) (meets_arrivals gs x ss)

pub meets_last : (gs : List Given) (ss : List Step) (x y : ℕ) → Joins gs ss x y → get_or (meets gs x ss) (length ss) 0 ≡ y
meets_last gs [] x y h = h
meets_last gs (s ∷ ss) x y h = meets_last gs ss (arrival gs s) y h.2

joins_some : (gs : List Given) (ss : List Step) (x y : ℕ) → Joins gs ss x y → (x ≡ y → ⊥) → 0 < length ss
joins_some gs [] x y h ne = absurd (ne h)
joins_some gs (s ∷ ss) x y h ne = omega arith

-- the path of a pair on the books whose enodes differ
pub path_laid : (counts : ℕ → Bool) (gs : List Given) (size : ℕ) (p : Pair) (way : Path) → p.from < size → p.to < size → (p.from ≡ p.to → ⊥) → path (links counts gs) size p.from p.to ≡ Some way → Laid p way
path_laid counts gs size p way la lb ne h =
    let of_path = path_joins (links counts gs) size gs (linked counts gs) p.from p.to la lb way h in
    record {
      once = of_path.2;
      count = ap length (sym of_path.1) ∙ meets_count gs p.from way.steps;
      first = ap (λ es. get_or es 0 0) (sym of_path.1) ∙ meets_first gs p.from way.steps;
      last = ap (λ es. get_or es (length way.steps) 0) (sym of_path.1) ∙ meets_last gs way.steps p.from p.to of_path.0;
      some = joins_some gs way.steps p.from p.to of_path.0 ne;
    }
