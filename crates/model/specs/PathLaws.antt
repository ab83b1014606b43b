-- What users may rely on of walks and paths. Assumes nothing.
use Rattle.std.specs.Prelude.{◌≡◌, ℕ, ◌<◌, ◌≤◌, Bool, cond, List, [], ◌∷◌, ◌++◌, length, is_some, Some, None, Option}
use Rattle.model.specs.declared.items.Link.{Link}
use Rattle.model.specs.declared.items.Step.{Step}
use Rattle.model.specs.Records.{Given, given_at, turn_step, turned}
use Rattle.model.specs.Walks.{Links, links, root_walk, check_eq, Distinct, NoCircle}
use Rattle.model.specs.Paths.{Path, path, up}

-- where a step sets out, and where it arrives
abbrev pub start : List Given → Step → ℕ
start gs s = cond s.forward (given_at gs s.given).from (given_at gs s.given).to

abbrev pub arrival : List Given → Step → ℕ
arrival gs s = cond s.forward (given_at gs s.given).to (given_at gs s.given).from

-- the steps run on from x to y
abbrev pub Joins : List Given → List Step → ℕ → ℕ → Type 0
Joins gs [] x y = x ≡ y
Joins gs (s ∷ ss) x y = (s.given < length gs) × (start gs s ≡ x) × Joins gs ss (arrival gs s) y

-- the enodes that the steps meet from x on: x and each end
abbrev pub meets : List Given → ℕ → List Step → List ℕ
meets gs x [] = x ∷ []
meets gs x (s ∷ ss) = x ∷ meets gs (arrival gs s) ss

-- the givens' ends are on the books
abbrev pub EndsKnown : List Given → ℕ → Type 0
EndsKnown gs size = (k : ℕ) → k < length gs → ((given_at gs k).from < size) × ((given_at gs k).to < size)

-- one given both ways, side by side, is struck out
pub record Strike (before after : List Step) : Type 0 where
  pub front : List Step
  pub back : List Step
  pub there : Step
  pub is : before ≡ front ++ (there ∷ turn_step there ∷ back)
  pub leaves : after ≡ front ++ back

-- struck out again and again
pub data Strikes : List Step → List Step → Type 0 where
  none : {xs : List Step} → Strikes xs xs
  one : {xs ys zs : List Step} → Strike xs ys → Strikes ys zs → Strikes xs zs

-- nothing is left to strike out
abbrev pub Bare : List Step → Type 0
Bare xs = (ys : List Step) → Strike xs ys → ⊥

-- y is an ancestor of x: x itself, or an ancestor of the enode that x links to
pub data Ancestor (next : Links) : ℕ → ℕ → Type 0 where
  itself : {x y : ℕ} → x ≡ y → Ancestor next x y
  further : {x y : ℕ} (l : Link) → next x ≡ Some l → Ancestor next l.to y → Ancestor next x y

-- the steps climb from x to its ancestor y, link by link
abbrev pub Climbs : Links → List Step → ℕ → ℕ → Type 0
Climbs next [] x y = x ≡ y
Climbs next (s ∷ ss) x y = (l : Link) × (next x ≡ Some l) × (s ≡ up next x) × Climbs next ss l.to y

-- y is an ancestor of both, and each ancestor of both is one of y
pub record Nearest (next : Links) (a b y : ℕ) : Type 0 where
  pub of_first : Ancestor next a y
  pub of_second : Ancestor next b y
  pub nearest : (z : ℕ) → Ancestor next a z → Ancestor next b z → Ancestor next y z

-- the steps climb from a to the nearest common ancestor, and from there down to b
pub record OverNearest (next : Links) (a b : ℕ) (ss : List Step) : Type 0 where
  pub top : ℕ
  pub is_nearest : Nearest next a b top
  pub rising : List Step
  pub falling : List Step
  pub rises : Climbs next rising a top
  pub falls : Climbs next falling b top
  pub is : ss ≡ rising ++ turned falling

-- the laws are of any links that the givens have under any set of frames that count
module _ (counts : ℕ → Bool) (gs : List Given) (size : ℕ) where
  abbrev pub next : Links
  next = links counts gs

  -- a walk meets no enode twice, and ends within the number of enodes
  abbrev pub WalkEnds : Option ℕ → ℕ → Type 0
  WalkEnds root e = Distinct (root_walk next size root e).enodes × (length (root_walk next size root e).enodes ≤ size)

  abbrev pub PathExists : ℕ → ℕ → Type 0
  PathExists a b = is_some (path next size a b) ≡ check_eq next size a b

  abbrev pub PathJoins : ℕ → ℕ → Type 0
  PathJoins a b = (p : Path) → path next size a b ≡ Some p → Joins gs p.steps a b × (meets gs a p.steps ≡ p.enodes) × Distinct p.enodes

  abbrev pub PathOverNearest : ℕ → ℕ → Type 0
  PathOverNearest a b =
      (p : Path) → NoCircle a (root_walk next size None a) → path next size a b ≡ Some p → OverNearest next a b p.steps

  abbrev pub PathTurns : ℕ → ℕ → Type 0
  PathTurns a b =
      (p : Path) → NoCircle a (root_walk next size None a) → path next size a b ≡ Some p →
      (q : Path) × (path next size b a ≡ Some q) × (q.steps ≡ turned p.steps)

  abbrev pub PathsCompose : ℕ → ℕ → ℕ → Type 0
  PathsCompose a b c =
      (p q : Path) → NoCircle a (root_walk next size None a) →
      path next size a b ≡ Some p → path next size b c ≡ Some q →
      (r : Path) × (path next size a c ≡ Some r)
      × Bare r.steps
      × ((zs : List Step) → Strikes (p.steps ++ q.steps) zs → Bare zs → zs ≡ r.steps)

-- all of them, of enodes on the books
pub record WalkLaws (counts : ℕ → Bool) (gs : List Given) (size : ℕ) : Type 0 where
  pub ends : (root : Option ℕ) (e : ℕ) → WalkEnds counts gs size root e
  pub exists : (a b : ℕ) → a < size → b < size → PathExists counts gs size a b
  pub joins : (a b : ℕ) → a < size → b < size → PathJoins counts gs size a b
  pub over_nearest : (a b : ℕ) → a < size → b < size → PathOverNearest counts gs size a b
  pub turns : (a b : ℕ) → a < size → b < size → PathTurns counts gs size a b
  pub compose : (a b c : ℕ) → a < size → b < size → c < size → PathsCompose counts gs size a b c

abbrev pub WalksLawful : Type 0
WalksLawful = (counts : ℕ → Bool) (gs : List Given) (size : ℕ) → EndsKnown gs size → WalkLaws counts gs size
