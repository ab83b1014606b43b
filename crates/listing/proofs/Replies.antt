-- The text of a reply, by what the calls wrote into the scratch. Assumes nothing.
use Rattle.std.proofs.Common.{◌≡◌, ℕ, ◌+◌, ◌-◌, ◌<◌, ◌≤◌, Bool, cond, List, [], ◌++◌, length, get_or, take, drop, Some, None, IfSome, Ok, Option, Result, sym, refl, ap, ◌∙◌, subst, zero-add, arith}
use lib.Seq.{take-append_seam}
use Rattle.std.proofs.lemmas.List.{get_or_append_left}
use Rattle.std.proofs.lemmas.Bool.{ne_eqb}
use Rattle.model.specs.declared.items.Pair.{Pair}
use Rattle.model.specs.declared.items.Step.{Step}
use Rattle.model.specs.declared.items.RootWalk.{RootWalk}
use Rattle.model.specs.Refusals.{Refusal}
use Rattle.model.specs.Walks.{Links, root_walk, last, links}
use Rattle.model.specs.Paths.{Path, path}
use Rattle.model.specs.PathLaws.{WalkLaws, EndsKnown}
use Rattle.model.specs.Records.{Given}
use Rattle.model.specs.WalkCalls.{told_walk, placed, path_to_root, walk_checks, path_call, told_path, cleared}
use Rattle.model.proofs.Links.{link_within}
use Rattle.model.proofs.PathLaws.{walks_lawful}
use Rattle.model.proofs.Walks.{Within, walk_below}
use Rattle.egraph.proofs.TwoWalks.{walk_some, walk_few, written_part, written_end}
use Rattle.egraph.proofs.PathSteps.{path_short, below_at}
use Rattle.lines.specs.Text.{same_text, walk_text, path_text}
use Rattle.listing.specs.Question.{walk_line, path_line, first_walk, second_walk, answer_text}
use Rattle.listing.specs.Answers.{steps_shown}
use Rattle.listing.proofs.Outcomes.{passes, PathTold, path_answered}

-- a walk that was answered: its length and what it tells, with its enodes in front
pub record Walked (next : Links) (size : ℕ) (root : Option ℕ) (e : ℕ) (r : RootWalk) (out : List ℕ) : Type 0 where
  pub some : 0 < r.len
  pub few : r.len ≤ size
  pub line : walk_text (take r.len out) r.tells ≡ walk_line (root_walk next size root e)
  pub end : get_or out (r.len - 1) 0 ≡ last e (root_walk next size root e).enodes
  pub end_known : get_or out (r.len - 1) 0 < size

module _ (next : Links) (size : ℕ) (within : Within next size) where
  pub walked : (e : ℕ) (root : Option ℕ) (marks out : List ℕ) (r : RootWalk) (marks' out' : List ℕ) → e < size → size ≤ length out →
      ◌≡◌ {A = Result RootWalk Refusal × (List ℕ × List ℕ)} (Ok r, (marks', out')) (path_to_root next size e root marks out) → Walked next size root e r out'
  walked e root marks out r marks' out' low fits h =
      let w = root_walk next size root e in
      let base_fits : 0 + size ≤ length out = omega arith in
      let answer = (passes (walk_checks size e root (length marks) (length out)) (marks, out) (Ok (told_walk w), (cleared marks, placed 0 w.enodes out)) r (marks', out') h).1 in
      let first = ap (λ x. x.0) answer in
      let is : r ≡ told_walk w = cc in
      let wrote : out' ≡ placed 0 w.enodes out = ap (λ x. x.1.1) answer in
      let some = walk_some next size root e low in
      let end : get_or (placed 0 w.enodes out) (length w.enodes - 1) 0 ≡ last e w.enodes =
      ap (λ n. get_or (placed 0 w.enodes out) n 0) (sym (zero-add (length w.enodes - 1))) ∙ written_end next size root e low 0 out base_fits in
      let here : get_or out' (r.len - 1) 0 ≡ get_or (placed 0 w.enodes out) (length w.enodes - 1) 0 = λ i. get_or (wrote i) ((is i).len - 1) 0 in
      record {
        some = omega (arith, some, ap (λ (x : RootWalk). x.len) is);
        few = omega (arith, walk_few next size root e low, ap (λ (x : RootWalk). x.len) is);
        line = (λ i. walk_text (take (is i).len (wrote i)) (is i).tells) ∙ ap (λ es. walk_text es (told_walk w).tells) (written_part next size root e low 0 out base_fits);
        end = here ∙ end;
        end_known =
            subst (λ n. n < size) (sym (here ∙ get_or_append_left w.enodes (drop (0 + length w.enodes) out) 0 (length w.enodes - 1) (omega (arith, some))))
            (below_at size w.enodes (walk_below next root size size [] e within low) (length w.enodes - 1) (omega (arith, some)));
      }

-- the steps of a path that was told stand in front
pub steps_told : (o : Option Path) (out : List Step) (count : Option ℕ) (steps : List Step) → ◌≡◌ {A = Option ℕ × List Step} (count, steps) (told_path o out) → steps_shown count steps ≡ path_line o
steps_told None out count steps h = λ i. steps_shown (h i).0 (h i).1
steps_told (Some p) out count steps h =
    (λ i. steps_shown (h i).0 (h i).1) ∙ ap path_text (take-append_seam p.steps (drop (0 + length p.steps) out))

-- and there are no more of them than enodes
pub steps_few : (counts : ℕ → Bool) (gs : List Given) (size limit : ℕ) → WalkLaws counts gs size → EndsKnown gs size → (p : Pair) → p.from < size → p.to < size → size ≤ limit →
    (o : Option Path) → path (links counts gs) size p.from p.to ≡ o → (out : List Step) (count : Option ℕ) (steps : List Step) → ◌≡◌ {A = Option ℕ × List Step} (count, steps) (told_path o out) → IfSome count (λ n. n ≤ limit)
steps_few counts gs size limit laws known p low_from low_to few None is out count steps h = subst (λ o. IfSome o (λ n. n ≤ limit)) (sym (ap (λ x. x.0) h)) tt
steps_few counts gs size limit laws known p low_from low_to few (Some q) is out count steps h =
    subst (λ o. IfSome o (λ n. n ≤ limit)) (sym (ap (λ x. x.0) h)) (omega (arith, path_short counts gs size laws known p.from p.to low_from low_to q is))

-- the lines of two walks and of the path
pub answer_shown : (next : Links) (size : ℕ) (p : Pair) (first second : RootWalk) (one two : List ℕ) (root : ℕ) (count : Option ℕ) (steps out : List Step) → (p.from ≡ p.to → ⊥) →
    Walked next size None p.from first one → root ≡ get_or one (first.len - 1) 0 → Walked next size (Some root) p.to second two →
    ◌≡◌ {A = Option ℕ × List Step} (count, steps) (told_path (path next size p.from p.to) out) →
    walk_text (take first.len one) first.tells ++ (walk_text (take second.len two) second.tells ++ steps_shown count steps) ≡ answer_text next size p
answer_shown next size p first second one two root count steps out other w root_is v told =
    let second_line : walk_text (take second.len two) second.tells ≡ walk_line (second_walk next size p) = v.line ∙ ap (λ r. walk_line (root_walk next size (Some r) p.to)) (root_is ∙ w.end) in
    (λ i. w.line i ++ (second_line i ++ steps_told (path next size p.from p.to) out count steps told i))
    ∙ ap (λ b. cond b (same_text p.from) (walk_line (first_walk next size p) ++ (walk_line (second_walk next size p) ++ path_line (path next size p.from p.to)))) (sym (ne_eqb p.from p.to other))

-- links lead to enodes on the books
pub links_within : (counts : ℕ → Bool) (gs : List Given) (size : ℕ) → EndsKnown gs size → Within (links counts gs) size
links_within counts gs size ends = λ e l is. link_within counts gs e l is size ends

-- a question that was not refused, with its first walk
pub record Begun (next : Links) (size : ℕ) (p : Pair) (out : List Step) (count : Option ℕ) (steps : List Step) (first : RootWalk) (one : List ℕ) : Type 0 where
  pub told : PathTold next size p out count steps
  pub few : IfSome count (λ n. n ≤ 128)
  pub walk : Walked next size None p.from first one

module _ (counts : ℕ → Bool) (gs : List Given) (size : ℕ) (ends : EndsKnown gs size) (p : Pair) (marks : List ℕ) (walks : ℕ) (out : List Step) (bytes : length marks ≡ 128) (places : walks ≡ 256) (rows : length out ≡ 128) where
  pub begun : (count : Option ℕ) (marks' : List ℕ) (steps : List Step) → ◌≡◌ {A = Result (Option ℕ) Refusal × (List ℕ × List Step)} (Ok count, (marks', steps)) (path_call (links counts gs) size p marks walks out) →
      (before : List ℕ) → length before ≡ 128 → (first : RootWalk) (marks'' one : List ℕ) →
      ◌≡◌ {A = Result RootWalk Refusal × (List ℕ × List ℕ)} (Ok first, (marks'', one)) (path_to_root (links counts gs) size p.from None marks' before) →
      Begun (links counts gs) size p out count steps first one
  begun count marks' steps h before long first marks'' one k =
      let told = path_answered (links counts gs) size p marks walks out bytes places rows count marks' steps h in
      record {
        told = told;
        few = steps_few counts gs size 128 (walks_lawful counts gs size ends) ends p told.known.from_known told.known.to_known told.known.few (path (links counts gs) size p.from p.to) refl out count steps told.is;
        walk = walked (links counts gs) size (links_within counts gs size ends) p.from None marks' before first marks'' one told.known.from_known (omega (arith, told.known.few)) k;
      }
