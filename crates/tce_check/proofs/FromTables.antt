-- From the rows that a node's functions are given to the tables.
use Rattle.std.proofs.Common.{◌≡◌, ℕ, ◌+◌, ◌-◌, ◌<◌, ◌≤◌, List, Option, Some, None, MatchOption, All, refl, sym, ap, ◌∙◌, subst, arith}
use Rattle.tce_space.specs.Space.{IndexSpace}
use Rattle.tce_tree.specs.ContractionTree.{ContractionTree, operations, node_loops, parent}
use Rattle.tce_tree.proofs.Parents.{parent_is}
use Rattle.tce_fusion.specs.Row.{Row, rows_at}
use Rattle.tce_fusion.specs.Cover.{left_rows, right_rows, StepsCovered, NodesCovered, RootBelow}
use Rattle.tce_check.specs.First.{FirstPair}
use Rattle.tce_check.specs.Verdict.{WhereJoined, IsLeastUncovered, CoversAt, FailsAt, IsBelow, FirstBelow}

-- what an answer says, said of what it is about
pub match_map : {X : Type 0} (o : Option X) (P Q : Type 0) (R S : X → Type 0) → (P → Q) → ((x : X) → R x → S x) → MatchOption o P R → MatchOption o Q S
match_map None P Q R S f g h = f h
match_map (Some x) P Q R S f g h = g x h

-- the same of equal numbers and equal lists
along : (P : ℕ → List Row → List Row → List Row → Type 0) (a b : ℕ) (rows other lefts left rights right : List Row) → a ≡ b → rows ≡ other → lefts ≡ left → rights ≡ right
    → P a rows lefts rights → P b other left right
along P a b rows other lefts left rights right p q r s h =
    subst (λ x. P b other left x) s (subst (λ x. P b other x rights) r (subst (λ x. P b x lefts rights) q (subst (λ x. P x rows lefts rights) p h)))

-- a node has one parent
pub one_parent : (tree : ContractionTree) (v p q : ℕ) → parent tree v ≡ Some p → parent tree v ≡ Some q → p ≡ q
one_parent tree v p q a b = let same : Some p ≡ Some q = sym a ∙ b in cc

pub covers_at : (space : IndexSpace) (tree : ContractionTree) (tables : List (List Row)) (v above outer : ℕ) (rows lefts rights : List Row) → parent tree v ≡ Some above
    → outer ≡ node_loops tree above → rows ≡ rows_at tables v → lefts ≡ left_rows tree tables v → rights ≡ right_rows tree tables v
    → All (λ left. All (WhereJoined tree v (StepsCovered space tree outer v rows) left) rights) lefts → CoversAt space tree tables v
covers_at space tree tables v above outer rows lefts rights is a b c d all p at =
    along (λ o r ls rs. All (λ left. All (WhereJoined tree v (StepsCovered space tree o v r) left) rs) ls)
    outer (node_loops tree p) rows (rows_at tables v) lefts (left_rows tree tables v) rights (right_rows tree tables v)
    (a ∙ ap (node_loops tree) (one_parent tree v above p is at)) b c d all

pub fails_at : (space : IndexSpace) (tree : ContractionTree) (tables : List (List Row)) (v above outer fused : ℕ) (rows lefts rights : List Row) (step : Row) → parent tree v ≡ Some above
    → outer ≡ node_loops tree above → rows ≡ rows_at tables v → lefts ≡ left_rows tree tables v → rights ≡ right_rows tree tables v
    → FirstPair (WhereJoined tree v (StepsCovered space tree outer v rows)) (IsLeastUncovered space tree outer v rows fused step) lefts rights
    → FailsAt space tree tables fused step v
fails_at space tree tables v above outer fused rows lefts rights step is a b c d first = record {
  above = above;
  parent_is = is;
  first = along (λ o r ls rs. FirstPair (WhereJoined tree v (StepsCovered space tree o v r)) (IsLeastUncovered space tree o v r fused step) ls rs)
      outer (node_loops tree above) rows (rows_at tables v) lefts (left_rows tree tables v) rights (right_rows tree tables v) a b c d first;
}

-- where all nodes but the root are covered, each node that has a parent is
pub nodes_covered : (space : IndexSpace) (tree : ContractionTree) (tables : List (List Row)) → ((v : ℕ) → v < operations tree - 1 → CoversAt space tree tables v)
    → NodesCovered space tree tables
nodes_covered space tree tables all v p is = let up = parent_is tree v p is in all v (omega (arith, up.above, up.inside)) p is

-- the root is the last node
pub root_below : (tree : ContractionTree) (tables : List (List Row)) (root total : ℕ) (lefts rights : List Row) → root ≡ operations tree - 1
    → lefts ≡ left_rows tree tables root → rights ≡ right_rows tree tables root
    → All (λ left. All (WhereJoined tree root (λ l r. total ≤ l.cost + r.cost) left) rights) lefts → RootBelow tree tables total
root_below tree tables root total lefts rights is a b all =
    along (λ n r ls rs. All (λ left. All (WhereJoined tree n (λ l r. total ≤ l.cost + r.cost) left) rs) ls)
    root (operations tree - 1) rights rights lefts (left_rows tree tables (operations tree - 1)) rights (right_rows tree tables (operations tree - 1))
    is refl (a ∙ ap (left_rows tree tables) is) (b ∙ ap (right_rows tree tables) is) all

pub root_fails : (tree : ContractionTree) (tables : List (List Row)) (root total sum : ℕ) (lefts rights : List Row) → root ≡ operations tree - 1
    → lefts ≡ left_rows tree tables root → rights ≡ right_rows tree tables root
    → FirstPair (WhereJoined tree root (λ l r. total ≤ l.cost + r.cost)) (IsBelow tree root total sum) lefts rights → FirstBelow tree tables total sum
root_fails tree tables root total sum lefts rights is a b first =
    along (λ n r ls rs. FirstPair (WhereJoined tree n (λ l r. total ≤ l.cost + r.cost)) (IsBelow tree n total sum) ls rs)
    root (operations tree - 1) rights rights lefts (left_rows tree tables (operations tree - 1)) rights (right_rows tree tables (operations tree - 1))
    is refl (a ∙ ap (left_rows tree tables) is) (b ∙ ap (right_rows tree tables) is) first
