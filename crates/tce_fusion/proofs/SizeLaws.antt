-- The size of a node is within the volume of its loops.
use Rattle.std.proofs.Common.{◌≡◌, ℕ, ◌^◌, ◌<◌, ◌≤◌, true, not, Option, Some, None, SomeIff, IsSome, refl, sym, ◌∙◌, le_trans}
use Rattle.std.proofs.lemmas.Bool.{and_parts}
use Rattle.tce_space.specs.IndexSet.{has, minus}
use Rattle.tce_space.specs.Space.{IndexSpace, IsSpace, IsDeclared, extent_at, volume_of}
use Rattle.tce_space.proofs.IndexSetLaws.{has-minus}
use Rattle.tce_space.proofs.Spaces.{index_limits}
use Rattle.tce_space.proofs.VolumeLaws.{volume_within}
use Rattle.tce_tree.specs.ContractionTree.{ContractionTree, operations, node, node_dims, node_loops}
use Rattle.tce_tree.specs.Measure.{IsMeasured}
use Rattle.tce_tree.proofs.NamedIndexes.{node_loops_declared}
use Rattle.tce_tree.proofs.Nodes.{size_bounds}
use Rattle.tce_tree.proofs.Parents.{dims_within_loops}

kept_loop : (tree : ContractionTree) (v set i : ℕ) → v < operations tree → has (minus (node_dims tree v) set) i ≡ true → has (node_loops tree v) i ≡ true
unfolding node_dims node_loops
kept_loop tree v set i h k =
    dims_within_loops (node tree v) i (size_bounds tree v h).0 (and_parts (has (node_dims tree v) i) (not (has set i)) (sym (has-minus (node_dims tree v) set i) ∙ k)).0

-- what a node keeps is declared, and is no more than its loops run over
pub kept_declared : (space : IndexSpace) (tree : ContractionTree) (v set : ℕ) → IsSpace space → IsMeasured space tree → v < operations tree
    → IsDeclared space (minus (node_dims tree v) set)
kept_declared space tree v set s m h i k = node_loops_declared space tree v h s.index_limit m.declared i (kept_loop tree v set i h k)

pub kept_small : (space : IndexSpace) (tree : ContractionTree) (v set : ℕ) → IsSpace space → IsMeasured space tree → v < operations tree
    → volume_of space (minus (node_dims tree v) set) ≤ 2 ^ 90
kept_small space tree v set s m h =
    le_trans
    (volume_within (extent_at space) (minus (node_dims tree v) set) (node_loops tree v) (λ i k. kept_loop tree v set i h k)
    (λ i k. (index_limits space i s (node_loops_declared space tree v h s.index_limit m.declared i k)).some))
    (m.limit v h)

-- what a call gave that gives a value exactly under a condition
pub some_where : (o : Option ℕ) (P : Type 0) (v : ℕ) → SomeIff o P v → P → IsSome o
some_where None P v s p = absurd (s p)
some_where (Some x) P v s p = refl

pub value_where : (o : Option ℕ) (P : Type 0) (v x : ℕ) → SomeIff o P v → o ≡ Some x → x ≡ v
value_where None P v x s e = cc
value_where (Some y) P v x s e = let q : y ≡ x = cc in sym q ∙ s.1
