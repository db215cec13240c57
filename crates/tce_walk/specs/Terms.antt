-- Nodes whose values are added up from terms, and what a machine is asked at one block of the loops round them.
use Rattle.std.specs.Prelude.{◌≡◌, ℕ, ◌+◌, ◌*◌, ◌<◌, ◌≤◌, ◌⊎◌, IsTrue, false, Option, List, [], ◌∷◌, ◌++◌, length, map, slice_get, All}
use Rattle.std.specs.List.{fold}
use Rattle.std.specs.Option.{option_map}
use Rattle.std.specs.declared.option.Option.TheVariants.{Some}
use Rattle.tce_base.specs.Word.{wrapping_add, wrapping_mul}
use Rattle.tce_space.specs.Box.{product}
use Rattle.tce_space.specs.IndexSet.{has}
use Rattle.tce_space.specs.Limits.{max_loops, max_volume}
use Rattle.tce_space.specs.Space.{IndexSpace, extent_at, edge_at}
use Rattle.tce_tree.specs.ContractionTree.{ContractionTree, leaf, constant, binary, sum, multiply, operations, dims, node, node_dims, left_tree, right_tree}
use Rattle.tce_tree.specs.Fusion.{kept_dims}
use Rattle.tce_tree.specs.Value.{Assignment, Elements, sum_over, value}
use Rattle.tce_tree.specs.WellFormed.{among, is_distinct}
use Rattle.tce_block.specs.Parts.{Part, blocks}
use Rattle.tce_code.specs.Execution.{Setting, State}
use Rattle.tce_code.specs.Shape.{IsBinary}
use Rattle.tce_walk.specs.Parts.{set_by_part}
use Rattle.tce_walk.specs.Touches.{block_count}
use Rattle.tce_walk.specs.declared.terms.Combination.{Combination}
use Rattle.tce_walk.specs.declared.terms.Term.{Term}
use Rattle.tce_walk.specs.declared.terms.TermOperand.{TermOperand}
use Rattle.tce_walk.specs.declared.terms.TermOperand.TheVariants.{Product, Left, Right}

abbrev pub operand_tree : ContractionTree → TermOperand → ContractionTree
operand_tree tree (Product v) = node tree v
operand_tree tree (Left v) = left_tree (node tree v)
operand_tree tree (Right v) = right_tree (node tree v)

-- ---- values

-- the sum of a term's operand
abbrev pub term_sum : Elements → ContractionTree → Term → Assignment → ℕ
term_sum e tree term a = sum_over e.extent term.loops.0.items (value e (operand_tree tree term.operand)) a

-- what stands is multiplied by the term's scale, and the term's sum is added
abbrev pub with_term : Elements → ContractionTree → Assignment → ℕ → Term → ℕ
with_term e tree a before term = wrapping_add (wrapping_mul term.scale before) (term_sum e tree term a)

abbrev pub combined_value : Elements → ContractionTree → Combination → Assignment → ℕ
combined_value e tree c a = wrapping_mul c.scale (fold (with_term e tree a) 0 c.terms.now)

-- ---- what is asked

abbrev pub IsTensor : ContractionTree → Type 0
IsTensor (leaf tensor indexes) = Unit {0}
IsTensor (constant number) = ⊥
IsTensor (binary op left right) = ⊥
IsTensor (sum indexes operand) = ⊥

-- the operand of a term is a tensor, or the product of two
abbrev pub IsTermOperand : ContractionTree → TermOperand → Type 0
IsTermOperand tree (Product v) =
    (v < operations tree) × IsBinary multiply (node tree v) × IsTensor (left_tree (node tree v)) × IsTensor (right_tree (node tree v))
IsTermOperand tree (Left v) = (v < operations tree) × IsTensor (left_tree (node tree v))
IsTermOperand tree (Right v) = (v < operations tree) × IsTensor (right_tree (node tree v))

-- A term inside some loops. Together with its own they are few and distinct, and each index of the operand is one of them or has a number
-- inside its extent.
pub record IsTermIn (space : IndexSpace) (s : Setting) (loops : List ℕ) (a : Assignment) (term : Term) : Type 0 where
  pub operand : IsTermOperand s.tree term.operand
  pub few : length (loops ++ term.loops.0.items) ≤ max_loops
  pub distinct : IsTrue (is_distinct (loops ++ term.loops.0.items))
  pub declared : (i : ℕ) → IsTrue (among (loops ++ term.loops.0.items) i) → i < length space.indexes
  pub inside : (i : ℕ) → IsTrue (has (dims (operand_tree s.tree term.operand)) i) → IsTrue (among (loops ++ term.loops.0.items) i) ⊎ (a i < s.elements.extent i)
  pub limit : product (map (extent_at space) (loops ++ term.loops.0.items)) ≤ max_volume

-- A node whose value terms add up to, all of whose loops are kept dims; and one of the blocks into which the edges cut these loops.
pub record IsCombinationAt (space : IndexSpace) (s : Setting) (c : Combination) (part : Part) (a : Assignment) : Type 0 where
  pub known : c.node < operations s.tree
  pub kept : (i : ℕ) → IsTrue (among c.loops.now i) → IsTrue (has (kept_dims s.tree s.fusion c.node) i)
  pub inside : (i : ℕ) → IsTrue (has (node_dims s.tree c.node) i) → IsTrue (among c.loops.now i) ⊎ (a i < s.elements.extent i)
  pub some : 0 < length c.terms.now
  pub each : All (IsTermIn space s c.loops.now a) c.terms.now
  pub apart : All (λ term. (i : ℕ) → IsTrue (among term.loops.0.items i) → has (node_dims s.tree c.node) i ≡ false) c.terms.now
  pub value : (b : Assignment) → combined_value s.elements s.tree c b ≡ value s.elements (node s.tree c.node) b
  pub number : ℕ
  pub block : slice_get (blocks (map (extent_at space) c.loops.now) (map (edge_at space) c.loops.now)) number ≡ Some part

-- three touches for each block of each term's loops
abbrev pub touches_of_terms : IndexSpace → List Term → ℕ
touches_of_terms space [] = 0
touches_of_terms space (term ∷ terms) = 3 * block_count space term.loops.0.items + touches_of_terms space terms

-- the node's places in the block get its values, where a state is told
abbrev pub after_combination : Setting → Combination → Part → Assignment → Option State → Option State
after_combination s c part a state =
    option_map (λ before. set_by_part s c.node c.loops.now (value s.elements (node s.tree c.node)) a part before) state
