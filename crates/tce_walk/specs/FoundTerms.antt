-- Terms that are found for the node that a band carries, and what makes them right.
use Rattle.std.specs.Prelude.{◌≡◌, ◌⊎◌, ℕ, ◌+◌, ◌<◌, ◌≤◌, IsTrue, if◌then◌else◌, bytes_eq, List, [], ◌∷◌, ◌++◌, not, length, map, slice_index_or, All}
use Rattle.std.specs.declared.option.Option.TheVariants.{Some}
use Rattle.std.specs.List.{fold, list_all}
use Rattle.tce_base.specs.Word.{wrapping_add, wrapping_mul}
use Rattle.tce_space.specs.Box.{product}
use Rattle.tce_space.specs.IndexSet.{has, set_of}
use Rattle.tce_space.specs.Space.{IndexSpace, extent_at}
use Rattle.tce_tree.specs.ContractionTree.{ContractionTree, sum, dims, operations, node, node_dims, left_tree, right_tree}
use Rattle.tce_tree.specs.Fusion.{kept_dims}
use Rattle.tce_tree.specs.Value.{Assignment, Elements, sum_over, value}
use Rattle.tce_tree.specs.WellFormed.{among, is_distinct}
use Rattle.tce_code.specs.Execution.{Setting, State, coordinates, exec}
use Rattle.tce_code.specs.Plan.{Plan}
use Rattle.tce_code.specs.Program.{Program, stop, step, loop, clear}
use Rattle.tce_code.specs.Shape.{EachAction, ActionFits, IsLoop, most_open}
use Rattle.tce_code.specs.declared.op.Op.{Op}
use Rattle.tce_code.specs.declared.op.Op.TheVariants.{Open}
use Rattle.tce_space.specs.Limits.{max_loops, max_volume}
use Rattle.tce_walk.specs.Bands.{Known, left_ready, right_ready}
use Rattle.tce_walk.specs.Positions.{program_at}
use Rattle.tce_walk.specs.TailLaws.{dims_at}
use Rattle.tce_walk.specs.Terms.{operand_tree, with_term, touches_of_terms, IsTensor, IsTermOperand}
use Rattle.tce_walk.specs.Touches.{touch_bound, block_count}
use Rattle.tce_walk.specs.Run.{IsEnd}
use Rattle.tce_tree.specs.declared.node.Operand.{Operand}
use Rattle.tce_tree.specs.declared.node.Operand.TheVariants.{Leaf, Constant, Node}
use Rattle.tce_walk.specs.declared.band_search.Band.{Band}
use Rattle.tce_walk.specs.declared.machine.Tail.{Tail}
use Rattle.tce_walk.specs.declared.values.Summed.{Summed}
use Rattle.tce_walk.specs.declared.combination.Terms.{Terms}
use Rattle.tce_walk.specs.declared.summands.Summand.{Summand}
use Rattle.tce_walk.specs.declared.terms.Term.{Term}
use Rattle.tce_walk.specs.declared.terms.TermOperand.{TermOperand}

-- ---- what a node's value is the sum of

-- the loops are those over which node `v` sums, in any sequence
abbrev pub AreSummed : ContractionTree → ℕ → List ℕ → Type 0
AreSummed tree v loops =
    (is : List ℕ) (c : ContractionTree) (extent : ℕ → ℕ) (f : Assignment → ℕ) (a : Assignment) → node tree v ≡ sum is c → sum_over extent loops f a ≡ sum_over extent is f a

abbrev pub summand_value : Elements → ContractionTree → Assignment → Summand → ℕ
summand_value e tree a s = wrapping_mul s.factor (sum_over e.extent s.loops.0.items (value e (operand_tree tree s.operand)) a)

abbrev pub total : Elements → ContractionTree → Assignment → List Summand → ℕ
total e tree a [] = 0
total e tree a (s ∷ rest) = wrapping_add (summand_value e tree a s) (total e tree a rest)

-- one more stands somewhere
abbrev pub IsInserted : Summand → List Summand → List Summand → Type 0
IsInserted s before now = (e : Elements) (tree : ContractionTree) (a : Assignment) → total e tree a now ≡ wrapping_add (total e tree a before) (summand_value e tree a s)

-- the summands now have in addition so many times the value of a tree
abbrev pub AddsTimes : ContractionTree → ContractionTree → ℕ → List Summand → List Summand → Type 0
AddsTimes tree c factor before now =
    (e : Elements) (a : Assignment) → total e tree a now ≡ wrapping_add (total e tree a before) (wrapping_mul factor (value e c a))

-- terms, with what all are multiplied by in the end, give what the summands give
abbrev pub AddUpTo : ContractionTree → List Summand → List Term → ℕ → Type 0
AddUpTo tree summands terms scale =
    (e : Elements) (a : Assignment) → wrapping_mul scale (fold (with_term e tree a) 0 terms) ≡ total e tree a summands

-- the value of node `v`
abbrev pub AddUpToValue : ContractionTree → ℕ → List Term → ℕ → Type 0
AddUpToValue tree v terms scale =
    (e : Elements) (a : Assignment) → wrapping_mul scale (fold (with_term e tree a) 0 terms) ≡ value e (node tree v) a

-- the set of a list of indexes
pub record IsSetOf (indexes : List ℕ) (set : ℕ) : Type 0 where
  pub same : set ≡ set_of indexes
  pub inside : (i : ℕ) → has set i ≡ among indexes i

-- a tensor with its dims
abbrev pub IsDimsOfTensor : Operand → ℕ → Type 0
IsDimsOfTensor (Leaf l) set = set ≡ set_of l.indexes.items
IsDimsOfTensor (Constant number) set = ⊥
IsDimsOfTensor (Node v) set = ⊥

-- a term's operand, with its dims
pub record IsOperandOver (tree : ContractionTree) (operand : TermOperand) (set : ℕ) : Type 0 where
  pub operand_is : IsTermOperand tree operand
  pub dims_are : dims (operand_tree tree operand) ≡ set

-- all its dims are among the loops
pub record IsOperandIn (tree : ContractionTree) (operand : TermOperand) (loops : List ℕ) : Type 0 where
  pub operand_is : IsTermOperand tree operand
  pub inside : (i : ℕ) → IsTrue (has (dims (operand_tree tree operand)) i) → IsTrue (among loops i)

-- a term inside loops, over loops of its own that are none of these dims
pub record IsTermOver (space : IndexSpace) (tree : ContractionTree) (loops : List ℕ) (set : ℕ) (term : Term) : Type 0 where
  pub operand : IsOperandIn tree term.operand (loops ++ term.loops.0.items)
  pub few : length (loops ++ term.loops.0.items) ≤ max_loops
  pub distinct : IsTrue (is_distinct (loops ++ term.loops.0.items))
  pub declared : All (λ i. i < length space.indexes) (loops ++ term.loops.0.items)
  pub limit : product (map (extent_at space) (loops ++ term.loops.0.items)) ≤ max_volume
  pub apart : IsTrue (list_all (λ i. not (has set i)) term.loops.0.items)

-- the loops are kept dims of node `v`, which has no other dims
pub record AreKeptDims (tree : ContractionTree) (fusion loops : List ℕ) (v : ℕ) : Type 0 where
  pub kept : IsTrue (list_all (has (kept_dims tree fusion v)) loops)
  pub over : (i : ℕ) → IsTrue (has (node_dims tree v) i) → IsTrue (among loops i)

-- ---- values that a body leaves

-- the places of these nodes hold their values
abbrev pub AreRight : Setting → Known → State → Assignment → Type 0
AreRight s right state a =
    (v : ℕ) → v < operations s.tree → IsTrue (right v) → state v (coordinates (dims_at s v) a) ≡ value s.elements (node s.tree v) a

-- a program in the code of a tree
pub record IsCodePart (tree : ContractionTree) (program : Program) : Type 0 where
  pub plan : Plan
  pub opened : List ℕ
  pub shape : EachAction (ActionFits tree plan) (IsLoop tree) program opened
  pub few : most_open program ≤ max_loops

-- an operand is a tensor
abbrev pub NamesTensor : Operand → Type 0
NamesTensor (Leaf l) = Unit {0}
NamesTensor (Constant number) = ⊥
NamesTensor (Node v) = ⊥

-- both operands of a node are tensors
pub record TakesTensors (tree : ContractionTree) (v : ℕ) : Type 0 where
  pub left : IsTensor (left_tree (node tree v))
  pub right : IsTensor (right_tree (node tree v))

-- a tail adds up the sum `v`, which has a single place, of products of tensors
pub record AddsUp (space : IndexSpace) (tree : ContractionTree) (fusion : List ℕ) (tail : Tail) (v : ℕ) : Type 0 where
  pub joined : tail.sum ≡ Some v
  pub tensors : TakesTensors tree tail.node
  pub single : kept_dims tree fusion v ≡ 0
  pub declared : All (λ i. i < length space.indexes) tail.loops.0.items
  pub summed : AreSummed tree v tail.loops.0.items

-- the operands of a node are ready, and no other node has been marked
pub record IsCheckedNode (tree : ContractionTree) (v : ℕ) (before after : Known) : Type 0 where
  pub left : IsTrue (left_ready tree before v)
  pub right : IsTrue (right_ready tree before v)
  pub marked : (u : ℕ) → IsTrue (after u) → (u ≡ v) ⊎ IsTrue (before u)

-- the settings of a tree with a fusion
pub record IsOver (tree : ContractionTree) (fusion : List ℕ) (s : Setting) : Type 0 where
  pub tree_is : s.tree ≡ tree
  pub fusion_is : s.fusion ≡ fusion

-- Whatever stands elsewhere, the places of more nodes hold their values behind a program. Of the places of node `t` only the one at the
-- loops' numbers may change. So many touches are within the program's bound.
pub record LeavesValues (space : IndexSpace) (tree : ContractionTree) (fusion : List ℕ) (t : ℕ) (program : Program) (before after : Known) (bound : ℕ) : Type 0 where
  pub right : (s : Setting) (state : State) (a : Assignment) → IsOver tree fusion s → AreRight s before state a → AreRight s after (exec s program state a) a
  pub others : (s : Setting) (state : State) (a : Assignment) (p : List ℕ) → IsOver tree fusion s → (p ≡ coordinates (dims_at s t) a → ⊥) → exec s program state a t p ≡ state t p
  pub touches : bound ≤ touch_bound space tree program

-- the loops of a sum stand at a position, behind its `Clear`
pub record IsSummedAt (space : IndexSpace) (tree : ContractionTree) (fusion : List ℕ) (ops : List Op) (t at v : ℕ) (before after : Known) (s : Summed) : Type 0 where
  pub loop_over : ℕ
  pub opens : (d : Op) → slice_index_or ops at d ≡ Open loop_over
  pub within : at < length ops
  pub leaves : LeavesValues space tree fusion t (step (clear v) (loop loop_over (program_at ops (at + 1)) stop)) before after s.touches
  pub ends : IsEnd ops (at + 1) s.close

-- a body sets the place of node `t` at the loops' numbers to a word that they decide alone, and no other place of it
abbrev pub SetsAlone : Setting → ℕ → (Assignment → ℕ) → Program → Type 0
SetsAlone s t f body =
    (state : State) (a : Assignment) (p : List ℕ) → exec s body state a t p ≡ (if bytes_eq p (coordinates (dims_at s t) a) then f a else state t p)

-- ---- what is found

-- The terms of the node that a band carries. Its dims are the loops of the band, which are all kept, and the body leaves its values there.
-- A block has more elements than one, and the terms take no more touches than the body once.
pub record AreTermsOf (space : IndexSpace) (tree : ContractionTree) (fusion : List ℕ) (ops : List Op) (band : Band) (terms : Terms) : Type 0 where
  pub known : band.carrier < operations tree
  pub dims : AreKeptDims tree fusion band.loops.0.items band.carrier
  pub distinct : IsTrue (is_distinct band.loops.0.items)
  pub some : 0 < length terms.terms.items
  pub each : All (IsTermOver space tree band.loops.0.items (node_dims tree band.carrier)) terms.terms.items
  pub adds_up : AddUpToValue tree band.carrier terms.terms.items terms.scale
  pub sets : (s : Setting) → IsOver tree fusion s → SetsAlone s band.carrier (value s.elements (node tree band.carrier)) (program_at ops band.at)
  pub touches : touches_of_terms space terms.terms.items ≤ touch_bound space tree (program_at ops band.at)
  pub coarse : block_count space band.loops.0.items + 1 ≤ product (map (extent_at space) band.loops.0.items)
