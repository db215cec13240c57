-- What a tail leaves, whatever the sequence of its loops: the closed forms of sums, of single results and of a product that is summed at once.
use Rattle.std.specs.Prelude.{◌≡◌, ℕ, ◌<◌, ◌^◌, IsTrue, false, List, bytes_eq, if◌then◌else◌}
use Rattle.std.specs.declared.option.Option.TheVariants.{Some}
use Rattle.tce_base.specs.Word.{wrapping_add}
use Rattle.tce_space.specs.IndexSet.{has}
use Rattle.tce_space.specs.Space.{IndexSpace, IsSpace}
use Rattle.tce_tree.specs.ContractionTree.{Arithmetic, ContractionTree, operations, node, parent}
use Rattle.tce_tree.specs.FlatTree.{IsTree}
use Rattle.tce_tree.specs.Fusion.{OrdersFit, kept_dims}
use Rattle.tce_tree.specs.Measure.{IsMeasured}
use Rattle.tce_tree.specs.Value.{Assignment, arithmetic, sum_over}
use Rattle.tce_tree.specs.WellFormed.{among, is_distinct}
use Rattle.tce_block.specs.Last.{last_of_box}
use Rattle.tce_code.specs.CodeFor.{IsCodeFor}
use Rattle.tce_code.specs.Execution.{Setting, State, coordinates, exec, left_word, right_word}
use Rattle.tce_code.specs.Plan.{Plan}
use Rattle.tce_code.specs.Program.{Program, stop, step, accumulate, compute, program_of}
use Rattle.tce_code.specs.Shape.{IsSum}
use Rattle.tce_code.specs.declared.op.Op.{Op}
use Rattle.tce_walk.specs.Tails.{loops_round}
use Rattle.tce_walk.specs.Touches.{touch_bound}

-- the dims over which the places of node `v` range
abbrev pub dims_at : Setting → ℕ → ℕ
dims_at s v = kept_dims s.tree s.fusion v

-- the places of all other nodes stay
abbrev pub SameBut : ℕ → State → State → Type 0
SameBut v before after = (u : ℕ) → (u ≡ v → ⊥) → (p : List ℕ) → after u p ≡ before u p

abbrev pub SameButTwo : ℕ → ℕ → State → State → Type 0
SameButTwo u v before after = (w : ℕ) → (w ≡ u → ⊥) → (w ≡ v → ⊥) → (p : List ℕ) → after w p ≡ before w p

-- each place of node `v` grows by the sum of the words of all assignments of the loops that fall on it
abbrev pub GrowsBySum : Setting → ℕ → List ℕ → (Assignment → ℕ) → Assignment → State → State → Type 0
GrowsBySum s v order f a before after =
    (p : List ℕ) → before v p < 2 ^ 64
    → after v p ≡ wrapping_add (before v p) (sum_over s.elements.extent order (λ b. if bytes_eq p (coordinates (dims_at s v) b) then f b else 0) a)

-- the place of node `v` at `b` has, where assignments of the loops fall on it, the word of the last of them, and else stays
pub record EndsAtLast (s : Setting) (v : ℕ) (order : List ℕ) (f : Assignment → ℕ) (a : Assignment) (before after : State) (b : Assignment) : Type 0 where
  pub met : ((i : ℕ) → IsTrue (among order i) → IsTrue (has (dims_at s v) i) → b i < s.elements.extent i)
      → ((i : ℕ) → IsTrue (has (dims_at s v) i) → among order i ≡ false → a i ≡ b i)
      → after v (coordinates (dims_at s v) b) ≡ f (last_of_box s.elements.extent (has (dims_at s v)) b order a)
  pub missed : (i : ℕ) → IsTrue (has (dims_at s v) i) → among order i ≡ false → (a i ≡ b i → ⊥)
      → after v (coordinates (dims_at s v) b) ≡ before v (coordinates (dims_at s v) b)

-- loops that are named once, and have some turns
pub record AreLoops (s : Setting) (order : List ℕ) : Type 0 where
  pub distinct : IsTrue (is_distinct order)
  pub some : (i : ℕ) → IsTrue (among order i) → 0 < s.elements.extent i

abbrev pub state_after : Setting → List ℕ → Program → State → Assignment → State
state_after s order inside before a = exec s (loops_round order inside) before a

-- a sum's operation inside loops
abbrev pub SumTailsAddUp : Type 0
SumTailsAddUp =
    (s : Setting) (v : ℕ) (order : List ℕ) (before : State) (a : Assignment) → v < operations s.tree
    → SameBut v before (state_after s order (step (accumulate v) stop) before a)
    × GrowsBySum s v order (left_word s v before) a before (state_after s order (step (accumulate v) stop) before a)

-- the word that a node's operands have in a state
abbrev pub computed_word : Setting → Arithmetic → ℕ → State → Assignment → ℕ
computed_word s op v before b = arithmetic op (left_word s v before b) (right_word s v before b)

-- the operation of a node with two operands inside loops
abbrev pub SingleTailsEndAtLast : Type 0
SingleTailsEndAtLast =
    (s : Setting) (op : Arithmetic) (v : ℕ) (order : List ℕ) (before : State) (a : Assignment) → v < operations s.tree → AreLoops s order
    → SameBut v before (state_after s order (step (compute op v) stop) before a)
    × ((b : Assignment) → EndsAtLast s v order (computed_word s op v before) a before (state_after s order (step (compute op v) stop) before a) b)

-- what the operation of a node with two operands and that of its parent, a sum, leave inside loops
pub record JoinedLeaves (s : Setting) (op : Arithmetic) (u v : ℕ) (order : List ℕ) (before : State) (a : Assignment) (after : State) : Type 0 where
  pub others : SameButTwo u v before after
  pub sums : GrowsBySum s v order (computed_word s op u before) a before after
  pub last : (b : Assignment) → EndsAtLast s u order (computed_word s op u before) a before after b

abbrev pub JoinedTailsAddUp : Type 0
JoinedTailsAddUp =
    (s : Setting) (op : Arithmetic) (u v : ℕ) (order : List ℕ) (before : State) (a : Assignment)
    → u < operations s.tree → v < operations s.tree → parent s.tree u ≡ Some v → IsSum (node s.tree v) → AreLoops s order
    → JoinedLeaves s op u v order before a (state_after s order (step (compute op u) (step (accumulate v) stop)) before a)

-- the code of a tree over a space makes fewer than 2 ^ 100 touches
abbrev pub TouchesAreFew : Type 0
TouchesAreFew =
    (space : IndexSpace) (tree : ContractionTree) (plan : Plan) (ops : List Op) → IsSpace space → IsMeasured space tree → IsTree tree
    → OrdersFit tree plan.orders → IsCodeFor tree plan ops → touch_bound space tree (program_of ops) < 2 ^ 100
