-- A block, from its windows on.
use Rattle.std.proofs.Common.{◌≡◌, ℕ, ◌<◌, ◌≤◌, ◌^◌, List, length, slice_index, Some, None, ap, ◌∙◌, arith}
use Rattle.tce_tree.specs.ContractionTree.{Arithmetic, multiply, add, subtract, node}
use Rattle.tce_tree.specs.FlatTree.{left_of, right_of, kind_of, arithmetic_kind}
use Rattle.tce_tree.specs.Value.{Assignment, arithmetic}
use Rattle.tce_tree.specs.declared.node.Operand.{Operand}
use Rattle.tce_tree.specs.declared.node.Kind.{Kind}
use Rattle.tce_block.specs.Parts.{Part}
use Rattle.tce_walk.specs.Parts.{after_part}
use Rattle.tce_block.specs.Turns.{grown, computed, operate}
use Rattle.tce_layout.specs.Layout.{slot_at}
use Rattle.tce_walk.specs.declared.machine.Tail.{Tail}
use Rattle.tce_exec.specs.Loops.{AreMade, AreProductsJoined, place_along}
use Rattle.tce_exec.specs.declared.window.Window.{Window}
use Rattle.tce_exec.specs.OperandWindows.{IsSlotWindow}
use Rattle.tce_exec.specs.Workspace.{Workspace, setting_in}
use Rattle.tce_exec.specs.Prepared.{IsPrepared}
use Rattle.tce_exec.specs.Operands.{combined}
use Rattle.tce_exec.specs.Steps.{IsKept, IsRead}
use Rattle.tce_exec.proofs.Putting.{with_words}
use Rattle.tce_exec.specs.Blocks.{loops_of, IsWithin, HaveNone}
use Rattle.tce_exec.specs.Windows.{AreSumWindows, ArePairWindows}
use Rattle.tce_exec.specs.declared.steps.Windows.{Windows}
use Rattle.tce_exec.specs.TailBlocks.{IsAtBlock}
use Rattle.tce_exec.proofs.Turning.{block_later, Reads}
use Rattle.tce_exec.proofs.Placing.{Puts}
use Rattle.tce_exec.proofs.Leaving.{turns_at, ReadsBoth, IsRun, run_from, sum_leaves, pair_leaves, joined_leaves}
use Rattle.tce_exec.proofs.Asking.{reads_left, reads_right, puts_own, puts_sum, own_window, left_apart, right_apart, place_in_words, operand_in_words, none_common, is_sum, is_binary, joined_at}

-- ---- sums

pub record SumReady (y : Workspace) (tail : Tail) (a : Assignment) (part : Part) (windows : Windows) : Type 0 where
  pub block : IsAtBlock y tail a part
  pub reads : Reads y (turns_at tail a part) 2 (left_of y.places.tree tail.node) windows.left
  pub puts : Puts y (turns_at tail a part) 1 tail.node windows.out
  pub out : IsWithin (length y.words) tail part windows.out
  pub operand : IsWithin (length y.words) tail part windows.left
  pub apart : HaveNone tail part windows.out windows.left

pub sum_ready : (x y : Workspace) (tail : Tail) (a : Assignment) (part : Part) (first : Assignment) (windows : Windows) → IsAtBlock x tail a part → IsKept x y → IsRead 2 x y
    → first ≡ (turns_at tail a part).first → AreSumWindows y (left_of y.places.tree tail.node) tail.node first windows → SumReady y tail a part windows
sum_ready x y tail a part first windows h kept read same are =
    let block = block_later x y tail a part kept read.prepared h in
    let reads = reads_left y tail a part 2 first windows.left block same are.left_is in
    let puts = puts_own y tail a part 1 first windows.out block same are.out_is in
    record {
      block = block;
      reads = reads;
      puts = puts;
      out = place_in_words y tail a part 1 tail.node windows.out block puts;
      operand = operand_in_words y tail a part 2 (left_of y.places.tree tail.node) windows.left block reads;
      apart = none_common y tail a part windows.out windows.left block (left_apart y tail a part 1 2 tail.node windows.out windows.left block (omega arith) puts reads);
    }

pub sum_runs : (x y : Workspace) (tail : Tail) (a : Assignment) (part : Part) (windows : Windows) (new : List ℕ) → IsPrepared x → IsKept x y → IsRead 2 x y → SumReady y tail a part windows
    → ((k : ℕ) → slice_index y.words k < 2 ^ 64) → right_of y.places.tree tail.node ≡ None
    → AreMade (loops_of tail) part.len (λ inner. grown y.words (place_along windows.left inner)) windows.out y.words new
    → IsRun x (with_words y new) (after_part (setting_in x) tail a part)
sum_runs x y tail a part windows new is kept read ready low none made =
    run_from 2 x y new tail a part (omega arith) is kept read
    (sum_leaves y tail a part 2 1 windows.left windows.out new ready.block low (is_sum y.places.tree tail.node ready.block.tail_is.known none) ready.reads ready.puts made)

-- ---- two operands

pub record OperandsReady (y : Workspace) (tail : Tail) (a : Assignment) (part : Part) (o : Operand) (left right : Window) : Type 0 where
  pub block : IsAtBlock y tail a part
  pub reads : ReadsBoth y (turns_at tail a part) 3 2 tail.node o left right
  pub left_in : IsWithin (length y.words) tail part left
  pub right_in : IsWithin (length y.words) tail part right

pub operands_ready : (x y : Workspace) (tail : Tail) (a : Assignment) (part : Part) (o : Operand) (v : ℕ) (first : Assignment) (windows : Windows) → IsAtBlock x tail a part → IsKept x y → IsRead 3 x y
    → first ≡ (turns_at tail a part).first → right_of y.places.tree tail.node ≡ Some o → ArePairWindows y (left_of y.places.tree tail.node) o v first windows
    → OperandsReady y tail a part o windows.left windows.right
operands_ready x y tail a part o v first windows h kept read same right are =
    let block = block_later x y tail a part kept read.prepared h in
    let lefts = reads_left y tail a part 3 first windows.left block same are.left_is in
    let rights = reads_right y tail a part 2 o first windows.right block same right are.right_is in
    record {
      block = block;
      reads = record { left_is = lefts; right_of_is = right; right_is = rights };
      left_in = operand_in_words y tail a part 3 (left_of y.places.tree tail.node) windows.left block lefts;
      right_in = operand_in_words y tail a part 2 o windows.right block rights;
    }

-- a window of places
pub record PlacesReady (y : Workspace) (tail : Tail) (a : Assignment) (part : Part) (v : ℕ) (left right out : Window) : Type 0 where
  pub puts : Puts y (turns_at tail a part) 1 v out
  pub out_is : IsWithin (length y.words) tail part out
  pub from_left : HaveNone tail part out left
  pub from_right : HaveNone tail part out right

pub places_ready : (y : Workspace) (tail : Tail) (a : Assignment) (part : Part) (o : Operand) (v : ℕ) (left right out : Window) → tail.node ≤ v → OperandsReady y tail a part o left right
    → Puts y (turns_at tail a part) 1 v out → PlacesReady y tail a part v left right out
places_ready y tail a part o v left right out le ready puts = record {
  puts = puts;
  out_is = place_in_words y tail a part 1 v out ready.block puts;
  from_left = none_common y tail a part out left ready.block (left_apart y tail a part 1 3 v out left ready.block le puts ready.reads.left_is);
  from_right = none_common y tail a part out right ready.block (right_apart y tail a part 1 2 v o out right ready.block le puts ready.reads.right_of_is ready.reads.right_is);
}

pub own_ready : (y : Workspace) (tail : Tail) (a : Assignment) (part : Part) (o : Operand) (first : Assignment) (windows : Windows) → OperandsReady y tail a part o windows.left windows.right
    → first ≡ (turns_at tail a part).first → ArePairWindows y (left_of y.places.tree tail.node) o tail.node first windows
    → PlacesReady y tail a part tail.node windows.left windows.right windows.out
own_ready y tail a part o first windows ready same are =
    places_ready y tail a part o tail.node windows.left windows.right windows.out (omega arith) ready (puts_own y tail a part 1 first windows.out ready.block same are.out_is)

kind_computes : (operation : Arithmetic) (k : Kind) (op : Arithmetic) → k ≡ arithmetic_kind op → ((p q : ℕ) → operate operation p q ≡ combined k p q) → (p q : ℕ) → operate operation p q ≡ arithmetic op p q
kind_computes operation k multiply e h p q = h p q ∙ ap (λ j. combined j p q) e
kind_computes operation k add e h p q = h p q ∙ ap (λ j. combined j p q) e
kind_computes operation k subtract e h p q = h p q ∙ ap (λ j. combined j p q) e

pub pair_runs : (x y : Workspace) (tail : Tail) (a : Assignment) (part : Part) (o : Operand) (operation : Arithmetic) (k : Kind) (windows : Windows) (new : List ℕ)
    → IsPrepared x → IsKept x y → IsRead 3 x y → OperandsReady y tail a part o windows.left windows.right → PlacesReady y tail a part tail.node windows.left windows.right windows.out
    → ((p : ℕ) → slice_index y.words p < 2 ^ 64) → tail.sum ≡ None → k ≡ kind_of (node y.places.tree tail.node) → ((p q : ℕ) → operate operation p q ≡ combined k p q)
    → AreMade (loops_of tail) part.len (λ inner. computed operation y.words (place_along windows.left inner) (place_along windows.right inner)) windows.out y.words new
    → IsRun x (with_words y new) (after_part (setting_in x) tail a part)
pair_runs x y tail a part o operation k windows new is kept read ready places low alone kind computes made =
    let n = is_binary y.places.tree tail.node o ready.reads.right_of_is in
    run_from 3 x y new tail a part (omega arith) is kept read
    (pair_leaves y tail a part 3 2 1 o n.0 n.1 n.2 operation windows.left windows.right windows.out new ready.block low n.3 alone
    (kind_computes operation k n.0 (kind ∙ ap kind_of n.3) computes) ready.reads places.puts made)

-- ---- joined nodes

pub sum_places_ready : (y : Workspace) (tail : Tail) (a : Assignment) (part : Part) (o : Operand) (w : ℕ) (first : Assignment) (windows : Windows) → OperandsReady y tail a part o windows.left windows.right
    → first ≡ (turns_at tail a part).first → tail.sum ≡ Some w → ArePairWindows y (left_of y.places.tree tail.node) o w first windows
    → PlacesReady y tail a part w windows.left windows.right windows.out
sum_places_ready y tail a part o w first windows ready same sum_is are =
    let after = (joined_at y tail a part w ready.block sum_is).after in
    places_ready y tail a part o w windows.left windows.right windows.out (omega (arith, after)) ready (puts_sum y tail a part 1 w first windows.out ready.block same sum_is are.out_is)

pub slot_places_ready : (y : Workspace) (tail : Tail) (a : Assignment) (part : Part) (o : Operand) (w : ℕ) (first : Assignment) (left right own : Window) → OperandsReady y tail a part o left right
    → first ≡ (turns_at tail a part).first → tail.sum ≡ Some w → IsSlotWindow (slot_at y.places.slots tail.node) first own → PlacesReady y tail a part tail.node left right own
slot_places_ready y tail a part o w first left right own ready same sum_is window =
    places_ready y tail a part o tail.node left right own (omega arith) ready
    (puts_own y tail a part 1 first own ready.block same (own_window y tail a part w first own ready.block sum_is window))

pub joined_runs : (x y : Workspace) (tail : Tail) (a : Assignment) (part : Part) (o : Operand) (w : ℕ) (windows : Windows) (own : Window) (new : List ℕ)
    → IsPrepared x → IsKept x y → IsRead 3 x y → OperandsReady y tail a part o windows.left windows.right → PlacesReady y tail a part tail.node windows.left windows.right own
    → PlacesReady y tail a part w windows.left windows.right windows.out
    → ((p : ℕ) → slice_index y.words p < 2 ^ 64) → tail.sum ≡ Some w
    → AreProductsJoined (loops_of tail) part.len own windows.out windows.left windows.right y.words new
    → IsRun x (with_words y new) (after_part (setting_in x) tail a part)
joined_runs x y tail a part o w windows own new is kept read ready own_places out_places low sum_is made =
    run_from 3 x y new tail a part (omega arith) is kept read
    (joined_leaves y tail a part 3 2 1 1 w o windows.left windows.right own windows.out made.mid new ready.block low made.words sum_is ready.reads (record {
      own_is = own_places.puts;
      out_is = out_places.puts;
      left_apart = left_apart y tail a part 1 3 tail.node own windows.left ready.block (omega arith) own_places.puts ready.reads.left_is;
      right_apart = right_apart y tail a part 1 2 tail.node o own windows.right ready.block (omega arith) own_places.puts ready.reads.right_of_is ready.reads.right_is;
    }) made.put made.grown)
