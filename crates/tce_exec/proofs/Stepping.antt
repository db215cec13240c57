-- The steps of a tail's windows.
use Rattle.std.proofs.Common.{◌≡◌, ℕ, ◌<◌, if◌then◌else◌, List, Some, None, sym, ap, ◌∙◌, subst, inl, inr, arith}
use Rattle.std.proofs.lemmas.Bool.{cases_Bool}
use Rattle.tce_space.specs.Space.{IsSpace, extent_at}
use Rattle.tce_tree.specs.FlatTree.{IsTree, left_of, right_of}
use Rattle.tce_tree.specs.Value.{Assignment}
use Rattle.tce_tree.specs.WellFormed.{among}
use Rattle.tce_tree.specs.declared.node.Operand.{Operand}
use Rattle.tce_tree.specs.declared.node.Operand.TheVariants.{Leaf, Constant, Node}
use Rattle.tce_tree.proofs.Parents.{parent_is}
use Rattle.tce_layout.specs.Layout.{slot_at}
use Rattle.tce_exec.specs.NodeStates.{Places}
use Rattle.tce_walk.specs.Machine.{IsNodeAt, IsTailAt}
use Rattle.tce_walk.specs.declared.machine.Tail.{Tail}
use Rattle.tce_exec.specs.Sequences.{AreFilled}
use Rattle.tce_exec.specs.declared.sequence.LoopSequence.{LoopSequence}
use Rattle.tce_exec.specs.declared.window.Window.{Window}
use Rattle.tce_exec.specs.Workspace.{Workspace, setting_in}
use Rattle.tce_exec.specs.Prepared.{IsPrepared}
use Rattle.tce_exec.proofs.Reading.{result_known}
use Rattle.tce_exec.specs.Blocks.{loops_of}
use Rattle.tce_exec.specs.Windows.{HasPlace, IsOperandWindow, IsPlaceWindow, AreOperandSteps, ArePlaceSteps, AreSteps, HasSteps, CanStep, AreSumWindows, ArePairWindows, HaveSameSteps, FitSequence}
use Rattle.tce_exec.specs.declared.steps.Windows.{Windows}
use Rattle.tce_exec.proofs.Along.{loop_declared, has_turns}
use Rattle.tce_exec.proofs.Leaving.{joined_product}
use Rattle.tce_exec.proofs.Operands.{left_place, right_place}

-- ---- what the windows of a tail need

-- the numbers of all indexes, those of the loops being 0
abbrev at_zero : List ℕ → Assignment → Assignment
at_zero loops a = λ i. if among loops i then 0 else a i

node_at_zero : (x : Workspace) (tail : Tail) (a : Assignment) → IsSpace x.places.space → IsPrepared x → IsTailAt (setting_in x) tail a → IsNodeAt (setting_in x) tail.node (at_zero (loops_of tail) a)
node_at_zero x tail a space is h = record {
  known = h.known;
  inside = λ i m. elim (cases_Bool (among (loops_of tail) i)) [
    | inl e ↦
        subst (λ n. n < extent_at x.places.space i) (sym (ap (λ b. if b then 0 else a i) e)) ((has_turns x.places.space space).extents i (loop_declared x tail a space is h i e))
    | inr e ↦ subst (λ n. n < extent_at x.places.space i) (sym (ap (λ b. if b then 0 else a i) e)) (h.inside i m e)
  ];
}

has_steps : (x : Workspace) (o : Operand) (b : Assignment) → HasPlace x o b → HasSteps x.places x.cache o
has_steps x (Leaf l) b h = (h.known, h.operand.stored.array)
has_steps x (Constant k) b h = h
has_steps x (Node v) b h = h.inner

pub can_step : (x : Workspace) (tail : Tail) (a : Assignment) → IsSpace x.places.space → IsTree x.places.tree → IsPrepared x → IsTailAt (setting_in x) tail a → CanStep x.places x.tensor x.cache tail
can_step x tail a space tree is h =
    let b : Assignment = at_zero (loops_of tail) a in
    let node : IsNodeAt (setting_in x) tail.node b = node_at_zero x tail a space is h in
    record {
      laid = is.laid;
      known = h.known;
      left_has = has_steps x (left_of x.places.tree tail.node) b (left_place x tail.node b tree is node h.free);
      right_has = λ o right. has_steps x o b (right_place x tail.node b o tree is node h.free right);
      sum_known = λ w e.
          let above = parent_is x.places.tree tail.node w (joined_product x.places.tree tail.node tail.sum h.joined w e).above in (above.inside, omega (arith, above.inside, above.above));
      indexes = result_known x is;
      stored = is.result.array;
    }

-- ---- the steps of all windows of a tail

pub steps_of_sum : (p : Places) (tail : Tail) (w : Windows) → right_of p.tree tail.node ≡ None → AreOperandSteps p (left_of p.tree tail.node) w.left.steps → ArePlaceSteps p tail.node w.out.steps
    → AreSteps p tail w
steps_of_sum p tail w none left out = record {
  left_are = left;
  right_are = λ o e. absurd (let k : ⊥ = cc in k);
  sum_are = λ e. out;
  pair_are = λ o e alone. absurd (let k : ⊥ = cc in k);
  joined_are = λ o v e joined. absurd (let k : ⊥ = cc in k);
}

other_operand : (p : Places) (o other : Operand) (r : Window) → Some o ≡ Some other → AreOperandSteps p o r.steps → AreOperandSteps p other r.steps
other_operand p o other r e h = let same : o ≡ other = cc in subst (λ q. AreOperandSteps p q r.steps) same h

pub steps_of_pair : (p : Places) (tail : Tail) (o : Operand) (w : Windows) → right_of p.tree tail.node ≡ Some o → tail.sum ≡ None → AreOperandSteps p (left_of p.tree tail.node) w.left.steps
    → AreOperandSteps p o w.right.steps → ArePlaceSteps p tail.node w.out.steps → AreSteps p tail w
steps_of_pair p tail o w right none left other out = record {
  left_are = left;
  right_are = λ q e. other_operand p o q w.right (sym right ∙ e) other;
  sum_are = λ e. out;
  pair_are = λ q e alone. out;
  joined_are = λ q v e joined. absurd (let k : ⊥ = cc in k);
}

pub steps_of_joined : (p : Places) (tail : Tail) (o : Operand) (v : ℕ) (w : Windows) → right_of p.tree tail.node ≡ Some o → tail.sum ≡ Some v → AreOperandSteps p (left_of p.tree tail.node) w.left.steps
    → AreOperandSteps p o w.right.steps → ArePlaceSteps p v w.out.steps → w.own.steps ≡ (slot_at p.slots tail.node).steps → AreSteps p tail w
steps_of_joined p tail o v w right some left other out own = record {
  left_are = left;
  right_are = λ q e. other_operand p o q w.right (sym right ∙ e) other;
  sum_are = λ e. absurd (let k : ⊥ = cc in k);
  pair_are = λ q e alone. absurd (let k : ⊥ = cc in k);
  joined_are = λ q u e joined. let same : v ≡ u = cc in (subst (λ n. ArePlaceSteps p n w.out.steps) same out, own);
}

-- ---- after a block

operand_steps_of : (n : ℕ) (y : Workspace) (o : Operand) (first : Assignment) (w : Window) → IsOperandWindow n y o first w → AreOperandSteps y.places o w.steps
operand_steps_of n y (Leaf l) first w h = record { tiling = h.tiling; steps_are = h.window_is.steps_are }
operand_steps_of n y (Constant k) first w h = h
operand_steps_of n y (Node v) first w h = h.steps_are

place_steps_of : (n : ℕ) (y : Workspace) (v : ℕ) (first : Assignment) (w : Window) → IsPlaceWindow n y v first w → ArePlaceSteps y.places v w.steps
place_steps_of n y v first w h = record {
  inner = λ i. (h.inner i).steps_are;
  root = λ l. record { tiling = (h.root l).tiling; steps_are = (h.root l).window_is.steps_are };
}

pub sum_steps : (y : Workspace) (tail : Tail) (first : Assignment) (w : Windows) → right_of y.places.tree tail.node ≡ None → AreSumWindows y (left_of y.places.tree tail.node) tail.node first w
    → AreSteps y.places tail w
sum_steps y tail first w none h =
    steps_of_sum y.places tail w none (operand_steps_of 2 y (left_of y.places.tree tail.node) first w.left h.left_is) (place_steps_of 1 y tail.node first w.out h.out_is)

pub pair_steps : (y : Workspace) (tail : Tail) (o : Operand) (first : Assignment) (w : Windows) → right_of y.places.tree tail.node ≡ Some o → tail.sum ≡ None
    → ArePairWindows y (left_of y.places.tree tail.node) o tail.node first w → AreSteps y.places tail w
pair_steps y tail o first w right none h =
    steps_of_pair y.places tail o w right none (operand_steps_of 3 y (left_of y.places.tree tail.node) first w.left h.left_is) (operand_steps_of 2 y o first w.right h.right_is)
    (place_steps_of 1 y tail.node first w.out h.out_is)

pub joined_steps : (y : Workspace) (tail : Tail) (o : Operand) (v : ℕ) (first : Assignment) (w : Windows) (own : Window) → right_of y.places.tree tail.node ≡ Some o → tail.sum ≡ Some v
    → ArePairWindows y (left_of y.places.tree tail.node) o v first w → own.steps ≡ (slot_at y.places.slots tail.node).steps → AreSteps y.places tail (record w { own = own })
joined_steps y tail o v first w own right some h e =
    steps_of_joined y.places tail o v (record w { own = own }) right some (operand_steps_of 3 y (left_of y.places.tree tail.node) first w.left h.left_is) (operand_steps_of 2 y o first w.right h.right_is)
    (place_steps_of 1 y v first w.out h.out_is) e

-- ---- the loops that stand in a sequence

-- windows that begin elsewhere
moved_filled : (w : Windows) (f g h k : ℕ) (sequence : LoopSequence) → AreFilled w.own w.out w.left w.right sequence
    → AreFilled (record { first = f; steps = w.own.steps }) (record { first = g; steps = w.out.steps }) (record { first = h; steps = w.left.steps }) (record { first = k; steps = w.right.steps }) sequence
moved_filled w f g h k sequence filled = record {
  puts = record { few = filled.puts.few; loops_are = filled.puts.loops_are; left_is = filled.puts.left_is; right_is = filled.puts.right_is };
  products = filled.products;
}

-- they fit windows with the same steps
pub fit_again : (old new : Windows) (sequence : LoopSequence) → HaveSameSteps old new → FitSequence old sequence → FitSequence new sequence
fit_again old new sequence same fit = λ filled.
    let moved = moved_filled old new.own.first new.out.first new.left.first new.right.first sequence (fit filled) in
    subst (λ ss. AreFilled (record { first = new.own.first; steps = ss }) new.out new.left new.right sequence) (sym same.own_same)
    (subst (λ ss. AreFilled (record { first = new.own.first; steps = old.own.steps }) (record { first = new.out.first; steps = ss }) new.left new.right sequence) (sym same.out_same)
    (subst (λ ss. AreFilled (record { first = new.own.first; steps = old.own.steps }) (record { first = new.out.first; steps = old.out.steps }) (record { first = new.left.first; steps = ss }) new.right sequence) (sym same.left_same)
    (subst (λ ss. AreFilled (record { first = new.own.first; steps = old.own.steps }) (record { first = new.out.first; steps = old.out.steps }) (record { first = new.left.first; steps = old.left.steps })
    (record { first = new.right.first; steps = ss }) sequence) (sym same.right_same) moved)))

-- where a place is put after the windows of a joined product, whose own window has its steps
pub joined_fit : (old mid : Windows) (own : Window) (sequence : LoopSequence) → HaveSameSteps old mid → own.steps ≡ old.own.steps → FitSequence old sequence → FitSequence (record mid { own = own }) sequence
joined_fit old mid own sequence same e fit =
    fit_again old (record mid { own = own }) sequence (record { left_same = same.left_same; right_same = same.right_same; out_same = same.out_same; own_same = e }) fit

-- no loops stand in the sequence of a tail without a joined product
pub alone_fits : (tail : Tail) (w : Windows) (sequence : LoopSequence) → tail.sum ≡ None → (v : ℕ) → tail.sum ≡ Some v → FitSequence w sequence
alone_fits tail w sequence none v some = absurd (let k : ⊥ = cc in k)

pub single_fits : (p : Places) (tail : Tail) (w : Windows) (sequence : LoopSequence) → right_of p.tree tail.node ≡ None → (o : Operand) → right_of p.tree tail.node ≡ Some o → FitSequence w sequence
single_fits p tail w sequence none o some = absurd (let k : ⊥ = cc in k)
