-- What the calls of a block ask, from what is known of the block.
use Rattle.std.proofs.Common.{◌≡◌, ◌≢◌, ℕ, ◌<◌, ◌≤◌, false, if◌then◌else◌, List, [], ◌∷◌, map, length, Some, None, refl, sym, ap, ◌∙◌, subst, inl, inr, arith}
use mathlib.Core.Path.{fun_ext}
use Rattle.std.proofs.lemmas.Bool.{true≢false, cases_Bool}
use Rattle.tce_space.specs.Space.{extent_at, edge_at}
use Rattle.tce_tree.specs.ContractionTree.{ContractionTree, leaf, constant, binary, sum, is_leaf, Arithmetic, multiply, add, subtract, operations, node}
use Rattle.tce_tree.specs.FlatTree.{left_of, right_of, right_operand, first_number_of, kind_of, arithmetic_kind}
use Rattle.tce_tree.specs.declared.node.Kind.{Kind}
use Rattle.tce_tree.specs.declared.node.Kind.TheVariants.{Sum}
use Rattle.tce_tree.specs.Value.{Assignment, assignment}
use Rattle.tce_tree.specs.declared.node.Operand.{Operand}
use Rattle.tce_tree.specs.declared.node.Operand.TheVariants.{Node}
use Rattle.tce_tree.proofs.Operands.{left_is_before, right_is_before}
use Rattle.tce_tree.proofs.Parents.{IsParent, parent_is}
use Rattle.tce_block.specs.Laws.{AreParts}
use Rattle.tce_block.specs.Parts.{Part}
use Rattle.tce_block.proofs.Fitting.{fit_the_box}
use Rattle.tce_code.specs.Shape.{IsSum}
use Rattle.tce_code.proofs.Emitted.{node-not_leaf}
use Rattle.tce_walk.specs.Machine.{IsNodeAt, IsJoined}
use Rattle.tce_walk.specs.declared.machine.Tail.{Tail}
use Rattle.tce_tree.specs.WellFormed.{among}
use Rattle.tce_tree.proofs.Assignments.{all_positive}
use Rattle.tce_exec.specs.Turns.{IsTurn, turns_of}
use Rattle.tce_exec.specs.declared.window.Window.{Window}
use Rattle.tce_exec.proofs.LoopLeaving.{parts_are_within, parts_are_apart}
use Rattle.tce_exec.specs.WindowLaws.{StandApart}
use Rattle.tce_exec.specs.OperandWindows.{IsSlotWindow}
use Rattle.tce_layout.specs.Layout.{slot_at}
use Rattle.tce_exec.specs.Slots.{IsSlotAt}
use Rattle.tce_exec.specs.Workspace.{Workspace, setting_in}
use Rattle.tce_exec.specs.Operands.{IsPlaceOf}
use Rattle.tce_exec.proofs.Operating.{own_place}
use Rattle.tce_exec.specs.Blocks.{loops_of, AreOutside, IsWithin, HaveNone}
use Rattle.tce_exec.specs.Windows.{IsOperandWindow, IsPlaceWindow}
use Rattle.tce_exec.proofs.Operands.{left_place, right_place, sum_place}
use Rattle.tce_exec.specs.TailBlocks.{IsAtBlock}
use Rattle.tce_exec.proofs.Turning.{Reads, loop_edge, block_turns, block_loops, node_at_turn, operand_within}
use Rattle.tce_exec.proofs.Placing.{Puts, place_within, place_apart}
use Rattle.tce_exec.proofs.Leaving.{turns_at, joined_product}
use Rattle.tce_exec.proofs.Edges.{same_lengths}

-- ---- the first numbers of a block

pub as_many : (extent edge : ℕ → ℕ) (order fs ls : List ℕ) → AreParts (map extent order) (map edge order) fs ls → length fs ≡ length order
as_many extent edge [] [] [] h = refl
as_many extent edge [] [] (l ∷ ls) h = absurd h
as_many extent edge [] (f ∷ fs) ls h = absurd h
as_many extent edge (x ∷ xs) [] ls h = absurd h
as_many extent edge (x ∷ xs) (f ∷ fs) [] h = absurd h
as_many extent edge (x ∷ xs) (f ∷ fs) (l ∷ ls) h = omega (arith, as_many extent edge xs fs ls h.3)

pub block_begins : (y : Workspace) (tail : Tail) (a : Assignment) (part : Part) → IsAtBlock y tail a part → length part.from ≡ length (loops_of tail)
block_begins y tail a part h =
    as_many (extent_at y.places.space) (edge_at y.places.space) (loops_of tail) part.from part.len
    (fit_the_box (map (extent_at y.places.space) (loops_of tail)) (map (edge_at y.places.space) (loops_of tail)) (record {
      same_rank = same_lengths (edge_at y.places.space) (extent_at y.places.space) (loops_of tail);
      positive = all_positive (edge_at y.places.space) (loops_of tail) (loop_edge y tail a part h);
    }) h.block.0 part h.block.1)

-- the numbers at the first turn, where all other indexes have those of the loops round the tail
pub begun_first : (loops : List ℕ) (a first : Assignment) (part : Part) → AreOutside loops a first → (turns_of loops first part).first ≡ (turns_of loops a part).first
begun_first loops a first part h = fun_ext (λ i.
    elim (cases_Bool (among loops i)) [
      | inl e ↦ ap (λ b. if b then assignment loops part.from i else first i) e ∙ sym (ap (λ b. if b then assignment loops part.from i else a i) e)
      | inr e ↦ ap (λ b. if b then assignment loops part.from i else first i) e ∙ h i e ∙ sym (ap (λ b. if b then assignment loops part.from i else a i) e)
    ])

pub outside_still : (loops : List ℕ) (a first : Assignment) (part : Part) → first ≡ (turns_of loops a part).first → AreOutside loops a first
outside_still loops a first part e = λ i m. ap (λ f. f i) e ∙ ap (λ b. if b then assignment loops part.from i else a i) m

-- ---- the node's places and operands at the turns

pub first_is_turn : (y : Workspace) (tail : Tail) (a : Assignment) (part : Part) → IsAtBlock y tail a part → IsTurn (turns_at tail a part) (turns_at tail a part).first
first_is_turn y tail a part h = (block_turns y tail a part h).first

pub node_at_first : (y : Workspace) (tail : Tail) (a : Assignment) (part : Part) (first : Assignment) → IsAtBlock y tail a part → first ≡ (turns_at tail a part).first → IsNodeAt (setting_in y) tail.node first
node_at_first y tail a part first h same =
    subst (IsNodeAt (setting_in y) tail.node) (sym same) (node_at_turn y tail a part h (turns_at tail a part).first (first_is_turn y tail a part h))

pub reads_left : (y : Workspace) (tail : Tail) (a : Assignment) (part : Part) (n : ℕ) (first : Assignment) (w : Window) → IsAtBlock y tail a part → first ≡ (turns_at tail a part).first
    → IsOperandWindow n y (left_of y.places.tree tail.node) first w → Reads y (turns_at tail a part) n (left_of y.places.tree tail.node) w
reads_left y tail a part n first w h same window = record {
  window = subst (λ f. IsOperandWindow n y (left_of y.places.tree tail.node) f w) same window;
  first = first_is_turn y tail a part h;
  between = (block_turns y tail a part h).between;
  at = λ b turn. left_place y tail.node b h.tree h.prepared (node_at_turn y tail a part h b turn) h.tail_is.free;
}

pub reads_right : (y : Workspace) (tail : Tail) (a : Assignment) (part : Part) (n : ℕ) (o : Operand) (first : Assignment) (w : Window) → IsAtBlock y tail a part → first ≡ (turns_at tail a part).first
    → right_of y.places.tree tail.node ≡ Some o → IsOperandWindow n y o first w → Reads y (turns_at tail a part) n o w
reads_right y tail a part n o first w h same right window = record {
  window = subst (λ f. IsOperandWindow n y o f w) same window;
  first = first_is_turn y tail a part h;
  between = (block_turns y tail a part h).between;
  at = λ b turn. right_place y tail.node b o h.tree h.prepared (node_at_turn y tail a part h b turn) h.tail_is.free right;
}

pub puts_own : (y : Workspace) (tail : Tail) (a : Assignment) (part : Part) (n : ℕ) (first : Assignment) (w : Window) → IsAtBlock y tail a part → first ≡ (turns_at tail a part).first
    → IsPlaceWindow n y tail.node first w → Puts y (turns_at tail a part) n tail.node w
puts_own y tail a part n first w h same window = record {
  window = subst (λ f. IsPlaceWindow n y tail.node f w) same window;
  first = first_is_turn y tail a part h;
  between = (block_turns y tail a part h).between;
  at = λ b turn. own_place y tail.node b (node_at_turn y tail a part h b turn);
}

-- ---- joined nodes

pub record IsJoinedAt (tree : ContractionTree) (u w : ℕ) : Type 0 where
  pub joined : IsJoined tree u w
  pub known : w < operations tree
  pub after : u < w

pub joined_at : (y : Workspace) (tail : Tail) (a : Assignment) (part : Part) (w : ℕ) → IsAtBlock y tail a part → tail.sum ≡ Some w → IsJoinedAt y.places.tree tail.node w
joined_at y tail a part w h sum_is =
    let joined = joined_product y.places.tree tail.node tail.sum h.tail_is.joined w sum_is in
    let above : IsParent y.places.tree tail.node w = parent_is y.places.tree tail.node w joined.above in
    record { joined = joined; known = above.inside; after = above.above }

pub sum_at_turn : (y : Workspace) (tail : Tail) (a : Assignment) (part : Part) (w : ℕ) → IsAtBlock y tail a part → tail.sum ≡ Some w → (b : Assignment) → IsTurn (turns_at tail a part) b → IsPlaceOf y w b
sum_at_turn y tail a part w h sum_is b turn =
    let j = joined_at y tail a part w h sum_is in
    sum_place y tail.node w b (node_at_turn y tail a part h b turn) j.known j.joined.above j.joined.sum

pub sum_at_first : (y : Workspace) (tail : Tail) (a : Assignment) (part : Part) (w : ℕ) (first : Assignment) → IsAtBlock y tail a part → tail.sum ≡ Some w → first ≡ (turns_at tail a part).first → IsPlaceOf y w first
sum_at_first y tail a part w first h sum_is same =
    subst (IsPlaceOf y w) (sym same) (sum_at_turn y tail a part w h sum_is (turns_at tail a part).first (first_is_turn y tail a part h))

pub puts_sum : (y : Workspace) (tail : Tail) (a : Assignment) (part : Part) (n w : ℕ) (first : Assignment) (out : Window) → IsAtBlock y tail a part → first ≡ (turns_at tail a part).first
    → tail.sum ≡ Some w → IsPlaceWindow n y w first out → Puts y (turns_at tail a part) n w out
puts_sum y tail a part n w first out h same sum_is window = record {
  window = subst (λ f. IsPlaceWindow n y w f out) same window;
  first = first_is_turn y tail a part h;
  between = (block_turns y tail a part h).between;
  at = sum_at_turn y tail a part w h sum_is;
}

-- the slot of a product that is joined to its sum
pub own_window : (y : Workspace) (tail : Tail) (a : Assignment) (part : Part) (w : ℕ) (first : Assignment) (own : Window) → IsAtBlock y tail a part → tail.sum ≡ Some w
    → IsSlotWindow (slot_at y.places.slots tail.node) first own → IsPlaceWindow 1 y tail.node first own
own_window y tail a part w first own h sum_is window =
    let j = joined_at y tail a part w h sum_is in
    record { inner = λ lt. window; root = λ last. absurd (omega (arith, last, j.known, j.after)) }

pub own_slot : (y : Workspace) (tail : Tail) (a : Assignment) (part : Part) (w : ℕ) (first : Assignment) → IsAtBlock y tail a part → tail.sum ≡ Some w → first ≡ (turns_at tail a part).first
    → IsSlotAt y.places.space y.places.tree y.places.fusion tail.node first
own_slot y tail a part w first h sum_is same =
    let j = joined_at y tail a part w h sum_is in
    record { inner = omega (arith, j.known, j.after); inside = (own_place y tail.node first (node_at_first y tail a part first h same)).inside }

-- ---- windows apart

pub left_apart : (y : Workspace) (tail : Tail) (a : Assignment) (part : Part) (n m v : ℕ) (out w : Window) → IsAtBlock y tail a part → tail.node ≤ v → Puts y (turns_at tail a part) n v out
    → Reads y (turns_at tail a part) m (left_of y.places.tree tail.node) w → StandApart (turns_at tail a part) out w
left_apart y tail a part n m v out w h le puts reads =
    place_apart y (turns_at tail a part) n m v (left_of y.places.tree tail.node) out w h.prepared puts reads
    (λ u e same. let low : u < tail.node = left_is_before y.places.tree tail.node (Node u) h.tail_is.known (sym e) in omega (arith, low, le, same))

pub right_apart : (y : Workspace) (tail : Tail) (a : Assignment) (part : Part) (n m v : ℕ) (o : Operand) (out w : Window) → IsAtBlock y tail a part → tail.node ≤ v → Puts y (turns_at tail a part) n v out
    → right_of y.places.tree tail.node ≡ Some o → Reads y (turns_at tail a part) m o w → StandApart (turns_at tail a part) out w
right_apart y tail a part n m v o out w h le puts right reads =
    place_apart y (turns_at tail a part) n m v o out w h.prepared puts reads
    (λ u e same.
    let low : u < tail.node = right_is_before y.places.tree tail.node (Node u) h.tail_is.known (sym (right ∙ ap (λ p. Some p) e)) in omega (arith, low, le, same))

pub place_in_words : (y : Workspace) (tail : Tail) (a : Assignment) (part : Part) (n v : ℕ) (out : Window) → IsAtBlock y tail a part → Puts y (turns_at tail a part) n v out → IsWithin (length y.words) tail part out
place_in_words y tail a part n v out h puts =
    parts_are_within (loops_of tail) a part out (length y.words) (block_loops y tail a part h) (place_within y (turns_at tail a part) n v out h.prepared puts)

pub operand_in_words : (y : Workspace) (tail : Tail) (a : Assignment) (part : Part) (n : ℕ) (o : Operand) (w : Window) → IsAtBlock y tail a part → Reads y (turns_at tail a part) n o w
    → IsWithin (length y.words) tail part w
operand_in_words y tail a part n o w h reads =
    parts_are_within (loops_of tail) a part w (length y.words) (block_loops y tail a part h) (operand_within y (turns_at tail a part) n o w h.prepared reads)

pub none_common : (y : Workspace) (tail : Tail) (a : Assignment) (part : Part) (out w : Window) → IsAtBlock y tail a part → StandApart (turns_at tail a part) out w → HaveNone tail part out w
none_common y tail a part out w h apart = parts_are_apart (loops_of tail) a part out w (block_loops y tail a part h) apart

-- ---- kinds of nodes

sum_alone : (n : ContractionTree) (first : ℕ) → is_leaf n ≡ false → right_operand first n ≡ None → IsSum n
sum_alone (leaf t is) first inner none = absurd (true≢false inner)
sum_alone (constant k) first inner none = absurd (true≢false inner)
sum_alone (binary op l r) first inner none = absurd (cc)
sum_alone (sum is e) first inner none = tt

pub is_sum : (tree : ContractionTree) (v : ℕ) → v < operations tree → right_of tree v ≡ None → IsSum (node tree v)
unfolding right_of
is_sum tree v known none = sum_alone (node tree v) (first_number_of tree v) (node-not_leaf tree v known) none

both : (n : ContractionTree) (first : ℕ) (o : Operand) → right_operand first n ≡ Some o → (op : Arithmetic) × (l : ContractionTree) × (r : ContractionTree) × (n ≡ binary op l r)
both (leaf t is) first o e = absurd (cc)
both (constant k) first o e = absurd (cc)
both (binary op l r) first o e = (op, l, r, refl)
both (sum is c) first o e = absurd (cc)

pub is_binary : (tree : ContractionTree) (v : ℕ) (o : Operand) → right_of tree v ≡ Some o → (op : Arithmetic) × (l : ContractionTree) × (r : ContractionTree) × (node tree v ≡ binary op l r)
unfolding right_of
is_binary tree v o e = both (node tree v) (first_number_of tree v) o e

computes : (op : Arithmetic) → arithmetic_kind op ≡ Sum → ⊥
computes multiply e = cc
computes add e = cc
computes subtract e = cc

pub not_sum : (tree : ContractionTree) (v : ℕ) (o : Operand) (k : Kind) → k ≡ kind_of (node tree v) → right_of tree v ≡ Some o → k ≢ Sum
not_sum tree v o k kind right same =
    let n = is_binary tree v o right in
    computes n.0 (sym (ap kind_of n.3) ∙ sym kind ∙ same)
