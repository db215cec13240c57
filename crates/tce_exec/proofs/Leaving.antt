-- What the loops of a block leave, once their windows are there.
use Rattle.std.proofs.Common.{◌≡◌, ℕ, ◌<◌, ◌≤◌, ◌^◌, List, length, slice_index, Option, Some, None, refl, sym, ap, ap₂, ◌∙◌, subst, arith}
use mathlib.Core.Path.{fun_ext}
use Rattle.std.specs.Option.{option_map}
use Rattle.tce_base.specs.Word.{wrapping_mul}
use Rattle.tce_outside.specs.Files.{Files}
use Rattle.tce_tree.specs.ContractionTree.{ContractionTree, Arithmetic, multiply, leaf, constant, binary, sum, operations, node}
use Rattle.tce_tree.specs.FlatTree.{left_of, right_of}
use Rattle.tce_tree.specs.Value.{Assignment, arithmetic}
use Rattle.tce_tree.specs.declared.node.Operand.{Operand}
use Rattle.tce_block.specs.Parts.{Part}
use Rattle.tce_walk.specs.Parts.{grown_by_part, set_by_part, node_after_part, after_part}
use Rattle.tce_code.specs.Execution.{Setting, State, left_word, right_word}
use Rattle.tce_code.specs.Shape.{IsBinary, IsSum}
use Rattle.tce_block.specs.Turns.{grown, grown_by_products, computed, operate}
use Rattle.tce_walk.specs.TailLaws.{computed_word}
use Rattle.tce_walk.specs.Laws.{HoldsWords}
use Rattle.tce_walk.specs.Machine.{IsJoinedTo, IsJoined}
use Rattle.tce_walk.specs.declared.machine.Tail.{Tail}
use Rattle.tce_exec.specs.Loops.{AreLoops, AreMade, place_along}
use Rattle.tce_exec.specs.Turns.{Turns, turns_of}
use Rattle.tce_exec.specs.LoopWindows.{stands_at, ShowsWords, DifferOnlyAt}
use Rattle.tce_exec.specs.declared.window.Window.{Window}
use Rattle.tce_exec.proofs.LoopLeaving.{grow_leaves, products_leave, compute_leaves}
use Rattle.tce_exec.proofs.Making.{sequence_of, others_stay}
use Rattle.tce_exec.specs.WindowLaws.{StandApart, view_of}
use Rattle.tce_exec.specs.Workspace.{Workspace, setting_in, result_shape}
use Rattle.tce_exec.specs.Prepared.{IsPrepared}
use Rattle.tce_exec.specs.Operands.{second_word}
use Rattle.tce_exec.specs.Steps.{IsKept, IsRead, IsChanged}
use Rattle.tce_exec.proofs.Following.{change_on}
use Rattle.tce_exec.specs.Following.{kept_on, continued_on}
use Rattle.tce_exec.proofs.Holding.{places_hold_words}
use Rattle.tce_exec.proofs.Operating.{left_word_is, right_word_is}
use Rattle.tce_exec.proofs.Putting.{with_words}
use Rattle.tce_exec.proofs.Workspaces.{kept_setting}
use Rattle.tce_exec.specs.Blocks.{loops_of}
use Rattle.tce_exec.specs.TailBlocks.{IsAtBlock}
use Rattle.tce_exec.proofs.Turning.{Reads, block_loops, view, operand_within, operand_words}
use Rattle.tce_exec.proofs.Placing.{Puts, ChangesWords, place_shows, place_changes}

abbrev pub turns_at : Tail → Assignment → Part → Turns
turns_at tail a part = turns_of (loops_of tail) a part

-- the words differ at the places of the turns alone
pub record DiffersAt (t : Turns) (out : Window) (old new : List ℕ) : Type 0 where
  pub long : length new ≡ length old
  pub differ : DifferOnlyAt t out old new

pub made_differs : (order : List ℕ) (a : Assignment) (part : Part) (word : List ℕ → ℕ → List ℕ → ℕ) (out : Window) (old new : List ℕ) → AreLoops order part.len
    → AreMade order part.len word out old new → DiffersAt (turns_of order a part) out old new
made_differs order a part word out old new loops are = record {
  long = are.made.same_length;
  differ = others_stay (turns_of order a part) out are.inner (word are.inner) old new (sequence_of order a part are.inner loops are.same) are.made;
}

-- ---- the state

abbrev pub view_with : Workspace → List ℕ → Files → State
view_with y new fs = view_of y.places y.cache fs y.tensor (result_shape y) new

pub changed_by : (y : Workspace) (new : List ℕ) (f : State → State) → ChangesWords y new → ((fs : Files) → y.files ≡ Some fs → view_with y new fs ≡ f (view y fs)) → IsChanged f 0 y (with_words y new)
changed_by y new f h same = record {
  prepared = h.prepared;
  state = by_files y.files same;
  few = omega arith;
  continued = h.continued;
}
  where
    by_files : (o : Option Files) → ((fs : Files) → o ≡ Some fs → view_with y new fs ≡ f (view y fs))
        → option_map (λ fs. view_with y new fs) o ≡ option_map f (option_map (λ fs. view y fs) o)
    by_files None k = refl
    by_files (Some fs) k = ap (λ s. Some s) (k fs refl)

-- the workspace of a success
pub record IsLeft (y : Workspace) (new : List ℕ) (f : State → State) : Type 0 where
  pub kept : IsKept y (with_words y new)
  pub changed : IsChanged f 0 y (with_words y new)

pub holds : (y : Workspace) (fs : Files) (v : ℕ) → IsPrepared y → ((k : ℕ) → slice_index y.words k < 2 ^ 64) → y.files ≡ Some fs → HoldsWords v (view y fs)
holds y fs v is low told = places_hold_words y is low (view y fs) (ap (option_map (λ gs. view y gs)) told) v

left_shows : (y : Workspace) (t : Turns) (n v : ℕ) (w : Window) (fs : Files) → v < operations y.places.tree → IsPrepared y → ((k : ℕ) → slice_index y.words k < 2 ^ 64) → y.files ≡ Some fs
    → Reads y t n (left_of y.places.tree v) w → ShowsWords t w y.words (left_word (setting_in y) v (view y fs))
left_shows y t n v w fs known is low told h = record {
  within = operand_within y t n (left_of y.places.tree v) w is h;
  word = λ b turn. operand_words y t n (left_of y.places.tree v) w fs is low told h b turn ∙ sym (left_word_is (setting_in y) v (view y fs) b known);
}

-- ---- sums

after_sum : (s : Setting) (order : List ℕ) (a : Assignment) (part : Part) (v : ℕ) (o : Option ℕ) (n : ContractionTree) (state : State) → IsSum n → ((w : ℕ) → o ≡ Some w → IsBinary multiply n)
    → node_after_part s order a part v o n state ≡ grown_by_part s v order (left_word s v state) a part state
after_sum s order a part v o (leaf t is) state sums joined = absurd sums
after_sum s order a part v o (constant k) state sums joined = absurd sums
after_sum s order a part v o (binary op l r) state sums joined = absurd sums
after_sum s order a part v None (sum is e) state sums joined = refl
after_sum s order a part v (Some w) (sum is e) state sums joined = absurd (joined w refl)

pub joined_product : (tree : ContractionTree) (u : ℕ) (o : Option ℕ) → IsJoinedTo tree u o → (w : ℕ) → o ≡ Some w → IsJoined tree u w
joined_product tree u None h w e = absurd (cc)
joined_product tree u (Some v) h w e = let same : v ≡ w = cc in subst (IsJoined tree u) same h

pub sum_leaves : (y : Workspace) (tail : Tail) (a : Assignment) (part : Part) (n m : ℕ) (operand out : Window) (new : List ℕ) → IsAtBlock y tail a part
    → ((k : ℕ) → slice_index y.words k < 2 ^ 64) → IsSum (node y.places.tree tail.node) → Reads y (turns_at tail a part) n (left_of y.places.tree tail.node) operand
    → Puts y (turns_at tail a part) m tail.node out → AreMade (loops_of tail) part.len (λ inner. grown y.words (place_along operand inner)) out y.words new
    → IsLeft y new (after_part (setting_in y) tail a part)
sum_leaves y tail a part n m operand out new h low sums reads puts made =
    let loops = block_loops y tail a part h in
    let differs = made_differs (loops_of tail) a part _ out y.words new loops made in
    let words = place_changes y (turns_at tail a part) m tail.node out new h.prepared puts differs.long differs.differ in
    record {
      kept = words.kept;
      changed = changed_by y new (after_part (setting_in y) tail a part) words (λ fs told.
          (grow_leaves (setting_in y) tail.node (loops_of tail) a part out operand (λ ws. view_with y ws fs) (left_word (setting_in y) tail.node (view y fs)) y.words new
          (record { loops = loops; shows = place_shows y (turns_at tail a part) m tail.node out fs h.prepared puts }) (holds y fs tail.node h.prepared low told)
          (left_shows y (turns_at tail a part) n tail.node operand fs h.tail_is.known h.prepared low told reads) made).state_is
          ∙ sym (after_sum (setting_in y) (loops_of tail) a part tail.node tail.sum (node y.places.tree tail.node) (view y fs) sums
          (λ w e. (joined_product y.places.tree tail.node tail.sum h.tail_is.joined w e).product)));
    }

-- ---- two operands

right_shows : (y : Workspace) (t : Turns) (n v : ℕ) (o : Operand) (op : Arithmetic) (l r : ContractionTree) (w : Window) (fs : Files) → v < operations y.places.tree → node y.places.tree v ≡ binary op l r
    → right_of y.places.tree v ≡ Some o → IsPrepared y → ((k : ℕ) → slice_index y.words k < 2 ^ 64) → y.files ≡ Some fs
    → Reads y t n o w → ShowsWords t w y.words (right_word (setting_in y) v (view y fs))
right_shows y t n v o op l r w fs known at right is low told h = record {
  within = operand_within y t n o w is h;
  word = λ b turn. operand_words y t n o w fs is low told h b turn
      ∙ sym (right_word_is (setting_in y) v op l r (view y fs) b known at ∙ ap (λ q. second_word (setting_in y) v q (view y fs) b) right);
}

after_single : (s : Setting) (order : List ℕ) (a : Assignment) (part : Part) (v : ℕ) (o : Option ℕ) (n : ContractionTree) (op : Arithmetic) (l r : ContractionTree) (state : State) → o ≡ None → n ≡ binary op l r
    → node_after_part s order a part v o n state ≡ set_by_part s v order (computed_word s op v state) a part state
after_single s order a part v o n op l r state alone at = ap₂ (λ p m. node_after_part s order a part v p m state) alone at

after_both : (s : Setting) (order : List ℕ) (a : Assignment) (part : Part) (v w : ℕ) (o : Option ℕ) (n : ContractionTree) (op : Arithmetic) (l r : ContractionTree) (state : State) → o ≡ Some w → n ≡ binary op l r
    → node_after_part s order a part v o n state ≡ grown_by_part s w order (computed_word s op v state) a part (set_by_part s v order (computed_word s op v state) a part state)
after_both s order a part v w o n op l r state joined at = ap₂ (λ p m. node_after_part s order a part v p m state) joined at

-- the windows of both operands
pub record ReadsBoth (y : Workspace) (t : Turns) (n m v : ℕ) (o : Operand) (left right : Window) : Type 0 where
  pub left_is : Reads y t n (left_of y.places.tree v) left
  pub right_of_is : right_of y.places.tree v ≡ Some o
  pub right_is : Reads y t m o right

pub pair_leaves : (y : Workspace) (tail : Tail) (a : Assignment) (part : Part) (n m k : ℕ) (o : Operand) (op : Arithmetic) (l r : ContractionTree) (operation : Arithmetic) (left right out : Window) (new : List ℕ)
    → IsAtBlock y tail a part → ((p : ℕ) → slice_index y.words p < 2 ^ 64) → node y.places.tree tail.node ≡ binary op l r → tail.sum ≡ None
    → ((p q : ℕ) → operate operation p q ≡ arithmetic op p q) → ReadsBoth y (turns_at tail a part) n m tail.node o left right → Puts y (turns_at tail a part) k tail.node out
    → AreMade (loops_of tail) part.len (λ inner. computed operation y.words (place_along left inner) (place_along right inner)) out y.words new
    → IsLeft y new (after_part (setting_in y) tail a part)
pair_leaves y tail a part n m k o op l r operation left right out new h low at alone same reads puts made =
    let loops = block_loops y tail a part h in
    let differs = made_differs (loops_of tail) a part _ out y.words new loops made in
    let words = place_changes y (turns_at tail a part) k tail.node out new h.prepared puts differs.long differs.differ in
    record {
      kept = words.kept;
      changed = changed_by y new (after_part (setting_in y) tail a part) words (λ fs told.
          let f = left_word (setting_in y) tail.node (view y fs) in
          let g = right_word (setting_in y) tail.node (view y fs) in
          (compute_leaves (setting_in y) tail.node (loops_of tail) a part operation out left right (λ ws. view_with y ws fs) f g y.words new
          (record { loops = loops; shows = place_shows y (turns_at tail a part) k tail.node out fs h.prepared puts })
          (left_shows y (turns_at tail a part) n tail.node left fs h.tail_is.known h.prepared low told reads.left_is)
          (right_shows y (turns_at tail a part) m tail.node o op l r right fs h.tail_is.known at reads.right_of_is h.prepared low told reads.right_is) made).state_is
          ∙ ap (λ z. set_by_part (setting_in y) tail.node (loops_of tail) z a part (view y fs)) (fun_ext (λ b. same (f b) (g b)))
          ∙ sym (after_single (setting_in y) (loops_of tail) a part tail.node tail.sum (node y.places.tree tail.node) op l r (view y fs) alone at));
    }

-- ---- a product and the sum that takes it

still_shows : (t : Turns) (out w : Window) (old new : List ℕ) (f : Assignment → ℕ) → DiffersAt t out old new → StandApart t out w → ShowsWords t w old f → ShowsWords t w new f
still_shows t out w old new f differs apart shows = record {
  within = λ b turn. omega (arith, shows.within b turn, differs.long);
  word = λ b turn. differs.differ (stands_at w t.first b) (λ c at e. apart c b at turn e) ∙ shows.word b turn;
}

puts_with : (y : Workspace) (words : List ℕ) (t : Turns) (n v : ℕ) (w : Window) → Puts y t n v w → Puts (with_words y words) t n v w
puts_with y words t n v w h = record {
  window = record { inner = h.window.inner; root = h.window.root };
  first = h.first;
  between = h.between;
  at = λ b turn. let here = h.at b turn in record { known = here.known; inside = here.inside };
}

product_is : (n : ContractionTree) → IsBinary multiply n → (l : ContractionTree) × (r : ContractionTree) × (n ≡ binary multiply l r)
product_is (leaf t is) h = absurd h
product_is (constant k) h = absurd h
product_is (binary op l r) h = (l, r, ap (λ p. binary p l r) (sym h))
product_is (sum is e) h = absurd h

-- the windows of both places, which are apart from those of the operands
pub record PutsBoth (y : Workspace) (t : Turns) (n m u w : ℕ) (left right own out : Window) : Type 0 where
  pub own_is : Puts y t n u own
  pub out_is : Puts y t m w out
  pub left_apart : StandApart t own left
  pub right_apart : StandApart t own right

pub joined_leaves : (y : Workspace) (tail : Tail) (a : Assignment) (part : Part) (n m i j w : ℕ) (o : Operand) (left right own out : Window) (mid new : List ℕ)
    → IsAtBlock y tail a part → ((p : ℕ) → slice_index y.words p < 2 ^ 64) → ((p : ℕ) → slice_index mid p < 2 ^ 64) → tail.sum ≡ Some w
    → ReadsBoth y (turns_at tail a part) n m tail.node o left right → PutsBoth y (turns_at tail a part) i j tail.node w left right own out
    → AreMade (loops_of tail) part.len (λ inner. computed multiply y.words (place_along left inner) (place_along right inner)) own y.words mid
    → AreMade (loops_of tail) part.len (λ inner. grown_by_products mid (place_along left inner) (place_along right inner)) out mid new
    → IsLeft y new (after_part (setting_in y) tail a part)
joined_leaves y tail a part n m i j w o left right own out mid new h low low_mid joined reads puts made more =
    let t : Turns = turns_at tail a part in
    let z : Workspace = with_words y mid in
    let loops = block_loops y tail a part h in
    let first = made_differs (loops_of tail) a part _ own y.words mid loops made in
    let after = made_differs (loops_of tail) a part _ out mid new loops more in
    let words = place_changes y t i tail.node own mid h.prepared puts.own_is first.long first.differ in
    let puts_then = puts_with y mid t j w out puts.out_is in
    let words_then = place_changes z t j w out new words.prepared puts_then after.long after.differ in
    let product = product_is (node y.places.tree tail.node) (joined_product y.places.tree tail.node tail.sum h.tail_is.joined w joined).product in
    record {
      kept = kept_on y z (with_words z new) words.kept words_then.kept;
      changed = changed_by y new (after_part (setting_in y) tail a part) (record {
        kept = kept_on y z (with_words z new) words.kept words_then.kept;
        prepared = words_then.prepared;
        continued = continued_on y z (with_words z new) words.kept words.continued words_then.continued;
      }) (λ fs told.
          let lefts = left_shows y t n tail.node left fs h.tail_is.known h.prepared low told reads.left_is in
          let rights = right_shows y t m tail.node o multiply product.0 product.1 right fs h.tail_is.known product.2 reads.right_of_is h.prepared low told reads.right_is in
          let f = left_word (setting_in y) tail.node (view y fs) in
          let g = right_word (setting_in y) tail.node (view y fs) in
          (products_leave (setting_in y) w (loops_of tail) a part out left right (λ ws. view_with y ws fs) f g mid new
          (record { loops = loops; shows = place_shows z t j w out fs words.prepared puts_then }) (holds z fs w words.prepared low_mid told)
          (still_shows t own left y.words mid f first puts.left_apart lefts) (still_shows t own right y.words mid g first puts.right_apart rights) more).state_is
          ∙ ap (grown_by_part (setting_in y) w (loops_of tail) (λ b. wrapping_mul (f b) (g b)) a part)
          (compute_leaves (setting_in y) tail.node (loops_of tail) a part multiply own left right (λ ws. view_with y ws fs) f g y.words mid
          (record { loops = loops; shows = place_shows y t i tail.node own fs h.prepared puts.own_is }) lefts rights made).state_is
          ∙ sym (after_both (setting_in y) (loops_of tail) a part tail.node w tail.sum (node y.places.tree tail.node) multiply product.0 product.1 (view y fs) joined product.2));
    }

-- ---- from before the touches on

pub record IsRun (x z : Workspace) (f : State → State) : Type 0 where
  pub kept : IsKept x z
  pub changed : IsChanged f 3 x z

pub run_from : (n : ℕ) (x y : Workspace) (new : List ℕ) (tail : Tail) (a : Assignment) (part : Part) → n ≤ 3 → IsPrepared x → IsKept x y → IsRead n x y
    → IsLeft y new (after_part (setting_in y) tail a part) → IsRun x (with_words y new) (after_part (setting_in x) tail a part)
run_from n x y new tail a part few is kept read h = record {
  kept = kept_on x y (with_words y new) kept h.kept;
  changed = change_on n 0 3 (after_part (setting_in x) tail a part) x y (with_words y new) (omega (arith, few)) kept read
      (subst (λ s. IsChanged (after_part s tail a part) 0 y (with_words y new)) (kept_setting x y is.cache kept) h.changed);
}
