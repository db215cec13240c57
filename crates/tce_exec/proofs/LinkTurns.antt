-- What the links of a body make of words at one turn.
use Rattle.std.proofs.Common.{◌≡◌, ℕ, zero, suc, eqb, add-one, ◌%◌, ◌+◌, ◌-◌, ◌*◌, ◌^◌, ◌<◌, ◌≤◌, Bool, true, false, IsTrue, List, [], ◌∷◌, map, length, set, get_or, slice_index, slice_set, length-set, Option, Some, None, take, refl, sym, ap, ap₂, ◌∙◌, subst, inl, inr, arith, sum_by, get_or-set_same, get_or-set_other}
use mathlib.Core.Path.{fun_ext}
use Rattle.std.specs.List.{All, range_with_len}
use Rattle.std.proofs.lemmas.Bool.{false≢true, cases_eq, eq-eqb, ne_eqb, or_left}
use Rattle.tce_outside.specs.Files.{Files}
use Rattle.tce_space.specs.Space.{IndexSpace, edge_at}
use Rattle.tce_space.proofs.Ranges.{sum_next}
use Rattle.tce_cache.specs.Cache.{State as CacheState}
use Rattle.tce_tree.specs.ContractionTree.{operations, node}
use Rattle.tce_tree.specs.FlatTree.{IsTree, left_of, right_of, kind_of}
use Rattle.tce_tree.specs.Fusion.{kept_dims}
use Rattle.tce_tree.specs.Value.{Assignment, assignment, with_number}
use Rattle.tce_tree.specs.WellFormed.{among}
use Rattle.tce_tree.specs.declared.node.Operand.{Operand}
use Rattle.tce_tree.specs.declared.node.Operand.TheVariants.{Leaf, Constant, Node}
use Rattle.tce_tree.specs.declared.node.Kind.{Kind}
use Rattle.tce_tree.proofs.Assignments.{with-same, with-other}
use Rattle.tce_tree.proofs.Operands.{left_is_before, right_is_before}
use Rattle.tce_code.specs.Execution.{Setting, State, exec, coordinates, with_word}
use Rattle.tce_layout.specs.Layout.{slot_at}
use Rattle.tce_layout.specs.Places.{steps_to}
use Rattle.tce_code.specs.declared.op.Op.{Op}
use Rattle.tce_code.specs.declared.op.Op.TheVariants.{Close}
use Rattle.tce_walk.specs.Machine.{operation_of_node, IsNodeAt}
use Rattle.tce_exec.specs.Bodies.{node_of_op, after_ops, IsOperationAt}
use Rattle.tce_exec.specs.Following.{kept_on}
use Rattle.tce_exec.specs.Links.{IsSource, IsTarget, IsLink, AreLinks, IsNear, IsInBlock, turns_in, source_word, link_word, word_along, window_at, source_at, link_at_turn, IsSourceWithin, IsLinkWithin, IsAlongWithin}
use Rattle.tce_exec.specs.LoopWindows.{stands_at, ShowsNode, DifferOnlyAt}
use Rattle.tce_exec.specs.NodeStates.{Places}
use Rattle.tce_exec.specs.OperandWindows.{IsSlotWindow, IsTileWindow}
use Rattle.tce_exec.specs.Operands.{combined, word_of_operand, second_word, word_of_operation, IsReadable, IsPlaceOf}
use Rattle.tce_exec.specs.Prepared.{IsPrepared}
use Rattle.tce_exec.specs.Steps.{IsKept, IsChanged}
use Rattle.tce_exec.specs.TilesOfBlocks.{StayBetweenEdges}
use Rattle.tce_exec.specs.Turns.{Turns, IsTurn}
use Rattle.tce_exec.specs.Windows.{HasPlace, IsTouchedTile, IsOperandWindow, IsPlaceWindow}
use Rattle.tce_exec.specs.WindowLaws.{view_of}
use Rattle.tce_exec.specs.Workspace.{Workspace, setting_in, shape_over, result_shape}
use Rattle.tce_exec.specs.declared.body.BodyBlock.{BodyBlock}
use Rattle.tce_exec.specs.declared.links.Source.{Source}
use Rattle.tce_exec.specs.declared.links.Source.TheVariants.{Number, Words}
use Rattle.tce_exec.specs.declared.links.Link.{Link}
use Rattle.tce_exec.specs.declared.window.Window.{Window}
use Rattle.tce_exec.proofs.Bodies.{node_at, node_here, op_done}
use Rattle.tce_exec.proofs.Leaving.{IsLeft, changed_by, view_with}
use Rattle.tce_exec.proofs.LinkLaws.{link_at, same_count}
use Rattle.tce_exec.proofs.Operating.{own_place, readable_left, readable_right, operation_puts}
use Rattle.tce_exec.proofs.Placing.{Puts, ChangesWords, place_shows, place_within, place_changes}
use Rattle.tce_exec.proofs.Slots.{range_sum_le}
use Rattle.tce_exec.proofs.States.{with_word-is}
use Rattle.tce_exec.proofs.TileTurns.{first_low, slot_stands, turns_stay_in_one_tile}
use Rattle.tce_exec.proofs.Turning.{Reads, view, operand_words, operand_within}
use Rattle.tce_exec.proofs.WindowSteps.{steps_further}
use Rattle.tce_exec.proofs.Workspaces.{kept_setting}
use Rattle.tce_exec.proofs.Putting.{with_words}

-- ---- windows that begin at a turn

abbrev pub moved : Window → Assignment → Assignment → Window
moved w first b = window_at first b w

-- the turns that are one alone
abbrev pub alone : Assignment → Turns
alone b = record { order = []; first = b; count = λ i. 0 }

own_turn : (b : Assignment) → IsTurn (alone b) b
own_turn b = record { loops = λ i m. absurd (false≢true m); others = λ i o. refl }

only_turn : (b c : Assignment) → IsTurn (alone b) c → c ≡ b
only_turn b c turn = fun_ext (λ i. turn.others i refl)

at_first : (w : Window) (b : Assignment) → stands_at w b b ≡ w.first
at_first w b =
    let none : steps_to w.steps b + steps_to w.steps (λ i. b i - b i) ≡ steps_to w.steps b = steps_further w.steps b b (λ i. omega arith) in
    omega (arith, none)

tile_moved : (n : ℕ) (space : IndexSpace) (c : CacheState) (array : ℕ) (indexes : List ℕ) (first b : Assignment) (marked : Bool) (w : Window) → IsNear (edge_at space) first b
    → IsTouchedTile n c array (shape_over space indexes) indexes first marked w → IsTouchedTile n c array (shape_over space indexes) indexes b marked (moved w first b)
tile_moved n space c array indexes first b marked w near h =
    let t : Turns = record { order = near.loops; first = first; count = near.count } in
    let stays = turns_stay_in_one_tile t (edge_at space) (shape_over space indexes) indexes h.at w
    (record { edges = refl; positive = h.tiling.positive; known = h.known }) near.between h.window_is b near.turn in
    record {
      tiling = h.tiling;
      known = h.known;
      at = h.at;
      among = record {
        at = h.among.at;
        low = h.among.low;
        held = h.among.held;
        stands = h.among.stands;
        array_is = h.among.array_is;
        tile_is = h.among.tile_is ∙ sym stays.tile;
        place_is = h.among.place_is;
        marked_is = h.among.marked_is;
      };
      window_is = record { first_is = stays.stands; steps_are = h.window_is.steps_are };
    }

slot_moved : (y : Workspace) (u : ℕ) (first b : Assignment) (w : Window) → IsNear (edge_at y.places.space) first b → IsSlotWindow (slot_at y.places.slots u) first w
    → IsSlotWindow (slot_at y.places.slots u) b (moved w first b)
slot_moved y u first b w near h = record {
  first_is = slot_stands (slot_at y.places.slots u) (record { order = near.loops; first = first; count = near.count }) w b h near.turn;
  steps_are = h.steps_are;
}

-- ---- what a source reads

source_reads : (n : ℕ) (y : Workspace) (o : Operand) (first b : Assignment) (w : Window) → IsNear (edge_at y.places.space) first b → IsSource n y.places y.cache first o (Words w) → IsReadable y o b
    → ((u : ℕ) → o ≡ Node u → u + 1 < operations y.places.tree) → Reads y (alone b) n o (moved w first b)
source_reads n y (Leaf l) first b w near s readable inner = record {
  window = tile_moved n y.places.space y.cache l.tensor l.indexes.items first b false w near s;
  first = own_turn b;
  between = λ i m. absurd (false≢true m);
  at = λ c turn. subst (HasPlace y (Leaf l)) (sym (only_turn b c turn)) readable;
}
source_reads n y (Constant k) first b w near s readable inner = absurd s
source_reads n y (Node u) first b w near s readable inner = record {
  window = slot_moved y u first b w near s;
  first = own_turn b;
  between = λ i m. absurd (false≢true m);
  at = λ c turn. subst (HasPlace y (Node u)) (sym (only_turn b c turn)) (record { inner = inner u refl; inside = readable.inside });
}

source_value : (n : ℕ) (y : Workspace) (fs : Files) (o : Operand) (first b : Assignment) (s : Source) → IsPrepared y → ((k : ℕ) → slice_index y.words k < 2 ^ 64) → y.files ≡ Some fs
    → IsNear (edge_at y.places.space) first b → IsSource n y.places y.cache first o s → IsReadable y o b → ((u : ℕ) → o ≡ Node u → u + 1 < operations y.places.tree)
    → source_word y.words first b s ≡ word_of_operand (setting_in y) o (view y fs) b
source_value n y fs (Leaf l) first b (Number k) is low told near s readable inner = absurd s
source_value n y fs (Leaf l) first b (Words w) is low told near s readable inner =
    ap (slice_index y.words) (sym (at_first (moved w first b) b))
    ∙ operand_words y (alone b) n (Leaf l) (moved w first b) fs is low told (source_reads n y (Leaf l) first b w near s readable inner) b (own_turn b)
source_value n y fs (Constant k) first b (Number m) is low told near s readable inner = s
source_value n y fs (Constant k) first b (Words w) is low told near s readable inner = absurd s
source_value n y fs (Node u) first b (Number k) is low told near s readable inner = absurd s
source_value n y fs (Node u) first b (Words w) is low told near s readable inner =
    ap (slice_index y.words) (sym (at_first (moved w first b) b))
    ∙ operand_words y (alone b) n (Node u) (moved w first b) fs is low told (source_reads n y (Node u) first b w near s readable inner) b (own_turn b)

source_within : (n : ℕ) (y : Workspace) (o : Operand) (first b : Assignment) (s : Source) → IsPrepared y → IsNear (edge_at y.places.space) first b → IsSource n y.places y.cache first o s
    → IsReadable y o b → ((u : ℕ) → o ≡ Node u → u + 1 < operations y.places.tree) → IsSourceWithin (length y.words) first b s
source_within n y o first b (Number k) is near s readable inner = tt
source_within n y o first b (Words w) is near s readable inner =
    let reads = operand_within y (alone b) n o (moved w first b) is (source_reads n y o first b w near s readable inner) b (own_turn b) in
    omega (arith, reads, at_first (moved w first b) b)

-- ---- what a link puts

target_puts : (n : ℕ) (y : Workspace) (v : ℕ) (first b : Assignment) (w : Window) → IsNear (edge_at y.places.space) first b → IsNodeAt (setting_in y) v b
    → IsTarget n y.places y.cache y.tensor first v w → Puts y (alone b) n v (moved w first b)
target_puts n y v first b w near at t = record {
  window = record {
    inner = λ lt. slot_moved y v first b w near (t.inner lt);
    root = λ last. tile_moved n y.places.space y.cache y.tensor y.places.result first b true w near (t.root last);
  };
  first = own_turn b;
  between = λ i m. absurd (false≢true m);
  at = λ c turn. subst (IsPlaceOf y v) (sym (only_turn b c turn)) (own_place y v b at);
}

-- the operands of a node at a turn
record HasOperandsAt (y : Workspace) (v : ℕ) (b : Assignment) : Type 0 where
  left : IsReadable y (left_of y.places.tree v) b
  left_inner : (u : ℕ) → left_of y.places.tree v ≡ Node u → u + 1 < operations y.places.tree
  right : (o : Operand) → right_of y.places.tree v ≡ Some o → IsReadable y o b
  right_inner : (o : Operand) → right_of y.places.tree v ≡ Some o → (u : ℕ) → o ≡ Node u → u + 1 < operations y.places.tree

operands_at : (y : Workspace) (v : ℕ) (b : Assignment) → IsTree y.places.tree → IsPrepared y → IsNodeAt (setting_in y) v b → HasOperandsAt y v b
operands_at y v b tree is at = record {
  left = readable_left y v b tree is at;
  left_inner = λ u e. let low : u < v = left_is_before y.places.tree v (Node u) at.known (sym e) in omega (arith, low, at.known);
  right = λ o e. readable_right y v b o tree is at e;
  right_inner = λ o e u q. let low : u < v = right_is_before y.places.tree v (Node u) at.known (sym (e ∙ ap (λ p. Some p) q)) in omega (arith, low, at.known);
}

pub link_within : (n : ℕ) (y : Workspace) (v : ℕ) (first b : Assignment) (l : Link) → IsTree y.places.tree → IsPrepared y → IsNodeAt (setting_in y) v b → IsNear (edge_at y.places.space) first b
    → IsLink n y.places y.cache y.tensor first v l → IsLinkWithin (length y.words) first b l
link_within n y v first b l tree is at near h = record {
  left = source_within n y (left_of y.places.tree v) first b l.left is near h.left_is ops.left ops.left_inner;
  right = by_right (right_of y.places.tree v) refl;
  out = out;
}
  where
    ops : HasOperandsAt y v b
    ops = operands_at y v b tree is at

    out : stands_at l.out first b < length y.words
    out = let puts = place_within y (alone b) n v (moved l.out first b) is (target_puts n y v first b l.out near at h.out_is) b (own_turn b) in omega (arith, puts, at_first (moved l.out first b) b)

    by_right : (o : Option Operand) → right_of y.places.tree v ≡ o → IsSourceWithin (length y.words) first b l.right
    by_right None e = subst (IsSourceWithin (length y.words) first b) (sym (h.own_is e)) out
    by_right (Some o) e = source_within n y o first b l.right is near (h.right_is o e) (ops.right o e) (ops.right_inner o e)

pub link_turn : (n : ℕ) (y : Workspace) (v : ℕ) (first b : Assignment) (l : Link) (new : List ℕ) → IsTree y.places.tree → IsPrepared y → ((k : ℕ) → slice_index y.words k < 2 ^ 64)
    → IsNodeAt (setting_in y) v b → IsNear (edge_at y.places.space) first b → IsLink n y.places y.cache y.tensor first v l
    → new ≡ slice_set y.words (stands_at l.out first b) (link_word y.words first b l) → IsLeft y new (λ state. exec (setting_in y) (operation_of_node y.places.tree v) state b)
link_turn n y v first b l new tree is low at near h e = record {
  kept = changes.kept;
  changed = changed_by y new (λ state. exec (setting_in y) (operation_of_node y.places.tree v) state b) changes (λ fs told.
      with_word-is (view y fs) (view_with y new fs) v (coordinates (kept_dims y.places.tree y.places.fusion v) b) word
      ((shows fs).word new long b (own_turn b) ∙ ap (slice_index new) (at_first out b) ∙ ap (λ ws. slice_index ws q) e ∙ get_or-set_same y.words q word 0 inside)
      (λ u p ne. (shows fs).others y.words new refl long differ u p (λ same c turn at_p. ne same (sym at_p ∙ ap (coordinates (kept_dims y.places.tree y.places.fusion v)) (only_turn b c turn))))
      ∙ operation_puts (setting_in y) v (view y fs) b word at.known (value fs told));
}
  where
    q : ℕ
    q = stands_at l.out first b

    word : ℕ
    word = link_word y.words first b l

    out : Window
    out = moved l.out first b

    puts : Puts y (alone b) n v out
    puts = target_puts n y v first b l.out near at h.out_is

    inside : q < length y.words
    inside = (link_within n y v first b l tree is at near h).out

    long : length new ≡ length y.words
    long = ap length e ∙ length-set y.words q word

    differ : DifferOnlyAt (alone b) out y.words new
    differ = λ k ne. ap (λ ws. slice_index ws k) e ∙ get_or-set_other y.words q k word 0 (λ k_is. ne b (own_turn b) (at_first out b ∙ sym k_is))

    changes : ChangesWords y new
    changes = place_changes y (alone b) n v out new is puts long differ

    shows : (fs : Files) → ShowsNode (setting_in y) (alone b) v out (length y.words) (view_of y.places y.cache fs y.tensor (result_shape y))
    shows fs = place_shows y (alone b) n v out fs is puts

    ops : HasOperandsAt y v b
    ops = operands_at y v b tree is at

    second : (fs : Files) → y.files ≡ Some fs → (o : Option Operand) → right_of y.places.tree v ≡ o → source_word y.words first b l.right ≡ second_word (setting_in y) v o (view y fs) b
    second fs told None none = ap (source_word y.words first b) (h.own_is none) ∙ ap (slice_index y.words) (sym (at_first out b)) ∙ sym ((shows fs).word y.words refl b (own_turn b))
    second fs told (Some o) some = source_value n y fs o first b l.right is low told near (h.right_is o some) (ops.right o some) (ops.right_inner o some)

    value : (fs : Files) → y.files ≡ Some fs → word ≡ word_of_operation (setting_in y) v (view y fs) b
    value fs told =
        ap (λ k. combined k (source_word y.words first b l.left) (source_word y.words first b l.right)) h.kind_is
        ∙ ap₂ (combined (kind_of (node y.places.tree v)))
        (source_value n y fs (left_of y.places.tree v) first b l.left is low told near h.left_is ops.left ops.left_inner)
        (second fs told (right_of y.places.tree v) refl)

-- ---- turns of a block

pub still_in : (space : IndexSpace) (b : BodyBlock) (first numbers now : List ℕ) (d x : ℕ) → d < length b.loops.now → x < slice_index b.len.now d
    → slice_index now ≡ with_number (slice_index numbers) (slice_index b.loops.now d) (slice_index b.from.now d + x) → IsInBlock space b first numbers → IsInBlock space b first now
still_in space b first numbers now d x low turn e h = record {
  turn = subst (IsTurn (turns_in b first)) (sym e) (record {
    loops = λ j m. elim (cases_eq j i) [
      | inl same ↦
          let is : with_number (slice_index numbers) i f j ≡ f = ap (with_number (slice_index numbers) i f) same ∙ with-same (slice_index numbers) i f in
          let from : slice_index first j ≡ slice_index b.from.now d = ap (slice_index first) same ∙ h.from_is d low in
          let len : assignment b.loops.now b.len.now j ≡ slice_index b.len.now d = ap (assignment b.loops.now b.len.now) same ∙ h.len_is d low in
          (omega (arith, is, from), omega (arith, is, from, len, turn))
      | inr ne ↦
          let is : with_number (slice_index numbers) i f j ≡ slice_index numbers j = with-other (slice_index numbers) i f j ne in
          let range = h.turn.loops j m in
          (omega (arith, is, range.0), omega (arith, is, range.1))
    ];
    others = λ j o. elim (cases_eq j i) [
      | inl same ↦ absurd (false≢true (sym o ∙ ap (among b.loops.now) same ∙ h.member d low))
      | inr ne ↦ with-other (slice_index numbers) i f j ne ∙ h.turn.others j o
    ];
  });
  between = h.between;
  distinct = h.distinct;
  member = h.member;
  from_is = h.from_is;
  len_is = h.len_is;
}
  where
    i : ℕ
    i = slice_index b.loops.now d

    f : ℕ
    f = slice_index b.from.now d + x

-- ---- one operation of a body more

weak : (f : State → State) (m : ℕ) (x y : Workspace) → IsChanged f 0 x y → IsChanged f m x y
weak f m x y h = record { prepared = h.prepared; state = h.state; few = omega (arith, h.few); continued = h.continued }

pub link_done : (x y : Workspace) (new : List ℕ) (ops : List Op) (links : List Link) (first b : Assignment) (k : ℕ) (d : Op) (e : Link) → IsPrepared x → IsTree y.places.tree
    → ((j : ℕ) → slice_index y.words j < 2 ^ 64) → All (IsOperationAt (setting_in x) b) ops → k < length ops → IsKept x y → IsNear (edge_at y.places.space) first b
    → IsChanged (after_ops (setting_in x) b (take k ops)) (3 * k) x y → AreLinks (3 * length ops) y.places y.cache y.tensor first ops links
    → new ≡ slice_set y.words (stands_at (get_or links k e).out first b) (link_word y.words first b (get_or links k e))
    → IsKept x (with_words y new) × IsChanged (after_ops (setting_in x) b (take (k + 1) ops)) (3 * (k + 1)) x (with_words y new)
link_done x y new ops links first b k d e is tree low all inside kept near before has put =
    let op : Op = get_or ops k d in
    let v : ℕ = node_of_op op in
    let left = link_turn (3 * length ops) y v first b (get_or links k e) new tree before.prepared low (node_here x y ops b k op d is all inside refl kept) near
    (link_at (3 * length ops) y.places y.cache y.tensor first ops links k d e has inside) put in (
      kept_on x y (with_words y new) kept left.kept,
      op_done x y (with_words y new) ops b k op d is all inside refl kept before
          (weak (λ state. exec (setting_in y) (operation_of_node y.places.tree v) state b) 3 y (with_words y new) left.changed),
    )

pub here_within : (x y : Workspace) (ops : List Op) (links : List Link) (first b : Assignment) (k : ℕ) (d : Op) (e : Link) → IsPrepared x → IsPrepared y → IsTree y.places.tree
    → All (IsOperationAt (setting_in x) b) ops → k < length ops → IsKept x y → IsNear (edge_at y.places.space) first b → AreLinks (3 * length ops) y.places y.cache y.tensor first ops links
    → IsLinkWithin (length y.words) first b (get_or links k e)
here_within x y ops links first b k d e is now tree all inside kept near has =
    link_within (3 * length ops) y (node_of_op (get_or ops k d)) first b (get_or links k e) tree now (node_here x y ops b k (get_or ops k d) d is all inside refl kept) near
    (link_at (3 * length ops) y.places y.cache y.tensor first ops links k d e has inside)

-- ---- rows

-- a sum of which one alone is above 0
single_sum : (f : ℕ → ℕ) (i n : ℕ) → ((k : ℕ) → (k ≡ i → ⊥) → f k ≡ 0) → (n ≤ i → sum_by f (range_with_len 0 n) ≡ 0) × (i < n → sum_by f (range_with_len 0 n) ≡ f i)
single_sum f i zero others = (λ l. refl, λ l. absurd (omega (arith, l)))
single_sum f i (suc n) others =
    let rest = single_sum f i n others in
    let next : sum_by f (range_with_len 0 (suc n)) ≡ sum_by f (range_with_len 0 n) + f n = ap (λ m. sum_by f (range_with_len 0 m)) (sym (add-one n)) ∙ sum_next f n in (
      (λ l. let none = others n (λ e. absurd (omega (arith, l, e))) in let before = rest.0 (omega (arith, l)) in omega (arith, next, none, before)),
      (λ l. elim (cases_eq n i) [
        | inl e ↦ (let before = rest.0 (omega (arith, e)) in let same = ap f e in omega (arith, next, before, same))
        | inr ne ↦ (let none = others n ne in let before = rest.1 (omega (arith, l, ne)) in omega (arith, next, none, before))
      ]),
    )

-- the place of a window's word where one index alone is further
pub single : (w : Window) (first b : Assignment) (i x : ℕ) → i < 24 → b ≡ with_number first i (first i + x) → stands_at w first b ≡ w.first + x * slice_index w.steps i
unfolding steps_to
single w first b i x low e =
    ap (λ c. w.first + sum_by (λ k. slice_index w.steps k * (c k - first k)) (range_with_len 0 24)) e ∙ ap (λ n. w.first + n) ((single_sum f i 24 others).1 low ∙ here)
  where
    f : ℕ → ℕ
    f k = slice_index w.steps k * (with_number first i (first i + x) k - first k)

    nothing : (p q : ℕ) → p * (q - q) ≡ 0
    nothing p q = let z : q - q ≡ 0 = omega arith in ap (λ n. p * n) z ∙ omega arith

    others : (k : ℕ) → (k ≡ i → ⊥) → f k ≡ 0
    others k ne = ap (λ n. slice_index w.steps k * (n - first k)) (with-other first i (first i + x) k ne) ∙ nothing (slice_index w.steps k) (first k)

    turned : (p q : ℕ) → p * q ≡ q * p
    turned p q = omega arith

    here : f i ≡ x * slice_index w.steps i
    here =
        let is : with_number first i (first i + x) i ≡ first i + x = with-same first i (first i + x) in
        let far : with_number first i (first i + x) i - first i ≡ x = omega (arith, is) in
        ap (λ n. slice_index w.steps i * n) far ∙ turned (slice_index w.steps i) x

pub source_along : (words : List ℕ) (s : Source) (first b : Assignment) (i x : ℕ) → i < 24 → b ≡ with_number first i (first i + x) → word_along words i x s ≡ source_word words first b s
source_along words (Number k) first b i x low e = refl
source_along words (Words w) first b i x low e = ap (slice_index words) (sym (single w first b i x low e))

pub within_along : (count : ℕ) (s : Source) (first b : Assignment) (i x : ℕ) → i < 24 → b ≡ with_number first i (first i + x) → IsSourceWithin count first b s → IsAlongWithin count i x s
within_along count (Number k) first b i x low e h = tt
within_along count (Words w) first b i x low e h = omega (arith, h, single w first b i x low e)

pub within_more : (n m : ℕ) (s : Source) (first b : Assignment) → n ≤ m → IsSourceWithin n first b s → IsSourceWithin m first b s
within_more n m (Number k) first b le h = tt
within_more n m (Words w) first b le h = omega (arith, h, le)

-- the links of a row are those of the block
source_moved : (n : ℕ) (y : Workspace) (o : Operand) (first b : Assignment) (s : Source) → IsNear (edge_at y.places.space) first b → IsSource n y.places y.cache first o s
    → IsSource n y.places y.cache b o (source_at first b s)
source_moved n y (Leaf l) first b (Number k) near h = absurd h
source_moved n y (Leaf l) first b (Words w) near h = tile_moved n y.places.space y.cache l.tensor l.indexes.items first b false w near h
source_moved n y (Constant k) first b (Number m) near h = h
source_moved n y (Constant k) first b (Words w) near h = absurd h
source_moved n y (Node u) first b (Number k) near h = absurd h
source_moved n y (Node u) first b (Words w) near h = slot_moved y u first b w near h

link_moved : (n : ℕ) (y : Workspace) (v : ℕ) (first b : Assignment) (l : Link) → IsNear (edge_at y.places.space) first b → IsLink n y.places y.cache y.tensor first v l
    → IsLink n y.places y.cache y.tensor b v (link_at_turn first b l)
link_moved n y v first b l near h = record {
  kind_is = h.kind_is;
  left_is = source_moved n y (left_of y.places.tree v) first b l.left near h.left_is;
  right_is = λ o e. source_moved n y o first b l.right near (h.right_is o e);
  own_is = λ e. ap (source_at first b) (h.own_is e);
  out_is = record {
    inner = λ lt. slot_moved y v first b l.out near (h.out_is.inner lt);
    root = λ last. tile_moved n y.places.space y.cache y.tensor y.places.result first b true l.out near (h.out_is.root last);
  };
}

pub links_moved : (n : ℕ) (y : Workspace) (first b : Assignment) (ops : List Op) (links : List Link) → IsNear (edge_at y.places.space) first b → AreLinks n y.places y.cache y.tensor first ops links
    → AreLinks n y.places y.cache y.tensor b ops (map (link_at_turn first b) links)
links_moved n y first b [] [] near h = tt
links_moved n y first b [] (l ∷ links) near h = absurd h
links_moved n y first b (op ∷ ops) [] near h = absurd h
links_moved n y first b (op ∷ ops) (l ∷ links) near h = (link_moved n y (node_of_op op) first b l near h.0, links_moved n y first b ops links near h.1)

-- all words of the links are among the words of the run
pub all_within : (n m : ℕ) (y : Workspace) (first b : Assignment) (ops : List Op) (links : List Link) → IsPrepared y → IsTree y.places.tree → All (IsOperationAt (setting_in y) b) ops
    → IsNear (edge_at y.places.space) first b → AreLinks n y.places y.cache y.tensor first ops links → length y.words ≤ m → All (IsLinkWithin m first b) links
all_within n m y first b ops links is tree all near has le = λ k d low.
    let low_op : k < length ops = omega (arith, low, same_count n y.places y.cache y.tensor first ops links has) in
    let h = link_within n y (node_of_op (get_or ops k Close)) first b (get_or links k d) tree is (node_at (setting_in y) b (get_or ops k Close) (all k Close low_op)) near
    (link_at n y.places y.cache y.tensor first ops links k Close d has low_op) in
    record {
      left = within_more (length y.words) m (get_or links k d).left first b le h.left;
      right = within_more (length y.words) m (get_or links k d).right first b le h.right;
      out = omega (arith, h.out, le);
    }

-- the turns of a row are near its beginning
pub near_row : (space : IndexSpace) (b : BodyBlock) (first begin numbers : List ℕ) (d x : ℕ) → d < length b.loops.now → x < slice_index b.len.now d → IsInBlock space b first begin
    → slice_index begin (slice_index b.loops.now d) ≡ slice_index b.from.now d
    → slice_index numbers ≡ with_number (slice_index begin) (slice_index b.loops.now d) (slice_index begin (slice_index b.loops.now d) + x) → IsNear (edge_at space) (slice_index begin) (slice_index numbers)
near_row space b first begin numbers d x low turn h start e = record {
  loops = i ∷ [];
  count = λ j. slice_index b.len.now d;
  turn = subst (IsTurn (record { order = i ∷ []; first = slice_index begin; count = λ j. slice_index b.len.now d })) (sym e) (record {
    loops = λ j m. let same : j ≡ i = only j m in let is : with_number (slice_index begin) i f j ≡ f = ap (with_number (slice_index begin) i f) same ∙ with-same (slice_index begin) i f in
        let at : slice_index begin j ≡ slice_index begin i = ap (slice_index begin) same in (omega (arith, is, at), omega (arith, is, at, turn));
    others = λ j o. with-other (slice_index begin) i f j (λ same. false≢true (sym o ∙ or_left (eqb i j) false (eq-eqb i j (sym same))));
  });
  between = λ j m.
      let same : j ≡ i = only j m in
      let whole = h.between i (h.member d low) in
      let from = h.from_is d low in
      let len = h.len_is d low in
      subst (λ k. slice_index begin k % edge_at space k + slice_index b.len.now d ≤ edge_at space k) (sym same)
      (subst (λ n. n % edge_at space i + slice_index b.len.now d ≤ edge_at space i) (from ∙ sym start) (subst (λ n. slice_index first i % edge_at space i + n ≤ edge_at space i) len whole));
}
  where
    i : ℕ
    i = slice_index b.loops.now d

    f : ℕ
    f = slice_index begin i + x

    only : (j : ℕ) → among (i ∷ []) j ≡ true → j ≡ i
    only j m = elim (cases_eq i j) [
      | inl same ↦ sym same
      | inr ne ↦ absurd (false≢true (rw (ne_eqb i j ne) at m))
    ]
