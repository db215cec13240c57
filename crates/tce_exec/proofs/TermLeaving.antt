-- What one block of a term leaves, once its windows are there.
use Rattle.std.proofs.Common.{◌≡◌, ℕ, ◌+◌, ◌-◌, ◌<◌, ◌^◌, Bool, true, false, ◌&&◌, eqb, if◌then◌else◌, IsTrue, List, ◌++◌, length, slice_index, Some, bytes_eq, refl, sym, ap, ap₂, ◌∙◌, subst, inl, inr, arith}
use mathlib.Core.Path.{fun_ext}
use Rattle.std.proofs.lemmas.Bool.{cases_Bool, false≢true}
use Rattle.tce_base.specs.Word.{wrapping_mul}
use Rattle.tce_outside.specs.Files.{Files}
use Rattle.tce_space.specs.IndexSet.{has, members}
use Rattle.tce_space.specs.Space.{extent_at, edge_at}
use Rattle.tce_tree.specs.Value.{Assignment, assignment}
use Rattle.tce_tree.specs.WellFormed.{among}
use Rattle.tce_tree.specs.declared.node.Operand.{Operand}
use Rattle.tce_tree.specs.declared.node.Operand.TheVariants.{Leaf, Constant, Node}
use Rattle.tce_tree.proofs.Assignments.{numbers_inside}
use Rattle.tce_tree.proofs.Values.{map-same}
use Rattle.tce_tree.proofs.Permutations.{members_has}
use Rattle.tce_block.specs.Parts.{Part}
use Rattle.tce_code.specs.Execution.{Setting, State}
use Rattle.tce_walk.specs.Laws.{HoldsWords}
use Rattle.tce_walk.specs.Parts.{grown_by_part, falls_on, last_on_place}
use Rattle.tce_walk.specs.TailLaws.{dims_at}
use Rattle.tce_walk.proofs.TailParts.{among-front}
use Rattle.tce_walk.proofs.TermSums.{one_times}
use Rattle.tce_exec.specs.NodeStates.{Places}
use Rattle.tce_exec.specs.Loops.{AreLoops, HasGrown, HasGrownByProducts, IsWindowWithin}
use Rattle.tce_exec.specs.LoopWindows.{ShowsWords}
use Rattle.tce_exec.specs.Turns.{Turns, IsTurn, turns_of}
use Rattle.tce_exec.specs.TilesOfBlocks.{AreTurnsOfBlock}
use Rattle.tce_exec.specs.Workspace.{Workspace, setting_in}
use Rattle.tce_exec.specs.Prepared.{IsPrepared}
use Rattle.tce_exec.specs.Operands.{word_of_operand, IsPlaceOf}
use Rattle.tce_exec.specs.Steps.{IsKept, IsRead, IsChanged}
use Rattle.tce_exec.specs.Following.{kept_on}
use Rattle.tce_exec.specs.Windows.{IsOperandWindow, IsPlaceWindow}
use Rattle.tce_exec.specs.TermParts.{joined_part, mapped_by_part, scaled_by_part}
use Rattle.tce_exec.specs.TermWindows.{IsTensor, HasElement, HaveElements, element_value, term_value, AreTermWindows}
use Rattle.tce_exec.specs.TermBlocks.{around, outer_part, block_part, IsInReach, IsBlockIn, IsScaled, by_one, by_factor, IsReadBeside, IsAdded, IsTermRun, IsTermBlock, after_term_block}
use Rattle.tce_exec.specs.declared.window.Window.{Window}
use Rattle.tce_exec.specs.declared.steps.Windows.{Windows}
use Rattle.tce_exec.specs.declared.term_block.TermRun.{TermRun}
use Rattle.tce_exec.specs.declared.term_block.TermBlock.{TermBlock}
use Rattle.tce_exec.proofs.Following.{change_on, changed_twice}
use Rattle.tce_exec.proofs.LoopLeaving.{grow_leaves, products_leave, parts_are_within, parts_are_apart}
use Rattle.tce_exec.proofs.Leaving.{IsLeft, changed_by, holds, made_differs, view_with}
use Rattle.tce_exec.proofs.Placing.{Puts, place_shows, place_within, place_apart, place_changes}
use Rattle.tce_exec.proofs.Putting.{with_words}
use Rattle.tce_exec.proofs.Turning.{Reads, view, operand_within, operand_words}
use Rattle.tce_exec.proofs.Workspaces.{kept_setting}
use Rattle.tce_exec.proofs.ScaledStates.{turns_scale}
use Rattle.tce_exec.proofs.TermPlaces.{element_place}
use Rattle.tce_exec.proofs.TermSums.{AreDimsOf}
use Rattle.tce_exec.proofs.TermTurns.{all_loops, among_outer, outer_turns, outer_loops, outer_inside, all_turns, all_are_loops, all_from, all_inside, first_again}

-- ---- what is known of the loops of a block

pub record BlockFacts (p : Places) (r : TermRun) (loops : List ℕ) (part : Part) : Type 0 where
  pub turns : (a : Assignment) → AreTurnsOfBlock (extent_at p.space) (edge_at p.space) loops a part
  pub are_loops : AreLoops loops part.len
  pub begins : length part.from ≡ length loops
  pub inside : (a b : Assignment) → IsTurn (turns_of loops a part) b → (i : ℕ) → among loops i ≡ true → b i < extent_at p.space i
  pub first : (a : Assignment) → (turns_of r.order.now (turns_of loops a part).first (outer_part r)).first ≡ (turns_of loops a part).first
  pub outer_in : (i : ℕ) → among r.order.now i ≡ true → among loops i ≡ true
  pub others : (i : ℕ) → among loops i ≡ true → among r.order.now i ≡ false → among r.inner.now i ≡ true
  pub left_in : IsInReach p.space loops (around r) r.operands.left.now
  pub right_in : IsInReach p.space loops (around r) r.operands.right.now

among_back : (outer inner : List ℕ) (i : ℕ) → among (outer ++ inner) i ≡ true → among outer i ≡ false → among inner i ≡ true
among_back outer inner i m f =
    elim (cases_Bool (among inner i)) [
      | inl t ↦ t
      | inr n ↦ absurd (false≢true (sym f ∙ among-front outer inner i m n))
    ]

facts_at : (p : Places) (r : TermRun) (h : IsTermRun p r) (q : Part) → IsBlockIn p.space r.inner.now q → BlockFacts p r (all_loops r) (joined_part (outer_part r) q)
facts_at p r h q block = record {
  turns = all_turns p r h q block;
  are_loops = all_are_loops p r h q block;
  begins = all_from p r h q block;
  inside = all_inside p r h q block;
  first = first_again p r h q block;
  outer_in = λ i m. among_outer r.order.now r.inner.now i m;
  others = λ i m f. among_back r.order.now r.inner.now i m f;
  left_in = h.left_in;
  right_in = h.right_in;
}

pub facts : (p : Places) (b : TermBlock) → IsTermBlock p b → BlockFacts p b.run b.loops.now (block_part b)
facts p b h =
    subst (λ ls. BlockFacts p b.run ls (block_part b)) (sym h.loops_are)
    (subst (λ part. BlockFacts p b.run (all_loops b.run) part) (sym h.block_is) (facts_at p b.run h.run h.part h.part_is))

abbrev pub turns_in : TermBlock → Turns
turns_in b = turns_of b.loops.now (around b.run) (block_part b)

-- the turns of the loops outside, from the first one of the block on
abbrev pub outer_in : TermBlock → Turns
outer_in b = turns_of b.run.order.now (turns_in b).first (outer_part b.run)

turn_outside : (b : TermBlock) (c : Assignment) → IsTurn (turns_in b) c → (i : ℕ) → among b.loops.now i ≡ false → c i ≡ around b.run i
turn_outside b c turn i f = turn.others i f ∙ ap (λ q. if q then assignment b.loops.now (block_part b).from i else around b.run i) f

-- ---- operands and places at the turns

element_in : (p : Places) (loops : List ℕ) (a c : Assignment) (o : Operand) → IsInReach p.space loops a o → ((i : ℕ) → among loops i ≡ true → c i < extent_at p.space i) → ((i : ℕ) → among loops i ≡ false → c i ≡ a i)
    → HasElement p o c
element_in p loops a c (Leaf l) reach low out =
    numbers_inside (extent_at p.space) c l.indexes.items (λ i m.
    elim (cases_Bool (among loops i)) [
      | inl t ↦ low i t
      | inr f ↦ elim (reach i m) [
        | inl t ↦ absurd (false≢true (sym f ∙ t))
        | inr lt ↦ subst (λ n. n < extent_at p.space i) (sym (out i f)) lt
      ]
    ])
element_in p loops a c (Constant k) reach low out = reach
element_in p loops a c (Node u) reach low out = reach

pub elements_at : (p : Places) (b : TermBlock) → IsTermBlock p b → (c : Assignment) → IsTurn (turns_in b) c → HaveElements p b.run.operands c
elements_at p b h c turn =
    let f = facts p b h in
    record {
      tensors = h.run.tensors;
      left_has = element_in p b.loops.now (around b.run) c b.run.operands.left.now f.left_in (f.inside (around b.run) c turn) (turn_outside b c turn);
      right_has = element_in p b.loops.now (around b.run) c b.run.operands.right.now f.right_in (f.inside (around b.run) c turn) (turn_outside b c turn);
    }

pub place_at : (y : Workspace) (b : TermBlock) → IsTermBlock y.places b → (c : Assignment) → IsTurn (turns_in b) c → IsPlaceOf y b.run.operands.out c
place_at y b h c turn =
    let f = facts y.places b h in
    record {
      known = h.run.known;
      inside = λ i k.
          elim (cases_Bool (among b.loops.now i)) [
            | inl t ↦ f.inside (around b.run) c turn i t
            | inr n ↦ elim (h.run.inside i k) [
              | inl t ↦ absurd (false≢true (sym n ∙ f.outer_in i t))
              | inr lt ↦ subst (λ m. m < extent_at y.places.space i) (sym (turn_outside b c turn i n)) lt
            ]
          ];
    }

pub first_turn : (p : Places) (b : TermBlock) → IsTermBlock p b → IsTurn (turns_in b) (turns_in b).first
first_turn p b h = ((facts p b h).turns (around b.run)).first

outer_place : (y : Workspace) (b : TermBlock) → IsTermBlock y.places b → (c : Assignment) → IsTurn (outer_in b) c → IsPlaceOf y b.run.operands.out c
outer_place y b h c turn = record {
  known = h.run.known;
  inside = λ i k.
      elim (cases_Bool (among b.run.order.now i)) [
        | inl t ↦ outer_inside y.places b.run h.run (turns_in b).first c turn i t
        | inr n ↦
            let first : c i ≡ (turns_in b).first i = turn.others i n ∙ ap (λ q. if q then assignment b.run.order.now (outer_part b.run).from i else (turns_in b).first i) n in
            subst (λ m. m < extent_at y.places.space i) (sym first) ((place_at y b h (turns_in b).first (first_turn y.places b h)).inside i k)
      ];
}

pub puts_at : (y : Workspace) (b : TermBlock) (first : Assignment) (w : Window) → IsTermBlock y.places b → first ≡ (turns_in b).first → IsPlaceWindow 1 y b.run.operands.out first w
    → Puts y (turns_in b) 1 b.run.operands.out w
puts_at y b first w h same window =
    let turns = (facts y.places b h).turns (around b.run) in
    record {
      window = subst (λ f. IsPlaceWindow 1 y b.run.operands.out f w) same window;
      first = turns.first;
      between = turns.between;
      at = place_at y b h;
    }

pub outer_puts : (y : Workspace) (b : TermBlock) (first : Assignment) (w : Window) → IsTermBlock y.places b → first ≡ (turns_in b).first → IsPlaceWindow 1 y b.run.operands.out first w
    → Puts y (outer_in b) 1 b.run.operands.out w
outer_puts y b first w h same window =
    let turns = outer_turns y.places b.run h.run (turns_in b).first in
    record {
      window = subst (λ f. IsPlaceWindow 1 y b.run.operands.out f w) (same ∙ sym ((facts y.places b h).first (around b.run))) window;
      first = turns.first;
      between = turns.between;
      at = outer_place y b h;
    }

pub reads_at : (y : Workspace) (b : TermBlock) (n : ℕ) (o : Operand) (first : Assignment) (w : Window) → IsTermBlock y.places b → IsPrepared y → IsTensor y.places o → IsInReach y.places.space b.loops.now (around b.run) o
    → first ≡ (turns_in b).first → IsOperandWindow n y o first w → Reads y (turns_in b) n o w
reads_at y b n o first w h is tensor reach same window =
    let f = facts y.places b h in
    let turns = f.turns (around b.run) in
    record {
      window = subst (λ c. IsOperandWindow n y o c w) same window;
      first = turns.first;
      between = turns.between;
      at = λ c turn. element_place y o c is tensor (element_in y.places b.loops.now (around b.run) c o reach (f.inside (around b.run) c turn) (turn_outside b c turn));
    }

no_node : (p : Places) (o : Operand) (v u : ℕ) → IsTensor p o → o ≡ Node u → v ≡ u → ⊥
no_node p (Leaf l) v u tensor e same = cc
no_node p (Constant k) v u tensor e same = tensor
no_node p (Node n) v u tensor e same = tensor

pub read_beside : (y : Workspace) (b : TermBlock) (n : ℕ) (o : Operand) (w out : Window) → IsTermBlock y.places b → IsPrepared y → IsTensor y.places o → Reads y (turns_in b) n o w
    → Puts y (turns_in b) 1 b.run.operands.out out → IsReadBeside (length y.words) b w out
read_beside y b n o w out h is tensor reads puts =
    let f = facts y.places b h in
    record {
      within = parts_are_within b.loops.now (around b.run) (block_part b) w (length y.words) f.are_loops (operand_within y (turns_in b) n o w is reads);
      apart = parts_are_apart b.loops.now (around b.run) (block_part b) out w f.are_loops
          (place_apart y (turns_in b) 1 n b.run.operands.out o out w is puts reads (λ u e same. no_node y.places o b.run.operands.out u tensor e same));
    }

pub places_within : (y : Workspace) (b : TermBlock) (out : Window) → IsTermBlock y.places b → IsPrepared y → Puts y (turns_in b) 1 b.run.operands.out out
    → IsWindowWithin (length y.words) b.loops.now (block_part b).len out
places_within y b out h is puts =
    parts_are_within b.loops.now (around b.run) (block_part b) out (length y.words) (facts y.places b h).are_loops (place_within y (turns_in b) 1 b.run.operands.out out is puts)

pub outer_within : (y : Workspace) (b : TermBlock) (out : Window) → IsTermBlock y.places b → IsPrepared y → Puts y (outer_in b) 1 b.run.operands.out out
    → IsWindowWithin (length y.words) b.run.order.now (outer_part b.run).len out
outer_within y b out h is puts =
    parts_are_within b.run.order.now (turns_in b).first (outer_part b.run) out (length y.words) (outer_loops y.places b.run h.run) (place_within y (outer_in b) 1 b.run.operands.out out is puts)

-- ---- the words are multiplied

pub dims_of_run : (y : Workspace) (r : TermRun) → IsTermRun y.places r → AreDimsOf (setting_in y) r.operands.out r.order.now (outer_part r)
dims_of_run y r h =
    let loops = outer_loops y.places r h in
    record { distinct = loops.distinct; below = loops.below; as_many = loops.as_many; some = loops.some; dims = h.dims }

-- the numbers of other indexes do not matter where none of them is a dim
moved_around : (s : Setting) (v : ℕ) (order : List ℕ) (g : ℕ → ℕ) (a c : Assignment) (part : Part) (state : State) → ((i : ℕ) → has (dims_at s v) i ≡ true → among order i ≡ false → c i ≡ a i)
    → mapped_by_part s v order (λ b w. g w) c part state ≡ mapped_by_part s v order (λ b w. g w) a part state
moved_around s v order g a c part state same = fun_ext (λ u. fun_ext (λ p.
    ap (λ q. if eqb u v && q then g (state u p) else state u p) (falls_same p)))
  where
    falls_same : (p : List ℕ) → falls_on s v order c part p ≡ falls_on s v order a part p
    falls_same p = ap₂ (λ x y. x && bytes_eq p y) refl (map-same (members (dims_at s v)) (last_on_place s v order c part p) (last_on_place s v order a part p) (λ i m.
        elim (cases_Bool (among order i)) [
          | inl t ↦ sides i c a t
          | inr f ↦ out i c f ∙ same i (members_has (dims_at s v) i m) f ∙ sym (out i a f)
        ]))
      where
        out : (i : ℕ) (d : Assignment) → among order i ≡ false → last_on_place s v order d part p i ≡ d i
        out i d f = ap (λ q. if q then (if has (dims_at s v) i then assignment (members (dims_at s v)) p i else assignment order part.from i + assignment order part.len i - 1) else d i) f

        sides : (i : ℕ) (d e : Assignment) → among order i ≡ true → last_on_place s v order d part p i ≡ last_on_place s v order e part p i
        sides i d e t =
            ap (λ q. if q then (if has (dims_at s v) i then assignment (members (dims_at s v)) p i else assignment order part.from i + assignment order part.len i - 1) else d i) t
            ∙ sym (ap (λ q. if q then (if has (dims_at s v) i then assignment (members (dims_at s v)) p i else assignment order part.from i + assignment order part.len i - 1) else e i) t)

scaled_by_one : (s : Setting) (v : ℕ) (order : List ℕ) (factor : ℕ) (a : Assignment) (part : Part) (state : State) → factor ≡ 1 → ((u : ℕ) → HoldsWords u state) → scaled_by_part s v order factor a part state ≡ state
scaled_by_one s v order factor a part state one holds = fun_ext (λ u. fun_ext (λ p. picked (eqb u v && falls_on s v order a part p) (state u p) (holds u p)))
  where
    picked : (q : Bool) (w : ℕ) → w < 2 ^ 64 → (if q then wrapping_mul factor w else w) ≡ w
    picked true w low = ap (λ f. wrapping_mul f w) one ∙ one_times w low
    picked false w low = refl

first_as : (y : Workspace) (b : TermBlock) → IsTermBlock y.places b → (i : ℕ) → has (dims_at (setting_in y) b.run.operands.out) i ≡ true → among b.run.order.now i ≡ false → (turns_in b).first i ≡ around b.run i
first_as y b h i k f =
    let all = facts y.places b h in
    elim (cases_Bool (among b.loops.now i)) [
      | inl t ↦ absurd (false≢true (sym (h.run.apart i (all.others i t f)) ∙ k))
      | inr n ↦ ap (λ q. if q then assignment b.loops.now (block_part b).from i else around b.run i) n
    ]

pub scaled_leaves : (y : Workspace) (b : TermBlock) (factor : ℕ) (out : Window) (new : List ℕ) → IsTermBlock y.places b → IsPrepared y → ((k : ℕ) → slice_index y.words k < 2 ^ 64)
    → Puts y (outer_in b) 1 b.run.operands.out out → IsScaled factor b.run out y.words new
    → IsLeft y new (scaled_by_part (setting_in y) b.run.operands.out b.run.order.now factor (around b.run) (outer_part b.run))
scaled_leaves y b factor out new h is low puts (by_one one same) =
    let words = place_changes y (outer_in b) 1 b.run.operands.out out new is puts (ap length same) (λ k none. ap (λ ws. slice_index ws k) same) in
    record {
      kept = words.kept;
      changed = changed_by y new _ words (λ fs told.
          ap (λ ws. view_with y ws fs) same
          ∙ sym (scaled_by_one (setting_in y) b.run.operands.out b.run.order.now factor (around b.run) (outer_part b.run) (view y fs) one (λ v. holds y fs v is low told)));
    }
scaled_leaves y b factor out new h is low puts (by_factor made) =
    let loops = outer_loops y.places b.run h.run in
    let differs = made_differs b.run.order.now (turns_in b).first (outer_part b.run) _ out y.words new loops made in
    let words = place_changes y (outer_in b) 1 b.run.operands.out out new is puts differs.long differs.differ in
    record {
      kept = words.kept;
      changed = changed_by y new _ words (λ fs told.
          turns_scale (setting_in y) b.run.operands.out b.run.order.now (turns_in b).first (outer_part b.run) out (λ ws. view_with y ws fs) y.words
          (record { loops = loops; shows = place_shows y (outer_in b) 1 b.run.operands.out out fs is puts }) (dims_of_run y b.run h.run) factor new made
          ∙ moved_around (setting_in y) b.run.operands.out b.run.order.now (wrapping_mul factor) (around b.run) (turns_in b).first (outer_part b.run) (view y fs) (first_as y b h));
    }

-- ---- the term is added

element_word : (y : Workspace) (o : Operand) (state : State) (c : Assignment) → IsTensor y.places o → word_of_operand (setting_in y) o state c ≡ element_value (setting_in y).elements o c
element_word y (Leaf l) state c tensor = refl
element_word y (Constant k) state c tensor = refl
element_word y (Node u) state c tensor = absurd tensor

shows_element : (y : Workspace) (t : Turns) (n : ℕ) (o : Operand) (w : Window) (fs : Files) → IsPrepared y → ((k : ℕ) → slice_index y.words k < 2 ^ 64) → y.files ≡ Some fs → IsTensor y.places o → Reads y t n o w
    → ShowsWords t w y.words (element_value (setting_in y).elements o)
shows_element y t n o w fs is low told tensor reads = record {
  within = operand_within y t n o w is reads;
  word = λ c turn. operand_words y t n o w fs is low told reads c turn ∙ element_word y o (view y fs) c tensor;
}

-- the windows of a block, at whose turns the operands are read and the places are there
pub record IsReady (y : Workspace) (b : TermBlock) (w : Windows) : Type 0 where
  pub left_is : Reads y (turns_in b) (if b.run.operands.pair then 3 else 2) b.run.operands.left.now w.left
  pub right_is : IsTrue b.run.operands.pair → Reads y (turns_in b) 2 b.run.operands.right.now w.right
  pub puts : Puts y (turns_in b) 1 b.run.operands.out w.out
  pub outer : Puts y (outer_in b) 1 b.run.operands.out w.out

pub ready : (y : Workspace) (b : TermBlock) (first : Assignment) (w : Windows) → IsTermBlock y.places b → IsPrepared y → first ≡ (turns_in b).first → AreTermWindows y b.run.operands first w → IsReady y b w
ready y b first w h is same are =
    let f = facts y.places b h in
    record {
      left_is = reads_at y b (if b.run.operands.pair then 3 else 2) b.run.operands.left.now first w.left h is h.run.tensors.left_is f.left_in same are.left_is;
      right_is = λ t. reads_at y b 2 b.run.operands.right.now first w.right h is h.run.tensors.right_is f.right_in same (are.right_is t);
      puts = puts_at y b first w.out h same are.out_is;
      outer = outer_puts y b first w.out h same are.out_is;
    }

-- they stay where words change
pub ready_with : (y : Workspace) (b : TermBlock) (w : Windows) (new : List ℕ) → IsPrepared (with_words y new) → IsReady y b w → IsReady (with_words y new) b w
ready_with y b w new is h = record {
  left_is = reads_with (if b.run.operands.pair then 3 else 2) b.run.operands.left.now w.left h.left_is;
  right_is = λ t. reads_with 2 b.run.operands.right.now w.right (h.right_is t);
  puts = puts_with (turns_in b) h.puts;
  outer = puts_with (outer_in b) h.outer;
}
  where
    puts_with : (t : Turns) → Puts y t 1 b.run.operands.out w.out → Puts (with_words y new) t 1 b.run.operands.out w.out
    puts_with t p = record {
      window = record { inner = p.window.inner; root = p.window.root };
      first = p.first;
      between = p.between;
      at = λ c turn. record { known = (p.at c turn).known; inside = (p.at c turn).inside };
    }

    reads_with : (n : ℕ) (o : Operand) (v : Window) → Reads y (turns_in b) n o v → Reads (with_words y new) (turns_in b) n o v
    reads_with n (Leaf l) v r = record {
      window = r.window;
      first = r.first;
      between = r.between;
      at = λ c turn. record { operand = record { stored = record { array = (r.at c turn).operand.stored.array; file = (r.at c turn).operand.stored.file }; other = (r.at c turn).operand.other }; known = (r.at c turn).known; inside = (r.at c turn).inside };
    }
    reads_with n (Constant k) v r = absurd r.window
    reads_with n (Node u) v r = record { window = r.window; first = r.first; between = r.between; at = r.at }

pub added_leaves : (y : Workspace) (b : TermBlock) (w : Windows) (new : List ℕ) → IsTermBlock y.places b → IsPrepared y → ((k : ℕ) → slice_index y.words k < 2 ^ 64) → IsReady y b w → IsAdded b w y.words new
    → IsLeft y new (grown_by_part (setting_in y) b.run.operands.out b.loops.now (term_value (setting_in y).elements b.run.operands) (around b.run) (block_part b))
added_leaves y b w new h is low at added =
    elim (cases_Bool b.run.operands.pair) [
      | inl pair ↦ products pair (added.products pair)
      | inr single ↦ words single (added.words single)
    ]
  where
    loops : AreLoops b.loops.now (block_part b).len
    loops = (facts y.places b h).are_loops

    products : b.run.operands.pair ≡ true → HasGrownByProducts b.loops.now (block_part b).len w.out w.left w.right y.words new
        → IsLeft y new (grown_by_part (setting_in y) b.run.operands.out b.loops.now (term_value (setting_in y).elements b.run.operands) (around b.run) (block_part b))
    products pair made =
        let e = (setting_in y).elements in
        let o = b.run.operands in
        let differs = made_differs b.loops.now (around b.run) (block_part b) _ w.out y.words new loops made in
        let changes = place_changes y (turns_in b) 1 o.out w.out new is at.puts differs.long differs.differ in
        record {
          kept = changes.kept;
          changed = changed_by y new _ changes (λ fs told.
              (products_leave (setting_in y) o.out b.loops.now (around b.run) (block_part b) w.out w.left w.right (λ ws. view_with y ws fs) (element_value e o.left.now) (element_value e o.right.now) y.words new
              (record { loops = loops; shows = place_shows y (turns_in b) 1 o.out w.out fs is at.puts }) (holds y fs o.out is low told)
              (shows_element y (turns_in b) (if o.pair then 3 else 2) o.left.now w.left fs is low told h.run.tensors.left_is at.left_is)
              (shows_element y (turns_in b) 2 o.right.now w.right fs is low told h.run.tensors.right_is (at.right_is pair)) made).state_is
              ∙ ap (λ q. grown_by_part (setting_in y) o.out b.loops.now (λ c. if q then wrapping_mul (element_value e o.left.now c) (element_value e o.right.now c) else element_value e o.left.now c) (around b.run) (block_part b) (view y fs)) (sym pair));
        }

    words : b.run.operands.pair ≡ false → HasGrown b.loops.now (block_part b).len w.out w.left y.words new
        → IsLeft y new (grown_by_part (setting_in y) b.run.operands.out b.loops.now (term_value (setting_in y).elements b.run.operands) (around b.run) (block_part b))
    words single made =
        let e = (setting_in y).elements in
        let o = b.run.operands in
        let differs = made_differs b.loops.now (around b.run) (block_part b) _ w.out y.words new loops made in
        let changes = place_changes y (turns_in b) 1 o.out w.out new is at.puts differs.long differs.differ in
        record {
          kept = changes.kept;
          changed = changed_by y new _ changes (λ fs told.
              (grow_leaves (setting_in y) o.out b.loops.now (around b.run) (block_part b) w.out w.left (λ ws. view_with y ws fs) (element_value e o.left.now) y.words new
              (record { loops = loops; shows = place_shows y (turns_in b) 1 o.out w.out fs is at.puts }) (holds y fs o.out is low told)
              (shows_element y (turns_in b) (if o.pair then 3 else 2) o.left.now w.left fs is low told h.run.tensors.left_is at.left_is) made).state_is
              ∙ ap (λ q. grown_by_part (setting_in y) o.out b.loops.now (λ c. if q then wrapping_mul (element_value e o.left.now c) (element_value e o.right.now c) else element_value e o.left.now c) (around b.run) (block_part b) (view y fs)) (sym single));
        }

-- ---- from before the touches on

pub record IsBlockRun (x z : Workspace) (f : State → State) : Type 0 where
  pub kept : IsKept x z
  pub changed : IsChanged f 3 x z

pub block_runs : (x y : Workspace) (b : TermBlock) (w : Windows) (scaled added new : List ℕ) → IsTermBlock y.places b → IsPrepared x → IsKept x y → IsRead 3 x y → IsReady y b w
    → ((k : ℕ) → slice_index y.words k < 2 ^ 64) → ((k : ℕ) → slice_index scaled k < 2 ^ 64) → ((k : ℕ) → slice_index added k < 2 ^ 64)
    → IsScaled b.factors.before b.run w.out y.words scaled → IsAdded b w scaled added → IsScaled b.factors.after b.run w.out added new
    → IsBlockRun x (with_words y new) (after_term_block (setting_in x) b)
block_runs x y b w scaled added new h is kept read at low low_scaled low_added first_made added_made last_made =
    let one = scaled_leaves y b b.factors.before w.out scaled h read.prepared low at.outer first_made in
    let at_one = ready_with y b w scaled one.changed.prepared at in
    let two = added_leaves (with_words y scaled) b w added h one.changed.prepared low_scaled at_one added_made in
    let at_two = ready_with (with_words y scaled) b w added two.changed.prepared at_one in
    let three = scaled_leaves (with_words y added) b b.factors.after w.out new h two.changed.prepared low_added at_two.outer last_made in
    let kept_two = kept_on y (with_words y scaled) (with_words y added) one.kept two.kept in
    let kept_three = kept_on y (with_words y added) (with_words y new) kept_two three.kept in
    record {
      kept = kept_on x y (with_words y new) kept kept_three;
      changed = change_on 3 0 3 (after_term_block (setting_in x) b) x y (with_words y new) (omega arith) kept read
          (subst (λ s. IsChanged (after_term_block s b) 0 y (with_words y new)) (kept_setting x y is.cache kept)
          (changed_twice 0 0 0 _ _ y (with_words y added) (with_words y new) (omega arith) kept_two
          (changed_twice 0 0 0 _ _ y (with_words y scaled) (with_words y added) (omega arith) one.kept one.changed two.changed) three.changed));
    }

-- what the next step finds
pub record IsReadyWith (y : Workspace) (b : TermBlock) (w : Windows) (new : List ℕ) : Type 0 where
  pub prepared : IsPrepared (with_words y new)
  pub at : IsReady (with_words y new) b w

pub scaled_ready : (y : Workspace) (b : TermBlock) (w : Windows) (scaled : List ℕ) → IsTermBlock y.places b → IsPrepared y → ((k : ℕ) → slice_index y.words k < 2 ^ 64) → IsReady y b w
    → IsScaled b.factors.before b.run w.out y.words scaled → IsReadyWith y b w scaled
scaled_ready y b w scaled h is low at made =
    let left = scaled_leaves y b b.factors.before w.out scaled h is low at.outer made in
    record { prepared = left.changed.prepared; at = ready_with y b w scaled left.changed.prepared at }

pub added_ready : (y : Workspace) (b : TermBlock) (w : Windows) (scaled added : List ℕ) → IsTermBlock y.places b → IsReadyWith y b w scaled → ((k : ℕ) → slice_index scaled k < 2 ^ 64)
    → IsAdded b w scaled added → IsReadyWith y b w added
added_ready y b w scaled added h before low made =
    let left = added_leaves (with_words y scaled) b w added h before.prepared low before.at made in
    record { prepared = left.changed.prepared; at = ready_with (with_words y scaled) b w added left.changed.prepared before.at }
