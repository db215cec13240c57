-- The parts of a tail make the tail.
use Rattle.std.proofs.Common.{◌≡◌, ℕ, ◌<◌, ◌^◌, ◌&&◌, true, false, eqb, Option, Some, None, List, map, refl, sym, ap, ◌∙◌, subst, inl, inr, arith}
use Rattle.std.proofs.lemmas.Bool.{cases_Bool, eq-eqb, ne_eqb}
use Rattle.std.specs.List.{fold}
use Rattle.tce_base.specs.Word.{wrapping_add}
use Rattle.tce_base.proofs.Words.{plus-lt}
use Rattle.tce_space.specs.IndexSet.{has}
use Rattle.tce_space.specs.Tiling.{ArePositive}
use Rattle.tce_tree.proofs.Nodes.{size_bounds}
use Rattle.tce_tree.proofs.Parents.{parent_is}
use Rattle.tce_tree.proofs.Values.{arithmetic-lt}
use Rattle.tce_tree.specs.ContractionTree.{Arithmetic, ContractionTree, leaf, constant, binary, sum, multiply, operations, node}
use Rattle.tce_tree.specs.Value.{Assignment}
use Rattle.tce_tree.specs.WellFormed.{among}
use Rattle.tce_block.specs.Parts.{Part}
use Rattle.tce_walk.proofs.Closed.{Step, Leaves, Grows, Sets, blocks_at, left_alone, grown, set_last}
use Rattle.tce_walk.proofs.Folds.{fold-same}
use Rattle.tce_walk.proofs.Operands.{SameBefore, left_same, computed_same, left_low}
use Rattle.tce_walk.specs.PartLaws.{PartsMakeTails, PartsKeepWords}
use Rattle.tce_walk.specs.Parts.{grown_by_part, set_by_part, falls_on, last_on_place, part_growth, node_after_part}
use Rattle.tce_code.specs.Execution.{Setting, State, exec, left_word}
use Rattle.tce_code.specs.Shape.{IsBinary, IsSum}
use Rattle.tce_walk.specs.TailLaws.{dims_at, AreLoops, computed_word}
use Rattle.tce_walk.proofs.KnownTails.{sum_tails_are_known, single_tails_are_known, joined_tails_are_known, kept-loops}
use Rattle.tce_walk.specs.Laws.{HoldsWords}
use Rattle.tce_walk.specs.Machine.{tail_program, IsTailAt, IsJoinedTo}
use Rattle.tce_walk.specs.declared.machine.Tail.{Tail}

-- what one part makes of each node
grows_itself : (s : Setting) (v : ℕ) (order : List ℕ) (f : Assignment → ℕ) (a : Assignment) → Grows s v order f a (λ state part. grown_by_part s v order f a part state)
grows_itself s v order f a state part p = rw (eq-eqb v v refl) refl

grows_alone : (s : Setting) (v u : ℕ) (order : List ℕ) (f : Assignment → ℕ) (a : Assignment) → (u ≡ v → ⊥) → Leaves u (λ state part. grown_by_part s v order f a part state)
grows_alone s v u order f a ne state part p = rw (ne_eqb u v ne) refl

sets_itself : (s : Setting) (v : ℕ) (order : List ℕ) (f : Assignment → ℕ) (a : Assignment) → Sets s v order f a (λ state part. set_by_part s v order f a part state)
sets_itself s v order f a state part p = rw (eq-eqb v v refl) refl

sets_alone : (s : Setting) (v u : ℕ) (order : List ℕ) (f : Assignment → ℕ) (a : Assignment) → (u ≡ v → ⊥) → Leaves u (λ state part. set_by_part s v order f a part state)
sets_alone s v u order f a ne state part p = rw (ne_eqb u v ne) refl

-- a product and the sum that takes it
joined_step : Setting → ℕ → ℕ → List ℕ → (Assignment → ℕ) → Assignment → Step
joined_step s v w order f a state part = grown_by_part s w order f a part (set_by_part s v order f a part state)

joined_grows : (s : Setting) (v w : ℕ) (order : List ℕ) (f : Assignment → ℕ) (a : Assignment) → (w ≡ v → ⊥) → Grows s w order f a (joined_step s v w order f a)
unfolding joined_step
joined_grows s v w order f a ne state part p =
    grows_itself s w order f a (set_by_part s v order f a part state) part p ∙ ap (λ n. wrapping_add n (part_growth s w order f a part p)) (sets_alone s v w order f a ne state part p)

joined_sets : (s : Setting) (v w : ℕ) (order : List ℕ) (f : Assignment → ℕ) (a : Assignment) → (v ≡ w → ⊥) → Sets s v order f a (joined_step s v w order f a)
unfolding joined_step
joined_sets s v w order f a ne state part p =
    grows_alone s w v order f a ne (set_by_part s v order f a part state) part p ∙ sets_itself s v order f a state part p

joined_alone : (s : Setting) (v w u : ℕ) (order : List ℕ) (f : Assignment → ℕ) (a : Assignment) → (u ≡ v → ⊥) → (u ≡ w → ⊥) → Leaves u (joined_step s v w order f a)
unfolding joined_step
joined_alone s v w u order f a nv nw state part p =
    grows_alone s w u order f a nw (set_by_part s v order f a part state) part p ∙ sets_alone s v u order f a nv state part p

-- nodes before the first that a step changes
keeps_before : (v : ℕ) (before state : State) (step : Step) (part : Part) → ((u : ℕ) → u < v → Leaves u step) → SameBefore v before state
    → SameBefore v before (step state part)
keeps_before v before state step part leaves same u l p = leaves u l state part p ∙ same u l p

-- a node's loops outside those of the tail have numbers inside their extents
outside_numbers : (s : Setting) (tail : Tail) (a : Assignment) → IsTailAt s tail a → (i : ℕ) → has (dims_at s tail.node) i ≡ true
    → among tail.loops.0.items i ≡ false → a i < s.elements.extent i
outside_numbers s tail a at i m out = at.inside i (kept-loops s tail.node i at.known m) out

sum_parts : (s : Setting) (tail : Tail) (a : Assignment) (edge : ℕ → ℕ) (before : State)
    → IsTailAt s tail a → AreLoops s tail.loops.0.items → ArePositive (map edge tail.loops.0.items) → ((v : ℕ) → HoldsWords v before)
    → tail.sum ≡ None → IsSum (node s.tree tail.node)
    → fold (λ state part. grown_by_part s tail.node tail.loops.0.items (left_word s tail.node state) a part state) before (blocks_at s tail.loops.0.items edge)
    ≡ exec s (tail_program s.tree tail) before a
sum_parts s tail a edge before at turns edges words alone is =
    fold-same (SameBefore tail.node before)
    (λ state part. grown_by_part s tail.node tail.loops.0.items (left_word s tail.node state) a part state) step
    (λ state part same. ap (λ f. grown_by_part s tail.node tail.loops.0.items f a part state) (left_same s tail.node before state at.known same))
    (λ state part same. keeps_before tail.node before state step part
    (λ u l. grows_alone s tail.node u tail.loops.0.items (left_word s tail.node before) a (λ q. omega arith)) same)
    before (blocks_at s tail.loops.0.items edge) (λ u l p. refl)
    ∙ sum_tails_are_known s tail a before (fold step before (blocks_at s tail.loops.0.items edge)) at alone is (words tail.node)
    (λ u ne p. left_alone u step before (blocks_at s tail.loops.0.items edge) (grows_alone s tail.node u tail.loops.0.items (left_word s tail.node before) a ne) p)
    (grown s tail.node tail.loops.0.items (left_word s tail.node before) a edge before step at.distinct edges (λ b. left_low s tail.node before b words) (words tail.node)
    (grows_itself s tail.node tail.loops.0.items (left_word s tail.node before) a))
  where
    step : Step
    step state part = grown_by_part s tail.node tail.loops.0.items (left_word s tail.node before) a part state

single_parts : (s : Setting) (op : Arithmetic) (tail : Tail) (a : Assignment) (edge : ℕ → ℕ) (before : State)
    → IsTailAt s tail a → AreLoops s tail.loops.0.items → ArePositive (map edge tail.loops.0.items)
    → tail.sum ≡ None → IsBinary op (node s.tree tail.node)
    → fold (λ state part. set_by_part s tail.node tail.loops.0.items (computed_word s op tail.node state) a part state) before (blocks_at s tail.loops.0.items edge)
    ≡ exec s (tail_program s.tree tail) before a
single_parts s op tail a edge before at turns edges alone is =
    fold-same (SameBefore tail.node before)
    (λ state part. set_by_part s tail.node tail.loops.0.items (computed_word s op tail.node state) a part state) step
    (λ state part same. ap (λ f. set_by_part s tail.node tail.loops.0.items f a part state) (computed_same s op tail.node before state at.known same))
    (λ state part same. keeps_before tail.node before state step part
    (λ u l. sets_alone s tail.node u tail.loops.0.items (computed_word s op tail.node before) a (λ q. omega arith)) same)
    before (blocks_at s tail.loops.0.items edge) (λ u l p. refl)
    ∙ single_tails_are_known s op tail a before (fold step before (blocks_at s tail.loops.0.items edge)) at alone is turns
    (λ u ne p. left_alone u step before (blocks_at s tail.loops.0.items edge) (sets_alone s tail.node u tail.loops.0.items (computed_word s op tail.node before) a ne) p)
    (set_last s tail.node tail.loops.0.items (computed_word s op tail.node before) a edge before step turns edges (outside_numbers s tail a at)
    (sets_itself s tail.node tail.loops.0.items (computed_word s op tail.node before) a))
  where
    step : Step
    step state part = set_by_part s tail.node tail.loops.0.items (computed_word s op tail.node before) a part state

joined_parts : (s : Setting) (tail : Tail) (w : ℕ) (a : Assignment) (edge : ℕ → ℕ) (before : State)
    → IsTailAt s tail a → AreLoops s tail.loops.0.items → ArePositive (map edge tail.loops.0.items) → ((v : ℕ) → HoldsWords v before)
    → tail.sum ≡ Some w → tail.node < w
    → fold (λ state part. joined_step s tail.node w tail.loops.0.items (computed_word s multiply tail.node state) a state part) before (blocks_at s tail.loops.0.items edge)
    ≡ exec s (tail_program s.tree tail) before a
joined_parts s tail w a edge before at turns edges words joined above =
    fold-same (SameBefore tail.node before)
    (λ state part. joined_step s tail.node w tail.loops.0.items (computed_word s multiply tail.node state) a state part) step
    (λ state part same. ap (λ f. joined_step s tail.node w tail.loops.0.items f a state part) (computed_same s multiply tail.node before state at.known same))
    (λ state part same. keeps_before tail.node before state step part
    (λ u l. joined_alone s tail.node w u tail.loops.0.items (computed_word s multiply tail.node before) a (λ q. omega arith) (λ q. omega arith)) same)
    before (blocks_at s tail.loops.0.items edge) (λ u l p. refl)
    ∙ joined_tails_are_known s tail w a before (fold step before (blocks_at s tail.loops.0.items edge)) at joined turns (words w)
    (λ u nv nw p. left_alone u step before (blocks_at s tail.loops.0.items edge) (joined_alone s tail.node w u tail.loops.0.items (computed_word s multiply tail.node before) a nv nw) p)
    (grown s w tail.loops.0.items (computed_word s multiply tail.node before) a edge before step at.distinct edges (λ b. arithmetic-lt multiply _ _) (words w)
    (joined_grows s tail.node w tail.loops.0.items (computed_word s multiply tail.node before) a (λ q. omega arith)))
    (set_last s tail.node tail.loops.0.items (computed_word s multiply tail.node before) a edge before step turns edges (outside_numbers s tail a at)
    (joined_sets s tail.node w tail.loops.0.items (computed_word s multiply tail.node before) a (λ q. omega arith)))
  where
    step : Step
    step = joined_step s tail.node w tail.loops.0.items (computed_word s multiply tail.node before) a

-- by the kinds of node
no_leaf : (s : Setting) (v : ℕ) (c : ContractionTree) → v < operations s.tree → node s.tree v ≡ c → 0 < operations c
no_leaf s v c known is = subst (λ e. 0 < operations e) is (size_bounds s.tree v known).0

each_kind : (s : Setting) (tail : Tail) (a : Assignment) (edge : ℕ → ℕ) (before : State)
    → IsTailAt s tail a → AreLoops s tail.loops.0.items → ArePositive (map edge tail.loops.0.items) → ((v : ℕ) → HoldsWords v before)
    → (joined : Option ℕ) (c : ContractionTree) → tail.sum ≡ joined → node s.tree tail.node ≡ c → IsJoinedTo s.tree tail.node joined
    → fold (λ state part. node_after_part s tail.loops.0.items a part tail.node joined c state) before (blocks_at s tail.loops.0.items edge)
    ≡ exec s (tail_program s.tree tail) before a
unfolding joined_step
each_kind s tail a edge before at turns edges words joined (leaf t is) sums kind to = absurd (omega (arith, no_leaf s tail.node (leaf t is) at.known kind))
each_kind s tail a edge before at turns edges words joined (constant k) sums kind to = absurd (omega (arith, no_leaf s tail.node (constant k) at.known kind))
each_kind s tail a edge before at turns edges words None (binary op l r) sums kind to =
    single_parts s op tail a edge before at turns edges sums (subst (IsBinary op) (sym kind) refl)
each_kind s tail a edge before at turns edges words (Some w) (binary op l r) sums kind to =
    let product : multiply ≡ op = subst (IsBinary multiply) kind to.product in
    subst (λ o. fold (λ state part. node_after_part s tail.loops.0.items a part tail.node (Some w) (binary o l r) state) before (blocks_at s tail.loops.0.items edge)
    ≡ exec s (tail_program s.tree tail) before a) product
    (joined_parts s tail w a edge before at turns edges words sums (parent_is s.tree tail.node w to.above).above)
each_kind s tail a edge before at turns edges words None (sum is e) sums kind to = sum_parts s tail a edge before at turns edges words sums (subst IsSum (sym kind) tt)
each_kind s tail a edge before at turns edges words (Some w) (sum is e) sums kind to = absurd (subst (IsBinary multiply) kind to.product)

pub parts_make_tails : PartsMakeTails
parts_make_tails s tail a edge before at turns edges words = each_kind s tail a edge before at turns edges words tail.sum (node s.tree tail.node) refl refl at.joined

-- words stay words
grown_words : (s : Setting) (v : ℕ) (order : List ℕ) (f : Assignment → ℕ) (a : Assignment) (part : Part) (state : State)
    → ((u : ℕ) → HoldsWords u state) → (u : ℕ) → HoldsWords u (grown_by_part s v order f a part state)
grown_words s v order f a part state words u p =
    elim (cases_Bool (eqb u v)) [
      | inl t ↦ rw t (plus-lt (state u p) (part_growth s v order f a part p))
      | inr t ↦ rw t (words u p)
    ]

set_words : (s : Setting) (v : ℕ) (order : List ℕ) (f : Assignment → ℕ) (a : Assignment) (part : Part) (state : State) → ((b : Assignment) → f b < 2 ^ 64)
    → ((u : ℕ) → HoldsWords u state) → (u : ℕ) → HoldsWords u (set_by_part s v order f a part state)
set_words s v order f a part state low words u p =
    elim (cases_Bool (eqb u v && falls_on s v order a part p)) [
      | inl t ↦ rw t (low (last_on_place s v order a part p))
      | inr t ↦ rw t (words u p)
    ]

kind_words : (s : Setting) (order : List ℕ) (a : Assignment) (part : Part) (v : ℕ) (joined : Option ℕ) (c : ContractionTree) (state : State)
    → ((u : ℕ) → HoldsWords u state) → (u : ℕ) → HoldsWords u (node_after_part s order a part v joined c state)
kind_words s order a part v joined (leaf t is) state words = words
kind_words s order a part v joined (constant k) state words = words
kind_words s order a part v None (binary op l r) state words = set_words s v order (computed_word s op v state) a part state (λ b. arithmetic-lt op _ _) words
kind_words s order a part v (Some w) (binary op l r) state words =
    grown_words s w order (computed_word s op v state) a part (set_by_part s v order (computed_word s op v state) a part state)
    (set_words s v order (computed_word s op v state) a part state (λ b. arithmetic-lt op _ _) words)
kind_words s order a part v None (sum is e) state words = grown_words s v order (left_word s v state) a part state words
kind_words s order a part v (Some w) (sum is e) state words = words

pub parts_keep_words : PartsKeepWords
parts_keep_words s tail a part before words = kind_words s tail.loops.0.items a part tail.node tail.sum (node s.tree tail.node) before words
