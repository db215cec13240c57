-- What the links of a body leave after a row of turns.
use Rattle.std.proofs.Common.{true, ◌≡◌, ℕ, zero, suc, add-one, length-set, ◌%◌, ◌+◌, ◌-◌, ◌*◌, ◌^◌, ◌<◌, ◌≤◌, List, [], ◌∷◌, map, length, take, drop, set, get_or, slice_index, slice_set, min, refl, sym, ap, ap₂, ◌∙◌, subst, inl, inr, arith, get_or-set_same, get_or-set_other}
use Rattle.std.specs.List.{All, fold}
use Rattle.std.proofs.lemmas.List.Sums.{fold_more}
use Rattle.std.proofs.lemmas.Bool.{cases_eq, ne_eqb, false≢true}
use Rattle.std.proofs.lemmas.List.{get_or-drop, length-drop}
use Rattle.tce_base.specs.Word.{wrapping_add, wrapping_sub, wrapping_mul}
use Rattle.tce_space.specs.Space.{IndexSpace, IsSpace, extent_at, edge_at}
use Rattle.tce_tree.specs.FlatTree.{IsTree}
use Rattle.tce_tree.specs.Value.{Assignment, with_number}
use Rattle.tce_tree.specs.WellFormed.{among, is_distinct}
use Rattle.tce_tree.specs.declared.node.Kind.{Kind}
use Rattle.tce_tree.specs.declared.node.Kind.TheVariants.{Product, Sum, Add, Sub}
use Rattle.tce_tree.proofs.Assignments.{with-other}
use Rattle.tce_tree.proofs.Lists.{distinct_first, distinct_later}
use Rattle.tce_code.specs.declared.op.Op.{Op}
use Rattle.tce_code.specs.declared.op.Op.TheVariants.{Open}
use Rattle.tce_walk.proofs.StraightBodies.{all-rest}
use Rattle.tce_code.specs.Execution.{Setting}
use Rattle.tce_code.specs.Program.{program_of}
use Rattle.tce_walk.specs.PartRuns.{exec_along}
use Rattle.tce_exec.specs.Bodies.{after_ops, touches_along, AreRanges, IsBodyIn, IsOperationAt}
use Rattle.tce_exec.specs.Following.{kept_own}
use Rattle.tce_exec.specs.ChainRows.{put_along, after_turn, after_row, window_along, source_along, link_along, window_before, source_before, link_before, IsLinkAlong, IsLinkFar, IsSourceFar}
use Rattle.tce_exec.specs.Links.{AreLinks, IsNear, IsInBlock, IsAtFirst, IsSourceWithin, IsLinkWithin, IsAlongWithin, window_at, source_at, link_at_turn, word_along, link_word}
use Rattle.tce_exec.specs.LoopWindows.{stands_at}
use Rattle.tce_exec.specs.Operands.{combined}
use Rattle.tce_exec.specs.Prepared.{IsPrepared}
use Rattle.tce_exec.specs.Steps.{IsKept, IsChanged}
use Rattle.tce_exec.specs.Workspace.{Workspace, setting_in}
use Rattle.tce_exec.specs.declared.body.BodyBlock.{BodyBlock}
use Rattle.tce_exec.specs.declared.links.Source.{Source}
use Rattle.tce_exec.specs.declared.links.Source.TheVariants.{Number, Words}
use Rattle.tce_exec.specs.declared.links.Link.{Link}
use Rattle.tce_exec.specs.declared.window.Window.{Window}
use Rattle.tce_exec.proofs.Bodies.{IsHere, IsLoopAt, IsSplit, AreTurnsOf, split, all_turns, loop_at, deeper_in, here_later, all_here, set_number, unchanged, taken_all, ran_once, no_turn, next_turn}
use Rattle.tce_exec.proofs.BodyBlocks.{member_of}
use Rattle.tce_exec.proofs.LinkLaws.{no_link, same_count}
use Rattle.tce_exec.proofs.LinkSteps.{links_further, links_back, links_far, links_apart, link_of_turn, links_of_turn}
use Rattle.tce_exec.proofs.LinkTurns.{single, source_along as word_of_turn, within_along, links_moved, all_within, near_row, still_in, here_within, link_done}
use Rattle.tce_exec.proofs.Putting.{with_words}

-- ---- the loops of a block

others_apart : (loops : List ℕ) (d e : ℕ) → is_distinct loops ≡ true → d < e → e < length loops → get_or loops e 0 ≡ get_or loops d 0 → ⊥
others_apart [] d e distinct far low same = absurd (omega (arith, low))
others_apart (j ∷ js) zero zero distinct far low same = absurd (omega (arith, far))
others_apart (j ∷ js) zero (suc e) distinct far low same = false≢true (sym (distinct_first j js distinct) ∙ ap (among js) (sym same) ∙ member_of js e (omega (arith, low)))
others_apart (j ∷ js) (suc d) zero distinct far low same = absurd (omega (arith, far))
others_apart (j ∷ js) (suc d) (suc e) distinct far low same = others_apart js d e (distinct_later j js distinct) (omega (arith, far)) (omega (arith, low)) same

pub first_deeper : (space : IndexSpace) (b : BodyBlock) (numbers now : List ℕ) (d x : ℕ) → d < length b.loops.now → x < slice_index b.len.now d
    → slice_index now ≡ with_number (slice_index numbers) (slice_index b.loops.now d) (slice_index b.from.now d + x) → IsAtFirst space b d numbers → IsAtFirst space b (d + 1) now
first_deeper space b numbers now d x low turn e h = record {
  first = h.first;
  block = still_in space b h.first numbers now d x low turn e h.block;
  at_first = λ k deep inside.
      let other = others_apart b.loops.now d k h.block.distinct (omega (arith, deep)) inside in
      ap (λ f. f (slice_index b.loops.now k)) e
      ∙ with-other (slice_index numbers) (slice_index b.loops.now d) (slice_index b.from.now d + x) (slice_index b.loops.now k) other
      ∙ h.at_first k (omega (arith, deep)) inside;
}

-- a turn of one loop of a block
pub record IsLoopTurn (x y : Workspace) (b : BodyBlock) (numbers now : List ℕ) (d k : ℕ) : Type 0 where
  pub small : get_or b.loops.now d 0 < 24
  pub next : slice_index now ≡ with_number (slice_index numbers) (get_or b.loops.now d 0) (get_or b.from.now d 0 + k)
  pub along : slice_index now ≡ with_number (slice_index numbers) (get_or b.loops.now d 0) (slice_index numbers (get_or b.loops.now d 0) + k)
  pub here : IsHere (setting_in y) x.places.space b.loops.now b.from.now b.len.now b.ops.now (d + 1) (slice_index now)
  pub near : IsNear (edge_at x.places.space) (slice_index numbers) (slice_index now)
  pub begun : IsAtFirst x.places.space b (d + 1) now

pub loop_turn : (x y : Workspace) (b : BodyBlock) (numbers mid : List ℕ) (d k : ℕ) → IsPrepared x → IsSpace x.places.space → IsKept x y → d < length b.loops.now → length numbers ≡ 24 → k < get_or b.len.now d 0
    → ((z : ℕ) → set mid (get_or b.loops.now d 0) z ≡ set numbers (get_or b.loops.now d 0) z) → IsAtFirst x.places.space b d numbers
    → IsHere (setting_in x) x.places.space b.loops.now b.from.now b.len.now b.ops.now d (slice_index numbers)
    → IsLoopTurn x y b numbers (set mid (get_or b.loops.now d 0) (get_or b.from.now d 0 + k)) d k
loop_turn x y b numbers mid d k is space kept low long turn same begun body =
    let i : ℕ = get_or b.loops.now d 0 in
    let f : ℕ = get_or b.from.now d 0 in
    let now : List ℕ = set mid i (f + k) in
    let here : IsLoopAt x.places.space i f (get_or b.len.now d 0) = loop_at (setting_in x) x.places.space b.loops.now b.from.now b.len.now b.ops.now d (slice_index numbers) space low body in
    let next : slice_index now ≡ with_number (slice_index numbers) i (f + k) = set_number numbers mid i (f + k) (omega (arith, here.small, long)) same in
    let start : slice_index numbers i ≡ f = begun.at_first d (omega arith) low in
    let along : slice_index now ≡ with_number (slice_index numbers) i (slice_index numbers i + k) = next ∙ ap (λ n. with_number (slice_index numbers) i (n + k)) (sym start) in
    record {
      small = here.small;
      next = next;
      along = along;
      here = here_later x y b.loops.now b.from.now b.len.now b.ops.now (d + 1) (slice_index now) is kept
          (deeper_in (setting_in x) x.places.space b.loops.now b.from.now b.len.now b.ops.now d k (slice_index numbers) (slice_index now) refl low turn next body);
      near = near_row x.places.space b begun.first numbers now d k low turn begun.block start along;
      begun = first_deeper x.places.space b numbers now d k low turn next begun;
    }

in_range : (space : IndexSpace) (loops from len : List ℕ) (a : Assignment) (i : ℕ) → AreRanges space loops from len → ((e : ℕ) → e < length loops → a (get_or loops e 0) ≡ get_or from e 0)
    → among loops i ≡ true → a i < extent_at space i
in_range space [] from len a i h start m = absurd (false≢true m)
in_range space (j ∷ js) [] len a i h start m = absurd h
in_range space (j ∷ js) (f ∷ fs) [] a i h start m = absurd h
in_range space (j ∷ js) (f ∷ fs) (n ∷ ns) a i h start m = elim (cases_eq j i) [
  | inl e ↦ (let at : a j ≡ f = start 0 (omega arith) in let some = h.1 in let inside = h.2 in let same = ap a e in let wide = ap (extent_at space) e in omega (arith, at, some, inside, same, wide))
  | inr ne ↦ in_range space js fs ns a i h.3 (λ e l. start (suc e) (omega (arith, l))) (rw (ne_eqb j i ne) at m)
]

-- at the first numbers of the loops inside each operation stands
first_all : (s : Setting) (space : IndexSpace) (loops from len : List ℕ) (ops : List Op) (a : Assignment) → s.elements.extent ≡ extent_at space → IsBodyIn s space loops from len ops a
    → ((e : ℕ) → e < length loops → a (get_or loops e 0) ≡ get_or from e 0) → All (IsOperationAt s a) ops
first_all s space loops from len ops a same h start = λ j o l.
    let at = h.each j o l in record {
      node = at.node;
      alone = at.alone;
      at = record {
        known = at.known;
        inside = λ i m. elim (at.inside i m) [
          | inl t ↦ (let low = in_range space loops from len a i h.ranges start t in let e = ap (λ f. f i) same in omega (arith, low, e))
          | inr lt ↦ lt
        ];
      };
    }

pub inner_all : (x : Workspace) (b : BodyBlock) (numbers now : List ℕ) (d k : ℕ) → IsLoopTurn x x b numbers now d k → All (IsOperationAt (setting_in x) (slice_index now)) b.ops.now
inner_all x b numbers now d k at =
    first_all (setting_in x) x.places.space (drop (d + 1) b.loops.now) (drop (d + 1) b.from.now) (drop (d + 1) b.len.now) b.ops.now (slice_index now) refl at.here (λ e low.
    ap (slice_index now) (get_or-drop (d + 1) b.loops.now e 0)
    ∙ at.begun.at_first (d + 1 + e) (omega arith) (omega (arith, low, length-drop (d + 1) b.loops.now))
    ∙ sym (get_or-drop (d + 1) b.from.now e 0))

-- its links
pub links_here : (x : Workspace) (b : BodyBlock) (numbers now : List ℕ) (links : List Link) (d k : ℕ) → IsLoopTurn x x b numbers now d k
    → AreLinks (3 * length b.ops.now) x.places x.cache x.tensor (slice_index numbers) b.ops.now links
    → AreLinks (3 * length b.ops.now) x.places x.cache x.tensor (slice_index now) b.ops.now (map (link_along (get_or b.loops.now d 0) k) links)
links_here x b numbers now links d k at has =
    subst (AreLinks (3 * length b.ops.now) x.places x.cache x.tensor (slice_index now) b.ops.now) (links_of_turn links (slice_index numbers) (slice_index now) (get_or b.loops.now d 0) k at.small at.along)
    (links_moved (3 * length b.ops.now) x (slice_index numbers) (slice_index now) b.ops.now links at.near has)

-- the links lie among the words at each turn, where it is the turn of the last loop or the others are at their first turn
pub links_within : (m : ℕ) (x : Workspace) (b : BodyBlock) (numbers now : List ℕ) (links : List Link) (d k : ℕ) → IsPrepared x → IsTree x.places.tree → IsLoopTurn x x b numbers now d k
    → All (IsOperationAt (setting_in x) (slice_index now)) b.ops.now → AreLinks (3 * length b.ops.now) x.places x.cache x.tensor (slice_index numbers) b.ops.now links → length x.words ≤ m
    → All (IsLinkAlong m (get_or b.loops.now d 0) k) links
links_within m x b numbers now links d k is tree at all has le = λ j e low.
    link_of_turn m (get_or links j e) (slice_index numbers) (slice_index now) (get_or b.loops.now d 0) k at.small at.along
    (all_within (3 * length b.ops.now) m x (slice_index numbers) (slice_index now) b.ops.now links is tree all at.near has le j e low)

-- ---- a turn

word_low : (n : ℕ) → n % 2 ^ 64 < 2 ^ 64
word_low n = omega arith

combined_low : (k : Kind) (x y : ℕ) → combined k x y < 2 ^ 64
unfolding wrapping_add wrapping_sub wrapping_mul
combined_low Product x y = word_low (x * y)
combined_low Sum x y = word_low (y + x)
combined_low Add x y = word_low (x + y)
combined_low Sub x y = word_low (x + (2 ^ 64 - y))

set_low : (words : List ℕ) (q v : ℕ) → ((k : ℕ) → slice_index words k < 2 ^ 64) → v < 2 ^ 64 → q < length words → (k : ℕ) → slice_index (slice_set words q v) k < 2 ^ 64
set_low words q v low small inside k = elim (cases_eq k q) [
  | inl e ↦ (let at : slice_index (slice_set words q v) k ≡ v = ap (slice_index (slice_set words q v)) e ∙ get_or-set_same words q v 0 inside in omega (arith, at, small))
  | inr ne ↦ (let at : slice_index (slice_set words q v) k ≡ slice_index words k = get_or-set_other words q k v 0 ne in let l = low k in omega (arith, at, l))
]

-- after so many links of a turn
record IsTurnedSoFar (x : Workspace) (ops : List Op) (b : Assignment) (j : ℕ) (new : List ℕ) : Type 0 where
  kept : IsKept x (with_words x new)
  changed : IsChanged (after_ops (setting_in x) b (take j ops)) (3 * j) x (with_words x new)
  low : (k : ℕ) → slice_index new k < 2 ^ 64

-- what the links of a turn need
record HasTurn (x : Workspace) (ops : List Op) (links : List Link) (first b : Assignment) (i t : ℕ) : Type 0 where
  prepared : IsPrepared x
  tree : IsTree x.places.tree
  low : (k : ℕ) → slice_index x.words k < 2 ^ 64
  all : All (IsOperationAt (setting_in x) b) ops
  near : IsNear (edge_at x.places.space) first b
  links_are : AreLinks (3 * length ops) x.places x.cache x.tensor first ops links
  small : i < 24
  along : b ≡ with_number first i (first i + t)

turn_more : (x : Workspace) (ops : List Op) (links : List Link) (first b : Assignment) (i t j : ℕ) → HasTurn x ops links first b i t → j < length ops
    → IsTurnedSoFar x ops b j (fold (put_along i t) x.words (take j links)) → IsTurnedSoFar x ops b (suc j) (fold (put_along i t) x.words (take (suc j) links))
turn_more x ops links first b i t j h within_op before =
    subst (λ n. IsTurnedSoFar x ops b n (fold (put_along i t) x.words (take n links))) (add-one j)
    (record { kept = done.0; changed = done.1; low = lows })
  where
    mid : List ℕ
    mid = fold (put_along i t) x.words (take j links)

    new : List ℕ
    new = fold (put_along i t) x.words (take (j + 1) links)

    y : Workspace
    y = with_words x mid

    here : Link
    here = get_or links j no_link

    within_link : j < length links
    within_link = omega (arith, within_op, same_count (3 * length ops) x.places x.cache x.tensor first ops links h.links_are)

    step : new ≡ put_along i t mid here
    step = fold_more (put_along i t) x.words links j no_link within_link

    word : ℕ
    word = combined here.kind (word_along mid i t here.left) (word_along mid i t here.right)

    put : new ≡ slice_set y.words (stands_at here.out first b) (link_word y.words first b here)
    put =
        step
        ∙ ap₂ (slice_set mid) (sym (single here.out first b i t h.small h.along))
        (ap₂ (combined here.kind) (word_of_turn mid here.left first b i t h.small h.along) (word_of_turn mid here.right first b i t h.small h.along))

    done : IsKept x (with_words y new) × IsChanged (after_ops (setting_in x) b (take (j + 1) ops)) (3 * (j + 1)) x (with_words y new)
    done = link_done x y new ops links first b j (Open 0) no_link h.prepared h.tree before.low h.all within_op before.kept h.near before.changed h.links_are put

    within : IsLinkWithin (length mid) first b here
    within = here_within x y ops links first b j (Open 0) no_link h.prepared before.changed.prepared h.tree h.all within_op before.kept h.near h.links_are

    lows : (k : ℕ) → slice_index new k < 2 ^ 64
    lows k =
        let at = set_low mid (here.out.first + t * slice_index here.out.steps i) word before.low (combined_low here.kind (word_along mid i t here.left) (word_along mid i t here.right))
        (omega (arith, within.out, single here.out first b i t h.small h.along)) k in
        let same = ap (λ ws. slice_index ws k) step in
        omega (arith, at, same)

turn_so_far : (x : Workspace) (ops : List Op) (links : List Link) (first b : Assignment) (i t j : ℕ) → HasTurn x ops links first b i t → j ≤ length ops
    → IsTurnedSoFar x ops b j (fold (put_along i t) x.words (take j links))
turn_so_far x ops links first b i t zero h le = record { kept = kept_own x; changed = unchanged x h.prepared; low = h.low }
turn_so_far x ops links first b i t (suc j) h le =
    turn_more x ops links first b i t j h (omega (arith, le)) (turn_so_far x ops links first b i t j h (omega (arith, le)))

taken : {X : Type 0} (xs : List X) → take (length xs) xs ≡ xs
taken [] = refl
taken (x ∷ xs) = ap (λ l. x ∷ l) (taken xs)

-- after so many turns of the last loop
pub record IsRowSoFar (x : Workspace) (b : BodyBlock) (numbers : List ℕ) (d k : ℕ) (new : List ℕ) : Type 0 where
  pub turns : AreTurnsOf x (with_words x new) b.ops.now b.loops.now b.from.now b.len.now d k (slice_index numbers)
  pub low : (j : ℕ) → slice_index new j < 2 ^ 64

-- what a row needs
pub record HasRow (x : Workspace) (b : BodyBlock) (numbers : List ℕ) (links : List Link) (d : ℕ) : Type 0 where
  pub prepared : IsPrepared x
  pub space : IsSpace x.places.space
  pub tree : IsTree x.places.tree
  pub low : (k : ℕ) → slice_index x.words k < 2 ^ 64
  pub last : d + 1 ≡ length b.loops.now
  pub long : length numbers ≡ 24
  pub begun : IsAtFirst x.places.space b d numbers
  pub body : IsHere (setting_in x) x.places.space b.loops.now b.from.now b.len.now b.ops.now d (slice_index numbers)
  pub links_are : AreLinks (3 * length b.ops.now) x.places x.cache x.tensor (slice_index numbers) b.ops.now links

row_turn : (x y : Workspace) (b : BodyBlock) (numbers : List ℕ) (links : List Link) (d k : ℕ) → HasRow x b numbers links d → IsKept x y → k < get_or b.len.now d 0
    → IsLoopTurn x y b numbers (set numbers (get_or b.loops.now d 0) (get_or b.from.now d 0 + k)) d k
row_turn x y b numbers links d k h kept turn = loop_turn x y b numbers numbers d k h.prepared h.space kept (let l = h.last in omega (arith, l)) h.long turn (λ z. refl) h.begun h.body

row_more : (x : Workspace) (b : BodyBlock) (numbers : List ℕ) (links : List Link) (d k : ℕ) → HasRow x b numbers links d → k < get_or b.len.now d 0
    → IsRowSoFar x b numbers d k (after_row links (get_or b.loops.now d 0) k x.words) → IsRowSoFar x b numbers d (suc k) (after_row links (get_or b.loops.now d 0) (suc k) x.words)
row_more x b numbers links d k h turn before =
    record {
      turns = subst (λ n. AreTurnsOf x (with_words x new) b.ops.now b.loops.now b.from.now b.len.now d n (slice_index numbers)) (add-one k)
          (next_turn x y (with_words x new) b.ops.now b.loops.now b.from.now b.len.now d k (slice_index numbers) (slice_index now) h.prepared before.turns at.next kept
          (ran_once y (with_words x new) b.loops.now b.from.now b.len.now b.ops.now (d + 1) (slice_index now) h.last at.here
          (taken_all y (with_words x new) b.ops.now (slice_index now) (length b.ops.now) all refl changed)));
      low = λ j. subst (λ ws. slice_index ws j < 2 ^ 64) whole (done.low j);
    }
  where
    i : ℕ
    i = get_or b.loops.now d 0

    mid : List ℕ
    mid = after_row links i k x.words

    new : List ℕ
    new = after_turn links i k mid

    y : Workspace
    y = with_words x mid

    now : List ℕ
    now = set numbers i (get_or b.from.now d 0 + k)

    at : IsLoopTurn x y b numbers now d k
    at = row_turn x y b numbers links d k h before.turns.kept turn

    all : All (IsOperationAt (setting_in y) (slice_index now)) b.ops.now
    all = all_here (setting_in y) x.places.space b.loops.now b.from.now b.len.now b.ops.now (d + 1) (slice_index now) h.last at.here

    done : IsTurnedSoFar y b.ops.now (slice_index now) (length b.ops.now) (fold (put_along i k) mid (take (length b.ops.now) links))
    done = turn_so_far y b.ops.now links (slice_index numbers) (slice_index now) i k (length b.ops.now) (record {
      prepared = before.turns.changed.prepared;
      tree = h.tree;
      low = before.low;
      all = all;
      near = at.near;
      links_are = h.links_are;
      small = at.small;
      along = at.along;
    }) (omega arith)

    whole : fold (put_along i k) mid (take (length b.ops.now) links) ≡ new
    whole = ap (λ n. fold (put_along i k) mid (take n links)) (sym (same_count (3 * length b.ops.now) x.places x.cache x.tensor (slice_index numbers) b.ops.now links h.links_are)) ∙ ap (fold (put_along i k) mid) (taken links)

    kept : IsKept y (with_words x new)
    kept = subst (λ ws. IsKept y (with_words x ws)) whole done.kept

    changed : IsChanged (after_ops (setting_in y) (slice_index now) (take (length b.ops.now) b.ops.now)) (3 * length b.ops.now) y (with_words x new)
    changed = subst (λ ws. IsChanged (after_ops (setting_in y) (slice_index now) (take (length b.ops.now) b.ops.now)) (3 * length b.ops.now) y (with_words x ws)) whole done.changed

pub row_so_far : (x : Workspace) (b : BodyBlock) (numbers : List ℕ) (links : List Link) (d k : ℕ) → HasRow x b numbers links d → k ≤ get_or b.len.now d 0
    → IsRowSoFar x b numbers d k (after_row links (get_or b.loops.now d 0) k x.words)
row_so_far x b numbers links d zero h le =
    record { turns = no_turn x b.ops.now b.loops.now b.from.now b.len.now d (slice_index numbers) h.prepared; low = h.low }
row_so_far x b numbers links d (suc k) h le = row_more x b numbers links d k h (omega (arith, le)) (row_so_far x b numbers links d k h (omega (arith, le)))

-- at each turn of a row the links lie among the words
pub row_within : (m : ℕ) (x : Workspace) (b : BodyBlock) (numbers : List ℕ) (links : List Link) (d : ℕ) → HasRow x b numbers links d → length x.words ≤ m
    → (by : ℕ) → by < get_or b.len.now d 0 → All (IsLinkAlong m (get_or b.loops.now d 0) by) links
row_within m x b numbers links d h le by turn =
    let at = row_turn x x b numbers links d by h (kept_own x) turn in
    links_within m x b numbers (set numbers (get_or b.loops.now d 0) (get_or b.from.now d 0 + by)) links d by h.prepared h.tree at
    (all_here (setting_in x) x.places.space b.loops.now b.from.now b.len.now b.ops.now (d + 1) _ h.last at.here) h.links_are le

-- a whole row
pub row_done : (x : Workspace) (b : BodyBlock) (numbers new : List ℕ) (links : List Link) (d : ℕ) → HasRow x b numbers links d → new ≡ after_row links (get_or b.loops.now d 0) (get_or b.len.now d 0) x.words
    → IsKept x (with_words x new)
    × IsChanged (λ state. exec_along (setting_in x) (program_of b.ops.now) (drop d b.loops.now) (drop d b.from.now) (drop d b.len.now) state (slice_index numbers)) (touches_along (drop d b.len.now) b.ops.now) x (with_words x new)
row_done x b numbers new links d h e =
    let row = row_so_far x b numbers links d (get_or b.len.now d 0) h (omega arith) in
    let at : IsSplit b.loops.now b.from.now b.len.now d = split x.places.space b.loops.now b.from.now b.len.now d h.body.ranges (let l = h.last in omega (arith, l)) in (
      subst (λ ws. IsKept x (with_words x ws)) (sym e) row.turns.kept,
      subst (λ ws. IsChanged (λ state. exec_along (setting_in x) (program_of b.ops.now) (drop d b.loops.now) (drop d b.from.now) (drop d b.len.now) state (slice_index numbers)) (touches_along (drop d b.len.now) b.ops.now) x (with_words x ws)) (sym e)
          (all_turns x (with_words x (after_row links (get_or b.loops.now d 0) (get_or b.len.now d 0) x.words)) b.ops.now b.loops.now b.from.now b.len.now d (get_or b.len.now d 0) (slice_index numbers) at refl row.turns),
    )

-- ---- from turn to turn of another loop

pub links_on : (links mid new : List Link) (i x by : ℕ) → x - 1 + by ≡ x → mid ≡ map (link_along i (x - 1)) links → new ≡ map (link_along i by) mid → new ≡ map (link_along i x) links
links_on links mid new i x by whole e f = f ∙ ap (map (link_along i by)) e ∙ links_further i (x - 1) by links ∙ ap (λ n. map (link_along i n) links) whole

pub links_left : (links mid new : List Link) (i n : ℕ) → mid ≡ map (link_along i n) links → new ≡ map (link_before i n) mid → new ≡ links
links_left links mid new i n e f = f ∙ ap (map (link_before i n)) e ∙ links_back i n links

pub far_enough : (links mid : List Link) (i n : ℕ) → mid ≡ map (link_along i n) links → All (IsLinkFar i n) mid
far_enough links mid i n e = subst (All (IsLinkFar i n)) (sym e) (links_far i n links)

pub near_enough : (count : ℕ) (links mid : List Link) (i x by : ℕ) → x - 1 + by ≡ x → mid ≡ map (link_along i (x - 1)) links → All (IsLinkAlong count i x) links → All (IsLinkAlong count i by) mid
near_enough count links mid i x by whole e h =
    subst (All (IsLinkAlong count i by)) (sym e) (links_apart count i (x - 1) by links (subst (λ n. All (IsLinkAlong count i n) links) (sym whole) h))

-- a turn leaves as many words
pub turn_long : (links : List Link) (i t : ℕ) (words : List ℕ) → length (after_turn links i t words) ≡ length words
turn_long [] i t words = refl
turn_long (l ∷ links) i t words =
    turn_long links i t (put_along i t words l)
    ∙ length-set words (l.out.first + t * slice_index l.out.steps i) (combined l.kind (word_along words i t l.left) (word_along words i t l.right))

-- the first turn of a loop is that at which the windows begin
pub turn_before : (x by : ℕ) → by ≡ min x 1 → x - 1 + by ≡ x
turn_before x by e = omega (arith, e)
