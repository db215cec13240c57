-- What bodies leave at the assignments of the loops round them.
use Rattle.std.proofs.Common.{◌≡◌, ℕ, ◌+◌, ◌-◌, ◌*◌, ◌^◌, ◌<◌, ◌≤◌, ◌⊎◌, true, false, List, [], ◌∷◌, ◌++◌, Option, Some, None, length, take, drop, get_or, set, map, refl, sym, ap, ap₂, ◌∙◌, subst, inl, inr, arith, add-one, suc, set-set, length-take}
use Rattle.std.specs.Prelude.{IsTrue}
use Rattle.std.specs.Option.{option_map}
use Rattle.std.specs.List.{All, fold}
use Rattle.std.proofs.Math.Nat.{mul_assoc, mul-le-mul_right}
use Rattle.std.proofs.lemmas.List.{take_more, drop_more, length-drop, set-get_or}
use Rattle.std.proofs.lemmas.List.Sums.{fold_push}
use Rattle.std.proofs.lemmas.Bool.{true≢false, false≢true, cases_eq, eq-eqb, ne_eqb}
use Rattle.tce_space.specs.Box.{product}
use Rattle.tce_space.specs.IndexSet.{has}
use Rattle.tce_space.specs.Space.{IndexSpace, IsSpace, extent_at, edge_at}
use Rattle.tce_space.proofs.Spaces.{index_limits}
use Rattle.tce_tree.specs.ContractionTree.{ContractionTree, leaf, constant, binary, sum, is_leaf, node, node_loops, operations}
use Rattle.tce_tree.specs.Value.{Assignment, with_number}
use Rattle.tce_tree.specs.WellFormed.{among}
use Rattle.tce_tree.proofs.Assignments.{with-same, with-other, all_positive}
use Rattle.tce_block.specs.Laws.{AreParts}
use Rattle.tce_block.specs.Parts.{Part}
use Rattle.tce_block.proofs.Fitting.{fit_the_box}
use Rattle.tce_code.specs.Execution.{Setting, State, exec, repeated}
use Rattle.tce_code.specs.Generation.{computing}
use Rattle.tce_code.specs.Program.{Program, stop, program_of}
use Rattle.tce_code.specs.declared.op.Op.{Op}
use Rattle.tce_code.specs.declared.op.Op.TheVariants.{Open, Close, Clear, Mul, Add, Sub, Acc}
use Rattle.tce_code.proofs.Emitted.{node-not_leaf}
use Rattle.tce_walk.specs.Bodies.{IsOperationIn, IsBodyAt}
use Rattle.tce_walk.specs.Machine.{assignment_of, operation_of_node, IsNodeAt}
use Rattle.tce_walk.specs.PartRuns.{exec_along}
use Rattle.tce_walk.specs.Positions.{plain_program}
use Rattle.tce_walk.proofs.Turns.{assignment-set}
use Rattle.tce_exec.specs.Bodies.{IsOperationAt, node_of_op, after_ops, AreRanges, IsBodyIn, touches_along}
use Rattle.tce_exec.specs.Workspace.{Workspace, setting_in, state_in}
use Rattle.tce_exec.specs.Prepared.{IsPrepared}
use Rattle.tce_exec.specs.Steps.{IsKept, IsChanged}
use Rattle.tce_exec.proofs.Edges.{same_lengths}
use Rattle.tce_exec.specs.Following.{kept_own, continued_own, kept_on}
use Rattle.tce_exec.proofs.Following.{changed_as, changed_twice}
use Rattle.tce_exec.proofs.Workspaces.{kept_setting}
use Rattle.tce_walk.proofs.BandRuns.{mapped-same}
use Rattle.tce_walk.proofs.StraightBodies.{all-rest}

-- ---- one operation

no_stop : (c : ContractionTree) (n : ℕ) → is_leaf c ≡ false → stop ≡ computing c n → ⊥
no_stop (leaf t is) n inner e = true≢false inner
no_stop (constant k) n inner e = true≢false inner
no_stop (binary op l r) n inner e = cc
no_stop (sum is c) n inner e = cc

named : (c : ContractionTree) (op : Op) (n : ℕ) → is_leaf c ≡ false → plain_program op ≡ computing c n → node_of_op op ≡ n
named (leaf t is) op n inner e = absurd (true≢false inner)
named (constant k) op n inner e = absurd (true≢false inner)
named (binary o l r) (Open i) n inner e = absurd (cc)
named (binary o l r) Close n inner e = absurd (cc)
named (binary o l r) (Clear v) n inner e = absurd (cc)
named (binary o l r) (Mul v) n inner e = cc
named (binary o l r) (Add v) n inner e = cc
named (binary o l r) (Sub v) n inner e = cc
named (binary o l r) (Acc v) n inner e = absurd (cc)
named (sum is c) (Open i) n inner e = absurd (cc)
named (sum is c) Close n inner e = absurd (cc)
named (sum is c) (Clear v) n inner e = absurd (cc)
named (sum is c) (Mul v) n inner e = absurd (cc)
named (sum is c) (Add v) n inner e = absurd (cc)
named (sum is c) (Sub v) n inner e = absurd (cc)
named (sum is c) (Acc v) n inner e = cc

-- an operation names its node
pub names_node : (s : Setting) (a : Assignment) (op : Op) (at : IsOperationAt s a op) → node_of_op op ≡ at.node
names_node s a op at = named (node s.tree at.node) op at.node (node-not_leaf s.tree at.node at.at.known) at.alone

-- so its node is one of the tree's
pub known_nodes : (s : Setting) (loops : List ℕ) (a : Assignment) (ops : List Op) → All (IsOperationIn s loops a) ops → All (λ op. node_of_op op < operations s.tree) ops
known_nodes s loops a ops each = λ k d low.
    let at = each k d low in
    let name : node_of_op (get_or ops k d) ≡ at.node = named (node s.tree at.node) (get_or ops k d) at.node (node-not_leaf s.tree at.node at.known) at.alone in
    omega (arith, name, at.known)

pub node_at : (s : Setting) (a : Assignment) (op : Op) → IsOperationAt s a op → IsNodeAt s (node_of_op op) a
node_at s a op at = subst (λ n. IsNodeAt s n a) (sym (names_node s a op at)) at.at

pub alone_at : (s : Setting) (a : Assignment) (op : Op) → IsOperationAt s a op → plain_program op ≡ operation_of_node s.tree (node_of_op op)
alone_at s a op at = at.alone ∙ ap (operation_of_node s.tree) (sym (names_node s a op at))

next_op : (s : Setting) (a : Assignment) (op : Op) (ops : List Op) (state : State) → IsOperationAt s a op
    → exec s (program_of (op ∷ ops)) state a ≡ exec s (program_of ops) (exec s (plain_program op) state a) a
next_op s a (Open i) ops state at = absurd (no_stop (node s.tree at.node) at.node (node-not_leaf s.tree at.node at.at.known) at.alone)
next_op s a Close ops state at = absurd (no_stop (node s.tree at.node) at.node (node-not_leaf s.tree at.node at.at.known) at.alone)
next_op s a (Clear v) ops state at = refl
next_op s a (Mul v) ops state at = refl
next_op s a (Add v) ops state at = refl
next_op s a (Sub v) ops state at = refl
next_op s a (Acc v) ops state at = refl

pub ops_are : (s : Setting) (a : Assignment) (ops : List Op) (state : State) → All (IsOperationAt s a) ops → exec s (program_of ops) state a ≡ after_ops s a ops state
ops_are s a [] state h = refl
ops_are s a (op ∷ ops) state h =
    next_op s a op ops state (h 0 op (omega arith)) ∙ ops_are s a ops (exec s (plain_program op) state a) (all-rest (IsOperationAt s a) op ops h)

-- ---- operations one after the other

pub unchanged : (x : Workspace) → IsPrepared x → IsChanged (λ state. state) 0 x x
unchanged x is = record { prepared = is; state = mapped-same (state_in x); few = omega arith; continued = continued_own x }

pub op_done : (x y z : Workspace) (ops : List Op) (a : Assignment) (k : ℕ) (op d : Op) → IsPrepared x → All (IsOperationAt (setting_in x) a) ops → k < length ops → op ≡ get_or ops k d
    → IsKept x y → IsChanged (after_ops (setting_in x) a (take k ops)) (3 * k) x y
    → IsChanged (λ state. exec (setting_in y) (operation_of_node y.places.tree (node_of_op op)) state a) 3 y z → IsChanged (after_ops (setting_in x) a (take (k + 1) ops)) (3 * (k + 1)) x z
op_done x y z ops a k op d is all low named kept before next =
    let s : Setting = setting_in x in
    let same : setting_in y ≡ s = kept_setting x y is.cache kept in
    let here : IsOperationAt s a op = subst (IsOperationAt s a) (sym named) (all k d low) in
    let now : IsChanged (λ state. exec s (operation_of_node s.tree (node_of_op op)) state a) 3 y z =
    subst (λ t. IsChanged (λ state. exec t (operation_of_node t.tree (node_of_op op)) state a) 3 y z) same next in
    changed_as (λ state. exec s (operation_of_node s.tree (node_of_op op)) (after_ops s a (take k ops) state) a) (after_ops s a (take (k + 1) ops)) (3 * (k + 1)) x z
    (λ state told.
    ap (λ p. exec s p (after_ops s a (take k ops) state) a) (sym (alone_at s a op here) ∙ ap plain_program named)
    ∙ sym (fold_push (λ st o. exec s (plain_program o) st a) state (take k ops) (get_or ops k d))
    ∙ ap (λ l. after_ops s a l state) (sym (take_more ops k d low)))
    (changed_twice (3 * k) 3 (3 * (k + 1)) (after_ops s a (take k ops)) (λ state. exec s (operation_of_node s.tree (node_of_op op)) state a) x y z (omega arith) kept before now)

pub node_here : (x y : Workspace) (ops : List Op) (a : Assignment) (k : ℕ) (op d : Op) → IsPrepared x → All (IsOperationAt (setting_in x) a) ops → k < length ops → op ≡ get_or ops k d
    → IsKept x y → IsNodeAt (setting_in y) (node_of_op op) a
node_here x y ops a k op d is all low named kept =
    subst (λ s. IsNodeAt s (node_of_op op) a) (sym (kept_setting x y is.cache kept)) (node_at (setting_in x) a op (subst (IsOperationAt (setting_in x) a) (sym named) (all k d low)))

pub taken_all : (x y : Workspace) (ops : List Op) (a : Assignment) (k : ℕ) → All (IsOperationAt (setting_in x) a) ops → k ≡ length ops
    → IsChanged (after_ops (setting_in x) a (take k ops)) (3 * k) x y → IsChanged (λ state. exec (setting_in x) (program_of ops) state a) (3 * length ops) x y
taken_all x y ops a k all e h =
    let s : Setting = setting_in x in
    changed_as (after_ops s a (take (length ops) ops)) (λ state. exec s (program_of ops) state a) (3 * length ops) x y
    (λ state told. ap (λ l. after_ops s a l state) (taken ops) ∙ sym (ops_are s a ops state all))
    (subst (λ n. IsChanged (after_ops s a (take n ops)) (3 * n) x y) e h)
  where
    taken : {X : Type 0} (xs : List X) → take (length xs) xs ≡ xs
    taken [] = refl
    taken (x ∷ xs) = ap (λ l. x ∷ l) (taken xs)

-- ---- loops

pub ranges_long : (space : IndexSpace) (loops from len : List ℕ) → AreRanges space loops from len → (length from ≡ length loops) × (length len ≡ length loops)
ranges_long space [] [] [] h = (refl, refl)
ranges_long space [] [] (n ∷ ns) h = absurd h
ranges_long space [] (f ∷ fs) ns h = absurd h
ranges_long space (i ∷ is) [] ns h = absurd h
ranges_long space (i ∷ is) (f ∷ fs) [] h = absurd h
ranges_long space (i ∷ is) (f ∷ fs) (n ∷ ns) h = let rest = ranges_long space is fs ns h.3 in (ap suc rest.0, ap suc rest.1)

-- one loop, and those behind it
pub record IsSplit (loops from len : List ℕ) (d : ℕ) : Type 0 where
  pub from_in : d < length from
  pub len_in : d < length len
  pub loops_are : drop d loops ≡ get_or loops d 0 ∷ drop (d + 1) loops
  pub from_are : drop d from ≡ get_or from d 0 ∷ drop (d + 1) from
  pub len_are : drop d len ≡ get_or len d 0 ∷ drop (d + 1) len

pub split : (space : IndexSpace) (loops from len : List ℕ) (d : ℕ) → AreRanges space (drop d loops) (drop d from) (drop d len) → d < length loops → IsSplit loops from len d
split space loops from len d h low =
    let long = ranges_long space (drop d loops) (drop d from) (drop d len) h in
    let from_in : d < length from = omega (arith, long.0, low, length-drop d loops, length-drop d from) in
    let len_in : d < length len = omega (arith, long.1, low, length-drop d loops, length-drop d len) in
    record {
      from_in = from_in;
      len_in = len_in;
      loops_are = drop_more loops d 0 low;
      from_are = drop_more from d 0 from_in;
      len_are = drop_more len d 0 len_in;
    }

abbrev pub IsHere : Setting → IndexSpace → List ℕ → List ℕ → List ℕ → List Op → ℕ → Assignment → Type 0
IsHere s space loops from len ops d a = IsBodyIn s space (drop d loops) (drop d from) (drop d len) ops a

opened : (s : Setting) (space : IndexSpace) (loops from len : List ℕ) (ops : List Op) (d : ℕ) (a : Assignment) → IsHere s space loops from len ops d a → IsSplit loops from len d
    → IsBodyIn s space (get_or loops d 0 ∷ drop (d + 1) loops) (get_or from d 0 ∷ drop (d + 1) from) (get_or len d 0 ∷ drop (d + 1) len) ops a
opened s space loops from len ops d a h at =
    subst (λ l. IsBodyIn s space (get_or loops d 0 ∷ drop (d + 1) loops) (get_or from d 0 ∷ drop (d + 1) from) l ops a) at.len_are
    (subst (λ f. IsBodyIn s space (get_or loops d 0 ∷ drop (d + 1) loops) f (drop d len) ops a) at.from_are
    (subst (λ l. IsBodyIn s space l (drop d from) (drop d len) ops a) at.loops_are h))

-- the loop's index and numbers
pub record IsLoopAt (space : IndexSpace) (i f n : ℕ) : Type 0 where
  pub small : i < 24
  pub some : 0 < n
  pub inside : f + n ≤ extent_at space i
  pub limit : f + n < 2 ^ 32

pub loop_at : (s : Setting) (space : IndexSpace) (loops from len : List ℕ) (ops : List Op) (d : ℕ) (a : Assignment) → IsSpace space → d < length loops
    → IsHere s space loops from len ops d a → IsLoopAt space (get_or loops d 0) (get_or from d 0) (get_or len d 0)
loop_at s space loops from len ops d a is low h =
    let at = opened s space loops from len ops d a h (split space loops from len d h.ranges low) in
    record {
      small = omega (arith, at.ranges.0, is.index_limit);
      some = at.ranges.1;
      inside = at.ranges.2;
      limit = omega (arith, at.ranges.2, (index_limits space (get_or loops d 0) is at.ranges.0).limit);
    }

-- the operations are inside one more loop
deeper : (s : Setting) (space : IndexSpace) (i y : ℕ) (loops : List ℕ) (a : Assignment) (op : Op) → s.elements.extent ≡ extent_at space → y < extent_at space i
    → IsOperationIn s (i ∷ loops) a op → IsOperationIn s loops (with_number a i y) op
deeper s space i y loops a op same low h = record {
  node = h.node;
  known = h.known;
  alone = h.alone;
  inside = λ j m. elim (cases_eq i j) [
    | inl e ↦ inr (let at : with_number a i y j ≡ y = ap (with_number a i y) (sym e) ∙ with-same a i y in omega (arith, at, low, ap (λ f. f i) same, ap s.elements.extent e))
    | inr ne ↦ elim (h.inside j m) [
      | inl t ↦ inl (rw (ne_eqb i j ne) at t)
      | inr lt ↦ inr (let at : with_number a i y j ≡ a j = with-other a i y j (λ q. ne (sym q)) in omega (arith, at, lt))
    ]
  ];
}

pub deeper_in : (s : Setting) (space : IndexSpace) (loops from len : List ℕ) (ops : List Op) (d k : ℕ) (a b : Assignment) → s.elements.extent ≡ extent_at space → d < length loops
    → k < get_or len d 0 → b ≡ with_number a (get_or loops d 0) (get_or from d 0 + k) → IsHere s space loops from len ops d a → IsHere s space loops from len ops (d + 1) b
deeper_in s space loops from len ops d k a b same low turn e h =
    let at = opened s space loops from len ops d a h (split space loops from len d h.ranges low) in
    subst (IsBodyIn s space (drop (d + 1) loops) (drop (d + 1) from) (drop (d + 1) len) ops) (sym e) (record {
      ranges = at.ranges.3;
      each = λ j o l. deeper s space (get_or loops d 0) (get_or from d 0 + k) (drop (d + 1) loops) a (get_or ops j o) same (omega (arith, at.ranges.2, turn)) (at.each j o l);
    })

pub here_later : (x y : Workspace) (loops from len : List ℕ) (ops : List Op) (d : ℕ) (a : Assignment) → IsPrepared x → IsKept x y
    → IsHere (setting_in x) x.places.space loops from len ops d a → IsHere (setting_in y) x.places.space loops from len ops d a
here_later x y loops from len ops d a is kept h = subst (λ s. IsHere s x.places.space loops from len ops d a) (sym (kept_setting x y is.cache kept)) h

-- at the numbers of all loops each operation stands
pub all_here : (s : Setting) (space : IndexSpace) (loops from len : List ℕ) (ops : List Op) (d : ℕ) (a : Assignment) → d ≡ length loops → IsHere s space loops from len ops d a
    → All (IsOperationAt s a) ops
all_here s space loops from len ops d a e h = λ j o l.
    let at = h.each j o l in record {
      node = at.node;
      alone = at.alone;
      at = record {
        known = at.known;
        inside = λ i m. elim (at.inside i m) [
          | inl t ↦ absurd (false≢true (sym (ap (λ ls. among ls i) none) ∙ t))
          | inr lt ↦ lt
        ];
      };
    }
  where
    empty : (xs : List ℕ) → length xs ≡ 0 → xs ≡ []
    empty [] e = refl
    empty (x ∷ xs) e = absurd (omega (arith, e))

    none : drop d loops ≡ []
    none = empty (drop d loops) (omega (arith, length-drop d loops, e))

none_left : (d : ℕ) (xs : List ℕ) → length xs ≤ d → drop d xs ≡ []
none_left d xs l = empty (drop d xs) (omega (arith, length-drop d xs, l))
  where
    empty : (ys : List ℕ) → length ys ≡ 0 → ys ≡ []
    empty [] e = refl
    empty (y ∷ ys) e = absurd (omega (arith, e))

-- past the last loop the body runs once
pub ran_once : (x y : Workspace) (loops from len : List ℕ) (ops : List Op) (d : ℕ) (a : Assignment) → d ≡ length loops → IsHere (setting_in x) x.places.space loops from len ops d a
    → IsChanged (λ state. exec (setting_in x) (program_of ops) state a) (3 * length ops) x y
    → IsChanged (λ state. exec_along (setting_in x) (program_of ops) (drop d loops) (drop d from) (drop d len) state a) (touches_along (drop d len) ops) x y
ran_once x y loops from len ops d a e h changed =
    let long = ranges_long x.places.space (drop d loops) (drop d from) (drop d len) h.ranges in
    let l : drop d loops ≡ [] = none_left d loops (omega (arith, e)) in
    let n : drop d len ≡ [] = empty (drop d len) (long.1 ∙ ap length l) in
    let count : touches_along (drop d len) ops ≡ 3 * length ops = ap (λ ns. touches_along ns ops) n ∙ omega arith in
    subst (λ t. IsChanged (λ state. exec_along (setting_in x) (program_of ops) (drop d loops) (drop d from) (drop d len) state a) t x y) (sym count)
    (subst (λ ls. IsChanged (λ state. exec_along (setting_in x) (program_of ops) ls (drop d from) (drop d len) state a) (3 * length ops) x y) (sym l) changed)
  where
    empty : (ys : List ℕ) → length ys ≡ 0 → ys ≡ []
    empty [] e = refl
    empty (y ∷ ys) e = absurd (omega (arith, e))

pub once_few : (t : ℕ) (loops from len : List ℕ) (ops : List Op) (d : ℕ) (s : Setting) (space : IndexSpace) (a : Assignment) → d ≡ length loops → IsHere s space loops from len ops d a
    → t + touches_along (drop d len) ops ≤ 2 ^ 100 → t + 3 * length ops ≤ 2 ^ 100
once_few t loops from len ops d s space a e h few =
    let long = ranges_long space (drop d loops) (drop d from) (drop d len) h.ranges in
    let n : drop d len ≡ [] = empty (drop d len) (long.1 ∙ ap length (none_left d loops (omega (arith, e)))) in
    let count : touches_along (drop d len) ops ≡ 3 * length ops = ap (λ ns. touches_along ns ops) n ∙ omega arith in
    omega (arith, few, count)
  where
    empty : (ys : List ℕ) → length ys ≡ 0 → ys ≡ []
    empty [] e = refl
    empty (y ∷ ys) e = absurd (omega (arith, e))

-- what a turn of a loop does, and so many of them
abbrev pub turn : Setting → List Op → List ℕ → List ℕ → List ℕ → ℕ → Assignment → ℕ → State → State
turn s ops loops from len d a =
    λ x before. exec_along s (program_of ops) (drop (d + 1) loops) (drop (d + 1) from) (drop (d + 1) len) before (with_number a (get_or loops d 0) (get_or from d 0 + x))

pub record AreTurnsOf (x y : Workspace) (ops : List Op) (loops from len : List ℕ) (d k : ℕ) (a : Assignment) : Type 0 where
  pub kept : IsKept x y
  pub changed : IsChanged (λ state. repeated k (turn (setting_in x) ops loops from len d a) state) (k * touches_along (drop (d + 1) len) ops) x y

pub no_turn : (x : Workspace) (ops : List Op) (loops from len : List ℕ) (d : ℕ) (a : Assignment) → IsPrepared x → AreTurnsOf x x ops loops from len d 0 a
no_turn x ops loops from len d a is = record {
  kept = kept_own x;
  changed = subst (λ n. IsChanged (λ state. repeated 0 (turn (setting_in x) ops loops from len d a) state) n x x) (nothing (touches_along (drop (d + 1) len) ops)) (unchanged x is);
}
  where
    nothing : (t : ℕ) → 0 ≡ 0 * t
    nothing t = omega arith

pub next_turn : (x y z : Workspace) (ops : List Op) (loops from len : List ℕ) (d k : ℕ) (a b : Assignment) → IsPrepared x → AreTurnsOf x y ops loops from len d k a
    → b ≡ with_number a (get_or loops d 0) (get_or from d 0 + k) → IsKept y z
    → IsChanged (λ state. exec_along (setting_in y) (program_of ops) (drop (d + 1) loops) (drop (d + 1) from) (drop (d + 1) len) state b) (touches_along (drop (d + 1) len) ops) y z
    → AreTurnsOf x z ops loops from len d (k + 1) a
next_turn x y z ops loops from len d k a b is h e kept changed =
    let s : Setting = setting_in x in
    let t : ℕ = touches_along (drop (d + 1) len) ops in
    let same : setting_in y ≡ s = kept_setting x y is.cache h.kept in
    let now : IsChanged (turn s ops loops from len d a k) t y z =
    subst (λ c. IsChanged (λ state. exec_along s (program_of ops) (drop (d + 1) loops) (drop (d + 1) from) (drop (d + 1) len) state c) t y z) e
    (subst (λ q. IsChanged (λ state. exec_along q (program_of ops) (drop (d + 1) loops) (drop (d + 1) from) (drop (d + 1) len) state b) t y z) same changed) in
    record {
      kept = kept_on x y z h.kept kept;
      changed = changed_as (λ state. turn s ops loops from len d a k (repeated k (turn s ops loops from len d a) state)) (λ state. repeated (k + 1) (turn s ops loops from len d a) state) ((k + 1) * t) x z
          (λ state told. ap (λ n. repeated n (turn s ops loops from len d a) state) (sym (add-one k)))
          (changed_twice (k * t) t ((k + 1) * t) (λ state. repeated k (turn s ops loops from len d a) state) (turn s ops loops from len d a k) x y z (omega arith) h.kept h.changed now);
    }

product_more : (n t : ℕ) (ns : List ℕ) → product (n ∷ ns) * t ≡ n * (product ns * t)
product_more n t ns = mul_assoc n (product ns) t

along_more : (len : List ℕ) (ops : List Op) (d : ℕ) → drop d len ≡ get_or len d 0 ∷ drop (d + 1) len
    → touches_along (drop d len) ops ≡ get_or len d 0 * touches_along (drop (d + 1) len) ops
along_more len ops d e = ap (λ ns. touches_along ns ops) e ∙ product_more (get_or len d 0) (3 * length ops) (drop (d + 1) len)

pub all_turns : (x y : Workspace) (ops : List Op) (loops from len : List ℕ) (d k : ℕ) (a : Assignment) → IsSplit loops from len d → k ≡ get_or len d 0 → AreTurnsOf x y ops loops from len d k a
    → IsChanged (λ state. exec_along (setting_in x) (program_of ops) (drop d loops) (drop d from) (drop d len) state a) (touches_along (drop d len) ops) x y
all_turns x y ops loops from len d k a at e h =
    let s : Setting = setting_in x in
    let p : Program = program_of ops in
    let t : ℕ = touches_along (drop (d + 1) len) ops in
    let done : IsChanged (λ state. repeated (get_or len d 0) (turn s ops loops from len d a) state) (get_or len d 0 * t) x y =
    subst (λ n. IsChanged (λ state. repeated n (turn s ops loops from len d a) state) (n * t) x y) e h.changed in
    subst (λ n. IsChanged (λ state. exec_along s p (drop d loops) (drop d from) (drop d len) state a) n x y) (sym (along_more len ops d at.len_are))
    (changed_as (λ state. exec_along s p (get_or loops d 0 ∷ drop (d + 1) loops) (get_or from d 0 ∷ drop (d + 1) from) (get_or len d 0 ∷ drop (d + 1) len) state a)
    (λ state. exec_along s p (drop d loops) (drop d from) (drop d len) state a) (get_or len d 0 * t) x y
    (λ state told.
    ap (λ l. exec_along s p l (get_or from d 0 ∷ drop (d + 1) from) (get_or len d 0 ∷ drop (d + 1) len) state a) (sym at.loops_are)
    ∙ ap (λ f. exec_along s p (drop d loops) f (get_or len d 0 ∷ drop (d + 1) len) state a) (sym at.from_are)
    ∙ ap (λ n. exec_along s p (drop d loops) (drop d from) n state a) (sym at.len_are))
    done)

pub turn_few : (x y : Workspace) (ops : List Op) (loops from len : List ℕ) (d k : ℕ) (a : Assignment) → IsSplit loops from len d → k < get_or len d 0 → AreTurnsOf x y ops loops from len d k a
    → x.cache.touches + touches_along (drop d len) ops ≤ 2 ^ 100 → y.cache.touches + touches_along (drop (d + 1) len) ops ≤ 2 ^ 100
turn_few x y ops loops from len d k a at low h few =
    let t : ℕ = touches_along (drop (d + 1) len) ops in
    let more : (k + 1) * t ≤ get_or len d 0 * t = mul-le-mul_right t (omega (arith, low)) in
    omega (arith, more, few, h.changed.few, along_more len ops d at.len_are)

-- numbers that are set again
pub set_number : (numbers mid : List ℕ) (i y : ℕ) → i < length numbers → ((z : ℕ) → set mid i z ≡ set numbers i z) → assignment_of (set mid i y) ≡ with_number (assignment_of numbers) i y
set_number numbers mid i y low same = ap assignment_of (same y) ∙ assignment-set numbers i y low

pub set_on : (numbers mid : List ℕ) (i y : ℕ) → ((z : ℕ) → set mid i z ≡ set numbers i z) → (z : ℕ) → set (set mid i y) i z ≡ set numbers i z
set_on numbers mid i y same z = set-set mid i y z ∙ same z

pub set_back : (numbers mid : List ℕ) (i : ℕ) → ((z : ℕ) → set mid i z ≡ set numbers i z) → set mid i (get_or numbers i 0) ≡ numbers
set_back numbers mid i same = same (get_or numbers i 0) ∙ set-get_or numbers i 0

-- ---- a whole block

ranges_of : (space : IndexSpace) (loops fs ls : List ℕ) → ((i : ℕ) → among loops i ≡ true → i < length space.indexes)
    → AreParts (map (extent_at space) loops) (map (edge_at space) loops) fs ls → AreRanges space loops fs ls
ranges_of space [] [] [] known h = tt
ranges_of space [] [] (l ∷ ls) known h = absurd h
ranges_of space [] (f ∷ fs) ls known h = absurd h
ranges_of space (i ∷ is) [] ls known h = absurd h
ranges_of space (i ∷ is) (f ∷ fs) [] known h = absurd h
ranges_of space (i ∷ is) (f ∷ fs) (l ∷ ls) known h = (
  known i (rw (eq-eqb i i refl) refl),
  h.0,
  h.2,
  ranges_of space is fs ls (λ j m. elim (cases_eq i j) [
    | inl e ↦ known j (rw (eq-eqb i j e) refl)
    | inr ne ↦ known j (rw (ne_eqb i j ne) m)
  ]) h.3,
)

pub body_in : (s : Setting) (space : IndexSpace) (loops : List ℕ) (ops : List Op) (part : Part) (a : Assignment) → IsSpace space → IsBodyAt space s loops ops part a
    → IsBodyIn s space loops part.from part.len ops a
body_in s space loops ops part a is h = record {
  ranges = ranges_of space loops part.from part.len h.declared
      (fit_the_box (map (extent_at space) loops) (map (edge_at space) loops) (record {
        same_rank = same_lengths (edge_at space) (extent_at space) loops;
        positive = all_positive (edge_at space) loops (λ i m. (index_limits space i is (h.declared i m)).edge_some);
      }) h.number part h.block);
  each = h.each;
}
