-- What a machine is asked at a tail, from what the code says there.
use Rattle.std.proofs.Common.{◌≡◌, ℕ, ◌+◌, ◌*◌, ◌^◌, ◌<◌, ◌≤◌, true, false, eqb, Option, Some, None, List, [], ◌∷◌, ◌++◌, map, length, refl, sym, ap, ◌∙◌, inl, inr, subst, arith, append_assoc, append-nil}
use Rattle.std.proofs.Math.Nat.{mul-le-mul_left}
use Rattle.std.proofs.lemmas.Bool.{cases_Bool, cases_eq, eq-eqb, ne_eqb, eqb-true, or_left, or_right, false≢true}
use Rattle.std.proofs.lemmas.List.{map-append}
use Rattle.tce_space.specs.Box.{product}
use Rattle.tce_space.specs.IndexSet.{has, members, volume}
use Rattle.tce_space.specs.Space.{IndexSpace, extent_at, volume_of}
use Rattle.tce_space.proofs.Products.{product-append, fold-product}
use Rattle.tce_tree.specs.ContractionTree.{ContractionTree, leaf, constant, binary, sum, operations, node, node_loops}
use Rattle.tce_tree.specs.Fusion.{OrdersFit, order_at}
use Rattle.tce_tree.specs.Value.{Assignment}
use Rattle.tce_tree.specs.WellFormed.{among, is_distinct}
use Rattle.tce_tree.proofs.Conditions.{order-has, order-distinct}
use Rattle.tce_tree.proofs.Lists.{distinct_first, distinct_later}
use Rattle.tce_tree.proofs.Members.{node_loops_lt}
use Rattle.tce_tree.proofs.Nodes.{size_bounds}
use Rattle.tce_tree.proofs.Permutations.{without, among-without_other, among-without_same, distinct-without, distinct-members, among-members}
use Rattle.tce_code.specs.Execution.{Setting, State}
use Rattle.tce_code.specs.Generation.{computing, followed_by}
use Rattle.tce_code.specs.Plan.{Plan}
use Rattle.tce_code.specs.Program.{Action, Program, stop, loop}
use Rattle.tce_code.specs.Shape.{EachAction, ActionFits, IsLoop}
use Rattle.tce_walk.specs.Tails.{loops_round, reads_constant}
use Rattle.tce_walk.specs.Touches.{touch_bound, tail_touches}
use Rattle.tce_walk.specs.Machine.{after, inside_tail, tail_program, joined_sum, operation_of_node, touches_of_tail, IsTailAt, IsJoinedTo}
use Rattle.tce_walk.specs.Run.{RunsOver, IsPart, IsRun}
use Rattle.tce_walk.specs.Search.{IsShaped, IsTailOf}
use Rattle.tce_walk.specs.declared.machine.Tail.{Tail}

pub part-shaped : (space : IndexSpace) (tree : ContractionTree) (i : ℕ) (body : Program) (a : Assignment) → IsPart space tree (loop i body stop) a → IsShaped tree body
part-shaped space tree i body a h = record { plan = h.plan; opened = h.opened ++ i ∷ []; shape = h.shape.1 }

-- lists of loops, one behind the other
pub among-behind : (xs ys : List ℕ) (i : ℕ) → among ys i ≡ true → among (xs ++ ys) i ≡ true
among-behind [] ys i h = h
among-behind (x ∷ xs) ys i h = or_right (eqb x i) (among (xs ++ ys) i) (among-behind xs ys i h)

pub among-front : (xs ys : List ℕ) (i : ℕ) → among (xs ++ ys) i ≡ true → among ys i ≡ false → among xs i ≡ true
among-front [] ys i h f = absurd (false≢true (sym f ∙ h))
among-front (x ∷ xs) ys i h f =
    elim (cases_eq x i) [
      | inl q ↦ rw (eq-eqb x i q) refl
      | inr q ↦ rw (ne_eqb x i q) (among-front xs ys i (rw (ne_eqb x i q) at h) f)
    ]

pub distinct-behind : (xs ys : List ℕ) → is_distinct (xs ++ ys) ≡ true → is_distinct ys ≡ true
distinct-behind [] ys h = h
distinct-behind (x ∷ xs) ys h = distinct-behind xs ys (distinct_later x (xs ++ ys) h)

-- the product over a list does not depend on its sequence
product-front : (f : ℕ → ℕ) (x : ℕ) (ys : List ℕ) → among ys x ≡ true → product (map f ys) ≡ f x * product (map f (without x ys))
product-front f x [] h = absurd (false≢true h)
product-front f x (y ∷ ys) h =
    elim (cases_Bool (eqb y x)) [
      | inl e ↦ rw e (ap (λ k. f k * product (map f ys)) (eqb-true y x e))
      | inr e ↦ rw e (ap (λ p. f y * p) (product-front f x ys (rw e at h)) ∙ swapped (f y) (f x) (product (map f (without x ys))))
    ]
  where
    swapped : (a b c : ℕ) → a * (b * c) ≡ b * (a * c)
    swapped a b c = omega arith

product-permuted : (f : ℕ → ℕ) (xs ys : List ℕ) → is_distinct xs ≡ true → is_distinct ys ≡ true → ((i : ℕ) → among xs i ≡ among ys i)
    → product (map f xs) ≡ product (map f ys)
product-permuted f [] [] d e h = refl
product-permuted f [] (y ∷ ys) d e h = absurd (false≢true (h y ∙ or_left (eqb y y) (among ys y) (eq-eqb y y refl)))
product-permuted f (x ∷ xs) ys d e h =
    ap (λ p. f x * p) (product-permuted f xs (without x ys) (distinct_later x xs d) (distinct-without x ys e)
    (λ i. elim (cases_eq i x) [
      | inl q ↦ ap (among xs) q ∙ distinct_first x xs d ∙ sym (among-without_same x ys e) ∙ ap (among (without x ys)) (sym q)
      | inr q ↦ (rw (ne_eqb x i (λ r. q (sym r))) at (h i)) ∙ sym (among-without_other x ys i q)
    ]))
    ∙ sym (product-front f x ys (sym (h x) ∙ or_left (eqb x x) (among xs x) (eq-eqb x x refl)))

pub order-volume : (space : IndexSpace) (tree : ContractionTree) (orders : List (List ℕ)) → OrdersFit tree orders → (v : ℕ) → v < operations tree
    → product (map (extent_at space) (order_at orders v)) ≡ volume_of space (node_loops tree v)
unfolding volume
order-volume space tree orders fit v h =
    product-permuted (extent_at space) (order_at orders v) (members (node_loops tree v)) (order-distinct tree orders fit v h) (distinct-members (node_loops tree v))
    (λ i. order-has tree orders fit v i h ∙ sym (among-members (node_loops tree v) i (node_loops_lt tree v)))
    ∙ sym (fold-product (extent_at space) (members (node_loops tree v)) 1 ∙ one (product (map (extent_at space) (members (node_loops tree v)))))
  where
    one : (n : ℕ) → 1 * n ≡ n
    one n = omega arith

-- a product of numbers above 0 is above 0
product-some : (f : ℕ → ℕ) (xs : List ℕ) → ((i : ℕ) → among xs i ≡ true → 0 < f i) → 0 < product (map f xs)
product-some f [] h = omega arith
product-some f (x ∷ xs) h =
    let here = h x (or_left (eqb x x) (among xs x) (eq-eqb x x refl)) in
    let later = product-some f xs (λ i m. h i (or_right (eqb x i) (among xs i) m)) in
    let k = mul-le-mul_left (f x) later in
    omega arith

factor-within : (a b c n : ℕ) → 0 < a → a * b ≡ c → c ≤ n → b ≤ n
factor-within a b c n l e h = let k = mul-le-mul_left b l in omega arith

pub behind-within : (f : ℕ → ℕ) (xs ys : List ℕ) (n : ℕ) → ((i : ℕ) → among xs i ≡ true → 0 < f i) → product (map f (xs ++ ys)) ≤ n → product (map f ys) ≤ n
behind-within f xs ys n h l =
    factor-within (product (map f xs)) (product (map f ys)) (product (map f (xs ++ ys))) n (product-some f xs h)
    (sym (ap product (map-append f xs ys) ∙ product-append (map f xs) (map f ys))) l

-- what stands inside loops stands inside these too
pub round-shape : (P : Action → List ℕ → Type 0) (Q : ℕ → Type 0) (order : List ℕ) (inside : Program) (opened : List ℕ)
    → EachAction P Q (loops_round order inside) opened → EachAction P Q inside (opened ++ order)
round-shape P Q [] inside opened h = subst (EachAction P Q inside) (sym (append-nil opened)) h
round-shape P Q (i ∷ order) inside opened h =
    subst (EachAction P Q inside) (append_assoc opened (i ∷ []) order) (round-shape P Q order inside (opened ++ i ∷ []) h.1)

own-order : (tree : ContractionTree) (plan : Plan) (c : ContractionTree) (v : ℕ) (rest : Program) (opened : List ℕ) → 0 < operations c
    → EachAction (ActionFits tree plan) (IsLoop tree) (followed_by (computing c v) rest) opened → opened ≡ order_at plan.orders v
own-order tree plan (leaf tensor indexes) v rest opened l h = absurd (omega arith)
own-order tree plan (constant number) v rest opened l h = absurd (omega arith)
own-order tree plan (binary op left right) v rest opened l h = h.0.2
own-order tree plan (sum indexes operand) v rest opened l h = h.0.2

-- what is asked of a tail, over a tree and extents
record IsTailOver (tree : ContractionTree) (extent : ℕ → ℕ) (tail : Tail) (a : Assignment) : Type 0 where
  known : tail.node < operations tree
  some : 0 < length tail.loops.0.items
  distinct : is_distinct tail.loops.0.items ≡ true
  loops : (j : ℕ) → among tail.loops.0.items j ≡ true → has (node_loops tree tail.node) j ≡ true
  inside : (j : ℕ) → has (node_loops tree tail.node) j ≡ true → among tail.loops.0.items j ≡ false → a j < extent j
  limit : product (map extent tail.loops.0.items) ≤ 2 ^ 90
  free : reads_constant tree (operation_of_node tree tail.node) ≡ false
  joined : IsJoinedTo tree tail.node tail.sum

loops-some : (tree : ContractionTree) (i : ℕ) (body : Program) (tail : Tail) → loop i body stop ≡ tail_program tree tail → 0 < length tail.loops.0.items
loops-some tree i body tail e = some tail.loops.0.items e
  where
    none : (c : ContractionTree) (v : ℕ) (joined : Option ℕ) → loop i body stop ≡ followed_by (computing c v) (joined_sum joined) → ⊥
    none (leaf tensor indexes) v None q = cc
    none (leaf tensor indexes) v (Some u) q = cc
    none (constant number) v None q = cc
    none (constant number) v (Some u) q = cc
    none (binary op left right) v joined q = cc
    none (sum indexes operand) v joined q = cc

    some : (order : List ℕ) → loop i body stop ≡ loops_round order (inside_tail tree tail.node tail.sum) → 0 < length order
    some [] q = absurd (none (node tree tail.node) tail.node tail.sum q)
    some (x ∷ order) q = omega arith

tail-record : (space : IndexSpace) (tree : ContractionTree) (s : Setting) (a : Assignment) (tail : Tail) {i : ℕ} {body : Program} → tree ≡ s.tree → s.elements.extent ≡ extent_at space
    → IsTailOf tree i body tail → is_distinct tail.loops.0.items ≡ true → ((j : ℕ) → among tail.loops.0.items j ≡ true → has (node_loops tree tail.node) j ≡ true)
    → ((j : ℕ) → has (node_loops tree tail.node) j ≡ true → among tail.loops.0.items j ≡ false → a j < extent_at space j)
    → product (map (extent_at space) tail.loops.0.items) ≤ 2 ^ 90 → 0 < length tail.loops.0.items → IsTailAt s tail a
tail-record space tree s a tail {i} {body} same e t distinct loops inside limit some =
    let all : IsTailOver tree (extent_at space) tail a = record {
      known = t.known;
      some = some;
      distinct = distinct;
      loops = loops;
      inside = inside;
      limit = limit;
      free = t.own;
      joined = t.joins;
    } in
    let turned : IsTailOver s.tree s.elements.extent tail a = subst (λ f. IsTailOver s.tree f tail a) (sym e) (subst (λ c. IsTailOver c (extent_at space) tail a) same all) in
    record {
      known = turned.known;
      some = turned.some;
      distinct = turned.distinct;
      loops = turned.loops;
      inside = turned.inside;
      limit = turned.limit;
      free = turned.free;
      joined = turned.joined;
    }

pub tail-asks : (space : IndexSpace) (tree : ContractionTree) (own : IndexSpace) (s : Setting) (i : ℕ) (body : Program) (a : Assignment) (tail : Tail) → RunsOver space tree own s
    → IsPart space tree (loop i body stop) a → IsTailOf tree i body tail → IsTailAt s tail a
tail-asks space tree own s i body a tail over h t =
    let order : List ℕ = tail.loops.0.items in
    let shape = round-shape (ActionFits tree h.plan) (IsLoop tree) order (inside_tail tree tail.node tail.sum) h.opened
    (subst (λ p. EachAction (ActionFits tree h.plan) (IsLoop tree) p h.opened) t.is h.shape) in
    let whole : h.opened ++ order ≡ order_at h.plan.orders tail.node =
    own-order tree h.plan (node tree tail.node) tail.node (joined_sum tail.sum) (h.opened ++ order) (size_bounds tree tail.node t.known).0 shape in
    let has-all : (j : ℕ) → among (h.opened ++ order) j ≡ has (node_loops tree tail.node) j =
    λ j. ap (λ xs. among xs j) whole ∙ order-has tree h.plan.orders h.fit tail.node j t.known in
    let behind : (f : ℕ → ℕ) (n : ℕ) → ((j : ℕ) → among h.opened j ≡ true → 0 < f j) → product (map f (h.opened ++ order)) ≤ n → product (map f order) ≤ n =
    λ f n. behind-within f h.opened order n in
    let volume : product (map (extent_at space) (h.opened ++ order)) ≤ 2 ^ 90 =
    omega (arith, ap (λ xs. product (map (extent_at space) xs)) whole, order-volume space tree h.plan.orders h.fit tail.node t.known, over.measured.limit tail.node t.known) in
    tail-record space tree s a tail (sym over.tree_is) over.extents t
    (distinct-behind h.opened order (ap is_distinct whole ∙ order-distinct tree h.plan.orders h.fit tail.node t.known))
    (λ j m. sym (has-all j) ∙ among-behind h.opened order j m)
    (λ j m f. h.inside j (among-front h.opened order j (has-all j ∙ m) f))
    (behind (extent_at space) (2 ^ 90) (λ j m. let l = h.inside j m in omega arith) volume)
    (loops-some tree i body tail t.is)

-- a tail has the touches of its blocks
pub tail-bound : (space : IndexSpace) (tree : ContractionTree) (i : ℕ) (body : Program) (tail : Tail) → IsTailOf tree i body tail
    → touch_bound space tree (loop i body stop) ≡ touches_of_tail space tail
tail-bound space tree i body tail t =
    rw t.free (omega (arith, ap (λ found. tail_touches space found (extent_at space i * touch_bound space tree body)) t.loops))

pub tail-few : (space : IndexSpace) (tree : ContractionTree) (own : IndexSpace) (s : Setting) (i : ℕ) (body : Program) (tail : Tail) (t : ℕ) → RunsOver space tree own s
    → IsTailOf tree i body tail → t + touch_bound space tree (loop i body stop) ≤ 2 ^ 100 → t + touches_of_tail own tail ≤ 2 ^ 100
tail-few space tree own s i body tail t over h l = omega (arith, tail-bound space tree i body tail h, ap (λ o. touches_of_tail o tail) over.space_is)

pub tail-run : (space : IndexSpace) (tree : ContractionTree) (own : IndexSpace) (s : Setting) (i : ℕ) (body : Program) (tail : Tail) (a : Assignment)
    (before now : Option State) (t u : ℕ) → RunsOver space tree own s → IsTailOf tree i body tail → now ≡ after s (tail_program s.tree tail) a before
    → u ≤ t + touches_of_tail own tail → IsRun space tree s (loop i body stop) a before now t u
tail-run space tree own s i body tail a before now t u over h e l = record {
  state = e ∙ ap (λ c. after s (tail_program c tail) a before) over.tree_is ∙ sym (ap (λ p. after s p a before) h.is);
  touches = omega (arith, l, tail-bound space tree i body tail h, ap (λ o. touches_of_tail o tail) over.space_is);
}
