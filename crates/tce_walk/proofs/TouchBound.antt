-- The bound on touches is small: no more than three touches for each operation at each assignment of its node's loops.
use Rattle.std.proofs.Common.{◌≡◌, ℕ, zero, suc, ◌+◌, ◌*◌, ◌^◌, ◌<◌, ◌≤◌, true, Option, Some, None, List, [], ◌∷◌, ◌++◌, map, refl, sym, ap, ap₂, ◌∙◌, inl, inr, arith}
use Rattle.std.proofs.Math.Nat.{mul-le-mul, mul-le-mul_left}
use Rattle.std.proofs.lemmas.Bool.{cases_Bool, cases_eq, eq-eqb, ne_eqb, false≢true}
use Rattle.std.proofs.lemmas.List.{map-append}
use Rattle.std.specs.Int.{div_ceil}
use Rattle.std.specs.Option.{option_map}
use Rattle.tce_space.specs.Box.{product}
use Rattle.tce_space.specs.Space.{IndexSpace, IsSpace, extent_at, edge_at}
use Rattle.tce_space.proofs.Products.{product-append}
use Rattle.tce_space.proofs.Spaces.{index_limits}
use Rattle.tce_tree.specs.ContractionTree.{ContractionTree, operations, node_loops}
use Rattle.tce_tree.specs.Fusion.{OrdersFit, order_at}
use Rattle.tce_tree.specs.Measure.{IsMeasured}
use Rattle.tce_tree.proofs.NamedIndexes.{node_loops_declared}
use Rattle.tce_block.proofs.Cover.{least}
use Rattle.tce_code.specs.Plan.{Plan}
use Rattle.tce_code.specs.Program.{Action, Program, stop, step, loop, clear, compute, accumulate, program_of}
use Rattle.tce_code.specs.Shape.{EachAction, ActionFits, IsLoop, times_computed}
use Rattle.tce_code.proofs.Once.{one_at}
use Rattle.tce_walk.specs.TailLaws.{TouchesAreFew}
use Rattle.tce_walk.specs.Tails.{is_stop, is_tail_action, tail_loops, reads_constant}
use Rattle.tce_walk.specs.Touches.{block_count, tail_touches, touch_bound}
use Rattle.tce_walk.proofs.TailParts.{order-volume}

-- how many operations are met
abbrev turns : (ℕ → ℕ) → Program → ℕ
turns extent stop = 0
turns extent (step (clear v) rest) = turns extent rest
turns extent (step (compute op v) rest) = 1 + turns extent rest
turns extent (step (accumulate v) rest) = 1 + turns extent rest
turns extent (loop i body rest) = extent i * turns extent body + turns extent rest

-- the loops are over indexes with an edge
abbrev HasEdges : IndexSpace → Program → Type 0
HasEdges space stop = Unit {0}
HasEdges space (step action rest) = HasEdges space rest
HasEdges space (loop i body rest) = (0 < edge_at space i) × HasEdges space body × HasEdges space rest

blocks_within : (n e : ℕ) → 0 < e → div_ceil n e ≤ n
blocks_within n e some = least n e n some (scaled n e some)
  where
    scaled : (n e : ℕ) → 0 < e → n ≤ n * e
    scaled n e some = let k = mul-le-mul_left {m = 1} {n = e} n some in omega arith

-- a tail has an operation
action-turns : (tree : ContractionTree) (space : IndexSpace) (action : Action) (rest : Program) → is_tail_action tree (step action rest) ≡ true
    → 1 ≤ turns (extent_at space) (step action rest)
action-turns tree space (clear v) rest h = absurd (false≢true h)
action-turns tree space (compute op v) rest h = omega arith
action-turns tree space (accumulate v) rest h = omega arith

tail-turns : (tree : ContractionTree) (space : IndexSpace) (program : Program) (order : List ℕ) → HasEdges space program → tail_loops tree program ≡ Some order
    → block_count space order ≤ turns (extent_at space) program
tail-turns tree space stop order h e = absurd (let k : ⊥ = cc in k)
tail-turns tree space (step action rest) order h e =
    elim (cases_Bool (is_tail_action tree (step action rest))) [
      | inl t ↦ of_action (rw t at e) (action-turns tree space action rest t)
      | inr f ↦ absurd (differs (rw f at e))
    ]
  where
    differs : None ≡ Some order → ⊥
    differs q = cc

    of_action : Some [] ≡ Some order → 1 ≤ turns (extent_at space) (step action rest) → block_count space order ≤ turns (extent_at space) (step action rest)
    of_action q l = let same : [] ≡ order = cc in omega (arith, l, ap (block_count space) same)
tail-turns tree space (loop i body rest) order h e =
    elim (cases_Bool (is_stop rest)) [
      | inl t ↦ inside (λ os is. tail-turns tree space body os h.1 is) (tail_loops tree body) refl (rw t at e)
      | inr f ↦ absurd (differs (rw f at e))
    ]
  where
    differs : None ≡ Some order → ⊥
    differs q = cc

    inside : ((os : List ℕ) → tail_loops tree body ≡ Some os → block_count space os ≤ turns (extent_at space) body)
        → (found : Option (List ℕ)) → tail_loops tree body ≡ found → option_map (λ os. i ∷ os) found ≡ Some order
        → block_count space order ≤ extent_at space i * turns (extent_at space) body + turns (extent_at space) rest
    inside below None is q = absurd (differs q)
    inside below (Some os) is q =
        let same : i ∷ os ≡ order = cc in
        let within = mul-le-mul (blocks_within (extent_at space i) (edge_at space i) h.0) (below os is) in
        omega (arith, within, ap (block_count space) same)

scale : (c a b : ℕ) → a ≤ 3 * b → c * a ≤ 3 * (c * b)
scale c a b l = let k = mul-le-mul_left c l in omega arith

bound-turns : (tree : ContractionTree) (space : IndexSpace) (program : Program) → HasEdges space program
    → touch_bound space tree program ≤ 3 * turns (extent_at space) program
bound-turns tree space stop h = omega arith
bound-turns tree space (step (clear v) rest) h = bound-turns tree space rest h
bound-turns tree space (step (compute op v) rest) h = omega (arith, bound-turns tree space rest h)
bound-turns tree space (step (accumulate v) rest) h = omega (arith, bound-turns tree space rest h)
bound-turns tree space (loop i body rest) h =
    elim (cases_Bool (reads_constant tree body)) [
      | inl t ↦ rw t (both (extent_at space i * touch_bound space tree body) (turned (bound-turns tree space body h.1)) (bound-turns tree space rest h.2))
      | inr f ↦ rw f
          (both (tail_touches space (tail_loops tree (loop i body stop)) (extent_at space i * touch_bound space tree body))
          (tail (turned (bound-turns tree space body h.1)) (tail_loops tree (loop i body stop)) refl) (bound-turns tree space rest h.2))
    ]
  where
    turned : touch_bound space tree body ≤ 3 * turns (extent_at space) body
        → extent_at space i * touch_bound space tree body ≤ 3 * (extent_at space i * turns (extent_at space) body)
    turned l = scale (extent_at space i) (touch_bound space tree body) (turns (extent_at space) body) l

    both : (n : ℕ) → n ≤ 3 * (extent_at space i * turns (extent_at space) body) → touch_bound space tree rest ≤ 3 * turns (extent_at space) rest
        → n + touch_bound space tree rest ≤ 3 * (extent_at space i * turns (extent_at space) body + turns (extent_at space) rest)
    both n l k = omega (arith, l, k)

    tail : extent_at space i * touch_bound space tree body ≤ 3 * (extent_at space i * turns (extent_at space) body)
        → (found : Option (List ℕ)) → tail_loops tree (loop i body stop) ≡ found
        → tail_touches space found (extent_at space i * touch_bound space tree body) ≤ 3 * (extent_at space i * turns (extent_at space) body)
    tail l None is = l
    tail l (Some order) is = omega (arith, tail-turns tree space (loop i body stop) order (h.0, h.1, tt) is)

-- how many operations stand in a program
abbrev actions : Program → ℕ
actions stop = 0
actions (step (clear v) rest) = actions rest
actions (step (compute op v) rest) = 1 + actions rest
actions (step (accumulate v) rest) = 1 + actions rest
actions (loop i body rest) = actions body + actions rest

-- the loops round an operation have few turns together
abbrev IsFew : (ℕ → ℕ) → ℕ → Action → List ℕ → Type 0
IsFew extent most (clear v) opened = Unit {0}
IsFew extent most (compute op v) opened = product (map extent opened) ≤ most
IsFew extent most (accumulate v) opened = product (map extent opened) ≤ most

turns-actions : (extent : ℕ → ℕ) (most : ℕ) (program : Program) (opened : List ℕ) → EachAction (IsFew extent most) (λ i. Unit {0}) program opened
    → product (map extent opened) * turns extent program ≤ most * actions program
turns-actions extent most stop opened h = omega arith
turns-actions extent most (step (clear v) rest) opened h = turns-actions extent most rest opened h.1
turns-actions extent most (step (compute op v) rest) opened h = omega (arith, h.0, turns-actions extent most rest opened h.1)
turns-actions extent most (step (accumulate v) rest) opened h = omega (arith, h.0, turns-actions extent most rest opened h.1)
turns-actions extent most (loop i body rest) opened h =
    omega (arith, ap (λ n. n * turns extent body) more, turns-actions extent most body (opened ++ i ∷ []) h.1, turns-actions extent most rest opened h.2)
  where
    more : product (map extent (opened ++ i ∷ [])) ≡ product (map extent opened) * (extent i * 1)
    more = ap product (map-append extent opened (i ∷ [])) ∙ product-append (map extent opened) (extent i ∷ [])

-- the sum of a function below a bound
abbrev total : (ℕ → ℕ) → ℕ → ℕ
total f zero = 0
total f (suc n) = total f n + f n

total-plus : (f g : ℕ → ℕ) (n : ℕ) → total (λ u. f u + g u) n ≡ total f n + total g n
total-plus f g zero = refl
total-plus f g (suc n) = omega (arith, total-plus f g n)

total-none : (n : ℕ) → total (λ u. 0) n ≡ 0
total-none zero = refl
total-none (suc n) = omega (arith, total-none n)

total-past : (v n : ℕ) → n ≤ v → total (one_at v) n ≡ 0
total-past v zero l = refl
total-past v (suc n) l = omega (arith, total-past v n (omega arith), zero_there)
  where
    zero_there : one_at v n ≡ 0
    zero_there = rw (ne_eqb v n (λ q. omega arith)) refl

total-one : (v n : ℕ) → v < n → total (one_at v) n ≡ 1
total-one v zero l = absurd (omega arith)
total-one v (suc n) l =
    elim (cases_eq v n) [
      | inl e ↦ omega (arith, total-past v n (omega arith), here e)
      | inr e ↦ omega (arith, total-one v n (omega arith), other e)
    ]
  where
    here : v ≡ n → one_at v n ≡ 1
    here e = rw (eq-eqb v n e) refl

    other : (v ≡ n → ⊥) → one_at v n ≡ 0
    other e = rw (ne_eqb v n e) refl

total-each : (f : ℕ → ℕ) (n : ℕ) → ((u : ℕ) → u < n → f u ≡ 1) → total f n ≡ n
total-each f zero h = refl
total-each f (suc n) h = omega (arith, total-each f n (λ u l. h u (omega arith)), h n (omega arith))

actions-counted : (tree : ContractionTree) (plan : Plan) (program : Program) (opened : List ℕ) → EachAction (ActionFits tree plan) (IsLoop tree) program opened
    → total (times_computed program) (operations tree) ≡ actions program
actions-counted tree plan stop opened h = total-none (operations tree)
actions-counted tree plan (step (clear v) rest) opened h = actions-counted tree plan rest opened h.1
actions-counted tree plan (step (compute op v) rest) opened h =
    total-plus (one_at v) (times_computed rest) (operations tree)
    ∙ ap₂ (λ a b. a + b) (total-one v (operations tree) h.0.0) (actions-counted tree plan rest opened h.1)
actions-counted tree plan (step (accumulate v) rest) opened h =
    total-plus (one_at v) (times_computed rest) (operations tree)
    ∙ ap₂ (λ a b. a + b) (total-one v (operations tree) h.0.0) (actions-counted tree plan rest opened h.1)
actions-counted tree plan (loop i body rest) opened h =
    total-plus (times_computed body) (times_computed rest) (operations tree)
    ∙ ap₂ (λ a b. a + b) (actions-counted tree plan body (opened ++ i ∷ []) h.1) (actions-counted tree plan rest opened h.2)

code-few : (space : IndexSpace) (tree : ContractionTree) (plan : Plan) → IsMeasured space tree → OrdersFit tree plan.orders → (program : Program) (opened : List ℕ)
    → EachAction (ActionFits tree plan) (IsLoop tree) program opened → EachAction (IsFew (extent_at space) (2 ^ 90)) (λ i. Unit {0}) program opened
code-few space tree plan m fit stop opened h = tt
code-few space tree plan m fit (step (clear v) rest) opened h = (tt, code-few space tree plan m fit rest opened h.1)
code-few space tree plan m fit (step (compute op v) rest) opened h =
    (few h.0.0 h.0.2, code-few space tree plan m fit rest opened h.1)
  where
    few : v < operations tree → opened ≡ order_at plan.orders v → product (map (extent_at space) opened) ≤ 2 ^ 90
    few l e = omega (arith, ap (λ is. product (map (extent_at space) is)) e, order-volume space tree plan.orders fit v l, m.limit v l)
code-few space tree plan m fit (step (accumulate v) rest) opened h =
    (few h.0.0 h.0.2, code-few space tree plan m fit rest opened h.1)
  where
    few : v < operations tree → opened ≡ order_at plan.orders v → product (map (extent_at space) opened) ≤ 2 ^ 90
    few l e = omega (arith, ap (λ is. product (map (extent_at space) is)) e, order-volume space tree plan.orders fit v l, m.limit v l)
code-few space tree plan m fit (loop i body rest) opened h =
    (tt, code-few space tree plan m fit body (opened ++ i ∷ []) h.1, code-few space tree plan m fit rest opened h.2)

code-edges : (space : IndexSpace) (tree : ContractionTree) (plan : Plan) → IsSpace space → IsMeasured space tree → (program : Program) (opened : List ℕ)
    → EachAction (ActionFits tree plan) (IsLoop tree) program opened → HasEdges space program
unfolding node_loops
code-edges space tree plan s m stop opened h = tt
code-edges space tree plan s m (step action rest) opened h = code-edges space tree plan s m rest opened h.1
code-edges space tree plan s m (loop i body rest) opened h = (
  (index_limits space i s (node_loops_declared space tree h.0.0 h.0.1 s.index_limit m.declared i h.0.2)).edge_some,
  code-edges space tree plan s m body (opened ++ i ∷ []) h.1,
  code-edges space tree plan s m rest opened h.2,
)

pub touches_are_few : TouchesAreFew
touches_are_few space tree plan ops s m is_tree fit code =
    let counted = sym (actions-counted tree plan (program_of ops) [] code.shape) ∙ total-each (times_computed (program_of ops)) (operations tree) code.once in
    let met = turns-actions (extent_at space) (2 ^ 90) (program_of ops) [] (code-few space tree plan m fit (program_of ops) [] code.shape) in
    let bound = bound-turns tree space (program_of ops) (code-edges space tree plan s m (program_of ops) [] code.shape) in
    omega (arith, counted, met, bound, is_tree.limit, ap (λ n. 2 ^ 90 * n) counted)
