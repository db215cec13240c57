-- Each node is computed once.
use Rattle.std.proofs.Common.{◌≡◌, ℕ, zero, suc, ◌+◌, ◌-◌, ◌<◌, ◌≤◌, ◌⊎◌, ◌==◌, true, false, List, [], ◌∷◌, length, drop, if◌then◌else◌, refl, sym, ap, ap₂, ◌∙◌, inl, inr, subst, arith, length-drop}
use Rattle.std.proofs.lemmas.Bool.{true≢false, ne_eqb, cases_Bool, cases_lt, cases_eq, eq-eqb}
use Rattle.tce_space.specs.IndexSet.{count}
use Rattle.tce_tree.specs.ContractionTree.{ContractionTree, leaf, constant, binary, sum, is_leaf, operations}
use Rattle.tce_tree.specs.Fusion.{fused_at, order_at}
use Rattle.tce_tree.proofs.Nodes.{operations-leaf, node-positive}
use Rattle.tce_code.specs.Program.{clear, compute, accumulate, Program, stop, step, loop}
use Rattle.tce_code.specs.Generation.{followed_by, nest, computing, loops_from, clearing, operand_code, inner_code, code_of}
use Rattle.tce_code.specs.Plan.{Plan}
use Rattle.tce_code.specs.Shape.{times_computed}
use Rattle.tce_code.proofs.Settled.{operand-here, operand-above, operand-past, operand-leaf}
use Rattle.tce_code.proofs.Readings.{OperandFits, Fits}

times-followed_by : (p q : Program) (u : ℕ) → times_computed (followed_by p q) u ≡ times_computed p u + times_computed q u
times-followed_by stop q u = omega arith
times-followed_by (step (clear v) rest) q u = times-followed_by rest q u
times-followed_by (step (compute op v) rest) q u = omega (arith, times-followed_by rest q u)
times-followed_by (step (accumulate v) rest) q u = omega (arith, times-followed_by rest q u)
times-followed_by (loop i body rest) q u = omega (arith, times-followed_by rest q u)

-- the sum of `n` numbers from `d` on
abbrev total : (ℕ → ℕ) → ℕ → ℕ → ℕ
total f d zero = 0
total f d (suc n) = f d + total f (suc d) n

total-same : (f g : ℕ → ℕ) (d n : ℕ) → ((e : ℕ) → d ≤ e → e < d + n → f e ≡ g e) → total f d n ≡ total g d n
total-same f g d zero h = refl
total-same f g d (suc n) h = ap₂ (λ x y. x + y) (h d (omega arith) (omega arith)) (total-same f g (suc d) n (λ e l m. h e (omega arith) (omega arith)))

total-zero : (f : ℕ → ℕ) (d n : ℕ) → ((e : ℕ) → d ≤ e → f e ≡ 0) → total f d n ≡ 0
total-zero f d zero h = refl
total-zero f d (suc n) h = omega (arith, h d (omega arith), total-zero f (suc d) n (λ e l. h e (omega arith)))

total-plus : (f g : ℕ → ℕ) (d n : ℕ) → total (λ e. f e + g e) d n ≡ total f d n + total g d n
total-plus f g d zero = refl
total-plus f g d (suc n) = omega (arith, total-plus f g (suc d) n)

total-split : (f : ℕ → ℕ) (d m n : ℕ) → total f d (m + n) ≡ total f d m + total f (d + m) n
total-split f d zero n = ap (total f d) left ∙ ap (λ k. total f k n) right ∙ more (total f (d + 0) n)
  where
    left : 0 + n ≡ n
    left = omega arith

    right : d ≡ d + 0
    right = omega arith

    more : (x : ℕ) → x ≡ 0 + x
    more x = omega arith
total-split f d (suc m) n = ap (total f d) more ∙ omega (arith, total-split f (suc d) m n, ap (λ k. total f k n) shift)
  where
    more : suc m + n ≡ suc (m + n)
    more = omega arith

    shift : suc d + m ≡ d + suc m
    shift = omega arith

times-nest : (inner : ℕ → Program) (depth : ℕ) (order : List ℕ) (last : Program) (u : ℕ)
    → times_computed (nest inner depth order last) u
    ≡ total (λ e. times_computed (inner e) u) depth (suc (length order)) + times_computed last u
times-nest inner depth [] last u = omega (arith, times-followed_by (inner depth) last u)
times-nest inner depth (i ∷ order) last u =
    omega (arith, times-followed_by (inner depth) (loop i (nest inner (suc depth) order last) stop) u, times-nest inner (suc depth) order last u)

abbrev pub one_at : ℕ → ℕ → ℕ
one_at v u = if v == u then 1 else 0

times-computing : (c : ContractionTree) (v u : ℕ) → is_leaf c ≡ false → times_computed (computing c v) u ≡ one_at v u
times-computing (leaf tensor indexes) v u n = absurd (true≢false n)
times-computing (constant number) v u n = absurd (true≢false n)
times-computing (binary op left right) v u n = omega arith
times-computing (sum indexes operand) v u n = omega arith

times-clearing : (c : ContractionTree) (v u : ℕ) → times_computed (clearing c v) u ≡ 0
times-clearing (leaf tensor indexes) v u = refl
times-clearing (constant number) v u = refl
times-clearing (binary op left right) v u = refl
times-clearing (sum indexes operand) v u = refl

-- over all depths an operand is computed once, and its inside as often as its own loops compute it
operand-times : (plan : Plan) (c : ContractionTree) (v : ℕ) (inner : ℕ → Program) (m u : ℕ) → is_leaf c ≡ false
    → count (fused_at plan.fusion v) ≤ length (order_at plan.orders v) → count (fused_at plan.fusion v) ≤ m
    → total (λ e. times_computed (operand_code plan c v inner e) u) 0 (suc m)
    ≡ total (λ e. times_computed (inner e) u) 0 (suc (length (order_at plan.orders v))) + one_at v u
operand-times plan c v inner m u n low high =
    let k = count (fused_at plan.fusion v) in
    let f : ℕ → ℕ = λ e. times_computed (operand_code plan c v inner e) u in
    let g : ℕ → ℕ = λ e. times_computed (inner e) u in
    let split : suc m ≡ count (fused_at plan.fusion v) + suc (m - count (fused_at plan.fusion v)) = omega arith in
    let all : total f 0 (suc m) ≡ total f 0 k + total f (0 + k) (suc (m - k)) = ap (total f 0) split ∙ total-split f 0 k (suc (m - k)) in
    let start : 0 + k ≡ k = omega arith in
    let second : total f (0 + k) (suc (m - k)) ≡ total f k (suc (m - k)) = ap (λ d. total f d (suc (m - k))) start in
    let before : total f 0 k ≡ total g 0 k = total-same f g 0 k (λ e l j. ap (λ p. times_computed p u) (operand-above plan c v inner e n (omega arith))) in
    let after : total f (suc k) (m - k) ≡ 0 = total-zero f (suc k) (m - k) (λ e l. ap (λ p. times_computed p u) (operand-past plan c v inner e (omega arith))) in
    let here : f k ≡ times_computed (followed_by (clearing c v) (loops_from plan c v inner k)) u = ap (λ p. times_computed p u) (operand-here plan c v inner k n refl) in
    let parts = times-followed_by (clearing c v) (loops_from plan c v inner k) u in
    let none = times-clearing c v u in
    let loops = times-nest inner k (drop k (order_at plan.orders v)) (computing c v) u in
    let last = times-computing c v u n in
    let own : total g 0 (suc (length (order_at plan.orders v))) ≡ total g 0 k + total g (0 + k) (suc (length (drop k (order_at plan.orders v)))) =
    (let whole : suc (length (order_at plan.orders v)) ≡ k + suc (length (drop k (order_at plan.orders v))) = omega (arith, length-drop k (order_at plan.orders v)) in
    ap (total g 0) whole ∙ total-split g 0 k (suc (length (drop k (order_at plan.orders v))))) in
    let from : total g (0 + k) (suc (length (drop k (order_at plan.orders v)))) ≡ total g k (suc (length (drop k (order_at plan.orders v)))) =
    ap (λ d. total g d (suc (length (drop k (order_at plan.orders v))))) start in
    all ∙ (ap₂ (λ x y. x + y) before (second ∙ ap₂ (λ x y. x + y) (here ∙ parts ∙ ap₂ (λ x y. x + y) none (loops ∙ ap (λ x. total g k (suc (length (drop k (order_at plan.orders v)))) + x) last)) after))
    ∙ finish (total g 0 k) (total g k (suc (length (drop k (order_at plan.orders v))))) (one_at v u)
    ∙ ap (λ x. x + one_at v u) (sym (own ∙ ap (λ x. total g 0 k + x) from))
  where
    finish : (a b o : ℕ) → a + ((0 + (b + o)) + 0) ≡ (a + b) + o
    finish a b o = omega arith

leaf-times : (plan : Plan) (c : ContractionTree) (v : ℕ) (inner : ℕ → Program) (m u : ℕ) → is_leaf c ≡ true
    → total (λ e. times_computed (operand_code plan c v inner e) u) 0 (suc m) ≡ 0
leaf-times plan c v inner m u n =
    total-zero (λ e. times_computed (operand_code plan c v inner e) u) 0 (suc m) (λ e l. ap (λ p. times_computed p u) (operand-leaf plan c v inner e n))

-- once inside, and not outside
record Counts (first size u times : ℕ) : Type 0 where
  inside : first ≤ u → u < first + size → times ≡ 1
  outside : (u < first) ⊎ (first + size ≤ u) → times ≡ 0

operand-counts : (whole : ContractionTree) (plan : Plan) (first : ℕ) (c : ContractionTree) (p u : ℕ)
    → (is_leaf c ≡ false → OperandFits whole plan c (first + operations c - 1) p)
    → (is_leaf c ≡ false → Counts first (operations c - 1) u (total (λ e. times_computed (inner_code plan first c e) u) 0 (suc (length (order_at plan.orders (first + operations c - 1))))))
    → Counts first (operations c) u
    (total (λ e. times_computed (operand_code plan c (first + operations c - 1) (inner_code plan first c) e) u) 0 (suc (length (order_at plan.orders p))))
operand-counts whole plan first c p u fits h =
    elim (cases_Bool (is_leaf c)) [
      | inl n ↦
          let z = operations-leaf c n in
          record {
            inside = λ a b. absurd (omega arith);
            outside = λ o. leaf-times plan c (first + operations c - 1) (inner_code plan first c) (length (order_at plan.orders p)) u n;
          }
      | inr n ↦
          let m = node-positive c n in
          let t = operand-times plan c (first + operations c - 1) (inner_code plan first c) (length (order_at plan.orders p)) u n (fits n).edge.low (fits n).edge.high in
          elim (cases_eq (first + operations c - 1) u) [
            | inl q ↦
                let own : one_at (first + operations c - 1) u ≡ 1 = rw (eq-eqb (first + operations c - 1) u q) refl in
                record {
                  inside = λ a b. t ∙ ap₂ (λ x y. x + y) ((h n).outside (inr (omega arith))) own;
                  outside = λ o. absurd (elim o [ inl l ↦ omega arith | inr l ↦ omega arith ]);
                }
            | inr q ↦
                let own : one_at (first + operations c - 1) u ≡ 0 = rw (ne_eqb (first + operations c - 1) u q) refl in
                record {
                  inside = λ a b. t ∙ ap₂ (λ x y. x + y) ((h n).inside a (omega arith)) own;
                  outside = λ o. t ∙ ap₂ (λ x y. x + y) ((h n).outside (elim o [ inl l ↦ inl l | inr l ↦ inr (omega arith) ])) own;
                }
          ]
    ]

binary-counts : (first m n u size times_left times_right times : ℕ) → Counts first m u times_left → Counts (first + m) n u times_right
    → times ≡ times_left + times_right → size ≡ m + n → Counts first size u times
binary-counts first m n u size times_left times_right times l r both is =
    record {
      inside = λ a b. elim (cases_lt u (first + m)) [
        | inl k ↦ both ∙ ap₂ (λ x y. x + y) (l.inside a k) (r.outside (inl k))
        | inr k ↦ both ∙ ap₂ (λ x y. x + y) (l.outside (inr k)) (r.inside k (omega arith))
      ];
      outside = λ o. both ∙ ap₂ (λ x y. x + y)
          (l.outside (elim o [ inl k ↦ inl k | inr k ↦ inr (omega arith) ]))
          (r.outside (elim o [ inl k ↦ inl (omega arith) | inr k ↦ inr (omega arith) ]));
    }

times-both : (left right : ℕ → Program) (u d n : ℕ)
    → total (λ e. times_computed (followed_by (left e) (right e)) u) d n
    ≡ total (λ e. times_computed (left e) u) d n + total (λ e. times_computed (right e) u) d n
times-both left right u d n =
    total-same (λ e. times_computed (followed_by (left e) (right e)) u) (λ e. times_computed (left e) u + times_computed (right e) u) d n
    (λ e l m. times-followed_by (left e) (right e) u)
    ∙ total-plus (λ e. times_computed (left e) u) (λ e. times_computed (right e) u) d n

inner-counts : (whole : ContractionTree) (plan : Plan) (first : ℕ) (c : ContractionTree) (v u : ℕ) → Fits whole plan first c
    → v + 1 ≡ first + operations c
    → Counts first (operations c - 1) u (total (λ e. times_computed (inner_code plan first c e) u) 0 (suc (length (order_at plan.orders v))))
inner-counts whole plan first (leaf tensor indexes) v u fits num =
    record { inside = λ a b. absurd (omega arith); outside = λ o. total-zero (λ e. 0) 0 (suc (length (order_at plan.orders v))) (λ e l. refl) }
inner-counts whole plan first (constant number) v u fits num =
    record { inside = λ a b. absurd (omega arith); outside = λ o. total-zero (λ e. 0) 0 (suc (length (order_at plan.orders v))) (λ e l. refl) }
inner-counts whole plan first (binary op left right) v u fits num =
    let same : first + operations left + operations right ≡ v = omega arith in
    binary-counts first (operations left) (operations right) u (operations left + operations right + 1 - 1)
    (total (λ e. times_computed (operand_code plan left (first + operations left - 1) (inner_code plan first left) e) u) 0 (suc (length (order_at plan.orders v))))
    (total (λ e. times_computed (operand_code plan right (first + operations left + operations right - 1) (inner_code plan (first + operations left) right) e) u) 0
    (suc (length (order_at plan.orders v))))
    (total (λ e. times_computed (inner_code plan first (binary op left right) e) u) 0 (suc (length (order_at plan.orders v))))
    (operand-counts whole plan first left v u
    (λ n. subst (λ p. OperandFits whole plan left (first + operations left - 1) p) same (fits.0 n))
    (λ n. inner-counts whole plan first left (first + operations left - 1) u fits.2 (let m = node-positive left n in omega arith)))
    (operand-counts whole plan (first + operations left) right v u
    (λ n. subst (λ p. OperandFits whole plan right (first + operations left + operations right - 1) p) same (fits.1 n))
    (λ n. inner-counts whole plan (first + operations left) right (first + operations left + operations right - 1) u fits.3
    (let m = node-positive right n in omega arith)))
    (times-both (operand_code plan left (first + operations left - 1) (inner_code plan first left))
    (operand_code plan right (first + operations left + operations right - 1) (inner_code plan (first + operations left) right)) u 0 (suc (length (order_at plan.orders v))))
    (omega arith)
inner-counts whole plan first (sum indexes operand) v u fits num =
    let same : first + operations operand ≡ v = omega arith in
    let size : operations operand ≡ operations operand + 1 - 1 = omega arith in
    subst (λ n. Counts first n u (total (λ e. times_computed (inner_code plan first (sum indexes operand) e) u) 0 (suc (length (order_at plan.orders v))))) size
    (operand-counts whole plan first operand v u
    (λ n. subst (λ p. OperandFits whole plan operand (first + operations operand - 1) p) same (fits.0 n))
    (λ n. inner-counts whole plan first operand (first + operations operand - 1) u fits.1 (let m = node-positive operand n in omega arith)))

-- each node of a tree
pub code-once : (tree : ContractionTree) (plan : Plan) → is_leaf tree ≡ false → Fits tree plan 0 tree → (u : ℕ) → u < operations tree
    → times_computed (code_of plan tree) u ≡ 1
code-once tree plan n fits u l =
    let m = node-positive tree n in
    let c = inner-counts tree plan 0 tree (operations tree - 1) u fits (omega arith) in
    times-nest (inner_code plan 0 tree) 0 (order_at plan.orders (operations tree - 1)) (computing tree (operations tree - 1)) u
    ∙ ap (λ x. total (λ e. times_computed (inner_code plan 0 tree e) u) 0 (suc (length (order_at plan.orders (operations tree - 1)))) + x)
    (times-computing tree (operations tree - 1) u n)
    ∙ elim (cases_eq (operations tree - 1) u) [
      | inl q ↦
          let own : one_at (operations tree - 1) u ≡ 1 = rw (eq-eqb (operations tree - 1) u q) refl in
          ap₂ (λ x y. x + y) (c.outside (inr (omega arith))) own
      | inr q ↦
          let own : one_at (operations tree - 1) u ≡ 0 = rw (ne_eqb (operations tree - 1) u q) refl in
          ap₂ (λ x y. x + y) (c.inside (omega arith) (omega arith)) own
    ]
