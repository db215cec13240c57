-- The shape of the code of a tree.
use Rattle.std.proofs.Common.{◌≡◌, ℕ, zero, suc, ◌+◌, ◌-◌, ◌<◌, true, false, eqb, List, [], ◌∷◌, ◌++◌, drop, take, refl, sym, ap, ◌∙◌, inl, inr, subst, arith}
use Rattle.std.proofs.lemmas.Bool.{or_left, or_right, cases_Bool, cases_order, eq-eqb}
use Rattle.tce_space.specs.IndexSet.{count, has}
use Rattle.tce_tree.specs.ContractionTree.{ContractionTree, leaf, constant, binary, sum, is_leaf, operations, loops, node}
use Rattle.tce_code.specs.Program.{Action, Program, stop, step, loop}
use Rattle.tce_code.specs.Generation.{followed_by, nest, computing, loops_from, clearing, operand_code, inner_code, code_of}
use Rattle.tce_code.specs.Plan.{Plan}
use Rattle.tce_tree.specs.WellFormed.{among}
use Rattle.tce_tree.specs.Fusion.{fused_at, order_at}
use Rattle.tce_tree.proofs.Nodes.{node-positive}
use Rattle.tce_code.proofs.Lists.{drop_next, drop-end}
use Rattle.tce_code.proofs.Settled.{operand-here, operand-above, operand-past, operand-leaf}
use Rattle.std.proofs.lemmas.List.{take_all}
use Rattle.tce_code.specs.Shape.{EachAction, ActionFits, IsBinary, IsSum, IsLoop}
use Rattle.tce_code.proofs.Readings.{NodeFits, OperandFits, Fits}
use Rattle.tce_code.proofs.Nests.{joint_at}

each-followed_by : (P : Action → List ℕ → Type 0) (Q : ℕ → Type 0) (p q : Program) (opened : List ℕ)
    → EachAction P Q p opened → EachAction P Q q opened → EachAction P Q (followed_by p q) opened
each-followed_by P Q stop q opened h k = k
each-followed_by P Q (step action rest) q opened h k = (h.0, each-followed_by P Q rest q opened h.1 k)
each-followed_by P Q (loop i body rest) q opened h k = (h.0, h.1, each-followed_by P Q rest q opened h.2 k)

take_next : (n : ℕ) (xs : List ℕ) (i : ℕ) (rest : List ℕ) → drop n xs ≡ i ∷ rest → take n xs ++ i ∷ [] ≡ take (suc n) xs
take_next zero [] i rest h = absurd (let k : ⊥ = cc in k)
take_next zero (x ∷ xs) i rest h = let k : x ≡ i = cc in ap (λ y. y ∷ []) (sym k)
take_next (suc n) [] i rest h = absurd (let k : ⊥ = cc in k)
take_next (suc n) (x ∷ xs) i rest h = ap (λ ys. x ∷ ys) (take_next n xs i rest h)

among-next : (n : ℕ) (xs : List ℕ) (i : ℕ) (rest : List ℕ) → drop n xs ≡ i ∷ rest → among xs i ≡ true
among-next zero [] i rest h = absurd (let k : ⊥ = cc in k)
among-next zero (x ∷ xs) i rest h = let k : x ≡ i = cc in or_left (eqb x i) (among xs i) (eq-eqb x i k)
among-next (suc n) [] i rest h = absurd (let k : ⊥ = cc in k)
among-next (suc n) (x ∷ xs) i rest h = or_right (eqb x i) (among xs i) (among-next n xs i rest h)

abbrev pub Shaped : ContractionTree → Plan → Program → List ℕ → Type 0
Shaped whole plan program opened = EachAction (ActionFits whole plan) (IsLoop whole) program opened

computing-shaped : (whole : ContractionTree) (plan : Plan) (c : ContractionTree) (v : ℕ) (opened : List ℕ) → v < operations whole → node whole v ≡ c
    → opened ≡ order_at plan.orders v → Shaped whole plan (computing c v) opened
computing-shaped whole plan (leaf tensor indexes) v opened l at e = tt
computing-shaped whole plan (constant number) v opened l at e = tt
computing-shaped whole plan (binary op left right) v opened l at e = ((l, subst (IsBinary op) (sym at) refl, e), tt)
computing-shaped whole plan (sum indexes operand) v opened l at e = ((l, subst IsSum (sym at) tt, e), tt)

clearing-shaped : (whole : ContractionTree) (plan : Plan) (c : ContractionTree) (v : ℕ) (opened : List ℕ) → v + 1 < operations whole → node whole v ≡ c
    → opened ≡ take (count (fused_at plan.fusion v)) (order_at plan.orders v) → Shaped whole plan (clearing c v) opened
clearing-shaped whole plan (leaf tensor indexes) v opened l at e = tt
clearing-shaped whole plan (constant number) v opened l at e = tt
clearing-shaped whole plan (binary op left right) v opened l at e = tt
clearing-shaped whole plan (sum indexes operand) v opened l at e = ((l, subst IsSum (sym at) tt, e), tt)

nest-shaped : (whole : ContractionTree) (plan : Plan) (c : ContractionTree) (v : ℕ) (inner : ℕ → Program) → v < operations whole → node whole v ≡ c → NodeFits plan c v
    → ((e : ℕ) → Shaped whole plan (inner e) (take e (order_at plan.orders v))) → (rest : List ℕ) (depth : ℕ) → drop depth (order_at plan.orders v) ≡ rest
    → Shaped whole plan (nest inner depth rest (computing c v)) (take depth (order_at plan.orders v))
nest-shaped whole plan c v inner l at nf h [] depth end =
    each-followed_by (ActionFits whole plan) (IsLoop whole) (inner depth) (computing c v) (take depth (order_at plan.orders v)) (h depth)
    (computing-shaped whole plan c v (take depth (order_at plan.orders v)) l at (take_all depth (order_at plan.orders v) (drop-end depth (order_at plan.orders v) end)))
nest-shaped whole plan c v inner l at nf h (i ∷ rest) depth next =
    each-followed_by (ActionFits whole plan) (IsLoop whole) (inner depth) (loop i (nest inner (suc depth) rest (computing c v)) stop) (take depth (order_at plan.orders v)) (h depth) (
      (v, l, ap (λ t. has (loops t) i) at ∙ nf.each i ∙ among-next depth (order_at plan.orders v) i rest next),
      subst (Shaped whole plan (nest inner (suc depth) rest (computing c v))) (sym (take_next depth (order_at plan.orders v) i rest next))
          (nest-shaped whole plan c v inner l at nf h rest (suc depth) (drop_next depth (order_at plan.orders v) i rest next)),
      tt,
    )

operand-shaped : (whole : ContractionTree) (plan : Plan) (first : ℕ) (c : ContractionTree) (p : ℕ)
    → (is_leaf c ≡ false → OperandFits whole plan c (first + operations c - 1) p) → first + operations c < operations whole
    → (is_leaf c ≡ false → (e : ℕ) → Shaped whole plan (inner_code plan first c e) (take e (order_at plan.orders (first + operations c - 1))))
    → (depth : ℕ) → Shaped whole plan (operand_code plan c (first + operations c - 1) (inner_code plan first c) depth) (take depth (order_at plan.orders p))
operand-shaped whole plan first c p fits few h depth =
    elim (cases_Bool (is_leaf c)) [
      | inl n ↦ subst Good (sym (operand-leaf plan c v (inner_code plan first c) depth n)) tt
      | inr n ↦ elim (cases_order depth (count (fused_at plan.fusion v))) [
        | inl q ↦ subst Good (sym (operand-here plan c v (inner_code plan first c) depth n q))
            (subst (Shaped whole plan (followed_by (clearing c v) (loops_from plan c v (inner_code plan first c) depth))) (joint_at (fits n).edge depth (omega arith))
            (each-followed_by (ActionFits whole plan) (IsLoop whole) (clearing c v) (loops_from plan c v (inner_code plan first c) depth) (take depth (order_at plan.orders v))
            (clearing-shaped whole plan c v (take depth (order_at plan.orders v)) (let m = node-positive c n in omega arith) (fits n).found (ap (λ k. take k (order_at plan.orders v)) q))
            (nest-shaped whole plan c v (inner_code plan first c) (let m = node-positive c n in omega arith) (fits n).found (fits n).node_fits (h n)
            (drop depth (order_at plan.orders v)) depth refl)))
        | inr k ↦ elim k [
          | inl l ↦ subst Good (sym (operand-above plan c v (inner_code plan first c) depth n l))
              (subst (Shaped whole plan (inner_code plan first c depth)) (joint_at (fits n).edge depth (omega arith)) (h n depth))
          | inr l ↦ subst Good (sym (operand-past plan c v (inner_code plan first c) depth l)) tt
        ]
      ]
    ]
  where
    v : ℕ
    v = first + operations c - 1

    Good : Program → Type 0
    Good program = Shaped whole plan program (take depth (order_at plan.orders p))

inner-shaped : (whole : ContractionTree) (plan : Plan) (first : ℕ) (c : ContractionTree) (v : ℕ)
    → v + 1 ≡ first + operations c → v < operations whole → Fits whole plan first c → (depth : ℕ)
    → Shaped whole plan (inner_code plan first c depth) (take depth (order_at plan.orders v))
inner-shaped whole plan first (leaf tensor indexes) v num few fits depth = tt
inner-shaped whole plan first (constant number) v num few fits depth = tt
inner-shaped whole plan first (binary op left right) v num few fits depth =
    each-followed_by (ActionFits whole plan) (IsLoop whole)
    (operand_code plan left (first + operations left - 1) (inner_code plan first left) depth)
    (operand_code plan right (first + operations left + operations right - 1) (inner_code plan (first + operations left) right) depth)
    (take depth (order_at plan.orders v))
    (operand-shaped whole plan first left v
    (λ n. subst (λ p. OperandFits whole plan left (first + operations left - 1) p) same (fits.0 n)) (omega arith)
    (λ n. inner-shaped whole plan first left (first + operations left - 1) (let m = node-positive left n in omega arith) (omega arith) fits.2) depth)
    (operand-shaped whole plan (first + operations left) right v
    (λ n. subst (λ p. OperandFits whole plan right (first + operations left + operations right - 1) p) same (fits.1 n)) (omega arith)
    (λ n. inner-shaped whole plan (first + operations left) right (first + operations left + operations right - 1)
    (let m = node-positive right n in omega arith) (omega arith) fits.3) depth)
  where
    same : first + operations left + operations right ≡ v
    same = omega arith
inner-shaped whole plan first (sum indexes operand) v num few fits depth =
    operand-shaped whole plan first operand v
    (λ n. subst (λ p. OperandFits whole plan operand (first + operations operand - 1) p) same (fits.0 n)) (omega arith)
    (λ n. inner-shaped whole plan first operand (first + operations operand - 1) (let m = node-positive operand n in omega arith) (omega arith) fits.1) depth
  where
    same : first + operations operand ≡ v
    same = omega arith

pub code-shaped : (tree : ContractionTree) (plan : Plan) → is_leaf tree ≡ false → node tree (operations tree - 1) ≡ tree
    → NodeFits plan tree (operations tree - 1) → Fits tree plan 0 tree → Shaped tree plan (code_of plan tree) []
code-shaped tree plan n at nf fits =
    nest-shaped tree plan tree (operations tree - 1) (inner_code plan 0 tree) (let m = node-positive tree n in omega arith) at nf
    (inner-shaped tree plan 0 tree (operations tree - 1) (let m = node-positive tree n in omega arith) (let m = node-positive tree n in omega arith) fits)
    (order_at plan.orders (operations tree - 1)) 0 refl
