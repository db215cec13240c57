-- The code of a tree computes each node before it is read, and leaves the tree's value.
use Rattle.std.proofs.Common.{◌≡◌, ℕ, suc, ◌+◌, ◌-◌, ◌<◌, ◌≤◌, false, List, drop, take, refl, sym, ap, ◌∙◌, inl, inr, subst, arith}
use Rattle.std.proofs.lemmas.Bool.{false≢true, cases_order, eq-eqb}
use Rattle.tce_space.specs.IndexSet.{count, has}
use Rattle.tce_tree.specs.ContractionTree.{ContractionTree, leaf, constant, binary, sum, is_leaf, operations, dims, node}
use Rattle.tce_tree.specs.Value.{Assignment, Elements, value}
use Rattle.tce_code.specs.Program.{Program}
use Rattle.tce_code.specs.Generation.{followed_by, loops_from, clearing, operand_code, inner_code, code_of}
use Rattle.tce_code.specs.Execution.{Setting, State, coordinates, exec}
use Rattle.tce_code.specs.Plan.{Plan, setting_of}
use Rattle.tce_code.proofs.Frames.{changes, exec-followed_by, exec-other}
use Rattle.tce_tree.specs.WellFormed.{among}
use Rattle.tce_code.proofs.Settled.{OperandSettled, Settled, settled-map, settled-both, IsBelow, settled-numbers, operand-here, operand-above, operand-past, operand-outside, clearing-other}
use Rattle.tce_code.proofs.Readings.{InExtents, NodeFits, OperandFits, Fits, Holds, Ready, Advances}
use Rattle.tce_code.proofs.Nests.{joint_at, ready-kept, nest-exec}
use Rattle.tce_tree.specs.WellFormed.{IsWellFormed}
use Rattle.tce_tree.proofs.NamedIndexes.{well_formed-left, well_formed-right, well_formed-operand}
use Rattle.tce_tree.specs.Fusion.{fused_at, order_at, kept_dims}
use Rattle.tce_tree.proofs.Nodes.{node-positive}
use Rattle.tce_code.proofs.NodeWords.{BeginsAt, node-word}

-- a state with the same words at the nodes of an operand
pub operand-moved : (whole : ContractionTree) (e : Elements) (plan : Plan) (first : ℕ) (c : ContractionTree) (depth : ℕ) (state after : State) (a : Assignment)
    → ((u : ℕ) → first ≤ u → u < first + operations c → (p : List ℕ) → after u p ≡ state u p)
    → OperandSettled plan (Holds whole e plan a state) c (first + operations c - 1) (Ready whole e plan first c depth a state) depth
    → OperandSettled plan (Holds whole e plan a after) c (first + operations c - 1) (Ready whole e plan first c depth a after) depth
operand-moved whole e plan first c depth state after a same h = λ n.
    let m = node-positive c n in (
      (λ k b agrees inside.
          same (first + operations c - 1) (omega arith) (omega arith) (coordinates (kept_dims whole plan.fusion (first + operations c - 1)) b)
          ∙ (h n).0 k b agrees inside),
      (λ k. settled-both plan (Holds whole e plan a state) (IsBelow first c) (Holds whole e plan a after)
          (λ u g holds below b agrees inside.
          same u below.0 (omega arith) (coordinates (kept_dims whole plan.fusion u) b) ∙ holds b agrees inside)
          first c depth ((h n).1 k) (settled-numbers plan first c depth)),
    )

clearing-begins : (s : Setting) (c : ContractionTree) (v : ℕ) (state : State) (a : Assignment) (p : List ℕ) → BeginsAt c (exec s (clearing c v) state a v p)
clearing-begins s (leaf tensor indexes) v state a p = tt
clearing-begins s (constant number) v state a p = tt
clearing-begins s (binary op left right) v state a p = tt
clearing-begins s (sum indexes operand) v state a p = rw (eq-eqb v v refl) refl

-- an operand's loops leave its value
operand-done : (whole : ContractionTree) (e : Elements) (plan : Plan) (first : ℕ) (c : ContractionTree) (v p : ℕ) → v + 1 ≡ first + operations c
    → is_leaf c ≡ false → OperandFits whole plan c v p → Fits whole plan first c → IsWellFormed c → Advances whole e plan first c v
    → (depth : ℕ) → depth ≡ count (fused_at plan.fusion v) → (state : State) (a : Assignment)
    → Ready whole e plan first c depth a state → InExtents e (among (take depth (order_at plan.orders p))) a
    → Holds whole e plan a (exec (setting_of whole e plan) (followed_by (clearing c v) (loops_from plan c v (inner_code plan first c) depth)) state a) v c
operand-done whole e plan first c v p num n f fits w advance depth here state a ready inside b agrees inside_b =
    ap (λ after. after v at) (exec-followed_by s (clearing c v) (loops_from plan c v (inner_code plan first c) depth) state a)
    ∙ nest-exec whole e plan first c v num n f.found f.node_fits fits advance (drop depth (order_at plan.orders v)) depth refl
    (exec s (clearing c v) state a) a
    (ready-kept whole e plan first c depth (clearing c v)
    (settled-map plan (IsBelow first c) (λ u g. changes (clearing c v) u ≡ false)
    (λ u g below. clearing-other c v u (λ q. omega arith)) first c depth (settled-numbers plan first c depth))
    state a a ready)
    (λ i m. inside i (ap (λ xs. among xs i) (sym (joint_at f.edge depth (omega arith))) ∙ m)) at
    ∙ node-word whole e plan c v depth w n f.found f.node_fits
    (record { within = f.edge.within; members = λ i. f.edge.members i ∙ ap (λ k. among (take k (order_at plan.orders v)) i) (sym here) })
    a b agrees inside_b (exec s (clearing c v) state a v at) (clearing-begins s c v state a at)
  where
    s : Setting
    s = setting_of whole e plan

    at : List ℕ
    at = coordinates (kept_dims whole plan.fusion v) b

pub operand-advance : (whole : ContractionTree) (e : Elements) (plan : Plan) (first : ℕ) (c : ContractionTree) (p : ℕ)
    → (is_leaf c ≡ false → OperandFits whole plan c (first + operations c - 1) p) → Fits whole plan first c → IsWellFormed c
    → (is_leaf c ≡ false → Advances whole e plan first c (first + operations c - 1))
    → (depth : ℕ) (state : State) (a : Assignment)
    → OperandSettled plan (Holds whole e plan a state) c (first + operations c - 1) (Ready whole e plan first c depth a state) depth
    → InExtents e (among (take depth (order_at plan.orders p))) a
    → OperandSettled plan
    (Holds whole e plan a (exec (setting_of whole e plan) (operand_code plan c (first + operations c - 1) (inner_code plan first c) depth) state a)) c
    (first + operations c - 1)
    (Ready whole e plan first c (suc depth) a (exec (setting_of whole e plan) (operand_code plan c (first + operations c - 1) (inner_code plan first c) depth) state a))
    (suc depth)
operand-advance whole e plan first c p fits inner_fits w advance depth state a h inside = λ n.
    let m = node-positive c n in
    let After : Program → Type 0 = λ program.
    (count (fused_at plan.fusion (first + operations c - 1)) < suc depth
    → Holds whole e plan a (exec (setting_of whole e plan) program state a) (first + operations c - 1) c)
    × (suc depth ≤ count (fused_at plan.fusion (first + operations c - 1))
    → Ready whole e plan first c (suc depth) a (exec (setting_of whole e plan) program state a)) in
    elim (cases_order depth (count (fused_at plan.fusion (first + operations c - 1)))) [
      | inl q ↦ subst After (sym (operand-here plan c (first + operations c - 1) (inner_code plan first c) depth n q)) (
        (λ l. operand-done whole e plan first c (first + operations c - 1) p (omega arith) n (fits n) inner_fits w (advance n) depth q state a
            ((h n).1 (omega arith)) inside),
        (λ l. absurd (omega arith)),
      )
      | inr k ↦ elim k [
        | inl l ↦ subst After (sym (operand-above plan c (first + operations c - 1) (inner_code plan first c) depth n l)) (
          (λ j. absurd (omega arith)),
          (λ j. advance n depth state a ((h n).1 (omega arith))
              (λ i z. inside i (ap (λ xs. among xs i) (sym (joint_at (fits n).edge depth (omega arith))) ∙ z))),
        )
        | inr l ↦ subst After (sym (operand-past plan c (first + operations c - 1) (inner_code plan first c) depth l))
            ((λ j. (h n).0 l), (λ j. absurd (omega arith)))
      ]
    ]

-- what stands at a depth computes what is due there
pub advances : (whole : ContractionTree) (e : Elements) (plan : Plan) (first : ℕ) (c : ContractionTree) (v : ℕ)
    → v + 1 ≡ first + operations c → Fits whole plan first c → IsWellFormed c → Advances whole e plan first c v
advances whole e plan first (leaf tensor indexes) v num fits w depth state a ready inside = tt
advances whole e plan first (constant number) v num fits w depth state a ready inside = tt
advances whole e plan first (binary op left right) v num fits w depth state a ready inside =
    subst (λ after. Ready whole e plan first (binary op left right) (suc depth) a after)
    (sym (exec-followed_by (setting_of whole e plan)
    (operand_code plan left (first + operations left - 1) (inner_code plan first left) depth)
    (operand_code plan right (first + operations left + operations right - 1) (inner_code plan (first + operations left) right) depth) state a)) (
      operand-moved whole e plan first left (suc depth)
          (exec (setting_of whole e plan) (operand_code plan left (first + operations left - 1) (inner_code plan first left) depth) state a)
          (exec (setting_of whole e plan) (operand_code plan right (first + operations left + operations right - 1) (inner_code plan (first + operations left) right) depth)
          (exec (setting_of whole e plan) (operand_code plan left (first + operations left - 1) (inner_code plan first left) depth) state a) a) a
          (λ u l k p. exec-other (setting_of whole e plan)
          (operand_code plan right (first + operations left + operations right - 1) (inner_code plan (first + operations left) right) depth) u
          (operand-outside plan (first + operations left) right depth u (inl k))
          (exec (setting_of whole e plan) (operand_code plan left (first + operations left - 1) (inner_code plan first left) depth) state a) a p)
          (operand-advance whole e plan first left v
          (λ n. subst (λ p. OperandFits whole plan left (first + operations left - 1) p) same (fits.0 n)) fits.2 (well_formed-left left right w)
          (λ n. advances whole e plan first left (first + operations left - 1) (let m = node-positive left n in omega arith) fits.2 (well_formed-left left right w))
          depth state a ready.0 inside),
      operand-advance whole e plan (first + operations left) right v
          (λ n. subst (λ p. OperandFits whole plan right (first + operations left + operations right - 1) p) same (fits.1 n)) fits.3 (well_formed-right left right w)
          (λ n. advances whole e plan (first + operations left) right (first + operations left + operations right - 1)
          (let m = node-positive right n in omega arith) fits.3 (well_formed-right left right w))
          depth (exec (setting_of whole e plan) (operand_code plan left (first + operations left - 1) (inner_code plan first left) depth) state a) a
          (operand-moved whole e plan (first + operations left) right depth state
          (exec (setting_of whole e plan) (operand_code plan left (first + operations left - 1) (inner_code plan first left) depth) state a) a
          (λ u l k p. exec-other (setting_of whole e plan) (operand_code plan left (first + operations left - 1) (inner_code plan first left) depth) u
          (operand-outside plan first left depth u (inr l)) state a p)
          ready.1)
          inside,
    )
  where
    same : first + operations left + operations right ≡ v
    same = omega arith
advances whole e plan first (sum indexes operand) v num fits w depth state a ready inside =
    operand-advance whole e plan first operand v
    (λ n. subst (λ p. OperandFits whole plan operand (first + operations operand - 1) p) same (fits.0 n)) fits.1 (well_formed-operand indexes operand w)
    (λ n. advances whole e plan first operand (first + operations operand - 1) (let m = node-positive operand n in omega arith) fits.1 (well_formed-operand indexes operand w))
    depth state a ready inside
  where
    same : first + operations operand ≡ v
    same = omega arith

-- before the first loop nothing is due
pub none-settled : (plan : Plan) (Q : ℕ → ContractionTree → Type 0) (first : ℕ) (c : ContractionTree) → Settled plan Q first c 0
none-settled plan Q first (leaf tensor indexes) = tt
none-settled plan Q first (constant number) = tt
none-settled plan Q first (binary op left right) = (
  (λ n. ((λ k. absurd (omega arith)), (λ k. none-settled plan Q first left))),
  (λ n. ((λ k. absurd (omega arith)), (λ k. none-settled plan Q (first + operations left) right))),
)
none-settled plan Q first (sum indexes operand) = λ n. ((λ k. absurd (omega arith)), (λ k. none-settled plan Q first operand))

-- the code of a tree leaves its value in each place of the root
pub code-value : (tree : ContractionTree) (e : Elements) (plan : Plan) → is_leaf tree ≡ false → IsWellFormed tree
    → node tree (operations tree - 1) ≡ tree → NodeFits plan tree (operations tree - 1) → Fits tree plan 0 tree
    → ((i : ℕ) → has (fused_at plan.fusion (operations tree - 1)) i ≡ false)
    → (state : State) (a b : Assignment) → InExtents e (has (dims tree)) b
    → state (operations tree - 1) (coordinates (kept_dims tree plan.fusion (operations tree - 1)) b) ≡ 0
    → exec (setting_of tree e plan) (code_of plan tree) state a (operations tree - 1) (coordinates (kept_dims tree plan.fusion (operations tree - 1)) b)
    ≡ value e tree b
code-value tree e plan n w at nf fits root state a b inside zero_there =
    nest-exec tree e plan 0 tree v num n at nf fits (advances tree e plan 0 tree v num fits w) (order_at plan.orders v) 0 refl state a
    (none-settled plan (Holds tree e plan a state) 0 tree) (λ i m. absurd (false≢true m)) (coordinates (kept_dims tree plan.fusion v) b)
    ∙ node-word tree e plan tree v 0 w n at nf
    (record { within = λ i k. absurd (false≢true (sym (root i) ∙ k)); members = λ i. root i })
    a b (λ i k. absurd (false≢true (sym (root i) ∙ k))) inside (state v (coordinates (kept_dims tree plan.fusion v) b))
    (begins tree v state (coordinates (kept_dims tree plan.fusion v) b) zero_there)
  where
    v : ℕ
    v = operations tree - 1

    num : v + 1 ≡ 0 + operations tree
    num = let m = node-positive tree n in omega arith

    begins : (c : ContractionTree) (u : ℕ) (st : State) (p : List ℕ) → st u p ≡ 0 → BeginsAt c (st u p)
    begins (leaf tensor indexes) u st p h = tt
    begins (constant number) u st p h = tt
    begins (binary op left right) u st p h = tt
    begins (sum indexes operand) u st p h = h
