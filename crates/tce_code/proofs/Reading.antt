-- The code of a tree reads right.
use Rattle.std.proofs.Common.{◌≡◌, ℕ, suc, ◌+◌, ◌-◌, ◌≤◌, false, List, [], ◌∷◌, drop, take, refl, sym, ap, ◌∙◌, inl, inr, subst, arith}
use Rattle.std.proofs.lemmas.Bool.{false≢true, cases_Bool, cases_order}
use Rattle.tce_space.specs.IndexSet.{count}
use Rattle.tce_tree.specs.ContractionTree.{ContractionTree, leaf, constant, binary, sum, is_leaf, operations, node}
use Rattle.tce_tree.specs.Value.{Assignment, with_number, Elements}
use Rattle.tce_code.specs.Program.{Program, stop, loop}
use Rattle.tce_code.specs.Execution.{Setting, State, exec, repeated, FindsOperands, ReadsRight}
use Rattle.tce_code.specs.Plan.{Plan, setting_of}
use Rattle.tce_code.specs.Generation.{nest, computing, loops_from, clearing, operand_code, inner_code, code_of}
use Rattle.tce_code.proofs.Frames.{changes, reads-followed_by, exec-other, repeated_keeps}
use Rattle.tce_tree.specs.WellFormed.{among}
use Rattle.tce_code.proofs.Lists.{drop_next, drop-end}
use Rattle.tce_code.proofs.Settled.{OperandSettled, settled-map, IsBelow, settled-numbers, operand-here, operand-above, operand-past, operand-leaf, operand-outside, clearing-other}
use Rattle.tce_code.proofs.Readings.{InExtents, NodeFits, OperandFits, Fits, Holds, Ready, Advances, found}
use Rattle.tce_code.proofs.Nests.{joint_at, ready-kept, ready-further, inside-further, nest-alone}
use Rattle.tce_tree.specs.WellFormed.{IsWellFormed}
use Rattle.tce_tree.proofs.NamedIndexes.{well_formed-left, well_formed-right, well_formed-operand}
use Rattle.tce_tree.specs.Fusion.{fused_at, order_at}
use Rattle.tce_tree.proofs.Nodes.{node-positive}
use Rattle.tce_code.proofs.Advance.{advances, operand-moved, none-settled}

abbrev pub ReadsInside : ContractionTree → Elements → Plan → ℕ → ContractionTree → ℕ → Type 0
ReadsInside whole e plan first c v =
    (depth : ℕ) (state : State) (a : Assignment) → Ready whole e plan first c depth a state
    → InExtents e (among (take depth (order_at plan.orders v))) a
    → ReadsRight (setting_of whole e plan) (inner_code plan first c depth) state a

computing-reads : (s : Setting) (c : ContractionTree) (v : ℕ) (state : State) (a : Assignment) → FindsOperands s v state a
    → ReadsRight s (computing c v) state a
computing-reads s (leaf tensor indexes) v state a h = tt
computing-reads s (constant number) v state a h = tt
computing-reads s (binary op left right) v state a h = (h, tt)
computing-reads s (sum indexes operand) v state a h = (h, tt)

clearing-reads : (s : Setting) (c : ContractionTree) (v : ℕ) (state : State) (a : Assignment) → ReadsRight s (clearing c v) state a
clearing-reads s (leaf tensor indexes) v state a = tt
clearing-reads s (constant number) v state a = tt
clearing-reads s (binary op left right) v state a = tt
clearing-reads s (sum indexes operand) v state a = (tt, tt)

nest-reads : (whole : ContractionTree) (e : Elements) (plan : Plan) (first : ℕ) (c : ContractionTree) (v : ℕ)
    → v + 1 ≡ first + operations c → is_leaf c ≡ false → node whole v ≡ c → NodeFits plan c v → Fits whole plan first c
    → Advances whole e plan first c v → ReadsInside whole e plan first c v
    → (rest : List ℕ) (depth : ℕ) → drop depth (order_at plan.orders v) ≡ rest
    → (state : State) (a : Assignment) → Ready whole e plan first c depth a state → InExtents e (among (take depth (order_at plan.orders v))) a
    → ReadsRight (setting_of whole e plan) (nest (inner_code plan first c) depth rest (computing c v)) state a
nest-reads whole e plan first c v num n at nf fits advance reads [] depth end state a ready inside =
    reads-followed_by (setting_of whole e plan) (inner_code plan first c depth) (computing c v) state a (reads depth state a ready inside)
    (computing-reads (setting_of whole e plan) c v (exec (setting_of whole e plan) (inner_code plan first c depth) state a) a
    (found whole e plan first c v depth (exec (setting_of whole e plan) (inner_code plan first c depth) state a) a num n at nf fits
    (drop-end depth (order_at plan.orders v) end) (advance depth state a ready inside) inside))
nest-reads whole e plan first c v num n at nf fits advance reads (i ∷ rest) depth next state a ready inside =
    reads-followed_by s (inner_code plan first c depth) (loop i (nest (inner_code plan first c) (suc depth) rest (computing c v)) stop) state a
    (reads depth state a ready inside) (
      (λ x l. nest-reads whole e plan first c v num n at nf fits advance reads rest (suc depth) (drop_next depth (order_at plan.orders v) i rest next)
          (repeated x (λ y before. exec s (nest (inner_code plan first c) (suc depth) rest (computing c v)) before (with_number a i y))
          (exec s (inner_code plan first c depth) state a))
          (with_number a i x)
          (ready-further whole e plan first c v depth i x rest num nf fits next
          (repeated x (λ y before. exec s (nest (inner_code plan first c) (suc depth) rest (computing c v)) before (with_number a i y))
          (exec s (inner_code plan first c depth) state a)) a
          (repeated_keeps (λ after. Ready whole e plan first c (suc depth) a after) x
          (λ y before. exec s (nest (inner_code plan first c) (suc depth) rest (computing c v)) before (with_number a i y))
          (exec s (inner_code plan first c depth) state a) (advance depth state a ready inside)
          (λ y before k h. ready-kept whole e plan first c (suc depth) (nest (inner_code plan first c) (suc depth) rest (computing c v))
          (nest-alone plan first c v num (suc depth) rest) before a (with_number a i y) h)))
          (inside-further e (order_at plan.orders v) depth i x rest a next l inside)),
      tt,
    )
  where
    s : Setting
    s = setting_of whole e plan

operand-reads : (whole : ContractionTree) (e : Elements) (plan : Plan) (first : ℕ) (c : ContractionTree) (p : ℕ)
    → (is_leaf c ≡ false → OperandFits whole plan c (first + operations c - 1) p) → Fits whole plan first c → IsWellFormed c
    → (is_leaf c ≡ false → ReadsInside whole e plan first c (first + operations c - 1))
    → (depth : ℕ) (state : State) (a : Assignment)
    → OperandSettled plan (Holds whole e plan a state) c (first + operations c - 1) (Ready whole e plan first c depth a state) depth
    → InExtents e (among (take depth (order_at plan.orders p))) a
    → ReadsRight (setting_of whole e plan) (operand_code plan c (first + operations c - 1) (inner_code plan first c) depth) state a
operand-reads whole e plan first c p fits inner_fits w reads depth state a h inside =
    elim (cases_Bool (is_leaf c)) [
      | inl n ↦ subst Reads (sym (operand-leaf plan c v (inner_code plan first c) depth n)) tt
      | inr n ↦ elim (cases_order depth (count (fused_at plan.fusion v))) [
        | inl q ↦ subst Reads (sym (operand-here plan c v (inner_code plan first c) depth n q))
            (reads-followed_by s (clearing c v) (loops_from plan c v (inner_code plan first c) depth) state a (clearing-reads s c v state a)
            (nest-reads whole e plan first c v (number n) n (fits n).found (fits n).node_fits inner_fits
            (advances whole e plan first c v (number n) inner_fits w) (reads n) (drop depth (order_at plan.orders v)) depth refl
            (exec s (clearing c v) state a) a
            (ready-kept whole e plan first c depth (clearing c v)
            (settled-map plan (IsBelow first c) (λ u g. changes (clearing c v) u ≡ false)
            (λ u g below. clearing-other c v u (λ k. let m = number n in omega arith)) first c depth (settled-numbers plan first c depth))
            state a a ((h n).1 (omega arith)))
            (leads n (omega arith))))
        | inr k ↦ elim k [
          | inl l ↦ subst Reads (sym (operand-above plan c v (inner_code plan first c) depth n l))
              (reads n depth state a ((h n).1 (omega arith)) (leads n (omega arith)))
          | inr l ↦ subst Reads (sym (operand-past plan c v (inner_code plan first c) depth l)) tt
        ]
      ]
    ]
  where
    s : Setting
    s = setting_of whole e plan

    v : ℕ
    v = first + operations c - 1

    Reads : Program → Type 0
    Reads program = ReadsRight s program state a

    number : is_leaf c ≡ false → v + 1 ≡ first + operations c
    number n = let m = node-positive c n in omega arith

    leads : (n : is_leaf c ≡ false) → depth ≤ count (fused_at plan.fusion v) → InExtents e (among (take depth (order_at plan.orders v))) a
    leads n l i z = inside i (ap (λ xs. among xs i) (sym (joint_at (fits n).edge depth l)) ∙ z)

reads-inside : (whole : ContractionTree) (e : Elements) (plan : Plan) (first : ℕ) (c : ContractionTree) (v : ℕ)
    → v + 1 ≡ first + operations c → Fits whole plan first c → IsWellFormed c → ReadsInside whole e plan first c v
reads-inside whole e plan first (leaf tensor indexes) v num fits w depth state a ready inside = tt
reads-inside whole e plan first (constant number) v num fits w depth state a ready inside = tt
reads-inside whole e plan first (binary op left right) v num fits w depth state a ready inside =
    reads-followed_by (setting_of whole e plan)
    (operand_code plan left (first + operations left - 1) (inner_code plan first left) depth)
    (operand_code plan right (first + operations left + operations right - 1) (inner_code plan (first + operations left) right) depth) state a
    (operand-reads whole e plan first left v
    (λ n. subst (λ p. OperandFits whole plan left (first + operations left - 1) p) same (fits.0 n)) fits.2 (well_formed-left left right w)
    (λ n. reads-inside whole e plan first left (first + operations left - 1) (let m = node-positive left n in omega arith) fits.2 (well_formed-left left right w))
    depth state a ready.0 inside)
    (operand-reads whole e plan (first + operations left) right v
    (λ n. subst (λ p. OperandFits whole plan right (first + operations left + operations right - 1) p) same (fits.1 n)) fits.3 (well_formed-right left right w)
    (λ n. reads-inside whole e plan (first + operations left) right (first + operations left + operations right - 1)
    (let m = node-positive right n in omega arith) fits.3 (well_formed-right left right w))
    depth (exec (setting_of whole e plan) (operand_code plan left (first + operations left - 1) (inner_code plan first left) depth) state a) a
    (operand-moved whole e plan (first + operations left) right depth state
    (exec (setting_of whole e plan) (operand_code plan left (first + operations left - 1) (inner_code plan first left) depth) state a) a
    (λ u l k p. exec-other (setting_of whole e plan) (operand_code plan left (first + operations left - 1) (inner_code plan first left) depth) u
    (operand-outside plan first left depth u (inr l)) state a p)
    ready.1)
    inside)
  where
    same : first + operations left + operations right ≡ v
    same = omega arith
reads-inside whole e plan first (sum indexes operand) v num fits w depth state a ready inside =
    operand-reads whole e plan first operand v
    (λ n. subst (λ p. OperandFits whole plan operand (first + operations operand - 1) p) same (fits.0 n)) fits.1 (well_formed-operand indexes operand w)
    (λ n. reads-inside whole e plan first operand (first + operations operand - 1) (let m = node-positive operand n in omega arith) fits.1 (well_formed-operand indexes operand w))
    depth state a ready inside
  where
    same : first + operations operand ≡ v
    same = omega arith

-- whatever the places hold before
pub code-reads : (tree : ContractionTree) (e : Elements) (plan : Plan) → is_leaf tree ≡ false → IsWellFormed tree
    → node tree (operations tree - 1) ≡ tree → NodeFits plan tree (operations tree - 1) → Fits tree plan 0 tree
    → (state : State) (a : Assignment) → ReadsRight (setting_of tree e plan) (code_of plan tree) state a
code-reads tree e plan n w at nf fits state a =
    nest-reads tree e plan 0 tree v num n at nf fits (advances tree e plan 0 tree v num fits w) (reads-inside tree e plan 0 tree v num fits w)
    (order_at plan.orders v) 0 refl state a (none-settled plan (Holds tree e plan a state) 0 tree) (λ i m. absurd (false≢true m))
  where
    v : ℕ
    v = operations tree - 1

    num : v + 1 ≡ 0 + operations tree
    num = let m = node-positive tree n in omega arith
