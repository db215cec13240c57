-- What the loops of one node leave in its places.
use Rattle.std.proofs.Common.{◌≡◌, ℕ, suc, ◌+◌, ◌-◌, ◌<◌, ◌≤◌, true, false, List, [], ◌∷◌, drop, take, if◌then◌else◌, refl, sym, ap, ap₂, ◌∙◌, inl, inr, subst, arith, take-take}
use Rattle.std.specs.Prelude.{bytes_eq}
use Rattle.std.proofs.lemmas.Bool.{true≢false, cases_Bool, cases_eq, eq-eqb}
use Rattle.std.proofs.lemmas.Slice.Eq.{bytes_eq-Decides}
use Rattle.tce_space.specs.IndexSet.{count, has}
use Rattle.tce_tree.specs.ContractionTree.{ContractionTree, leaf, constant, binary, sum, is_leaf, operations, node, left_tree, right_tree}
use Rattle.tce_base.specs.Word.{wrapping_add}
use Rattle.tce_tree.specs.Value.{Assignment, with_number, Elements, value, arithmetic}
use Rattle.tce_code.specs.Program.{Program, stop, loop}
use Rattle.tce_code.specs.Execution.{Setting, State, coordinates, exec, FindsOperands}
use Rattle.tce_code.specs.Plan.{Plan, setting_of}
use Rattle.tce_code.specs.Generation.{nest, computing, inner_code}
use Rattle.tce_code.proofs.Frames.{changes, exec-followed_by, exec-other}
use Rattle.tce_tree.specs.WellFormed.{among}
use Rattle.tce_tree.proofs.Lists.{among_first}
use Rattle.tce_tree.specs.Fusion.{fused_at, order_at, kept_dims}
use Rattle.tce_tree.proofs.Assignments.{with-same, with-other}
use Rattle.tce_tree.proofs.Nodes.{node-positive}
use Rattle.tce_code.proofs.Lists.{among-take_more, among-take_next, distinct-apart, drop_next, drop-end}
use Rattle.tce_code.proofs.Settled.{Settled, settled-map, settled-both, IsBelow, settled-numbers, inner-other, nest-other, LeftAlone, settled-alone, computing-other}
use Rattle.tce_code.proofs.Readings.{InExtents, NodeFits, EdgeFits, Fits, Holds, Ready, Advances, turned, nest_word, repeated_related, found}

-- the first indexes of both ends of an edge
pub joint_at : {plan : Plan} {c : ContractionTree} {u v : ℕ} (edge : EdgeFits plan c u v) (depth : ℕ) → depth ≤ count (fused_at plan.fusion u)
    → take depth (order_at plan.orders u) ≡ take depth (order_at plan.orders v)
joint_at {plan} {c} {u} {v} edge depth l =
    sym (take-take depth (count (fused_at plan.fusion u)) (order_at plan.orders u) l) ∙ ap (take depth) edge.joint ∙ take-take depth (count (fused_at plan.fusion u)) (order_at plan.orders v) l

-- the fused indexes of node `u` stand among the first loops of `v`
abbrev pub FusedLead : Plan → ℕ → ℕ → ℕ → ContractionTree → Type 0
FusedLead plan v depth u c = (i : ℕ) → has (fused_at plan.fusion u) i ≡ true → among (take depth (order_at plan.orders v)) i ≡ true

edge-fused : (plan : Plan) (first : ℕ) (c : ContractionTree) (u v depth : ℕ) → EdgeFits plan c u v
    → Settled plan (FusedLead plan u depth) first c (suc depth)
    → (count (fused_at plan.fusion u) < suc depth → FusedLead plan v depth u c)
    × (suc depth ≤ count (fused_at plan.fusion u) → Settled plan (FusedLead plan v depth) first c (suc depth))
edge-fused plan first c u v depth f h = (
  (λ l i k. among-take_more (count (fused_at plan.fusion u)) depth (order_at plan.orders v) i (omega arith)
      (ap (λ xs. among xs i) (sym f.joint) ∙ sym (f.members i) ∙ k)),
  (λ l. settled-map plan (FusedLead plan u depth) (FusedLead plan v depth)
      (λ w b g i k. ap (λ xs. among xs i) (sym (joint_at f depth (omega arith))) ∙ g i k) first c (suc depth) h),
)

-- the fused indexes of what is settled are open
settled-fused : (whole : ContractionTree) (plan : Plan) (first : ℕ) (c : ContractionTree) (v depth : ℕ)
    → v + 1 ≡ first + operations c → Fits whole plan first c → Settled plan (FusedLead plan v depth) first c (suc depth)
settled-fused whole plan first (leaf tensor indexes) v depth num fits = tt
settled-fused whole plan first (constant number) v depth num fits = tt
settled-fused whole plan first (binary op left right) v depth num fits = (
  (λ n. edge-fused plan first left (first + operations left - 1) v depth
      (subst (λ p. EdgeFits plan left (first + operations left - 1) p) same (fits.0 n).edge)
      (settled-fused whole plan first left (first + operations left - 1) depth (let m = node-positive left n in omega arith) fits.2)),
  (λ n. edge-fused plan (first + operations left) right (first + operations left + operations right - 1) v depth
      (subst (λ p. EdgeFits plan right (first + operations left + operations right - 1) p) same (fits.1 n).edge)
      (settled-fused whole plan (first + operations left) right (first + operations left + operations right - 1) depth
      (let m = node-positive right n in omega arith) fits.3)),
)
  where
    same : first + operations left + operations right ≡ v
    same = omega arith
settled-fused whole plan first (sum indexes operand) v depth num fits = λ n.
    edge-fused plan first operand (first + operations operand - 1) v depth
    (subst (λ p. EdgeFits plan operand (first + operations operand - 1) p) same (fits.0 n).edge)
    (settled-fused whole plan first operand (first + operations operand - 1) depth (let m = node-positive operand n in omega arith) fits.1)
  where
    same : first + operations operand ≡ v
    same = omega arith

-- the last loop's index is no earlier one
pub ready-further : (whole : ContractionTree) (e : Elements) (plan : Plan) (first : ℕ) (c : ContractionTree) (v depth i x : ℕ) (rest : List ℕ)
    → v + 1 ≡ first + operations c → NodeFits plan c v → Fits whole plan first c → drop depth (order_at plan.orders v) ≡ i ∷ rest
    → (state : State) (a : Assignment) → Ready whole e plan first c (suc depth) a state
    → Ready whole e plan first c (suc depth) (with_number a i x) state
ready-further whole e plan first c v depth i x rest num nf fits at state a h =
    settled-both plan (Holds whole e plan a state) (FusedLead plan v depth) (Holds whole e plan (with_number a i x) state)
    (λ u b holds lead z agrees inside. holds z
    (λ j k. agrees j k ∙ with-other a i x j
    (λ q. distinct-apart depth (order_at plan.orders v) j nf.distinct (lead j k)
    (ap (λ xs. among xs j) at ∙ (rw q (among_first i rest))))) inside)
    first c (suc depth) h (settled-fused whole plan first c v depth num fits)

pub inside-further : (e : Elements) (order : List ℕ) (depth i x : ℕ) (rest : List ℕ) (a : Assignment) → drop depth order ≡ i ∷ rest
    → x < e.extent i → InExtents e (among (take depth order)) a → InExtents e (among (take (suc depth) order)) (with_number a i x)
inside-further e order depth i x rest a at l h j k =
    elim (cases_eq j i) [
      | inl q ↦ rw q (subst (λ y. y < e.extent i) (sym (with-same a i x)) l)
      | inr q ↦ elim (among-take_next depth order i rest j at k) [
        | inl m ↦ subst (λ y. y < e.extent j) (sym (with-other a i x j q)) (h j m)
        | inr m ↦ absurd (q m)
      ]
    ]

pub ready-kept : (whole : ContractionTree) (e : Elements) (plan : Plan) (first : ℕ) (c : ContractionTree) (depth : ℕ)
    → (program : Program) → Settled plan (λ u b. changes program u ≡ false) first c depth → (state : State) (a z : Assignment)
    → Ready whole e plan first c depth a state → Ready whole e plan first c depth a (exec (setting_of whole e plan) program state z)
ready-kept whole e plan first c depth program alone state a z h =
    settled-both plan (Holds whole e plan a state) (λ u b. changes program u ≡ false) (Holds whole e plan a (exec (setting_of whole e plan) program state z))
    (λ u b holds same y agrees inside.
    exec-other (setting_of whole e plan) program u same state z (coordinates (kept_dims whole plan.fusion u) y) ∙ holds y agrees inside)
    first c depth h alone

-- the action of a node that finds its operands
computed : (whole : ContractionTree) (e : Elements) (plan : Plan) (c : ContractionTree) (v : ℕ) (state : State) (a : Assignment) (p : List ℕ)
    → is_leaf c ≡ false → node whole v ≡ c → FindsOperands (setting_of whole e plan) v state a
    → exec (setting_of whole e plan) (computing c v) state a v p
    ≡ (if bytes_eq p (coordinates (kept_dims whole plan.fusion v) a) then turned e c a (state v p) else state v p)
computed whole e plan (leaf tensor indexes) v state a p n at finds = absurd (true≢false n)
computed whole e plan (constant number) v state a p n at finds = absurd (true≢false n)
computed whole e plan (binary op left right) v state a p n at finds =
    rw (eq-eqb v v refl)
    (ap₂ (λ x y. if bytes_eq p (coordinates (kept_dims whole plan.fusion v) a) then arithmetic op x y else state v p)
    (finds.0 ∙ ap (λ t. value e (left_tree t) a) at) (finds.1 ∙ ap (λ t. value e (right_tree t) a) at))
computed whole e plan (sum indexes operand) v state a p n at finds =
    rw (eq-eqb v v refl)
    (elim (cases_Bool (bytes_eq p (coordinates (kept_dims whole plan.fusion v) a))) [
      | inl h ↦ rw h
          (ap₂ wrapping_add (ap (state v) (sym ((bytes_eq-Decides p (coordinates (kept_dims whole plan.fusion v) a)).0 h)))
          (finds.0 ∙ ap (λ t. value e (left_tree t) a) at))
      | inr h ↦ rw h refl
    ])

-- loops of a node from a depth on leave alone what is settled there
pub nest-alone : (plan : Plan) (first : ℕ) (c : ContractionTree) (v : ℕ) → v + 1 ≡ first + operations c → (depth : ℕ) (rest : List ℕ)
    → Settled plan (λ u b. changes (nest (inner_code plan first c) depth rest (computing c v)) u ≡ false) first c depth
nest-alone plan first c v num depth rest =
    settled-both plan (LeftAlone plan first c depth) (IsBelow first c)
    (λ u b. changes (nest (inner_code plan first c) depth rest (computing c v)) u ≡ false)
    (λ u b g k. nest-other (inner_code plan first c) depth rest (computing c v) u g (computing-other c v u (λ q. omega arith)))
    first c depth (settled-alone plan first c depth) (settled-numbers plan first c depth)

pub nest-exec : (whole : ContractionTree) (e : Elements) (plan : Plan) (first : ℕ) (c : ContractionTree) (v : ℕ)
    → v + 1 ≡ first + operations c → is_leaf c ≡ false → node whole v ≡ c → NodeFits plan c v → Fits whole plan first c
    → Advances whole e plan first c v → (rest : List ℕ) (depth : ℕ) → drop depth (order_at plan.orders v) ≡ rest
    → (state : State) (a : Assignment) → Ready whole e plan first c depth a state → InExtents e (among (take depth (order_at plan.orders v))) a → (p : List ℕ)
    → exec (setting_of whole e plan) (nest (inner_code plan first c) depth rest (computing c v)) state a v p
    ≡ nest_word e.extent (λ b. bytes_eq p (coordinates (kept_dims whole plan.fusion v) b)) (turned e c) rest a (state v p)
nest-exec whole e plan first c v num n at nf fits advance [] depth end state a ready inside p =
    ap (λ after. after v p) (exec-followed_by (setting_of whole e plan) (inner_code plan first c depth) (computing c v) state a)
    ∙ computed whole e plan c v (exec (setting_of whole e plan) (inner_code plan first c depth) state a) a p n at
    (found whole e plan first c v depth (exec (setting_of whole e plan) (inner_code plan first c depth) state a) a num n at nf fits
    (drop-end depth (order_at plan.orders v) end) (advance depth state a ready inside) inside)
    ∙ ap (λ w. if bytes_eq p (coordinates (kept_dims whole plan.fusion v) a) then turned e c a w else w)
    (exec-other (setting_of whole e plan) (inner_code plan first c depth) v (inner-other plan first c depth v (inr (omega arith))) state a p)
nest-exec whole e plan first c v num n at nf fits advance (i ∷ rest) depth next state a ready inside p =
    ap (λ after. after v p) (exec-followed_by s (inner_code plan first c depth) (loop i (nest (inner_code plan first c) (suc depth) rest (computing c v)) stop) state a)
    ∙ (repeated_related (λ after w. Ready whole e plan first c (suc depth) a after × (after v p ≡ w)) (e.extent i)
    (λ x before. exec s (nest (inner_code plan first c) (suc depth) rest (computing c v)) before (with_number a i x))
    (λ x w. nest_word e.extent (λ b. bytes_eq p (coordinates (kept_dims whole plan.fusion v) b)) (turned e c) rest (with_number a i x) w)
    (exec s (inner_code plan first c depth) state a) (state v p) (
      advance depth state a ready inside,
      exec-other s (inner_code plan first c depth) v (inner-other plan first c depth v (inr (omega arith))) state a p,
    )
    (λ x before w l h. (
      ready-kept whole e plan first c (suc depth) (nest (inner_code plan first c) (suc depth) rest (computing c v)) alone before a (with_number a i x) h.0,
      nest-exec whole e plan first c v num n at nf fits advance rest (suc depth) (drop_next depth (order_at plan.orders v) i rest next) before (with_number a i x)
          (ready-further whole e plan first c v depth i x rest num nf fits next before a h.0)
          (inside-further e (order_at plan.orders v) depth i x rest a next l inside) p
          ∙ ap (nest_word e.extent (λ b. bytes_eq p (coordinates (kept_dims whole plan.fusion v) b)) (turned e c) rest (with_number a i x)) h.1,
    ))).1
  where
    s : Setting
    s = setting_of whole e plan

    alone : Settled plan (λ u b. changes (nest (inner_code plan first c) (suc depth) rest (computing c v)) u ≡ false) first c (suc depth)
    alone = nest-alone plan first c v num (suc depth) rest
