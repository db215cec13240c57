-- The nodes whose places are settled where the loops of a tree stand open down to a depth.
use Rattle.std.proofs.Common.{◌≡◌, ℕ, suc, ◌+◌, ◌-◌, ◌<◌, ◌≤◌, ◌⊎◌, true, false, List, [], ◌∷◌, drop, refl, ap, ◌∙◌, inl, inr, arith}
use Rattle.std.proofs.lemmas.Bool.{ne_eqb, cases_Bool, cases_order, lt-ltb, le-ltb, eq-eqb}
use Rattle.tce_space.specs.IndexSet.{count}
use Rattle.tce_tree.specs.ContractionTree.{ContractionTree, leaf, constant, binary, sum, is_leaf, operations}
use Rattle.tce_tree.specs.Fusion.{fused_at, order_at}
use Rattle.tce_tree.proofs.Nodes.{node-positive}
use Rattle.tce_code.specs.Program.{Program, stop, loop}
use Rattle.tce_code.specs.Generation.{followed_by, nest, computing, loops_from, clearing, operand_code, inner_code}
use Rattle.tce_code.specs.Plan.{Plan}
use Rattle.tce_code.proofs.Frames.{changes, changes-followed_by}

-- Q holds of an operand that joins the loops above the depth, and `inner` where it joins them further in
abbrev pub OperandSettled : Plan → (ℕ → ContractionTree → Type 0) → ContractionTree → ℕ → Type 0 → ℕ → Type 0
OperandSettled plan Q tree v inner depth =
    is_leaf tree ≡ false → (count (fused_at plan.fusion v) < depth → Q v tree) × (depth ≤ count (fused_at plan.fusion v) → inner)

-- Q holds of each node that has been computed and is still to be read
abbrev pub Settled : Plan → (ℕ → ContractionTree → Type 0) → ℕ → ContractionTree → ℕ → Type 0
Settled plan Q first (leaf tensor indexes) depth = Unit {0}
Settled plan Q first (constant number) depth = Unit {0}
Settled plan Q first (binary op left right) depth =
    OperandSettled plan Q left (first + operations left - 1) (Settled plan Q first left depth) depth
    × OperandSettled plan Q right (first + operations left + operations right - 1) (Settled plan Q (first + operations left) right depth) depth
Settled plan Q first (sum indexes operand) depth =
    OperandSettled plan Q operand (first + operations operand - 1) (Settled plan Q first operand depth) depth

pub settled-map : (plan : Plan) (Q R : ℕ → ContractionTree → Type 0) → ((v : ℕ) (c : ContractionTree) → Q v c → R v c)
    → (first : ℕ) (tree : ContractionTree) (depth : ℕ) → Settled plan Q first tree depth → Settled plan R first tree depth
settled-map plan Q R f first (leaf tensor indexes) depth h = tt
settled-map plan Q R f first (constant number) depth h = tt
settled-map plan Q R f first (binary op left right) depth h = (
  (λ n. ((λ k. f (first + operations left - 1) left ((h.0 n).0 k)), (λ k. settled-map plan Q R f first left depth ((h.0 n).1 k)))),
  (λ n. ((λ k. f (first + operations left + operations right - 1) right ((h.1 n).0 k)), (λ k. settled-map plan Q R f (first + operations left) right depth ((h.1 n).1 k)))),
)
settled-map plan Q R f first (sum indexes operand) depth h =
    λ n. ((λ k. f (first + operations operand - 1) operand ((h n).0 k)), (λ k. settled-map plan Q R f first operand depth ((h n).1 k)))

pub settled-both : (plan : Plan) (Q R S : ℕ → ContractionTree → Type 0) → ((v : ℕ) (c : ContractionTree) → Q v c → R v c → S v c)
    → (first : ℕ) (tree : ContractionTree) (depth : ℕ)
    → Settled plan Q first tree depth → Settled plan R first tree depth → Settled plan S first tree depth
settled-both plan Q R S f first (leaf tensor indexes) depth h j = tt
settled-both plan Q R S f first (constant number) depth h j = tt
settled-both plan Q R S f first (binary op left right) depth h j = (
  (λ n. (
    (λ k. f (first + operations left - 1) left ((h.0 n).0 k) ((j.0 n).0 k)),
    (λ k. settled-both plan Q R S f first left depth ((h.0 n).1 k) ((j.0 n).1 k)),
  )),
  (λ n. (
    (λ k. f (first + operations left + operations right - 1) right ((h.1 n).0 k) ((j.1 n).0 k)),
    (λ k. settled-both plan Q R S f (first + operations left) right depth ((h.1 n).1 k) ((j.1 n).1 k)),
  )),
)
settled-both plan Q R S f first (sum indexes operand) depth h j =
    λ n. (
      (λ k. f (first + operations operand - 1) operand ((h n).0 k) ((j n).0 k)),
      (λ k. settled-both plan Q R S f first operand depth ((h n).1 k) ((j n).1 k)),
    )

abbrev pub IsBelow : ℕ → ContractionTree → ℕ → ContractionTree → Type 0
IsBelow first tree v c = (first ≤ v) × (v + 1 < first + operations tree)

-- they stand below the tree itself
pub settled-numbers : (plan : Plan) (first : ℕ) (tree : ContractionTree) (depth : ℕ) → Settled plan (IsBelow first tree) first tree depth
settled-numbers plan first (leaf tensor indexes) depth = tt
settled-numbers plan first (constant number) depth = tt
settled-numbers plan first (binary op left right) depth = (
  (λ n. (
    (λ k. let m = node-positive left n in (omega arith, omega arith)),
    (λ k. settled-map plan (IsBelow first left) (IsBelow first (binary op left right)) (λ v c b. (omega arith, omega arith)) first left depth (settled-numbers plan first left depth)),
  )),
  (λ n. (
    (λ k. let m = node-positive right n in (omega arith, omega arith)),
    (λ k. settled-map plan (IsBelow (first + operations left) right) (IsBelow first (binary op left right)) (λ v c b. (omega arith, omega arith)) (first + operations left) right depth
        (settled-numbers plan (first + operations left) right depth)),
  )),
)
settled-numbers plan first (sum indexes operand) depth =
    λ n. (
      (λ k. let m = node-positive operand n in (omega arith, omega arith)),
      (λ k. settled-map plan (IsBelow first operand) (IsBelow first (sum indexes operand)) (λ v c b. (omega arith, omega arith)) first operand depth (settled-numbers plan first operand depth)),
    )

pub nest-other : (inner : ℕ → Program) (depth : ℕ) (order : List ℕ) (last : Program) (u : ℕ)
    → ((e : ℕ) → depth ≤ e → changes (inner e) u ≡ false) → changes last u ≡ false → changes (nest inner depth order last) u ≡ false
nest-other inner depth [] last u h k = changes-followed_by (inner depth) last u (h depth (omega arith)) k
nest-other inner depth (i ∷ order) last u h k =
    changes-followed_by (inner depth) (loop i (nest inner (suc depth) order last) stop) u (h depth (omega arith))
    (rw (nest-other inner (suc depth) order last u (λ e l. h e (omega arith)) k) refl)

pub computing-other : (tree : ContractionTree) (v u : ℕ) → (u ≡ v → ⊥) → changes (computing tree v) u ≡ false
computing-other (leaf tensor indexes) v u h = refl
computing-other (constant number) v u h = refl
computing-other (binary op left right) v u h = rw (ne_eqb u v h) refl
computing-other (sum indexes operand) v u h = rw (ne_eqb u v h) refl

pub clearing-other : (tree : ContractionTree) (v u : ℕ) → (u ≡ v → ⊥) → changes (clearing tree v) u ≡ false
clearing-other (leaf tensor indexes) v u h = refl
clearing-other (constant number) v u h = refl
clearing-other (binary op left right) v u h = refl
clearing-other (sum indexes operand) v u h = rw (ne_eqb u v h) refl

-- where an operand's code stands
pub operand-leaf : (plan : Plan) (tree : ContractionTree) (v : ℕ) (inner : ℕ → Program) (depth : ℕ)
    → is_leaf tree ≡ true → operand_code plan tree v inner depth ≡ stop
operand-leaf plan tree v inner depth h = rw h refl

pub operand-above : (plan : Plan) (tree : ContractionTree) (v : ℕ) (inner : ℕ → Program) (depth : ℕ)
    → is_leaf tree ≡ false → depth < count (fused_at plan.fusion v) → operand_code plan tree v inner depth ≡ inner depth
operand-above plan tree v inner depth h l = rw (h, lt-ltb depth (count (fused_at plan.fusion v)) l) refl

pub operand-here : (plan : Plan) (tree : ContractionTree) (v : ℕ) (inner : ℕ → Program) (depth : ℕ)
    → is_leaf tree ≡ false → depth ≡ count (fused_at plan.fusion v)
    → operand_code plan tree v inner depth ≡ followed_by (clearing tree v) (loops_from plan tree v inner depth)
operand-here plan tree v inner depth h e =
    rw (h, le-ltb depth (count (fused_at plan.fusion v)) (omega arith), eq-eqb depth (count (fused_at plan.fusion v)) e) refl

pub operand-past : (plan : Plan) (tree : ContractionTree) (v : ℕ) (inner : ℕ → Program) (depth : ℕ)
    → count (fused_at plan.fusion v) < depth → operand_code plan tree v inner depth ≡ stop
operand-past plan tree v inner depth l =
    elim (cases_Bool (is_leaf tree)) [
      | inl e ↦ operand-leaf plan tree v inner depth e
      | inr e ↦ rw (e, le-ltb depth (count (fused_at plan.fusion v)) (omega arith), ne_eqb depth (count (fused_at plan.fusion v)) (λ q. omega arith)) refl
    ]

pub operand-other : (plan : Plan) (tree : ContractionTree) (v : ℕ) (inner : ℕ → Program) (depth u : ℕ) → (is_leaf tree ≡ false → u ≡ v → ⊥)
    → ((e : ℕ) → depth ≤ e → changes (inner e) u ≡ false) → changes (operand_code plan tree v inner depth) u ≡ false
operand-other plan tree v inner depth u ne h =
    elim (cases_Bool (is_leaf tree)) [
      | inl e ↦ ap (λ p. changes p u) (operand-leaf plan tree v inner depth e)
      | inr e ↦ elim (cases_order depth (count (fused_at plan.fusion v))) [
        | inl q ↦ ap (λ p. changes p u) (operand-here plan tree v inner depth e q)
            ∙ changes-followed_by (clearing tree v) (loops_from plan tree v inner depth) u (clearing-other tree v u (ne e))
            (nest-other inner depth (drop depth (order_at plan.orders v)) (computing tree v) u h (computing-other tree v u (ne e)))
        | inr c ↦ elim c [
          | inl l ↦ ap (λ p. changes p u) (operand-above plan tree v inner depth e l) ∙ h depth (omega arith)
          | inr l ↦ ap (λ p. changes p u) (operand-past plan tree v inner depth l)
        ]
      ]
    ]

-- code of a tree's inside changes places of nodes of its inside alone
pub inner-other : (plan : Plan) (first : ℕ) (tree : ContractionTree) (depth u : ℕ)
    → (u < first) ⊎ (first + operations tree ≤ u + 1) → changes (inner_code plan first tree depth) u ≡ false
inner-other plan first (leaf tensor indexes) depth u h = refl
inner-other plan first (constant number) depth u h = refl
inner-other plan first (binary op left right) depth u h =
    changes-followed_by
    (operand_code plan left (first + operations left - 1) (inner_code plan first left) depth)
    (operand_code plan right (first + operations left + operations right - 1) (inner_code plan (first + operations left) right) depth) u
    (operand-other plan left (first + operations left - 1) (inner_code plan first left) depth u
    (λ n q. let m = node-positive left n in elim h [ inl l ↦ omega arith | inr l ↦ omega arith ])
    (λ e k. inner-other plan first left e u (elim h [ inl l ↦ inl l | inr l ↦ inr (omega arith) ])))
    (operand-other plan right (first + operations left + operations right - 1) (inner_code plan (first + operations left) right) depth u
    (λ n q. let m = node-positive right n in elim h [ inl l ↦ omega arith | inr l ↦ omega arith ])
    (λ e k. inner-other plan (first + operations left) right e u (elim h [ inl l ↦ inl (omega arith) | inr l ↦ inr (omega arith) ])))
inner-other plan first (sum indexes operand) depth u h =
    operand-other plan operand (first + operations operand - 1) (inner_code plan first operand) depth u
    (λ n q. let m = node-positive operand n in elim h [ inl l ↦ omega arith | inr l ↦ omega arith ])
    (λ e k. inner-other plan first operand e u (elim h [ inl l ↦ inl l | inr l ↦ inr (omega arith) ]))

-- the whole code of an operand changes places of its nodes alone
pub operand-outside : (plan : Plan) (first : ℕ) (tree : ContractionTree) (depth u : ℕ)
    → (u < first) ⊎ (first + operations tree ≤ u)
    → changes (operand_code plan tree (first + operations tree - 1) (inner_code plan first tree) depth) u ≡ false
operand-outside plan first tree depth u h =
    operand-other plan tree (first + operations tree - 1) (inner_code plan first tree) depth u
    (λ n q. let m = node-positive tree n in elim h [ inl l ↦ omega arith | inr l ↦ omega arith ])
    (λ e k. inner-other plan first tree e u (elim h [ inl l ↦ inl l | inr l ↦ inr (omega arith) ]))

-- code from a depth on leaves alone what is settled there
abbrev pub LeftAlone : Plan → ℕ → ContractionTree → ℕ → ℕ → ContractionTree → Type 0
LeftAlone plan first tree depth u c = (e : ℕ) → depth ≤ e → changes (inner_code plan first tree e) u ≡ false

abbrev pub OperandLeftAlone : Plan → ℕ → ContractionTree → ℕ → ℕ → ContractionTree → Type 0
OperandLeftAlone plan first tree depth u c = (first ≤ u) × (u < first + operations tree)
    × ((e : ℕ) → depth ≤ e → changes (operand_code plan tree (first + operations tree - 1) (inner_code plan first tree) e) u ≡ false)

operand-alone : (plan : Plan) (first : ℕ) (tree : ContractionTree) (depth : ℕ)
    → Settled plan (LeftAlone plan first tree depth) first tree depth
    → OperandSettled plan (OperandLeftAlone plan first tree depth) tree (first + operations tree - 1)
    (Settled plan (OperandLeftAlone plan first tree depth) first tree depth) depth
operand-alone plan first tree depth h = λ n.
    let m = node-positive tree n in (
      (λ k. (
        omega arith,
        omega arith,
        (λ e l. ap (λ p. changes p (first + operations tree - 1))
            (operand-past plan tree (first + operations tree - 1) (inner_code plan first tree) e (omega arith))),
      )),
      (λ k. settled-both plan (LeftAlone plan first tree depth) (IsBelow first tree) (OperandLeftAlone plan first tree depth)
          (λ u c g b. (
            b.0,
            omega arith,
            (λ e l. operand-other plan tree (first + operations tree - 1) (inner_code plan first tree) e u (λ w q. omega arith)
                (λ d j. g d (omega arith))),
          ))
          first tree depth h (settled-numbers plan first tree depth)),
    )

pub operand_settled-map : (plan : Plan) (Q R : ℕ → ContractionTree → Type 0) → ((v : ℕ) (c : ContractionTree) → Q v c → R v c)
    → (first : ℕ) (tree : ContractionTree) (depth : ℕ)
    → OperandSettled plan Q tree (first + operations tree - 1) (Settled plan Q first tree depth) depth
    → OperandSettled plan R tree (first + operations tree - 1) (Settled plan R first tree depth) depth
operand_settled-map plan Q R f first tree depth h =
    λ n. ((λ k. f (first + operations tree - 1) tree ((h n).0 k)), (λ k. settled-map plan Q R f first tree depth ((h n).1 k)))

pub settled-alone : (plan : Plan) (first : ℕ) (tree : ContractionTree) (depth : ℕ)
    → Settled plan (LeftAlone plan first tree depth) first tree depth
settled-alone plan first (leaf tensor indexes) depth = tt
settled-alone plan first (constant number) depth = tt
settled-alone plan first (binary op left right) depth = (
  operand_settled-map plan (OperandLeftAlone plan first left depth) (LeftAlone plan first (binary op left right) depth)
      (λ u c g e l. changes-followed_by
      (operand_code plan left (first + operations left - 1) (inner_code plan first left) e)
      (operand_code plan right (first + operations left + operations right - 1) (inner_code plan (first + operations left) right) e) u
      (g.2 e l) (operand-outside plan (first + operations left) right e u (inl g.1)))
      first left depth (operand-alone plan first left depth (settled-alone plan first left depth)),
  operand_settled-map plan (OperandLeftAlone plan (first + operations left) right depth) (LeftAlone plan first (binary op left right) depth)
      (λ u c g e l. changes-followed_by
      (operand_code plan left (first + operations left - 1) (inner_code plan first left) e)
      (operand_code plan right (first + operations left + operations right - 1) (inner_code plan (first + operations left) right) e) u
      (operand-outside plan first left e u (inr g.0)) (g.2 e l))
      (first + operations left) right depth (operand-alone plan (first + operations left) right depth (settled-alone plan (first + operations left) right depth)),
)
settled-alone plan first (sum indexes operand) depth =
    operand_settled-map plan (OperandLeftAlone plan first operand depth) (LeftAlone plan first (sum indexes operand) depth) (λ u c g. g.2)
    first operand depth (operand-alone plan first operand depth (settled-alone plan first operand depth))
