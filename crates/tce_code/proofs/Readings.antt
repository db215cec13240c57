-- The code of a tree finds the operands' values, and leaves the node's.
use Rattle.std.proofs.Common.{◌≡◌, ℕ, zero, suc, ◌+◌, ◌-◌, ◌<◌, ◌≤◌, Bool, true, false, List, [], ◌∷◌, length, take, if◌then◌else◌, refl, sym, ap, ◌∙◌, subst, arith}
use Rattle.std.proofs.lemmas.Bool.{or_left, or_right, true≢false}
use Rattle.std.proofs.lemmas.List.{take_all}
use Rattle.tce_space.specs.IndexSet.{count, has}
use Rattle.tce_space.proofs.IndexSetLaws.{has-union}
use Rattle.tce_tree.specs.ContractionTree.{ContractionTree, leaf, constant, binary, sum, is_leaf, operations, dims, loops, node}
use Rattle.tce_base.specs.Word.{wrapping_add}
use Rattle.tce_tree.specs.Value.{Assignment, with_number, Elements, value}
use Rattle.tce_code.specs.Execution.{State, coordinates, exec, operand_word, repeated, FindsOperands}
use Rattle.tce_code.specs.Plan.{setting_of, Plan}
use Rattle.tce_code.specs.Generation.{inner_code}
use Rattle.tce_tree.specs.WellFormed.{among, is_distinct}
use Rattle.tce_tree.specs.Fusion.{fused_at, order_at, kept_dims}
use Rattle.tce_code.proofs.Settled.{OperandSettled, Settled}

-- the numbers lie in their extents
abbrev pub InExtents : Elements → (ℕ → Bool) → Assignment → Type 0
InExtents e test a = (i : ℕ) → test i ≡ true → a i < e.extent i

-- the order of a node goes through its loops, each once
pub record NodeFits (plan : Plan) (c : ContractionTree) (v : ℕ) : Type 0 where
  pub distinct : is_distinct (order_at plan.orders v) ≡ true
  pub each : (i : ℕ) → has (loops c) i ≡ among (order_at plan.orders v) i

-- the fused indexes of node `v` lead its order and that of its parent `p`
pub record EdgeFits (plan : Plan) (c : ContractionTree) (v p : ℕ) : Type 0 where
  pub within : (i : ℕ) → has (fused_at plan.fusion v) i ≡ true → has (dims c) i ≡ true
  pub joint : take (count (fused_at plan.fusion v)) (order_at plan.orders v) ≡ take (count (fused_at plan.fusion v)) (order_at plan.orders p)
  pub members : (i : ℕ) → has (fused_at plan.fusion v) i ≡ among (take (count (fused_at plan.fusion v)) (order_at plan.orders v)) i
  pub low : count (fused_at plan.fusion v) ≤ length (order_at plan.orders v)
  pub high : count (fused_at plan.fusion v) ≤ length (order_at plan.orders p)

-- an operand `c` of node `p`, whose node, if it is one, is `v` of the whole tree
pub record OperandFits (whole : ContractionTree) (plan : Plan) (c : ContractionTree) (v p : ℕ) : Type 0 where
  pub found : node whole v ≡ c
  pub node_fits : NodeFits plan c v
  pub edge : EdgeFits plan c v p

abbrev pub Fits : ContractionTree → Plan → ℕ → ContractionTree → Type 0
Fits whole plan first (leaf tensor indexes) = Unit {0}
Fits whole plan first (constant number) = Unit {0}
Fits whole plan first (binary op left right) =
    (is_leaf left ≡ false → OperandFits whole plan left (first + operations left - 1) (first + operations left + operations right))
    × (is_leaf right ≡ false → OperandFits whole plan right (first + operations left + operations right - 1) (first + operations left + operations right))
    × Fits whole plan first left × Fits whole plan (first + operations left) right
Fits whole plan first (sum indexes operand) =
    (is_leaf operand ≡ false → OperandFits whole plan operand (first + operations operand - 1) (first + operations operand))
    × Fits whole plan first operand

-- every place of node `v` that belongs to the fused numbers holds the node's value
abbrev pub Holds : ContractionTree → Elements → Plan → Assignment → State → ℕ → ContractionTree → Type 0
Holds whole e plan a state v c =
    (b : Assignment) → ((i : ℕ) → has (fused_at plan.fusion v) i ≡ true → b i ≡ a i) → InExtents e (has (dims c)) b
    → state v (coordinates (kept_dims whole plan.fusion v) b) ≡ value e c b

abbrev pub Ready : ContractionTree → Elements → Plan → ℕ → ContractionTree → ℕ → Assignment → State → Type 0
Ready whole e plan first c depth a state = Settled plan (Holds whole e plan a state) first c depth

abbrev pub Advances : ContractionTree → Elements → Plan → ℕ → ContractionTree → ℕ → Type 0
Advances whole e plan first c v =
    (depth : ℕ) (state : State) (a : Assignment) → Ready whole e plan first c depth a state
    → InExtents e (among (take depth (order_at plan.orders v))) a
    → Ready whole e plan first c (suc depth) a (exec (setting_of whole e plan) (inner_code plan first c depth) state a)

-- what node `c` makes of a word, at an assignment of its loops
abbrev pub turned : Elements → ContractionTree → Assignment → ℕ → ℕ
turned e (leaf tensor indexes) a old = old
turned e (constant number) a old = old
turned e (binary op left right) a old = value e (binary op left right) a
turned e (sum indexes operand) a old = wrapping_add old (value e operand a)

-- what loops make of a word that is turned at each assignment that hits it
abbrev pub nest_word : (ℕ → ℕ) → (Assignment → Bool) → (Assignment → ℕ → ℕ) → List ℕ → Assignment → ℕ → ℕ
nest_word extent hits turn [] a old = if hits a then turn a old else old
nest_word extent hits turn (i ∷ rest) a old =
    repeated (extent i) (λ x w. nest_word extent hits turn rest (with_number a i x) w) old

pub repeated_related : {X Y : Type 0} (R : X → Y → Type 0) (n : ℕ) (turn : ℕ → X → X) (other : ℕ → Y → Y) (x : X) (y : Y)
    → R x y → ((k : ℕ) (u : X) (w : Y) → k < n → R u w → R (turn k u) (other k w)) → R (repeated n turn x) (repeated n other y)
repeated_related R zero turn other x y start more = start
repeated_related R (suc n) turn other x y start more =
    more n (repeated n turn x) (repeated n other y) (omega arith)
    (repeated_related R n turn other x y start (λ k u w l. more k u w (omega arith)))

-- the words of the operands of a node all of whose loops are open
operand-found : (whole : ContractionTree) (e : Elements) (plan : Plan) (c : ContractionTree) (v p depth : ℕ) (inner : Type 0) (state : State) (a : Assignment)
    → (is_leaf c ≡ false → OperandFits whole plan c v p) → length (order_at plan.orders p) ≤ depth
    → OperandSettled plan (Holds whole e plan a state) c v inner (suc depth) → InExtents e (has (dims c)) a
    → operand_word (setting_of whole e plan) c v state a ≡ value e c a
operand-found whole e plan (leaf tensor indexes) v p depth inner state a fits l h x = refl
operand-found whole e plan (constant number) v p depth inner state a fits l h x = refl
operand-found whole e plan (binary op left right) v p depth inner state a fits l h x =
    let k = (fits refl).edge.high in (h refl).0 (omega arith) a (λ i q. refl) x
operand-found whole e plan (sum indexes operand) v p depth inner state a fits l h x =
    let k = (fits refl).edge.high in (h refl).0 (omega arith) a (λ i q. refl) x

pub all-open : (e : Elements) (plan : Plan) (c : ContractionTree) (v depth : ℕ) (a : Assignment) → NodeFits plan c v
    → length (order_at plan.orders v) ≤ depth → InExtents e (among (take depth (order_at plan.orders v))) a → InExtents e (has (loops c)) a
all-open e plan c v depth a fits l h i k =
    h i (ap (λ xs. among xs i) (take_all depth (order_at plan.orders v) l) ∙ sym (fits.each i) ∙ k)

pub found : (whole : ContractionTree) (e : Elements) (plan : Plan) (first : ℕ) (c : ContractionTree) (v depth : ℕ) (state : State) (a : Assignment)
    → v + 1 ≡ first + operations c → is_leaf c ≡ false → node whole v ≡ c → NodeFits plan c v → Fits whole plan first c → length (order_at plan.orders v) ≤ depth
    → Ready whole e plan first c (suc depth) a state → InExtents e (among (take depth (order_at plan.orders v))) a
    → FindsOperands (setting_of whole e plan) v state a
found whole e plan first (leaf tensor indexes) v depth state a num n at nf fits l h x = absurd (true≢false n)
found whole e plan first (constant number) v depth state a num n at nf fits l h x = absurd (true≢false n)
found whole e plan first (binary op left right) v depth state a num n at nf fits l h x =
    rw (at, left_is, right_is) (
      operand-found whole e plan left (first + operations left - 1) (first + operations left + operations right) depth
          (Ready whole e plan first left (suc depth) a state) state a fits.0 lp h.0
          (λ i k. in_loops i (has-union (dims left) (dims right) i ∙ or_left (has (dims left) i) (has (dims right) i) k)),
      operand-found whole e plan right (first + operations left + operations right - 1) (first + operations left + operations right) depth
          (Ready whole e plan (first + operations left) right (suc depth) a state) state a fits.1 lp h.1
          (λ i k. in_loops i (has-union (dims left) (dims right) i ∙ or_right (has (dims left) i) (has (dims right) i) k)),
    )
  where
    in_loops : InExtents e (has (loops (binary op left right))) a
    in_loops = all-open e plan (binary op left right) v depth a nf l x

    left_is : v - 1 - operations right ≡ first + operations left - 1
    left_is = omega arith

    right_is : v - 1 ≡ first + operations left + operations right - 1
    right_is = omega arith

    same : v ≡ first + operations left + operations right
    same = omega arith

    lp : length (order_at plan.orders (first + operations left + operations right)) ≤ depth
    lp = subst (λ k. length (order_at plan.orders k) ≤ depth) same l
found whole e plan first (sum indexes operand) v depth state a num n at nf fits l h x =
    rw (at, number) (
      operand-found whole e plan operand (first + operations operand - 1) (first + operations operand) depth
          (Ready whole e plan first operand (suc depth) a state) state a fits.0
          (subst (λ k. length (order_at plan.orders k) ≤ depth) same l) h (all-open e plan (sum indexes operand) v depth a nf l x),
      refl,
    )
  where
    number : v - 1 - 0 ≡ first + operations operand - 1
    number = omega arith

    same : v ≡ first + operations operand
    same = omega arith
