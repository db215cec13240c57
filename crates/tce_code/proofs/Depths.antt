-- No more loops are open at once than a node has.
use Rattle.std.proofs.Common.{◌≡◌, ℕ, suc, ◌+◌, ◌-◌, ◌≤◌, List, [], ◌∷◌, length, drop, refl, ap, inl, inr, arith, length-drop}
use Rattle.std.proofs.lemmas.Bool.{cases_Bool, cases_order}
use Rattle.tce_space.specs.IndexSet.{count}
use Rattle.tce_tree.specs.ContractionTree.{ContractionTree, leaf, constant, binary, sum, is_leaf, operations}
use Rattle.tce_tree.specs.Fusion.{fused_at, order_at}
use Rattle.tce_code.specs.Program.{Program, stop, step, loop}
use Rattle.tce_code.specs.Generation.{followed_by, nest, computing, loops_from, clearing, operand_code, inner_code, code_of}
use Rattle.tce_code.specs.Plan.{Plan}
use Rattle.tce_code.specs.Shape.{most_open}
use Rattle.tce_code.proofs.Settled.{operand-here, operand-above, operand-past, operand-leaf}

open-followed_by : (p q : Program) (n : ℕ) → most_open p ≤ n → most_open q ≤ n → most_open (followed_by p q) ≤ n
open-followed_by stop q n h k = k
open-followed_by (step action rest) q n h k = open-followed_by rest q n h k
open-followed_by (loop i body rest) q n h k = omega (arith, open-followed_by rest q n (omega arith) k)

open-nest : (inner : ℕ → Program) (depth : ℕ) (order : List ℕ) (last : Program) (n : ℕ) → ((e : ℕ) → e ≤ n → most_open (inner e) + e ≤ n)
    → most_open last ≡ 0 → depth + length order ≤ n → most_open (nest inner depth order last) + depth ≤ n
open-nest inner depth [] last n h z l =
    let a = open-followed_by (inner depth) last (n - depth) (omega (arith, h depth (omega arith))) (omega arith) in omega arith
open-nest inner depth (i ∷ order) last n h z l =
    let b = open-nest inner (suc depth) order last n h z (omega arith) in
    let a = open-followed_by (inner depth) (loop i (nest inner (suc depth) order last) stop) (n - depth)
    (omega (arith, h depth (omega arith))) (omega arith) in omega arith

open-computing : (c : ContractionTree) (v : ℕ) → most_open (computing c v) ≡ 0
open-computing (leaf tensor indexes) v = refl
open-computing (constant number) v = refl
open-computing (binary op left right) v = refl
open-computing (sum indexes operand) v = refl

open-clearing : (c : ContractionTree) (v : ℕ) → most_open (clearing c v) ≡ 0
open-clearing (leaf tensor indexes) v = refl
open-clearing (constant number) v = refl
open-clearing (binary op left right) v = refl
open-clearing (sum indexes operand) v = refl

open-operand : (plan : Plan) (c : ContractionTree) (v : ℕ) (inner : ℕ → Program) (n depth : ℕ) → ((u : ℕ) → length (order_at plan.orders u) ≤ n)
    → ((e : ℕ) → e ≤ n → most_open (inner e) + e ≤ n) → depth ≤ n → most_open (operand_code plan c v inner depth) + depth ≤ n
open-operand plan c v inner n depth short h l =
    elim (cases_Bool (is_leaf c)) [
      | inl t ↦ omega (arith, ap most_open (operand-leaf plan c v inner depth t))
      | inr t ↦ elim (cases_order depth (count (fused_at plan.fusion v))) [
        | inl q ↦
            let a = open-nest inner depth (drop depth (order_at plan.orders v)) (computing c v) n h (open-computing c v)
            (omega (arith, length-drop depth (order_at plan.orders v), short v)) in
            let b = open-followed_by (clearing c v) (loops_from plan c v inner depth) (n - depth) (omega (arith, open-clearing c v)) (omega arith) in
            omega (arith, ap most_open (operand-here plan c v inner depth t q))
        | inr k ↦ elim k [
          | inl m ↦ omega (arith, ap most_open (operand-above plan c v inner depth t m), h depth l)
          | inr m ↦ omega (arith, ap most_open (operand-past plan c v inner depth m))
        ]
      ]
    ]

open-inner : (plan : Plan) (first : ℕ) (c : ContractionTree) (n : ℕ) → ((u : ℕ) → length (order_at plan.orders u) ≤ n) → (depth : ℕ) → depth ≤ n
    → most_open (inner_code plan first c depth) + depth ≤ n
open-inner plan first (leaf tensor indexes) n short depth l = omega arith
open-inner plan first (constant number) n short depth l = omega arith
open-inner plan first (binary op left right) n short depth l =
    let a = open-operand plan left (first + operations left - 1) (inner_code plan first left) n depth short (λ e k. open-inner plan first left n short e k) l in
    let b = open-operand plan right (first + operations left + operations right - 1) (inner_code plan (first + operations left) right) n depth short
    (λ e k. open-inner plan (first + operations left) right n short e k) l in
    let c = open-followed_by (operand_code plan left (first + operations left - 1) (inner_code plan first left) depth)
    (operand_code plan right (first + operations left + operations right - 1) (inner_code plan (first + operations left) right) depth) (n - depth)
    (omega arith) (omega arith) in omega arith
open-inner plan first (sum indexes operand) n short depth l =
    open-operand plan operand (first + operations operand - 1) (inner_code plan first operand) n depth short (λ e k. open-inner plan first operand n short e k) l

pub code-open : (plan : Plan) (tree : ContractionTree) (n : ℕ) → ((u : ℕ) → length (order_at plan.orders u) ≤ n) → most_open (code_of plan tree) ≤ n
code-open plan tree n short =
    let a = open-nest (inner_code plan 0 tree) 0 (order_at plan.orders (operations tree - 1)) (computing tree (operations tree - 1)) n
    (λ e k. open-inner plan 0 tree n short e k) (open-computing tree (operations tree - 1)) (omega (arith, short (operations tree - 1))) in omega arith
