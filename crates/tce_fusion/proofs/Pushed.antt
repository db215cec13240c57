-- One order more in a list of orders.
use Rattle.std.proofs.Common.{◌≡◌, ℕ, zero, suc, ◌+◌, ◌<◌, List, [], ◌∷◌, ◌++◌, length, refl, sym, ap, ◌∙◌, subst, inl, inr, arith}
use Rattle.std.proofs.lemmas.Bool.{cases_eq}
use Rattle.tce_space.specs.declared.loop_order.LoopOrder.{LoopOrder}
use Rattle.tce_tree.specs.Fusion.{order_at}
use Rattle.tce_tree.specs.Orders.{lists_of}

order_at-before : (xs : List LoopOrder) (x : LoopOrder) (w : ℕ) → w < length xs → order_at (lists_of (xs ++ x ∷ [])) w ≡ order_at (lists_of xs) w
order_at-before [] x w l = absurd (omega arith)
order_at-before (y ∷ xs) x zero l = refl
order_at-before (y ∷ xs) x (suc w) l = order_at-before xs x w (omega arith)

order_at-last : (xs : List LoopOrder) (x : LoopOrder) → order_at (lists_of (xs ++ x ∷ [])) (length xs) ≡ x.0.items
order_at-last [] x = refl
order_at-last (y ∷ xs) x = order_at-last xs x

-- what holds of each order, and of the one more
pub pushed : (P : ℕ → List ℕ → Type 0) (xs new : List LoopOrder) (x : LoopOrder) (n : ℕ) → new ≡ xs ++ x ∷ [] → length xs ≡ n
    → ((w : ℕ) → w < n → P w (order_at (lists_of xs) w)) → P n x.0.items → (w : ℕ) → w < n + 1 → P w (order_at (lists_of new) w)
pushed P xs new x n e len before last w l =
    subst (λ ys. P w (order_at (lists_of ys) w)) (sym e)
    (elim (cases_eq w n) [
      | inl is ↦
          subst (λ k. P k (order_at (lists_of (xs ++ x ∷ [])) k)) (sym is)
          (subst (λ order. P n order) (sym (order_at-last xs x) ∙ ap (order_at (lists_of (xs ++ x ∷ []))) len) last)
      | inr ne ↦ subst (P w) (sym (order_at-before xs x w (omega arith))) (before w (omega arith))
    ])
