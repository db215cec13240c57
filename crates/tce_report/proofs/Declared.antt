-- The indexes in a plan that fits are declared, and few are fused.
use Rattle.std.proofs.Common.{◌≡◌, ℕ, zero, suc, ◌<◌, ◌≤◌, Bool, true, List, [], ◌∷◌, length, get_or, filter, All, sym, ◌∙◌, inl, inr, arith}
use Rattle.std.specs.List.{range_with_len}
use Rattle.std.proofs.lemmas.Bool.{cases_Bool}
use Rattle.std.proofs.lemmas.List.{get_or_default}
use Rattle.tce_space.specs.IndexSet.{has, members}
use Rattle.tce_space.specs.Space.{IndexSpace}
use Rattle.tce_tree.specs.ContractionTree.{ContractionTree, operations}
use Rattle.tce_tree.specs.Fusion.{FusionFits, OrdersFit, fused_at, order_at}
use Rattle.tce_tree.specs.WellFormed.{IsDeclaredTree}
use Rattle.tce_tree.proofs.Conditions.{order-has, fused_low}
use Rattle.tce_tree.proofs.Lists.{index-among}
use Rattle.tce_tree.proofs.NamedIndexes.{node_loops_declared}

pub order_declared : (space : IndexSpace) (tree : ContractionTree) (orders : List (List ℕ)) (v : ℕ) → length space.indexes ≤ 24 → IsDeclaredTree space tree → OrdersFit tree orders
    → v < operations tree → All (λ i. i < length space.indexes) (order_at orders v)
order_declared space tree orders v few declared fit inside k d l =
    node_loops_declared space tree v inside few declared (get_or (order_at orders v) k d)
    (sym (order-has tree orders fit v (get_or (order_at orders v) k d) inside)
    ∙ index-among (order_at orders v) k (get_or (order_at orders v) k d) l (get_or_default (order_at orders v) k (get_or (order_at orders v) k d) d l))

all_cons : (P : ℕ → Type 0) (x : ℕ) (xs : List ℕ) → P x → All P xs → All P (x ∷ xs)
all_cons P x xs h t zero d l = h
all_cons P x xs h t (suc k) d l = t k d (omega arith)

pub filter_passes : (p : ℕ → Bool) (P : ℕ → Type 0) → ((x : ℕ) → p x ≡ true → P x) → (xs : List ℕ) → All P (filter p xs)
filter_passes p P f [] = λ k d l. absurd (omega arith)
filter_passes p P f (x ∷ xs) = elim (cases_Bool (p x)) [
  | inl t ↦ rw t (all_cons P x (filter p xs) (f x t) (filter_passes p P f xs))
  | inr e ↦ rw e (filter_passes p P f xs)
]

pub fused_declared : (space : IndexSpace) (tree : ContractionTree) (fusion : List ℕ) (v : ℕ) → length space.indexes ≤ 24 → IsDeclaredTree space tree → FusionFits tree fusion
    → v < operations tree → All (λ i. i < length space.indexes) (members (fused_at fusion v))
unfolding members
fused_declared space tree fusion v few declared fit inside =
    filter_passes (has (fused_at fusion v)) (λ i. i < length space.indexes)
    (λ i h. node_loops_declared space tree v inside few declared i (fused_low tree fusion fit v i inside h)) (range_with_len 0 24)
