-- Worked code: what is generated for worked trees, how it is read back, and what it leaves.
use Rattle.std.specs.Prelude.{◌≡◌, ℕ, ◌-◌, ◌==◌, List, [], ◌∷◌, map, if◌then◌else◌}
use Rattle.tce_space.specs.Box.{places}
use Rattle.tce_space.specs.IndexSet.{set_of}
use Rattle.tce_tree.specs.ContractionTree.{ContractionTree, leaf, constant, binary, add, operations}
use Rattle.tce_tree.specs.Examples.{outer_product, two_sums, affine, trace, stored}
use Rattle.tce_tree.specs.Value.{Elements}
use Rattle.tce_code.specs.Execution.{exec}
use Rattle.tce_code.specs.Generation.{code_of}
use Rattle.tce_code.specs.Plan.{Plan, plan_of, setting_of}
use Rattle.tce_code.specs.Program.{spelled, program_of}
use Rattle.tce_code.specs.Shape.{most_open}
use Rattle.tce_code.specs.declared.op.Op.{Op}
use Rattle.tce_code.specs.declared.op.Op.TheVariants.{Open, Close, Clear, Mul, Add, Sub, Acc}

-- the code of a tree with these fused indexes and loop orders, node by node
abbrev pub planned : List (List ℕ) → List (List ℕ) → Plan
planned fused orders = plan_of (map set_of fused) orders

abbrev pub listed : ContractionTree → Plan → List Op
listed tree plan = spelled (code_of plan tree)

-- the words that it leaves in the root's places, in row-major order over the extents, where all other places hold 7 before
abbrev pub left_words : ContractionTree → Plan → Elements → List ℕ → List ℕ
left_words tree plan e extents =
    map (λ at. exec (setting_of tree e plan) (program_of (listed tree plan)) (λ v p. if v == operations tree - 1 then 0 else 7) (λ i. 0) (operations tree - 1) at)
    (places extents)

-- the second sum inside the loop over its fused index j, which then leads the order of the product
abbrev pub fused_sum : Plan
fused_sum = planned ([] ∷ (1 ∷ []) ∷ [] ∷ []) ((0 ∷ 2 ∷ []) ∷ (1 ∷ 3 ∷ []) ∷ (1 ∷ 0 ∷ []) ∷ [])

-- both edges fused over i
abbrev pub fused_affine : Plan
fused_affine = planned ((0 ∷ []) ∷ (0 ∷ []) ∷ [] ∷ []) ((0 ∷ []) ∷ (0 ∷ []) ∷ (0 ∷ []) ∷ [])

abbrev pub alone : List ℕ → Plan
alone order = planned ([] ∷ []) (order ∷ [])

pub record WorkedCode : Type 0 where
  pub outer : listed outer_product (alone (0 ∷ 1 ∷ [])) ≡ Open 0 ∷ Open 1 ∷ Mul 0 ∷ Close ∷ Close ∷ []
  pub sums : listed two_sums fused_sum
      ≡ Clear 0 ∷ Open 0 ∷ Open 2 ∷ Acc 0 ∷ Close ∷ Close
      ∷ Open 1 ∷ Clear 1 ∷ Open 3 ∷ Acc 1 ∷ Close ∷ Open 0 ∷ Mul 2 ∷ Close ∷ Close ∷ []
  pub sums_read : program_of (listed two_sums fused_sum) ≡ code_of fused_sum two_sums
  pub sums_open : most_open (code_of fused_sum two_sums) ≡ 2
  pub affine_inside : listed affine fused_affine ≡ Open 0 ∷ Mul 0 ∷ Sub 1 ∷ Add 2 ∷ Close ∷ []
  pub traced : listed trace (alone (0 ∷ [])) ≡ Open 0 ∷ Acc 0 ∷ Close ∷ []
  pub constants : listed (binary add (constant 2) (constant 3)) (alone []) ≡ Add 0 ∷ []

pub record WorkedRuns : Type 0 where
  pub outer : left_words outer_product (alone (0 ∷ 1 ∷ [])) (stored 2 ((1 ∷ 2 ∷ []) ∷ (3 ∷ 4 ∷ []) ∷ [])) (2 ∷ 2 ∷ []) ≡ 3 ∷ 4 ∷ 6 ∷ 8 ∷ []
  pub added : left_words (binary add (leaf 0 (0 ∷ [])) (leaf 1 (1 ∷ []))) (alone (1 ∷ 0 ∷ [])) (stored 2 ((1 ∷ 2 ∷ []) ∷ (3 ∷ 4 ∷ []) ∷ [])) (2 ∷ 2 ∷ [])
      ≡ 4 ∷ 5 ∷ 5 ∷ 6 ∷ []
  pub sums : left_words two_sums fused_sum (stored 2 ((1 ∷ 2 ∷ 3 ∷ 4 ∷ []) ∷ (5 ∷ 6 ∷ 7 ∷ 8 ∷ []) ∷ [])) (2 ∷ 2 ∷ []) ≡ 33 ∷ 45 ∷ 77 ∷ 105 ∷ []
  pub affine_words : left_words affine fused_affine (stored 2 ((1 ∷ 2 ∷ []) ∷ (5 ∷ 5 ∷ []) ∷ [])) (2 ∷ []) ≡ 18446744073709551614 ∷ 0 ∷ []
  pub diagonal : left_words trace (alone (0 ∷ [])) (stored 2 ((1 ∷ 2 ∷ 3 ∷ 4 ∷ []) ∷ [])) [] ≡ 5 ∷ []
  pub constants : left_words (binary add (constant 2) (constant 3)) (alone []) (stored 2 []) [] ≡ 5 ∷ []
