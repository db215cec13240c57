-- What the program makes of the parts of a piece is its specification.
use Rattle.std.proofs.Common.{◌≡◌, ℕ, ◌<◌, ◌≤◌, List, length, sym, ap, subst, arith}
use Rattle.tce_tree.specs.ContractionTree.{ContractionTree}
use Rattle.tce_spec.specs.Declarations.{Declarations}
use Rattle.tce_spec.specs.Contraction.{IsContraction}
use Rattle.tce_spec.specs.Specification.{Specification}

pub room_for_target : (xs us : List ℕ) → xs ≡ us → length us ≤ 31 → length xs < 64
room_for_target xs us is few = omega (arith, ap length is, few)

pub is_made : (p : Specification) (d : Declarations) (n : ℕ) (xs : List ℕ) (t : ContractionTree) → d ≡ p.declarations → n ≡ p.result → xs ≡ p.indexes → t ≡ p.tree
    → record { declarations = d; result = n; indexes = xs; tree = t } ≡ p
is_made p d n xs t a b c e = λ i. record { declarations = a i; result = b i; indexes = c i; tree = e i }

pub contraction_made : (p : Specification) (d : Declarations) (n : ℕ) (xs : List ℕ) (t : ContractionTree) → d ≡ p.declarations → n ≡ p.result → xs ≡ p.indexes → t ≡ p.tree
    → IsContraction p.declarations p.result p.indexes p.tree → IsContraction d n xs t
contraction_made p d n xs t a b c e h =
    subst (λ (s : Specification). IsContraction s.declarations s.result s.indexes s.tree) (sym (is_made p d n xs t a b c e)) h
