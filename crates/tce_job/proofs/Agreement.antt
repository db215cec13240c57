-- A value depends on the elements of the tensors that its tree refers to, and on no others.
use Rattle.std.proofs.Common.{◌≡◌, ℕ, true, List, map, eq-eqb, refl, ap, ap₂}
use Rattle.std.proofs.lemmas.Bool.{or_left, or_right}
use Rattle.tce_base.specs.Word.{word}
use Rattle.tce_tree.specs.ContractionTree.{ContractionTree, leaf, constant, binary, sum}
use Rattle.tce_tree.specs.Value.{Assignment, arithmetic, sum_over, value}
use Rattle.tce_spec.specs.Contraction.{has_tensor}

-- two sources of elements agree on the tensors of a tree
abbrev pub AgreeOn : ContractionTree → (ℕ → List ℕ → ℕ) → (ℕ → List ℕ → ℕ) → Type 0
AgreeOn tree f g = (t : ℕ) (coords : List ℕ) → has_tensor t tree ≡ true → f t coords ≡ g t coords

pub same_values : (extent : ℕ → ℕ) (f g : ℕ → List ℕ → ℕ) (tree : ContractionTree) → AgreeOn tree f g → (a : Assignment)
    → value (record { extent = extent; cell = f }) tree a ≡ value (record { extent = extent; cell = g }) tree a
same_values extent f g (leaf t is) same a = ap word (same t (map a is) (eq-eqb t t refl))
same_values extent f g (constant n) same a = refl
same_values extent f g (binary op l r) same a =
    ap₂ (arithmetic op)
    (same_values extent f g l (λ t coords h. same t coords (or_left (has_tensor t l) (has_tensor t r) h)) a)
    (same_values extent f g r (λ t coords h. same t coords (or_right (has_tensor t l) (has_tensor t r) h)) a)
same_values extent f g (sum is x) same a =
    ap (λ (values : Assignment → ℕ). sum_over extent is values a) (λ i b. same_values extent f g x same b i)
