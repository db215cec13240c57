-- Each label that stands in an operand or in the output has one size, and no other label has one.
use Rattle.std.specs.Prelude.{◌≡◌, ℕ, ◌<◌, ◌==◌, ◌||◌, not, Bool, false, IsTrue, if◌then◌else◌}
use Rattle.std.specs.List.{list_any, count_by}
use Rattle.tce_einsum.specs.Text.{Size, Einsum, is_label}

-- whether a label stands in an operand or in the output
abbrev pub stands : Einsum → ℕ → Bool
stands e label = list_any (list_any (λ b. b == label)) e.operands || list_any (λ b. b == label) e.output

-- how many sizes a label has
abbrev pub size_count : Einsum → ℕ → ℕ
size_count e label = count_by (λ (s : Size). s.label == label) e.sizes

-- whether a label that stands has not one size, or another has a size
abbrev pub is_missized : Einsum → ℕ → Bool
is_missized e label = not (size_count e label == (if stands e label then 1 else 0))

-- the least such letter
pub record IsBadSize (e : Einsum) (label : ℕ) : Type 0 where
  pub letter : IsTrue (is_label label)
  pub missized : IsTrue (is_missized e label)
  pub least : (other : ℕ) → IsTrue (is_label other) → other < label → is_missized e other ≡ false

-- there is none
abbrev pub AreSized : Einsum → Type 0
AreSized e = (label : ℕ) → IsTrue (is_label label) → is_missized e label ≡ false
