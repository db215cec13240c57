-- The text of an einsum: the labels of each operand, those of the output, and the size of each label.
use Rattle.std.specs.Prelude.{◌≡◌, ◌≢◌, IsTrue, ℕ, ◌&&◌, Bool, true, nat_le, List, [], ◌∷◌, ◌++◌, length, map, Option}
use Rattle.std.specs.declared.option.Option.TheVariants.{Some, None}
use Rattle.std.specs.List.{list_all, join_with_byte}
use Rattle.tce_space.specs.Name.{is_digit}
use Rattle.tce_fields.specs.Digits.{starts_as_number}

-- the extent of a label, and the edge of its tiles where one is given, by their digits
pub record Size : Type 0 where
  pub label : ℕ
  pub extent : List ℕ
  pub edge : Option (List ℕ)

-- a label is its letter
pub record Einsum : Type 0 where
  pub operands : List (List ℕ)
  pub output : List ℕ
  pub sizes : List Size

-- a to z
abbrev pub is_label : ℕ → Bool
is_label b = nat_le 97 b && nat_le b 122

abbrev pub are_labels : List ℕ → Bool
are_labels letters = list_all is_label letters

-- `0`, or a digit from 1 to 9 and digits behind it, at most 20 in all
abbrev pub is_number : List ℕ → Bool
is_number digits = starts_as_number digits && (list_all is_digit digits && nat_le (length digits) 20)

abbrev pub is_number_if_some : Option (List ℕ) → Bool
is_number_if_some None = true
is_number_if_some (Some digits) = is_number digits

abbrev pub is_size : Size → Bool
is_size s = is_label s.label && (is_number s.extent && is_number_if_some s.edge)

-- a slash and the edge
abbrev pub edge_text : Option (List ℕ) → List ℕ
edge_text None = []
edge_text (Some digits) = 47 ∷ digits

-- `label=EXTENT` or `label=EXTENT/EDGE`
abbrev pub size_text : Size → List ℕ
size_text s = s.label ∷ 61 ∷ (s.extent ++ edge_text s.edge)

-- the operands with a comma between each two, `->`, the output, `@`, and the sizes with a comma between each two
abbrev pub text_of : Einsum → List ℕ
text_of e = join_with_byte 44 e.operands ++ (45 ∷ 62 ∷ (e.output ++ 64 ∷ join_with_byte 44 (map size_text e.sizes)))

-- the text is that of this einsum
pub record IsText (text : List ℕ) (e : Einsum) : Type 0 where
  pub some : e.operands ≢ []
  pub operands : IsTrue (list_all are_labels e.operands)
  pub output : IsTrue (are_labels e.output)
  pub sizes : IsTrue (list_all is_size e.sizes)
  pub text_is : text ≡ text_of e
