-- Reading the text of an einsum from the left. The contracts inside this crate speak of these functions; the laws say
-- that what they read is what the grammar says, and nothing else.
use Rattle.std.specs.Prelude.{ℕ, ◌==◌, ◌&&◌, if◌then◌else◌, List, [], ◌∷◌, map, Option, option_map}
use Rattle.std.specs.declared.option.Option.TheVariants.{Some, None}
use Rattle.std.specs.List.{list_all, slice_split}
use Rattle.tce_grammar.specs.Tokens.{all_some}
use Rattle.tce_grammar.specs.Reading.{◌>>=◌}
use Rattle.tce_einsum.specs.Text.{Size, Einsum, is_label, are_labels, is_number}

-- in front of the first such byte, and behind it
unfoldable pub cut : ℕ → List ℕ → Option (List ℕ × List ℕ)
cut c [] = None
cut c (b ∷ bs) = if b == c then Some ([], bs) else option_map (λ r. (b ∷ r.0, r.1)) (cut c bs)

abbrev pub comma_parts : List ℕ → List (List ℕ)
comma_parts text = slice_split (λ b. b == 44) text

-- the numbers of a size, where the slash was looked for
abbrev pub numbers_of : ℕ → List ℕ → Option (List ℕ × List ℕ) → Option Size
numbers_of label digits None = if is_number digits then Some (record { label = label; extent = digits; edge = None }) else None
numbers_of label digits (Some r) =
    if is_number r.0 && is_number r.1 then Some (record { label = label; extent = r.0; edge = Some r.1 }) else None

unfoldable pub size_of : List ℕ → Option Size
size_of [] = None
size_of (label ∷ []) = None
size_of (label ∷ b ∷ digits) = if is_label label && b == 61 then numbers_of label digits (cut 47 digits) else None

abbrev pub sizes_in : List (List ℕ) → Option (List Size)
sizes_in texts = all_some (map size_of texts)

-- no sizes, or one or more with commas between them
unfoldable pub sizes_of : List ℕ → Option (List Size)
sizes_of [] = Some []
sizes_of (b ∷ bs) = sizes_in (comma_parts (b ∷ bs))

unfoldable pub operands_of : List ℕ → Option (List (List ℕ))
operands_of text = if list_all are_labels (comma_parts text) then Some (comma_parts text) else None

-- the output, behind the dash of the arrow
unfoldable pub output_of : List ℕ → Option (List ℕ)
output_of [] = None
output_of (b ∷ labels) = if b == 62 && are_labels labels then Some labels else None

-- what is read from the parts of a text
abbrev pub einsum_in : List ℕ → List ℕ → List ℕ → Option Einsum
einsum_in operands output sizes =
    operands_of operands >>= λ ops. output_of output >>= λ out. sizes_of sizes >>= λ ss. Some (record { operands = ops; output = out; sizes = ss })

unfoldable pub einsum_of : List ℕ → Option Einsum
einsum_of text = cut 64 text >>= λ halves. cut 45 halves.0 >>= λ sides. einsum_in sides.0 sides.1 halves.1
