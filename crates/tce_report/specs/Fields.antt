-- The fields of a node line, between its spaces.
use Rattle.std.specs.Prelude.{ℕ, List, [], ◌∷◌, codes, Option, ◌≡◌}
use Rattle.std.specs.declared.option.Option.TheVariants.{Some, None}
use Rattle.std.specs.Fmt.{decimal}
use Rattle.tce_report.specs.Names.{listed}
use Rattle.tce_report.specs.NodeLine.{kind_word}
use Rattle.tce_report.specs.NodeForm.{Form, ArrayForm, IsArrayForm, IsForm}

abbrev pub array_fields : Option ArrayForm → List (List ℕ)
array_fields None = codes "result" ∷ []
array_fields (Some array) = codes "fused" ∷ listed array.fused ∷ codes "size" ∷ decimal array.size ∷ []

abbrev pub form_fields : Form → List (List ℕ)
form_fields form =
    codes "node" ∷ decimal form.node ∷ kind_word form.kind ∷ codes "loops" ∷ listed form.order ∷ array_fields form.array

-- the fields are those of this form
abbrev pub HasArrayFields : List (List ℕ) → Option ArrayForm → Type 0
HasArrayFields fields array = IsArrayForm array × (fields ≡ array_fields array)

abbrev pub HasFormFields : List (List ℕ) → Form → Type 0
HasFormFields fields form = IsForm form × (fields ≡ form_fields form)
