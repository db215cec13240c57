-- The refusals of an input exclude each other, and its being as needed.
use Rattle.std.proofs.Common.{◌≡◌, ◌≢◌, refl, sym, ap, subst, ◌∙◌, ◌⊎◌, inl, inr, ℕ, ◌<◌, List, ◌++◌, Option, Some, None, Result, Ok, Err, codes, length, Bool, true, false, arith}
use Rattle.std.proofs.lemmas.Bool.{cases_lt, true≢false}
use Rattle.std.specs.Option.{IsSomeAnd}
use Rattle.std.specs.Fmt.{decimal}
use Rattle.tce_outside.specs.Files.{Files, file}
use Rattle.tce_space.specs.Tiling.{Tiling, elements}
use Rattle.tce_space.proofs.Boxes.{places_every}
use Rattle.tce_array.specs.declared.form.Form.{Form}
use Rattle.tce_array.specs.declared.form.Form.TheVariants.{Narrow}
use Rattle.tce_array.specs.declared.fault.ArrayFault.{ArrayFault}
use Rattle.tce_array.specs.declared.fault.ArrayFault.TheVariants as array_fault
use Rattle.tce_array.specs.Forms.{IsArray, form_of}
use Rattle.tce_array.proofs.OneAnswer.{agree}
use Rattle.tce_tools.specs.Flat.{flat_len, array_element}
use Rattle.tce_tools.specs.Answers.{IsFirstMisfit, IsRefused, HasFlat, HasArray, HasFitting, FitBefore}
use Rattle.tce_command.specs.Report.{array_text, fault_of as fault_of_array}
use Rattle.tce_command.specs.declared.trouble.ArrayTrouble.{ArrayTrouble}
use Rattle.tce_command.specs.declared.trouble.ArrayTrouble.TheVariants as contents
use Rattle.tce_command.specs.Refusals.{SameRefusal}
use Rattle.tce_command.specs.declared.refusal.Refusal.{Refusal}
use Rattle.tce_command.specs.declared.refusal.Refusal.TheVariants.{Specification, Missing, Array, Budget, Intermediates, Flat, Tensor, Misfit, Einsum, Spill, Symmetry, Disk, Memory}
use Rattle.tce_command.proofs.Outcomes.{not_absent}
use Rattle.tce_flat.specs.Tensors.{array_file}
use Rattle.tce_flat.specs.Refusals.{IsFlatRefusal, IsArrayRefusal, IsFormRefusal}
use Rattle.tce_flat.proofs.Lines.{Says, say_alike, say_same}

abbrev pub missing_line : List ℕ → List ℕ
missing_line name = codes "error 3: no file " ++ name ++ codes "\n"

-- the input is not there
pub record IsGone (name : List ℕ) (found : Option (List ℕ)) (refusal : Refusal) : Type 0 where
  pub gone : found ≡ None
  pub says : Says 3 (missing_line name) refusal

-- a flat file has another length
pub record HasLength (shape : Tiling) (found : Option (List ℕ)) (refusal : Refusal) : Type 0 where
  pub len : ℕ
  pub wrong : IsSomeAnd found (λ bytes. (length bytes ≡ len) × (len ≢ flat_len shape))
  pub says : Says 11 (codes "error 11: flat length " ++ decimal len ++ codes "\n") refusal

flat_cases : (files : Files) (flat : List ℕ) (shape : Tiling) (a : Refusal) → IsFlatRefusal files flat shape a → IsGone flat (file files flat) a ⊎ HasLength shape (file files flat) a
flat_cases files flat shape (Missing name) p = inl (record { gone = p.1; says = record { code_is = refl; line_is = ap missing_line p.0 } })
flat_cases files flat shape (Flat len) p = inr (record { len = len; wrong = p; says = record { code_is = refl; line_is = refl } })
flat_cases files flat shape (Specification x) p = absurd p
flat_cases files flat shape (Array x u) p = absurd p
flat_cases files flat shape (Budget x) p = absurd p
flat_cases files flat shape (Intermediates x) p = absurd p
flat_cases files flat shape (Tensor x) p = absurd p
flat_cases files flat shape (Misfit x) p = absurd p
flat_cases files flat shape (Einsum x) p = absurd p
flat_cases files flat shape (Spill x) p = absurd p
flat_cases files flat shape (Symmetry x u) p = absurd p
flat_cases files flat shape Disk p = absurd p
flat_cases files flat shape Memory p = absurd p

one_length : (shape : Tiling) (found : Option (List ℕ)) (x y : ℕ) → IsSomeAnd found (λ bytes. (length bytes ≡ x) × (x ≢ flat_len shape)) → IsSomeAnd found (λ bytes. (length bytes ≡ y) × (y ≢ flat_len shape)) → x ≡ y
one_length shape None x y p q = absurd p
one_length shape (Some bytes) x y p q = sym p.0 ∙ q.0

pub one_flat_refusal : (files : Files) (flat : List ℕ) (shape : Tiling) (a b : Refusal) → IsFlatRefusal files flat shape a → IsFlatRefusal files flat shape b → SameRefusal a b
one_flat_refusal files flat shape a b p q = by_cases (flat_cases files flat shape a p) (flat_cases files flat shape b q)
  where
    by_cases : IsGone flat (file files flat) a ⊎ HasLength shape (file files flat) a → IsGone flat (file files flat) b ⊎ HasLength shape (file files flat) b → SameRefusal a b
    by_cases (inl x) (inl y) = say_alike 3 _ a b x.says y.says
    by_cases (inl x) (inr y) = absurd (not_absent _ (file files flat) y.wrong x.gone)
    by_cases (inr x) (inl y) = absurd (not_absent _ (file files flat) x.wrong y.gone)
    by_cases (inr x) (inr y) = say_same 11 (λ n. codes "error 11: flat length " ++ decimal n ++ codes "\n") x.len y.len a b (one_length shape (file files flat) x.len y.len x.wrong y.wrong) x.says y.says

right_length : (shape : Tiling) (found : Option (List ℕ)) (n : ℕ) → HasFlat shape found → IsSomeAnd found (λ bytes. (length bytes ≡ n) × (n ≢ flat_len shape)) → ⊥
right_length shape None n p q = p
right_length shape (Some bytes) n p q = q.1 (sym q.0 ∙ p)

pub flat_not_refused : (files : Files) (flat : List ℕ) (shape : Tiling) (a : Refusal) → HasFlat shape (file files flat) → IsFlatRefusal files flat shape a → ⊥
flat_not_refused files flat shape a there p = by_cases (flat_cases files flat shape a p)
  where
    by_cases : IsGone flat (file files flat) a ⊎ HasLength shape (file files flat) a → ⊥
    by_cases (inl x) = not_absent _ (file files flat) there x.gone
    by_cases (inr x) = right_length shape (file files flat) x.len there x.wrong

-- an array file is damaged
pub record IsDamaged (tensor : List ℕ) (shape : Tiling) (found : Option (List ℕ)) (refusal : Refusal) : Type 0 where
  pub fault : ArrayFault
  pub there : fault ≢ array_fault.NoFile
  pub wrong : IsRefused shape found fault
  pub says : Says 4 (codes "error 4: " ++ tensor ++ codes ".tca: " ++ array_text fault ++ codes "\n") refusal

not_absent_array : (trouble : ArrayTrouble) → fault_of_array trouble ≢ array_fault.NoFile
not_absent_array (contents.BadLength n) e = absurd (cc)
not_absent_array (contents.BadHeader n) e = absurd (cc)

array_cases : (files : Files) (tensor : List ℕ) (shape : Tiling) (a : Refusal) → IsArrayRefusal files tensor shape a
    → IsGone (array_file tensor) (file files (array_file tensor)) a ⊎ IsDamaged tensor shape (file files (array_file tensor)) a
array_cases files tensor shape (Missing name) p = inl (record { gone = p.1; says = record { code_is = refl; line_is = ap missing_line p.0 } })
array_cases files tensor shape (Array name trouble) p =
    inr (record {
      fault = fault_of_array trouble;
      there = not_absent_array trouble;
      wrong = p.1;
      says = record { code_is = refl; line_is = ap (λ n. codes "error 4: " ++ n ++ codes ".tca: " ++ array_text (fault_of_array trouble) ++ codes "\n") p.0 };
    })
array_cases files tensor shape (Flat x) p = absurd p
array_cases files tensor shape (Specification x) p = absurd p
array_cases files tensor shape (Budget x) p = absurd p
array_cases files tensor shape (Intermediates x) p = absurd p
array_cases files tensor shape (Tensor x) p = absurd p
array_cases files tensor shape (Misfit x) p = absurd p
array_cases files tensor shape (Einsum x) p = absurd p
array_cases files tensor shape (Spill x) p = absurd p
array_cases files tensor shape (Symmetry x u) p = absurd p
array_cases files tensor shape Disk p = absurd p
array_cases files tensor shape Memory p = absurd p

abbrev refused : ArrayFault → Result Form ArrayFault
refused fault = Err fault

abbrev fault_of : Result Form ArrayFault → ArrayFault → ArrayFault
fault_of (Ok form) other = other
fault_of (Err fault) other = fault

not_disk : (fault : ArrayFault) → fault ≢ array_fault.Disk → refused fault ≢ refused array_fault.Disk
not_disk fault n e = n (ap (λ r. fault_of r fault) e)

-- one file has one fault
one_fault : (shape : Tiling) (found : Option (List ℕ)) (f g : ArrayFault) → IsRefused shape found f → IsRefused shape found g → f ≡ g
one_fault shape found f g p q =
    ap (λ r. fault_of r f) (agree shape found (refused f) (refused g) p.0 q.0 (not_disk f p.1) (not_disk g q.1))

gone_fault : (shape : Tiling) (found : Option (List ℕ)) (f : ArrayFault) → found ≡ None → IsRefused shape found f → f ≡ array_fault.NoFile
gone_fault shape found f gone p =
    let no : array_fault.NoFile ≢ array_fault.Disk = λ e. absurd (cc) in
    ap (λ r. fault_of r f) (agree shape found (refused f) (refused array_fault.NoFile) p.0 gone (not_disk f p.1) (not_disk array_fault.NoFile no))

pub one_array_refusal : (files : Files) (tensor : List ℕ) (shape : Tiling) (a b : Refusal) → IsArrayRefusal files tensor shape a → IsArrayRefusal files tensor shape b → SameRefusal a b
one_array_refusal files tensor shape a b p q = by_cases (array_cases files tensor shape a p) (array_cases files tensor shape b q)
  where
    by_cases : IsGone (array_file tensor) (file files (array_file tensor)) a ⊎ IsDamaged tensor shape (file files (array_file tensor)) a
        → IsGone (array_file tensor) (file files (array_file tensor)) b ⊎ IsDamaged tensor shape (file files (array_file tensor)) b → SameRefusal a b
    by_cases (inl x) (inl y) = say_alike 3 _ a b x.says y.says
    by_cases (inl x) (inr y) = absurd (y.there (gone_fault shape _ y.fault x.gone y.wrong))
    by_cases (inr x) (inl y) = absurd (x.there (gone_fault shape _ x.fault y.gone x.wrong))
    by_cases (inr x) (inr y) =
        say_same 4 (λ f. codes "error 4: " ++ tensor ++ codes ".tca: " ++ array_text f ++ codes "\n") x.fault y.fault a b (one_fault shape _ x.fault y.fault x.wrong y.wrong) x.says y.says

abbrev granted : Form → Result Form ArrayFault
granted form = Ok form

abbrev is_granted : Result Form ArrayFault → Bool
is_granted (Ok form) = true
is_granted (Err fault) = false

not_granted : (form : Form) (fault : ArrayFault) → granted form ≡ refused fault → ⊥
not_granted form fault e = true≢false (ap is_granted e)

-- an array that is there is not damaged
array_not_damaged : (shape : Tiling) (found : Option (List ℕ)) (f : ArrayFault) → HasArray shape found → IsRefused shape found f → ⊥
array_not_damaged shape None f p q = p
array_not_damaged shape (Some bytes) f p q =
    not_granted (form_of bytes) f (agree shape (Some bytes) (granted (form_of bytes)) (refused f) (refl, p) q.0 (not_granted (form_of bytes) array_fault.Disk) (not_disk f q.1))

pub array_not_refused : (files : Files) (tensor : List ℕ) (shape : Tiling) (a : Refusal) → HasArray shape (file files (array_file tensor)) → IsArrayRefusal files tensor shape a → ⊥
array_not_refused files tensor shape a there p = by_cases (array_cases files tensor shape a p)
  where
    by_cases : IsGone (array_file tensor) (file files (array_file tensor)) a ⊎ IsDamaged tensor shape (file files (array_file tensor)) a → ⊥
    by_cases (inl x) = not_absent _ (file files (array_file tensor)) there x.gone
    by_cases (inr x) = array_not_damaged shape _ x.fault there x.wrong

-- an element does not fit
pub record IsMisfit (form : Form) (shape : Tiling) (found : Option (List ℕ)) (refusal : Refusal) : Type 0 where
  pub place : ℕ
  pub narrow : form ≡ Narrow
  pub first : IsSomeAnd found (λ bytes. IsArray shape bytes × IsFirstMisfit form shape (array_element shape bytes) place)
  pub says : Says 13 (codes "error 13: element " ++ decimal place ++ codes " does not fit\n") refusal

form_cases : (files : Files) (tensor : List ℕ) (form : Form) (shape : Tiling) (a : Refusal) → IsFormRefusal files tensor form shape a
    → IsArrayRefusal files tensor shape a ⊎ IsMisfit form shape (file files (array_file tensor)) a
form_cases files tensor form shape (Misfit place) p = inr (record { place = place; narrow = p.0; first = p.1; says = record { code_is = refl; line_is = refl } })
form_cases files tensor form shape (Missing x) p = inl p
form_cases files tensor form shape (Array x u) p = inl p
form_cases files tensor form shape (Flat x) p = inl p
form_cases files tensor form shape (Specification x) p = inl p
form_cases files tensor form shape (Budget x) p = inl p
form_cases files tensor form shape (Intermediates x) p = inl p
form_cases files tensor form shape (Tensor x) p = inl p
form_cases files tensor form shape (Einsum x) p = inl p
form_cases files tensor form shape (Spill x) p = inl p
form_cases files tensor form shape (Symmetry x u) p = inl p
form_cases files tensor form shape Disk p = inl p
form_cases files tensor form shape Memory p = inl p

-- all elements before a place do not fit where the first misfit stands before it
misfit_before : (form : Form) (shape : Tiling) (element : List ℕ → ℕ) (k count : ℕ) → IsFirstMisfit form shape element k → FitBefore form shape element count → k < count → ⊥
misfit_before form shape element k count first fit lt =
    let at = places_every shape.extents k first.inside in
    first.misfit _ at.0 at.1 (fit _ at.0 (subst (λ p. p < count) (sym at.1) lt))

one_misfit : (form : Form) (shape : Tiling) (found : Option (List ℕ)) (k l : ℕ) → IsSomeAnd found (λ bytes. IsArray shape bytes × IsFirstMisfit form shape (array_element shape bytes) k)
    → IsSomeAnd found (λ bytes. IsArray shape bytes × IsFirstMisfit form shape (array_element shape bytes) l) → k ≡ l
one_misfit form shape None k l p q = absurd p
one_misfit form shape (Some bytes) k l p q =
    elim (cases_lt k l) [
      | inl below ↦ absurd (misfit_before form shape (array_element shape bytes) k l p.1 q.1.before below)
      | inr above ↦ elim (cases_lt l k) [
        | inl below ↦ absurd (misfit_before form shape (array_element shape bytes) l k q.1 p.1.before below)
        | inr same ↦ omega arith
      ]
    ]

has_array : (form : Form) (shape : Tiling) (found : Option (List ℕ)) (k : ℕ) → IsSomeAnd found (λ bytes. IsArray shape bytes × IsFirstMisfit form shape (array_element shape bytes) k) → HasArray shape found
has_array form shape None k p = p
has_array form shape (Some bytes) k p = p.0

pub one_form_refusal : (files : Files) (tensor : List ℕ) (form : Form) (shape : Tiling) (a b : Refusal) → IsFormRefusal files tensor form shape a → IsFormRefusal files tensor form shape b → SameRefusal a b
one_form_refusal files tensor form shape a b p q = by_cases (form_cases files tensor form shape a p) (form_cases files tensor form shape b q)
  where
    by_cases : IsArrayRefusal files tensor shape a ⊎ IsMisfit form shape (file files (array_file tensor)) a → IsArrayRefusal files tensor shape b ⊎ IsMisfit form shape (file files (array_file tensor)) b → SameRefusal a b
    by_cases (inl x) (inl y) = one_array_refusal files tensor shape a b x y
    by_cases (inl x) (inr y) = absurd (array_not_refused files tensor shape a (has_array form shape _ y.place y.first) x)
    by_cases (inr x) (inl y) = absurd (array_not_refused files tensor shape b (has_array form shape _ x.place x.first) y)
    by_cases (inr x) (inr y) = say_same 13 (λ n. codes "error 13: element " ++ decimal n ++ codes " does not fit\n") x.place y.place a b (one_misfit form shape _ x.place y.place x.first y.first) x.says y.says

fitting_array : (form : Form) (shape : Tiling) (found : Option (List ℕ)) → HasFitting form shape found → HasArray shape found
fitting_array form shape None p = p
fitting_array form shape (Some bytes) p = p.0

all_fit : (form : Form) (shape : Tiling) (found : Option (List ℕ)) (k : ℕ) → form ≡ Narrow → HasFitting form shape found → IsSomeAnd found (λ bytes. IsArray shape bytes × IsFirstMisfit form shape (array_element shape bytes) k) → ⊥
all_fit form shape None k narrow p q = p
all_fit form shape (Some bytes) k narrow p q = misfit_before form shape (array_element shape bytes) k (elements shape) q.1 (p.1 narrow) q.1.inside

pub form_not_refused : (files : Files) (tensor : List ℕ) (form : Form) (shape : Tiling) (a : Refusal) → HasFitting form shape (file files (array_file tensor)) → IsFormRefusal files tensor form shape a → ⊥
form_not_refused files tensor form shape a there p = by_cases (form_cases files tensor form shape a p)
  where
    by_cases : IsArrayRefusal files tensor shape a ⊎ IsMisfit form shape (file files (array_file tensor)) a → ⊥
    by_cases (inl x) = array_not_refused files tensor shape a (fitting_array form shape _ there) x
    by_cases (inr x) = all_fit form shape _ x.place x.narrow there x.first
