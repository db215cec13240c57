-- Each operand has its array, or one is the first that is refused.
use Rattle.std.proofs.Common.{◌≡◌, ◌≢◌, ◌⊎◌, inl, inr, ℕ, zero, suc, ◌<◌, ◌≤◌, List, [], ◌∷◌, length, take, Option, Some, None, refl, ap₂, subst, arith}
use Rattle.std.specs.Option.{IsSomeAnd}
use Rattle.std.proofs.lemmas.Bool.{cases_lt}
use Rattle.std.proofs.lemmas.List.{length-take-le}
use Rattle.tce_outside.specs.Files.{Files, file}
use Rattle.tce_space.specs.Tiling.{Tiling}
use Rattle.tce_array.specs.declared.fault.ArrayFault.{ArrayFault}
use Rattle.tce_array.specs.declared.fault.ArrayFault.TheVariants.{NoFile, BadLength, BadHeader, Disk}
use Rattle.tce_array.specs.Forms.{form_of, form_len, head, head_len, IsArray}
use Rattle.tce_array.specs.Faults.{DifferFirst, IsFault}
use Rattle.tce_array.proofs.Contents.{length-head}
use Rattle.tce_spec.specs.Specification.{Specification}
use Rattle.tce_spec.specs.Operands.{shape_of}
use Rattle.tce_job.specs.TensorFiles.{file_of}
use Rattle.tce_job.specs.declared.opening.Refused.{Refused}
use Rattle.tce_job.specs.Opened.{operand, operand_count, HasArray, HasOperands, IsRefused}

equal_or_not : (a b : ℕ) → (a ≡ b) ⊎ (a ≢ b)
equal_or_not a b =
    elim (cases_lt a b) [
      | inl low ↦ inr (λ e. omega (arith, low, e))
      | inr past ↦ elim (cases_lt b a) [
        | inl high ↦ inr (λ e. omega (arith, high, e))
        | inr same ↦ inl (omega (arith, past, same))
      ]
    ]

abbrev Differ : List ℕ → List ℕ → Type 0
Differ xs ys = (p : ℕ) × DifferFirst xs ys p

behind_first : (x y : ℕ) (xs ys : List ℕ) → x ≡ y → (xs ≡ ys) ⊎ Differ xs ys → (x ∷ xs ≡ y ∷ ys) ⊎ Differ (x ∷ xs) (y ∷ ys)
behind_first x y xs ys e (inl same) = inl (ap₂ (λ a l. a ∷ l) e same)
behind_first x y xs ys e (inr (p, d)) = inr (suc p, record { inside = omega (arith, d.inside); same = ap₂ (λ a l. a ∷ l) e d.same; differ = d.differ })

at_first : (x y : ℕ) (xs ys : List ℕ) → (x ≡ y) ⊎ (x ≢ y) → (xs ≡ ys) ⊎ Differ xs ys → (x ∷ xs ≡ y ∷ ys) ⊎ Differ (x ∷ xs) (y ∷ ys)
at_first x y xs ys (inl same) rest = behind_first x y xs ys same rest
at_first x y xs ys (inr not) rest = inr (0, record { inside = omega arith; same = refl; differ = not })

-- lists of one length are the same, or there is a first place at which they differ
same_or_differ : (xs ys : List ℕ) → length xs ≡ length ys → (xs ≡ ys) ⊎ Differ xs ys
same_or_differ [] [] e = inl refl
same_or_differ [] (y ∷ ys) e = absurd (omega (arith, e))
same_or_differ (x ∷ xs) [] e = absurd (omega (arith, e))
same_or_differ (x ∷ xs) (y ∷ ys) e = at_first x y xs ys (equal_or_not x y) (same_or_differ xs ys (omega (arith, e)))

-- a fault of a file, and no failure of the disk
abbrev HasFault : Tiling → Option (List ℕ) → Type 0
HasFault shape found = (f : ArrayFault) × (IsFault shape found f × (f ≢ Disk))

by_head : (shape : Tiling) (bytes : List ℕ) → length bytes ≡ form_len (form_of bytes) shape
    → (take (head_len (form_of bytes) shape) bytes ≡ head (form_of bytes) shape) ⊎ Differ (take (head_len (form_of bytes) shape) bytes) (head (form_of bytes) shape)
    → IsArray shape bytes ⊎ HasFault shape (Some bytes)
by_head shape bytes whole (inl begins) = inl (record { whole = whole; begins = begins })
by_head shape bytes whole (inr (p, d)) = inr (BadHeader p, ((whole, d), λ e. absurd (cc)))

by_length : (shape : Tiling) (bytes : List ℕ) → (length bytes ≡ form_len (form_of bytes) shape) ⊎ (length bytes ≢ form_len (form_of bytes) shape) → IsArray shape bytes ⊎ HasFault shape (Some bytes)
by_length shape bytes (inr not) = inr (BadLength (length bytes), ((refl, not), λ e. absurd (cc)))
by_length shape bytes (inl whole) =
    let n : ℕ = head_len (form_of bytes) shape in
    let taken : length (take n bytes) ≡ n = length-take-le n bytes (omega (arith, whole)) in
    by_head shape bytes whole (same_or_differ (take n bytes) (head (form_of bytes) shape) (omega (arith, taken, length-head (form_of bytes) shape)))

array_or_fault : (shape : Tiling) (found : Option (List ℕ)) → IsSomeAnd found (IsArray shape) ⊎ HasFault shape found
array_or_fault shape None = inr (NoFile, (refl, λ e. absurd (cc)))
array_or_fault shape (Some bytes) = by_length shape bytes (equal_or_not (length bytes) (form_len (form_of bytes) shape))

-- the first operand that is refused
abbrev pub HasRefused : Files → Specification → Type 0
HasRefused files s = (r : Refused) × (IsRefused files s r × (r.fault ≢ Disk))

one_more : (files : Files) (s : Specification) (n : ℕ) → HasOperands files s n → HasArray files s (operand s n) → HasOperands files s (suc n)
one_more files s n before has d less =
    elim (cases_lt d n) [
      | inl low ↦ before d low
      | inr past ↦ let same : n ≡ d = omega (arith, past, less) in subst (λ k. HasArray files s (operand s k)) same has
    ]

at_operand : (files : Files) (s : Specification) (n : ℕ) → n < operand_count s → HasOperands files s n → HasArray files s (operand s n) ⊎ HasFault (shape_of s (operand s n)) (file files (file_of s (operand s n)))
    → HasOperands files s (suc n) ⊎ HasRefused files s
at_operand files s n within before (inl has) = inl (one_more files s n before has)
at_operand files s n within before (inr f) =
    inr (record { tensor = operand s n; fault = f.0 }, ((n, record { one_of_them = within; tensor = refl; before = before; fault = f.1.0 }), f.1.1))

next : (files : Files) (s : Specification) (n : ℕ) → n < operand_count s → HasOperands files s n ⊎ HasRefused files s → HasOperands files s (suc n) ⊎ HasRefused files s
next files s n within (inr refused) = inr refused
next files s n within (inl before) = at_operand files s n within before (array_or_fault (shape_of s (operand s n)) (file files (file_of s (operand s n))))

pub operands_or_refused : (files : Files) (s : Specification) (n : ℕ) → n ≤ operand_count s → HasOperands files s n ⊎ HasRefused files s
operands_or_refused files s zero within = inl (λ d less. absurd (omega (arith, less)))
operands_or_refused files s (suc n) within = next files s n (omega (arith, within)) (operands_or_refused files s n (omega (arith, within)))
