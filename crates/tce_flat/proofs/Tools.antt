-- What the tools answer, as refusals.
use Rattle.std.proofs.Common.{◌≡◌, ◌≢◌, refl, subst, ◌∙◌, ◌⊎◌, inl, inr, ℕ, List, Option, Result, Ok, Err, IfOk, IfErr, String, Global}
use Rattle.std.specs.String.{string_bytes}
use Rattle.tce_flat.specs.Done.{report_text, IsPacking, IsUnpacking, IsConverting, IsPacked, IsUnpacked, IsConverted}
use Rattle.std.specs.Option.{ForSome}
use Rattle.tce_outside.specs.Files.{Files, file}
use Rattle.tce_space.specs.Tiling.{Tiling}
use Rattle.tce_array.specs.declared.form.Form.{Form}
use Rattle.tce_spec.specs.Specification.{Specification as Specified}
use Rattle.tce_command.specs.Source.{HasSpecification}
use Rattle.tce_command.specs.declared.refusal.Refusal.{Refusal}
use Rattle.tce_command.specs.declared.refusal.Refusal.TheVariants.{Specification, Missing, Array, Budget, Intermediates, Flat, Tensor, Misfit, Einsum, Spill, Symmetry, Disk, Memory}
use Rattle.tce_command.specs.Refusals.{IsFree}
use Rattle.tce_flat.specs.Tensors.{DeclaresTensor, HasTensor}
use Rattle.tce_flat.specs.Refusals.{Refuses, IsUndeclared, IsTensorRefusal, IsRefusedFor}

-- why a tensor's input is refused, or a free refusal, is why the command is
pub found_refusal : (refuses : Refuses) (files : Files) (spec tensor : List ℕ) (shape : Tiling) (a : Refusal) → HasTensor files spec tensor shape → IsFree a ⊎ refuses shape a → IsRefusedFor refuses files spec tensor a
found_refusal refuses files spec tensor shape a there (inr p) = inr (shape, there, p)
found_refusal refuses files spec tensor shape Disk there (inl p) = inl (inl tt)
found_refusal refuses files spec tensor shape Memory there (inl p) = inl (inl tt)
found_refusal refuses files spec tensor shape (Missing x) there (inl p) = absurd p
found_refusal refuses files spec tensor shape (Array x u) there (inl p) = absurd p
found_refusal refuses files spec tensor shape (Flat x) there (inl p) = absurd p
found_refusal refuses files spec tensor shape (Specification x) there (inl p) = absurd p
found_refusal refuses files spec tensor shape (Budget x) there (inl p) = absurd p
found_refusal refuses files spec tensor shape (Intermediates x) there (inl p) = absurd p
found_refusal refuses files spec tensor shape (Tensor x) there (inl p) = absurd p
found_refusal refuses files spec tensor shape (Misfit x) there (inl p) = absurd p
found_refusal refuses files spec tensor shape (Einsum x) there (inl p) = absurd p
found_refusal refuses files spec tensor shape (Spill x) there (inl p) = absurd p
found_refusal refuses files spec tensor shape (Symmetry x u) there (inl p) = absurd p

-- what holds of an answer holds of it otherwise
pub if_ok : {A E : Type 0} {P Q : A → Type 0} (r : Result A E) → ((x : A) → P x → Q x) → IfOk r P → IfOk r Q
if_ok (Ok x) f p = f x p
if_ok (Err e) f p = tt

pub if_err : {A E : Type 0} {P Q : E → Type 0} (r : Result A E) → ((x : E) → P x → Q x) → IfErr r P → IfErr r Q
if_err (Ok x) f p = tt
if_err (Err e) f p = f e p

-- the refusals of a tensor that was found are those of its command
pub refused_for : {A : Type 0} (refuses : Files → Refuses) (Lacks May : Refusal → Type 0) (told before : Option Files) (spec tensor : List ℕ) (shape : Tiling) (r : Result A Refusal)
    → told ≡ before → ForSome before (λ files. HasTensor files spec tensor shape)
    → IfErr r (λ a. May a × ForSome told (λ files. IsFree a ⊎ refuses files shape a)) → IfErr r (λ a. (Lacks a ⊎ May a) × ForSome before (λ files. IsRefusedFor (refuses files) files spec tensor a))
refused_for refuses Lacks May told before spec tensor shape r same there p =
    if_err r (λ a q. (inr q.0, λ files is. found_refusal (refuses files) files spec tensor shape a (there files is) (q.1 files (same ∙ is)))) p

-- a command that changed nothing before it moved elements changed nothing where that changed nothing
pub unchanged_from : {A : Type 0} (told before after : Option Files) (r : Result A Refusal) → told ≡ before → IfErr r (λ a. a ≢ Disk → after ≡ told) → IfErr r (λ a. a ≢ Disk → after ≡ before)
unchanged_from told before after r same p = if_err r (λ a q no. q no ∙ same) p

-- a tensor that was found, and moved after that, is moved as the command says
pub packed_from : {E : Type 0} (r : Result (String Global) E) (told before after : Option Files) (spec tensor flat : List ℕ) (shape : Tiling)
    → told ≡ before → ForSome before (λ files. HasTensor files spec tensor shape)
    → IfOk r (λ report. IsPacking told after shape tensor flat (string_bytes report)) → IfOk r (λ report. IsPacked before after spec tensor flat (string_bytes report))
packed_from r told before after spec tensor flat shape same there p =
    if_ok r (λ report q. record { shape = shape; tensor_is = there; packing = subst (λ b. IsPacking b after shape tensor flat (string_bytes report)) same q }) p

pub unpacked_from : {E : Type 0} (r : Result (String Global) E) (told before after : Option Files) (spec tensor flat : List ℕ) (shape : Tiling)
    → told ≡ before → ForSome before (λ files. HasTensor files spec tensor shape)
    → IfOk r (λ report. IsUnpacking told after shape tensor flat (string_bytes report)) → IfOk r (λ report. IsUnpacked before after spec tensor flat (string_bytes report))
unpacked_from r told before after spec tensor flat shape same there p =
    if_ok r (λ report q. record { shape = shape; tensor_is = there; unpacking = subst (λ b. IsUnpacking b after shape tensor flat (string_bytes report)) same q }) p

pub converted_from : {E : Type 0} (r : Result (String Global) E) (told before after : Option Files) (spec tensor : List ℕ) (form : Form) (shape : Tiling)
    → told ≡ before → ForSome before (λ files. HasTensor files spec tensor shape)
    → IfOk r (λ report. IsConverting told after shape tensor form (string_bytes report)) → IfOk r (λ report. IsConverted before after spec tensor form (string_bytes report))
converted_from r told before after spec tensor form shape same there p =
    if_ok r (λ report q. record { shape = shape; tensor_is = there; converting = subst (λ b. IsConverting b after shape tensor form (string_bytes report)) same q }) p

-- a tensor of a specification is one of its file
pub found_in : (files : Files) (spec tensor : List ℕ) (s : Specified) (shape : Tiling) → HasSpecification files spec s → DeclaresTensor s tensor shape → HasTensor files spec tensor shape
found_in files spec tensor s shape has there = record { specification = s; number = there.number; specified = has; named = there.named; same = there.same }

-- a tensor that the specification does not declare is refused as such
pub undeclared_in : (files : Files) (spec tensor : List ℕ) (s : Specified) (a : Refusal) → HasSpecification files spec s → IsUndeclared s tensor a → IsTensorRefusal files spec tensor a
undeclared_in files spec tensor s Memory has lacks = inl tt
undeclared_in files spec tensor s (Tensor name) has lacks = inr (record { specification = s; specified = has; unnamed = lacks.0 }, lacks.1)
undeclared_in files spec tensor s (Specification x) has lacks = absurd lacks.1
undeclared_in files spec tensor s (Missing x) has lacks = absurd lacks.1
undeclared_in files spec tensor s (Array x u) has lacks = absurd lacks.1
undeclared_in files spec tensor s (Budget x) has lacks = absurd lacks.1
undeclared_in files spec tensor s (Intermediates x) has lacks = absurd lacks.1
undeclared_in files spec tensor s (Flat x) has lacks = absurd lacks.1
undeclared_in files spec tensor s (Misfit x) has lacks = absurd lacks.1
undeclared_in files spec tensor s (Einsum x) has lacks = absurd lacks.1
undeclared_in files spec tensor s (Spill x) has lacks = absurd lacks.1
undeclared_in files spec tensor s (Symmetry x u) has lacks = absurd lacks.1
undeclared_in files spec tensor s Disk has lacks = absurd lacks.1

-- a report of the same file and length
pub report_is : (verb text w v : List ℕ) (m n : ℕ) → text ≡ report_text verb w m → w ≡ v → m ≡ n → text ≡ report_text verb v n
report_is verb text w v m n told file len = rw (told, file, len) refl
