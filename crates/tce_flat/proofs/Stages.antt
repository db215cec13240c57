-- The refusals of a command on a tensor exclude each other.
use Rattle.std.proofs.Common.{◌≡◌, refl, sym, ap, subst, ◌∙◌, ◌⊎◌, inl, inr, ℕ, List, ◌++◌, Some, None, codes}
use Rattle.tce_outside.specs.Files.{Files, file}
use Rattle.tce_space.specs.Tiling.{Tiling}
use Rattle.tce_spec.specs.Declarations.{tensor_number}
use Rattle.tce_spec.specs.Specification.{Specification as Specified}
use Rattle.tce_spec.specs.Operands.{shape_of}
use Rattle.tce_command.proofs.Outcomes.{one, one_refusal, not_both}
use Rattle.tce_command.specs.Refusals.{IsFree, SameRefusal}
use Rattle.tce_command.specs.declared.refusal.Refusal.{Refusal}
use Rattle.tce_command.specs.declared.refusal.Refusal.TheVariants.{Specification, Missing, Array, Budget, Intermediates, Flat, Tensor, Misfit, Einsum, Spill, Symmetry, Disk, Memory}
use Rattle.tce_flat.specs.Tensors.{HasTensor, LacksTensor}
use Rattle.tce_flat.proofs.Lines.{Says, say_alike}
use Rattle.tce_flat.specs.Refusals.{NamesTensor, Need, Refuses, IsTensorRefusal, IsReadyFor, IsRefusedFor}

-- a name finds one number
one_number : (s t : Specified) (tensor : List ℕ) (m n : ℕ) → s ≡ t → tensor_number s.declarations.tensors tensor ≡ Some m → tensor_number t.declarations.tensors tensor ≡ Some n → m ≡ n
one_number s t tensor m n same a b = let e = subst (λ (u : Specified). tensor_number u.declarations.tensors tensor ≡ Some m) same a in cc

-- a tensor has one shape
pub one_shape : (files : Files) (spec tensor : List ℕ) (shape other : Tiling) → HasTensor files spec tensor shape → HasTensor files spec tensor other → shape ≡ other
one_shape files spec tensor shape other a b =
    let same = one files spec a.specification b.specification a.specified b.specified in
    let number = one_number a.specification b.specification tensor a.number b.number same a.named b.named in
    a.same ∙ ap (λ s. shape_of s a.number) same ∙ ap (shape_of b.specification) number ∙ sym b.same

-- a tensor that is found is not lacking
found_not_lacking : (files : Files) (spec tensor : List ℕ) (shape : Tiling) → HasTensor files spec tensor shape → LacksTensor files spec tensor → ⊥
found_not_lacking files spec tensor shape a b =
    let same = one files spec a.specification b.specification a.specified b.specified in
    let e = subst (λ (u : Specified). tensor_number u.declarations.tensors tensor ≡ Some a.number) same a.named in
    let no : Some a.number ≡ None = sym e ∙ b.unnamed in
    absurd (cc)

-- where a tensor is found, its specification is not refused, but where the disk fails or memory is wanting
pub found_not_refused : (files : Files) (spec tensor : List ℕ) (shape : Tiling) (refusal : Refusal)
    → HasTensor files spec tensor shape → IsTensorRefusal files spec tensor refusal → IsFree refusal
found_not_refused files spec tensor shape refusal a (inl b) = not_both files spec a.specification refusal a.specified b
found_not_refused files spec tensor shape refusal a (inr b) = absurd (found_not_lacking files spec tensor shape a b.0)

-- the line of a tensor that is not declared
undeclared : (tensor : List ℕ) (refusal : Refusal) → NamesTensor tensor refusal → Says 12 (codes "error 12: no tensor " ++ tensor ++ codes "\n") refusal
undeclared tensor (Tensor name) e = record { code_is = refl; line_is = ap (λ n. codes "error 12: no tensor " ++ n ++ codes "\n") e }
undeclared tensor (Specification x) e = absurd e
undeclared tensor (Missing x) e = absurd e
undeclared tensor (Array x u) e = absurd e
undeclared tensor (Budget x) e = absurd e
undeclared tensor (Intermediates x) e = absurd e
undeclared tensor (Flat x) e = absurd e
undeclared tensor (Misfit x) e = absurd e
undeclared tensor (Einsum x) e = absurd e
undeclared tensor (Spill x) e = absurd e
undeclared tensor (Symmetry x u) e = absurd e
undeclared tensor Disk e = absurd e
undeclared tensor Memory e = absurd e

-- why a tensor is not found is one reason
same_tensor_refusal : (files : Files) (spec tensor : List ℕ) (a b : Refusal) → IsTensorRefusal files spec tensor a → IsTensorRefusal files spec tensor b → (IsFree b → ⊥) → IsFree a ⊎ SameRefusal a b
same_tensor_refusal files spec tensor a b (inl p) (inl q) free = one_refusal spec (file files spec) a b p q free
same_tensor_refusal files spec tensor a b (inl p) (inr q) free = inl (not_both files spec q.0.specification a q.0.specified p)
same_tensor_refusal files spec tensor a b (inr p) (inl q) free = absurd (free (not_both files spec p.0.specification b p.0.specified q))
same_tensor_refusal files spec tensor a b (inr p) (inr q) free =
    inr (say_alike 12 _ a b (undeclared tensor a p.1) (undeclared tensor b q.1))

-- where two reasons stand, the answers are the same, or the first is free
pub same_refusal : (files : Files) (spec tensor : List ℕ) (refuses : Refuses) (a b : Refusal)
    → ((shape : Tiling) → refuses shape a → refuses shape b → SameRefusal a b)
    → IsRefusedFor refuses files spec tensor a → IsRefusedFor refuses files spec tensor b → (IsFree b → ⊥) → IsFree a ⊎ SameRefusal a b
same_refusal files spec tensor refuses a b alone (inl p) (inl q) free = same_tensor_refusal files spec tensor a b p q free
same_refusal files spec tensor refuses a b alone (inl p) (inr (shape, there, q)) free = inl (found_not_refused files spec tensor shape a there p)
same_refusal files spec tensor refuses a b alone (inr (shape, there, p)) (inl q) free = absurd (free (found_not_refused files spec tensor shape b there q))
same_refusal files spec tensor refuses a b alone (inr (shape, there, p)) (inr (other, here, q)) free =
    inr (alone other (subst (λ s. refuses s a) (one_shape files spec tensor shape other there here) p) q)

-- where all is as needed, nothing is refused
pub ready_not_refused : (files : Files) (spec tensor : List ℕ) (need : Need) (refuses : Refuses) (a : Refusal)
    → ((shape : Tiling) → need shape → refuses shape a → ⊥)
    → IsReadyFor need files spec tensor → IsRefusedFor refuses files spec tensor a → IsFree a
ready_not_refused files spec tensor need refuses a never (shape, there, needed) (inl q) = found_not_refused files spec tensor shape a there q
ready_not_refused files spec tensor need refuses a never (shape, there, needed) (inr (other, here, q)) =
    absurd (never other (subst need (one_shape files spec tensor shape other there here) needed) q)
