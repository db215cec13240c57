-- The file of a specification has one outcome.
use Rattle.std.proofs.Common.{◌≡◌, refl, sym, ap, subst, ◌∙◌, ◌⊎◌, inl, inr, ℕ, List, ◌++◌, Option, Some, None, Ok, Err, codes, Result}
use Rattle.std.specs.Option.{IsSomeAnd}
use Rattle.tce_outside.specs.Files.{Files, file}
use Rattle.tce_spec.specs.Specification.{Specification as Specified}
use Rattle.tce_spec.proofs.Reading.{computed_only}
use Rattle.tce_spec.specs.FaultCode.{Shows}
use Rattle.tce_spec.specs.declared.fault.SpecFault.{SpecFault}
use Rattle.tce_command.specs.Refusals.{IsFree, SameRefusal}
use Rattle.tce_command.specs.declared.refusal.Refusal.{Refusal}
use Rattle.tce_command.specs.declared.refusal.Refusal.TheVariants.{Specification, Missing, Disk, Memory}
use Rattle.tce_command.specs.Source.{Specifies, HasFault, HasSpecification, IsSourceRefusal, IsTextRefusal}
use Rattle.tce_command.proofs.Faults.{told, told_alike}

one_of : (found : Option (List ℕ)) (s t : Specified) → IsSomeAnd found (λ text. Specifies text s) → IsSomeAnd found (λ text. Specifies text t) → s ≡ t
one_of None s t p q = absurd p
one_of (Some text) s t p q = let e = computed_only text (Ok s) p ∙ sym (computed_only text (Ok t) q) in cc

pub one : (files : Files) (spec : List ℕ) (s t : Specified) → HasSpecification files spec s → HasSpecification files spec t → s ≡ t
one files spec s t p q = one_of (file files spec) s t p q

-- two faults of one text are told alike
same_fault : (text : List ℕ) (f g : SpecFault) → HasFault text f → HasFault text g → SameRefusal (Specification f) (Specification g)
same_fault text f g p q =
    let e : Err p.found ≡ Err q.found = computed_only text (Err p.found) p.outcome ∙ sym (computed_only text (Err q.found) q.outcome) in
    let same : Some p.found ≡ Some q.found = cc in
    told_alike (Some q.found) f g (told (Some q.found) f (subst (λ o. Shows o f) same p.shown) p.no_memory) (told (Some q.found) g q.shown q.no_memory)

same_of : (Has : List ℕ → SpecFault → Type 0) (found : Option (List ℕ)) (f g : SpecFault) → ((text : List ℕ) → Has text f → Has text g → SameRefusal (Specification f) (Specification g))
    → IsSomeAnd found (λ text. Has text f) → IsSomeAnd found (λ text. Has text g) → SameRefusal (Specification f) (Specification g)
same_of Has None f g alike p q = absurd p
same_of Has (Some text) f g alike p q = alike text p q

pub not_absent : (P : List ℕ → Type 0) (found : Option (List ℕ)) → IsSomeAnd found P → found ≡ None → ⊥
not_absent P found p e = subst (λ x. IsSomeAnd x P) e p

-- where the faults of each text are told alike, a file is refused for one reason
abbrev pub AreToldAlike : (List ℕ → SpecFault → Type 0) → Type 0
AreToldAlike Has = (text : List ℕ) (f g : SpecFault) → Has text f → Has text g → SameRefusal (Specification f) (Specification g)

pub text_refusal : (Has : List ℕ → SpecFault → Type 0) (name : List ℕ) (found : Option (List ℕ)) (a b : Refusal) → AreToldAlike Has → IsTextRefusal Has name found a → IsTextRefusal Has name found b → (IsFree b → ⊥)
    → IsFree a ⊎ SameRefusal a b
text_refusal Has name found Disk b alike p q free = inl tt
text_refusal Has name found Memory b alike p q free = inl tt
text_refusal Has name found (Missing x) (Missing y) alike p q free = inr (refl, ap (λ bytes. codes "error 3: no file " ++ bytes ++ codes "\n") (p.0 ∙ sym q.0))
text_refusal Has name found (Missing x) (Specification g) alike p q free = absurd (not_absent _ found q p.1)
text_refusal Has name found (Missing x) Disk alike p q free = absurd (free tt)
text_refusal Has name found (Missing x) Memory alike p q free = absurd (free tt)
text_refusal Has name found (Missing x) b alike p q free = absurd q
text_refusal Has name found (Specification f) (Missing y) alike p q free = absurd (not_absent _ found p q.1)
text_refusal Has name found (Specification f) (Specification g) alike p q free = inr (same_of Has found f g (λ text. alike text f g) p q)
text_refusal Has name found (Specification f) Disk alike p q free = absurd (free tt)
text_refusal Has name found (Specification f) Memory alike p q free = absurd (free tt)
text_refusal Has name found (Specification f) b alike p q free = absurd q
text_refusal Has name found a b alike p q free = absurd p

pub one_refusal : (name : List ℕ) (found : Option (List ℕ)) (a b : Refusal) → IsSourceRefusal name found a → IsSourceRefusal name found b → (IsFree b → ⊥) → IsFree a ⊎ SameRefusal a b
one_refusal name found a b p q free = text_refusal HasFault name found a b same_fault p q free

-- what is specified has no fault
specified_not_faulty : (text : List ℕ) (s : Specified) (f : SpecFault) → Specifies text s → HasFault text f → ⊥
specified_not_faulty text s f p q = let e : Ok s ≡ Err q.found = computed_only text (Ok s) p ∙ sym (computed_only text (Err q.found) q.outcome) in absurd (cc)

not_faulty : (Has : List ℕ → SpecFault → Type 0) (Is : List ℕ → Type 0) (found : Option (List ℕ)) (f : SpecFault) → ((text : List ℕ) → Is text → Has text f → ⊥) → IsSomeAnd found Is → IsSomeAnd found (λ text. Has text f) → ⊥
not_faulty Has Is None f apart p q = p
not_faulty Has Is (Some text) f apart p q = apart text p q

pub not_refused : (Has : List ℕ → SpecFault → Type 0) (Is : List ℕ → Type 0) (name : List ℕ) (found : Option (List ℕ)) (a : Refusal) → ((text : List ℕ) (f : SpecFault) → Is text → Has text f → ⊥)
    → IsSomeAnd found Is → IsTextRefusal Has name found a → IsFree a
not_refused Has Is name found (Missing x) apart p q = absurd (not_absent Is found p q.1)
not_refused Has Is name found (Specification f) apart p q = absurd (not_faulty Has Is found f (λ text. apart text f) p q)
not_refused Has Is name found Disk apart p q = tt
not_refused Has Is name found Memory apart p q = tt
not_refused Has Is name found a apart p q = absurd q

pub not_both : (files : Files) (spec : List ℕ) (s : Specified) (a : Refusal) → HasSpecification files spec s → IsSourceRefusal spec (file files spec) a → IsFree a
not_both files spec s a p q = not_refused HasFault (λ text. Specifies text s) spec (file files spec) a (λ text. specified_not_faulty text s) p q

pub ok_no_disk : {U : Type 0} (x : U) (given : Result U Refusal) → given ≡ Ok x → given ≡ Err Disk → ⊥
ok_no_disk x given p q = let same : Ok x ≡ Err Disk = sym p ∙ q in absurd (cc)
