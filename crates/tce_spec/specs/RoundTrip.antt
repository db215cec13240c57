-- Canonical texts of specifications, and what they specify.
use Rattle.std.specs.Prelude.{◌≡◌, ℕ, ◌≤◌, ◌^◌, List, length}
use Rattle.std.specs.declared.result.Result.TheVariants.{Ok}
use Rattle.tce_spec.specs.Declarations.{HaveNames}
use Rattle.tce_spec.specs.Specification.{Specification, IsSpecification}
use Rattle.tce_spec.specs.Canonical.{canonical_of}
use Rattle.tce_spec.specs.Outcome.{IsOutcome}

-- a specification that a text can give: its tensors have names
pub record IsWritable (s : Specification) : Type 0 where
  pub rules : IsSpecification s
  pub names : HaveNames s.declarations.tensors

-- what a text specifies can be written
abbrev pub TextsSpecifyWhatCanBeWritten : Type 0
TextsSpecifyWhatCanBeWritten = (text : List ℕ) (s : Specification) → IsOutcome text (Ok s) → IsWritable s

-- a canonical text is no longer than a text may be
abbrev pub CanonicalTextsAreShort : Type 0
CanonicalTextsAreShort = (s : Specification) → IsWritable s → length (canonical_of s) ≤ 2 ^ 16

-- the canonical text of a specification specifies it
abbrev pub CanonicalTextsSpecifyTheSame : Type 0
CanonicalTextsSpecifyTheSame = (s : Specification) → IsWritable s → IsOutcome (canonical_of s) (Ok s)

-- what a text specifies, its canonical text specifies too
abbrev pub AcceptedTextsHaveCanonicalTexts : Type 0
AcceptedTextsHaveCanonicalTexts = (text : List ℕ) (s : Specification) → IsOutcome text (Ok s) → IsOutcome (canonical_of s) (Ok s)

-- different specifications have different canonical texts
abbrev pub CanonicalTextsTellSpecifications : Type 0
CanonicalTextsTellSpecifications = (a b : Specification) → IsWritable a → IsWritable b → canonical_of a ≡ canonical_of b → a ≡ b
