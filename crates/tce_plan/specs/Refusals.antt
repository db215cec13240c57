-- Why `plan` is refused.
use Rattle.std.specs.Prelude.{ℕ, List, Option}
use Rattle.tce_outside.specs.Files.{Files, file}
use Rattle.tce_spec.specs.Specification.{Specification}
use Rattle.tce_command.specs.declared.refusal.Refusal.{Refusal}
use Rattle.tce_command.specs.Source.{HasSpecification, IsSourceRefusal, MayRefuseSource}
use Rattle.std.specs.Option.{ForSome}

-- the file holds a specification
abbrev pub CanPlan : Files → List ℕ → Type 0
CanPlan files spec = (s : Specification) × HasSpecification files spec s

-- the specification is refused. The disk may fail, and memory be wanting, at any place
abbrev pub IsPlanRefusal : Files → List ℕ → Refusal → Type 0
IsPlanRefusal files spec refusal = IsSourceRefusal spec (file files spec) refusal

-- it is refused as it may be, and where the disk tells its files for what is there
abbrev pub IsPlanRefusalOn : Option Files → List ℕ → Refusal → Type 0
IsPlanRefusalOn told spec refusal = MayRefuseSource spec refusal × ForSome told (λ files. IsPlanRefusal files spec refusal)
