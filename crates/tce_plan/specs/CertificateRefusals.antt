-- Why `cert` is refused.
use Rattle.std.specs.Prelude.{ℕ, List, Option}
use Rattle.std.specs.Option.{ForSome}
use Rattle.tce_outside.specs.Files.{Files, file}
use Rattle.tce_spec.specs.Specification.{Specification}
use Rattle.tce_command.specs.declared.refusal.Refusal.{Refusal}
use Rattle.tce_command.specs.Source.{HasSpecification, IsSourceRefusal, MayRefuseSource}

-- the file holds a specification
abbrev pub CanCertify : Files → List ℕ → Type 0
CanCertify files spec = (s : Specification) × HasSpecification files spec s

-- the specification is refused. The disk may fail, and memory be wanting, at any place
abbrev pub IsCertifyRefusal : Files → List ℕ → Refusal → Type 0
IsCertifyRefusal files spec refusal = IsSourceRefusal spec (file files spec) refusal

-- it is refused as it may be, and where the disk tells its files for what is there
abbrev pub IsCertifyRefusalIfTold : Option Files → List ℕ → Refusal → Type 0
IsCertifyRefusalIfTold told spec refusal = MayRefuseSource spec refusal × ForSome told (λ files. IsCertifyRefusal files spec refusal)
