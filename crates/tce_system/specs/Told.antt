-- What is seen of a disk.
use Rattle.std.specs.Prelude.{ℕ, Option, refl}
use Rattle.std.specs.Coded.{Coded, code_by, coded×, coded_ℕ, coded_list, coded_option}
use Rattle.std.specs.FinMap as map
use Rattle.tce_outside.specs.Files.{Files}

-- the files, where the disk tells them, and how often it failed
pub record Told : Type 0 where
  pub files : Option Files
  pub faults : ℕ

-- how it is stored in proofs
abbrev pub told_code : Coded Told
told_code =
    code_by (Option Files × ℕ) (coded× (coded_option (map.code (coded_list coded_ℕ) (coded_list coded_ℕ))) coded_ℕ)
    (λ d. (d.files, d.faults)) (λ p. record { files = p.0; faults = p.1 }) (λ _. refl)
