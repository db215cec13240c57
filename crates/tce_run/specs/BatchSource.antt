-- The file of several formulas.
use Rattle.std.specs.Prelude.{◌≢◌, ℕ, List, Option, Some}
use Rattle.std.specs.Option.{IsSomeAnd, ForSome}
use Rattle.std.specs.declared.result.Result.TheVariants.{Ok, Err}
use Rattle.tce_spec.specs.Faults.{Fault}
use Rattle.tce_spec.specs.FaultCode.{Shows}
use Rattle.tce_spec.specs.declared.fault.SpecFault.{SpecFault}
use Rattle.tce_spec.specs.declared.fault.SpecFault.TheVariants.{Memory}
use Rattle.tce_spec.specs.Specification.{Specification}
use Rattle.tce_batch.specs.Outcome.{IsBatchOutcome}
use Rattle.tce_outside.specs.Files.{Files, file}
use Rattle.tce_command.specs.declared.refusal.Refusal.{Refusal}
use Rattle.tce_command.specs.Source.{IsTextRefusal, MayRefuseText}

-- the text has this fault as one of several formulas, which is not want of memory
pub record HasBatchFault (text : List ℕ) (fault : SpecFault) : Type 0 where
  pub found : Fault
  pub outcome : IsBatchOutcome text (Err found)
  pub shown : Shows (Some found) fault
  pub no_memory : fault ≢ Memory

-- why the formulas in a file with these contents, or in none, are refused
abbrev pub IsBatchSourceRefusal : List ℕ → Option (List ℕ) → Refusal → Type 0
IsBatchSourceRefusal name found refusal = IsTextRefusal HasBatchFault name found refusal

-- the file is there, and its text specifies these formulas
abbrev pub HasBatch : Files → List ℕ → List Specification → Type 0
HasBatch files spec batch = IsSomeAnd (file files spec) (λ text. IsBatchOutcome text (Ok batch))

-- Of a disk, where it tells its files.

-- the file specifies these formulas
abbrev pub HasBatchOn : Option Files → List ℕ → List Specification → Type 0
HasBatchOn told name batch = ForSome told (λ files. HasBatch files name batch)

-- they are refused as they may be, and where the disk tells its files for what is there
abbrev pub IsBatchSourceRefusalOn : Option Files → List ℕ → Refusal → Type 0
IsBatchSourceRefusalOn told name refusal = MayRefuseText HasBatchFault name refusal × ForSome told (λ files. IsBatchSourceRefusal name (file files name) refusal)
