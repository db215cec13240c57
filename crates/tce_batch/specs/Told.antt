-- What formulas that are run in turn are given and leave where the disk tells its files.
use Rattle.std.specs.Prelude.{◌≡◌, ℕ, List, length, Option, Some, Result, IsErrAnd, slice_get}
use Rattle.std.specs.Option.{ForSome, option_map}
use Rattle.tce_outside.specs.Files.{Files}
use Rattle.tce_spec.specs.Specification.{Specification}
use Rattle.tce_job.specs.Opened.{HasArray, operand_count}
use Rattle.tce_job.specs.declared.fault.JobFault.{JobFault}
use Rattle.tce_job.specs.declared.fault.JobFault.TheVariants.{Disk}
use Rattle.tce_job.specs.Refusals.{IsFree}
use Rattle.tce_batch.specs.BatchCode.{results_before}
use Rattle.tce_batch.specs.declared.fault.BatchFault.{BatchFault}
use Rattle.tce_job.specs.Several.{files_after}
use Rattle.tce_batch.specs.Refusals.{IsSource, HasSources, SourcesBelow, IsSourceFault}

-- this holds of the formula with this number, from 0
abbrev pub HoldsOf : List Specification → ℕ → (Specification → Type 0) → Type 0
HoldsOf batch number Fact = (s : Specification) → slice_get batch number ≡ Some s → Fact s

-- the file of a tensor of a formula is there, unless it is an earlier result; those of all its operands are; those of all formulas are
abbrev pub HasSourceFile : Option Files → List Specification → ℕ → Specification → ℕ → Type 0
HasSourceFile told batch number s t = ForSome told (λ files. IsSource (results_before batch number) t → HasArray files s t)

abbrev pub HasSourceFiles : Option Files → List Specification → ℕ → Specification → Type 0
HasSourceFiles told batch number s = ForSome told (λ files. HasSources files s (results_before batch number) (operand_count s))

abbrev pub HasAllSources : Option Files → List Specification → Type 0
HasAllSources told batch = ForSome told (λ files. SourcesBelow files batch (length batch))

-- why the operands of a formula are not opened
abbrev pub IsSourceFaultOf : Option Files → List Specification → ℕ → Specification → JobFault → Type 0
IsSourceFaultOf told batch number s fault = IsSourceFault told s (results_before batch number) fault

-- the files are those that the formulas leave in turn
abbrev pub WritesResults : List Specification → Option Files → Option Files → Type 0
WritesResults batch before after = after ≡ option_map (files_after batch) before

-- where the disk tells its files, formulas whose files were tested are refused for a failure or want of memory alone
abbrev pub IsFreeIn : Option Files → BatchFault → Type 0
IsFreeIn told refused = ForSome told (λ _. IsFree refused.fault)

-- a formula is refused for a failure of the disk
abbrev pub HasDiskFault : {A : Type 0} → Result A BatchFault → Type 0
HasDiskFault result = IsErrAnd result (λ refused. refused.fault ≡ Disk)
