-- What is told of a disk or a sink.
use Rattle.std.proofs.Common.{◌≡◌, ◌≢◌, ◌∙◌, ap, sym, refl, List, ℕ, cond, Option, Some, None, is_some, unwrap_or, inl, inr}
use Rattle.std.proofs.lemmas.Cmp.{nat_list_cmp_total}
use Rattle.std.specs.FinMap.{get-remove}
use Rattle.std.specs.Option.{option_map}
use Rattle.tce_outside.specs.Files.{Files, file, without_file}
use Rattle.tce_outside.specs.Laws.{OtherFilesStay, DisksTellOrNot, SinksTellOrNot}
use Rattle.tce_outside.proofs.Places.{same_name}

-- a file is the same in the files but one of another name
file-without_file : (name other : List ℕ) (files : Files) → other ≢ name → file (without_file files name) other ≡ file files other
file-without_file name other files differs =
    get-remove nat_list_cmp_total files name other
    ∙ elim (same_name other name) [
      | inl s ↦ absurd (differs s.1)
      | inr s ↦ ap (λ b. cond b None (file files other)) s.0
    ]

is_some-option_map : {X Y : Type 0} (f : X → Y) (o : Option X) → is_some (option_map f o) ≡ is_some o
is_some-option_map f None = refl
is_some-option_map f (Some x) = refl

pub other_files : OtherFilesStay
other_files name other old new same differs =
    sym (file-without_file name other new differs)
    ∙ ap (λ told. file (unwrap_or told old) other) same
    ∙ file-without_file name other old differs

pub disks_tell : DisksTellOrNot
disks_tell name old new same =
    sym (is_some-option_map (λ files. without_file files name) new) ∙ ap is_some same ∙ is_some-option_map (λ files. without_file files name) old

pub sinks_tell : SinksTellOrNot
sinks_tell change old new changed = ap is_some changed ∙ is_some-option_map change old
