-- A file that is made and then written piece by piece, where the disk tells its files.
use Rattle.std.proofs.Common.{◌≡◌, ◌≢◌, ◌∙◌, ◌≤◌, ap, sym, refl, subst, List, [], ℕ, cond, Some, None, Option, unwrap_or, inl, inr}
use Rattle.std.proofs.lemmas.Cmp.{nat_list_cmp_total}
use Rattle.std.proofs.lemmas.Option.{none-some}
use Rattle.std.specs.Option.{ForSome}
use Rattle.std.specs.FinMap.{get-insert}
use Rattle.tce_outside.specs.Fault.{HasCause}
use Rattle.tce_outside.specs.Files.{Files, file, with_file, written, overwritten}
use Rattle.tce_outside.proofs.Places.{same_name}
use Rattle.tce_outside.proofs.Files.{file-with_file}
use Rattle.tce_outside.proofs.Causes.{cause_since, cause_as}
use Rattle.tce_array.proofs.MadeFiles.{with_part-with_file}
use Rattle.tce_tools.specs.Flat.{contents}
use Rattle.tce_tools.specs.Storage.{holding_by}

-- a file beside one that was set
pub file_beside : (files : Files) (name bytes other : List ℕ) → other ≢ name → file (with_file files name bytes) other ≡ file files other
file_beside files name bytes other differs =
    get-insert nat_list_cmp_total files name bytes other
    ∙ elim (same_name other name) [
      | inl s ↦ absurd (differs s.1)
      | inr s ↦ ap (λ b. cond b (Some bytes) (file files other)) s.0
    ]

pub contents_beside : (files : Files) (name bytes other : List ℕ) → other ≢ name → contents (with_file files name bytes) other ≡ contents files other
contents_beside files name bytes other differs = ap (λ found. unwrap_or found []) (file_beside files name bytes other differs)

-- where the disk tells, the file of this name has the bytes, and the others are as they were
pub record IsHeld (before : Option Files) (name : List ℕ) (bytes : Files → List ℕ) (now : Files) : Type 0 where
  pub files : Files
  pub was : before ≡ Some files
  pub is : now ≡ with_file files name (bytes files)
  pub here : file now name ≡ Some (bytes files)
  pub beside : (other : List ℕ) → other ≢ name → file now other ≡ file files other

pub held : (before now : Option Files) (name : List ℕ) (bytes : Files → List ℕ) → now ≡ holding_by name bytes before → (files : Files) → now ≡ Some files → IsHeld before name bytes files
held None now name bytes e files told = absurd (none-some files (sym e ∙ told))
held (Some first) now name bytes e files told =
    let is : Some (with_file first name (bytes first)) ≡ Some files = sym e ∙ told in
    let same : files ≡ with_file first name (bytes first) = cc in
    record {
      files = first;
      was = refl;
      is = same;
      here = ap (λ fs. file fs name) same ∙ file-with_file first name (bytes first);
      beside = λ other differs. ap (λ fs. file fs other) same ∙ file_beside first name (bytes first) other differs;
    }

-- the file is written
pub held_written : (before now then : Option Files) (name : List ℕ) (old new : Files → List ℕ) (at : ℕ) (bytes : List ℕ) → now ≡ holding_by name old before → then ≡ written name at bytes now
    → ((files : Files) → before ≡ Some files → overwritten (old files) at bytes ≡ new files) → then ≡ holding_by name new before
held_written None now then name old new at bytes e f is = f ∙ ap (written name at bytes) e
held_written (Some files) now then name old new at bytes e f is =
    f ∙ ap (written name at bytes) e ∙ ap Some (with_part-with_file files name (old files) bytes at ∙ ap (with_file files name) (is files refl))

-- the same file by other words
pub held_same : (before now : Option Files) (name : List ℕ) (old new : Files → List ℕ) → now ≡ holding_by name old before → ((files : Files) → old files ≡ new files) → now ≡ holding_by name new before
held_same None now name old new e same = e
held_same (Some files) now name old new e same = e ∙ ap (λ bytes. Some (with_file files name bytes)) (same files)

-- what holds of the contents of another file held before
pub held_beside : (before now : Option Files) (name : List ℕ) (bytes : Files → List ℕ) (other : List ℕ) (P : List ℕ → Type 0) → now ≡ holding_by name bytes before → other ≢ name → ForSome now (λ files. P (contents files other))
    → (files : Files) → before ≡ Some files → P (contents files other)
held_beside before now name bytes other P e differs holds files was =
    subst P (contents_beside files name (bytes files) other differs) (holds (with_file files name (bytes files)) (e ∙ ap (holding_by name bytes) was))

-- the same file by other words, where the disk tells
pub held_told : (before now : Option Files) (name : List ℕ) (old new : Files → List ℕ) → now ≡ holding_by name old before → ((files : Files) → before ≡ Some files → old files ≡ new files) → now ≡ holding_by name new before
held_told None now name old new e same = e
held_told (Some files) now name old new e same = e ∙ ap (λ bytes. Some (with_file files name bytes)) (same files refl)

-- a call that failed, behind others, is the cause of a failure
pub failed_from : (before then now : ℕ) (call failed : Type 0) → before ≤ then → HasCause then now call → call → HasCause before now failed
failed_from before then now call failed le cause it = cause_since before then now le (cause_as then now (λ f. it) cause)
