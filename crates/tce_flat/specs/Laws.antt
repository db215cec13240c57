-- Each command on flat files has one answer.
use Rattle.std.specs.Prelude.{◌⊎◌, ℕ, List}
use Rattle.tce_outside.specs.Files.{Files}
use Rattle.tce_array.specs.declared.form.Form.{Form}
use Rattle.tce_command.specs.Refusals.{IsFree, SameRefusal}
use Rattle.tce_command.specs.declared.refusal.Refusal.{Refusal}
use Rattle.tce_flat.specs.Refusals.{CanPack, CanUnpack, CanConvert, CanExpand, IsPackRefusal, IsUnpackRefusal, IsConvertRefusal, IsExpandRefusal}

-- what can be done is not refused, and what is refused has one reason, but where the disk fails or memory is wanting
pub record HasOneAnswer (can : Type 0) (refused : Refusal → Type 0) : Type 0 where
  pub granted : (a : Refusal) → can → refused a → IsFree a
  pub alone : (a b : Refusal) → refused a → refused b → (IsFree b → ⊥) → IsFree a ⊎ SameRefusal a b

pub record FlatCommandsHaveOneAnswer : Type 0 where
  pub pack : (files : Files) (spec tensor flat : List ℕ) → HasOneAnswer (CanPack files spec tensor flat) (IsPackRefusal files spec tensor flat)
  pub unpack : (files : Files) (spec tensor : List ℕ) → HasOneAnswer (CanUnpack files spec tensor) (IsUnpackRefusal files spec tensor)
  pub convert : (files : Files) (spec tensor : List ℕ) (form : Form) → HasOneAnswer (CanConvert files spec tensor form) (IsConvertRefusal files spec tensor form)
  pub expand : (files : Files) (spec tensor : List ℕ) → HasOneAnswer (CanExpand files spec tensor) (IsExpandRefusal files spec tensor)
