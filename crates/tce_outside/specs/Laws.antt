-- What the clauses of the devices say of every disk and sink.
use Rattle.std.specs.Prelude.{◌≡◌, ◌≢◌, ℕ, List, Option, Some, is_some}
use Rattle.std.specs.Option.{option_map}
use Rattle.tce_outside.specs.Files.{Files, file, others}

-- where all files but one are the same, each file of another name is
abbrev pub OtherFilesStay : Type 0
OtherFilesStay = (name other : List ℕ) (old new : Files) → others name (Some new) ≡ others name (Some old) → other ≢ name → file new other ≡ file old other

-- where all files but one are the same, a disk tells its files now if it told them before, and not otherwise
abbrev pub DisksTellOrNot : Type 0
DisksTellOrNot = (name : List ℕ) (old new : Option Files) → others name new ≡ others name old → is_some new ≡ is_some old

-- and so does a sink, whatever was done to its bytes
abbrev pub SinksTellOrNot : Type 0
SinksTellOrNot = (change : List ℕ → List ℕ) (old new : Option (List ℕ)) → new ≡ option_map change old → is_some new ≡ is_some old
