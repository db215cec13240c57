-- What a call that makes a file leaves of it, wherever it ends.
use Rattle.std.specs.Prelude.{ℕ, List, Option}
use Rattle.std.specs.Option.{ForSome}
use Rattle.tce_outside.specs.Files.{Files, file}
use Rattle.tce_array.specs.Files.{LeavesNoHalf}

-- where the disk tells: the file as it was, absent or beginning with zeros, or whole but for its first bytes, which are written last
abbrev pub LeavesNoHalfOf : List ℕ → ℕ → (Files → List ℕ) → Option Files → Option Files → Type 0
LeavesNoHalfOf name last whole before after = ForSome before (λ old. ForSome after (λ new. LeavesNoHalf last (whole old) (file old name) (file new name)))
