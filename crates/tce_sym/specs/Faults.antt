-- What opening a file of stored elements answers, and why it is refused.
use Rattle.std.specs.Prelude.{◌≡◌, ◌≢◌, ◌⊎◌, ◌<◌, ◌≤◌, ℕ, false, List, length, take, codes, Option, None, Result, Ok, Err}
use Rattle.std.specs.Option.{IsSomeAnd}
use Rattle.tce_array.specs.Faults.{DifferFirst}
use Rattle.tce_sym.specs.declared.symmetry.Symmetry.{Symmetry}
use Rattle.tce_sym.specs.declared.fault.SymFault.{SymFault}
use Rattle.tce_sym.specs.declared.fault.SymFault.TheVariants.{NoFile, BadLength, BadHeader, Disk}
use Rattle.tce_sym.specs.Storage.{AreRight, IsHead, IsStored, number_at, stored_len}

-- two positions are right, whatever the sign
abbrev pub ArePositions : List ℕ → ℕ → ℕ → Type 0
ArePositions extents p q = AreRight extents (record { first = p; second = q; negated = false })

-- the first thing wrong with a head: its mark, at the first byte that differs; its positions; its sign
pub record HasMark (head : List ℕ) : Type 0 where
  pub mark : take 8 head ≡ codes "TCSYMM01"

pub record IsWrongPositions (extents head : List ℕ) : Type 0 where
  pub mark : take 8 head ≡ codes "TCSYMM01"
  pub wrong : ArePositions extents (number_at head 8) (number_at head 16) → ⊥

pub record IsWrongSign (extents head : List ℕ) : Type 0 where
  pub mark : take 8 head ≡ codes "TCSYMM01"
  pub right : ArePositions extents (number_at head 8) (number_at head 16)
  pub wrong : 1 < number_at head 24

abbrev pub IsWrongAt : List ℕ → List ℕ → ℕ → Type 0
IsWrongAt extents head p =
    DifferFirst (take 8 head) (codes "TCSYMM01") p ⊎ ((p ≡ 8) × IsWrongPositions extents head) ⊎ ((p ≡ 24) × IsWrongSign extents head)

-- a length that has no head, or is not that which the head tells
pub record IsOtherLength (extents : List ℕ) (s : Symmetry) (bytes : List ℕ) : Type 0 where
  pub head : IsHead extents s (take 32 bytes)
  pub long : 32 ≤ length bytes
  pub other : length bytes ≢ stored_len extents s

abbrev pub IsWrongLength : List ℕ → List ℕ → Type 0
IsWrongLength extents bytes = (length bytes < 32) ⊎ ((s : Symmetry) × IsOtherLength extents s bytes)

-- what is wrong with a file, for each fault
abbrev pub IsFault : List ℕ → Option (List ℕ) → SymFault → Type 0
IsFault extents found NoFile = found ≡ None
IsFault extents found (BadLength n) = IsSomeAnd found (λ bytes. (length bytes ≡ n) × IsWrongLength extents bytes)
IsFault extents found (BadHeader p) = IsSomeAnd found (λ bytes. (32 ≤ length bytes) × IsWrongAt extents (take 32 bytes) p)
IsFault extents found Disk = Unit {0}

-- the answer is right for a file with these contents, or for none
abbrev pub IsAnswer : List ℕ → Option (List ℕ) → Result Symmetry SymFault → Type 0
IsAnswer extents found (Ok s) = IsSomeAnd found (λ bytes. IsStored extents s bytes)
IsAnswer extents found (Err fault) = IsFault extents found fault

-- no other answer is right, but where the device failed
abbrev pub IsOnlyAnswer : List ℕ → Option (List ℕ) → Result Symmetry SymFault → Type 0
IsOnlyAnswer extents found result = (answer : Result Symmetry SymFault) → IsAnswer extents found answer → answer ≢ Err Disk → (result ≡ answer) ⊎ (result ≡ Err Disk)
