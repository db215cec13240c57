-- A file that was made, and then written whole.
use Rattle.std.proofs.Common.{◌≡◌, ◌∙◌, ℕ, ◌+◌, ◌≤◌, List, [], ◌++◌, length, drop, replicate, ap, arith}
use Rattle.std.proofs.lemmas.List.{length-replicate, drop_all, append-nil}
use Rattle.tce_outside.specs.Files.{overwritten}

pub room_for : (bytes : List ℕ) → 0 + length bytes ≤ length (replicate {A = ℕ} (length bytes) 0)
room_for bytes = omega (arith, length-replicate {A = ℕ} (length bytes) 0)

pub over_zeros : (bytes : List ℕ) → overwritten (replicate (length bytes) 0) 0 bytes ≡ bytes
over_zeros bytes =
    let nothing : drop (0 + length bytes) (replicate (length bytes) 0) ≡ [] = drop_all (0 + length bytes) (replicate (length bytes) 0) (omega (arith, length-replicate {A = ℕ} (length bytes) 0)) in
    ap (λ rest. bytes ++ rest) nothing ∙ append-nil bytes
