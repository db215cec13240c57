-- How long numbers in decimal are.
use Rattle.std.proofs.Common.{ℕ, ◌<◌, ◌≤◌, ◌^◌, length, arith}
use Rattle.std.specs.Fmt.{decimal}
use Rattle.std.proofs.lemmas.Fmt.{length-decimal-le_wide}

pub length_node : (v : ℕ) → v < 32 → length (decimal v) ≤ 2
length_node v l = length-decimal-le_wide 2 v (omega arith) (omega arith) (omega arith)

pub length_size : (n : ℕ) → n < 2 ^ 96 → length (decimal n) ≤ 29
length_size n l = length-decimal-le_wide 29 n (omega arith) (omega arith) (omega arith)
