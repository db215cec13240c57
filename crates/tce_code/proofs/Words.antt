-- Numbers that are words.
use Rattle.std.proofs.Common.{ℕ, ◌^◌, ◌<◌, lit<}

-- a number below 2 ^ 64
abbrev pub IsWord : ℕ → Type 0
IsWord n = n < 2 ^ 64

pub zero-is_word : IsWord 0
zero-is_word = lit< tt
