-- Words of 64 bits: sums, differences and products are taken modulo 2 ^ 64, and a word is stored with its lowest byte first.
use Rattle.std.specs.Prelude.{ℕ, ◌+◌, ◌-◌, ◌*◌, ◌%◌, ◌^◌, nat_lt, if◌then◌else◌, List, sum}
use Rattle.byteorder.specs.Endian.{little_bytes, little_number}

-- the word of a number
unfoldable pub word : ℕ → ℕ
word n = n % 2 ^ 64

-- `x.wrapping_add(y)`
unfoldable pub wrapping_add : ℕ → ℕ → ℕ
wrapping_add x y = (x + y) % 2 ^ 64

-- `x.wrapping_sub(y)`, of two words
unfoldable pub wrapping_sub : ℕ → ℕ → ℕ
wrapping_sub x y = (x + (2 ^ 64 - y)) % 2 ^ 64

-- `x.wrapping_mul(y)`
unfoldable pub wrapping_mul : ℕ → ℕ → ℕ
wrapping_mul x y = x * y % 2 ^ 64

-- the sum of the words
unfoldable pub wrapping_sum : List ℕ → ℕ
wrapping_sum xs = sum xs % 2 ^ 64

-- the lowest bytes of a number, as many as the width says, the lowest first
unfoldable pub word_bytes : ℕ → ℕ → List ℕ
word_bytes width n = little_bytes width n

-- the number whose bytes stand at the front, as many as the width says, the lowest first
unfoldable pub word_of_bytes : ℕ → List ℕ → ℕ
word_of_bytes width bytes = little_number width bytes

-- the word of a signed number of 32 bits
unfoldable pub widened : ℕ → ℕ
widened n = if nat_lt n (2 ^ 31) then n else n + (2 ^ 64 - 2 ^ 32)
