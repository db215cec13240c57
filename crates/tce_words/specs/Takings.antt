-- What a room gives out.
use Rattle.std.specs.Prelude.{ℕ, ◌^◌}

-- words of each of the two kinds that a block is asked for with: more than memory has room for, and the bytes of both fit a word
abbrev pub max_taking : ℕ
max_taking = 2 ^ 40
