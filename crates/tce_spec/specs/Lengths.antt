-- What a formula keeps before its expression is made: the lists are short and the constants are words.
use Rattle.std.specs.Prelude.{◌<◌, ◌≤◌, ◌^◌, length}
use Rattle.tce_space.specs.Limits.{max_indexes, max_rank}
use Rattle.tce_grammar.specs.Formula.{Formula, tensor, constant, sum, binary}
use Rattle.tce_spec.specs.Numbers.{value_of}

abbrev pub IsShort : Formula → Type 0
IsShort (tensor name indexes) = length indexes ≤ max_rank
IsShort (constant digits) = value_of digits < 2 ^ 64
IsShort (sum indexes operand) = (length indexes ≤ max_indexes) × IsShort operand
IsShort (binary operator left right) = IsShort left × IsShort right
