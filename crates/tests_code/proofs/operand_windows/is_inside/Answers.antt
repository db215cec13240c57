use Rattle.std.proofs.Common.{◌≡◌, ℕ, suc, ◌<◌, List, [], ◌∷◌, length, get_or, arith}
use Rattle.tce_space.specs.Box.{IsInside}
use Rattle.tests_code.proofs.operand_windows.is_inside.Goals as goal

from_each : (ns xs : List ℕ) → length ns ≡ length xs → ((k : ℕ) → k < length ns → get_or xs k 0 < get_or ns k 0) → IsInside ns xs
from_each [] [] l h = tt
from_each [] (x ∷ xs) l h = absurd (omega arith)
from_each (n ∷ ns) [] l h = absurd (omega arith)
from_each (n ∷ ns) (x ∷ xs) l h = (h 0 (omega arith), from_each ns xs (omega arith) (λ k m. h (suc k) (omega arith)))

pub returns : goal.returns
returns c = λ passed. from_each c.args.extents.now c.args.coordinates.now c.if-extents-coordinates.false (λ k l. c.loop-d.invariant k (omega arith))
