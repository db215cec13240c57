-- What a put leaves.
use Rattle.std.proofs.Common.{◌≡◌, ◌++◌, List, ℕ, Result, Ok, Err, OnOk, OnErr, Some, length, take, rules}
use Rattle.std.proofs.lemmas.Grind.{common_steps}

-- all of a piece and nothing of it are prefixes of it
pub put_prefix : {T E : Type 0} (result : Result T E) (old piece new : List ℕ) → OnOk result (new ≡ old ++ piece) → OnErr result (new ≡ old) → (k : ℕ) × (Some new ≡ Some (old ++ take k piece))
put_prefix (Ok x) old piece new whole none = (length piece, search (rules, common_steps))
put_prefix (Err e) old piece new whole none = (0, search (rules, common_steps))
