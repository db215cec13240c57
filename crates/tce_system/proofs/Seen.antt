-- What a disk shows is what the disk inside it shows.
use Rattle.std.proofs.Common.{◌≡◌, ◌∙◌, ℕ, List, Option, Result, Ok, Err, ap, subst}
use Rattle.tce_outside.specs.Files.{Files, others, holding_zeros, IsKeptOrZeros}

pub made_seen : (name : List ℕ) (len : ℕ) (inside seen new : Option Files) → inside ≡ seen → new ≡ holding_zeros name len inside → new ≡ holding_zeros name len seen
made_seen name len inside seen new same made = made ∙ ap (holding_zeros name len) same

pub zeros_seen : (name : List ℕ) (inside seen new : Option Files) → inside ≡ seen → IsKeptOrZeros name inside new → IsKeptOrZeros name seen new
zeros_seen name inside seen new same kept = subst (λ told. IsKeptOrZeros name told new) same kept

pub others_seen : (name : List ℕ) (inside seen new : Option Files) → inside ≡ seen → others name new ≡ others name inside → others name new ≡ others name seen
others_seen name inside seen new same kept = kept ∙ ap (others name) same

pub no_failure : {T E : Type 0} → (x : T) (e : E) (r : Result T E) → r ≡ Ok x → r ≡ Err e → ⊥
no_failure x e r went failed = cc
