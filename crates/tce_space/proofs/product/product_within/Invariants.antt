use Rattle.std.proofs.Common.{◌≡◌, ◌≤◌, take}
use Rattle.tce_space.specs.Box.{product}
use Rattle.tce_space.proofs.product.product_within.Given as goal

abbrev pub invariant-loop-number : goal.invariant-loop-number
invariant-loop-number l = record { value : l.all ≡ product (take l.number-index l.numbers); limit : l.all ≤ l.limit }
