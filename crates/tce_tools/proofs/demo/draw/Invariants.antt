use Rattle.std.proofs.Common.{◌≡◌, ◌<◌, ◌+◌, ℕ, slice_index}
use Rattle.tce_tools.specs.Demo.{drawn, digit}
use Rattle.tce_tools.proofs.demo.draw.Given as goal

abbrev pub invariant-loop-k : goal.invariant-loop-k
invariant-loop-k l = record {
  number : l.number ≡ drawn l.x l.k;
  small : l.number < 2147483647;
  digits : (k : ℕ) → k < l.k → slice_index l.digits k ≡ digit l.x (k + 1);
}
