use Rattle.std.proofs.Common.{◌≡◌, length, take}
use Rattle.tce_walk.specs.FoundTerms.{AddUpTo}
use Rattle.tce_walk.proofs.combination.terms_of.Given as goal

abbrev pub invariant-loop-at : goal.invariant-loop-at
invariant-loop-at l = record {
  many : length l.terms.items ≡ l.at;
  adds_up : AddUpTo l.tree (take l.at l.summands) l.terms.items l.scale;
}
