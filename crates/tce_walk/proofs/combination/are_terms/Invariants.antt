use Rattle.std.proofs.Common.{ℕ, ◌<◌, get_or}
use Rattle.tce_walk.specs.FoundTerms.{IsTermOver}
use Rattle.tce_walk.specs.declared.terms.Term.{Term}
use Rattle.tce_walk.proofs.combination.are_terms.Given as goal

abbrev pub invariant-loop-at : goal.invariant-loop-at
invariant-loop-at l = (k : ℕ) (d : Term) → k < l.at → IsTermOver l.walk.space.now l.walk.tree.now l.loops l.dims (get_or l.terms k d)
