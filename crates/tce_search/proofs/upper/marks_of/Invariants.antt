use Rattle.std.proofs.Common.{◌≡◌, ℕ, ◌%◌}
use Rattle.std.specs.Prelude.{IsTrue}
use Rattle.std.specs.List.{AllWithin, Any}
use Rattle.tce_space.specs.IndexSet.{has}
use Rattle.tce_search.proofs.upper.marks_of.Given as goal

abbrev pub invariant-loop-part : goal.invariant-loop-part
invariant-loop-part l = record {
  each : AllWithin (λ part. IsTrue (has l.marks (part % 23))) l.parts 0 l.part-index;
  some : (mark : ℕ) → IsTrue (has l.marks mark) → Any (λ part. part % 23 ≡ mark) l.parts;
}
