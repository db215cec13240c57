use Rattle.std.proofs.Common.{inl, inr}
use Rattle.std.proofs.lemmas.Bool.{both_ways}
use Rattle.tce_fusion.proofs.legality.are_nested.Goals as goal

pub returns-then-is_subset : goal.returns-then-is_subset
returns-then-is_subset c = (λ h. inl (c.is_subset.ensures.0 h), λ nested. c.if-is_subset.true)

pub returns-else-is_subset : goal.returns-else-is_subset
returns-else-is_subset c = (
  λ h. inr (c.is_subset-else-is_subset.ensures.0 h),
  λ nested. elim nested [
    | inl first ↦ absurd (both_ways c.is_subset.result c.if-is_subset.false (c.is_subset.ensures.1 first))
    | inr second ↦ c.is_subset-else-is_subset.ensures.1 second
  ],
)
