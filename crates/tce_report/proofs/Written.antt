-- The lines that are written of a plan that fits.
use Rattle.std.proofs.Common.{ℕ, ◌<◌, ◌^◌, List, length, All, slice_index, refl, ap, ◌∙◌, inl, inr, arith}
use Rattle.std.proofs.lemmas.Bool.{cases_lt}
use Rattle.std.proofs.lemmas.List.{get_or_past}
use Rattle.tce_tree.specs.Fusion.{fused_at}
use Rattle.tce_report.specs.Laws.{WrittenLinesSayThePlan}
use Rattle.tce_report.specs.NodeLine.{node_line}

size_limit : (sizes : List ℕ) (v : ℕ) → All (λ n. n < 2 ^ 96) sizes → slice_index sizes v < 2 ^ 96
size_limit sizes v small = elim (cases_lt v (length sizes)) [
  | inl inside ↦ small v 0 inside
  | inr past ↦ omega (arith, get_or_past sizes v 0 past)
]

pub written_says : WrittenLinesSayThePlan
unfolding node_line
written_says space tree plan v fits inside = record {
  allowed = record {
    order = fits.orders.permute v inside;
    fused = fits.fusion.within v inside;
    size = size_limit plan.sizes.items v fits.size_limit;
    root = λ root. (
      ap (fused_at plan.fusion.0.items) (omega (arith, root)) ∙ fits.fusion.root,
      get_or_past plan.sizes.items v 0 (omega (arith, root, fits.sizes)),
    );
  };
  text_is = refl;
}
