use Rattle.std.proofs.Common.{◌∙◌, sym, subst}
use Rattle.std.specs.List.{All}
use Rattle.std.proofs.lemmas.Bool.{and_parts}
use Rattle.tce_nesting.specs.Plan.{LiesWithin}
use Rattle.tce_search.proofs.Bounding.{restricted_within}
use Rattle.tce_search.proofs.table.row_of_use.Goals as goal

pub returns-clause-within : goal.returns-clause-within
returns-clause-within c dims within =
    subst (All (LiesWithin dims)) (sym c.restrict.ensures)
    (restricted_within dims c.meet.result _ (λ i h. within i (and_parts _ _ (sym (c.meet.ensures.members i) ∙ h)).1))
