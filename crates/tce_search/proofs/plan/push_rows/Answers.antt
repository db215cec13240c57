use Rattle.std.proofs.Common.{◌≡◌, ℕ, ◌++◌, List, [], ◌∷◌, set, sym, ap, ap₂, ◌∙◌}
use Rattle.std.proofs.lemmas.List.Elements.{same_from_all_zip}
use Rattle.tce_fusion.specs.Row.{Row, rows_at}
use Rattle.tce_search.proofs.RowLists.{rows_more}
use Rattle.tce_search.proofs.plan.push_rows.Goals as goal

row_of : List ℕ → ℕ → Row
row_of classes cost = record { classes = classes; cost = cost }

pub loop-candidate-preserved : goal.loop-candidate-preserved
unfolding row_of
loop-candidate-preserved c =
    let copy = c.in_ok-clone.ensures.cases in
    let items = same_from_all_zip _ copy.4.0.0.classes.items copy.4.0.1.classes.items copy.4.0.4 (λ x y same. same) in
    let row : c.in_ok-clone.field-0 ≡ c.candidate-item.result.row = sym copy.3 ∙ ap₂ row_of (sym copy.4.0.3 ∙ items ∙ copy.4.0.2) copy.4.1 ∙ copy.2 in
    rows_more c.args.tables.now c.loop-candidate.tables c.push.new.self c.args.v c.loop-candidate.candidate-index c.args.candidates.now c.candidate-item.result c.requires c.loop-candidate-test.true c.candidate-item.is
    c.loop-candidate.invariant
    (c.in_ok-push.ensures.added ∙ ap (λ (r : Row). set c.loop-candidate.tables c.args.v (rows_at c.loop-candidate.tables c.args.v ++ r ∷ [])) row)
