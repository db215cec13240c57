use Rattle.std.proofs.Common.{◌≡◌, sym, ap, ◌∙◌}
use Rattle.tce_space.specs.IndexSet.{has}
use Rattle.tce_tree.specs.ContractionTree.{parent}
use Rattle.tce_spill.proofs.Pieces.{root_itself}
use Rattle.tce_spill.proofs.Turns.{root_above}
use Rattle.tce_spill.proofs.cutting.+root_over.Goals as goal

pub returns-then-is_root : goal.returns-then-is_root
returns-then-is_root t c = root_itself c.args.spec.now.tree (has c.args.cuts) c.args.v c.requires (sym c.is_root.ensures ∙ c.if-is_root.true)

pub returns : goal.returns
returns t c =
    let own : c.parent.result ≡ parent c.args.spec.now.tree c.args.v = c.parent.ensures.value ∙ ap (λ k. parent k c.args.v) c.tree.ensures.tree in
    root_above c.args.spec.now.tree (has c.args.cuts) c.args.v c.unwrap-above.result c.root_over.result (sym own ∙ c.unwrap-above.ensures)
    (sym c.is_root.ensures ∙ c.if-is_root.false) c.root_over.ensures
