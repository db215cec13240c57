use Rattle.std.proofs.Common.{◌∙◌}
use Rattle.tce_tree.proofs.Flat.{kept_length, kept_tree}
use Rattle.tce_tree.proofs.tree.Tree.count.Goals as goal

pub returns-clause-value : goal.returns-clause-value
returns-clause-value c = c.len.ensures.value ∙ kept_length _ _ c.self.invariant.flat_is c.self.view_is

pub returns-clause-kept : goal.returns-clause-kept
returns-clause-kept c = kept_tree _ _ c.self.invariant c.self.view_is
