use Rattle.tce_search.proofs.steps.join_rows.Goals as goal

pub returns-in_err-classes-clause-conflict : goal.returns-in_err-classes-clause-conflict
returns-in_err-classes-clause-conflict c = rw (← c.left.view_is, ← c.right.view_is, c.from_residual.ensures) c.in_err-classes.ensures.conflict
