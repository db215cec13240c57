use Rattle.std.proofs.lemmas.Result.{err_from_is_err_and}
use Rattle.tce_cert.proofs.write.push_row.Goals as goal

pub returns-in_err-head-clause-text : goal.returns-in_err-head-clause-text
returns-in_err-head-clause-text c =
    let p = err_from_is_err_and c.from_residual.result c.from_residual.ensures.1 in
    rw p.1 tt

pub returns-in_err-head-clause-nesting : goal.returns-in_err-head-clause-nesting
returns-in_err-head-clause-nesting c =
    let p = err_from_is_err_and c.from_residual.result c.from_residual.ensures.1 in
    rw p.1 tt

pub returns-in_err-extend_from_slice-clause-text : goal.returns-in_err-extend_from_slice-clause-text
returns-in_err-extend_from_slice-clause-text c =
    let p = err_from_is_err_and c.from_residual-in_err-extend_from_slice.result c.from_residual-in_err-extend_from_slice.ensures.1 in
    rw p.1 tt

pub returns-in_err-extend_from_slice-clause-nesting : goal.returns-in_err-extend_from_slice-clause-nesting
returns-in_err-extend_from_slice-clause-nesting c =
    let p = err_from_is_err_and c.from_residual-in_err-extend_from_slice.result c.from_residual-in_err-extend_from_slice.ensures.1 in
    rw p.1 tt

pub returns-in_err-push_classes-clause-text : goal.returns-in_err-push_classes-clause-text
returns-in_err-push_classes-clause-text c =
    let p = err_from_is_err_and c.from_residual-in_err-push_classes.result c.from_residual-in_err-push_classes.ensures.1 in
    rw p.1 tt

pub returns-in_err-push_classes-clause-nesting : goal.returns-in_err-push_classes-clause-nesting
returns-in_err-push_classes-clause-nesting c =
    let p = err_from_is_err_and c.from_residual-in_err-push_classes.result c.from_residual-in_err-push_classes.ensures.1 in
    rw p.1 tt

pub returns-in_err-push-clause-text : goal.returns-in_err-push-clause-text
returns-in_err-push-clause-text c =
    let p = err_from_is_err_and c.from_residual-in_err-push.result c.from_residual-in_err-push.ensures.1 in
    rw p.1 tt

pub returns-in_err-push-clause-nesting : goal.returns-in_err-push-clause-nesting
returns-in_err-push-clause-nesting c =
    let p = err_from_is_err_and c.from_residual-in_err-push.result c.from_residual-in_err-push.ensures.1 in
    rw p.1 tt
