use Rattle.std.proofs.lemmas.Result.{err_from_is_err_and}
use Rattle.std.proofs.Common.{◌∷◌, ◌++◌, get_or, sym, ap, ◌∙◌, subst, arith}
use Rattle.std.specs.List.{All}
use Rattle.std.proofs.lemmas.List.{take_all}
use Rattle.tce_report.specs.NodeLine.{set_text}
use Rattle.tce_cert.specs.Lines.{classes_text}
use Rattle.tce_space.specs.Space.{IsDeclared}
use Rattle.tce_cert.proofs.Sets.{class_pushed, holds_of_tail}
use Rattle.tce_cert.proofs.write.push_classes.Goals as goal

pub push_set-requires-in-loop-class : goal.push_set-requires-in-loop-class
push_set-requires-in-loop-class c =
    subst (IsDeclared c.args.space.now) (sym c.class-item.is)
    (holds_of_tail (IsDeclared c.args.space.now) c.args.classes.now c.in-Some.first.now c.in-Some.rest.now c.in-Some.ensures.cases.0 c.requires c.loop-class.class-index c.class-item.result
    c.loop-class-test.true)

pub loop-class-preserved : goal.loop-class-preserved
loop-class-preserved c =
    class_pushed c.args.space.now (get_or c.args.classes.now 0 0) c.in-Some.rest.now c.loop-class.class-index c.class-item.result c.args.text.now.items _ _ _ c.loop-class-test.true c.class-item.is
    c.loop-class.invariant c.in_ok-push-2.ensures.items c.in_ok-push_set-2.ensures

pub returns-in_err-push : goal.returns-in_err-push
returns-in_err-push c =
    let p = err_from_is_err_and c.from_residual.result c.from_residual.ensures.1 in
    rw p.1 tt

pub returns-in_err-push_set : goal.returns-in_err-push_set
returns-in_err-push_set c =
    let p = err_from_is_err_and c.from_residual-in_err-push_set.result c.from_residual-in_err-push_set.ensures.1 in
    rw p.1 tt

pub returns-in_err-push-2 : goal.returns-in_err-push-2
returns-in_err-push-2 c =
    let p = err_from_is_err_and c.from_residual-in_err-push-2.result c.from_residual-in_err-push-2.ensures.1 in
    rw p.1 tt

pub returns-in_err-push_set-2 : goal.returns-in_err-push_set-2
returns-in_err-push_set-2 c =
    let p = err_from_is_err_and c.from_residual-in_err-push_set-2.result c.from_residual-in_err-push_set-2.ensures.1 in
    rw p.1 tt

pub push_set-requires : goal.push_set-requires
push_set-requires c = subst (All (IsDeclared c.args.space.now)) c.in-Some.ensures.cases.0 c.requires 0 0 (omega arith)

pub loop-class-init : goal.loop-class-init
loop-class-init c = c.in_ok-push_set.ensures ∙ ap (λ class. c.args.text.now.items ++ set_text c.args.space.now class) (sym (ap (λ xs. get_or xs 0 0) c.in-Some.ensures.cases.0))

pub returns : goal.returns
returns c =
    let rest = take_all c.loop-class.class-index c.in-Some.rest.now c.loop-class-test.false in
    let whole = ap (λ xs. get_or xs 0 0 ∷ c.in-Some.rest.now) c.in-Some.ensures.cases.0 ∙ sym c.in-Some.ensures.cases.0 in
    c.loop-class.invariant ∙ ap (λ xs. c.args.text.now.items ++ classes_text c.args.space.now xs) (ap (λ xs. get_or c.args.classes.now 0 0 ∷ xs) rest ∙ whole)
