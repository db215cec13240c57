use Rattle.std.proofs.Common.{◌==◌, true, false, sym, ap, subst, ◌∙◌, arith}
use Rattle.std.proofs.lemmas.Result.{IfOk-from_err}
use Rattle.tce_space.specs.IndexSet.{set_of}
use Rattle.tce_tree.specs.ContractionTree.{ContractionTree, dims}
use Rattle.tce_tree.specs.Expr.{tree_of}
use Rattle.tce_tree.specs.Measure.{IsMeasured}
use Rattle.tce_spec.specs.declared.fault.SpecFault.TheVariants.{Memory}
use Rattle.tce_grammar.specs.Code.{names, formula}
use Rattle.tce_spec.proofs.FormulaParts.{is_ready, tested, tree_shown, tree_good, indexes_shown}
use Rattle.tce_spec.proofs.ShownFaults.{ok_of_err, err_shows}
use Rattle.tce_spec.proofs.formula.contraction_of.Goals as goal

pub expression_of-requires-clause-short : goal.expression_of-requires-clause-short
expression_of-requires-clause-short c =
    let ready = is_ready c.args.line c.args.declarations.now c.args.name.now (names c.args.indexes.now) (formula c.args.written.now) c.space-space.ensures.limits c.requires.faultless in
    ready.short

pub build_tree-requires-clause-few : goal.build_tree-requires-clause-few
build_tree-requires-clause-few c =
    let ready = is_ready c.args.line c.args.declarations.now c.args.name.now (names c.args.indexes.now) (formula c.args.written.now) c.space-space.ensures.limits c.requires.faultless in
    rw c.in_ok-expr.ensures (omega (arith, ready.same_count, c.requires.few))

pub build_tree-requires-clause-declared : goal.build_tree-requires-clause-declared
build_tree-requires-clause-declared c =
    let ready = is_ready c.args.line c.args.declarations.now c.args.name.now (names c.args.indexes.now) (formula c.args.written.now) c.space-space.ensures.limits c.requires.faultless in
    rw c.in_ok-expr.ensures ready.declared

pub build_tree-requires-clause-distinct : goal.build_tree-requires-clause-distinct
build_tree-requires-clause-distinct c =
    let ready = is_ready c.args.line c.args.declarations.now c.args.name.now (names c.args.indexes.now) (formula c.args.written.now) c.space-space.ensures.limits c.requires.faultless in
    rw c.in_ok-expr.ensures ready.distinct

pub has_indexes-requires : goal.has_indexes-requires
has_indexes-requires c =
    let ready = is_ready c.args.line c.args.declarations.now c.args.name.now (names c.args.indexes.now) (formula c.args.written.now) c.space-space.ensures.limits c.requires.faultless in
    rw (c.as_slice.ensures.value, c.leaf_of-result.ensures.indexes) ready.result_below

pub returns-in_err-expr-clause-tensor : goal.returns-in_err-expr-clause-tensor
returns-in_err-expr-clause-tensor c = IfOk-from_err c.from_residual.result _ c.from_residual.ensures.0

pub returns-in_err-tree-clause-tensor : goal.returns-in_err-tree-clause-tensor
returns-in_err-tree-clause-tensor c = IfOk-from_err c.from_residual-in_err-tree.result _ c.from_residual-in_err-tree.ensures.0

pub returns-in_err-expr-clause-indexes : goal.returns-in_err-expr-clause-indexes
returns-in_err-expr-clause-indexes c = IfOk-from_err c.from_residual.result _ c.from_residual.ensures.0

pub returns-in_err-tree-clause-indexes : goal.returns-in_err-tree-clause-indexes
returns-in_err-tree-clause-indexes c = IfOk-from_err c.from_residual-in_err-tree.result _ c.from_residual-in_err-tree.ensures.0

pub returns-in_err-expr-clause-expr : goal.returns-in_err-expr-clause-expr
returns-in_err-expr-clause-expr c = IfOk-from_err c.from_residual.result _ c.from_residual.ensures.0

pub returns-in_err-tree-clause-expr : goal.returns-in_err-tree-clause-expr
returns-in_err-tree-clause-expr c = IfOk-from_err c.from_residual-in_err-tree.result _ c.from_residual-in_err-tree.ensures.0

pub returns-in_err-expr-clause-tree : goal.returns-in_err-expr-clause-tree
returns-in_err-expr-clause-tree c = IfOk-from_err c.from_residual.result _ c.from_residual.ensures.0

pub returns-in_err-tree-clause-tree : goal.returns-in_err-tree-clause-tree
returns-in_err-tree-clause-tree c = IfOk-from_err c.from_residual-in_err-tree.result _ c.from_residual-in_err-tree.ensures.0

pub returns-in_err-expr-clause-measured : goal.returns-in_err-expr-clause-measured
returns-in_err-expr-clause-measured c = IfOk-from_err c.from_residual.result _ c.from_residual.ensures.0

pub returns-in_err-tree-clause-measured : goal.returns-in_err-tree-clause-measured
returns-in_err-tree-clause-measured c = IfOk-from_err c.from_residual-in_err-tree.result _ c.from_residual-in_err-tree.ensures.0

pub returns-in_err-expr-clause-ok : goal.returns-in_err-expr-clause-ok
returns-in_err-expr-clause-ok c = ok_of_err c.from_residual.result _ c.from_residual.ensures.0

pub returns-in_err-tree-clause-ok : goal.returns-in_err-tree-clause-ok
returns-in_err-tree-clause-ok c = ok_of_err c.from_residual-in_err-tree.result _ c.from_residual-in_err-tree.ensures.0

pub returns-in_err-expr-clause-fault : goal.returns-in_err-expr-clause-fault
returns-in_err-expr-clause-fault c = err_shows c.from_residual.result Memory _ c.from_residual.ensures.1 tt

pub returns-in_err-tree-clause-fault : goal.returns-in_err-tree-clause-fault
returns-in_err-tree-clause-fault c =
    err_shows c.from_residual-in_err-tree.result c.in_err-tree.field-0.0 _ c.from_residual-in_err-tree.ensures.1
    (tree_shown c.args.line c.args.declarations.now (names c.args.indexes.now) (formula c.args.written.now) (tree_of c.in_ok-expr.expr) c.in_err-tree.field-0.0 c.in_ok-expr.ensures c.in_err-tree.ensures.fault)

pub returns-else-has_indexes-clause-fault : goal.returns-else-has_indexes-clause-fault
returns-else-has_indexes-clause-fault c =
    indexes_shown c.args.line c.args.declarations.now (names c.args.indexes.now) (formula c.args.written.now)
    (tested c.args.declarations.now (names c.args.indexes.now) (formula c.args.written.now) (tree_of c.in_ok-expr.expr) c.as_slice.result.now c.has_indexes.result false
    c.in_ok-expr.ensures c.in_ok-tree.ensures.faultless (c.as_slice.ensures.value ∙ c.leaf_of-result.ensures.indexes)
    (c.has_indexes.ensures ∙ ap (λ (t : ContractionTree). set_of c.as_slice.result.now == dims t) c.in_ok-tree.ensures.ok) c.if-has_indexes.false)

pub returns-then-has_indexes-clause-tensor : goal.returns-then-has_indexes-clause-tensor
returns-then-has_indexes-clause-tensor c = c.leaf_of-result.ensures.tensor

pub returns-then-has_indexes-clause-indexes : goal.returns-then-has_indexes-clause-indexes
returns-then-has_indexes-clause-indexes c = c.leaf_of-result.ensures.indexes

pub returns-then-has_indexes-clause-expr : goal.returns-then-has_indexes-clause-expr
returns-then-has_indexes-clause-expr c = c.in_ok-expr.ensures

pub returns-then-has_indexes-clause-tree : goal.returns-then-has_indexes-clause-tree
returns-then-has_indexes-clause-tree c = c.in_ok-tree.ensures.ok ∙ c.in_ok-expr.ensures

pub returns-then-has_indexes-clause-measured : goal.returns-then-has_indexes-clause-measured
returns-then-has_indexes-clause-measured c = subst (IsMeasured c.args.declarations.now.space) (sym c.in_ok-tree.ensures.ok) c.in_ok-tree.ensures.measured

pub returns-then-has_indexes-clause-ok : goal.returns-then-has_indexes-clause-ok
returns-then-has_indexes-clause-ok c =
    tree_good c.args.line c.args.declarations.now (names c.args.indexes.now) (formula c.args.written.now)
    (tested c.args.declarations.now (names c.args.indexes.now) (formula c.args.written.now) (tree_of c.in_ok-expr.expr) c.as_slice.result.now c.has_indexes.result true
    c.in_ok-expr.ensures c.in_ok-tree.ensures.faultless (c.as_slice.ensures.value ∙ c.leaf_of-result.ensures.indexes)
    (c.has_indexes.ensures ∙ ap (λ (t : ContractionTree). set_of c.as_slice.result.now == dims t) c.in_ok-tree.ensures.ok) c.if-has_indexes.true)
