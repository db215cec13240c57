use Rattle.std.proofs.Common.{ap}
use Rattle.arrayvec.specs.ArrayVec.{array_vec_len}
use Rattle.tce_space.specs.declared.arithmetic.Arithmetic.TheVariants.{Multiply, Add, Subtract}
use Rattle.tce_tree.specs.Expr.{tree_of}
use Rattle.tce_tree.proofs.Appended.{ok_of_err, err_shows, shown_left, shown_right, ok_faultless, err_fault, ok_nodes, ok_len}
use Rattle.tce_tree.proofs.building.+push_nodes.Goals as goal

pub returns-in_err-push_nodes-in-Product-clause-len : goal.returns-in_err-push_nodes-in-Product-clause-len
returns-in_err-push_nodes-in-Product-clause-len t c =
    ok_of_err c.from_residual.result _ c.from_residual.ensures.0

pub returns-in_err-push_nodes-in-Product-clause-ok : goal.returns-in_err-push_nodes-in-Product-clause-ok
returns-in_err-push_nodes-in-Product-clause-ok t c =
    ok_of_err c.from_residual.result _ c.from_residual.ensures.0

pub returns-in_err-push_nodes-in-Product-clause-faultless : goal.returns-in_err-push_nodes-in-Product-clause-faultless
returns-in_err-push_nodes-in-Product-clause-faultless t c =
    ok_of_err c.from_residual.result _ c.from_residual.ensures.0

pub returns-in_err-push_nodes-in-Product-2-clause-len : goal.returns-in_err-push_nodes-in-Product-2-clause-len
returns-in_err-push_nodes-in-Product-2-clause-len t c =
    ok_of_err c.from_residual-in_err-push_nodes-in-Product-2.result _ c.from_residual-in_err-push_nodes-in-Product-2.ensures.0

pub returns-in_err-push_nodes-in-Product-2-clause-ok : goal.returns-in_err-push_nodes-in-Product-2-clause-ok
returns-in_err-push_nodes-in-Product-2-clause-ok t c =
    ok_of_err c.from_residual-in_err-push_nodes-in-Product-2.result _ c.from_residual-in_err-push_nodes-in-Product-2.ensures.0

pub returns-in_err-push_nodes-in-Product-2-clause-faultless : goal.returns-in_err-push_nodes-in-Product-2-clause-faultless
returns-in_err-push_nodes-in-Product-2-clause-faultless t c =
    ok_of_err c.from_residual-in_err-push_nodes-in-Product-2.result _ c.from_residual-in_err-push_nodes-in-Product-2.ensures.0

pub returns-in_err-push_nodes-in-Product-clause-fault : goal.returns-in_err-push_nodes-in-Product-clause-fault
returns-in_err-push_nodes-in-Product-clause-fault t c =
    err_shows c.from_residual.result c.in_err-push_nodes-in-Product.field-0.0 _ c.from_residual.ensures.1
    (shown_left c.args.space.now (array_vec_len c.args.nodes.now) (tree_of c.args.expr.now) Multiply (tree_of c.in-Product.left.value) (tree_of c.in-Product.right.value) (tree_of c.deref.result.now) c.in_err-push_nodes-in-Product.field-0.0
    (record { is = ap tree_of c.in-Product.is }) (ap tree_of c.deref.ensures) c.in_err-push_nodes-in-Product.ensures.fault)

pub returns-in_err-push_nodes-in-Product-2-clause-fault : goal.returns-in_err-push_nodes-in-Product-2-clause-fault
returns-in_err-push_nodes-in-Product-2-clause-fault t c =
    err_shows c.from_residual-in_err-push_nodes-in-Product-2.result c.in_err-push_nodes-in-Product-2.field-0.0 _ c.from_residual-in_err-push_nodes-in-Product-2.ensures.1
    (shown_right c.args.space.now (array_vec_len c.args.nodes.now) (array_vec_len c.push_nodes.new.nodes) (tree_of c.args.expr.now) Multiply (tree_of c.in-Product.left.value) (tree_of c.in-Product.right.value) (tree_of c.deref.result.now) (tree_of c.deref-in-Product.result.now) c.in_err-push_nodes-in-Product-2.field-0.0
    (record { is = ap tree_of c.in-Product.is }) (record { same = ap tree_of c.deref.ensures; faultless = c.in_ok-push_nodes-in-Product.ensures.faultless; len = c.in_ok-push_nodes-in-Product.ensures.len }) (ap tree_of c.deref-in-Product.ensures) c.in_err-push_nodes-in-Product-2.ensures.fault)

pub returns-in_ok-push_nodes-in-Product-2-clause-len : goal.returns-in_ok-push_nodes-in-Product-2-clause-len
returns-in_ok-push_nodes-in-Product-2-clause-len t c =
    ok_len c.push_binary.result (array_vec_len c.args.nodes.now) (array_vec_len c.push_nodes.new.nodes) (array_vec_len c.push_nodes-in-Product.new.nodes) (array_vec_len c.push_binary.new.nodes) (tree_of c.args.expr.now) Multiply (tree_of c.in-Product.left.value) (tree_of c.in-Product.right.value) (tree_of c.deref.result.now) (tree_of c.deref-in-Product.result.now)
    (record { is = ap tree_of c.in-Product.is }) (ap tree_of c.deref.ensures) (ap tree_of c.deref-in-Product.ensures) c.in_ok-push_nodes-in-Product.ensures.len c.in_ok-push_nodes-in-Product-2.ensures.len c.push_binary.ensures.len

pub returns-in_ok-push_nodes-in-Product-2-clause-ok : goal.returns-in_ok-push_nodes-in-Product-2-clause-ok
returns-in_ok-push_nodes-in-Product-2-clause-ok t c =
    ok_nodes c.push_binary.result (array_vec_len c.args.nodes.now) (array_vec_len c.push_nodes.new.nodes) c.len-first.result (tree_of c.args.expr.now) Multiply (tree_of c.in-Product.left.value) (tree_of c.in-Product.right.value) (tree_of c.deref.result.now) (tree_of c.deref-in-Product.result.now) (tree_of c.deref-in-Product-2.result.now) (tree_of c.deref-in-Product-3.result.now)
    c.args.nodes.now.items c.push_nodes.new.nodes.items c.push_nodes-in-Product.new.nodes.items c.push_binary.new.nodes.items
    (record { is = ap tree_of c.in-Product.is }) (ap tree_of c.deref.ensures) (ap tree_of c.deref-in-Product.ensures) (ap tree_of c.deref-in-Product-2.ensures) (ap tree_of c.deref-in-Product-3.ensures) c.len-first.ensures.value c.in_ok-push_nodes-in-Product.ensures.len c.in_ok-push_nodes-in-Product.ensures.ok c.in_ok-push_nodes-in-Product-2.ensures.ok c.push_binary.ensures.ok

pub returns-in_ok-push_nodes-in-Product-2-clause-faultless : goal.returns-in_ok-push_nodes-in-Product-2-clause-faultless
returns-in_ok-push_nodes-in-Product-2-clause-faultless t c =
    ok_faultless c.push_binary.result c.args.space.now (array_vec_len c.args.nodes.now) (array_vec_len c.push_nodes.new.nodes) (array_vec_len c.push_nodes-in-Product.new.nodes) (tree_of c.args.expr.now) Multiply (tree_of c.in-Product.left.value) (tree_of c.in-Product.right.value) (tree_of c.deref.result.now) (tree_of c.deref-in-Product.result.now) (tree_of c.deref-in-Product-2.result.now) (tree_of c.deref-in-Product-3.result.now)
    (record { is = ap tree_of c.in-Product.is }) (record { same = ap tree_of c.deref.ensures; faultless = c.in_ok-push_nodes-in-Product.ensures.faultless; len = c.in_ok-push_nodes-in-Product.ensures.len }) (record { same = ap tree_of c.deref-in-Product.ensures; faultless = c.in_ok-push_nodes-in-Product-2.ensures.faultless; len = c.in_ok-push_nodes-in-Product-2.ensures.len }) (ap tree_of c.deref-in-Product-2.ensures) (ap tree_of c.deref-in-Product-3.ensures) c.push_binary.ensures.faultless

pub returns-in_ok-push_nodes-in-Product-2-clause-fault : goal.returns-in_ok-push_nodes-in-Product-2-clause-fault
returns-in_ok-push_nodes-in-Product-2-clause-fault t c =
    err_fault c.push_binary.result c.args.space.now (array_vec_len c.args.nodes.now) (array_vec_len c.push_nodes.new.nodes) (array_vec_len c.push_nodes-in-Product.new.nodes) (tree_of c.args.expr.now) Multiply (tree_of c.in-Product.left.value) (tree_of c.in-Product.right.value) (tree_of c.deref.result.now) (tree_of c.deref-in-Product.result.now) (tree_of c.deref-in-Product-2.result.now) (tree_of c.deref-in-Product-3.result.now)
    (record { is = ap tree_of c.in-Product.is }) (record { same = ap tree_of c.deref.ensures; faultless = c.in_ok-push_nodes-in-Product.ensures.faultless; len = c.in_ok-push_nodes-in-Product.ensures.len }) (record { same = ap tree_of c.deref-in-Product.ensures; faultless = c.in_ok-push_nodes-in-Product-2.ensures.faultless; len = c.in_ok-push_nodes-in-Product-2.ensures.len }) (ap tree_of c.deref-in-Product-2.ensures) (ap tree_of c.deref-in-Product-3.ensures) c.push_binary.ensures.fault

pub returns-in_err-push_nodes-in-Add-clause-len : goal.returns-in_err-push_nodes-in-Add-clause-len
returns-in_err-push_nodes-in-Add-clause-len t c =
    ok_of_err c.from_residual-in_err-push_nodes-in-Add.result _ c.from_residual-in_err-push_nodes-in-Add.ensures.0

pub returns-in_err-push_nodes-in-Add-clause-ok : goal.returns-in_err-push_nodes-in-Add-clause-ok
returns-in_err-push_nodes-in-Add-clause-ok t c =
    ok_of_err c.from_residual-in_err-push_nodes-in-Add.result _ c.from_residual-in_err-push_nodes-in-Add.ensures.0

pub returns-in_err-push_nodes-in-Add-clause-faultless : goal.returns-in_err-push_nodes-in-Add-clause-faultless
returns-in_err-push_nodes-in-Add-clause-faultless t c =
    ok_of_err c.from_residual-in_err-push_nodes-in-Add.result _ c.from_residual-in_err-push_nodes-in-Add.ensures.0

pub returns-in_err-push_nodes-in-Add-2-clause-len : goal.returns-in_err-push_nodes-in-Add-2-clause-len
returns-in_err-push_nodes-in-Add-2-clause-len t c =
    ok_of_err c.from_residual-in_err-push_nodes-in-Add-2.result _ c.from_residual-in_err-push_nodes-in-Add-2.ensures.0

pub returns-in_err-push_nodes-in-Add-2-clause-ok : goal.returns-in_err-push_nodes-in-Add-2-clause-ok
returns-in_err-push_nodes-in-Add-2-clause-ok t c =
    ok_of_err c.from_residual-in_err-push_nodes-in-Add-2.result _ c.from_residual-in_err-push_nodes-in-Add-2.ensures.0

pub returns-in_err-push_nodes-in-Add-2-clause-faultless : goal.returns-in_err-push_nodes-in-Add-2-clause-faultless
returns-in_err-push_nodes-in-Add-2-clause-faultless t c =
    ok_of_err c.from_residual-in_err-push_nodes-in-Add-2.result _ c.from_residual-in_err-push_nodes-in-Add-2.ensures.0

pub returns-in_err-push_nodes-in-Add-clause-fault : goal.returns-in_err-push_nodes-in-Add-clause-fault
returns-in_err-push_nodes-in-Add-clause-fault t c =
    err_shows c.from_residual-in_err-push_nodes-in-Add.result c.in_err-push_nodes-in-Add.field-0.0 _ c.from_residual-in_err-push_nodes-in-Add.ensures.1
    (shown_left c.args.space.now (array_vec_len c.args.nodes.now) (tree_of c.args.expr.now) Add (tree_of c.in-Add.left.value) (tree_of c.in-Add.right.value) (tree_of c.deref-in-Add.result.now) c.in_err-push_nodes-in-Add.field-0.0
    (record { is = ap tree_of c.in-Add.is }) (ap tree_of c.deref-in-Add.ensures) c.in_err-push_nodes-in-Add.ensures.fault)

pub returns-in_err-push_nodes-in-Add-2-clause-fault : goal.returns-in_err-push_nodes-in-Add-2-clause-fault
returns-in_err-push_nodes-in-Add-2-clause-fault t c =
    err_shows c.from_residual-in_err-push_nodes-in-Add-2.result c.in_err-push_nodes-in-Add-2.field-0.0 _ c.from_residual-in_err-push_nodes-in-Add-2.ensures.1
    (shown_right c.args.space.now (array_vec_len c.args.nodes.now) (array_vec_len c.push_nodes-in-Add.new.nodes) (tree_of c.args.expr.now) Add (tree_of c.in-Add.left.value) (tree_of c.in-Add.right.value) (tree_of c.deref-in-Add.result.now) (tree_of c.deref-in-Add-2.result.now) c.in_err-push_nodes-in-Add-2.field-0.0
    (record { is = ap tree_of c.in-Add.is }) (record { same = ap tree_of c.deref-in-Add.ensures; faultless = c.in_ok-push_nodes-in-Add.ensures.faultless; len = c.in_ok-push_nodes-in-Add.ensures.len }) (ap tree_of c.deref-in-Add-2.ensures) c.in_err-push_nodes-in-Add-2.ensures.fault)

pub returns-in_ok-push_nodes-in-Add-2-clause-len : goal.returns-in_ok-push_nodes-in-Add-2-clause-len
returns-in_ok-push_nodes-in-Add-2-clause-len t c =
    ok_len c.push_binary-in-Add.result (array_vec_len c.args.nodes.now) (array_vec_len c.push_nodes-in-Add.new.nodes) (array_vec_len c.push_nodes-in-Add-2.new.nodes) (array_vec_len c.push_binary-in-Add.new.nodes) (tree_of c.args.expr.now) Add (tree_of c.in-Add.left.value) (tree_of c.in-Add.right.value) (tree_of c.deref-in-Add.result.now) (tree_of c.deref-in-Add-2.result.now)
    (record { is = ap tree_of c.in-Add.is }) (ap tree_of c.deref-in-Add.ensures) (ap tree_of c.deref-in-Add-2.ensures) c.in_ok-push_nodes-in-Add.ensures.len c.in_ok-push_nodes-in-Add-2.ensures.len c.push_binary-in-Add.ensures.len

pub returns-in_ok-push_nodes-in-Add-2-clause-ok : goal.returns-in_ok-push_nodes-in-Add-2-clause-ok
returns-in_ok-push_nodes-in-Add-2-clause-ok t c =
    ok_nodes c.push_binary-in-Add.result (array_vec_len c.args.nodes.now) (array_vec_len c.push_nodes-in-Add.new.nodes) c.len-first.result (tree_of c.args.expr.now) Add (tree_of c.in-Add.left.value) (tree_of c.in-Add.right.value) (tree_of c.deref-in-Add.result.now) (tree_of c.deref-in-Add-2.result.now) (tree_of c.deref-in-Add-3.result.now) (tree_of c.deref-in-Add-4.result.now)
    c.args.nodes.now.items c.push_nodes-in-Add.new.nodes.items c.push_nodes-in-Add-2.new.nodes.items c.push_binary-in-Add.new.nodes.items
    (record { is = ap tree_of c.in-Add.is }) (ap tree_of c.deref-in-Add.ensures) (ap tree_of c.deref-in-Add-2.ensures) (ap tree_of c.deref-in-Add-3.ensures) (ap tree_of c.deref-in-Add-4.ensures) c.len-first.ensures.value c.in_ok-push_nodes-in-Add.ensures.len c.in_ok-push_nodes-in-Add.ensures.ok c.in_ok-push_nodes-in-Add-2.ensures.ok c.push_binary-in-Add.ensures.ok

pub returns-in_ok-push_nodes-in-Add-2-clause-faultless : goal.returns-in_ok-push_nodes-in-Add-2-clause-faultless
returns-in_ok-push_nodes-in-Add-2-clause-faultless t c =
    ok_faultless c.push_binary-in-Add.result c.args.space.now (array_vec_len c.args.nodes.now) (array_vec_len c.push_nodes-in-Add.new.nodes) (array_vec_len c.push_nodes-in-Add-2.new.nodes) (tree_of c.args.expr.now) Add (tree_of c.in-Add.left.value) (tree_of c.in-Add.right.value) (tree_of c.deref-in-Add.result.now) (tree_of c.deref-in-Add-2.result.now) (tree_of c.deref-in-Add-3.result.now) (tree_of c.deref-in-Add-4.result.now)
    (record { is = ap tree_of c.in-Add.is }) (record { same = ap tree_of c.deref-in-Add.ensures; faultless = c.in_ok-push_nodes-in-Add.ensures.faultless; len = c.in_ok-push_nodes-in-Add.ensures.len }) (record { same = ap tree_of c.deref-in-Add-2.ensures; faultless = c.in_ok-push_nodes-in-Add-2.ensures.faultless; len = c.in_ok-push_nodes-in-Add-2.ensures.len }) (ap tree_of c.deref-in-Add-3.ensures) (ap tree_of c.deref-in-Add-4.ensures) c.push_binary-in-Add.ensures.faultless

pub returns-in_ok-push_nodes-in-Add-2-clause-fault : goal.returns-in_ok-push_nodes-in-Add-2-clause-fault
returns-in_ok-push_nodes-in-Add-2-clause-fault t c =
    err_fault c.push_binary-in-Add.result c.args.space.now (array_vec_len c.args.nodes.now) (array_vec_len c.push_nodes-in-Add.new.nodes) (array_vec_len c.push_nodes-in-Add-2.new.nodes) (tree_of c.args.expr.now) Add (tree_of c.in-Add.left.value) (tree_of c.in-Add.right.value) (tree_of c.deref-in-Add.result.now) (tree_of c.deref-in-Add-2.result.now) (tree_of c.deref-in-Add-3.result.now) (tree_of c.deref-in-Add-4.result.now)
    (record { is = ap tree_of c.in-Add.is }) (record { same = ap tree_of c.deref-in-Add.ensures; faultless = c.in_ok-push_nodes-in-Add.ensures.faultless; len = c.in_ok-push_nodes-in-Add.ensures.len }) (record { same = ap tree_of c.deref-in-Add-2.ensures; faultless = c.in_ok-push_nodes-in-Add-2.ensures.faultless; len = c.in_ok-push_nodes-in-Add-2.ensures.len }) (ap tree_of c.deref-in-Add-3.ensures) (ap tree_of c.deref-in-Add-4.ensures) c.push_binary-in-Add.ensures.fault

pub returns-in_err-push_nodes-in-Sub-clause-len : goal.returns-in_err-push_nodes-in-Sub-clause-len
returns-in_err-push_nodes-in-Sub-clause-len t c =
    ok_of_err c.from_residual-in_err-push_nodes-in-Sub.result _ c.from_residual-in_err-push_nodes-in-Sub.ensures.0

pub returns-in_err-push_nodes-in-Sub-clause-ok : goal.returns-in_err-push_nodes-in-Sub-clause-ok
returns-in_err-push_nodes-in-Sub-clause-ok t c =
    ok_of_err c.from_residual-in_err-push_nodes-in-Sub.result _ c.from_residual-in_err-push_nodes-in-Sub.ensures.0

pub returns-in_err-push_nodes-in-Sub-clause-faultless : goal.returns-in_err-push_nodes-in-Sub-clause-faultless
returns-in_err-push_nodes-in-Sub-clause-faultless t c =
    ok_of_err c.from_residual-in_err-push_nodes-in-Sub.result _ c.from_residual-in_err-push_nodes-in-Sub.ensures.0

pub returns-in_err-push_nodes-in-Sub-2-clause-len : goal.returns-in_err-push_nodes-in-Sub-2-clause-len
returns-in_err-push_nodes-in-Sub-2-clause-len t c =
    ok_of_err c.from_residual-in_err-push_nodes-in-Sub-2.result _ c.from_residual-in_err-push_nodes-in-Sub-2.ensures.0

pub returns-in_err-push_nodes-in-Sub-2-clause-ok : goal.returns-in_err-push_nodes-in-Sub-2-clause-ok
returns-in_err-push_nodes-in-Sub-2-clause-ok t c =
    ok_of_err c.from_residual-in_err-push_nodes-in-Sub-2.result _ c.from_residual-in_err-push_nodes-in-Sub-2.ensures.0

pub returns-in_err-push_nodes-in-Sub-2-clause-faultless : goal.returns-in_err-push_nodes-in-Sub-2-clause-faultless
returns-in_err-push_nodes-in-Sub-2-clause-faultless t c =
    ok_of_err c.from_residual-in_err-push_nodes-in-Sub-2.result _ c.from_residual-in_err-push_nodes-in-Sub-2.ensures.0

pub returns-in_err-push_nodes-in-Sub-clause-fault : goal.returns-in_err-push_nodes-in-Sub-clause-fault
returns-in_err-push_nodes-in-Sub-clause-fault t c =
    err_shows c.from_residual-in_err-push_nodes-in-Sub.result c.in_err-push_nodes-in-Sub.field-0.0 _ c.from_residual-in_err-push_nodes-in-Sub.ensures.1
    (shown_left c.args.space.now (array_vec_len c.args.nodes.now) (tree_of c.args.expr.now) Subtract (tree_of c.in-Sub.left.value) (tree_of c.in-Sub.right.value) (tree_of c.deref-in-Sub.result.now) c.in_err-push_nodes-in-Sub.field-0.0
    (record { is = ap tree_of c.in-Sub.is }) (ap tree_of c.deref-in-Sub.ensures) c.in_err-push_nodes-in-Sub.ensures.fault)

pub returns-in_err-push_nodes-in-Sub-2-clause-fault : goal.returns-in_err-push_nodes-in-Sub-2-clause-fault
returns-in_err-push_nodes-in-Sub-2-clause-fault t c =
    err_shows c.from_residual-in_err-push_nodes-in-Sub-2.result c.in_err-push_nodes-in-Sub-2.field-0.0 _ c.from_residual-in_err-push_nodes-in-Sub-2.ensures.1
    (shown_right c.args.space.now (array_vec_len c.args.nodes.now) (array_vec_len c.push_nodes-in-Sub.new.nodes) (tree_of c.args.expr.now) Subtract (tree_of c.in-Sub.left.value) (tree_of c.in-Sub.right.value) (tree_of c.deref-in-Sub.result.now) (tree_of c.deref-in-Sub-2.result.now) c.in_err-push_nodes-in-Sub-2.field-0.0
    (record { is = ap tree_of c.in-Sub.is }) (record { same = ap tree_of c.deref-in-Sub.ensures; faultless = c.in_ok-push_nodes-in-Sub.ensures.faultless; len = c.in_ok-push_nodes-in-Sub.ensures.len }) (ap tree_of c.deref-in-Sub-2.ensures) c.in_err-push_nodes-in-Sub-2.ensures.fault)

pub returns-in_ok-push_nodes-in-Sub-2-clause-len : goal.returns-in_ok-push_nodes-in-Sub-2-clause-len
returns-in_ok-push_nodes-in-Sub-2-clause-len t c =
    ok_len c.push_binary-in-Sub.result (array_vec_len c.args.nodes.now) (array_vec_len c.push_nodes-in-Sub.new.nodes) (array_vec_len c.push_nodes-in-Sub-2.new.nodes) (array_vec_len c.push_binary-in-Sub.new.nodes) (tree_of c.args.expr.now) Subtract (tree_of c.in-Sub.left.value) (tree_of c.in-Sub.right.value) (tree_of c.deref-in-Sub.result.now) (tree_of c.deref-in-Sub-2.result.now)
    (record { is = ap tree_of c.in-Sub.is }) (ap tree_of c.deref-in-Sub.ensures) (ap tree_of c.deref-in-Sub-2.ensures) c.in_ok-push_nodes-in-Sub.ensures.len c.in_ok-push_nodes-in-Sub-2.ensures.len c.push_binary-in-Sub.ensures.len

pub returns-in_ok-push_nodes-in-Sub-2-clause-ok : goal.returns-in_ok-push_nodes-in-Sub-2-clause-ok
returns-in_ok-push_nodes-in-Sub-2-clause-ok t c =
    ok_nodes c.push_binary-in-Sub.result (array_vec_len c.args.nodes.now) (array_vec_len c.push_nodes-in-Sub.new.nodes) c.len-first.result (tree_of c.args.expr.now) Subtract (tree_of c.in-Sub.left.value) (tree_of c.in-Sub.right.value) (tree_of c.deref-in-Sub.result.now) (tree_of c.deref-in-Sub-2.result.now) (tree_of c.deref-in-Sub-3.result.now) (tree_of c.deref-in-Sub-4.result.now)
    c.args.nodes.now.items c.push_nodes-in-Sub.new.nodes.items c.push_nodes-in-Sub-2.new.nodes.items c.push_binary-in-Sub.new.nodes.items
    (record { is = ap tree_of c.in-Sub.is }) (ap tree_of c.deref-in-Sub.ensures) (ap tree_of c.deref-in-Sub-2.ensures) (ap tree_of c.deref-in-Sub-3.ensures) (ap tree_of c.deref-in-Sub-4.ensures) c.len-first.ensures.value c.in_ok-push_nodes-in-Sub.ensures.len c.in_ok-push_nodes-in-Sub.ensures.ok c.in_ok-push_nodes-in-Sub-2.ensures.ok c.push_binary-in-Sub.ensures.ok

pub returns-in_ok-push_nodes-in-Sub-2-clause-faultless : goal.returns-in_ok-push_nodes-in-Sub-2-clause-faultless
returns-in_ok-push_nodes-in-Sub-2-clause-faultless t c =
    ok_faultless c.push_binary-in-Sub.result c.args.space.now (array_vec_len c.args.nodes.now) (array_vec_len c.push_nodes-in-Sub.new.nodes) (array_vec_len c.push_nodes-in-Sub-2.new.nodes) (tree_of c.args.expr.now) Subtract (tree_of c.in-Sub.left.value) (tree_of c.in-Sub.right.value) (tree_of c.deref-in-Sub.result.now) (tree_of c.deref-in-Sub-2.result.now) (tree_of c.deref-in-Sub-3.result.now) (tree_of c.deref-in-Sub-4.result.now)
    (record { is = ap tree_of c.in-Sub.is }) (record { same = ap tree_of c.deref-in-Sub.ensures; faultless = c.in_ok-push_nodes-in-Sub.ensures.faultless; len = c.in_ok-push_nodes-in-Sub.ensures.len }) (record { same = ap tree_of c.deref-in-Sub-2.ensures; faultless = c.in_ok-push_nodes-in-Sub-2.ensures.faultless; len = c.in_ok-push_nodes-in-Sub-2.ensures.len }) (ap tree_of c.deref-in-Sub-3.ensures) (ap tree_of c.deref-in-Sub-4.ensures) c.push_binary-in-Sub.ensures.faultless

pub returns-in_ok-push_nodes-in-Sub-2-clause-fault : goal.returns-in_ok-push_nodes-in-Sub-2-clause-fault
returns-in_ok-push_nodes-in-Sub-2-clause-fault t c =
    err_fault c.push_binary-in-Sub.result c.args.space.now (array_vec_len c.args.nodes.now) (array_vec_len c.push_nodes-in-Sub.new.nodes) (array_vec_len c.push_nodes-in-Sub-2.new.nodes) (tree_of c.args.expr.now) Subtract (tree_of c.in-Sub.left.value) (tree_of c.in-Sub.right.value) (tree_of c.deref-in-Sub.result.now) (tree_of c.deref-in-Sub-2.result.now) (tree_of c.deref-in-Sub-3.result.now) (tree_of c.deref-in-Sub-4.result.now)
    (record { is = ap tree_of c.in-Sub.is }) (record { same = ap tree_of c.deref-in-Sub.ensures; faultless = c.in_ok-push_nodes-in-Sub.ensures.faultless; len = c.in_ok-push_nodes-in-Sub.ensures.len }) (record { same = ap tree_of c.deref-in-Sub-2.ensures; faultless = c.in_ok-push_nodes-in-Sub-2.ensures.faultless; len = c.in_ok-push_nodes-in-Sub-2.ensures.len }) (ap tree_of c.deref-in-Sub-3.ensures) (ap tree_of c.deref-in-Sub-4.ensures) c.push_binary-in-Sub.ensures.fault

pub returns-in_err-push_nodes-in-Sum-clause-len : goal.returns-in_err-push_nodes-in-Sum-clause-len
returns-in_err-push_nodes-in-Sum-clause-len t c =
    ok_of_err c.from_residual-in_err-push_nodes-in-Sum.result _ c.from_residual-in_err-push_nodes-in-Sum.ensures.0

pub returns-in_err-push_nodes-in-Sum-clause-ok : goal.returns-in_err-push_nodes-in-Sum-clause-ok
returns-in_err-push_nodes-in-Sum-clause-ok t c =
    ok_of_err c.from_residual-in_err-push_nodes-in-Sum.result _ c.from_residual-in_err-push_nodes-in-Sum.ensures.0

pub returns-in_err-push_nodes-in-Sum-clause-faultless : goal.returns-in_err-push_nodes-in-Sum-clause-faultless
returns-in_err-push_nodes-in-Sum-clause-faultless t c =
    ok_of_err c.from_residual-in_err-push_nodes-in-Sum.result _ c.from_residual-in_err-push_nodes-in-Sum.ensures.0
