use Rattle.std.proofs.Common.{◌≡◌, ◌<◌, ◌+◌, ◌-◌, length, arith}
use Rattle.std.proofs.lemmas.Result.{err_from_is_err_and}
use Rattle.tce_tree.specs.ContractionTree.{operations}
use Rattle.tce_report.specs.ReadLine.{said}
use Rattle.tce_cert.proofs.NodeRuns.{inner_node, root_node, keeps_node, keeps_root, node_fault, root_fault}
use Rattle.tce_cert.proofs.nodes.read_nodes.Goals as goal

pub returns-in_err-said-clause-err : goal.returns-in_err-said-clause-err
returns-in_err-said-clause-err c =
    let inside : c.loop-v.v < operations c.args.tree.now = omega (arith, c.loop-v-test.true, c.count-root.ensures.value) in
    let p = err_from_is_err_and c.from_residual.result c.from_residual.ensures.1 in
    rw (p.1, p.2)
    (node_fault c.args.space.now c.args.tree.now c.loop-v.v c.args.from.number c.loop-v.at.number c.args.from.rest.now c.loop-v.at.rest.now c.in_err-said.field-0.0 inside
    c.loop-v.invariant.keeps c.in_err-said.ensures.err)

pub loop-v-preserved : goal.loop-v-preserved
loop-v-preserved c =
    let inside : c.loop-v.v < operations c.args.tree.now = omega (arith, c.loop-v-test.true, c.count-root.ensures.value) in
    record {
      read =
          inner_node c.args.space.now c.args.tree.now c.loop-v.v c.loop-v.at.number c.in_ok-said.next.number
          c.loop-v.fusion.items c.push.new.self.items c.loop-v.orders.items c.push-in-loop-v.new.self.items c.loop-v.sizes.items c.push-in-loop-v-2.new.self.items c.in_ok-said.said
          c.args.from.rest.now c.loop-v.at.rest.now c.in_ok-said.next.rest.now c.loop-v.invariant.read c.in_ok-said.ensures.ok
          c.loop-v.invariant.sizes c.push.ensures.items c.push-in-loop-v.ensures.items c.push-in-loop-v-2.ensures.items;
      fusion = omega (arith, c.push.ensures.len, c.loop-v.invariant.fusion);
      orders = omega (arith, c.push-in-loop-v.ensures.len, c.loop-v.invariant.orders);
      sizes = omega (arith, c.push-in-loop-v-2.ensures.len, c.loop-v.invariant.sizes);
      keeps =
          keeps_node c.args.space.now c.args.tree.now c.loop-v.v c.args.from.number c.loop-v.at.number c.in_ok-said.next.number
          c.args.from.rest.now c.loop-v.at.rest.now c.in_ok-said.next.rest.now (said c.in_ok-said.said) inside c.loop-v.invariant.keeps c.in_ok-said.ensures.ok;
    }

pub returns-in_err-of_root-clause-err : goal.returns-in_err-of_root-clause-err
returns-in_err-of_root-clause-err c =
    let root = c.count-root.result - 1 in
    let same : c.loop-v.v ≡ c.count-root.result - 1 = omega arith in
    let last : c.count-root.result - 1 + 1 ≡ operations c.args.tree.now = omega (arith, c.count-root.ensures.value, c.count-root.ensures.positive) in
    let p = err_from_is_err_and c.from_residual-in_err-of_root.result c.from_residual-in_err-of_root.ensures.1 in
    rw (p.1, p.2)
    (root_fault c.args.space.now c.args.tree.now c.loop-v.v root c.args.from.number c.loop-v.at.number c.args.from.rest.now c.loop-v.at.rest.now c.in_err-of_root.field-0.0 same last
    c.loop-v.invariant.keeps c.in_err-of_root.ensures.err)

pub returns-clause-ok : goal.returns-clause-ok
returns-clause-ok c =
    let root = c.count-root.result - 1 in
    let same : c.loop-v.v ≡ c.count-root.result - 1 = omega arith in
    let last : c.count-root.result - 1 + 1 ≡ operations c.args.tree.now = omega (arith, c.count-root.ensures.value, c.count-root.ensures.positive) in
    root_node c.args.space.now c.args.tree.now c.loop-v.v root c.loop-v.at.number c.in_ok-of_root.behind.number
    c.loop-v.fusion.items _ c.loop-v.orders.items _ c.loop-v.sizes.items c.in_ok-of_root.of_root
    c.args.from.rest.now c.loop-v.at.rest.now c.in_ok-of_root.behind.rest.now same last c.loop-v.invariant.read c.in_ok-of_root.ensures.ok
    c.loop-v.invariant.sizes c.push-2.ensures.items c.push-3.ensures.items

pub returns-clause-on : goal.returns-clause-on
returns-clause-on c =
    let root = c.count-root.result - 1 in
    let same : c.loop-v.v ≡ c.count-root.result - 1 = omega arith in
    let last : c.count-root.result - 1 + 1 ≡ operations c.args.tree.now = omega (arith, c.count-root.ensures.value, c.count-root.ensures.positive) in
    keeps_root c.args.space.now c.args.tree.now c.loop-v.v root c.args.from.number c.loop-v.at.number c.in_ok-of_root.behind.number
    c.args.from.rest.now c.loop-v.at.rest.now c.in_ok-of_root.behind.rest.now (said c.in_ok-of_root.of_root) same last c.loop-v.invariant.keeps c.in_ok-of_root.ensures.ok

pub returns-in_err-said-clause-sizes : goal.returns-in_err-said-clause-sizes
returns-in_err-said-clause-sizes c =
    let p = err_from_is_err_and c.from_residual.result c.from_residual.ensures.1 in
    rw p.1 tt

pub returns-in_err-said-clause-ok : goal.returns-in_err-said-clause-ok
returns-in_err-said-clause-ok c =
    let p = err_from_is_err_and c.from_residual.result c.from_residual.ensures.1 in
    rw p.1 tt

pub returns-in_err-said-clause-on : goal.returns-in_err-said-clause-on
returns-in_err-said-clause-on c =
    let p = err_from_is_err_and c.from_residual.result c.from_residual.ensures.1 in
    rw p.1 tt

pub returns-in_err-of_root-clause-sizes : goal.returns-in_err-of_root-clause-sizes
returns-in_err-of_root-clause-sizes c =
    let p = err_from_is_err_and c.from_residual-in_err-of_root.result c.from_residual-in_err-of_root.ensures.1 in
    rw p.1 tt

pub returns-in_err-of_root-clause-ok : goal.returns-in_err-of_root-clause-ok
returns-in_err-of_root-clause-ok c =
    let p = err_from_is_err_and c.from_residual-in_err-of_root.result c.from_residual-in_err-of_root.ensures.1 in
    rw p.1 tt

pub returns-in_err-of_root-clause-on : goal.returns-in_err-of_root-clause-on
returns-in_err-of_root-clause-on c =
    let p = err_from_is_err_and c.from_residual-in_err-of_root.result c.from_residual-in_err-of_root.ensures.1 in
    rw p.1 tt

pub read_node-requires-clause-inside : goal.read_node-requires-clause-inside
read_node-requires-clause-inside c = omega (arith, c.loop-v-test.true, c.count-root.ensures.value)

pub push-requires : goal.push-requires
push-requires c =
    let few : length c.loop-v.fusion.items < 32 = omega (arith, c.loop-v.invariant.fusion, c.loop-v-test.true, c.count-root.ensures.limit) in
    (omega arith, few)

pub push-requires-in-loop-v : goal.push-requires-in-loop-v
push-requires-in-loop-v c =
    let few : length c.loop-v.orders.items < 32 = omega (arith, c.loop-v.invariant.orders, c.loop-v-test.true, c.count-root.ensures.limit) in
    (omega arith, few)

pub push-requires-in-loop-v-2 : goal.push-requires-in-loop-v-2
push-requires-in-loop-v-2 c =
    let few : length c.loop-v.sizes.items < 32 = omega (arith, c.loop-v.invariant.sizes, c.loop-v-test.true, c.count-root.ensures.limit) in
    (omega arith, few)

pub read_node-requires-2-clause-inside : goal.read_node-requires-2-clause-inside
read_node-requires-2-clause-inside c = omega (arith, c.count-root.ensures.value, c.count-root.ensures.positive)

pub push-requires-2 : goal.push-requires-2
push-requires-2 c =
    let few : length c.loop-v.fusion.items < 32 = omega (arith, c.loop-v.invariant.fusion, c.loop-v.auto.v-end, c.count-root.ensures.limit, c.count-root.ensures.positive) in
    (omega arith, few)

pub push-requires-3 : goal.push-requires-3
push-requires-3 c =
    let few : length c.loop-v.orders.items < 32 = omega (arith, c.loop-v.invariant.orders, c.loop-v.auto.v-end, c.count-root.ensures.limit, c.count-root.ensures.positive) in
    (omega arith, few)

pub returns-clause-sizes : goal.returns-clause-sizes
returns-clause-sizes c = omega (arith, c.loop-v.invariant.sizes, c.loop-v-test.false, c.loop-v.auto.v-end, c.count-root.ensures.value, c.count-root.ensures.positive)

pub overflow_sub-root : goal.overflow_sub-root
overflow_sub-root c = omega (arith, c.count-root.ensures.positive)
