use Rattle.std.proofs.Common.{◌≡◌, length, subst, arith}
use Rattle.tce_job.proofs.ArrayLists.{AreListed, none_listed, next_listed, all_listed}
use Rattle.tce_job.proofs.arrays.arrays_of.Goals as goal

pub loop-t-init : goal.loop-t-init
loop-t-init c = none_listed c.args.spec.now c.args.forms.now.0 c.in_ok-arrays.arrays.items c.in_ok-arrays.ensures.items

pub loop-t-preserved : goal.loop-t-preserved
loop-t-preserved c =
    next_listed c.args.spec.now c.args.forms.now.0 c.loop-t.arrays.items c.push.new.self.items c.in_ok-array_of.field-0 c.loop-t.t c.loop-t.invariant c.in_ok-array_of.ensures c.in_ok-push.ensures.items

pub returns : goal.returns
returns c =
    let all : c.loop-t.t ≡ length c.args.spec.now.declarations.tensors = omega arith in
    all_listed c.args.spec.now c.args.forms.now.0 c.loop-t.arrays.items c.tree-tree.ensures.rules (subst (AreListed c.args.spec.now c.args.forms.now.0 c.loop-t.arrays.items) all c.loop-t.invariant)
