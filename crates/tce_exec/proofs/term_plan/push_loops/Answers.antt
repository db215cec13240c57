use Rattle.std.proofs.Common.{◌<◌, ◌++◌, [], ◌∷◌, length-append, get_or, take, sym, ap, ◌∙◌, append_assoc, append-nil, arith}
use Rattle.std.proofs.lemmas.List.{take_more, take_all}
use Rattle.arrayvec.specs.ArrayVec.{array_vec_len}
use Rattle.tce_exec.proofs.term_plan.push_loops.Goals as goal

pub loop-index-init : goal.loop-index-init
loop-index-init c = record { items_are = sym (append-nil c.args.loops.now.items); count = omega arith }

pub loop-index-preserved : goal.loop-index-preserved
loop-index-preserved c =
    let i = c.loop-index.index-index in
    record {
      items_are = c.push.ensures.items
          ∙ ap (λ xs. xs ++ get_or c.args.more.now i 0 ∷ []) c.loop-index.invariant.items_are
          ∙ append_assoc c.args.loops.now.items (take i c.args.more.now) (get_or c.args.more.now i 0 ∷ [])
          ∙ ap (λ xs. c.args.loops.now.items ++ xs) (sym (take_more c.args.more.now i 0 c.loop-index-test.true));
      count = omega (arith, c.push.ensures.len, c.loop-index.invariant.count);
    }

pub push-requires : goal.push-requires
push-requires c =
    let few : array_vec_len c.loop-index.loops < 10 = omega (arith, c.loop-index.invariant.count, c.loop-index-test.true, c.requires, length-append c.args.loops.now.items c.args.more.now) in
    (omega arith, few)

pub returns : goal.returns
returns c = c.loop-index.invariant.items_are ∙ ap (λ xs. c.args.loops.now.items ++ xs) (take_all c.loop-index.index-index c.args.more.now c.loop-index-test.false)
