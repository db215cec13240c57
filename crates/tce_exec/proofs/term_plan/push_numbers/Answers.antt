use Rattle.std.proofs.Common.{◌<◌, ◌++◌, [], ◌∷◌, length-append, get_or, take, sym, ap, ◌∙◌, append_assoc, append-nil, arith}
use Rattle.std.proofs.lemmas.List.{take_more, take_all}
use Rattle.arrayvec.specs.ArrayVec.{array_vec_len}
use Rattle.tce_exec.proofs.term_plan.push_numbers.Goals as goal

pub loop-number-init : goal.loop-number-init
loop-number-init c = record { items_are = sym (append-nil c.args.list.now.items); count = omega arith }

pub loop-number-preserved : goal.loop-number-preserved
loop-number-preserved c =
    let i = c.loop-number.number-index in
    record {
      items_are = c.push.ensures.items
          ∙ ap (λ xs. xs ++ get_or c.args.more.now i 0 ∷ []) c.loop-number.invariant.items_are
          ∙ append_assoc c.args.list.now.items (take i c.args.more.now) (get_or c.args.more.now i 0 ∷ [])
          ∙ ap (λ xs. c.args.list.now.items ++ xs) (sym (take_more c.args.more.now i 0 c.loop-number-test.true));
      count = omega (arith, c.push.ensures.len, c.loop-number.invariant.count);
    }

pub push-requires : goal.push-requires
push-requires c =
    let few : array_vec_len c.loop-number.list < 10 = omega (arith, c.loop-number.invariant.count, c.loop-number-test.true, c.requires, length-append c.args.list.now.items c.args.more.now) in
    (omega arith, few)

pub returns : goal.returns
returns c = c.loop-number.invariant.items_are ∙ ap (λ xs. c.args.list.now.items ++ xs) (take_all c.loop-number.number-index c.args.more.now c.loop-number-test.false)
