use Rattle.std.proofs.Common.{◌≡◌, ◌-◌, ◌*◌, ◌≤◌, length, ◌∙◌, arith}
use Rattle.std.proofs.Math.Nat.{mul-le-mul_right}
use Rattle.tce_words.specs.Added.{reach}
use Rattle.tce_words.proofs.RowSteps.{same_rows}
use Rattle.tce_words.proofs.ThreeParts.{target_is, target_replaced, stretch_is, stretch_as_long}
use Rattle.tce_words.proofs.rows.mul_add_beside.Goals as goal

pub mul_add_rows-requires-clause-rows : goal.mul_add_rows-requires-clause-rows
mul_add_rows-requires-clause-rows c = λ k lt.
    let step = c.args.rows.step in
    let below : k * step ≤ (c.args.count - 1) * step = mul-le-mul_right step (omega arith) in
    let long : length c.stretch-scaled.result.now ≡ reach step c.args.count c.args.n =
    stretch_as_long c.args.words.now c.split_at_mut-front.result.0.now c.split_at_mut-front.result.1.now c.split_at_mut-target.result.0.now c.split_at_mut-target.result.1.now c.args.out c.args.n
    c.split_at_mut-front.ensures.value c.split_at_mut-target.ensures.value c.split_at_mut-front.ensures.front_len c.split_at_mut-target.ensures.front_len
    c.args.rows.first (reach step c.args.count c.args.n) c.stretch-scaled.result.now c.stretch-scaled.ensures c.requires.rows in
    omega (arith, below, long, c.split_at_mut-target.ensures.front_len)

pub returns : goal.returns
returns c =
    target_replaced c.args.words.now c.split_at_mut-front.result.0.now c.split_at_mut-front.result.1.now c.split_at_mut-target.result.0.now c.split_at_mut-target.result.1.now c.args.out c.args.n
    c.split_at_mut-front.ensures.value c.split_at_mut-target.ensures.value c.split_at_mut-front.ensures.front_len c.split_at_mut-target.ensures.front_len
    c.mul_add_rows.new.out _ c.mul_add_rows.auto.out
    (c.mul_add_rows.ensures ∙ same_rows _ _ _ _ _ _ c.args.factors.step c.args.rows.step c.args.count
    (target_is c.args.words.now c.split_at_mut-front.result.0.now c.split_at_mut-front.result.1.now c.split_at_mut-target.result.0.now c.split_at_mut-target.result.1.now c.args.out c.args.n
    c.split_at_mut-front.ensures.value c.split_at_mut-target.ensures.value c.split_at_mut-front.ensures.front_len c.split_at_mut-target.ensures.front_len c.requires.out)
    (stretch_is c.args.words.now c.split_at_mut-front.result.0.now c.split_at_mut-front.result.1.now c.split_at_mut-target.result.0.now c.split_at_mut-target.result.1.now c.args.out c.args.n
    c.split_at_mut-front.ensures.value c.split_at_mut-target.ensures.value c.split_at_mut-front.ensures.front_len c.split_at_mut-target.ensures.front_len
    c.args.factors.first (reach c.args.factors.step c.args.count 1) c.stretch-scales.result.now c.stretch-scales.ensures)
    (stretch_is c.args.words.now c.split_at_mut-front.result.0.now c.split_at_mut-front.result.1.now c.split_at_mut-target.result.0.now c.split_at_mut-target.result.1.now c.args.out c.args.n
    c.split_at_mut-front.ensures.value c.split_at_mut-target.ensures.value c.split_at_mut-front.ensures.front_len c.split_at_mut-target.ensures.front_len
    c.args.rows.first (reach c.args.rows.step c.args.count c.args.n) c.stretch-scaled.result.now c.stretch-scaled.ensures))
