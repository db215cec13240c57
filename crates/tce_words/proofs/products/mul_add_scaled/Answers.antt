use Rattle.std.proofs.Common.{length, map, ap, ap₂, ◌∙◌}
use Rattle.std.specs.Simd.Lanes.{zip2}
use Rattle.tce_base.specs.Word.{wrapping_add, wrapping_mul}
use Rattle.tce_words.proofs.ThreeParts.{begins_within, ends_within, reaches_back, target_is, target_replaced, part_is, part_as_long}
use Rattle.tce_words.proofs.products.mul_add_scaled.Goals as goal

pub split_at_mut-front-requires : goal.split_at_mut-front-requires
split_at_mut-front-requires c = begins_within (length c.args.words.now) c.args.out c.args.n c.requires.out

pub split_at_mut-target-requires : goal.split_at_mut-target-requires
split_at_mut-target-requires c =
    ends_within (length c.args.words.now) (length c.split_at_mut-front.result.1.now) c.args.out c.args.n
    c.split_at_mut-front.ensures.back_len
    c.requires.out

pub part-requires-clause-front : goal.part-requires-clause-front
part-requires-clause-front c = c.split_at_mut-front.ensures.front_len

pub part-requires-clause-back : goal.part-requires-clause-back
part-requires-clause-back c =
    reaches_back (length c.args.words.now) (length c.split_at_mut-front.result.1.now) (length c.split_at_mut-target.result.1.now) c.args.out c.args.n c.args.b
    c.split_at_mut-front.ensures.back_len
    c.split_at_mut-target.ensures.back_len
    c.requires.b

pub part-requires-clause-apart : goal.part-requires-clause-apart
part-requires-clause-apart c = c.requires.apart

pub mul_add_sv-requires : goal.mul_add_sv-requires
mul_add_sv-requires c =
    part_as_long c.args.words.now c.split_at_mut-front.result.0.now c.split_at_mut-front.result.1.now c.split_at_mut-target.result.0.now c.split_at_mut-target.result.1.now c.args.out c.args.n
    c.split_at_mut-front.ensures.value
    c.split_at_mut-target.ensures.value
    c.split_at_mut-front.ensures.front_len
    c.split_at_mut-target.ensures.front_len
    c.args.b
    c.part.result.now
    c.part.ensures
    c.requires.b

pub returns : goal.returns
returns c =
    target_replaced c.args.words.now c.split_at_mut-front.result.0.now c.split_at_mut-front.result.1.now c.split_at_mut-target.result.0.now c.split_at_mut-target.result.1.now c.args.out c.args.n
    c.split_at_mut-front.ensures.value
    c.split_at_mut-target.ensures.value
    c.split_at_mut-front.ensures.front_len
    c.split_at_mut-target.ensures.front_len
    c.mul_add_sv.new.out _ c.mul_add_sv.auto.out
    (c.mul_add_sv.ensures ∙ ap₂ (zip2 wrapping_add)
    (target_is c.args.words.now c.split_at_mut-front.result.0.now c.split_at_mut-front.result.1.now c.split_at_mut-target.result.0.now c.split_at_mut-target.result.1.now c.args.out c.args.n
    c.split_at_mut-front.ensures.value
    c.split_at_mut-target.ensures.value
    c.split_at_mut-front.ensures.front_len
    c.split_at_mut-target.ensures.front_len
    c.requires.out)
    (ap (map (wrapping_mul c.args.factor))
    (part_is c.args.words.now c.split_at_mut-front.result.0.now c.split_at_mut-front.result.1.now c.split_at_mut-target.result.0.now c.split_at_mut-target.result.1.now c.args.out c.args.n
    c.split_at_mut-front.ensures.value
    c.split_at_mut-target.ensures.value
    c.split_at_mut-front.ensures.front_len
    c.split_at_mut-target.ensures.front_len
    c.args.b
    c.part.result.now
    c.part.ensures)))
