use Rattle.std.proofs.Common.{length, ap₂, ◌∙◌}
use Rattle.std.specs.Simd.Lanes.{zip2}
use Rattle.tce_base.specs.Word.{wrapping_mul}
use Rattle.tce_words.proofs.ThreeParts.{begins_within, ends_within, reaches_back, target_replaced, part_is, part_as_long}
use Rattle.tce_words.proofs.products.mul_contiguous.Goals as goal

pub split_at_mut-front-requires : goal.split_at_mut-front-requires
split_at_mut-front-requires c = begins_within (length c.args.words.now) c.args.out c.args.n c.requires.out

pub split_at_mut-target-requires : goal.split_at_mut-target-requires
split_at_mut-target-requires c =
    ends_within (length c.args.words.now) (length c.split_at_mut-front.result.1.now) c.args.out c.args.n
    c.split_at_mut-front.ensures.back_len
    c.requires.out

pub part-a_words-requires-clause-front : goal.part-a_words-requires-clause-front
part-a_words-requires-clause-front c = c.split_at_mut-front.ensures.front_len

pub part-a_words-requires-clause-back : goal.part-a_words-requires-clause-back
part-a_words-requires-clause-back c =
    reaches_back (length c.args.words.now) (length c.split_at_mut-front.result.1.now) (length c.split_at_mut-target.result.1.now) c.args.out c.args.n c.args.a
    c.split_at_mut-front.ensures.back_len
    c.split_at_mut-target.ensures.back_len
    c.requires.a

pub part-a_words-requires-clause-apart : goal.part-a_words-requires-clause-apart
part-a_words-requires-clause-apart c = c.requires.apart_from_a

pub part-b_words-requires-clause-front : goal.part-b_words-requires-clause-front
part-b_words-requires-clause-front c = c.split_at_mut-front.ensures.front_len

pub part-b_words-requires-clause-back : goal.part-b_words-requires-clause-back
part-b_words-requires-clause-back c =
    reaches_back (length c.args.words.now) (length c.split_at_mut-front.result.1.now) (length c.split_at_mut-target.result.1.now) c.args.out c.args.n c.args.b
    c.split_at_mut-front.ensures.back_len
    c.split_at_mut-target.ensures.back_len
    c.requires.b

pub part-b_words-requires-clause-apart : goal.part-b_words-requires-clause-apart
part-b_words-requires-clause-apart c = c.requires.apart_from_b

pub mul_vv-requires-clause-a : goal.mul_vv-requires-clause-a
mul_vv-requires-clause-a c =
    part_as_long c.args.words.now c.split_at_mut-front.result.0.now c.split_at_mut-front.result.1.now c.split_at_mut-target.result.0.now c.split_at_mut-target.result.1.now c.args.out c.args.n
    c.split_at_mut-front.ensures.value
    c.split_at_mut-target.ensures.value
    c.split_at_mut-front.ensures.front_len
    c.split_at_mut-target.ensures.front_len
    c.args.a
    c.part-a_words.result.now
    c.part-a_words.ensures
    c.requires.a

pub mul_vv-requires-clause-b : goal.mul_vv-requires-clause-b
mul_vv-requires-clause-b c =
    part_as_long c.args.words.now c.split_at_mut-front.result.0.now c.split_at_mut-front.result.1.now c.split_at_mut-target.result.0.now c.split_at_mut-target.result.1.now c.args.out c.args.n
    c.split_at_mut-front.ensures.value
    c.split_at_mut-target.ensures.value
    c.split_at_mut-front.ensures.front_len
    c.split_at_mut-target.ensures.front_len
    c.args.b
    c.part-b_words.result.now
    c.part-b_words.ensures
    c.requires.b

pub returns : goal.returns
returns c =
    target_replaced c.args.words.now c.split_at_mut-front.result.0.now c.split_at_mut-front.result.1.now c.split_at_mut-target.result.0.now c.split_at_mut-target.result.1.now c.args.out c.args.n
    c.split_at_mut-front.ensures.value
    c.split_at_mut-target.ensures.value
    c.split_at_mut-front.ensures.front_len
    c.split_at_mut-target.ensures.front_len
    c.mul_vv.new.out _ c.mul_vv.auto.out
    (c.mul_vv.ensures ∙ ap₂ (zip2 wrapping_mul)
    (part_is c.args.words.now c.split_at_mut-front.result.0.now c.split_at_mut-front.result.1.now c.split_at_mut-target.result.0.now c.split_at_mut-target.result.1.now c.args.out c.args.n
    c.split_at_mut-front.ensures.value
    c.split_at_mut-target.ensures.value
    c.split_at_mut-front.ensures.front_len
    c.split_at_mut-target.ensures.front_len
    c.args.a
    c.part-a_words.result.now
    c.part-a_words.ensures)
    (part_is c.args.words.now c.split_at_mut-front.result.0.now c.split_at_mut-front.result.1.now c.split_at_mut-target.result.0.now c.split_at_mut-target.result.1.now c.args.out c.args.n
    c.split_at_mut-front.ensures.value
    c.split_at_mut-target.ensures.value
    c.split_at_mut-front.ensures.front_len
    c.split_at_mut-target.ensures.front_len
    c.args.b
    c.part-b_words.result.now
    c.part-b_words.ensures))
