use Rattle.std.proofs.Common.{slice_index, arith, length}
use Rattle.tce_base.specs.Word.{wrapping_mul}
use Rattle.tce_base.proofs.Words.{times_comm}
use Rattle.tce_words.proofs.RunSteps.{one_before_other, run_joined, run_mapped, steady_left, steady_swapped, part_within}
use Rattle.tce_words.proofs.products.mul_run.Goals as goal

pub mul_contiguous-requires-clause-apart_from_a : goal.mul_contiguous-requires-clause-apart_from_a
mul_contiguous-requires-clause-apart_from_a c = one_before_other c.args.out.first c.args.out.step c.args.a.first c.args.a.step c.args.n c.in-1-eq1-eq1.is-0 c.in-1-eq1-eq1.is-1 (omega arith) c.requires.apart_from_a

pub mul_contiguous-requires-clause-apart_from_b : goal.mul_contiguous-requires-clause-apart_from_b
mul_contiguous-requires-clause-apart_from_b c = one_before_other c.args.out.first c.args.out.step c.args.b.first c.args.b.step c.args.n c.in-1-eq1-eq1.is-0 c.in-1-eq1-eq1.is-2 (omega arith) c.requires.apart_from_b

pub mul_scaled-requires-clause-apart : goal.mul_scaled-requires-clause-apart
mul_scaled-requires-clause-apart c = one_before_other c.args.out.first c.args.out.step c.args.a.first c.args.a.step c.args.n c.in-1-eq1-eq0.is-0 c.in-1-eq1-eq0.is-1 (omega arith) c.requires.apart_from_a

pub mul_scaled-requires-in-1-eq0-eq1-clause-apart : goal.mul_scaled-requires-in-1-eq0-eq1-clause-apart
mul_scaled-requires-in-1-eq0-eq1-clause-apart c = one_before_other c.args.out.first c.args.out.step c.args.b.first c.args.b.step c.args.n c.in-1-eq0-eq1.is-0 c.in-1-eq0-eq1.is-2 (omega arith) c.requires.apart_from_b

pub returns-in-1-eq1-eq1 : goal.returns-in-1-eq1-eq1
returns-in-1-eq1-eq1 c =
    run_joined wrapping_mul c.args.out.first c.args.out.step c.args.a.first c.args.a.step c.args.b.first c.args.b.step c.args.n c.args.words.now c.mul_contiguous.new.words c.mul_contiguous.ensures
    c.in-1-eq1-eq1.is-0 c.in-1-eq1-eq1.is-1 c.in-1-eq1-eq1.is-2 (omega arith) c.requires.out c.requires.a c.requires.b

pub returns-in-1-eq1-eq0 : goal.returns-in-1-eq1-eq0
returns-in-1-eq1-eq0 c =
    let old = c.args.words.now in
    run_mapped (wrapping_mul (slice_index old c.args.b.first)) _ c.args.out.first c.args.out.step c.args.a.first c.args.a.step c.args.n old c.mul_scaled.new.words c.mul_scaled.ensures
    c.in-1-eq1-eq0.is-0 c.in-1-eq1-eq0.is-1 (omega arith) c.requires.out c.requires.a
    (λ t. steady_swapped wrapping_mul (slice_index old) c.args.b.first t c.args.b.step _ c.in-1-eq1-eq0.is-2 (times_comm _ _))

pub returns-in-1-eq0-eq1 : goal.returns-in-1-eq0-eq1
returns-in-1-eq0-eq1 c =
    let old = c.args.words.now in
    run_mapped (wrapping_mul (slice_index old c.args.a.first)) _ c.args.out.first c.args.out.step c.args.b.first c.args.b.step c.args.n old c.mul_scaled-in-1-eq0-eq1.new.words c.mul_scaled-in-1-eq0-eq1.ensures
    c.in-1-eq0-eq1.is-0 c.in-1-eq0-eq1.is-2 (omega arith) c.requires.out c.requires.b
    (λ t. steady_left wrapping_mul (slice_index old) c.args.a.first t c.args.a.step _ c.in-1-eq0-eq1.is-1)

pub mul_contiguous-requires-clause-out : goal.mul_contiguous-requires-clause-out
mul_contiguous-requires-clause-out c = part_within (length c.args.words.now) c.args.out.first c.args.out.step c.args.n c.in-1-eq1-eq1.is-0 (omega arith) c.requires.out

pub mul_contiguous-requires-clause-a : goal.mul_contiguous-requires-clause-a
mul_contiguous-requires-clause-a c = part_within (length c.args.words.now) c.args.a.first c.args.a.step c.args.n c.in-1-eq1-eq1.is-1 (omega arith) c.requires.a

pub mul_contiguous-requires-clause-b : goal.mul_contiguous-requires-clause-b
mul_contiguous-requires-clause-b c = part_within (length c.args.words.now) c.args.b.first c.args.b.step c.args.n c.in-1-eq1-eq1.is-2 (omega arith) c.requires.b

pub mul_scaled-requires-clause-out : goal.mul_scaled-requires-clause-out
mul_scaled-requires-clause-out c = part_within (length c.args.words.now) c.args.out.first c.args.out.step c.args.n c.in-1-eq1-eq0.is-0 (omega arith) c.requires.out

pub mul_scaled-requires-clause-b : goal.mul_scaled-requires-clause-b
mul_scaled-requires-clause-b c = part_within (length c.args.words.now) c.args.a.first c.args.a.step c.args.n c.in-1-eq1-eq0.is-1 (omega arith) c.requires.a

pub mul_scaled-requires-in-1-eq0-eq1-clause-out : goal.mul_scaled-requires-in-1-eq0-eq1-clause-out
mul_scaled-requires-in-1-eq0-eq1-clause-out c = part_within (length c.args.words.now) c.args.out.first c.args.out.step c.args.n c.in-1-eq0-eq1.is-0 (omega arith) c.requires.out

pub mul_scaled-requires-in-1-eq0-eq1-clause-b : goal.mul_scaled-requires-in-1-eq0-eq1-clause-b
mul_scaled-requires-in-1-eq0-eq1-clause-b c = part_within (length c.args.words.now) c.args.b.first c.args.b.step c.args.n c.in-1-eq0-eq1.is-2 (omega arith) c.requires.b
