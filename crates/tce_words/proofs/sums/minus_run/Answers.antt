use Rattle.std.proofs.Common.{slice_index, arith, length}
use Rattle.tce_base.specs.Word.{wrapping_sub}
use Rattle.tce_words.proofs.RunSteps.{one_before_other, run_joined, run_mapped, steady_left, steady_right, part_within}
use Rattle.tce_words.proofs.sums.minus_run.Goals as goal

pub minus_contiguous-requires-clause-apart_from_a : goal.minus_contiguous-requires-clause-apart_from_a
minus_contiguous-requires-clause-apart_from_a c = one_before_other c.args.out.first c.args.out.step c.args.a.first c.args.a.step c.args.n c.in-1-eq1-eq1.is-0 c.in-1-eq1-eq1.is-1 (omega arith) c.requires.apart_from_a

pub minus_contiguous-requires-clause-apart_from_b : goal.minus_contiguous-requires-clause-apart_from_b
minus_contiguous-requires-clause-apart_from_b c = one_before_other c.args.out.first c.args.out.step c.args.b.first c.args.b.step c.args.n c.in-1-eq1-eq1.is-0 c.in-1-eq1-eq1.is-2 (omega arith) c.requires.apart_from_b

pub minus_one-requires-clause-apart : goal.minus_one-requires-clause-apart
minus_one-requires-clause-apart c = one_before_other c.args.out.first c.args.out.step c.args.a.first c.args.a.step c.args.n c.in-1-eq1-eq0.is-0 c.in-1-eq1-eq0.is-1 (omega arith) c.requires.apart_from_a

pub one_minus-requires-clause-apart : goal.one_minus-requires-clause-apart
one_minus-requires-clause-apart c = one_before_other c.args.out.first c.args.out.step c.args.b.first c.args.b.step c.args.n c.in-1-eq0-eq1.is-0 c.in-1-eq0-eq1.is-2 (omega arith) c.requires.apart_from_b

pub returns-in-1-eq1-eq1 : goal.returns-in-1-eq1-eq1
returns-in-1-eq1-eq1 c =
    run_joined wrapping_sub c.args.out.first c.args.out.step c.args.a.first c.args.a.step c.args.b.first c.args.b.step c.args.n c.args.words.now c.minus_contiguous.new.words c.minus_contiguous.ensures
    c.in-1-eq1-eq1.is-0 c.in-1-eq1-eq1.is-1 c.in-1-eq1-eq1.is-2 (omega arith) c.requires.out c.requires.a c.requires.b

pub returns-in-1-eq1-eq0 : goal.returns-in-1-eq1-eq0
returns-in-1-eq1-eq0 c =
    let old = c.args.words.now in
    run_mapped (λ x. wrapping_sub x (slice_index old c.args.b.first)) _ c.args.out.first c.args.out.step c.args.a.first c.args.a.step c.args.n old c.minus_one.new.words c.minus_one.ensures
    c.in-1-eq1-eq0.is-0 c.in-1-eq1-eq0.is-1 (omega arith) c.requires.out c.requires.a
    (λ t. steady_right wrapping_sub (slice_index old) c.args.b.first t c.args.b.step _ c.in-1-eq1-eq0.is-2)

pub returns-in-1-eq0-eq1 : goal.returns-in-1-eq0-eq1
returns-in-1-eq0-eq1 c =
    let old = c.args.words.now in
    run_mapped (wrapping_sub (slice_index old c.args.a.first)) _ c.args.out.first c.args.out.step c.args.b.first c.args.b.step c.args.n old c.one_minus.new.words c.one_minus.ensures
    c.in-1-eq0-eq1.is-0 c.in-1-eq0-eq1.is-2 (omega arith) c.requires.out c.requires.b
    (λ t. steady_left wrapping_sub (slice_index old) c.args.a.first t c.args.a.step _ c.in-1-eq0-eq1.is-1)

pub minus_contiguous-requires-clause-out : goal.minus_contiguous-requires-clause-out
minus_contiguous-requires-clause-out c = part_within (length c.args.words.now) c.args.out.first c.args.out.step c.args.n c.in-1-eq1-eq1.is-0 (omega arith) c.requires.out

pub minus_contiguous-requires-clause-a : goal.minus_contiguous-requires-clause-a
minus_contiguous-requires-clause-a c = part_within (length c.args.words.now) c.args.a.first c.args.a.step c.args.n c.in-1-eq1-eq1.is-1 (omega arith) c.requires.a

pub minus_contiguous-requires-clause-b : goal.minus_contiguous-requires-clause-b
minus_contiguous-requires-clause-b c = part_within (length c.args.words.now) c.args.b.first c.args.b.step c.args.n c.in-1-eq1-eq1.is-2 (omega arith) c.requires.b

pub one_minus-requires-clause-out : goal.one_minus-requires-clause-out
one_minus-requires-clause-out c = part_within (length c.args.words.now) c.args.out.first c.args.out.step c.args.n c.in-1-eq0-eq1.is-0 (omega arith) c.requires.out

pub one_minus-requires-clause-b : goal.one_minus-requires-clause-b
one_minus-requires-clause-b c = part_within (length c.args.words.now) c.args.b.first c.args.b.step c.args.n c.in-1-eq0-eq1.is-2 (omega arith) c.requires.b

pub minus_one-requires-clause-out : goal.minus_one-requires-clause-out
minus_one-requires-clause-out c = part_within (length c.args.words.now) c.args.out.first c.args.out.step c.args.n c.in-1-eq1-eq0.is-0 (omega arith) c.requires.out

pub minus_one-requires-clause-a : goal.minus_one-requires-clause-a
minus_one-requires-clause-a c = part_within (length c.args.words.now) c.args.a.first c.args.a.step c.args.n c.in-1-eq1-eq0.is-1 (omega arith) c.requires.a
