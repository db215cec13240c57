use Rattle.std.proofs.Common.{◌≡◌, ◌∙◌, ℕ, ◌+◌, ◌-◌, ◌*◌, ◌<◌, length, slice_index, ap, arith}
use Rattle.tce_sym.specs.Lines.{walk_place}
use Rattle.tce_sym.proofs.StoredReads.{place_small}
use Rattle.tce_sym.proofs.Walked.{more, step_place, number_left}
use Rattle.tce_sym.proofs.whole.gather.Goals as goal

pub copy_words-requires : goal.copy_words-requires
copy_words-requires c =
    let some : 0 < length c.args.words.now = number_left (length c.args.words.now) _ c.is_empty.ensures c.if-not-is_empty.true in
    let last : ℕ = length c.args.words.now - 1 in
    let place : walk_place c.args.walk.now last ≡ c.args.walk.now.place + 1 * last = step_place c.args.walk.now last c.if-not-walk.true ∙ ap (λ n. c.args.walk.now.place + n * last) c.if-walk-eq1.true in
    omega (arith, some, place, c.requires.places last (omega (arith, some)), c.requires.room)

pub returns-then-not-is_empty : goal.returns-then-not-is_empty
returns-then-not-is_empty c = λ k l.
    let place : walk_place c.args.walk.now k ≡ c.args.walk.now.place + 1 * k = step_place c.args.walk.now k c.if-not-walk.true ∙ ap (λ n. c.args.walk.now.place + n * k) c.if-walk-eq1.true in
    let at : c.args.walk.now.place + k ≡ walk_place c.args.walk.now k = omega (arith, place) in
    c.copy_words.ensures k l ∙ ap (slice_index c.args.lines.now) at

pub loop-k-init : goal.loop-k-init
loop-k-init c = record { done = λ j l. absurd (omega (arith, l)) }

pub place_at-requires-clause-small : goal.place_at-requires-clause-small
place_at-requires-clause-small c = place_small _ c.args.grid.now.count (c.requires.places c.loop-k.k (omega (arith, c.loop-k-test.true, c.loop-k.auto.k-end, c.loop-k.auto.words))) c.requires.count

pub place_at-requires-clause-few : goal.place_at-requires-clause-few
place_at-requires-clause-few c = omega (arith, c.loop-k-test.true, c.loop-k.auto.k-end, c.loop-k.auto.words, c.requires.few)

pub bounds-words-k : goal.bounds-words-k
bounds-words-k c = omega (arith, c.loop-k-test.true, c.loop-k.auto.k-end, c.loop-k.auto.words)

pub returns : goal.returns
returns c = λ j l. c.loop-k.invariant.done j (omega (arith, l, c.loop-k-test.false, c.loop-k.auto.k-end, c.loop-k.auto.words))

pub bounds-lines-place_at : goal.bounds-lines-place_at
bounds-lines-place_at c = omega (arith, c.place_at.ensures, c.requires.places c.loop-k.k (omega (arith, c.loop-k-test.true, c.loop-k.auto.k-end, c.loop-k.auto.words)), c.requires.room)

pub loop-k-preserved : goal.loop-k-preserved
loop-k-preserved c = record {
  done = more (λ j. slice_index c.args.lines.now (walk_place c.args.walk.now j)) c.loop-k.words c.loop-k.k _ (omega (arith, c.loop-k-test.true, c.loop-k.auto.k-end, c.loop-k.auto.words)) (ap (slice_index c.args.lines.now) c.place_at.ensures) c.loop-k.invariant.done;
}
