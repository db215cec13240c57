use Rattle.std.proofs.Common.{◌≡◌, ◌∙◌, ℕ, ◌+◌, ◌-◌, ◌*◌, ◌<◌, length, slice_index, sym, ap, arith}
use Rattle.std.proofs.Math.Nat.{div-le_self}
use Rattle.tce_sym.specs.Lines.{walk_place}
use Rattle.tce_sym.proofs.Walked.{more, step_place, number_left}
use Rattle.tce_sym.proofs.Across.{across, across_within, across_step}
use Rattle.tce_sym.proofs.StoredReads.{place_small}
use Rattle.tce_sym.proofs.whole.gather_across.Goals as goal

some : (c : goal.Then-not-is_empty) → 0 < length c.args.words.now
some c = number_left (length c.args.words.now) _ c.is_empty.ensures c.if-not-is_empty.true

first : (c : goal.Then-not-is_empty) → c.args.walk.now.place < c.args.grid.now.count
first c = omega (arith, step_place c.args.walk.now 0 c.if-not-walk.true, c.requires.places 0 (some c))

pub across_at-requires-clause-place : goal.across_at-requires-clause-place
across_at-requires-clause-place c = omega (arith, first c, c.requires.count)

pub across_at-requires-clause-outer : goal.across_at-requires-clause-outer
across_at-requires-clause-outer c = omega (arith, div-le_self c.args.walk.now.place c.args.grid.now.pairs, first c, c.requires.count)

pub copy_words-requires : goal.copy_words-requires
copy_words-requires c =
    let some : 0 < length c.args.words.now = number_left (length c.args.words.now) _ c.is_empty.ensures c.if-not-is_empty.true in
    let last : ℕ = length c.args.words.now - 1 in
    let place : walk_place c.args.walk.now last ≡ c.args.walk.now.place + c.args.grid.now.pairs * last = step_place c.args.walk.now last c.if-not-walk.true ∙ ap (λ n. c.args.walk.now.place + n * last) c.if-walk-grid.true in
    let within = across_within c.args.grid.now (length c.args.lines.now) (walk_place c.args.walk.now last) c.requires.room (c.requires.places last (omega (arith, some))) in
    omega (arith, some, within, ap (across c.args.grid.now) place, across_step c.args.grid.now (length c.args.lines.now) c.args.walk.now.place last c.requires.room, c.across_at.ensures)

pub returns-then-not-is_empty : goal.returns-then-not-is_empty
returns-then-not-is_empty c = λ k l.
    let place : walk_place c.args.walk.now k ≡ c.args.walk.now.place + c.args.grid.now.pairs * k = step_place c.args.walk.now k c.if-not-walk.true ∙ ap (λ n. c.args.walk.now.place + n * k) c.if-walk-grid.true in
    c.copy_words.ensures k l
    ∙ ap (slice_index c.args.lines.now) (ap (λ n. n + k) c.across_at.ensures ∙ sym (across_step c.args.grid.now (length c.args.lines.now) c.args.walk.now.place k c.requires.room) ∙ ap (across c.args.grid.now) (sym place))

pub bounds-lines-across_at : goal.bounds-lines-across_at
bounds-lines-across_at c = omega (
  arith,
  c.across_at-in-loop-k.ensures,
  ap (across c.args.grid.now) c.place_at.ensures,
  across_within c.args.grid.now (length c.args.lines.now) (walk_place c.args.walk.now c.loop-k.k) c.requires.room (c.requires.places c.loop-k.k (omega (arith, c.loop-k-test.true, c.loop-k.auto.k-end, c.loop-k.auto.words))),
)

pub loop-k-preserved : goal.loop-k-preserved
loop-k-preserved c = record {
  done = more (λ j. slice_index c.args.lines.now (across c.args.grid.now (walk_place c.args.walk.now j))) c.loop-k.words c.loop-k.k _ (omega (arith, c.loop-k-test.true, c.loop-k.auto.k-end, c.loop-k.auto.words))
      (ap (slice_index c.args.lines.now) (c.across_at-in-loop-k.ensures ∙ ap (across c.args.grid.now) c.place_at.ensures)) c.loop-k.invariant.done;
}

pub across_at-requires-clause-some : goal.across_at-requires-clause-some
across_at-requires-clause-some c = c.requires.room.some

pub loop-k-init : goal.loop-k-init
loop-k-init c = record { done = λ j l. absurd (omega (arith, l)) }

pub place_at-requires-clause-small : goal.place_at-requires-clause-small
place_at-requires-clause-small c = place_small _ c.args.grid.now.count (c.requires.places c.loop-k.k (omega (arith, c.loop-k-test.true, c.loop-k.auto.k-end, c.loop-k.auto.words))) c.requires.count

pub place_at-requires-clause-few : goal.place_at-requires-clause-few
place_at-requires-clause-few c = omega (arith, c.loop-k-test.true, c.loop-k.auto.k-end, c.loop-k.auto.words, c.requires.few)

pub bounds-words-k : goal.bounds-words-k
bounds-words-k c = omega (arith, c.loop-k-test.true, c.loop-k.auto.k-end, c.loop-k.auto.words)

pub returns : goal.returns
returns c = λ j l. c.loop-k.invariant.done j (omega (arith, l, c.loop-k-test.false, c.loop-k.auto.k-end, c.loop-k.auto.words))

pub across_at-requires-in-loop-k-clause-some : goal.across_at-requires-in-loop-k-clause-some
across_at-requires-in-loop-k-clause-some c = c.requires.room.some

pub across_at-requires-in-loop-k-clause-place : goal.across_at-requires-in-loop-k-clause-place
across_at-requires-in-loop-k-clause-place c = omega (arith, c.place_at.ensures, c.requires.places c.loop-k.k (omega (arith, c.loop-k-test.true, c.loop-k.auto.k-end, c.loop-k.auto.words)), c.requires.count)

pub across_at-requires-in-loop-k-clause-outer : goal.across_at-requires-in-loop-k-clause-outer
across_at-requires-in-loop-k-clause-outer c = omega (arith, div-le_self c.place_at.result c.args.grid.now.pairs, c.place_at.ensures, c.requires.places c.loop-k.k (omega (arith, c.loop-k-test.true, c.loop-k.auto.k-end, c.loop-k.auto.words)), c.requires.count)
