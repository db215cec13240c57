use Rattle.std.proofs.Common.{◌∙◌, ap, arith}
use Rattle.std.proofs.lemmas.List.{length-set}
use Rattle.tce_sym.specs.Storage.{stored_word}
use Rattle.tce_sym.specs.Lines.{walk_place}
use Rattle.tce_sym.proofs.Walked.{more}
use Rattle.tce_sym.proofs.walks.held.Goals as goal

pub loop-done-preserved : goal.loop-done-preserved
loop-done-preserved c = record {
  from = omega (arith, c.loop-done.invariant.from);
  within = omega (arith, c.loop-done-test.true, length-set c.loop-done.words c.loop-done.done c.in-Some.word);
  held = λ bytes lines before. more (λ j. stored_word bytes (walk_place c.args.walk.now j)) c.loop-done.words c.loop-done.done _ c.loop-done-test.true
      (c.held_word.ensures bytes lines c.in-Some.word c.in-Some.is ∙ ap (stored_word bytes) c.place_at-place.ensures) (c.loop-done.invariant.held bytes lines before);
}
