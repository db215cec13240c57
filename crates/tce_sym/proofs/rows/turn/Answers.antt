use Rattle.std.proofs.Common.{◌∙◌, slice_index, ap, arith}
use Rattle.std.proofs.lemmas.List.{get_or-set_other}
use Rattle.tce_sym.specs.Storage.{turned}
use Rattle.tce_sym.proofs.Walked.{more}
use Rattle.tce_sym.proofs.rows.turn.Goals as goal

pub loop-k-preserved : goal.loop-k-preserved
loop-k-preserved c = record {
  done = more (λ j. turned c.args.negated (slice_index c.args.words.now j)) c.loop-k.words c.loop-k.k _ (omega (arith, c.loop-k-test.true, c.loop-k.auto.words))
      (c.signed.ensures ∙ ap (turned c.args.negated) (c.loop-k.invariant.left c.loop-k.k (omega arith))) c.loop-k.invariant.done;
  left = λ j l. get_or-set_other c.loop-k.words c.loop-k.k j _ 0 (λ e. omega arith) ∙ c.loop-k.invariant.left j (omega arith);
}

pub returns : goal.returns
returns c = λ j l. c.loop-k.invariant.done j (omega (arith, l, c.loop-k.auto.words, c.loop-k-test.false))
