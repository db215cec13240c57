use Rattle.std.proofs.Common.{length, refl, ap, sym, ◌∙◌, arith}
use Rattle.tce_walk.proofs.TermSums.{no_terms, one_term_more}
use Rattle.tce_walk.proofs.combination.terms_of.Goals as goal

pub loop-at-init : goal.loop-at-init
loop-at-init c = record {
  many = ap length c.new-terms.ensures;
  adds_up = no_terms c.args.tree.now c.args.summands.now c.new-terms.result.items 0 c.new-terms.ensures;
}

pub loop-at-preserved : goal.loop-at-preserved
loop-at-preserved c = record {
  many = omega (arith, c.push.ensures.len, c.loop-at.invariant.many);
  adds_up = one_term_more c.args.tree.now c.args.summands.now c.loop-at.terms.items c.push.new.self.items c.loop-at.scale c.loop-at.at
      (record { scale = c.in_ok-ratio.field-0; loops = c.in_ok-copied.field-0; operand = c.index-summands-at.result.operand }) c.index-summands-at.result c.index-summands-at.result
      c.loop-at-test.true (sym c.index-summands-at.is) c.push.ensures.items c.in_ok-ratio.ensures (c.in_ok-copied.ensures ∙ c.as_slice.ensures.value) refl c.loop-at.invariant.adds_up;
}
