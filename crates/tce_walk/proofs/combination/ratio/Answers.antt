use Rattle.std.proofs.Common.{sym, ◌∙◌}
use Rattle.tce_base.proofs.Words.{times_comm}
use Rattle.tce_walk.proofs.TermSums.{times_is, times_zero}
use Rattle.tce_walk.proofs.combination.ratio.Goals as goal

pub returns-then-factor-eq0 : goal.returns-then-factor-eq0
returns-then-factor-eq0 c = times_comm 0 c.args.next ∙ times_zero c.args.next ∙ sym c.if-factor-eq0.true

pub returns-then-ratio-next : goal.returns-then-ratio-next
returns-then-ratio-next c = sym (times_is _ c.args.next) ∙ c.if-ratio-next.true
