use Rattle.std.proofs.Common.{◌∙◌, ap, arith}
use Rattle.tce_tools.specs.Demo.{drawn}
use Rattle.tce_tools.proofs.Draws.{drawn_none, drawn_more, digits_more}
use Rattle.tce_tools.proofs.demo.draw.Goals as goal

pub loop-k-init : goal.loop-k-init
loop-k-init c = record { number = drawn_none c.args.x c.requires; small = c.requires; digits = λ k lt. absurd (omega arith) }

pub loop-k-preserved : goal.loop-k-preserved
loop-k-preserved c =
    let next = c.next_number-number.ensures.drawn ∙ ap (λ n. drawn n 1) c.loop-k.invariant.number ∙ drawn_more c.args.x c.loop-k.k 1 in
    record {
      number = next;
      small = c.next_number-number.ensures.small;
      digits = digits_more c.args.x c.next_number-number.result c.loop-k.k c.loop-k.digits (omega arith) next c.loop-k.invariant.digits;
    }
