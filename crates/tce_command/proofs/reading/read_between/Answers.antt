use Rattle.std.proofs.Common.{◌≡◌, ◌∙◌, sym, arith, ◌<◌, ◌^◌}
use Rattle.std.proofs.lemmas.Fmt.{decimal_injective}
use Rattle.tce_command.proofs.reading.read_between.Goals as goal
use Rattle.tce_command.proofs.reading.read_between.Goals.{then-number-least-via-then-number-least, then-number-least-via-else-number-least+then-number-most}

pub returns-then-number-least : goal.returns-then-number-least
returns-then-number-least c = λ n between e.
    let small : n < 2 ^ 64 = omega (arith, between.1) in
    let same : n ≡ c.in_ok-number.number = decimal_injective n c.in_ok-number.number small (omega arith) (sym e ∙ sym c.as_bytes.ensures.value ∙ c.in_ok-number.ensures) in
    elim c.then-number-least.branch [
      | then-number-least-via-then-number-least w ↦ omega (arith, same, between.0)
      | then-number-least-via-else-number-least+then-number-most w ↦ omega (arith, same, between.1)
    ]
