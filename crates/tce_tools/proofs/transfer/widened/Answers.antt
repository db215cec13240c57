use Rattle.std.proofs.Common.{◌≡◌, ◌∙◌, ◌+◌, ◌-◌, ◌^◌, true, false, nat_lt, if◌then◌else◌, sym, ap, arith}
use Rattle.tce_base.specs.Word.{widened}
use Rattle.tce_tools.proofs.transfer.widened.Goals as goal

pub returns-then-number-lt2147483648 : goal.returns-then-number-lt2147483648
unfolding widened
returns-then-number-lt2147483648 c =
    let n = c.args.number in
    let test : nat_lt n (2 ^ 31) ≡ true = grind (arith, c.if-number-lt2147483648.true) in
    c.from.ensures ∙ ap (λ b. if b then n else n + (2 ^ 64 - 2 ^ 32)) (sym test)

pub returns-else-number-lt2147483648 : goal.returns-else-number-lt2147483648
unfolding widened
returns-else-number-lt2147483648 c =
    let n = c.args.number in
    let test : nat_lt n (2 ^ 31) ≡ false = grind (arith, c.if-number-lt2147483648.false) in
    ap (λ m. m + 18446744069414584320) c.from-else-number-lt2147483648.ensures ∙ ap (λ b. if b then n else n + (2 ^ 64 - 2 ^ 32)) (sym test)
