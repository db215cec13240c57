use Rattle.std.proofs.Common.{◌≡◌, ◌≤◌, arith, length, take}
use Rattle.std.proofs.lemmas.List.{get_or-take, length-take-le}
use Rattle.tce_search.proofs.Stretching.{stretch_of_all}
use Rattle.tce_search.proofs.table.first_stretches.Goals as goal

pub returns : goal.returns
returns c k s low inside =
    let choices = c.args.choices.now in
    let n = c.min.result in
    let most : n ≤ length choices = omega (arith, c.min.ensures) in
    let count : length (take n choices) ≡ n = length-take-le n choices most in
    stretch_of_all (take n choices) choices k _ (omega (arith, count, most)) (λ j x below. get_or-take n choices j x (omega (arith, below, count)))
    (c.stretches_of.ensures.each k s (omega (arith, low, inside, count, c.min.ensures)))
