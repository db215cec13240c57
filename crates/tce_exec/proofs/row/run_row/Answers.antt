use Rattle.std.proofs.Common.{◌≡◌, ◌<◌, ◌∙◌, ℕ, List, [], ◌∷◌, get_or, length, refl, sym, ap, arith}
use Rattle.tce_exec.specs.ChainRows.{after_row}
use Rattle.tce_exec.specs.declared.links.Link.{Link}
use Rattle.tce_exec.proofs.LinkLaws.{no_link}
use Rattle.tce_exec.proofs.row.run_row.Goals as goal

one_link : (links : List Link) (d : Link) → length links ≡ 1 → get_or links 0 d ∷ [] ≡ links
one_link [] d e = absurd (omega (arith, e))
one_link (l ∷ []) d e = refl
one_link (l ∷ m ∷ links) d e = absurd (omega (arith, e))

pub run_number_first-requires-clause-within : goal.run_number_first-requires-clause-within
run_number_first-requires-clause-within c = λ by turn. c.requires.within by turn 0 no_link (omega (arith, c.if-links-ne1.false))

pub run_number_second-requires-clause-within : goal.run_number_second-requires-clause-within
run_number_second-requires-clause-within c = λ by turn. c.requires.within by turn 0 no_link (omega (arith, c.if-links-ne1.false))
