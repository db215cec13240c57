use Rattle.std.proofs.Common.{◌≡◌, ◌≤◌, length, arith, ap, true, false}
use Rattle.std.proofs.lemmas.Str.{IsUtf8-from_ascii}
use Rattle.tce_grammar.proofs.Formulas.{IsNameText, name_text}
use Rattle.tce_grammar.proofs.Letters.{word_ascii}
use Rattle.tce_grammar.proofs.name.name_of.Goals as goal

pub returns-in_default : goal.returns-in_default
returns-in_default c =
    absurd (c.in_default.ensures.cases.0 (IsUtf8-from_ascii c.args.letters.now (word_ascii c.args.letters.now (name_text c.args.letters.now c.requires).letters)))

pub returns-in-Err : goal.returns-in-Err
returns-in-Err c =
    let text : IsNameText c.args.letters.now = name_text c.args.letters.now c.requires in
    let short : length c.in-Ok.text.now ≤ 16 = omega (arith, text.short, ap length c.in-Ok.ensures.cases.0) in
    let fits : false ≡ true = c.in-Err.ensures.variant.1 short in
    absurd (let none : ⊥ = cc in none)
