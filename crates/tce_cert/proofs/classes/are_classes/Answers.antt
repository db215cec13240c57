use Rattle.std.proofs.Common.{◌≡◌, false, true, sym, ◌∙◌}
use Rattle.tce_cert.proofs.Stated.{classes_told}
use Rattle.tce_cert.proofs.classes.are_classes.Goals as goal

pub returns-in-Some : goal.returns-in-Some
returns-in-Some c =
    classes_told c.args.text.now c.in-Some.parts.items c.as_slice.result.now c.all_classes.result
    (λ none. let e : false ≡ true = sym c.if-is_none.false ∙ c.is_none.ensures.1 none in cc) c.in-Some.ensures c.as_slice.ensures.value c.all_classes.ensures
