use Rattle.std.proofs.Common.{◌≡◌, sym, IfOk}
use Rattle.tce_spec.specs.Contraction.{IsContraction}
use Rattle.tce_spec.specs.Statements.{canonical}
use Rattle.tce_spec.proofs.Printed.{of_parts}
use Rattle.tce_spec.proofs.canonical_texts.print_spec.Goals as goal

pub print_lines-requires : goal.print_lines-requires
print_lines-requires c =
    of_parts IsContraction (sym c.declarations.ensures.declarations) (sym c.result.ensures.tensor) (sym c.result.ensures.indexes) (sym c.expr.ensures.expr) c.result.ensures.rules.contraction

pub returns : goal.returns
returns c =
    of_parts (λ d t is tree. IfOk c.print_lines.result (λ text. text.items ≡ canonical d t is tree))
    c.declarations.ensures.declarations c.result.ensures.tensor c.result.ensures.indexes c.expr.ensures.expr c.print_lines.ensures
