use Rattle.std.proofs.Common.{ℕ, List, sym, ◌∙◌}
use Rattle.std.specs.Borrow.{Bor}
use Rattle.std.specs.Str.{bytes_eq}
use Rattle.tce_spec.proofs.DeclaredNames.{any_map}
use Rattle.tce_spec.proofs.indexes.is_among.Goals as goal

pub returns : goal.returns
returns c = c.any_is.ensures ∙ sym (any_map (bytes_eq c.args.name.now) (λ (b : Bor (List ℕ)). b.now) c.args.names.now)
