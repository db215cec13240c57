use Rattle.std.proofs.Common.{sym, ◌∙◌, arith}
use Rattle.std.proofs.lemmas.List.{length-map}
use Rattle.tce_spec.specs.DeclarationsCode.{tensor_of}
use Rattle.tce_spec.proofs.KeptDeclarations.{tensor_number_is, names_short}
use Rattle.tce_spec.proofs.declarations.Declarations.tensor_named.Goals as goal

pub named-requires-clause-small : goal.named-requires-clause-small
named-requires-clause-small c = omega (arith, length-map c.self.inside.tensors.entries tensor_of, c.self.invariant.rules.tensor_limit)

pub named-requires-clause-short : goal.named-requires-clause-short
named-requires-clause-short c = names_short c.self.inside.space c.self.inside.tensors.entries c.self.invariant

pub returns-clause-number : goal.returns-clause-number
returns-clause-number c = rw (← c.self.view_is) (c.named.ensures ∙ sym (tensor_number_is c.self.inside.tensors.entries c.args.name.now))
