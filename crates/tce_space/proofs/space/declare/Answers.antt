use Rattle.std.proofs.Common.{◌≡◌, None, is_some, ap, sym, ◌∙◌, arith}
use Rattle.tce_space.specs.SpaceEntries.{entry_number}
use Rattle.tce_space.proofs.Declarations.{entered, distinct_names, none_of}
use Rattle.tce_space.proofs.space.declare.Goals as goal

pub returns-in-Ok-clause-added : goal.returns-in-Ok-clause-added
returns-in-Ok-clause-added g c =
    let unnamed : entry_number c.args.entries.now.entries c.args.name.now.bytes ≡ None =
    none_of _ (ap is_some (sym c.number_of.ensures.number) ∙ sym c.is_some.ensures ∙ c.if-is_some.false) in
    record {
      unnamed = unnamed;
      room = omega arith;
      number_is = c.len-number.ensures.len;
      entries = c.in-Ok.ensures.entries ∙ entered c.args.entries.now.entries c.args.name.now c.args.value unnamed;
    }

pub returns-in-Ok-clause-apart : goal.returns-in-Ok-clause-apart
returns-in-Ok-clause-apart g c = distinct_names c.insert.new.self.entries c.insert.ensures.unique
