use Rattle.std.proofs.Common.{◌<◌, ◌++◌, length, All, ◌∙◌, sym, ap, subst}
use Rattle.tce_report.specs.Names.{index_list}
use Rattle.tce_report.specs.NodeLine.{set_text}
use Rattle.tce_cert.proofs.Sets.{members_declared}
use Rattle.tce_command.proofs.trouble_line.push_set.Goals as goal

pub push_names-requires-clause-declared : goal.push_names-requires-clause-declared
push_names-requires-clause-declared c =
    subst (All (λ i. i < length c.args.space.now.indexes)) (sym (c.as_slice.ensures.value ∙ c.members_of.ensures)) (members_declared c.args.space.now c.args.set c.requires.declared)

pub returns-clause-text : goal.returns-clause-text
unfolding set_text
returns-clause-text c =
    c.push_str.ensures.bytes
    ∙ ap (λ t. c.args.line.now.bytes ++ t)
    (c.as_str.ensures.value ∙ c.push_names.ensures.names ∙ ap (λ t. t ++ index_list c.args.space.now c.as_slice.result.now) c.new-names.ensures
    ∙ ap (index_list c.args.space.now) (c.as_slice.ensures.value ∙ c.members_of.ensures))
