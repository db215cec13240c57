use Rattle.std.proofs.Common.{◌≡◌, ◌<◌, ◌++◌, length, All, ◌∙◌, sym, subst}
use Rattle.std.specs.Result.{OnOk}
use Rattle.tce_report.specs.Names.{index_list}
use Rattle.tce_report.specs.NodeLine.{set_text}
use Rattle.tce_cert.proofs.Sets.{members_declared}
use Rattle.tce_cert.proofs.names.push_set.Goals as goal

pub push_names-requires : goal.push_names-requires
push_names-requires c =
    subst (All (λ i. i < length c.args.space.now.indexes)) (sym (c.as_slice.ensures.value ∙ c.members_of.ensures)) (members_declared c.args.space.now c.args.set c.requires)

pub returns : goal.returns
unfolding set_text
returns c =
    subst (λ is. OnOk c.push_names.result (c.push_names.new.text.items ≡ c.args.text.now.items ++ index_list c.args.space.now is))
    (c.as_slice.ensures.value ∙ c.members_of.ensures) c.push_names.ensures
