use Rattle.std.proofs.Common.{arith, length, ap, ◌∙◌, codes, ◌++◌}
use Rattle.std.specs.Fmt.{decimal}
use Rattle.tce_space.specs.IndexSet.{count}
use Rattle.tce_report.specs.Names.{index_list}
use Rattle.tce_report.specs.NodeLine.{set_text}
use Rattle.tce_report.proofs.Joined.{four_pushed}
use Rattle.tce_report.proofs.Numbers.{length_size}
use Rattle.tce_report.proofs.node_lines.push_array.Goals as goal

pub push_names-requires-clause-room : goal.push_names-requires-clause-room
unfolding count
push_names-requires-clause-room c =
    omega (arith, c.push_str.ensures.len, c.requires.room, c.requires.few, ap length (c.as_slice.ensures.value ∙ c.members_of.ensures))

pub push_str-requires-2 : goal.push_str-requires-2
unfolding count
push_str-requires-2 c = (
  omega arith,
  omega (
    arith,
    c.push_str.ensures.len,
    c.requires.room,
    c.requires.few,
    ap length (c.as_slice.ensures.value ∙ c.members_of.ensures),
    c.push_names.ensures.length,
  ),
)

pub push_decimal-requires : goal.push_decimal-requires
unfolding count
push_decimal-requires c =
    omega (
      arith,
      c.push_str.ensures.len,
      c.requires.room,
      c.requires.few,
      ap length (c.as_slice.ensures.value ∙ c.members_of.ensures),
      c.push_names.ensures.length,
      c.push_str-2.ensures.len,
      length_size c.args.size c.requires.small,
    )

pub returns : goal.returns
unfolding set_text
returns c =
    four_pushed c.args.line.now.bytes _ _ _ _ (codes " fused ") (set_text c.args.space.now c.args.fused) (codes " size ") (decimal c.args.size)
    c.push_str.ensures.bytes
    (c.push_names.ensures.names ∙ ap (λ is. c.push_str.new.self.bytes ++ index_list c.args.space.now is) (c.as_slice.ensures.value ∙ c.members_of.ensures))
    c.push_str-2.ensures.bytes c.push_decimal.ensures
