use Rattle.std.proofs.Common.{arith, length, length-append, ap, ◌∙◌, codes, ◌++◌}
use Rattle.std.specs.Fmt.{decimal}
use Rattle.tce_report.specs.Names.{index_list}
use Rattle.tce_report.specs.NodeLine.{loops_text, loops_written, kind_word}
use Rattle.tce_report.proofs.Joined.{six_pushed}
use Rattle.tce_report.proofs.Numbers.{length_node}
use Rattle.tce_report.proofs.node_lines.loops_text.Goals as goal

pub push_decimal-requires : goal.push_decimal-requires
push_decimal-requires c = omega (arith, c.push_str.ensures.len, ap length c.new-line.ensures, length_node c.args.v c.requires.inside)

pub push_str-requires-2 : goal.push_str-requires-2
push_str-requires-2 c = (
  omega arith,
  omega (
    arith,
    c.push_str.ensures.len,
    ap length c.new-line.ensures,
    length_node c.args.v c.requires.inside,
    ap length c.push_decimal.ensures,
    length-append c.push_str.new.self.bytes (decimal c.args.v),
  ),
)

pub push_str-requires-3 : goal.push_str-requires-3
push_str-requires-3 c = (
  omega arith,
  omega (
    arith,
    c.push_str.ensures.len,
    ap length c.new-line.ensures,
    length_node c.args.v c.requires.inside,
    ap length c.push_decimal.ensures,
    length-append c.push_str.new.self.bytes (decimal c.args.v),
    c.push_str-2.ensures.len,
    c.kind_word.ensures.short,
  ),
)

pub push_str-requires-4 : goal.push_str-requires-4
push_str-requires-4 c = (
  omega arith,
  omega (
    arith,
    c.push_str.ensures.len,
    ap length c.new-line.ensures,
    length_node c.args.v c.requires.inside,
    ap length c.push_decimal.ensures,
    length-append c.push_str.new.self.bytes (decimal c.args.v),
    c.push_str-2.ensures.len,
    c.kind_word.ensures.short,
    c.push_str-3.ensures.len,
  ),
)

pub push_names-requires-clause-room : goal.push_names-requires-clause-room
push_names-requires-clause-room c =
    omega (
      arith,
      c.push_str.ensures.len,
      ap length c.new-line.ensures,
      length_node c.args.v c.requires.inside,
      ap length c.push_decimal.ensures,
      length-append c.push_str.new.self.bytes (decimal c.args.v),
      c.push_str-2.ensures.len,
      c.kind_word.ensures.short,
      c.push_str-3.ensures.len,
      c.push_str-4.ensures.len,
      c.requires.few,
    )

pub returns-clause-text : goal.returns-clause-text
unfolding loops_text loops_written
returns-clause-text c =
    six_pushed _ _ _ _ _ _ _ (codes "node ") (decimal c.args.v) (codes " ") (kind_word c.args.kind) (codes " loops ") (index_list c.args.space.now c.args.order.now)
    c.new-line.ensures c.push_str.ensures.bytes c.push_decimal.ensures c.push_str-2.ensures.bytes
    (c.push_str-3.ensures.bytes ∙ ap (λ w. c.push_str-2.new.self.bytes ++ w) c.kind_word.ensures.word) c.push_str-4.ensures.bytes c.push_names.ensures.names

pub returns-clause-length : goal.returns-clause-length
returns-clause-length c =
    omega (
      arith,
      c.push_str.ensures.len,
      ap length c.new-line.ensures,
      length_node c.args.v c.requires.inside,
      ap length c.push_decimal.ensures,
      length-append c.push_str.new.self.bytes (decimal c.args.v),
      c.push_str-2.ensures.len,
      c.kind_word.ensures.short,
      c.push_str-3.ensures.len,
      c.push_str-4.ensures.len,
      c.requires.few,
      c.push_names.ensures.length,
    )
