use Rattle.std.proofs.Common.{ap, ◌∙◌, arith}
use Rattle.tce_space.specs.Space.{index_at, range_at}
use Rattle.tce_grammar.specs.Tokens.{word}
use Rattle.tce_grammar.specs.Printed.{with_token}
use Rattle.tce_spec.proofs.Groups.{group_more}
use Rattle.tce_spec.proofs.index_lines.print_group.Goals as goal

pub loop-index-preserved : goal.loop-index-preserved
loop-index-preserved c =
    group_more c.args.printer.now c.loop-index.printer c.push_word-in-loop-index.new.printer (range_at c.args.space.now (index_at c.args.space.now c.args.first).of_range).name
    c.args.space.now.indexes c.args.first c.loop-index.index (omega arith) (omega arith) c.loop-index.invariant
    (c.in_ok-push_word-3.ensures ∙ ap (λ name. with_token c.loop-index.printer (word name)) (c.as_str-in-loop-index.ensures.value ∙ c.index_name.ensures.name))
