use Rattle.std.proofs.Common.{get_or, ap, ◌∙◌}
use Rattle.tce_space.specs.Space.{range_at}
use Rattle.tce_grammar.specs.Tokens.{word}
use Rattle.tce_grammar.specs.Printed.{with_token}
use Rattle.tce_tree.proofs.Lists.{below_tail}
use Rattle.tce_spec.proofs.Lists.{list_more}
use Rattle.tce_spec.proofs.words.push_range_list.Goals as goal

pub range_name-requires-in-loop-range : goal.range_name-requires-in-loop-range
range_name-requires-in-loop-range c =
    below_tail _ c.args.ranges.now c.in-Some.first.now c.in-Some.rest.now c.in-Some.ensures.cases.0 c.requires _ _ c.loop-range-test.true

pub loop-range-preserved : goal.loop-range-preserved
loop-range-preserved c =
    list_more (λ n. (range_at c.args.space.now n).name) (get_or c.args.ranges.now 0 0) c.in-Some.rest.now c.loop-range.range-index 0 c.args.printer.now _ _ _ c.loop-range-test.true c.loop-range.invariant
    c.in_ok-push_symbol.ensures
    (c.in_ok-push_word-2.ensures
    ∙ ap (λ name. with_token c.push_symbol.new.printer (word name)) (c.as_str-in-loop-range.ensures.value ∙ c.range_name-in-loop-range.ensures.name))
