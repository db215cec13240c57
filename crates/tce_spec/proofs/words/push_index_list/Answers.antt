use Rattle.std.proofs.Common.{get_or, ap, ◌∙◌}
use Rattle.tce_space.specs.Space.{index_at}
use Rattle.tce_grammar.specs.Tokens.{word}
use Rattle.tce_grammar.specs.Printed.{with_token}
use Rattle.tce_tree.proofs.Lists.{below_tail}
use Rattle.tce_spec.proofs.Lists.{list_more}
use Rattle.tce_spec.proofs.words.push_index_list.Goals as goal

pub index_name-requires-in-loop-index : goal.index_name-requires-in-loop-index
index_name-requires-in-loop-index c =
    below_tail _ c.args.indexes.now c.in-Some.first.now c.in-Some.rest.now c.in-Some.ensures.cases.0 c.requires _ _ c.loop-index-test.true

pub loop-index-preserved : goal.loop-index-preserved
loop-index-preserved c =
    list_more (λ n. (index_at c.args.space.now n).name) (get_or c.args.indexes.now 0 0) c.in-Some.rest.now c.loop-index.index-index 0 c.args.printer.now _ _ _ c.loop-index-test.true c.loop-index.invariant
    c.in_ok-push_symbol.ensures
    (c.in_ok-push_word-2.ensures
    ∙ ap (λ name. with_token c.push_symbol.new.printer (word name)) (c.as_str-in-loop-index.ensures.value ∙ c.index_name-in-loop-index.ensures.name))
