use Rattle.std.proofs.Common.{ap, ◌∙◌, arith}
use Rattle.std.proofs.lemmas.List.{length-map}
use Rattle.tce_grammar.specs.Tokens.{word}
use Rattle.tce_grammar.specs.Printed.{with_token}
use Rattle.tce_spec.proofs.Groups.{group_more}
use Rattle.tce_einsum.specs.Code as code
use Rattle.tce_einsum.specs.Produced as produced
use Rattle.tce_einsum.proofs.IndexLines.{index_name}
use Rattle.std.proofs.lemmas.Result.{IfOk-from_err}
use Rattle.tce_einsum.proofs.lines.print_group.Goals as goal

pub loop-place-preserved : goal.loop-place-preserved
loop-place-preserved c =
    let sizes = length-map c.args.sizes.now code.size in
    let long = length-map (code.sizes c.args.sizes.now) (produced.index_of (produced.ranges (code.sizes c.args.sizes.now))) in
    group_more c.args.printer.now c.loop-place.printer c.push_letter.new.printer (produced.range_name c.args.range) (produced.indexes (code.sizes c.args.sizes.now))
    c.args.first c.loop-place.place (omega arith) (omega (arith, sizes, long)) c.loop-place.invariant
    (c.in_ok-push_letter.ensures ∙ ap (λ name. with_token c.loop-place.printer (word name)) (index_name c.args.sizes.now c.loop-place.place _ (omega arith)))

pub returns-in_err-push_word : goal.returns-in_err-push_word
returns-in_err-push_word c = IfOk-from_err c.from_residual.result _ c.from_residual.ensures.0

pub returns-in_err-push_range_name : goal.returns-in_err-push_range_name
returns-in_err-push_range_name c = IfOk-from_err c.from_residual-in_err-push_range_name.result _ c.from_residual-in_err-push_range_name.ensures.0

pub returns-in_err-push_letter : goal.returns-in_err-push_letter
returns-in_err-push_letter c = IfOk-from_err c.from_residual-in_err-push_letter.result _ c.from_residual-in_err-push_letter.ensures.0
