use Rattle.std.proofs.Common.{sym, ap, ◌∙◌, length, arith}
use Rattle.std.specs.List.{range_with_len}
use Rattle.std.proofs.lemmas.List.{length-map}
use Rattle.tce_tree.specs.WellFormed.{among}
use Rattle.tce_einsum.specs.Numbered.{numbers_of}
use Rattle.tce_einsum.specs.Code as code
use Rattle.std.proofs.lemmas.Result.{IfOk-from_err}
use Rattle.tce_einsum.proofs.entries.kept_labels.Goals as goal

pub returns : goal.returns
returns c =
    let same = ap length c.as_slice-sizes.ensures.value in
    record {
      few = omega (arith, c.requires, same);
      labels = record {
        all = ap (range_with_len 0) (length-map c.args.whole.now.sizes.items code.size ∙ sym same);
        output = λ i.
            c.of_list.ensures i
            ∙ ap (λ labels. among labels i)
            (c.as_slice.ensures.value ∙ c.in_ok-numbers.ensures.numbers ∙ (λ j. numbers_of (code.sizes (c.as_slice-sizes.ensures.value j)) c.args.whole.now.output.now));
      };
    }

pub returns-in_err-numbers-clause-few : goal.returns-in_err-numbers-clause-few
returns-in_err-numbers-clause-few c = IfOk-from_err c.from_residual.result _ c.from_residual.ensures.0

pub returns-in_err-numbers-clause-labels : goal.returns-in_err-numbers-clause-labels
returns-in_err-numbers-clause-labels c = IfOk-from_err c.from_residual.result _ c.from_residual.ensures.0
