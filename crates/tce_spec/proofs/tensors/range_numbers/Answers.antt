use Rattle.std.proofs.Common.{◌++◌, ◌∷◌, ℕ, List, [], length, take, sym, ap, ◌∙◌, arith, length-append}
use Rattle.std.specs.Prelude.{unwrap_or}
use Rattle.tce_grammar.specs.Code.{names}
use Rattle.tce_spec.specs.DeclarationLines.{numbers_of_ranges}
use Rattle.tce_spec.proofs.DeclaredNames.{named_at, numbers_to, all_before}
use Rattle.tce_spec.proofs.tensors.range_numbers.Goals as goal

pub range_named-requires : goal.range_named-requires
range_named-requires c = named_at c.args.names.now c.loop-name.name-index _ c.requires.names c.loop-name-test.true

pub loop-name-preserved : goal.loop-name-preserved
loop-name-preserved c = record {
  len = omega (arith, ap length c.push.ensures.items, length-append c.loop-name.numbers.items (c.unwrap_or.result ∷ []), c.loop-name.invariant.len);
  taken = c.push.ensures.items
      ∙ ap (λ (ns : List ℕ). ns ++ c.unwrap_or.result ∷ []) c.loop-name.invariant.taken
      ∙ ap (λ (n : ℕ). numbers_of_ranges c.args.space.now (names (take c.loop-name.name-index c.args.names.now)) ++ n ∷ []) (c.unwrap_or.ensures ∙ ap (λ o. unwrap_or o 16) c.range_named.ensures)
      ∙ sym (numbers_to c.args.space.now c.args.names.now c.loop-name.name-index (record { ref_ptr = (0, 0); now = [] }) c.loop-name-test.true);
}

pub returns : goal.returns
returns c = c.loop-name.invariant.taken ∙ ap (numbers_of_ranges c.args.space.now) (all_before c.args.names.now c.loop-name.name-index c.loop-name-test.false)
