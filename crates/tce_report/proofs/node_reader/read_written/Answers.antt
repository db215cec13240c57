use Rattle.std.proofs.Common.{Some, None, sym, ◌∙◌, ap, rules, subst}
use Rattle.tce_report.specs.NodeForm.{IsArrayForm}
use Rattle.tce_fields.specs.Reading.{texts}
use Rattle.tce_tree.specs.contracts.node.Kind.{the_type}
use denote.Enum.Bare.{differs_false}
use Rattle.tce_report.specs.FormCode.{form, array_form}
use Rattle.tce_report.proofs.Reading.{order_refused, root_found, inner_found, fused_refused, order_exact, fused_exact}
use Rattle.tce_report.proofs.node_reader.read_written.Goals as goal

pub returns-in_default : goal.returns-in_default
returns-in_default c =
    order_refused c.args.space.now c.args.tree.now c.args.v (form c.args.line.now) (texts c.args.line.now.order.items)
    (record { few = c.index_count-declared.ensures.limits.index_limit; declared = c.requires.declared; inside = c.requires.inside }) (λ i. texts c.args.line.now.order.items)
    (order_exact c.args.space.now None _ _ _ _ c.loops.ensures.value c.as_slice.ensures.value c.in_default.ensures)

pub returns-in_default-read_fused : goal.returns-in_default-read_fused
returns-in_default-read_fused c =
    fused_refused c.args.space.now c.args.tree.now c.args.v (form c.args.line.now) (texts c.in-Some-array.array.fused.items) c.in-Some-array.array.size
    (record { few = c.index_count-declared.ensures.limits.index_limit; declared = c.requires.declared; inside = c.requires.inside })
    (λ root. c.if-not-is_root.true (c.count.ensures.value ∙ sym root)) (ap array_form c.in-Some-array.is)
    (fused_exact c.args.space.now None _ _ _ _ c.dims.ensures c.as_slice-in-Some-array.ensures.value c.in_default-read_fused.ensures)

pub returns-in-None : goal.returns-in-None
returns-in-None c =
    root_found c.args.space.now c.args.tree.now c.args.v (form c.args.line.now) (texts c.args.line.now.order.items) c.in-Some.order.0.items c.empty.result
    (record {
      over = record { few = c.index_count-declared.ensures.limits.index_limit; declared = c.requires.declared; inside = c.requires.inside };
      node_is = c.if-line-v.false;
      kind_is = differs_false the_type (search rules) _ _ c.if-line-kind.false ∙ c.kind.ensures;
      order_is = λ i. texts c.args.line.now.order.items;
      exact = order_exact c.args.space.now (Some c.in-Some.order.0.items) _ _ _ _ c.loops.ensures.value c.as_slice.ensures.value c.in-Some.ensures;
    })
    (sym c.if-is_root.true ∙ c.count.ensures.value) (ap array_form c.in-None.is) c.empty.ensures.value

pub returns-in-Some-read_fused : goal.returns-in-Some-read_fused
returns-in-Some-read_fused c =
    inner_found c.args.space.now c.args.tree.now c.args.v (form c.args.line.now) (texts c.args.line.now.order.items) c.in-Some.order.0.items
    (texts c.in-Some-array.array.fused.items) c.in-Some-read_fused.fused c.in-Some-array.array.size
    (record {
      over = record { few = c.index_count-declared.ensures.limits.index_limit; declared = c.requires.declared; inside = c.requires.inside };
      node_is = c.if-line-v.false;
      kind_is = differs_false the_type (search rules) _ _ c.if-line-kind.false ∙ c.kind.ensures;
      order_is = λ i. texts c.args.line.now.order.items;
      exact = order_exact c.args.space.now (Some c.in-Some.order.0.items) _ _ _ _ c.loops.ensures.value c.as_slice.ensures.value c.in-Some.ensures;
    })
    (λ root. c.if-not-is_root.true (c.count.ensures.value ∙ sym root)) (ap array_form c.in-Some-array.is) (subst (λ array. IsArrayForm (array_form array)) c.in-Some-array.is c.requires.form.array).1
    (fused_exact c.args.space.now (Some c.in-Some-read_fused.fused) _ _ _ _ c.dims.ensures c.as_slice-in-Some-array.ensures.value c.in-Some-read_fused.ensures)
