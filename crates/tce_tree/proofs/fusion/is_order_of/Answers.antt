use Rattle.std.proofs.Common.{refl, sym, ◌∙◌, subst, arith, add-one, eqb-true, eq-eqb}
use Rattle.std.proofs.lemmas.Bool.{false≢true, and_parts, not-true}
use Rattle.tce_space.proofs.IndexSetLaws.{has-empty, has_below, with_lt}
use Rattle.tce_tree.proofs.OrderTests.{IsSeen, no_order, seen_more, order_from, order_back}
use Rattle.tce_tree.proofs.fusion.is_order_of.Goals as goal

pub loop-index-init : goal.loop-index-init
loop-index-init c =
    subst (λ s. IsSeen c.args.loops s 0 c.args.order.now) (sym c.empty-seen.ensures.value)
    (record {
      same = λ i. has-empty i;
      distinct = refl;
      loops_only = λ i h. absurd (false≢true (sym (has-empty i) ∙ h));
      is_set = omega arith;
    })

pub returns-then-not-is_new : goal.returns-then-not-is_new
returns-then-not-is_new c = (
  (λ h. absurd (false≢true h)),
  (λ p. absurd (no_order c.args.loops c.loop-index.seen c.loop-index.index-index c.args.order.now c.bits-bits.ensures.bounded c.loop-index.invariant c.loop-index-test.true (sym c.is_new.ensures ∙ c.if-not-is_new.true) p)),
)

pub with-seen-requires : goal.with-seen-requires
with-seen-requires c =
    has_below c.args.loops _ c.bits-bits.ensures.bounded (and_parts _ _ (sym c.is_new.ensures ∙ c.if-not-is_new.false)).0

pub loop-index-preserved : goal.loop-index-preserved
loop-index-preserved c =
    let parts = and_parts _ _ (sym c.is_new.ensures ∙ c.if-not-is_new.false) in
    rw (add-one c.loop-index.index-index, c.with-seen.ensures.value)
    (seen_more c.args.loops c.loop-index.seen c.loop-index.index-index c.args.order.now _ refl (has_below c.args.loops _ c.bits-bits.ensures.bounded parts.0) c.loop-index.invariant c.loop-index-test.true
    parts.0 (not-true _ parts.1) (with_lt c.loop-index.seen _ c.loop-index.invariant.is_set))

pub returns : goal.returns
returns c = (
  (λ t. order_from c.args.loops c.loop-index.seen c.loop-index.index-index c.args.order.now c.bits-bits.ensures.bounded c.loop-index.invariant c.loop-index-test.false
      (eqb-true c.loop-index.seen c.args.loops (sym c.eq.ensures ∙ t))),
  (λ p. c.eq.ensures ∙ eq-eqb c.loop-index.seen c.args.loops
      (order_back c.args.loops c.loop-index.seen c.loop-index.index-index c.args.order.now c.bits-bits.ensures.bounded c.loop-index.invariant c.loop-index-test.false p)),
)
