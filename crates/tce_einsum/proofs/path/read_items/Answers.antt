use Rattle.std.proofs.Common.{List, ℕ, refl, arith, length, ◌≡◌}
use Rattle.std.proofs.lemmas.List.{length-map}
use Rattle.std.proofs.lemmas.Result.{err_from_is_err_and}
use Rattle.std.specs.Borrow.{Bor}
use Rattle.tce_fields.specs.Reading.{texts}
use Rattle.tce_einsum.proofs.Items.{next_items, text_of_part, too_many_left, wrong_item}
use Rattle.tce_einsum.proofs.path.read_items.Goals as goal

pub loop-number-preserved : goal.loop-number-preserved
loop-number-preserved c =
    next_items c.args.count c.loop-number.number (texts c.args.parts.now) c.loop-number.found.items c.push.new.self.items c.in-Some.read c.loop-number.left c.left_by-left.result
    (omega (arith, length-map c.args.parts.now (λ (b : Bor (List ℕ)). b.now), c.loop-number-test.true))
    c.loop-number.invariant (text_of_part c.args.parts.now c.loop-number.number _ _ refl c.in-Some.ensures.0) c.in-Some.ensures.1 c.in_ok-push.ensures.items c.left_by-left.ensures

pub returns-in_err-push : goal.returns-in_err-push
returns-in_err-push c = let p = err_from_is_err_and c.from_residual.result c.from_residual.ensures.1 in rw (p.1, p.2) tt

pub returns-else-left-eq1 : goal.returns-else-left-eq1
returns-else-left-eq1 c =
    let len : length (texts c.args.parts.now) ≡ length c.args.parts.now = length-map c.args.parts.now (λ (b : Bor (List ℕ)). b.now) in
    too_many_left c.args.count c.loop-number.number (length c.args.parts.now) (texts c.args.parts.now) c.loop-number.found.items c.loop-number.left
    (omega (arith, c.loop-number-test.false, c.loop-number.auto.number-end)) len c.loop-number.invariant c.if-left-eq1.false

pub returns-in_default : goal.returns-in_default
returns-in_default c =
    let len : length (texts c.args.parts.now) ≡ length c.args.parts.now = length-map c.args.parts.now (λ (b : Bor (List ℕ)). b.now) in
    wrong_item c.args.count c.loop-number.number (texts c.args.parts.now) c.loop-number.found.items c.loop-number.left _
    (omega (arith, len, c.loop-number-test.true))
    c.loop-number.invariant (text_of_part c.args.parts.now c.loop-number.number _ _ refl refl) c.in_default.ensures
