use Rattle.std.proofs.Common.{◌≡◌, ℕ, List, length, arith}
use Rattle.std.specs.Vec.{vec_len}
use Rattle.std.specs.Prelude.{Vec}
use Rattle.std.specs.declared.alloc.Global.{Global}
use Rattle.std.specs.Borrow.{Bor}
use Rattle.std.proofs.lemmas.List.{length-map}
use Rattle.std.proofs.lemmas.Result.{err_from_is_err_and}
use Rattle.tce_fields.specs.Reading.{texts}
use Rattle.tce_einsum.specs.Code.{einsum, items}
use Rattle.tce_einsum.specs.declared.path.Item.{Item}
use Rattle.tce_einsum.specs.declared.text.Einsum.{Einsum}
use Rattle.tce_einsum.proofs.Inputs.{text_fault, bad_size_of, path_fault, input_read}
use Rattle.tce_einsum.proofs.input.read_input.Goals as goal

all_operands : (whole : Einsum) (count : ℕ) → count ≡ vec_len whole.operands → count ≡ length (texts whole.operands.items)
all_operands whole count all = omega (arith, all, length-map whole.operands.items (λ (b : Bor (List ℕ)). b.now))

pub returns-in_err-whole : goal.returns-in_err-whole
returns-in_err-whole c =
    let p = err_from_is_err_and c.from_residual.result c.from_residual.ensures.1 in
    rw (p.1, p.2) (text_fault c.args.text.now c.args.path.now einsum c.in_err-whole.field-0.0 c.in_err-whole.ensures)

pub returns-in-Some : goal.returns-in-Some
returns-in-Some c = bad_size_of c.args.text.now (einsum c.in_ok-whole.whole) c.in-Some.label c.in_ok-whole.ensures c.in-Some.ensures

pub returns-in-Err : goal.returns-in-Err
returns-in-Err c =
    path_fault c.args.text.now c.args.path.now (einsum c.in_ok-whole.whole) c.len.result (λ (v : Vec Item Global). items v.items) c.in-Err.fault
    c.in_ok-whole.ensures c.in_default.ensures (all_operands c.in_ok-whole.whole c.len.result c.len.ensures) c.in-Err.ensures

pub returns-in-Ok : goal.returns-in-Ok
returns-in-Ok c =
    input_read c.args.text.now c.args.path.now (einsum c.in_ok-whole.whole) c.len.result (items c.in-Ok.items.items)
    c.in_ok-whole.ensures c.in_default.ensures (all_operands c.in_ok-whole.whole c.len.result c.len.ensures) c.in-Ok.ensures
