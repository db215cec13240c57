use Rattle.std.proofs.Common.{arith, ◌++◌, ◌+◌, length, ◌/◌, ◌%◌, [], ◌∷◌, ap, ◌∙◌, sym, append_assoc, length-append}
use Rattle.std.specs.Fmt.{decimal}
use Rattle.tce_fields.proofs.Digits.{decimal_next, length_next, decimal_last, length_digit, length-encode_digit}
use Rattle.tce_fields.proofs.decimal.+push_decimal.Goals as goal
use Rattle.tce_fields.proofs.decimal.+push_decimal.Goals.{then-number-ge10, else-number-ge10}

pub push_decimal-requires : goal.push_decimal-requires
push_decimal-requires t c = (omega (arith, c.decreases), omega (arith, c.requires, length_next c.args.number c.if-number-ge10.true (omega arith)))

pub push-requires : goal.push-requires
push-requires t c = (
  omega arith,
  elim c.if-number-ge10.branch [
    | then-number-ge10 w ↦
        omega (
          arith,
          c.requires,
          length_next c.args.number w.if-number-ge10.true (omega arith),
          length-encode_digit c.from.result c.args.number c.from.ensures,
          ap (λ l. length l.bytes) w.text-is,
          ap length w.push_decimal.ensures,
          length-append c.args.text.now.bytes (decimal (c.args.number / 10)),
        )
    | else-number-ge10 w ↦
        omega (
          arith,
          c.requires,
          length_digit c.args.number w.if-number-ge10.false,
          length-encode_digit c.from.result c.args.number c.from.ensures,
          ap (λ l. length l.bytes) w.text-is,
        )
  ],
)

pub returns : goal.returns
returns t c =
    let pushed = c.push.ensures.ascii (omega (arith, c.from.ensures)) in
    elim c.if-number-ge10.branch [
      | then-number-ge10 w ↦
          pushed
          ∙ ap (λ d. c.if-number-ge10.text.bytes ++ d ∷ []) c.from.ensures
          ∙ ap (λ xs. xs ++ (48 + c.args.number % 10) ∷ []) (ap (λ l. l.bytes) w.text-is ∙ w.push_decimal.ensures)
          ∙ append_assoc c.args.text.now.bytes (decimal (c.args.number / 10)) ((48 + c.args.number % 10) ∷ [])
          ∙ ap (λ d. c.args.text.now.bytes ++ d) (sym (decimal_next c.args.number w.if-number-ge10.true (omega arith)))
      | else-number-ge10 w ↦
          pushed
          ∙ ap (λ d. c.if-number-ge10.text.bytes ++ d ∷ []) c.from.ensures
          ∙ ap (λ l. l.bytes ++ (48 + c.args.number % 10) ∷ []) w.text-is
          ∙ ap (λ d. c.args.text.now.bytes ++ d) (sym (decimal_last c.args.number w.if-number-ge10.false))
    ]
