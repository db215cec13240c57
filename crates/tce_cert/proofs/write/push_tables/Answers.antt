use Rattle.std.proofs.lemmas.Result.{err_from_is_err_and}
use Rattle.std.proofs.Common.{◌≡◌, ◌++◌, ◌∷◌, length, ap, sym, ◌∙◌, arith, map}
use Rattle.tce_cert.specs.Lines.{table_line, row_line}
use Rattle.tce_cert.specs.Certificate.{text_of, tables_lines, table_lines}
use Rattle.tce_cert.proofs.Texts.{table_pushed, table_head}
use Rattle.tce_cert.proofs.Nestings.{nestings_more}
use Rattle.tce_cert.proofs.write.push_tables.Goals as goal

pub loop-v-preserved : goal.loop-v-preserved
loop-v-preserved c =
    let rows = c.rows-rows.result.now in
    record {
      text = table_pushed (table_lines c.args.space.now c.args.tables.now) c.args.text.now.items c.loop-v.text.items _ _
          (table_line c.loop-v.v-counter (length rows)) (map (row_line c.args.space.now) rows) c.loop-v.v-counter c.loop-v.invariant.text
          (c.in_ok-extend_from_slice.ensures.items
          ∙ ap (λ t. c.loop-v.text.items ++ t)
          (c.as_bytes.ensures.value ∙ c.as_str.ensures.value ∙ c.in_ok-head.ensures.ok ∙ table_head c.loop-v.v-counter (length rows)))
          c.in_ok-push_rows.ensures.text
          (ap (λ rs. table_line c.loop-v.v-counter (length rs) ∷ map (row_line c.args.space.now) rs) (sym c.rows-rows.ensures));
      nestings = nestings_more c.args.tables.now c.loop-v.v-counter rows c.rows-rows.ensures c.in_ok-push_rows.ensures.nestings (omega arith) c.loop-v.invariant.nestings;
    }

pub returns-clause-text : goal.returns-clause-text
returns-clause-text c =
    let all : c.loop-v.v-counter ≡ length c.args.tables.now = omega (arith, c.lists-v-end.ensures.value) in
    c.loop-v.invariant.text ∙ ap (λ n. c.args.text.now.items ++ text_of (tables_lines c.args.space.now c.args.tables.now n)) all

pub returns-in_err-head-clause-text : goal.returns-in_err-head-clause-text
returns-in_err-head-clause-text c =
    let p = err_from_is_err_and c.from_residual.result c.from_residual.ensures.1 in
    rw p.1 tt

pub returns-in_err-head-clause-nestings : goal.returns-in_err-head-clause-nestings
returns-in_err-head-clause-nestings c =
    let p = err_from_is_err_and c.from_residual.result c.from_residual.ensures.1 in
    rw p.1 tt

pub returns-in_err-extend_from_slice-clause-text : goal.returns-in_err-extend_from_slice-clause-text
returns-in_err-extend_from_slice-clause-text c =
    let p = err_from_is_err_and c.from_residual-in_err-extend_from_slice.result c.from_residual-in_err-extend_from_slice.ensures.1 in
    rw p.1 tt

pub returns-in_err-extend_from_slice-clause-nestings : goal.returns-in_err-extend_from_slice-clause-nestings
returns-in_err-extend_from_slice-clause-nestings c =
    let p = err_from_is_err_and c.from_residual-in_err-extend_from_slice.result c.from_residual-in_err-extend_from_slice.ensures.1 in
    rw p.1 tt

pub returns-in_err-push_rows-clause-text : goal.returns-in_err-push_rows-clause-text
returns-in_err-push_rows-clause-text c =
    let p = err_from_is_err_and c.from_residual-in_err-push_rows.result c.from_residual-in_err-push_rows.ensures.1 in
    rw p.1 tt

pub returns-in_err-push_rows-clause-nestings : goal.returns-in_err-push_rows-clause-nestings
returns-in_err-push_rows-clause-nestings c =
    let p = err_from_is_err_and c.from_residual-in_err-push_rows.result c.from_residual-in_err-push_rows.ensures.1 in
    rw p.1 tt
