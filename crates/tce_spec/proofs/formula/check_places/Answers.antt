use Rattle.std.proofs.Common.{Bool, sym, ap, ◌∙◌}
use Rattle.std.specs.Prelude.{not}
use Rattle.std.specs.List.{list_all}
use Rattle.tce_grammar.specs.Code.{names, formula}
use Rattle.tce_spec.specs.Faults.{fault_if, bad_number}
use Rattle.tce_spec.specs.Places.{constants}
use Rattle.tce_spec.specs.FormulaFaults.{is_constant}
use Rattle.tce_spec.specs.Rules.{column}
use Rattle.tce_spec.specs.declared.rule.Rule.TheVariants.{Declared, SameRank, SameRanges, ListedOnce, NotNamed}
use Rattle.tce_spec.proofs.ShownFaults.{ok_of_err, err_shows, shown_1, shown_3, shown_4, shown_5, number_shown, all_kept, last_shown}
use Rattle.tce_spec.proofs.formula.check_places.Goals as goal

pub keep-requires-clause-name : goal.keep-requires-clause-name
keep-requires-clause-name c = c.requires.name

pub keep-requires-clause-indexes : goal.keep-requires-clause-indexes
keep-requires-clause-indexes c = c.requires.indexes

pub keep-requires-clause-written : goal.keep-requires-clause-written
keep-requires-clause-written c = c.requires.written

pub keep-requires-2-clause-name : goal.keep-requires-2-clause-name
keep-requires-2-clause-name c = c.requires.name

pub keep-requires-2-clause-indexes : goal.keep-requires-2-clause-indexes
keep-requires-2-clause-indexes c = c.requires.indexes

pub keep-requires-2-clause-written : goal.keep-requires-2-clause-written
keep-requires-2-clause-written c = c.requires.written

pub keep-requires-3-clause-name : goal.keep-requires-3-clause-name
keep-requires-3-clause-name c = c.requires.name

pub keep-requires-3-clause-indexes : goal.keep-requires-3-clause-indexes
keep-requires-3-clause-indexes c = c.requires.indexes

pub keep-requires-3-clause-written : goal.keep-requires-3-clause-written
keep-requires-3-clause-written c = c.requires.written

pub keep-requires-4-clause-name : goal.keep-requires-4-clause-name
keep-requires-4-clause-name c = c.requires.name

pub keep-requires-4-clause-indexes : goal.keep-requires-4-clause-indexes
keep-requires-4-clause-indexes c = c.requires.indexes

pub keep-requires-4-clause-written : goal.keep-requires-4-clause-written
keep-requires-4-clause-written c = c.requires.written

pub keep-requires-5-clause-name : goal.keep-requires-5-clause-name
keep-requires-5-clause-name c = c.requires.name

pub keep-requires-5-clause-indexes : goal.keep-requires-5-clause-indexes
keep-requires-5-clause-indexes c = c.requires.indexes

pub keep-requires-5-clause-written : goal.keep-requires-5-clause-written
keep-requires-5-clause-written c = c.requires.written

pub returns-in_err-keep-clause-ok : goal.returns-in_err-keep-clause-ok
returns-in_err-keep-clause-ok c = ok_of_err c.from_residual.result _ c.from_residual.ensures.0

pub returns-in_err-keep-clause-fault : goal.returns-in_err-keep-clause-fault
returns-in_err-keep-clause-fault c = err_shows c.from_residual.result c.in_err-keep.field-0.0 _ c.from_residual.ensures.1 (shown_1 (column Declared c.args.line c.args.declarations.now c.args.name.now (names c.args.indexes.now) (formula c.args.written.now)) _ c.in_err-keep.field-0.0 c.in_err-keep.ensures.fault)

pub returns-in_err-keep-2-clause-ok : goal.returns-in_err-keep-2-clause-ok
returns-in_err-keep-2-clause-ok c = ok_of_err c.from_residual-in_err-keep-2.result _ c.from_residual-in_err-keep-2.ensures.0

pub returns-in_err-keep-2-clause-fault : goal.returns-in_err-keep-2-clause-fault
returns-in_err-keep-2-clause-fault c =
    err_shows c.from_residual-in_err-keep-2.result c.in_err-keep-2.field-0.0 _ c.from_residual-in_err-keep-2.ensures.1
    (shown_3
    (column Declared c.args.line c.args.declarations.now c.args.name.now (names c.args.indexes.now) (formula c.args.written.now))
    (fault_if (not (list_all is_constant (constants (formula c.args.written.now)))) (bad_number c.args.line))
    (column SameRank c.args.line c.args.declarations.now c.args.name.now (names c.args.indexes.now) (formula c.args.written.now))
    _ c.in_err-keep-2.field-0.0
    c.in_ok-keep.ensures.ok
    (ap (λ (good : Bool). fault_if (not good) (bad_number c.args.line)) (sym c.has_good_constants.ensures ∙ c.if-not-has_good_constants.false))
    c.in_err-keep-2.ensures.fault)

pub returns-in_err-keep-3-clause-ok : goal.returns-in_err-keep-3-clause-ok
returns-in_err-keep-3-clause-ok c = ok_of_err c.from_residual-in_err-keep-3.result _ c.from_residual-in_err-keep-3.ensures.0

pub returns-in_err-keep-3-clause-fault : goal.returns-in_err-keep-3-clause-fault
returns-in_err-keep-3-clause-fault c =
    err_shows c.from_residual-in_err-keep-3.result c.in_err-keep-3.field-0.0 _ c.from_residual-in_err-keep-3.ensures.1
    (shown_4
    (column Declared c.args.line c.args.declarations.now c.args.name.now (names c.args.indexes.now) (formula c.args.written.now))
    (fault_if (not (list_all is_constant (constants (formula c.args.written.now)))) (bad_number c.args.line))
    (column SameRank c.args.line c.args.declarations.now c.args.name.now (names c.args.indexes.now) (formula c.args.written.now))
    (column SameRanges c.args.line c.args.declarations.now c.args.name.now (names c.args.indexes.now) (formula c.args.written.now))
    _ c.in_err-keep-3.field-0.0
    c.in_ok-keep.ensures.ok
    (ap (λ (good : Bool). fault_if (not good) (bad_number c.args.line)) (sym c.has_good_constants.ensures ∙ c.if-not-has_good_constants.false))
    c.in_ok-keep-2.ensures.ok
    c.in_err-keep-3.ensures.fault)

pub returns-in_err-keep-4-clause-ok : goal.returns-in_err-keep-4-clause-ok
returns-in_err-keep-4-clause-ok c = ok_of_err c.from_residual-in_err-keep-4.result _ c.from_residual-in_err-keep-4.ensures.0

pub returns-in_err-keep-4-clause-fault : goal.returns-in_err-keep-4-clause-fault
returns-in_err-keep-4-clause-fault c =
    err_shows c.from_residual-in_err-keep-4.result c.in_err-keep-4.field-0.0 _ c.from_residual-in_err-keep-4.ensures.1
    (shown_5
    (column Declared c.args.line c.args.declarations.now c.args.name.now (names c.args.indexes.now) (formula c.args.written.now))
    (fault_if (not (list_all is_constant (constants (formula c.args.written.now)))) (bad_number c.args.line))
    (column SameRank c.args.line c.args.declarations.now c.args.name.now (names c.args.indexes.now) (formula c.args.written.now))
    (column SameRanges c.args.line c.args.declarations.now c.args.name.now (names c.args.indexes.now) (formula c.args.written.now))
    (column ListedOnce c.args.line c.args.declarations.now c.args.name.now (names c.args.indexes.now) (formula c.args.written.now))
    _ c.in_err-keep-4.field-0.0
    c.in_ok-keep.ensures.ok
    (ap (λ (good : Bool). fault_if (not good) (bad_number c.args.line)) (sym c.has_good_constants.ensures ∙ c.if-not-has_good_constants.false))
    c.in_ok-keep-2.ensures.ok
    c.in_ok-keep-3.ensures.ok
    c.in_err-keep-4.ensures.fault)

pub returns-then-not-has_good_constants-clause-fault : goal.returns-then-not-has_good_constants-clause-fault
returns-then-not-has_good_constants-clause-fault c =
    number_shown (column Declared c.args.line c.args.declarations.now c.args.name.now (names c.args.indexes.now) (formula c.args.written.now)) _
    (list_all is_constant (constants (formula c.args.written.now))) c.args.line c.in_ok-keep.ensures.ok (sym c.has_good_constants.ensures ∙ c.if-not-has_good_constants.true)

pub returns-clause-ok : goal.returns-clause-ok
returns-clause-ok c =
    all_kept c.keep-5.result
    (column Declared c.args.line c.args.declarations.now c.args.name.now (names c.args.indexes.now) (formula c.args.written.now))
    (fault_if (not (list_all is_constant (constants (formula c.args.written.now)))) (bad_number c.args.line))
    (column SameRank c.args.line c.args.declarations.now c.args.name.now (names c.args.indexes.now) (formula c.args.written.now))
    (column SameRanges c.args.line c.args.declarations.now c.args.name.now (names c.args.indexes.now) (formula c.args.written.now))
    (column ListedOnce c.args.line c.args.declarations.now c.args.name.now (names c.args.indexes.now) (formula c.args.written.now))
    (column (NotNamed c.args.name) c.args.line c.args.declarations.now c.args.name.now (names c.args.indexes.now) (formula c.args.written.now))
    c.in_ok-keep.ensures.ok
    (ap (λ (good : Bool). fault_if (not good) (bad_number c.args.line)) (sym c.has_good_constants.ensures ∙ c.if-not-has_good_constants.false))
    c.in_ok-keep-2.ensures.ok
    c.in_ok-keep-3.ensures.ok
    c.in_ok-keep-4.ensures.ok
    c.keep-5.ensures.ok

pub returns-clause-fault : goal.returns-clause-fault
returns-clause-fault c =
    last_shown c.keep-5.result
    (column Declared c.args.line c.args.declarations.now c.args.name.now (names c.args.indexes.now) (formula c.args.written.now))
    (fault_if (not (list_all is_constant (constants (formula c.args.written.now)))) (bad_number c.args.line))
    (column SameRank c.args.line c.args.declarations.now c.args.name.now (names c.args.indexes.now) (formula c.args.written.now))
    (column SameRanges c.args.line c.args.declarations.now c.args.name.now (names c.args.indexes.now) (formula c.args.written.now))
    (column ListedOnce c.args.line c.args.declarations.now c.args.name.now (names c.args.indexes.now) (formula c.args.written.now))
    (column (NotNamed c.args.name) c.args.line c.args.declarations.now c.args.name.now (names c.args.indexes.now) (formula c.args.written.now))
    c.in_ok-keep.ensures.ok
    (ap (λ (good : Bool). fault_if (not good) (bad_number c.args.line)) (sym c.has_good_constants.ensures ∙ c.if-not-has_good_constants.false))
    c.in_ok-keep-2.ensures.ok
    c.in_ok-keep-3.ensures.ok
    c.in_ok-keep-4.ensures.ok
    c.keep-5.ensures.fault
