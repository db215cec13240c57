use Rattle.std.proofs.Common.{◌≡◌, ◌<◌, ◌↔◌, ℕ, IsTrue, List, Bool, true, false, Option, None, refl, sym, subst, arith, nat_lt}
use Rattle.std.proofs.lemmas.Result.{IfOk-from_err}
use Rattle.std.specs.Prelude.{Result, IfOk, IfErr, OnOk}
use Rattle.std.specs.declared.result.Result.TheVariants.{Ok, Err}
use Rattle.tce_grammar.specs.Formula.{Formula, operations}
use Rattle.tce_grammar.specs.Code.{names, formula}
use Rattle.tce_spec.specs.Declarations.{Declarations}
use Rattle.tce_spec.specs.Faults.{Fault}
use Rattle.tce_spec.specs.FaultCode.{Shows}
use Rattle.tce_spec.specs.declared.fault.SpecFault.{SpecFault}
use Rattle.tce_spec.specs.declared.formula.Contraction.{Contraction}
use Rattle.tce_spec.specs.Places.{IsNamed}
use Rattle.tce_spec.specs.Meaning.{meaning, indexes_of, tensor_of}
use Rattle.tce_spec.specs.Rules.{places_fault, tree_fault}
use Rattle.tce_spec.specs.Contraction.{IsContraction}
use Rattle.tce_spec.proofs.FormulaParts.{is_contraction, only_tree, shown_places, too_many}
use Rattle.tce_spec.proofs.ShownFaults.{ok_of_err, err_shows}
use Rattle.tce_spec.proofs.formula.read_formula.Goals as goal

few : (b : Bool) (n : ℕ) → b ≡ false → IsTrue b ↔ (32 < n) → nat_lt 32 n ≡ false
few b n e h = by_test b n e h (nat_lt 32 n) refl
  where
    by_test : (b : Bool) (n : ℕ) → b ≡ false → IsTrue b ↔ (32 < n) → (t : Bool) → nat_lt 32 n ≡ t → nat_lt 32 n ≡ false
    by_test b n e h true k = let more : b ≡ true = h.1 (grind (arith, k)) in cc
    by_test b n e h false k = k

many : (b : Bool) (n : ℕ) → b ≡ true → IsTrue b ↔ (32 < n) → nat_lt 32 n ≡ true
many b n e h = by_test b n e h (nat_lt 32 n) refl
  where
    by_test : (b : Bool) (n : ℕ) → b ≡ true → IsTrue b ↔ (32 < n) → (t : Bool) → nat_lt 32 n ≡ t → nat_lt 32 n ≡ true
    by_test b n e h true k = k
    by_test b n e h false k = let more : 32 < n = h.0 (subst IsTrue (sym e) refl) in grind (arith, k)

-- what an answer keeps, where it is one
kept : (line : ℕ) (d : Declarations) (result : List ℕ) (indexes : List (List ℕ)) (f : Formula) (r : Result Contraction SpecFault) → IsNamed f → places_fault line d result indexes f ≡ None
    → IfOk r (λ (x : Contraction). x.result.tensor ≡ tensor_of d result) → IfOk r (λ (x : Contraction). x.result.indexes.items ≡ indexes_of d.space indexes)
    → IfOk r (λ (x : Contraction). x.tree ≡ meaning d f) → OnOk r (tree_fault line d indexes f ≡ None)
    → IfOk r (λ (x : Contraction). IsContraction d x.result.tensor x.result.indexes.items x.tree)
kept line d result indexes f (Ok x) named none tensor at same whole = rw (tensor, at, same) (is_contraction line d result indexes f named none whole)
kept line d result indexes f (Err fault) named none tensor at same whole = tt

pub returns-clause-rules : goal.returns-clause-rules
returns-clause-rules c =
    kept c.args.line c.args.declarations.now c.args.name.now (names c.args.indexes.now) (formula c.args.written.now) c.contraction_of.result c.requires.written c.in_ok-check_places.ensures.ok
    c.contraction_of.ensures.tensor c.contraction_of.ensures.indexes c.contraction_of.ensures.tree c.contraction_of.ensures.ok

pub returns-clause-fault : goal.returns-clause-fault
returns-clause-fault c =
    subst (λ (fault : Option Fault). IfErr c.contraction_of.result (Shows fault))
    (sym (only_tree c.args.line c.args.declarations.now c.args.name.now (names c.args.indexes.now) (formula c.args.written.now)
    (few c.has_more_operations.result (operations (formula c.args.written.now)) c.if-has_more_operations.false c.has_more_operations.ensures) c.in_ok-check_places.ensures.ok))
    c.contraction_of.ensures.fault

pub returns-in_err-check_places-clause-tensor : goal.returns-in_err-check_places-clause-tensor
returns-in_err-check_places-clause-tensor c = IfOk-from_err c.from_residual.result _ c.from_residual.ensures.0

pub returns-in_err-check_places-clause-indexes : goal.returns-in_err-check_places-clause-indexes
returns-in_err-check_places-clause-indexes c = IfOk-from_err c.from_residual.result _ c.from_residual.ensures.0

pub returns-in_err-check_places-clause-expr : goal.returns-in_err-check_places-clause-expr
returns-in_err-check_places-clause-expr c = IfOk-from_err c.from_residual.result _ c.from_residual.ensures.0

pub returns-in_err-check_places-clause-tree : goal.returns-in_err-check_places-clause-tree
returns-in_err-check_places-clause-tree c = IfOk-from_err c.from_residual.result _ c.from_residual.ensures.0

pub returns-in_err-check_places-clause-measured : goal.returns-in_err-check_places-clause-measured
returns-in_err-check_places-clause-measured c = IfOk-from_err c.from_residual.result _ c.from_residual.ensures.0

pub returns-in_err-check_places-clause-rules : goal.returns-in_err-check_places-clause-rules
returns-in_err-check_places-clause-rules c = IfOk-from_err c.from_residual.result _ c.from_residual.ensures.0

pub returns-in_err-check_places-clause-ok : goal.returns-in_err-check_places-clause-ok
returns-in_err-check_places-clause-ok c = ok_of_err c.from_residual.result _ c.from_residual.ensures.0

pub returns-in_err-check_places-clause-fault : goal.returns-in_err-check_places-clause-fault
returns-in_err-check_places-clause-fault c =
    err_shows c.from_residual.result c.in_err-check_places.field-0.0 _ c.from_residual.ensures.1
    (shown_places c.args.line c.args.declarations.now c.args.name.now (names c.args.indexes.now) (formula c.args.written.now)
    (few c.has_more_operations.result (operations (formula c.args.written.now)) c.if-has_more_operations.false c.has_more_operations.ensures)
    c.in_err-check_places.field-0.0 c.in_err-check_places.ensures.fault)

pub returns-then-has_more_operations-clause-fault : goal.returns-then-has_more_operations-clause-fault
returns-then-has_more_operations-clause-fault c =
    too_many c.args.line c.args.declarations.now c.args.name.now (names c.args.indexes.now) (formula c.args.written.now)
    (many c.has_more_operations.result (operations (formula c.args.written.now)) c.if-has_more_operations.true c.has_more_operations.ensures)

pub check_places-requires-clause-name : goal.check_places-requires-clause-name
check_places-requires-clause-name c = c.requires.name

pub contraction_of-requires-clause-name : goal.contraction_of-requires-clause-name
contraction_of-requires-clause-name c = c.requires.name

pub check_places-requires-clause-indexes : goal.check_places-requires-clause-indexes
check_places-requires-clause-indexes c = c.requires.indexes

pub contraction_of-requires-clause-indexes : goal.contraction_of-requires-clause-indexes
contraction_of-requires-clause-indexes c = c.requires.indexes

pub check_places-requires-clause-written : goal.check_places-requires-clause-written
check_places-requires-clause-written c = c.requires.written

pub contraction_of-requires-clause-written : goal.contraction_of-requires-clause-written
contraction_of-requires-clause-written c = c.requires.written

pub contraction_of-requires-clause-faultless : goal.contraction_of-requires-clause-faultless
contraction_of-requires-clause-faultless c = c.in_ok-check_places.ensures.ok

pub returns-clause-tensor : goal.returns-clause-tensor
returns-clause-tensor c = c.contraction_of.ensures.tensor

pub returns-clause-indexes : goal.returns-clause-indexes
returns-clause-indexes c = c.contraction_of.ensures.indexes

pub returns-clause-expr : goal.returns-clause-expr
returns-clause-expr c = c.contraction_of.ensures.expr

pub returns-clause-tree : goal.returns-clause-tree
returns-clause-tree c = c.contraction_of.ensures.tree

pub returns-clause-measured : goal.returns-clause-measured
returns-clause-measured c = c.contraction_of.ensures.measured

pub returns-clause-ok : goal.returns-clause-ok
returns-clause-ok c =
    subst (λ (fault : Option Fault). OnOk c.contraction_of.result (fault ≡ None))
    (sym (only_tree c.args.line c.args.declarations.now c.args.name.now (names c.args.indexes.now) (formula c.args.written.now)
    (few c.has_more_operations.result (operations (formula c.args.written.now)) c.if-has_more_operations.false c.has_more_operations.ensures) c.in_ok-check_places.ensures.ok))
    c.contraction_of.ensures.ok
