-- A specification of a batch, by way of its canonical text.
use Rattle.std.proofs.Common.{◌≡◌, ℕ, ◌<◌, List, length, Result, Ok, Some, slice_get, get_or, refl, sym, subst, ◌∙◌, ap}
use Rattle.std.proofs.lemmas.List.{length-map}
use Rattle.std.proofs.lemmas.Option.{slice_get-map, slice_get_read}
use Rattle.std.specs.Option.{option_map}
use Rattle.tce_tree.specs.Expr.{tree_of}
use Rattle.tce_tree.specs.ContractionTree.{ContractionTree}
use Rattle.tce_spec.specs.Statements.{canonical}
use Rattle.tce_spec.specs.Declarations.{Declarations}
use Rattle.tce_spec.specs.Faults.{Fault}
use Rattle.tce_spec.specs.declared.formula.Contraction.{Contraction}
use Rattle.tce_spec.specs.Specification.{Specification}
use Rattle.tce_spec.specs.SpecCode.{specification_of, IsKept}
use Rattle.tce_spec.specs.Canonical.{canonical_of}
use Rattle.tce_spec.specs.Outcome.{IsOutcome}
use Rattle.tce_spec.proofs.Outcomes.{canonical_outcome}
use Rattle.tce_batch.specs.BatchCode.{specifications_of, AreKept}

pub spec_read : (d : Declarations) (cs : List Contraction) (number : ℕ) (e : Contraction) (spec : Specification) (batch : List Specification) (text : List ℕ)
    → AreKept d cs → specifications_of d cs ≡ batch → number < length batch → e ≡ get_or cs number e → text ≡ canonical d e.result.tensor e.result.indexes.items (tree_of e.expr)
    → ((found : Result Specification Fault) → IsOutcome text found → found ≡ Ok spec) → slice_get batch number ≡ Some spec
spec_read d cs number e spec batch text kept batch_is within at is answers =
    let inside : number < length cs = subst (λ n. number < n) (ap length (sym batch_is) ∙ length-map cs (specification_of d)) within in
    let kept_here : IsKept d e = subst (IsKept d) (sym at) (kept.each number e inside) in
    let text_is : text ≡ canonical_of (specification_of d e) = is ∙ ap (λ (t : ContractionTree). canonical d e.result.tensor e.result.indexes.items t) kept_here.expression in
    let outcome : IsOutcome text (Ok (specification_of d e)) =
    subst (λ (t : List ℕ). IsOutcome t (Ok (specification_of d e))) (sym text_is) (canonical_outcome (specification_of d e) (record { rules = kept_here.rules; names = kept.named })) in
    let found = answers (Ok (specification_of d e)) outcome in
    let same : specification_of d e ≡ spec = cc in
    ap (λ (ss : List Specification). slice_get ss number) (sym batch_is)
    ∙ slice_get-map (specification_of d) cs number
    ∙ ap (option_map (specification_of d)) (slice_get_read cs (length cs) number e refl inside at)
    ∙ ap Some same
