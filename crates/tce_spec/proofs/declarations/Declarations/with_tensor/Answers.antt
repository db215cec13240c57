use Rattle.std.proofs.Common.{◌≡◌, ℕ, List, is_some, ap, sym, subst, ◌∙◌, arith}
use Rattle.std.proofs.lemmas.List.{length-map}
use Rattle.tce_space.specs.SpaceEntries.{entry_number}
use Rattle.tce_space.specs.Space.{tiling_of}
use Rattle.tce_space.proofs.Declarations.{none_of}
use Rattle.tce_grammar.specs.Code.{names}
use Rattle.tce_spec.specs.Declarations.{Declarations}
use Rattle.tce_spec.specs.DeclarationsCode.{tensor_of, declarations_of}
use Rattle.tce_spec.specs.DeclarationLines.{numbers_of_ranges}
use Rattle.tce_spec.specs.declared.declarations.Tensor.{Tensor}
use Rattle.tce_spec.proofs.Keeping.{Faultless, faultless, tensor_is, kept_with_tensor}
use Rattle.tce_spec.proofs.KeptDeclarations.{tensor_number_is}
use Rattle.tce_spec.proofs.declarations.Declarations.with_tensor.Goals as goal

-- the line has no fault, and this is its tensor
record Declares (d : Declarations) (name : List ℕ) (ranges : List (List ℕ)) (t : Tensor) : Type 0 where
  fine : Faultless d name ranges
  has_ranges : t.ranges.items ≡ numbers_of_ranges d.space ranges
  has_shape : t.shape ≡ tiling_of d.space (numbers_of_ranges d.space ranges)

declares : (c : goal.After-tensors-1) → Declares (declarations_of c.self.inside.space c.self.inside.tensors.entries) c.args.name.now (names c.args.ranges.now) c.in-Ok.tensor
declares c =
    subst (λ (d : Declarations). Declares d c.args.name.now (names c.args.ranges.now) c.in-Ok.tensor) (sym c.self.view_is)
    (record {
      fine = faultless c.args.line c.args.self c.args.name.now (names c.args.ranges.now) c.in-Ok.ensures.faultless;
      has_ranges = c.in-Ok.ensures.ranges;
      has_shape = c.in-Ok.ensures.shape;
    })

pub keep-requires : goal.keep-requires
keep-requires c =
    ap (entry_number c.self.inside.tensors.entries) c.in-Ok.ensures.name
    ∙ none_of _ (ap is_some (sym (tensor_number_is c.self.inside.tensors.entries c.args.name.now)) ∙ (declares c).fine.unnamed)

pub invariant_of-result : goal.invariant_of-result
invariant_of-result c =
    let told : Declares (declarations_of c.self.inside.space c.self.inside.tensors.entries) c.args.name.now (names c.args.ranges.now) c.in-Ok.tensor =
    subst (λ (d : Declarations). Declares d c.args.name.now (names c.args.ranges.now) c.in-Ok.tensor) (sym c.self.view_is)
    (record {
      fine = faultless c.args.line c.args.self c.args.name.now (names c.args.ranges.now) c.in-Ok.ensures.faultless;
      has_ranges = c.in-Ok.ensures.ranges;
      has_shape = c.in-Ok.ensures.shape;
    }) in
    kept_with_tensor c.self.inside.space c.self.inside.tensors.entries c.keep.new.tensors.entries c.in-Ok.tensor c.self.invariant c.in-Ok-keep.ensures.kept c.in-Ok-keep.ensures.apart
    (omega (arith, told.fine.place, length-map c.self.inside.tensors.entries tensor_of))
    (tensor_is (declarations_of c.self.inside.space c.self.inside.tensors.entries) c.args.name.now (names c.args.ranges.now) c.in-Ok.tensor told.fine c.requires.name c.in-Ok.ensures.name told.has_ranges)
    (told.has_shape ∙ ap (tiling_of c.self.inside.space) (sym told.has_ranges))
