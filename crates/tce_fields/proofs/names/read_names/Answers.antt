use Rattle.std.proofs.Common.{◌≡◌, sym, ◌∙◌, ap, Some, ◌↔◌, List, ℕ, subst}
use Rattle.std.specs.Borrow.{Bor}
use Rattle.std.specs.List.{list_all}
use Rattle.std.proofs.lemmas.List.Folds.{list_all-map}
use Rattle.tce_space.specs.Name.{is_name}
use Rattle.tce_space.proofs.Names.{same_bytes}
use Rattle.tce_fields.specs.Fields.{AreListed}
use Rattle.tce_fields.specs.Reading.{texts}
use Rattle.tce_fields.proofs.Listing.{none_listed, names_listed, no_parts, no_names, other_bytes}
use Rattle.tce_fields.proofs.names.read_names.Goals as goal
use Rattle.tce_fields.proofs.names.read_names.Goals.{in_default-via-in-Some+else-are_names, in_default-via-in_default}

all_names : (found slice : List (Bor (List ℕ))) → slice ≡ found → list_all is_name (texts found) ≡ list_all (λ (name : Bor (List ℕ)). is_name name.now) slice
all_names found slice is = list_all-map is_name (λ (name : Bor (List ℕ)). name.now) found ∙ ap (list_all (λ (name : Bor (List ℕ)). is_name name.now)) (sym is)

pub returns-then-is_none : goal.returns-then-is_none
returns-then-is_none g c =
    let none = none_listed g.row.N c.args.text.now (same_bytes _ _ (sym c.is_none.ensures ∙ c.if-is_none.true)) in
    λ value. subst (λ (items : List (Bor (List ℕ))). (Some (texts items) ≡ Some value) ↔ AreListed g.row.N c.args.text.now value) (sym c.new.ensures) (none value)

pub returns-in-Some : goal.returns-in-Some
returns-in-Some g c =
    names_listed g.row.N c.args.text.now (texts c.in-Some.names.items) (other_bytes _ _ (sym c.is_none.ensures ∙ c.if-is_none.false)) c.in-Some.ensures
    (all_names c.in-Some.names.items c.as_slice.result.now c.as_slice.ensures.value ∙ sym c.are_names.ensures ∙ c.if-are_names.true)

pub returns-in_default : goal.returns-in_default
returns-in_default g c = elim c.in_default.branch [
  | in_default-via-in-Some+else-are_names w ↦
      no_names g.row.N c.args.text.now (texts w.in-Some.names.items) (other_bytes _ _ (sym c.is_none.ensures ∙ c.if-is_none.false)) w.in-Some.ensures
      (all_names w.in-Some.names.items w.as_slice.result.now w.as_slice.ensures.value ∙ sym w.are_names.ensures ∙ w.if-are_names.false)
  | in_default-via-in_default w ↦ no_parts g.row.N c.args.text.now (other_bytes _ _ (sym c.is_none.ensures ∙ c.if-is_none.false)) w.in_default.ensures
]
