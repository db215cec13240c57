use Rattle.std.proofs.Common.{List, ℕ, ◌++◌, ◌∙◌, ap, arith}
use Rattle.std.specs.Prelude.{codes}
use Rattle.std.specs.Fmt.{decimal}
use Rattle.tce_spec.proofs.PieceParts.{name_room}
use Rattle.tce_spec.proofs.sources.array_name.Goals as goal

pub push_str-requires-2 : goal.push_str-requires-2
push_str-requires-2 c = (
  omega arith,
  name_room c.push_str.new.self.bytes c.as_str.result.now c.args.v c.requires
      (c.push_str.ensures.bytes ∙ ap (λ (bs : List ℕ). bs ++ codes "spill-") c.new-name.ensures)
      (c.as_str.ensures.value ∙ c.decimal_text.ensures.bytes ∙ ap decimal c.from.ensures),
)
