use Rattle.std.proofs.Common.{Option, Some, None, refl, arith}
use Rattle.std.specs.Prelude.{IsSome, IfNone}
use Rattle.tce_search.proofs.LastLimit.{last_limit}
use Rattle.tce_search.proofs.plan.search.Goals as goal

some_where : {X : Type 0} (P : Type 0) (o : Option X) → IfNone o P → (P → ⊥) → IsSome o
some_where P None none never = absurd (never none)
some_where P (Some x) none never = refl

pub unwrap-requires : goal.unwrap-requires
unwrap-requires c =
    some_where _ c.in_ok-plan.plan c.in_ok-plan.ensures.none
    (λ below. last_limit c.args.space.now c.args.tree.now _ c.index_count-indexes.ensures.limits c.requires (omega arith) (omega arith) below)
