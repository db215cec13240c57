use Rattle.std.proofs.Common.{◌≡◌, ◌==◌, ◌||◌, refl, ap, ◌∙◌, ℕ, List, [], ◌∷◌}
use Rattle.std.specs.List.{list_any}
use Rattle.std.specs.Borrow.{Bor}
use Rattle.tce_fields.specs.Reading.{texts}
use Rattle.tce_einsum.proofs.missized.is_in_any.Goals as goal

any_of_texts : (label : ℕ) (os : List (Bor (List ℕ)))
    → list_any (λ (o : Bor (List ℕ)). list_any (λ b. b == label) o.now) os ≡ list_any (list_any (λ b. b == label)) (texts os)
any_of_texts label [] = refl
any_of_texts label (o ∷ os) = ap (λ d. list_any (λ b. b == label) o.now || d) (any_of_texts label os)

pub returns : goal.returns
returns c = c.any_has.ensures ∙ any_of_texts c.args.label c.args.operands.now
