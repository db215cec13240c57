-- Marks of parts, one part more.
use Rattle.std.proofs.Common.{◌≡◌, ℕ, ◌+◌, ◌<◌, ◌%◌, ◌∙◌, sym, subst, inl, inr, List, length, get_or}
use Rattle.std.specs.Prelude.{IsTrue}
use Rattle.std.specs.List.{AllWithin, Any}
use Rattle.std.proofs.lemmas.Bool.{cases_eq}
use Rattle.std.proofs.lemmas.List.Elements.{AllWithin-more, at_read}
use Rattle.tce_space.specs.IndexSet.{has}

-- the members of a set, and one more
pub record HasOneMore (old new mark : ℕ) : Type 0 where
  pub member : IsTrue (has new mark)
  pub others : (i : ℕ) → (i ≡ mark → ⊥) → has new i ≡ has old i

has_still : (old new mark i : ℕ) → HasOneMore old new mark → IsTrue (has old i) → IsTrue (has new i)
has_still old new mark i more h = elim (cases_eq i mark) [
  | inl same ↦ subst (λ k. IsTrue (has new k)) (sym same) more.member
  | inr other ↦ more.others i other ∙ h
]

pub each_further : (parts : List ℕ) (k part old new mark : ℕ) → k < length parts → part ≡ get_or parts k part → mark ≡ part % 23 → HasOneMore old new mark
    → AllWithin (λ p. IsTrue (has old (p % 23))) parts 0 k → AllWithin (λ p. IsTrue (has new (p % 23))) parts 0 (k + 1)
each_further parts k part old new mark low is named more each =
    AllWithin-more (λ p. IsTrue (has new (p % 23))) parts 0 k (λ m d from before. has_still old new mark (get_or parts m d % 23) more (each m d from before))
    (at_read parts (λ p. IsTrue (has new (p % 23))) k part low is (subst (λ m. IsTrue (has new m)) named more.member))

pub some_further : (parts : List ℕ) (k part old new mark : ℕ) → k < length parts → part ≡ get_or parts k part → mark ≡ part % 23 → HasOneMore old new mark
    → ((m : ℕ) → IsTrue (has old m) → Any (λ p. p % 23 ≡ m) parts) → (m : ℕ) → IsTrue (has new m) → Any (λ p. p % 23 ≡ m) parts
some_further parts k part old new mark low is named more some m h = elim (cases_eq m mark) [
  | inl same ↦ (k, part, low, sym is, sym named ∙ sym same)
  | inr other ↦ some m (sym (more.others m other) ∙ h)
]
