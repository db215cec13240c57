-- A change of a table under one name leaves the others.
use Rattle.std.proofs.Common.{◌≡◌, ◌∙◌, ◌⊎◌, refl, sym, List, ℕ, Option, Result, Ok, Err, OnOk, OnErr, true, false, cond, inl, inr}
use Rattle.std.proofs.lemmas.Map.Text.{hash_map_updates_text}
use Rattle.std.proofs.lemmas.Slice.Eq.{bytes_eq-Decides}
use Rattle.std.specs.HashMap.{HashMap, UpdatesBy, get_by_text}
use Rattle.std.specs.Str.{bytes_eq}
use Rattle.std.specs.String.{string_bytes, string_eq}
use Rattle.std.specs.declared.string.String.{String}
use Rattle.tce_system.specs.Kept.{KeepsOthers}

pub others_kept : {X Y S : Type 0} (name : List ℕ) (old new : HashMap (String Y) X S) (value : Option X) → UpdatesBy string_eq (λ k. bytes_eq name (string_bytes k)) old new value → KeepsOthers old new name
others_kept name old new value updates other differs =
    hash_map_updates_text name old new value updates other
    ∙ elim (bytes_eq name other) as (λ b. bytes_eq name other ≡ b → cond b value (get_by_text old other) ≡ get_by_text old other) [
      | true ↦ λ same. absurd (differs (sym ((bytes_eq-Decides name other).0 same)))
      | false ↦ λ _. refl
    ] refl

-- one of two outcomes
pub either_way : {T E P Q : Type 0} (result : Result T E) → OnOk result P → OnErr result Q → P ⊎ Q
either_way (Ok x) p q = inl p
either_way (Err e) p q = inr q
