use Rattle.std.proofs.Common.{◌∙◌, List, ℕ, inl, inr, ap, sym, subst}
use Rattle.std.specs.HashMap.{get_by}
use Rattle.std.specs.Map.{lookup}
use Rattle.std.specs.Str.{bytes_eq}
use Rattle.std.specs.String.{string_bytes}
use Rattle.tce_system.specs.Kept.{KeepsOthers}
use Rattle.tce_system.proofs.Tables.{others_kept, either_way}
use Rattle.tce_system.proofs.kept.KeptFiles.keep.Goals as goal

pub returns-in-Ok-clause-kept : goal.returns-in-Ok-clause-kept
returns-in-Ok-clause-kept c =
    elim (either_way c.insert.result c.insert.ensures.updates c.insert.ensures.err) [
      | inl updated ↦ inl (ap (λ bytes. get_by (λ k. bytes_eq bytes (string_bytes k)) c.insert.new.self) (sym c.in-Ok.ensures.ok) ∙ updated.1)
      | inr unchanged ↦ inr unchanged
    ]

pub returns-in-Ok-clause-others : goal.returns-in-Ok-clause-others
returns-in-Ok-clause-others c =
    elim (either_way c.insert.result c.insert.ensures.updates c.insert.ensures.err) [
      | inl updated ↦
          let P : List ℕ → Type 0 = λ bytes. KeepsOthers c.args.self.now.files c.insert.new.self bytes in
          subst P c.in-Ok.ensures.ok (others_kept (string_bytes c.in-Ok.name) c.args.self.now.files c.insert.new.self _ updated)
      | inr unchanged ↦ λ other differs. ap (lookup (λ k. bytes_eq other (string_bytes k))) unchanged
    ]
