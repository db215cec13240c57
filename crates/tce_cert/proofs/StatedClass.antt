-- What the text of a class states.
use Rattle.std.proofs.Common.{◌≡◌, ℕ, List, Option, Some, None, refl, ap, sym, ◌∙◌, subst, arith}
use Rattle.std.specs.Borrow.{Bor}
use Rattle.std.proofs.lemmas.List.{length-map}
use Rattle.std.proofs.lemmas.Option.{none-some, same_Some}
use Rattle.tce_space.specs.IndexSet.{members, IsWithin}
use Rattle.tce_space.specs.Space.{IndexSpace, IsSpace, IsDeclared, index_at}
use Rattle.tce_fields.specs.Fields.{AreListed, listed}
use Rattle.tce_fields.specs.Names.{IsSetNamed, names_of}
use Rattle.tce_fields.specs.Reading.{GivesExactly, texts}
use Rattle.tce_report.specs.NodeLine.{set_text}
use Rattle.tce_report.proofs.Reading.{members_few, names_named}
use Rattle.tce_cert.specs.Forms.{IsPart, StatesClass}
use Rattle.tce_cert.proofs.Sets.{members_declared}

pub set_declared : (space : IndexSpace) (dims set : ℕ) → IsDeclared space dims → IsWithin set dims → IsDeclared space set
set_declared space dims set declared within i member = declared i (within i member)

-- the text of a class lists the names of its members
pub class_listed : (space : IndexSpace) (dims : ℕ) (text : List ℕ) (class : ℕ) → IsSpace space → IsDeclared space dims → StatesClass space dims text class
    → AreListed 24 text (names_of space (members class))
unfolding set_text
class_listed space dims text class is declared s = record {
  few = omega (arith, members_few class, length-map (members class) (λ i. (index_at space i).name));
  named = names_named space (members class) is (members_declared space class (set_declared space dims class declared s.part.within));
  text_is = s.text_is;
}

pub class_named : (space : IndexSpace) (dims : ℕ) (text : List ℕ) (class : ℕ) → IsDeclared space dims → StatesClass space dims text class
    → IsSetNamed space (names_of space (members class)) class
class_named space dims text class declared s = record {
  is_set = s.is_set;
  named = record { declared = members_declared space class (set_declared space dims class declared s.part.within); names_are = refl };
}

pub class_unlisted : (space : IndexSpace) (dims : ℕ) (text : List ℕ) → IsSpace space → IsDeclared space dims → GivesExactly None (AreListed 24 text) → GivesExactly None (StatesClass space dims text)
class_unlisted space dims text is declared refused v = (
  (λ e. absurd (none-some v e)),
  (λ s. absurd (none-some (names_of space (members v)) ((refused (names_of space (members v))).1 (class_listed space dims text v is declared s)))),
)

names_same : (space : IndexSpace) (dims : ℕ) (text : List ℕ) (names : List (List ℕ)) (v : ℕ) → IsSpace space → IsDeclared space dims → GivesExactly (Some names) (AreListed 24 text)
    → StatesClass space dims text v → names ≡ names_of space (members v)
names_same space dims text names v is declared given s =
    same_Some names (names_of space (members v)) ((given (names_of space (members v))).1 (class_listed space dims text v is declared s))

set_same : (space : IndexSpace) (dims : ℕ) (text : List ℕ) (names : List (List ℕ)) (v : ℕ) → IsSpace space → IsDeclared space dims → GivesExactly (Some names) (AreListed 24 text)
    → StatesClass space dims text v → IsSetNamed space names v
set_same space dims text names v is declared given s =
    subst (λ ns. IsSetNamed space ns v) (sym (names_same space dims text names v is declared given s)) (class_named space dims text v declared s)

pub class_unnamed : (space : IndexSpace) (dims : ℕ) (text : List ℕ) (names : List (List ℕ)) → IsSpace space → IsDeclared space dims → GivesExactly (Some names) (AreListed 24 text)
    → GivesExactly None (IsSetNamed space names) → GivesExactly None (StatesClass space dims text)
class_unnamed space dims text names is declared given refused v = (
  (λ e. absurd (none-some v e)),
  (λ s. absurd (none-some v ((refused v).1 (set_same space dims text names v is declared given s)))),
)

pub class_elsewhere : (space : IndexSpace) (dims : ℕ) (text : List ℕ) (names : List (List ℕ)) (class : ℕ) → IsSpace space → IsDeclared space dims → GivesExactly (Some names) (AreListed 24 text)
    → GivesExactly (Some class) (IsSetNamed space names) → (IsPart class dims → ⊥) → GivesExactly None (StatesClass space dims text)
class_elsewhere space dims text names class is declared given found other v = (
  (λ e. absurd (none-some v e)),
  (λ s. absurd (other (subst (λ c. IsPart c dims) (sym (same_Some class v ((found v).1 (set_same space dims text names v is declared given s)))) s.part))),
)

pub class_given : (space : IndexSpace) (dims : ℕ) (text : List ℕ) (names : List (List ℕ)) (class : ℕ) → IsSpace space → IsDeclared space dims → GivesExactly (Some names) (AreListed 24 text)
    → GivesExactly (Some class) (IsSetNamed space names) → IsPart class dims → GivesExactly (Some class) (StatesClass space dims text)
unfolding set_text
class_given space dims text names class is declared given found part v = (
  (λ e. subst (StatesClass space dims text) (same_Some class v e) (record {
    is_set = ((found class).0 refl).is_set;
    part = part;
    text_is = ((given names).0 refl).text_is ∙ ap listed ((found class).0 refl).named.names_are;
  })),
  (λ s. (found v).1 (set_same space dims text names v is declared given s)),
)

pub named_moved : (space : IndexSpace) (slice found : List (Bor (List ℕ))) (r : Option ℕ) → slice ≡ found → GivesExactly r (IsSetNamed space (texts slice)) → GivesExactly r (IsSetNamed space (texts found))
named_moved space slice found r is given = subst (λ ns. GivesExactly r (IsSetNamed space (texts ns))) is given
