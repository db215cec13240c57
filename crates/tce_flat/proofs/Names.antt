-- The names of a command's files are short, and differ.
use Rattle.std.proofs.Common.{◌≡◌, refl, ap, subst, ◌∙◌, ℕ, ◌-◌, ◌≤◌, List, [], ◌∷◌, ◌++◌, length, length-append, drop, codes, arith, IsTrue, nat_eq}
use borrow.Author.Tests.{leb-true}
use Rattle.std.proofs.lemmas.Bool.{and_parts, false≢true}
use Rattle.std.specs.List.{ends_with}
use Rattle.std.specs.Cmp.Lexicographic.{pointwise}
use Rattle.tce_space.specs.Name.{is_name, starts_with_letter}
use Rattle.tce_command.specs.Command.{NamesFlat, NamesTensor, NamesSpec}
use Rattle.tce_flat.specs.Tensors.{array_file}

pub short_tensor : (w : List ℕ) → NamesTensor w → length w ≤ 16
unfolding is_name
short_tensor w h = leb-true _ _ (and_parts _ _ (and_parts _ _ (and_parts _ _ h).0).0).1

begins : (w : List ℕ) → NamesTensor w → IsTrue (starts_with_letter w)
unfolding is_name
begins w h = (and_parts _ _ (and_parts _ _ (and_parts _ _ h).0).0).0

pub short_spec : (w : List ℕ) → NamesSpec w → length w ≤ 200
short_spec w h = leb-true _ _ (and_parts _ _ (and_parts _ _ (and_parts _ _ h).0).0).0

pub short_flat : (w : List ℕ) → NamesFlat w → length w ≤ 200
short_flat w h = leb-true _ _ (and_parts _ _ (and_parts _ _ (and_parts _ _ h).0).0).0

ends_flat : (w : List ℕ) → NamesFlat w → IsTrue (ends_with nat_eq w (codes ".flat"))
ends_flat w h = (and_parts _ _ (and_parts _ _ h).0).1

-- the last byte of a text stands before what is behind it
last_byte : List ℕ → ℕ → ℕ
last_byte [] b = b
last_byte (c ∷ t) b = last_byte t c

from_last : (b : ℕ) (t ys : List ℕ) → drop (length t) (b ∷ (t ++ ys)) ≡ last_byte t b ∷ ys
unfolding last_byte
from_last b [] ys = refl
from_last b (c ∷ t) ys = from_last c t ys

-- a flat file is no array file
apart_of : (w : List ℕ) → IsTrue (starts_with_letter w) → IsTrue (ends_with nat_eq (array_file w) (codes ".flat")) → ⊥
apart_of [] letter ends = absurd (false≢true letter)
apart_of (b ∷ t) letter ends =
    let len : length (b ∷ (t ++ codes ".tca")) - 5 ≡ length t = omega (arith, length-append t (codes ".tca")) in
    let from : drop (length (b ∷ (t ++ codes ".tca")) - 5) (b ∷ (t ++ codes ".tca")) ≡ last_byte t b ∷ codes ".tca" = ap (λ n. drop n (b ∷ (t ++ codes ".tca"))) len ∙ from_last b t (codes ".tca") in
    let same = subst (λ ys. IsTrue (pointwise nat_eq (codes ".flat") ys)) from ends in
    absurd (false≢true (and_parts _ _ same).1)

pub flat_apart : (tensor flat : List ℕ) → NamesTensor tensor → NamesFlat flat → flat ≡ array_file tensor → ⊥
flat_apart tensor flat named flat_named e = apart_of tensor (begins tensor named) (subst (λ w. IsTrue (ends_with nat_eq w (codes ".flat"))) e (ends_flat flat flat_named))
