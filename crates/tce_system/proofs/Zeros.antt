-- What lies in holes stays 0.
use Rattle.std.proofs.Common.{◌≡◌, ◌∙◌, ◌⊎◌, ℕ, ◌+◌, ◌<◌, ◌≤◌, List, [], length, replicate, slice_index, Option, Some, None, unwrap_or, ap, sym, refl, arith}
use Rattle.std.proofs.lemmas.List.{get_or-replicate, length-replicate}
use Rattle.std.proofs.lemmas.Option.{none-some}
use Rattle.std.specs.Option.{ForSome, IsSomeAnd}
use Rattle.tce_outside.specs.Files.{Files, file, with_file, with_part, overwritten, HasPart, holding, written}
use Rattle.tce_outside.proofs.Overwrites.{length-overwritten, get_or-overwritten_other}
use Rattle.tce_outside.proofs.Files.{file-with_file}
use Rattle.tce_system.specs.declared.holes.Holes.{Holes}
use Rattle.tce_system.specs.Holes.{IsHole, AreZeros}

-- where no hole is known
pub none_zeros : (told : Option Files) (name : List ℕ) (h : Holes) → ((p : ℕ) → IsHole h p → ⊥) → AreZeros told name h
none_zeros told name h none = λ fs is bytes there p low hole. absurd (none p hole)

-- ---- a file that was made
pub made_zeros : (told told' : Option Files) (known name : List ℕ) (h : Holes) (n : ℕ) → told' ≡ holding name (replicate n 0) told → known ≡ name → AreZeros told' known h
made_zeros None told' known name h n e same = λ fs is. absurd (none-some fs (sym e ∙ is))
made_zeros (Some files) told' known name h n e same = λ fs is bytes there p low hole.
    let pair : Some (with_file files name (replicate n 0)) ≡ Some fs = sym e ∙ is in
    let whole : with_file files name (replicate n 0) ≡ fs = cc in
    let found : Some (replicate n 0) ≡ Some bytes = sym (file-with_file files name (replicate n 0)) ∙ ap (λ gs. file gs name) whole ∙ ap (file fs) (sym same) ∙ there in
    let is_bytes : replicate n 0 ≡ bytes = cc in
    let below : p < length {A = ℕ} (replicate n 0) = rw is_bytes low in
    ap (λ xs. slice_index xs p) (sym is_bytes) ∙ get_or-replicate n p 0 0 (simp length-replicate at below)

-- ---- a write

written_in : (files fs : Files) (known name : List ℕ) (at p : ℕ) (bytes now : List ℕ) (o : Option (List ℕ)) → file files name ≡ o → IsSomeAnd o (λ old. at + length bytes ≤ length old)
    → with_part files name at bytes ≡ fs → known ≡ name → file fs known ≡ Some now → (p < at) ⊎ (at + length bytes ≤ p)
    → ((old : List ℕ) → file files known ≡ Some old → p < length old → slice_index old p ≡ 0) → p < length now → slice_index now p ≡ 0
written_in files fs known name at p bytes now None e inside same names there out still low = absurd inside
written_in files fs known name at p bytes now (Some old) e inside same names there out still low =
    let made : file (with_part files name at bytes) name ≡ Some (overwritten old at bytes) =
    file-with_file files name (overwritten (unwrap_or (file files name) []) at bytes) ∙ ap (λ o. Some (overwritten (unwrap_or o []) at bytes)) e in
    let found : Some (overwritten old at bytes) ≡ Some now = sym made ∙ ap (λ gs. file gs name) same ∙ ap (file fs) (sym names) ∙ there in
    let is_now : overwritten old at bytes ≡ now = cc in
    let len : length now ≡ length old = ap length (sym is_now) ∙ length-overwritten old at bytes inside in
    ap (λ xs. slice_index xs p) (sym is_now) ∙ get_or-overwritten_other old at bytes p inside out ∙ still old (ap (file files) names ∙ e) (omega arith)

pub written_zeros : (told told' : Option Files) (known name : List ℕ) (h h' : Holes) (at : ℕ) (bytes : List ℕ) → AreZeros told known h
    → ((p : ℕ) → IsHole h' p → (known ≡ name) × IsHole h p × ((p < at) ⊎ (at + length bytes ≤ p)))
    → ForSome told (λ fs. HasPart fs name at (length bytes)) → told' ≡ written name at bytes told → AreZeros told' known h'
written_zeros None told' known name h h' at bytes still left has e = λ fs is. absurd (none-some fs (sym e ∙ is))
written_zeros (Some files) told' known name h h' at bytes still left has e = λ fs is now there p low hole.
    let l = left p hole in
    let pair : Some (with_part files name at bytes) ≡ Some fs = sym e ∙ is in
    let same : with_part files name at bytes ≡ fs = cc in
    written_in files fs known name at p bytes now (file files name) refl (has files refl) same l.0 there l.2 (λ old was below. still files refl old was p below l.1) low
