-- What stands in a list after a write over a part of it.
use Rattle.std.proofs.Common.{◌≡◌, ℕ, ◌+◌, ◌≤◌, List, ◌++◌, length, take, drop, arith, length-append, ◌∙◌, ◌<◌, sym, ap, slice_index, ◌⊎◌, ◌-◌, inl, inr}
use Rattle.std.proofs.lemmas.List.{length-take-le, length-drop, get_or_append_left, get_or-append-add, get_or-take, get_or-drop, get_or-append_right}
use Rattle.tce_outside.specs.Files.{overwritten}

pub length-overwritten : (old : List ℕ) (at : ℕ) (bs : List ℕ) → at + length bs ≤ length old → length (overwritten old at bs) ≡ length old
length-overwritten old at bs h =
    let before = length-take-le at old (omega arith) in
    let behind = length-drop (at + length bs) old in
    let both = length-append (take at old ++ bs) (drop (at + length bs) old) in
    let first = length-append (take at old) bs in
    omega arith

pub get_or-overwritten : (old : List ℕ) (at : ℕ) (bs : List ℕ) (i : ℕ) → at + length bs ≤ length old → i < length bs → slice_index (overwritten old at bs) (at + i) ≡ slice_index bs i
get_or-overwritten old at bs i h l =
    let before : length (take at old) ≡ at = length-take-le at old (omega arith) in
    let first = length-append (take at old) bs in
    let place : length (take at old) + i ≡ at + i = omega arith in
    get_or_append_left (take at old ++ bs) (drop (at + length bs) old) 0 (at + i) (omega arith)
    ∙ ap (slice_index (take at old ++ bs)) (sym place)
    ∙ get_or-append-add (take at old) bs i 0

pub get_or-overwritten_other : (old : List ℕ) (at : ℕ) (bs : List ℕ) (j : ℕ) → at + length bs ≤ length old → (j < at) ⊎ (at + length bs ≤ j) → slice_index (overwritten old at bs) j ≡ slice_index old j
get_or-overwritten_other old at bs j h out =
    let before : length (take at old) ≡ at = length-take-le at old (omega arith) in
    let first : length (take at old ++ bs) ≡ at + length bs = omega (arith, length-append (take at old) bs) in
    elim out [
      | inl low ↦
          get_or_append_left (take at old ++ bs) (drop (at + length bs) old) 0 j (omega arith)
          ∙ get_or_append_left (take at old) bs 0 j (omega arith)
          ∙ get_or-take at old j 0 low
      | inr high ↦
          let there : at + length bs + (j - (at + length bs)) ≡ j = omega arith in
          get_or-append_right (take at old ++ bs) (drop (at + length bs) old) (at + length bs) j 0 first high
          ∙ get_or-drop (at + length bs) old (j - (at + length bs)) 0
          ∙ ap (slice_index old) there
    ]
