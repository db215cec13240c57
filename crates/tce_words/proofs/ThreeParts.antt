-- Words that are split into the part before a run, the run, and the part behind it.
use Rattle.std.proofs.Common.{◌≡◌, ℕ, ◌+◌, ◌≤◌, List, ◌++◌, length, slice_range, sym, ap, ◌∙◌, arith}
use Rattle.tce_words.specs.Rows.{row_of}
use Rattle.tce_words.specs.Run.{with_part}
use Rattle.tce_words.proofs.RowSteps.{middle_is}
use Rattle.tce_words.proofs.RunSteps.{length-part, part_replaced}

-- the lengths of the parts
pub begins_within : (len out n : ℕ) → out + n ≤ len → out ≤ len
begins_within len out n room = omega arith

pub ends_within : (len rest out n : ℕ) → rest + out ≡ len → out + n ≤ len → n ≤ rest
ends_within len rest out n split room = omega arith

pub reaches_back : (len rest back out n at : ℕ) → rest + out ≡ len → back + n ≡ rest → at + n ≤ len → at + n ≤ out + n + back
reaches_back len rest back out n at split again room = omega arith

module _ (words front rest target back : List ℕ) (out n : ℕ) (split : words ≡ front ++ rest) (again : rest ≡ target ++ back) (before : length front ≡ out) (long : length target ≡ n) where
  whole : words ≡ front ++ (target ++ back)
  whole = split ∙ ap (λ xs. front ++ xs) again

  pub target_is : out + n ≤ length words → target ≡ row_of words out n
  target_is room = middle_is words front target back out n whole before long room

  pub target_replaced : (new result : List ℕ) → length new ≡ length target → new ≡ result → front ++ (new ++ back) ≡ with_part words out result
  target_replaced new result same is = part_replaced words front target back new out whole before same ∙ ap (with_part words out) is

  pub part_is : (at : ℕ) (part : List ℕ) → ((middle : List ℕ) → length middle ≡ n → part ≡ slice_range (front ++ (middle ++ back)) at (at + n)) → part ≡ row_of words at n
  part_is at part found = found target long ∙ ap (λ xs. slice_range xs at (at + n)) (sym whole)

  pub part_as_long : (at : ℕ) (part : List ℕ) → ((middle : List ℕ) → length middle ≡ n → part ≡ slice_range (front ++ (middle ++ back)) at (at + n)) → at + n ≤ length words
      → length part ≡ length target
  part_as_long at part found room = ap length (part_is at part found) ∙ length-part words at n room ∙ sym long

  pub stretch_is : (at len : ℕ) (part : List ℕ) → ((middle : List ℕ) → length middle ≡ n → part ≡ slice_range (front ++ (middle ++ back)) at (at + len)) → part ≡ row_of words at len
  stretch_is at len part found = found target long ∙ ap (λ xs. slice_range xs at (at + len)) (sym whole)

  pub stretch_as_long : (at len : ℕ) (part : List ℕ) → ((middle : List ℕ) → length middle ≡ n → part ≡ slice_range (front ++ (middle ++ back)) at (at + len)) → at + len ≤ length words
      → length part ≡ len
  stretch_as_long at len part found room = ap length (stretch_is at len part found) ∙ length-part words at len room
