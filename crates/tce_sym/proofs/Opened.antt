-- What an answer to opening a file of stored elements rests on.
use Rattle.std.proofs.Common.{◌≡◌, ◌≢◌, ◌∙◌, ℕ, ◌+◌, ◌<◌, ◌≤◌, List, [], length, take, Option, Some, None, Ok, Err, unwrap_or, sym, ap, subst, inl, inr, arith}
use Rattle.std.specs.Option.{IsSomeAnd, option_map}
use Rattle.tce_array.proofs.Answered.{is_as_long}
use Rattle.tce_sym.specs.declared.symmetry.Symmetry.{Symmetry}
use Rattle.tce_sym.specs.declared.fault.SymFault.TheVariants.{NoFile, BadLength, BadHeader}
use Rattle.tce_sym.specs.Storage.{IsHead, IsStored, stored_len}
use Rattle.tce_sym.specs.Faults.{IsFault, IsWrongAt}
use Rattle.tce_sym.specs.Told.{IsDiskFault}

pub symmetry_is_no_disk_fault : (s : Symmetry) → IsDiskFault (Ok s) → ⊥
symmetry_is_no_disk_fault s e = cc

pub no_file_is_no_disk_fault : IsDiskFault (Err NoFile) → ⊥
no_file_is_no_disk_fault e = cc

pub length_is_no_disk_fault : (len : ℕ) → IsDiskFault (Err (BadLength len)) → ⊥
length_is_no_disk_fault len e = cc

pub header_is_no_disk_fault : (place : ℕ) → IsDiskFault (Err (BadHeader place)) → ⊥
header_is_no_disk_fault place e = cc

-- a length was told that is below that of a head
pub is_short : (extents : List ℕ) (found : Option (List ℕ)) (len : ℕ) → Some len ≡ option_map length found → len < 32 → IsFault extents found (BadLength len)
is_short extents None len e short = cc
is_short extents (Some bytes) len e short =
    let same = is_as_long (Some bytes) len e in
    (same, inl (omega (arith, same, short)))

-- or that is not, so that there is a head
pub has_head : (found : Option (List ℕ)) (len n : ℕ) → n ≡ 32 → Some len ≡ option_map length found → 32 ≤ len → IsSomeAnd found (λ bytes. 0 + n ≤ length bytes)
has_head None len n all e long = cc
has_head (Some bytes) len n all e long = omega (arith, is_as_long (Some bytes) len e, all, long)

-- which was read
module _ (extents read : List ℕ) (len n : ℕ) (all : n ≡ 32) (long : 32 ≤ len) where
  long_enough : (bytes : List ℕ) → length bytes ≡ len → 32 ≤ length bytes
  long_enough bytes same = omega (arith, same, long)

  begins : (bytes : List ℕ) → read ≡ take n bytes → read ≡ take 32 bytes
  begins bytes is = is ∙ ap (λ k. take k bytes) all

  pub has_wrong_head : (found : Option (List ℕ)) (place : ℕ) → Some len ≡ option_map length found → read ≡ take n (unwrap_or found []) → IsWrongAt extents read place → IsFault extents found (BadHeader place)
  has_wrong_head None place e is wrong = cc
  has_wrong_head (Some bytes) place e is wrong =
      (long_enough bytes (is_as_long (Some bytes) len e), subst (λ (head : List ℕ). IsWrongAt extents head place) (begins bytes is) wrong)

  pub is_stored : (found : Option (List ℕ)) (s : Symmetry) → Some len ≡ option_map length found → read ≡ take n (unwrap_or found []) → IsHead extents s read → len ≡ stored_len extents s
      → IsSomeAnd found (λ bytes. IsStored extents s bytes)
  is_stored None s e is head right = cc
  is_stored (Some bytes) s e is head right = record {
    head = subst (λ (xs : List ℕ). IsHead extents s xs) (begins bytes is) head;
    whole = is_as_long (Some bytes) len e ∙ right;
  }

  pub has_other_length : (found : Option (List ℕ)) (s : Symmetry) → Some len ≡ option_map length found → read ≡ take n (unwrap_or found []) → IsHead extents s read → len ≢ stored_len extents s
      → IsFault extents found (BadLength len)
  has_other_length None s e is head wrong = cc
  has_other_length (Some bytes) s e is head wrong =
      let same = is_as_long (Some bytes) len e in (
        same,
        inr (s, record { head = subst (λ (xs : List ℕ). IsHead extents s xs) (begins bytes is) head; long = long_enough bytes same; other = λ right. wrong (sym same ∙ right) }),
      )
