-- A file has one right answer.
use Rattle.std.proofs.Common.{◌≡◌, ◌≢◌, ◌∙◌, ℕ, ◌<◌, ◌≤◌, Bool, true, false, List, length, take, Option, Some, None, Result, Ok, Err, refl, sym, ap, inl, inr, arith, if◌then◌else◌, get_or, subst}
use Rattle.tce_array.proofs.OneAnswer.{first_alone, not_same}
use Rattle.tce_sym.specs.declared.symmetry.Symmetry.{Symmetry}
use Rattle.tce_sym.specs.declared.fault.SymFault.{SymFault}
use Rattle.tce_sym.specs.declared.fault.SymFault.TheVariants.{NoFile, BadLength, BadHeader, Disk}
use Rattle.tce_sym.specs.Storage.{AreRight, IsHead, IsStored, number_at, stored_len}
use Rattle.tce_sym.specs.Faults.{IsWrongAt, IsWrongLength, IsAnswer, IsOnlyAnswer}

-- a head tells one symmetry
sign_alone : (a b : Bool) (n : ℕ) → n ≡ (if a then 1 else 0) → n ≡ (if b then 1 else 0) → a ≡ b
sign_alone true true n h k = refl
sign_alone true false n h k = absurd (omega arith)
sign_alone false true n h k = absurd (omega arith)
sign_alone false false n h k = refl

abbrev pub made_of : (p q : ℕ) (b : Bool) → Symmetry
made_of p q b = record { first = p; second = q; negated = b }

pub head_alone : (extents head : List ℕ) (s t : Symmetry) → IsHead extents s head → IsHead extents t head → s ≡ t
head_alone extents head s t h k =
    let first : s.first ≡ t.first = sym h.first ∙ k.first in
    let second : s.second ≡ t.second = sym h.second ∙ k.second in
    let sign : s.negated ≡ t.negated = sign_alone s.negated t.negated (number_at head 24) h.sign k.sign in
    ap (λ p. made_of p s.second s.negated) first ∙ ap (λ q. made_of t.first q s.negated) second ∙ ap (λ b. made_of t.first t.second b) sign

-- a head that tells a symmetry is not wrong
right_again : (extents head : List ℕ) (s : Symmetry) → IsHead extents s head → AreRight extents (made_of (number_at head 8) (number_at head 16) false)
right_again extents head s h =
    let p : number_at head 8 ≡ s.first = h.first in
    let q : number_at head 16 ≡ s.second = h.second in
    again s.first s.second (number_at head 8) (number_at head 16) p q h.right.ordered h.right.inside h.right.same
  where
    again : (p q a b : ℕ) → a ≡ p → b ≡ q → p < q → q < length extents → get_or extents p 0 ≡ get_or extents q 0 → AreRight extents (made_of a b false)
    again p q a b e f ordered inside same =
        subst (λ (x : ℕ). AreRight extents (made_of x b false)) (sym e) (subst (λ (y : ℕ). AreRight extents (made_of p y false)) (sym f) (record { ordered = ordered; inside = inside; same = same }))

not_wrong : (extents head : List ℕ) (s : Symmetry) (p : ℕ) → IsHead extents s head → IsWrongAt extents head p → ⊥
not_wrong extents head s p h (inl differ) = not_same _ _ p differ h.begins
not_wrong extents head s p h (inr (inl positions)) = positions.1.wrong (right_again extents head s h)
not_wrong extents head s p h (inr (inr sign)) = small s.negated (number_at head 24) h.sign sign.1.wrong
  where
    small : (b : Bool) (n : ℕ) → n ≡ (if b then 1 else 0) → 1 < n → ⊥
    small true n e l = omega arith
    small false n e l = omega arith

-- a head is wrong at one place
wrong_alone : (extents head : List ℕ) (p q : ℕ) → IsWrongAt extents head p → IsWrongAt extents head q → p ≡ q
wrong_alone extents head p q (inl h) (inl k) = first_alone _ _ p q h k
wrong_alone extents head p q (inl h) (inr (inl k)) = absurd (not_same _ _ p h k.1.mark)
wrong_alone extents head p q (inl h) (inr (inr k)) = absurd (not_same _ _ p h k.1.mark)
wrong_alone extents head p q (inr (inl h)) (inl k) = absurd (not_same _ _ q k h.1.mark)
wrong_alone extents head p q (inr (inr h)) (inl k) = absurd (not_same _ _ q k h.1.mark)
wrong_alone extents head p q (inr (inl h)) (inr (inl k)) = h.0 ∙ sym k.0
wrong_alone extents head p q (inr (inr h)) (inr (inr k)) = h.0 ∙ sym k.0
wrong_alone extents head p q (inr (inl h)) (inr (inr k)) = absurd (h.1.wrong k.1.right)
wrong_alone extents head p q (inr (inr h)) (inr (inl k)) = absurd (k.1.wrong h.1.right)

-- a file of a right head and length has no fault
short_enough : (extents bytes : List ℕ) (s : Symmetry) → IsStored extents s bytes → 32 ≤ length bytes
short_enough extents bytes s h = omega (arith, h.whole)

length_right : (extents bytes : List ℕ) (s : Symmetry) → IsStored extents s bytes → IsWrongLength extents bytes → ⊥
length_right extents bytes s h (inl short) = omega (arith, short_enough extents bytes s h, short)
length_right extents bytes s h (inr other) =
    let same : s ≡ other.0 = head_alone extents (take 32 bytes) s other.0 h.head other.1.head in
    other.1.other (h.whole ∙ ap (stored_len extents) same)

length_and_head : (extents bytes : List ℕ) (p : ℕ) → 32 ≤ length bytes → IsWrongLength extents bytes → IsWrongAt extents (take 32 bytes) p → ⊥
length_and_head extents bytes p long (inl short) wrong = omega (arith, short)
length_and_head extents bytes p long (inr other) wrong = not_wrong extents (take 32 bytes) other.0 p other.1.head wrong

pub agree : (extents : List ℕ) (found : Option (List ℕ)) (x y : Result Symmetry SymFault) → IsAnswer extents found x → IsAnswer extents found y → x ≢ Err Disk → y ≢ Err Disk → x ≡ y
agree extents found x (Err Disk) h k n m = absurd (m refl)
agree extents found (Err Disk) y h k n m = absurd (n refl)
agree extents None (Ok s) y h k n m = absurd h
agree extents None x (Ok t) h k n m = absurd k
agree extents None (Err (BadLength a)) y h k n m = absurd h
agree extents None x (Err (BadLength b)) h k n m = absurd k
agree extents None (Err (BadHeader p)) y h k n m = absurd h
agree extents None x (Err (BadHeader q)) h k n m = absurd k
agree extents None (Err NoFile) (Err NoFile) h k n m = refl
agree extents (Some bytes) (Err NoFile) y h k n m = cc
agree extents (Some bytes) x (Err NoFile) h k n m = cc
agree extents (Some bytes) (Ok s) (Ok t) h k n m = ap Ok (head_alone extents (take 32 bytes) s t h.head k.head)
agree extents (Some bytes) (Ok s) (Err (BadLength b)) h k n m = absurd (length_right extents bytes s h k.1)
agree extents (Some bytes) (Ok s) (Err (BadHeader q)) h k n m = absurd (not_wrong extents (take 32 bytes) s q h.head k.1)
agree extents (Some bytes) (Err (BadLength a)) (Ok t) h k n m = absurd (length_right extents bytes t k h.1)
agree extents (Some bytes) (Err (BadLength a)) (Err (BadLength b)) h k n m = ap (λ i. Err (BadLength i)) (sym h.0 ∙ k.0)
agree extents (Some bytes) (Err (BadLength a)) (Err (BadHeader q)) h k n m = absurd (length_and_head extents bytes q k.0 h.1 k.1)
agree extents (Some bytes) (Err (BadHeader p)) (Ok t) h k n m = absurd (not_wrong extents (take 32 bytes) t p k.head h.1)
agree extents (Some bytes) (Err (BadHeader p)) (Err (BadLength b)) h k n m = absurd (length_and_head extents bytes p h.0 k.1 h.1)
agree extents (Some bytes) (Err (BadHeader p)) (Err (BadHeader q)) h k n m = ap (λ i. Err (BadHeader i)) (wrong_alone extents (take 32 bytes) p q h.1 k.1)

-- so no other answer is right
pub only_answer : (extents : List ℕ) (found : Option (List ℕ)) (result : Result Symmetry SymFault) → result ≢ Err Disk → IsAnswer extents found result → IsOnlyAnswer extents found result
only_answer extents found result n h answer k m = inl (agree extents found result answer h k n m)
