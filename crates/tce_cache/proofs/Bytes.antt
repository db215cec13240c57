-- Files whose numbers are bytes stay such files where words are written over a part of them.
use Rattle.std.proofs.Common.{ℕ, zero, suc, ◌+◌, ◌/◌, ◌^◌, ◌<◌, List, [], ◌∷◌, ◌++◌, length, take, drop, arith}
use Rattle.std.specs.Int.{byte_at, bytes_low_first}
use Rattle.std.proofs.Math.Nat.{mod-lt}
use Rattle.std.specs.List.{flat_map}
use Rattle.std.proofs.lemmas.List.{get_or-drop}
use Rattle.tce_base.specs.Word.{word_bytes}
use Rattle.tce_outside.specs.Files.{overwritten}
use Rattle.tce_array.specs.Files.{AreBytes}

none_are : AreBytes []
none_are zero = omega arith
none_are (suc i) = omega arith

pub joined_are : (xs ys : List ℕ) → AreBytes xs → AreBytes ys → AreBytes (xs ++ ys)
joined_are [] ys hx hy i = hy i
joined_are (x ∷ xs) ys hx hy zero = hx zero
joined_are (x ∷ xs) ys hx hy (suc i) = joined_are xs ys (λ j. hx (suc j)) hy i

front_are : (n : ℕ) (xs : List ℕ) → AreBytes xs → AreBytes (take n xs)
front_are zero xs h i = none_are i
front_are (suc n) [] h i = none_are i
front_are (suc n) (x ∷ xs) h zero = h zero
front_are (suc n) (x ∷ xs) h (suc i) = front_are n xs (λ j. h (suc j)) i

rest_are : (n : ℕ) (xs : List ℕ) → AreBytes xs → AreBytes (drop n xs)
rest_are n xs h i = omega (arith, get_or-drop n xs i 0, h (n + i))

pub byte_is : (j n : ℕ) → byte_at j n < 256
byte_is zero n = mod-lt n (omega arith)
byte_is (suc j) n = mod-lt (n / 256 ^ suc j) (omega arith)

pub low_first_are : (j w n : ℕ) → AreBytes (bytes_low_first j w n)
low_first_are j zero n i = none_are i
low_first_are j (suc w) n zero = byte_is j n
low_first_are j (suc w) n (suc i) = low_first_are (suc j) w n i

word_are : (w n : ℕ) → AreBytes (word_bytes w n)
unfolding word_bytes
word_are w n = low_first_are 0 w n

pub words_are : (w : ℕ) (ws : List ℕ) → AreBytes (flat_map (word_bytes w) ws)
words_are w [] = none_are
words_are w (x ∷ ws) = joined_are (word_bytes w x) (flat_map (word_bytes w) ws) (word_are w x) (words_are w ws)

pub overwritten_are : (old : List ℕ) (at : ℕ) (bytes : List ℕ) → AreBytes old → AreBytes bytes → AreBytes (overwritten old at bytes)
overwritten_are old at bytes h g =
    joined_are (take at old ++ bytes) (drop (at + length bytes) old) (joined_are (take at old) bytes (front_are at old h) g) (rest_are (at + length bytes) old h)
