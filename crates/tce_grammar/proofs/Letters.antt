-- The bytes of a word are ASCII.
use Rattle.std.proofs.Common.{◌≡◌, ℕ, zero, suc, ◌≤◌, List, [], ◌∷◌, true, ◌&&◌, IsTrue, arith, nat_le}
use Rattle.std.specs.List.{list_all}
use Rattle.std.specs.Str.{IsAscii}
use Rattle.std.proofs.lemmas.Bool.{leb-true, and_parts}
use Rattle.tce_space.specs.Name.{is_word_byte}
use Rattle.tce_space.proofs.Names.{word_byte_below}

pub between : (low high b : ℕ) → (nat_le low b && nat_le b high) ≡ true → b ≤ high
between low high b is = leb-true b high (and_parts (nat_le low b) (nat_le b high) is).1

pub least : (low high b : ℕ) → (nat_le low b && nat_le b high) ≡ true → low ≤ b
least low high b is = leb-true low b (and_parts (nat_le low b) (nat_le b high) is).0

pub word_ascii : (w : List ℕ) → IsTrue (list_all is_word_byte w) → IsAscii w
word_ascii [] is i = omega arith
word_ascii (b ∷ bs) is zero = word_byte_below b (and_parts (is_word_byte b) (list_all is_word_byte bs) is).0
word_ascii (b ∷ bs) is (suc i) = word_ascii bs (and_parts (is_word_byte b) (list_all is_word_byte bs) is).1 i
