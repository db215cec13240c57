-- The bytes that are read into a part of the words are as many as the part takes.
use Rattle.std.proofs.Common.{◌≡◌, ℕ, ◌+◌, ◌-◌, ◌*◌, ◌/◌, ◌%◌, ◌≤◌, List, length, take, drop, ap, arith}
use Rattle.std.proofs.lemmas.List.{length-take-le, length-drop}

length-part_of : (from n : ℕ) (words old : List ℕ) → words ≡ old → from + n ≤ length old → length (take (from + n - from) (drop from words)) ≡ n
length-part_of from n words old same room =
    let long : length words ≡ length old = ap length same in
    let rest : length (drop from words) ≡ length words - from = length-drop from words in
    let part : length (take (from + n - from) (drop from words)) ≡ from + n - from = length-take-le (from + n - from) (drop from words) (omega arith) in
    omega arith

pub fill_words : (len from : ℕ) (words old : List ℕ) → len % 8 ≡ 0 → words ≡ old → from + len / 8 ≤ length old → len ≡ 8 * length (take (from + len / 8 - from) (drop from words))
fill_words len from words old whole same room = let is = length-part_of from (len / 8) words old same room in omega arith

pub fill_narrow : (len from : ℕ) (words old : List ℕ) → len % 4 ≡ 0 → words ≡ old → from + len / 4 ≤ length old → len ≡ 4 * length (take (from + len / 4 - from) (drop from words))
fill_narrow len from words old whole same room = let is = length-part_of from (len / 4) words old same room in omega arith
