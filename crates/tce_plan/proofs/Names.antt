-- The names of the files of `check` are short, and differ.
use Rattle.std.proofs.Common.{◌≡◌, ◌≢◌, ◌∙◌, ℕ, ◌+◌, ◌-◌, ◌≤◌, List, length, drop, get_or, sym, ap, subst, arith, codes, IsTrue}
use borrow.Author.Tests.{leb-true}
use Rattle.std.proofs.lemmas.Bool.{and_parts}
use Rattle.std.proofs.lemmas.List.{length-drop, get_or-drop}
use Rattle.std.specs.Cmp.Lexicographic.{bytes_decides}
use Rattle.tce_command.specs.Command.{is_file_word, NamesSpec, NamesCertificate}

pub short : (suffix word : List ℕ) → IsTrue (is_file_word suffix word) → length word ≤ 200
short suffix word named = leb-true _ _ (and_parts _ _ (and_parts _ _ (and_parts _ _ named).0).0).0

-- how such a name ends
ends_in : (suffix word : List ℕ) → IsTrue (is_file_word suffix word) → suffix ≡ drop (length word - length suffix) word
ends_in suffix word named = (bytes_decides suffix (drop (length word - length suffix) word)).0 (and_parts _ _ (and_parts _ _ named).0).1

pub apart : (spec cert : List ℕ) → NamesSpec spec → NamesCertificate cert → spec ≢ cert
apart spec cert named other e =
    let four : codes ".tce" ≡ drop (length cert - 4) cert = subst (λ (w : List ℕ). codes ".tce" ≡ drop (length w - 4) w) e (ends_in (codes ".tce") spec named) in
    let five : codes ".cert" ≡ drop (length cert - 5) cert = ends_in (codes ".cert") cert other in
    let long : length cert - (length cert - 5) ≡ 5 = sym (length-drop (length cert - 5) cert) ∙ ap length (sym five) in
    let same : length cert - 5 + 1 ≡ length cert - 4 + 0 = omega arith in
    let dot : get_or cert (length cert - 4 + 0) 0 ≡ 46 = sym (get_or-drop (length cert - 4) cert 0 0) ∙ ap (λ (l : List ℕ). get_or l 0 0) (sym four) in
    let letter : get_or cert (length cert - 5 + 1) 0 ≡ 99 = sym (get_or-drop (length cert - 5) cert 1 0) ∙ ap (λ (l : List ℕ). get_or l 1 0) (sym five) in
    let both : get_or cert (length cert - 5 + 1) 0 ≡ get_or cert (length cert - 4 + 0) 0 = ap (λ (n : ℕ). get_or cert n 0) same in
    absurd (omega (arith, dot, letter, both))
