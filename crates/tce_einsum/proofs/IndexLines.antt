-- The lines of indexes.
use Rattle.std.proofs.Common.{◌≡◌, ◌≢◌, ℕ, zero, suc, ◌-◌, ◌<◌, ◌≤◌, List, [], ◌∷◌, length, get_or, map, take, drop, refl, sym, ap, ◌∙◌, arith}
use Rattle.std.specs.List.{position_or_len}
use Rattle.std.proofs.lemmas.List.{get_or-map, length-map}
use Rattle.tce_space.specs.Space.{Index, no_index}
use Rattle.tce_grammar.specs.Printed.{Printing}
use Rattle.tce_spec.specs.Statements.{Group, groups}
use Rattle.tce_spec.specs.Lines.{with_line, with_lines}
use Rattle.tce_spec.proofs.Groups.{group_at}
use Rattle.tce_einsum.specs.Text as text
use Rattle.tce_einsum.specs.Code as code
use Rattle.tce_einsum.specs.declared.size.Size.{Size}
use Rattle.tce_einsum.specs.Produced.{Tiled, tiled, is_same, ranges, range_numbers, label_at, index_of, indexes, index_statement}

-- the name of an index
pub index_name : (sizes : List Size) (k : ℕ) (d : Size) → k < length sizes → (get_or sizes k d).label ∷ [] ≡ (get_or (indexes (code.sizes sizes)) k no_index).name
index_name sizes k d inside =
    let inner : k < length (code.sizes sizes) = omega (arith, length-map sizes code.size, inside) in
    ap (λ (s : text.Size). s.label ∷ []) (sym (get_or-map code.size sizes k d (code.size d) inside))
    ∙ ap (λ (i : Index). i.name) (sym (get_or-map (index_of (ranges (code.sizes sizes))) (code.sizes sizes) k (code.size d) no_index inner))

-- the range of an index
range_at : (rs : List Tiled) (ss : List text.Size) (k : ℕ)
    → get_or (map (λ (s : text.Size). position_or_len (is_same (tiled s)) rs) ss) k 16 ≡ (get_or (map (index_of rs) ss) k no_index).of_range
range_at rs [] zero = refl
range_at rs [] (suc k) = refl
range_at rs (s ∷ ss) zero = refl
range_at rs (s ∷ ss) (suc k) = range_at rs ss k

pub index_range : (ss : List text.Size) (numbers : List ℕ) (k : ℕ) → numbers ≡ range_numbers ss → get_or numbers k 16 ≡ (get_or (indexes ss) k no_index).of_range
index_range ss numbers k e = ap (λ (ns : List ℕ). get_or ns k 16) e ∙ range_at (ranges ss) ss k

pub indexes_long : (ss : List text.Size) (numbers : List ℕ) → numbers ≡ range_numbers ss → length (indexes ss) ≡ length numbers
indexes_long ss numbers e =
    length-map ss (index_of (ranges ss)) ∙ sym (length-map ss (λ (s : text.Size). position_or_len (is_same (tiled s)) (ranges ss))) ∙ sym (ap length e)

-- the lines of the groups that are left
pub groups_left : (ss : List text.Size) (numbers : List ℕ) (first end range : ℕ) (p q : Printing) → numbers ≡ range_numbers ss → first < end → end ≤ length numbers
    → ((k : ℕ) → first ≤ k → k < end → get_or numbers k 16 ≡ get_or numbers first 16)
    → (end < length numbers → get_or numbers end 16 ≢ get_or numbers first 16)
    → range ≡ get_or numbers first 16
    → q ≡ with_line p (index_statement (record { of_range = range; names = map (λ (i : Index). i.name) (take (end - first) (drop first (indexes ss))) }))
    → with_lines q (map index_statement (groups (drop end (indexes ss)))) ≡ with_lines p (map index_statement (groups (drop first (indexes ss))))
groups_left ss numbers first end range p q e some within same ends of_range printed =
    let long : length (indexes ss) ≡ length numbers = indexes_long ss numbers e in
    let names : List (List ℕ) = map (λ (i : Index). i.name) (take (end - first) (drop first (indexes ss))) in
    let here : get_or numbers first 16 ≡ (get_or (indexes ss) first no_index).of_range = index_range ss numbers first e in
    ap (λ t. with_lines t (map index_statement (groups (drop end (indexes ss)))))
    (printed ∙ ap (λ (r : ℕ). with_line p (index_statement (record { of_range = r; names = names }))) (of_range ∙ here))
    ∙ ap (λ (gs : List Group). with_lines p (map index_statement gs))
    (sym
    (group_at (indexes ss) first end some (omega (arith, long, within)) (λ k le lt. sym (index_range ss numbers k e) ∙ same k le lt ∙ here)
    (λ lt other. ends (omega (arith, long, lt)) (index_range ss numbers end e ∙ other ∙ sym here))))

-- a number of a list, whatever stands past its end
pub same_at : (ns : List ℕ) (k : ℕ) → k < length ns → get_or ns k 0 ≡ get_or ns k 16
same_at [] k inside = absurd (omega (arith, inside))
same_at (n ∷ ns) zero inside = refl
same_at (n ∷ ns) (suc k) inside = same_at ns k (omega (arith, inside))

-- the letter of a label
pub label_in : (sizes : List Size) (k : ℕ) (d : Size) → k < length sizes → (get_or sizes k d).label ≡ label_at (code.sizes sizes) k
label_in sizes k d inside =
    let inner : k < length (code.sizes sizes) = omega (arith, length-map sizes code.size, inside) in
    ap (λ (s : text.Size). s.label) (sym (get_or-map code.size sizes k d (code.size d) inside))
    ∙ sym (get_or-map (λ (s : text.Size). s.label) (code.sizes sizes) k (code.size d) 0 inner)

pub label_read : (sizes : List Size) (k : ℕ) (n : Size) → k < length sizes → n ≡ get_or sizes k n → n.label ≡ label_at (code.sizes sizes) k
label_read sizes k n inside is = ap (λ (s : Size). s.label) is ∙ label_in sizes k n inside
