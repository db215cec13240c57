-- Neighbours of one range.
use Rattle.std.proofs.Common.{◌≡◌, ◌≢◌, ℕ, zero, suc, ◌+◌, ◌-◌, ◌<◌, ◌≤◌, Bool, true, false, if◌then◌else◌, ◌==◌, eqb, eq-eqb, List, [], ◌∷◌, ◌++◌, codes, length, get_or, take, drop, map, refl, ap, sym, ◌∙◌, arith, rules, tests}
use Rattle.std.proofs.lemmas.List.{get_or-drop, length-drop, drop-drop, map_more, map-append}
use Rattle.tce_space.specs.Space.{Index, IndexSpace, no_index, index_at}
use Rattle.tce_grammar.specs.Tokens.{word}
use Rattle.tce_grammar.specs.Printed.{Printing, with_token, with_tokens}
use Rattle.tce_spec.specs.Statements.{Group, groups, in_group, index_statement}
use Rattle.tce_spec.specs.Lines.{with_line, with_lines}
use Rattle.tce_spec.proofs.Printing.{then_token}

abbrev names : List Index → List (List ℕ)
names is = map (λ (i : Index). i.name) is

-- an index that is of the range of the first group
joins : (i : Index) (r : ℕ) (ns : List (List ℕ)) (gs : List Group) → i.of_range ≡ r
    → in_group i (record { of_range = r; names = ns } ∷ gs) ≡ record { of_range = r; names = i.name ∷ ns } ∷ gs
joins i r ns gs is = rw (eq-eqb i.of_range r is) (ap (λ (n : ℕ). record { of_range = n; names = i.name ∷ ns } ∷ gs) is)

other_test : (a b : ℕ) → a ≢ b → eqb a b ≡ false
other_test a b other = search (rules, tests)

-- an index of another range than the one behind it
apart : (i j : Index) (gs : List Group) → i.of_range ≢ j.of_range
    → in_group i (in_group j gs) ≡ record { of_range = i.of_range; names = i.name ∷ [] } ∷ in_group j gs
apart i j [] other = rw (other_test i.of_range j.of_range other) refl
apart i j (g ∷ gs) other = by_test (j.of_range == g.of_range)
  where
    by_test : (joined : Bool)
        → in_group i (if joined then record { of_range = j.of_range; names = j.name ∷ g.names } ∷ gs else record { of_range = j.of_range; names = j.name ∷ [] } ∷ g ∷ gs)
        ≡ record { of_range = i.of_range; names = i.name ∷ [] } ∷ (if joined then record { of_range = j.of_range; names = j.name ∷ g.names } ∷ gs else record { of_range = j.of_range; names = j.name ∷ [] } ∷ g ∷ gs)
    by_test true = rw (other_test i.of_range j.of_range other) refl
    by_test false = rw (other_test i.of_range j.of_range other) refl

-- an index in front of indexes whose first one is of another range
starts : (i : Index) (js : List Index) (r : ℕ) → i.of_range ≡ r → (0 < length js → (get_or js 0 no_index).of_range ≢ r)
    → in_group i (groups js) ≡ record { of_range = r; names = i.name ∷ [] } ∷ groups js
starts i [] r is other = ap (λ (n : ℕ). record { of_range = n; names = i.name ∷ [] } ∷ []) is
starts i (j ∷ js) r is other =
    apart i j (groups js) (λ e. other (omega arith) (sym e ∙ is))
    ∙ ap (λ (n : ℕ). record { of_range = n; names = i.name ∷ [] } ∷ in_group j (groups js)) is

-- the first indexes of a list, which are of one range, and the one behind them is not
pub first_group : (is : List Index) (n r : ℕ) → 0 < n → n ≤ length is
    → ((k : ℕ) → k < n → (get_or is k no_index).of_range ≡ r) → (n < length is → (get_or is n no_index).of_range ≢ r)
    → groups is ≡ record { of_range = r; names = names (take n is) } ∷ groups (drop n is)
first_group [] n r some within same ends = absurd (omega arith)
first_group (i ∷ js) zero r some within same ends = absurd (omega arith)
first_group (i ∷ js) (suc zero) r some within same ends = starts i js r (same 0 (omega arith)) (λ h e. ends (omega arith) e)
first_group (i ∷ js) (suc (suc n)) r some within same ends =
    ap (in_group i) (first_group js (suc n) r (omega arith) (omega arith) (λ k h. same (suc k) (omega arith)) (λ h e. ends (omega arith) e))
    ∙ joins i r (names (take (suc n) js)) (groups (drop (suc n) js)) (same 0 (omega arith))

-- the names of one more index
pub names_more : (is : List Index) (first i : ℕ) → first ≤ i → i < length is
    → names (take (i + 1 - first) (drop first is)) ≡ names (take (i - first) (drop first is)) ++ (get_or is i no_index).name ∷ []
names_more is first i le l =
    let here : i - first < length (drop first is) = omega (arith, length-drop first is, l, le) in
    ap (λ n. names (take n (drop first is))) (next i first le)
    ∙ map_more (λ (j : Index). j.name) (drop first is) (i - first) no_index here
    ∙ ap (λ (j : Index). names (take (i - first) (drop first is)) ++ j.name ∷ []) (get_or-drop first is (i - first) no_index ∙ ap (λ n. get_or is n no_index) (back i first le))
  where
    next : (i first : ℕ) → first ≤ i → i + 1 - first ≡ i - first + 1
    next i first le = omega arith

    back : (i first : ℕ) → first ≤ i → first + (i - first) ≡ i
    back i first le = omega arith

-- the group that begins at an index
pub group_at : (is : List Index) (first end : ℕ) → first < end → end ≤ length is
    → ((k : ℕ) → first ≤ k → k < end → (get_or is k no_index).of_range ≡ (get_or is first no_index).of_range)
    → (end < length is → (get_or is end no_index).of_range ≢ (get_or is first no_index).of_range)
    → groups (drop first is) ≡ record { of_range = (get_or is first no_index).of_range; names = names (take (end - first) (drop first is)) } ∷ groups (drop end is)
group_at is first end some within same ends =
    first_group (drop first is) (end - first) (get_or is first no_index).of_range (omega arith) (omega (arith, length-drop first is))
    (λ k h. ap (λ (j : Index). j.of_range) (get_or-drop first is k no_index) ∙ same (first + k) (omega arith) (omega (arith, h)))
    (λ h e. ends (omega (arith, length-drop first is, h)) (ap (λ (j : Index). j.of_range) (sym (get_or-drop first is (end - first) no_index ∙ ap (λ n. get_or is n no_index) (forth first end some))) ∙ e))
    ∙ ap (λ js. record { of_range = (get_or is first no_index).of_range; names = names (take (end - first) (drop first is)) } ∷ groups js)
    (drop-drop (end - first) first is ∙ ap (λ n. drop n is) (forth first end some))
  where
    forth : (first end : ℕ) → first < end → first + (end - first) ≡ end
    forth first end h = omega arith

-- the lines of the groups that are left
pub groups_left : (space : IndexSpace) (first end : ℕ) (p q : Printing) → first < end → end ≤ length space.indexes
    → ((k : ℕ) → first ≤ k → k < end → (index_at space k).of_range ≡ (index_at space first).of_range)
    → (end < length space.indexes → (index_at space end).of_range ≢ (index_at space first).of_range)
    → q ≡ with_line p (index_statement space (record { of_range = (index_at space first).of_range; names = names (take (end - first) (drop first space.indexes)) }))
    → with_lines q (map (index_statement space) (groups (drop end space.indexes))) ≡ with_lines p (map (index_statement space) (groups (drop first space.indexes)))
groups_left space first end p q some within same ends printed =
    ap (λ t. with_lines t (map (index_statement space) (groups (drop end space.indexes)))) printed
    ∙ ap (λ gs. with_lines p (map (index_statement space) gs)) (sym (group_at space.indexes first end some within same ends))

-- one more index on a line
pub group_more : (p p1 p2 : Printing) (range : List ℕ) (is : List Index) (first i : ℕ) → first ≤ i → i < length is
    → p1 ≡ with_tokens p (word (codes "index") ∷ word range ∷ map word (names (take (i - first) (drop first is)))) → p2 ≡ with_token p1 (word (get_or is i no_index).name)
    → p2 ≡ with_tokens p (word (codes "index") ∷ word range ∷ map word (names (take (i + 1 - first) (drop first is))))
group_more p p1 p2 range is first i le l e1 e2 =
    let before : List (List ℕ) = names (take (i - first) (drop first is)) in
    let name : List ℕ = (get_or is i no_index).name in
    then_token p p1 p2 (word (codes "index") ∷ word range ∷ map word before) (word name) e1 e2
    ∙ ap (λ ts. with_tokens p (word (codes "index") ∷ word range ∷ ts)) (sym (map-append word before (name ∷ [])))
    ∙ ap (λ ns. with_tokens p (word (codes "index") ∷ word range ∷ map word ns)) (sym (names_more is first i le l))
