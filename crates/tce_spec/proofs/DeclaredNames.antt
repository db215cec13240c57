-- Names of a line, taken one after another.
use Rattle.std.proofs.Common.{◌≡◌, ℕ, zero, suc, ◌+◌, ◌<◌, ◌≤◌, Bool, true, false, ◌||◌, not, cond, IsTrue, List, [], ◌∷◌, ◌++◌, length, map, take, drop, get_or, Some, None, refl, sym, ap, ◌∙◌, arith, append_assoc, append-nil, nat_lt, add-one}
use Rattle.std.specs.Prelude.{find, is_some, position}
use Rattle.std.specs.List.{list_any, prefix_len}
use Rattle.std.specs.Str.{bytes_eq}
use Rattle.std.specs.Borrow.{Bor}
use Rattle.std.specs.Cmp.Lexicographic.{nat_list_eq_equiv}
use Rattle.std.proofs.lemmas.List.{map-append}
use Rattle.std.proofs.lemmas.List.Folds.{list_any-append}
use Rattle.std.proofs.lemmas.Bool.Decides.{nat_tests}
use Rattle.tce_space.specs.Name.{is_name}
use Rattle.tce_space.specs.Space.{IndexSpace, Index, index_number}
use Rattle.tce_grammar.specs.Code.{names}
use Rattle.tce_grammar.specs.Grammar.{AreNames}
use Rattle.tce_spec.specs.DeclarationLines.{twice_after, index_names, number_of_range, numbers_of_ranges, with_numbered_indexes}

pub named_at : (xs : List (Bor (List ℕ))) (i : ℕ) (d : Bor (List ℕ)) → AreNames (names xs) → i < length xs → IsTrue (is_name (get_or xs i d).now)
named_at [] i d are h = absurd (omega arith)
named_at (x ∷ xs) zero d are h = are.0
named_at (x ∷ xs) (suc i) d are h = named_at xs i d are.1 (omega arith)

from_suc : (xs : List (Bor (List ℕ))) (i : ℕ) (d : Bor (List ℕ)) → i < length xs → names (drop i xs) ≡ (get_or xs i d).now ∷ names (drop (suc i) xs)
from_suc [] i d h = absurd (omega arith)
from_suc (x ∷ xs) zero d h = refl
from_suc (x ∷ xs) (suc i) d h = from_suc xs i d (omega arith)

to_suc : (xs : List (Bor (List ℕ))) (i : ℕ) (d : Bor (List ℕ)) → i < length xs → names (take (suc i) xs) ≡ names (take i xs) ++ (get_or xs i d).now ∷ []
to_suc [] i d h = absurd (omega arith)
to_suc (x ∷ xs) zero d h = refl
to_suc (x ∷ xs) (suc i) d h = ap (λ (ns : List (List ℕ)). x.now ∷ ns) (to_suc xs i d (omega arith))

pub names_from : (xs : List (Bor (List ℕ))) (i : ℕ) (d : Bor (List ℕ)) → i < length xs → names (drop i xs) ≡ (get_or xs i d).now ∷ names (drop (i + 1) xs)
names_from xs i d h = rw add-one (from_suc xs i d h)

pub names_to : (xs : List (Bor (List ℕ))) (i : ℕ) (d : Bor (List ℕ)) → i < length xs → names (take (i + 1) xs) ≡ names (take i xs) ++ (get_or xs i d).now ∷ []
names_to xs i d h = rw add-one (to_suc xs i d h)

pub none_behind : (xs : List (Bor (List ℕ))) (i : ℕ) → length xs ≤ i → names (drop i xs) ≡ []
none_behind [] zero h = refl
none_behind [] (suc i) h = refl
none_behind (x ∷ xs) zero h = absurd (omega arith)
none_behind (x ∷ xs) (suc i) h = none_behind xs i (omega arith)

pub all_before : (xs : List (Bor (List ℕ))) (i : ℕ) → length xs ≤ i → names (take i xs) ≡ names xs
all_before [] zero h = refl
all_before [] (suc i) h = refl
all_before (x ∷ xs) zero h = absurd (omega arith)
all_before (x ∷ xs) (suc i) h = ap (λ ns. x.now ∷ ns) (all_before xs i (omega arith))

-- the first name that passes a test
pub find_here : (p : List ℕ → Bool) (n : List ℕ) (ns ms : List (List ℕ)) → ms ≡ n ∷ ns → p n ≡ true → find p ms ≡ Some n
find_here p n ns ms same t = rw (same, t) refl

pub find_further : (p : List ℕ → Bool) (n : List ℕ) (ns ms : List (List ℕ)) → ms ≡ n ∷ ns → p n ≡ false → find p ms ≡ find p ns
find_further p n ns ms same f = rw (same, f) refl

-- a name among these
pub any_map : {X Y : Type 0} (p : Y → Bool) (f : X → Y) (xs : List X) → list_any p (map f xs) ≡ list_any (λ x. p (f x)) xs
any_map p f [] = refl
any_map p f (x ∷ xs) = ap (λ b. p (f x) || b) (any_map p f xs)

any_same : {X : Type 0} (p q : X → Bool) (xs : List X) → ((x : X) → p x ≡ q x) → list_any p xs ≡ list_any q xs
any_same p q [] same = refl
any_same p q (x ∷ xs) same = λ i. same x i || any_same p q xs same i

below_after : (m n : ℕ) → nat_lt (1 + m) (suc n) ≡ nat_lt m n
below_after m n = grind (arith, nat_tests)

below_some : (n : ℕ) → nat_lt 0 (suc n) ≡ true
below_some n = grind (arith, nat_tests)

below_if_any : {X : Type 0} (p : X → Bool) (xs : List X) → nat_lt (prefix_len (λ x. not (p x)) xs) (length xs) ≡ list_any p xs
below_if_any p [] = refl
below_if_any {X} p (x ∷ xs) = by_test (p x) refl (below_if_any p xs)
  where
    by_test : (b : Bool) → p x ≡ b → nat_lt (prefix_len (λ (y : X). not (p y)) xs) (length xs) ≡ list_any p xs
        → nat_lt (prefix_len (λ (y : X). not (p y)) (x ∷ xs)) (length (x ∷ xs)) ≡ list_any p (x ∷ xs)
    by_test true e behind = rw e (below_some (length xs))
    by_test false e behind = rw e (below_after (prefix_len (λ (y : X). not (p y)) xs) (length xs) ∙ behind)

some_cond : (b : Bool) (n : ℕ) → is_some (cond b (Some n) None) ≡ b
some_cond true n = refl
some_cond false n = refl

pub some_if_any : {X : Type 0} (p : X → Bool) (xs : List X) → is_some (position p xs) ≡ list_any p xs
some_if_any {X} p xs = some_cond (nat_lt (prefix_len (λ (y : X). not (p y)) xs) (length xs)) (prefix_len (λ (y : X). not (p y)) xs) ∙ below_if_any p xs

pub index_known : (space : IndexSpace) (name : List ℕ) → is_some (index_number space name) ≡ list_any (bytes_eq name) (index_names space)
index_known space name =
    some_if_any (λ (i : Index). bytes_eq i.name name) space.indexes
    ∙ any_same (λ (i : Index). bytes_eq i.name name) (λ (i : Index). bytes_eq name i.name) space.indexes (λ i. nat_list_eq_equiv.symm i.name name)
    ∙ sym (any_map (bytes_eq name) (λ (i : Index). i.name) space.indexes)

-- a name that stood before, at a step along the names
pub twice_here : (declared : List (List ℕ)) (xs : List (Bor (List ℕ))) (i : ℕ) (d : Bor (List ℕ)) → i < length xs
    → (list_any (bytes_eq (get_or xs i d).now) declared || list_any (bytes_eq (get_or xs i d).now) (names (take i xs))) ≡ true
    → twice_after (declared ++ names (take i xs)) (names (drop i xs)) ≡ Some (get_or xs i d).now
twice_here declared xs i d h among =
    let both = list_any-append (bytes_eq (get_or xs i d).now) declared (names (take i xs)) in
    rw (names_from xs i d h, both, among) refl

pub twice_further : (declared : List (List ℕ)) (xs : List (Bor (List ℕ))) (i : ℕ) (d : Bor (List ℕ)) → i < length xs
    → (list_any (bytes_eq (get_or xs i d).now) declared || list_any (bytes_eq (get_or xs i d).now) (names (take i xs))) ≡ false
    → twice_after (declared ++ names (take i xs)) (names (drop i xs)) ≡ twice_after (declared ++ names (take (i + 1) xs)) (names (drop (i + 1) xs))
twice_further declared xs i d h new =
    let both = list_any-append (bytes_eq (get_or xs i d).now) declared (names (take i xs)) in
    rw (names_from xs i d h, both, new)
    (ap (λ earlier. twice_after earlier (names (drop (i + 1) xs)))
    (append_assoc declared (names (take i xs)) ((get_or xs i d).now ∷ []) ∙ ap (λ ns. declared ++ ns) (sym (names_to xs i d h))))

-- indexes entered one after another
pub index_entered : (space : IndexSpace) (range : ℕ) (earlier : List (List ℕ)) (name : List ℕ) (before after : IndexSpace)
    → before ≡ with_numbered_indexes space range earlier → after.ranges ≡ before.ranges
    → after.indexes ≡ before.indexes ++ record { name = name; of_range = range } ∷ []
    → after ≡ with_numbered_indexes space range (earlier ++ name ∷ [])
index_entered space range earlier name before after was ranges indexes =
    let entry : List ℕ → Index = λ n. record { name = n; of_range = range } in
    let ranges_are : after.ranges ≡ space.ranges = ranges ∙ ap (λ (s : IndexSpace). s.ranges) was in
    let indexes_are : after.indexes ≡ space.indexes ++ map entry (earlier ++ name ∷ []) =
    indexes ∙ ap (λ (s : IndexSpace). s.indexes ++ entry name ∷ []) was ∙ append_assoc space.indexes (map entry earlier) (entry name ∷ [])
    ∙ ap (λ is. space.indexes ++ is) (sym (map-append entry earlier (name ∷ []))) in
    λ i. record { ranges = ranges_are i; indexes = indexes_are i }

pub nothing_entered : (space : IndexSpace) (range : ℕ) → space ≡ with_numbered_indexes space range []
nothing_entered space range = λ i. record { ranges = space.ranges; indexes = sym (append-nil space.indexes) i }

pub numbers_to : (space : IndexSpace) (xs : List (Bor (List ℕ))) (i : ℕ) (d : Bor (List ℕ)) → i < length xs
    → numbers_of_ranges space (names (take (i + 1) xs)) ≡ numbers_of_ranges space (names (take i xs)) ++ number_of_range space (get_or xs i d).now ∷ []
numbers_to space xs i d h = ap (numbers_of_ranges space) (names_to xs i d h) ∙ map-append (number_of_range space) (names (take i xs)) ((get_or xs i d).now ∷ [])
