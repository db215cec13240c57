-- Sums over the loops of a combination and those of a term behind them.
use Rattle.std.proofs.Common.{◌≡◌, ℕ, zero, suc, ◌+◌, ◌-◌, ◌<◌, ◌≤◌, ◌^◌, Bool, true, false, eqb, if◌then◌else◌, List, [], ◌∷◌, ◌++◌, length, bytes_eq, refl, sym, ap, ap₂, ◌∙◌, subst, ◌&&◌, inl, inr, arith}
use mathlib.Core.Path.{fun_ext}
use Rattle.std.proofs.lemmas.Bool.{cases_Bool, cases_eq, eqb-true, false≢true}
use Rattle.std.proofs.lemmas.Slice.Eq.{bytes_eq-Decides}
use Rattle.tce_base.specs.Word.{wrapping_add}
use Rattle.tce_base.proofs.Words.{plus-zero, zero-plus}
use Rattle.tce_space.specs.IndexSet.{has, members}
use Rattle.tce_space.specs.Tiling.{ArePositive}
use Rattle.tce_tree.specs.Value.{Assignment, with_number, assignment, sum_below, sum_over}
use Rattle.tce_tree.specs.WellFormed.{among, is_distinct}
use Rattle.tce_tree.proofs.Lists.{among_first, among_later, among_cases, distinct_first, distinct_later}
use Rattle.tce_tree.proofs.Values.{sum_below-same, sum_over-lt, map-same}
use Rattle.tce_tree.proofs.Assignments.{with-same, with-other}
use Rattle.tce_tree.proofs.Permutations.{members_has}
use Rattle.tce_tree.proofs.Sums.{sum_below-zero}
use Rattle.tce_block.specs.Parts.{Part}
use Rattle.tce_block.specs.Sums.{moved, part_sum}
use Rattle.tce_block.proofs.BoxSums.{assignment-absent}
use Rattle.tce_walk.specs.Parts.{part_growth, grown_by_part, falls_on, last_on_place}
use Rattle.tce_walk.specs.Laws.{HoldsWords}
use Rattle.tce_walk.specs.TailLaws.{dims_at}
use Rattle.tce_code.specs.Execution.{Setting, State, coordinates}
use Rattle.tce_exec.specs.Turns.{IsTurn, turns_of}
use Rattle.tce_exec.specs.TermParts.{joined_part, mapped_by_part}
use Rattle.tce_exec.proofs.Falling.{moved_turn, first_in, falls_yes, falls_when, place_numbers}
use Rattle.tce_exec.proofs.Sums.{IsBelow, later_below, sum_over_same, sum_over-zero}

-- ---- sums over loops behind others

extents_same : (e g : ℕ → ℕ) (is : List ℕ) (f : Assignment → ℕ) (a : Assignment) → ((i : ℕ) → among is i ≡ true → e i ≡ g i) → sum_over e is f a ≡ sum_over g is f a
extents_same e g [] f a h = refl
extents_same e g (i ∷ rest) f a h =
    ap (λ n. sum_below n (λ x. sum_over e rest f (with_number a i x))) (h i (among_first i rest))
    ∙ sum_below-same (g i) _ (λ x. sum_over g rest f (with_number a i x)) (λ x low. extents_same e g rest f (with_number a i x) (λ j m. h j (among_later i rest j m)))

sums_behind : (e outer_e inner_e : ℕ → ℕ) (outer inner : List ℕ) (f : Assignment → ℕ) (a : Assignment) → ((i : ℕ) → among outer i ≡ true → e i ≡ outer_e i) → ((i : ℕ) → among inner i ≡ true → e i ≡ inner_e i)
    → sum_over e (outer ++ inner) f a ≡ sum_over outer_e outer (sum_over inner_e inner f) a
sums_behind e outer_e inner_e [] inner f a h k = extents_same e inner_e inner f a k
sums_behind e outer_e inner_e (i ∷ rest) inner f a h k =
    ap (λ n. sum_below n (λ x. sum_over e (rest ++ inner) f (with_number a i x))) (h i (among_first i rest))
    ∙ sum_below-same (outer_e i) _ (λ x. sum_over outer_e rest (sum_over inner_e inner f) (with_number a i x))
    (λ x low. sums_behind e outer_e inner_e rest inner f (with_number a i x) (λ j m. h j (among_later i rest j m)) k)

-- numbers of other indexes may be moved before the sum or inside of it
sum_over_at : (extent : ℕ → ℕ) (is : List ℕ) (m : Assignment → Assignment) (f : Assignment → ℕ) (a : Assignment)
    → ((b : Assignment) (i x : ℕ) → among is i ≡ true → m (with_number b i x) ≡ with_number (m b) i x) → sum_over extent is (λ b. f (m b)) a ≡ sum_over extent is f (m a)
sum_over_at extent [] m f a h = refl
sum_over_at extent (i ∷ rest) m f a h =
    sum_below-same (extent i) _ (λ x. sum_over extent rest f (with_number (m a) i x)) (λ x low.
    sum_over_at extent rest m f (with_number a i x) (λ b j y t. h b j y (among_later i rest j t)) ∙ ap (sum_over extent rest f) (h a i x (among_first i rest)))

-- ---- numbers of loops behind others

abbrev pub AreDisjoint : List ℕ → List ℕ → Type 0
AreDisjoint outer inner = (i : ℕ) → among outer i ≡ true → among inner i ≡ false

pub disjoint_back : (outer inner : List ℕ) → AreDisjoint outer inner → (i : ℕ) → among inner i ≡ true → among outer i ≡ false
disjoint_back outer inner h i m =
    elim (cases_Bool (among outer i)) [
      | inl t ↦ absurd (false≢true (sym (h i t) ∙ m))
      | inr f ↦ f
    ]

zero_more : (y : ℕ) → 0 + y ≡ y
zero_more y = omega arith

pub assignment_joined : (outer inner xs ys : List ℕ) (i : ℕ) → length xs ≡ length outer → AreDisjoint outer inner → assignment (outer ++ inner) (xs ++ ys) i ≡ assignment inner ys i + assignment outer xs i
assignment_joined [] inner [] ys i l h = omega arith
assignment_joined [] inner (x ∷ xs) ys i l h = absurd (omega arith)
assignment_joined (j ∷ outer) inner [] ys i l h = absurd (omega arith)
assignment_joined (j ∷ outer) inner (x ∷ xs) ys i l h =
    elim (cases_eq i j) [
      | inl e ↦
          let none : assignment inner ys i ≡ 0 = assignment-absent inner ys i (h i (ap (among (j ∷ outer)) e ∙ among_first j outer)) in
          ap (with_number (assignment (outer ++ inner) (xs ++ ys)) j x) e ∙ with-same (assignment (outer ++ inner) (xs ++ ys)) j x
          ∙ sym (zero_more x) ∙ ap₂ (λ m n. m + n) (sym none) (sym (ap (with_number (assignment outer xs) j x) e ∙ with-same (assignment outer xs) j x))
      | inr n ↦
          with-other (assignment (outer ++ inner) (xs ++ ys)) j x i n
          ∙ assignment_joined outer inner xs ys i (omega arith) (λ k m. h k (among_later j outer k m))
          ∙ ap (λ m. assignment inner ys i + m) (sym (with-other (assignment outer xs) j x i n))
    ]

pub joined_outer : (outer inner xs ys : List ℕ) (i : ℕ) → length xs ≡ length outer → AreDisjoint outer inner → among outer i ≡ true → assignment (outer ++ inner) (xs ++ ys) i ≡ assignment outer xs i
joined_outer outer inner xs ys i l h m =
    let none : assignment inner ys i ≡ 0 = assignment-absent inner ys i (h i m) in
    omega (arith, assignment_joined outer inner xs ys i l h, none)

pub joined_inner : (outer inner xs ys : List ℕ) (i : ℕ) → length xs ≡ length outer → AreDisjoint outer inner → among inner i ≡ true → assignment (outer ++ inner) (xs ++ ys) i ≡ assignment inner ys i
joined_inner outer inner xs ys i l h m =
    let none : assignment outer xs i ≡ 0 = assignment-absent outer xs i (disjoint_back outer inner h i m) in
    omega (arith, assignment_joined outer inner xs ys i l h, none)

moved_joined : (outer inner xs ys : List ℕ) (b : Assignment) → length xs ≡ length outer → AreDisjoint outer inner → moved (outer ++ inner) (xs ++ ys) b ≡ moved inner ys (moved outer xs b)
moved_joined outer inner xs ys b l h = fun_ext (λ i. omega (arith, assignment_joined outer inner xs ys i l h))

moved_apart : (outer inner xs : List ℕ) → AreDisjoint outer inner → (b : Assignment) (i x : ℕ) → among inner i ≡ true → moved outer xs (with_number b i x) ≡ with_number (moved outer xs b) i x
moved_apart outer inner xs h b i x m = fun_ext (λ j.
    elim (cases_eq j i) [
      | inl e ↦
          let none : assignment outer xs j ≡ 0 = assignment-absent outer xs j (ap (among outer) e ∙ disjoint_back outer inner h i m) in
          ap₂ (λ y z. y + z) none (ap (with_number b i x) e ∙ with-same b i x) ∙ zero_more x
          ∙ sym (ap (with_number (moved outer xs b) i x) e ∙ with-same (moved outer xs b) i x)
      | inr n ↦ ap (λ y. assignment outer xs j + y) (with-other b i x j n) ∙ sym (with-other (moved outer xs b) i x j n)
    ])

part_sum_joined : (outer inner : List ℕ) (f : Assignment → ℕ) (a : Assignment) (p q : Part) → length p.from ≡ length outer → length p.len ≡ length outer → AreDisjoint outer inner
    → part_sum (outer ++ inner) (outer ++ inner) f a (joined_part p q) ≡ part_sum outer outer (λ b. part_sum inner inner f b q) a p
part_sum_joined outer inner f a p q from len h =
    sums_behind (assignment (outer ++ inner) (p.len ++ q.len)) (assignment outer p.len) (assignment inner q.len) outer inner (λ b. f (moved (outer ++ inner) (p.from ++ q.from) b)) a
    (λ i m. joined_outer outer inner p.len q.len i len h m) (λ i m. joined_inner outer inner p.len q.len i len h m)
    ∙ ap (λ g. sum_over (assignment outer p.len) outer g a) (fun_ext (λ b.
    ap (λ g. sum_over (assignment inner q.len) inner g b) (fun_ext (λ c. ap f (moved_joined outer inner p.from q.from c from h)))
    ∙ sum_over_at (assignment inner q.len) inner (moved outer p.from) (λ c. f (moved inner q.from c)) b (moved_apart outer inner p.from h)))

-- ---- what falls on a place

-- no loop of a term is one of the dims
abbrev pub AreOutOf : ℕ → List ℕ → Type 0
AreOutOf set inner = (i : ℕ) → among inner i ≡ true → has set i ≡ false

coordinates_stay : (set : ℕ) (inner : List ℕ) (q : Part) (c b : Assignment) → AreOutOf set inner → IsBelow (assignment inner q.len) inner c b → coordinates set (moved inner q.from b) ≡ coordinates set c
coordinates_stay set inner q c b out below = map-same (members set) (moved inner q.from b) c (λ i m.
    let none : among inner i ≡ false = elim (cases_Bool (among inner i)) [ inl t ↦ absurd (false≢true (sym (out i t) ∙ members_has set i m)) | inr f ↦ f ] in
    let zero_first : assignment inner q.from i ≡ 0 = assignment-absent inner q.from i none in
    let same : b i ≡ c i = below.others i none in
    omega (arith, zero_first, same))

tested : (extent : ℕ → ℕ) (is : List ℕ) (g : Assignment → ℕ) (c : Assignment) (q : Bool) → sum_over extent is (λ b. if q then g b else 0) c ≡ (if q then sum_over extent is g c else 0)
tested extent is g c true = refl
tested extent is g c false = sum_over-zero extent is c

inner_test : (set : ℕ) (p : List ℕ) (inner : List ℕ) (f : Assignment → ℕ) (c : Assignment) (q : Part) → AreOutOf set inner
    → part_sum inner inner (λ b. if bytes_eq p (coordinates set b) then f b else 0) c q ≡ (if bytes_eq p (coordinates set c) then part_sum inner inner f c q else 0)
inner_test set p inner f c q out =
    sum_over_same (assignment inner q.len) inner _ (λ b. if bytes_eq p (coordinates set c) then f (moved inner q.from b) else 0) c
    (λ b below. ap (λ k. if bytes_eq p k then f (moved inner q.from b) else 0) (coordinates_stay set inner q c b out below))
    ∙ tested (assignment inner q.len) inner (λ b. f (moved inner q.from b)) c (bytes_eq p (coordinates set c))

-- a node's places grow in a part of all loops as in the part of those outside, by sums over the others
pub grown_joined : (s : Setting) (v : ℕ) (outer inner : List ℕ) (f : Assignment → ℕ) (a : Assignment) (p q : Part) (state : State) → length p.from ≡ length outer → length p.len ≡ length outer
    → AreDisjoint outer inner → AreOutOf (dims_at s v) inner
    → grown_by_part s v (outer ++ inner) f a (joined_part p q) state ≡ grown_by_part s v outer (λ c. part_sum inner inner f c q) a p state
grown_joined s v outer inner f a p q state from len h out = fun_ext (λ u. fun_ext (λ k.
    ap (λ n. if eqb u v then wrapping_add (state u k) n else state u k)
    (part_sum_joined outer inner (λ b. if bytes_eq k (coordinates (dims_at s v) b) then f b else 0) a p q from len h
    ∙ ap (λ g. part_sum outer outer g a p) (fun_ext (λ c. inner_test (dims_at s v) k inner f c q out)))))

-- ---- a single assignment

sum_below_one : (n k : ℕ) (g : ℕ → ℕ) → k < n → ((x : ℕ) → x < n → (x ≡ k → ⊥) → g x ≡ 0) → g k < 2 ^ 64 → sum_below n g ≡ g k
sum_below_one zero k g low none word = absurd (omega arith)
sum_below_one (suc n) k g low none word =
    elim (cases_eq k n) [
      | inl e ↦
          ap (λ w. wrapping_add w (g n)) (sum_below-same n g (λ x. 0) (λ x lt. none x (omega arith) (λ same. omega (arith, same, e))) ∙ sum_below-zero n)
          ∙ ap (λ x. wrapping_add 0 (g x)) (sym e) ∙ zero-plus (g k) word
      | inr ne ↦
          ap₂ wrapping_add (sum_below_one n k g (omega arith) (λ x lt other. none x (omega arith) other) word) (none n (omega arith) (λ same. ne (sym same)))
          ∙ plus-zero (g k) word
    ]

rest_below : (extent : ℕ → ℕ) (i : ℕ) (rest : List ℕ) (a c : Assignment) → IsBelow extent (i ∷ rest) a c → IsBelow extent rest (with_number a i (c i)) c
rest_below extent i rest a c h = record {
  below = λ j m. h.below j (among_later i rest j m);
  others = λ j m.
      elim (cases_eq j i) [
        | inl e ↦ ap c e ∙ sym (ap (with_number a i (c i)) e ∙ with-same a i (c i))
        | inr n ↦ h.others j (out j m n) ∙ sym (with-other a i (c i) j n)
      ];
}
  where
    out : (j : ℕ) → among rest j ≡ false → (j ≡ i → ⊥) → among (i ∷ rest) j ≡ false
    out j m n =
        elim (cases_Bool (among (i ∷ rest) j)) [
          | inl t ↦ elim (among_cases i rest j t) [ inl e ↦ absurd (n (sym e)) | inr r ↦ absurd (false≢true (sym m ∙ r)) ]
          | inr f ↦ f
        ]

-- a sum in which one assignment alone has a word
sum_over_one : (extent : ℕ → ℕ) (is : List ℕ) (h : Assignment → ℕ) (a c : Assignment) → is_distinct is ≡ true → IsBelow extent is a c
    → ((b : Assignment) → IsBelow extent is a b → (j : ℕ) → among is j ≡ true → (b j ≡ c j → ⊥) → h b ≡ 0) → ((b : Assignment) → h b < 2 ^ 64) → sum_over extent is h a ≡ h c
sum_over_one extent [] h a c d below none word = ap h (fun_ext (λ i. sym (below.others i refl)))
sum_over_one extent (i ∷ rest) h a c d below none word =
    sum_below_one (extent i) (c i) (λ x. sum_over extent rest h (with_number a i x)) (below.below i (among_first i rest))
    (λ x low other.
    sum_over_same extent rest h (λ b. 0) (with_number a i x) (λ b is.
    none b (later_below extent i rest a b x low is) i (among_first i rest) (λ e. other (sym (is.others i (distinct_first i rest d) ∙ with-same a i x) ∙ e)))
    ∙ sum_over-zero extent rest (with_number a i x))
    (sum_over-lt extent rest h (with_number a i (c i)) word)
    ∙ sum_over_one extent rest h (with_number a i (c i)) c (distinct_later i rest d) (rest_below extent i rest a c below)
    (λ b is j m other. none b (later_below extent i rest a b (c i) (below.below i (among_first i rest)) is) j (among_later i rest j m) other) word

-- ---- loops that are all among the dims

-- loops of a part, each of which is one of the dims of the node
pub record AreDimsOf (s : Setting) (v : ℕ) (order : List ℕ) (part : Part) : Type 0 where
  pub distinct : is_distinct order ≡ true
  pub below : (i : ℕ) → among order i ≡ true → i < 24
  pub as_many : length part.len ≡ length order
  pub some : ArePositive part.len
  pub dims : (i : ℕ) → among order i ≡ true → has (dims_at s v) i ≡ true

growth_missed : (s : Setting) (v : ℕ) (order : List ℕ) (f : Assignment → ℕ) (a : Assignment) (part : Part) (p : List ℕ) → AreDimsOf s v order part → falls_on s v order a part p ≡ false
    → part_growth s v order f a part p ≡ 0
growth_missed s v order f a part p h miss =
    sum_over_same (assignment order part.len) order _ (λ b. 0) a (λ b below.
    elim (cases_Bool (bytes_eq p (coordinates (dims_at s v) (moved order part.from b)))) [
      | inl e ↦ absurd (false≢true (sym miss ∙ falls_when s v order a part p (moved order part.from b) h.below (moved_turn order a part b below) (sym ((bytes_eq-Decides p (coordinates (dims_at s v) (moved order part.from b))).0 e))))
      | inr e ↦ ap (λ q. if q then f (moved order part.from b) else 0) e
    ])
    ∙ sum_over-zero (assignment order part.len) order a

-- how far the numbers of an assignment are above the first turn's
abbrev above : List ℕ → Part → Assignment → Assignment
above order part c = λ i. c i - assignment order part.from i

growth_met : (s : Setting) (v : ℕ) (order : List ℕ) (f : Assignment → ℕ) (a : Assignment) (part : Part) (p : List ℕ) → AreDimsOf s v order part → ((b : Assignment) → f b < 2 ^ 64)
    → falls_on s v order a part p ≡ true → part_growth s v order f a part p ≡ f (last_on_place s v order a part p)
growth_met s v order f a part p h word met =
    let found = falls_yes s v order a part p h.as_many h.some met in
    let c : Assignment = last_on_place s v order a part p in
    let back : moved order part.from (above order part c) ≡ c = moved_back order a part c found.1 in
    sum_over_one (assignment order part.len) order (λ b. if bytes_eq p (coordinates (dims_at s v) (moved order part.from b)) then f (moved order part.from b) else 0) a (above order part c) h.distinct
    (above_below order a part c found.1)
    (λ b below j m other.
    elim (cases_Bool (bytes_eq p (coordinates (dims_at s v) (moved order part.from b)))) [
      | inl e ↦ absurd (other (same_number s v order a part c p b j h found.1 found.2 m (sym ((bytes_eq-Decides p (coordinates (dims_at s v) (moved order part.from b))).0 e))))
      | inr e ↦ ap (λ q. if q then f (moved order part.from b) else 0) e
    ])
    (λ b. word_or (bytes_eq p (coordinates (dims_at s v) (moved order part.from b))) (f (moved order part.from b)) (word _))
    ∙ ap (λ b. if bytes_eq p (coordinates (dims_at s v) b) then f b else 0) back
    ∙ ap (λ q. if q then f c else 0) ((bytes_eq-Decides p (coordinates (dims_at s v) c)).1 (sym found.2))
  where
    word_or : (q : Bool) (w : ℕ) → w < 2 ^ 64 → (if q then w else 0) < 2 ^ 64
    word_or true w low = low
    word_or false w low = omega arith

    moved_back : (order : List ℕ) (a : Assignment) (part : Part) (c : Assignment) → IsTurn (turns_of order a part) c → moved order part.from (λ i. c i - assignment order part.from i) ≡ c
    moved_back order a part c turn = fun_ext (λ i.
        elim (cases_Bool (among order i)) [
          | inl m ↦
              let low : (turns_of order a part).first i ≤ c i = (turn.loops i m).0 in
              let first : (turns_of order a part).first i ≡ assignment order part.from i = first_in order a part i m in
              omega (arith, low, first)
          | inr m ↦ let none : assignment order part.from i ≡ 0 = assignment-absent order part.from i m in omega (arith, none)
        ])

    above_below : (order : List ℕ) (a : Assignment) (part : Part) (c : Assignment) → IsTurn (turns_of order a part) c → IsBelow (assignment order part.len) order a (λ i. c i - assignment order part.from i)
    above_below order a part c turn = record {
      below = λ i m.
          let first : (turns_of order a part).first i ≡ assignment order part.from i = first_in order a part i m in
          let low : (turns_of order a part).first i ≤ c i = (turn.loops i m).0 in
          let high : c i < (turns_of order a part).first i + assignment order part.len i = (turn.loops i m).1 in
          omega (arith, first, low, high);
      others = λ i m.
          let none : assignment order part.from i ≡ 0 = assignment-absent order part.from i m in
          let same : c i ≡ (turns_of order a part).first i = turn.others i m in
          let here : (turns_of order a part).first i ≡ a i = ap (λ q. if q then assignment order part.from i else a i) m in
          omega (arith, none, same, here);
    }

    same_number : (s : Setting) (v : ℕ) (order : List ℕ) (a : Assignment) (part : Part) (c : Assignment) (p : List ℕ) (b : Assignment) (j : ℕ) → AreDimsOf s v order part → IsTurn (turns_of order a part) c
        → coordinates (dims_at s v) c ≡ p → among order j ≡ true → coordinates (dims_at s v) (moved order part.from b) ≡ p → b j ≡ c j - assignment order part.from j
    same_number s v order a part c p b j h turn at m there =
        let one : assignment (members (dims_at s v)) p j ≡ moved order part.from b j = place_numbers (dims_at s v) p (moved order part.from b) j (h.below j m) (h.dims j m) there in
        let other : assignment (members (dims_at s v)) p j ≡ c j = place_numbers (dims_at s v) p c j (h.below j m) (h.dims j m) at in
        omega (arith, one, other)

-- each place grows by the word of the one assignment that falls on it
pub grown_mapped : (s : Setting) (v : ℕ) (order : List ℕ) (f : Assignment → ℕ) (a : Assignment) (part : Part) (state : State) → AreDimsOf s v order part → ((b : Assignment) → f b < 2 ^ 64) → HoldsWords v state
    → grown_by_part s v order f a part state ≡ mapped_by_part s v order (λ b w. wrapping_add w (f b)) a part state
grown_mapped s v order f a part state h word holds = fun_ext (λ u. fun_ext (λ p.
    elim (cases_Bool (eqb u v)) [
      | inl e ↦
          ap (λ q. if q then wrapping_add (state u p) (part_growth s v order f a part p) else state u p) e
          ∙ at_node u p (eqb-true u v e)
          ∙ sym (ap (λ q. if q && falls_on s v order a part p then wrapping_add (state u p) (f (last_on_place s v order a part p)) else state u p) e)
      | inr e ↦
          ap (λ q. if q then wrapping_add (state u p) (part_growth s v order f a part p) else state u p) e
          ∙ sym (ap (λ q. if q && falls_on s v order a part p then wrapping_add (state u p) (f (last_on_place s v order a part p)) else state u p) e)
    ]))
  where
    at_node : (u : ℕ) (p : List ℕ) → u ≡ v → wrapping_add (state u p) (part_growth s v order f a part p) ≡ (if falls_on s v order a part p then wrapping_add (state u p) (f (last_on_place s v order a part p)) else state u p)
    at_node u p same =
        elim (cases_Bool (falls_on s v order a part p)) [
          | inl met ↦
              ap (wrapping_add (state u p)) (growth_met s v order f a part p h word met)
              ∙ sym (ap (λ q. if q then wrapping_add (state u p) (f (last_on_place s v order a part p)) else state u p) met)
          | inr miss ↦
              ap (wrapping_add (state u p)) (growth_missed s v order f a part p h miss)
              ∙ plus-zero (state u p) (subst (λ n. state n p < 2 ^ 64) (sym same) (holds p))
              ∙ sym (ap (λ q. if q then wrapping_add (state u p) (f (last_on_place s v order a part p)) else state u p) miss)
        ]
