-- What steps over the blocks of a tail's loops make of the places of one node.
use Rattle.std.proofs.Common.{◌≡◌, ℕ, ◌<◌, ◌^◌, true, false, ◌&&◌, if◌then◌else◌, nat_lt, ltb-true, Some, List, map, refl, sym, ap, ◌∙◌, subst, inl, inr, arith}
use Rattle.std.proofs.lemmas.Bool.{cases_Bool, and_parts, false_from_ne_true, false≢true, lt-ltb}
use Rattle.std.proofs.lemmas.List.{length-map}
use Rattle.std.proofs.lemmas.List.Sorted.{IsPermutation-refl}
use Rattle.std.proofs.lemmas.Slice.Eq.{bytes_eq-Decides}
use Rattle.std.specs.List.{fold}
use Rattle.std.specs.Prelude.{IsTrue, bytes_eq, slice_get}
use Rattle.tce_base.specs.Word.{wrapping_add}
use Rattle.tce_space.specs.IndexSet.{has, members}
use Rattle.tce_space.specs.Tiling.{ArePositive}
use Rattle.tce_tree.proofs.Permutations.{among-members}
use Rattle.tce_tree.proofs.Values.{sum_over-lt}
use Rattle.tce_tree.specs.Value.{Assignment, assignment}
use Rattle.tce_tree.specs.WellFormed.{among, is_distinct}
use Rattle.tce_tree.proofs.Assignments.{all_positive}
use Rattle.tce_block.proofs.BoxSums.{blocks_total}
use Rattle.tce_block.proofs.Fitting.{fit_the_box}
use Rattle.tce_block.proofs.LastBlocks.{last_block}
use Rattle.tce_block.specs.Last.{meets, last_of_part, last_of_box}
use Rattle.tce_block.specs.Laws.{AreEdges}
use Rattle.tce_block.specs.Parts.{Part, blocks}
use Rattle.tce_walk.proofs.Folds.{fold-same, fold-at, fold-idle, fold-plus}
use Rattle.tce_walk.proofs.Places.{kept_set, place_numbers, ends_inside, last_at, last_inside}
use Rattle.tce_walk.specs.Parts.{part_growth, last_on_place, falls_on}
use Rattle.tce_code.proofs.Places.{coordinates-same}
use Rattle.tce_code.specs.Execution.{Setting, State, coordinates}
use Rattle.tce_walk.specs.TailLaws.{dims_at, AreLoops, EndsAtLast}
use Rattle.tce_walk.specs.Laws.{IsPlaceAt, StaysOutside, GrowsOnlyBySum, EndsOnlyAtLast, HoldsWords}
use Rattle.tce_walk.proofs.KnownTails.{decide-all}

abbrev pub Step : Type 0
Step = State → Part → State

-- a step leaves the places of a node, grows them, or sets them
abbrev pub Leaves : ℕ → Step → Type 0
Leaves u step = (state : State) (part : Part) (p : List ℕ) → step state part u p ≡ state u p

abbrev pub Grows : Setting → ℕ → List ℕ → (Assignment → ℕ) → Assignment → Step → Type 0
Grows s v order f a step = (state : State) (part : Part) (p : List ℕ) → step state part v p ≡ wrapping_add (state v p) (part_growth s v order f a part p)

abbrev pub Sets : Setting → ℕ → List ℕ → (Assignment → ℕ) → Assignment → Step → Type 0
Sets s v order f a step =
    (state : State) (part : Part) (p : List ℕ) → step state part v p ≡ (if falls_on s v order a part p then f (last_on_place s v order a part p) else state v p)

-- the blocks of the loops
abbrev pub blocks_at : Setting → List ℕ → (ℕ → ℕ) → List Part
blocks_at s order edge = blocks (map s.elements.extent order) (map edge order)

pub left_alone : (u : ℕ) (step : Step) (before : State) (parts : List Part) → Leaves u step → (p : List ℕ) → fold step before parts u p ≡ before u p
left_alone u step before parts leaves p =
    fold-at step (λ w part. w) u p (λ state part. leaves state part p) before parts ∙ fold-idle (λ w part. w) (before u p) parts (λ k part e. refl)

pub grown : (s : Setting) (v : ℕ) (order : List ℕ) (f : Assignment → ℕ) (a : Assignment) (edge : ℕ → ℕ) (before : State) (step : Step)
    → IsTrue (is_distinct order) → ArePositive (map edge order) → ((b : Assignment) → f b < 2 ^ 64) → HoldsWords v before → Grows s v order f a step
    → GrowsOnlyBySum s v order f a before (fold step before (blocks_at s order edge))
grown s v order f a edge before step distinct edges low words grows p =
    inl
    (fold-at step (λ w part. wrapping_add w (part_growth s v order f a part p)) v p (λ state part. grows state part p) before (blocks_at s order edge)
    ∙ fold-plus (λ part. part_growth s v order f a part p) (before v p) (blocks_at s order edge) (λ part. sum_over-lt _ order _ a (λ b. taken_low _)) (words p)
    ∙ ap (wrapping_add (before v p))
    (sym (blocks_total s.elements.extent edge order order order taken a distinct (IsPermutation-refl order) (IsPermutation-refl order) edges taken_low)))
  where
    taken : Assignment → ℕ
    taken b = if bytes_eq p (coordinates (dims_at s v) b) then f b else 0

    taken_low : (b : Assignment) → taken b < 2 ^ 64
    taken_low b = elim (cases_Bool (bytes_eq p (coordinates (dims_at s v) b))) [ inl t ↦ rw t (low b) | inr t ↦ rw t (omega arith) ]

-- the numbers that a place gives to the dims of its node
abbrev numbers_of : Setting → ℕ → List ℕ → Assignment
numbers_of s v p = assignment (members (dims_at s v)) p

-- a place on which no part falls
untouched : (s : Setting) (v : ℕ) (order : List ℕ) (f : Assignment → ℕ) (a : Assignment) (before : State) (step : Step) (parts : List Part) (p : List ℕ)
    → Sets s v order f a step → ((k : ℕ) (part : Part) → slice_get parts k ≡ Some part → falls_on s v order a part p ≡ false)
    → fold step before parts v p ≡ before v p
untouched s v order f a before step parts p sets misses =
    fold-at step (λ w part. if falls_on s v order a part p then f (last_on_place s v order a part p) else w) v p (λ state part. sets state part p) before parts
    ∙ fold-idle (λ w part. if falls_on s v order a part p then f (last_on_place s v order a part p) else w) (before v p) parts (λ k part e.
    ap (λ t. if t then f (last_on_place s v order a part p) else before v p) (misses k part e))

-- a part falls on places alone
falls_inside : (s : Setting) (v : ℕ) (order : List ℕ) (a : Assignment) (edge : ℕ → ℕ) (p : List ℕ) → ArePositive (map edge order)
    → ((i : ℕ) → has (dims_at s v) i ≡ true → among order i ≡ false → a i < s.elements.extent i)
    → (k : ℕ) (part : Part) → slice_get (blocks_at s order edge) k ≡ Some part → falls_on s v order a part p ≡ true → IsPlaceAt s v p (last_on_place s v order a part p)
falls_inside s v order a edge p edges outside k part e falls =
    let both = and_parts (meets (has (dims_at s v)) (numbers_of s v p) order part) (bytes_eq p (coordinates (dims_at s v) (last_on_place s v order a part p))) falls in
    let ranks : AreEdges (map s.elements.extent order) (map edge order) =
    record { same_rank = length-map order edge ∙ sym (length-map order s.elements.extent); positive = edges } in
    let fits = fit_the_box (map s.elements.extent order) (map edge order) ranks k part e in (
      last_inside s.elements.extent (dims_at s v) order a (numbers_of s v p) part
          (λ i m. ends_inside s.elements.extent order (map edge order) part.from part.len i fits m) outside both.0,
      sym ((bytes_eq-Decides p (coordinates (dims_at s v) (last_on_place s v order a part p))).0 both.1),
    )

-- where the loops agree with a place, a part falls on it exactly where it meets its numbers
falls_meets : (s : Setting) (v : ℕ) (order : List ℕ) (a : Assignment) (part : Part) (p : List ℕ) → p ≡ coordinates (dims_at s v) (numbers_of s v p)
    → ((i : ℕ) → has (dims_at s v) i ≡ true → among order i ≡ false → a i ≡ numbers_of s v p i)
    → falls_on s v order a part p ≡ meets (has (dims_at s v)) (numbers_of s v p) order part
falls_meets s v order a part p is agrees =
    let lands : bytes_eq p (coordinates (dims_at s v) (last_on_place s v order a part p)) ≡ true =
    ap (λ q. bytes_eq q (coordinates (dims_at s v) (last_on_place s v order a part p))) is
    ∙ coordinates-same (dims_at s v) (numbers_of s v p) (last_on_place s v order a part p)
    (λ i m. sym (last_at (dims_at s v) order a (numbers_of s v p) part i m (agrees i m))) in
    ap (λ t. meets (has (dims_at s v)) (numbers_of s v p) order part && t) lands
    ∙ elim (cases_Bool (meets (has (dims_at s v)) (numbers_of s v p) order part)) [ inl t ↦ rw t refl | inr t ↦ rw t refl ]

met : (s : Setting) (v : ℕ) (order : List ℕ) (f : Assignment → ℕ) (a : Assignment) (edge : ℕ → ℕ) (before : State) (step : Step) (p : List ℕ)
    → AreLoops s order → ArePositive (map edge order) → Sets s v order f a step → p ≡ coordinates (dims_at s v) (numbers_of s v p)
    → ((i : ℕ) → IsTrue (among order i) → IsTrue (has (dims_at s v) i) → numbers_of s v p i < s.elements.extent i)
    → ((i : ℕ) → IsTrue (has (dims_at s v) i) → among order i ≡ false → a i ≡ numbers_of s v p i)
    → fold step before (blocks_at s order edge) v p ≡ f (last_of_box s.elements.extent (has (dims_at s v)) (numbers_of s v p) order a)
met s v order f a edge before step p turns edges sets is inside agrees =
    fold-at step (λ w part. if falls_on s v order a part p then f (last_on_place s v order a part p) else w) v p (λ state part. sets state part p) before (blocks_at s order edge)
    ∙ fold-same (λ w. Unit {0}) (λ w part. if falls_on s v order a part p then f (last_on_place s v order a part p) else w)
    (λ w part. if meets (has (dims_at s v)) (numbers_of s v p) order part then f (last_of_part (has (dims_at s v)) (numbers_of s v p) order a part) else w)
    (λ w part u. ap (λ t. if t then f (last_on_place s v order a part p) else w) (falls_meets s v order a part p is agrees)) (λ w part u. tt) (before v p) (blocks_at s order edge) tt
    ∙ last_block s.elements.extent edge order (has (dims_at s v)) (numbers_of s v p) f a (before v p) turns.distinct (all_positive s.elements.extent order turns.some) edges inside

missed : (s : Setting) (v : ℕ) (order : List ℕ) (f : Assignment → ℕ) (a : Assignment) (before : State) (step : Step) (parts : List Part) (p : List ℕ) (i : ℕ)
    → Sets s v order f a step → has (dims_at s v) i ≡ true → among order i ≡ false → (a i ≡ numbers_of s v p i → ⊥) → fold step before parts v p ≡ before v p
missed s v order f a before step parts p i sets m out differ = untouched s v order f a before step parts p sets (λ k part e. false_from_ne_true (falls_on s v order a part p) (apart part))
  where
    apart : (part : Part) → falls_on s v order a part p ≡ true → ⊥
    apart part falls =
        let both = and_parts (meets (has (dims_at s v)) (numbers_of s v p) order part) (bytes_eq p (coordinates (dims_at s v) (last_on_place s v order a part p))) falls in
        let at = (bytes_eq-Decides p (coordinates (dims_at s v) (last_on_place s v order a part p))).0 both.1 in
        let kept : last_on_place s v order a part p i ≡ a i = rw out refl in
        differ (sym (place_numbers (dims_at s v) (last_on_place s v order a part p) p i (kept_set s v) at m ∙ kept))

ends : (s : Setting) (v : ℕ) (order : List ℕ) (f : Assignment → ℕ) (a : Assignment) (edge : ℕ → ℕ) (before : State) (step : Step) (p : List ℕ)
    → AreLoops s order → ArePositive (map edge order) → Sets s v order f a step → p ≡ coordinates (dims_at s v) (numbers_of s v p)
    → EndsAtLast s v order f a before (fold step before (blocks_at s order edge)) (numbers_of s v p)
ends s v order f a edge before step p turns edges sets is = record {
  met = λ inside agrees.
      subst (λ q. fold step before (blocks_at s order edge) v q ≡ f (last_of_box s.elements.extent (has (dims_at s v)) (numbers_of s v p) order a)) is
      (met s v order f a edge before step p turns edges sets is inside agrees);
  missed = λ i m out differ.
      subst (λ q. fold step before (blocks_at s order edge) v q ≡ before v q) is
      (missed s v order f a before step (blocks_at s order edge) p i sets m out differ);
}

pub set_last : (s : Setting) (v : ℕ) (order : List ℕ) (f : Assignment → ℕ) (a : Assignment) (edge : ℕ → ℕ) (before : State) (step : Step)
    → AreLoops s order → ArePositive (map edge order) → ((i : ℕ) → has (dims_at s v) i ≡ true → among order i ≡ false → a i < s.elements.extent i)
    → Sets s v order f a step → EndsOnlyAtLast s v order f a before (fold step before (blocks_at s order edge))
set_last s v order f a edge before step turns edges outside sets p =
    elim (cases_Bool (bytes_eq p (coordinates (dims_at s v) (numbers_of s v p)))) [
      | inl t ↦
          let is = (bytes_eq-Decides p (coordinates (dims_at s v) (numbers_of s v p))).0 t in
          elim (decide-all (members (dims_at s v)) (λ i. nat_lt (numbers_of s v p i) (s.elements.extent i))) [
            | inl all ↦ inl (
              numbers_of s v p,
              ((λ i m. ltb-true (numbers_of s v p i) (s.elements.extent i) (all i (named i ∙ m))), sym is),
              ends s v order f a edge before step p turns edges sets is,
            )
            | inr one ↦ inr (stays (λ c place.
                let here = place.0 one.0 (sym (named one.0) ∙ one.1) in
                let same = place_numbers (dims_at s v) c p one.0 (kept_set s v) (sym place.1) (sym (named one.0) ∙ one.1) in
                false≢true (sym one.2 ∙ lt-ltb (numbers_of s v p one.0) (s.elements.extent one.0) (subst (λ n. n < s.elements.extent one.0) (sym same) here))))
          ]
      | inr f ↦ inr (stays (λ c place.
          false≢true (sym f ∙ ap (λ q. bytes_eq q (coordinates (dims_at s v) (numbers_of s v p))) (sym place.1)
          ∙ coordinates-same (dims_at s v) c (numbers_of s v p) (λ i m. sym (place_numbers (dims_at s v) c p i (kept_set s v) (sym place.1) m)))))
    ]
  where
    named : (i : ℕ) → among (members (dims_at s v)) i ≡ has (dims_at s v) i
    named i = among-members (dims_at s v) i (kept_set s v)

    stays : ((c : Assignment) → IsPlaceAt s v p c → ⊥) → StaysOutside s v p before (fold step before (blocks_at s order edge))
    stays none = record {
      outside = none;
      same = untouched s v order f a before step (blocks_at s order edge) p sets
          (λ k part e. false_from_ne_true (falls_on s v order a part p) (λ falls. none (last_on_place s v order a part p) (falls_inside s v order a edge p edges outside k part e falls)));
    }
