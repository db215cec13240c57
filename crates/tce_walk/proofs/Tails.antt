-- Loops round one action: what they leave.
use Rattle.std.proofs.Common.{◌≡◌, ℕ, zero, suc, ◌+◌, ◌-◌, ◌<◌, Bool, true, false, eqb, List, [], ◌∷◌, if◌then◌else◌, refl, sym, ap, ap₂, ◌∙◌, inl, inr, arith}
use Rattle.std.specs.Prelude.{bytes_eq}
use Rattle.std.proofs.lemmas.Bool.{true≢false, ne_eqb, eq-eqb, cases_Bool, cases_eq, or_left, or_right}
use Rattle.std.proofs.lemmas.Slice.Eq.{bytes_eq-Decides}
use Rattle.tce_base.specs.Word.{wrapping_add}
use Rattle.tce_base.proofs.Words.{plus-zero}
use Rattle.tce_space.specs.IndexSet.{has}
use Rattle.tce_tree.specs.ContractionTree.{Arithmetic, ContractionTree, leaf, constant, binary, sum, is_leaf, operations, node, left_tree, right_tree}
use Rattle.tce_tree.specs.Fusion.{kept_dims}
use Rattle.tce_tree.specs.Value.{Assignment, with_number, arithmetic, sum_over}
use Rattle.tce_tree.specs.WellFormed.{among, is_distinct}
use Rattle.tce_tree.proofs.Lists.{distinct_first, distinct_later}
use Rattle.tce_tree.proofs.Assignments.{with-same, with-other}
use Rattle.tce_code.specs.Execution.{Setting, State, exec, repeated, coordinates, with_word, operand_word, left_word, right_word}
use Rattle.tce_code.specs.Program.{stop, step, accumulate, compute}
use Rattle.tce_code.proofs.Places.{coordinates-same}
use Rattle.tce_code.proofs.Readings.{nest_word, repeated_related}
use Rattle.tce_code.proofs.Sums.{repeated-plus, hits, IsBelowLimit, loop-one}
use Rattle.tce_code.proofs.Words.{IsWord}
use Rattle.tce_walk.specs.TailLaws.{SameBut, SameButTwo}
use Rattle.tce_walk.specs.Tails.{loops_round}

-- the operand's word is that of the state before, as the tail changes places of `v` alone
abbrev pub ReadsElsewhere : Setting → ℕ → State → Type 0
ReadsElsewhere s v before = (state : State) → SameBut v before state → (a : Assignment) → left_word s v state a ≡ left_word s v before a

accumulated : (s : Setting) (v : ℕ) (before state : State) (a : Assignment) (p : List ℕ) → ReadsElsewhere s v before → SameBut v before state
    → exec s (step (accumulate v) stop) state a v p
    ≡ (if bytes_eq p (coordinates (kept_dims s.tree s.fusion v) a) then wrapping_add (state v p) (left_word s v before a) else state v p)
accumulated s v before state a p reads same =
    rw (eq-eqb v v refl)
    (elim (cases_Bool (bytes_eq p (coordinates (kept_dims s.tree s.fusion v) a))) [
      | inl h ↦ rw h (ap₂ wrapping_add (ap (state v) (sym ((bytes_eq-Decides p (coordinates (kept_dims s.tree s.fusion v) a)).0 h))) (reads state same a))
      | inr h ↦ rw h refl
    ])

-- a tail of one `Acc` leaves the closed form, and changes no other node
pub tail-word : (s : Setting) (v : ℕ) (before : State) → ReadsElsewhere s v before → (order : List ℕ) (state : State) (a : Assignment) → SameBut v before state
    → SameBut v before (exec s (loops_round order (step (accumulate v) stop)) state a)
    × ((p : List ℕ) → exec s (loops_round order (step (accumulate v) stop)) state a v p
    ≡ nest_word s.elements.extent (λ b. bytes_eq p (coordinates (kept_dims s.tree s.fusion v) b)) (λ b w. wrapping_add w (left_word s v before b)) order a (state v p))
tail-word s v before reads [] state a same = (
  (λ u ne p. (rw (ne_eqb u v ne) refl) ∙ same u ne p),
  (λ p. accumulated s v before state a p reads same),
)
tail-word s v before reads (i ∷ order) state a same = (
  (repeated_related {Y = ℕ} (λ after w. SameBut v before after) (s.elements.extent i)
      (λ x inside. exec s (loops_round order (step (accumulate v) stop)) inside (with_number a i x)) (λ x w. w) state 0 same
      (λ x after w l h. (tail-word s v before reads order after (with_number a i x) h).0)),
  (λ p. (repeated_related (λ after w. SameBut v before after × (after v p ≡ w)) (s.elements.extent i)
      (λ x inside. exec s (loops_round order (step (accumulate v) stop)) inside (with_number a i x))
      (λ x w. nest_word s.elements.extent (λ b. bytes_eq p (coordinates (kept_dims s.tree s.fusion v) b)) (λ b y. wrapping_add y (left_word s v before b)) order (with_number a i x) w)
      state (state v p) (same, refl)
      (λ x after w l h.
      let r = tail-word s v before reads order after (with_number a i x) h.0 in (
        r.0,
        r.1 p ∙ ap (nest_word s.elements.extent (λ b. bytes_eq p (coordinates (kept_dims s.tree s.fusion v) b)) (λ b y. wrapping_add y (left_word s v before b)) order (with_number a i x)) h.1,
      ))).1),
)

-- the closed form as one sum: the old word and the words of the assignments that fall on the coordinates
pub nest_word-total : (extent : ℕ → ℕ) (hits : Assignment → Bool) (f : Assignment → ℕ) (order : List ℕ) (a : Assignment) (old : ℕ) → IsWord old
    → nest_word extent hits (λ b w. wrapping_add w (f b)) order a old
    ≡ wrapping_add old (sum_over extent order (λ b. if hits b then f b else 0) a)
nest_word-total extent hits f [] a old h =
    elim (cases_Bool (hits a)) [
      | inl t ↦ rw t refl
      | inr t ↦ rw t (sym (plus-zero old h))
    ]
nest_word-total extent hits f (i ∷ order) a old h =
    repeated-plus (extent i) (λ x w. nest_word extent hits (λ b y. wrapping_add y (f b)) order (with_number a i x) w)
    (λ x. sum_over extent order (λ b. if hits b then f b else 0) (with_number a i x)) old h
    (λ x y l word_y. nest_word-total extent hits f order (with_number a i x) y word_y)

-- the last assignment of the loops that falls on the coordinates of `b`
abbrev pub last_hit : (ℕ → ℕ) → ℕ → Assignment → List ℕ → Assignment → Assignment
last_hit extent set b [] a = a
last_hit extent set b (i ∷ order) a = last_hit extent set b order (with_number a i (if has set i then b i else extent i - 1))

-- a coordinates that is set ends with the word at that assignment
pub nest_word-last : (extent : ℕ → ℕ) (set : ℕ) (f : Assignment → ℕ) (b : Assignment) → IsBelowLimit set
    → (order : List ℕ) → is_distinct order ≡ true → ((i : ℕ) → among order i ≡ true → 0 < extent i)
    → ((i : ℕ) → among order i ≡ true → has set i ≡ true → b i < extent i)
    → (a : Assignment) (old : ℕ) → ((i : ℕ) → has set i ≡ true → among order i ≡ false → a i ≡ b i)
    → nest_word extent (hits set b) (λ z w. f z) order a old ≡ f (last_hit extent set b order a)
nest_word-last extent set f b low [] d some l a old h = rw (coordinates-same set b a (λ i m. sym (h i m refl))) refl
nest_word-last extent set f b low (i ∷ order) d some l a old h =
    elim (cases_Bool (has set i)) [
      | inl t ↦
          loop-one extent set (λ z w. f z) b i order a old low t (distinct_first i order d) (l i first t)
          ∙ nest_word-last extent set f b low order (distinct_later i order d) (λ j m. some j (or_right (eqb i j) (among order j) m)) (λ j m. l j (or_right (eqb i j) (among order j) m))
          (with_number a i (b i)) old
          (λ j k m. elim (cases_eq j i) [
            | inl q ↦ rw q (with-same a i (b i))
            | inr q ↦ with-other a i (b i) j q ∙ h j k (rw (ne_eqb i j (λ r. q (sym r))) m)
          ])
          ∙ (rw t refl)
      | inr t ↦
          last_turn (extent i) (λ x w. nest_word extent (hits set b) (λ z y. f z) order (with_number a i x) w) old
          (λ x. f (last_hit extent set b order (with_number a i x))) (some i first)
          (λ x y k. nest_word-last extent set f b low order (distinct_later i order d) (λ j m. some j (or_right (eqb i j) (among order j) m))
          (λ j m. l j (or_right (eqb i j) (among order j) m)) (with_number a i x) y
          (λ j k m. with-other a i x j (λ q. true≢false (sym k ∙ ap (has set) q ∙ t))
          ∙ h j k (rw (ne_eqb i j (λ r. true≢false (sym k ∙ ap (has set) (sym r) ∙ t))) m)))
          ∙ (rw t refl)
    ]
  where
    first : among (i ∷ order) i ≡ true
    first = or_left (eqb i i) (among order i) (eq-eqb i i refl)

    last_turn : (n : ℕ) (turn : ℕ → ℕ → ℕ) (w : ℕ) (g : ℕ → ℕ) → 0 < n → ((x y : ℕ) → x < n → turn x y ≡ g x) → repeated n turn w ≡ g (n - 1)
    last_turn zero turn w g some same = absurd (omega arith)
    last_turn (suc n) turn w g some same =
        let back : n ≡ suc n - 1 = omega arith in same n (repeated n turn w) (omega arith) ∙ ap g back

pub last_hit-at : (extent : ℕ → ℕ) (set : ℕ) (b : Assignment) (order : List ℕ) (a : Assignment) (j : ℕ) → is_distinct order ≡ true
    → last_hit extent set b order a j ≡ (if among order j then (if has set j then b j else extent j - 1) else a j)
last_hit-at extent set b [] a j d = refl
last_hit-at extent set b (i ∷ order) a j d =
    last_hit-at extent set b order (with_number a i (if has set i then b i else extent i - 1)) j (distinct_later i order d)
    ∙ elim (cases_eq j i) [
      | inl q ↦ rw (q, distinct_first i order d, eq-eqb i i refl) refl
      | inr q ↦ rw (ne_eqb j i q, ne_eqb i j (λ r. q (sym r))) refl
    ]

-- a tail of a product joined to its sum: the sum's places get the products
pub joined-word : (s : Setting) (op : Arithmetic) (u v : ℕ) (before : State) → (u ≡ v → ⊥)
    → ((state : State) → SameButTwo u v before state → (a : Assignment) → left_word s u state a ≡ left_word s u before a)
    → ((state : State) → SameButTwo u v before state → (a : Assignment) → right_word s u state a ≡ right_word s u before a)
    → ((state : State) (a : Assignment) → left_word s v state a ≡ state u (coordinates (kept_dims s.tree s.fusion u) a))
    → (order : List ℕ) (state : State) (a : Assignment) → SameButTwo u v before state
    → SameButTwo u v before (exec s (loops_round order (step (compute op u) (step (accumulate v) stop))) state a)
    × ((p : List ℕ) → exec s (loops_round order (step (compute op u) (step (accumulate v) stop))) state a v p
    ≡ nest_word s.elements.extent (λ b. bytes_eq p (coordinates (kept_dims s.tree s.fusion v) b))
    (λ b w. wrapping_add w (arithmetic op (left_word s u before b) (right_word s u before b))) order a (state v p))
    × ((p : List ℕ) → exec s (loops_round order (step (compute op u) (step (accumulate v) stop))) state a u p
    ≡ nest_word s.elements.extent (λ b. bytes_eq p (coordinates (kept_dims s.tree s.fusion u) b))
    (λ b w. arithmetic op (left_word s u before b) (right_word s u before b)) order a (state u p))
joined-word s op u v before ne left_same right_same takes [] state a same = (
  (λ w nu nv p. (rw (ne_eqb w v nv, ne_eqb w u nu) refl) ∙ same w nu nv p),
  (λ p. rw (eq-eqb v v refl)
      (elim (cases_Bool (bytes_eq p (coordinates (kept_dims s.tree s.fusion v) a))) [
        | inl h ↦ rw h
            (ap₂ wrapping_add
            (apart (coordinates (kept_dims s.tree s.fusion v) a) ∙ ap (state v) (sym ((bytes_eq-Decides p (coordinates (kept_dims s.tree s.fusion v) a)).0 h)))
            (takes product a ∙ found ∙ ap₂ (arithmetic op) (left_same state same a) (right_same state same a)))
        | inr h ↦ rw h (apart p)
      ])),
  (λ p. rw (ne_eqb u v ne, eq-eqb u u refl)
      (ap₂ (λ x y. if bytes_eq p (coordinates (kept_dims s.tree s.fusion u) a) then arithmetic op x y else state u p) (left_same state same a) (right_same state same a))),
)
  where
    product : State
    product = with_word state u (coordinates (kept_dims s.tree s.fusion u) a) (arithmetic op (left_word s u state a) (right_word s u state a))

    apart : (q : List ℕ) → product v q ≡ state v q
    apart q = rw (ne_eqb v u (λ e. ne (sym e))) refl

    found : product u (coordinates (kept_dims s.tree s.fusion u) a) ≡ arithmetic op (left_word s u state a) (right_word s u state a)
    found = rw (eq-eqb u u refl, (bytes_eq-Decides (coordinates (kept_dims s.tree s.fusion u) a) (coordinates (kept_dims s.tree s.fusion u) a)).1 refl) refl
joined-word s op u v before ne left_same right_same takes (i ∷ order) state a same = (
  repeated_related {Y = ℕ} (λ after w. SameButTwo u v before after) (s.elements.extent i)
      (λ x inside. exec s (loops_round order (step (compute op u) (step (accumulate v) stop))) inside (with_number a i x)) (λ x w. w) state 0 same
      (λ x after w l h. (joined-word s op u v before ne left_same right_same takes order after (with_number a i x) h).0),
  (λ p. (repeated_related (λ after w. SameButTwo u v before after × (after v p ≡ w)) (s.elements.extent i)
      (λ x inside. exec s (loops_round order (step (compute op u) (step (accumulate v) stop))) inside (with_number a i x))
      (λ x w. nest_word s.elements.extent (λ b. bytes_eq p (coordinates (kept_dims s.tree s.fusion v) b))
      (λ b y. wrapping_add y (arithmetic op (left_word s u before b) (right_word s u before b))) order (with_number a i x) w)
      state (state v p) (same, refl)
      (λ x after w l h.
      let r = joined-word s op u v before ne left_same right_same takes order after (with_number a i x) h.0 in (
        r.0,
        r.1 p ∙ ap (nest_word s.elements.extent (λ b. bytes_eq p (coordinates (kept_dims s.tree s.fusion v) b))
            (λ b y. wrapping_add y (arithmetic op (left_word s u before b) (right_word s u before b))) order (with_number a i x)) h.1,
      ))).1),
  (λ p. (repeated_related (λ after w. SameButTwo u v before after × (after u p ≡ w)) (s.elements.extent i)
      (λ x inside. exec s (loops_round order (step (compute op u) (step (accumulate v) stop))) inside (with_number a i x))
      (λ x w. nest_word s.elements.extent (λ b. bytes_eq p (coordinates (kept_dims s.tree s.fusion u) b))
      (λ b y. arithmetic op (left_word s u before b) (right_word s u before b)) order (with_number a i x) w)
      state (state u p) (same, refl)
      (λ x after w l h.
      let r = joined-word s op u v before ne left_same right_same takes order after (with_number a i x) h.0 in (
        r.0,
        r.2 p ∙ ap (nest_word s.elements.extent (λ b. bytes_eq p (coordinates (kept_dims s.tree s.fusion u) b))
            (λ b y. arithmetic op (left_word s u before b) (right_word s u before b)) order (with_number a i x)) h.1,
      ))).1),
)

-- a tail of one action that sets its places
pub computed-word : (s : Setting) (op : Arithmetic) (v : ℕ) (before : State)
    → ((state : State) → SameBut v before state → (a : Assignment) → left_word s v state a ≡ left_word s v before a)
    → ((state : State) → SameBut v before state → (a : Assignment) → right_word s v state a ≡ right_word s v before a)
    → (order : List ℕ) (state : State) (a : Assignment) → SameBut v before state
    → SameBut v before (exec s (loops_round order (step (compute op v) stop)) state a)
    × ((p : List ℕ) → exec s (loops_round order (step (compute op v) stop)) state a v p
    ≡ nest_word s.elements.extent (λ b. bytes_eq p (coordinates (kept_dims s.tree s.fusion v) b))
    (λ b w. arithmetic op (left_word s v before b) (right_word s v before b)) order a (state v p))
computed-word s op v before left_same right_same [] state a same = (
  (λ u ne p. (rw (ne_eqb u v ne) refl) ∙ same u ne p),
  (λ p. rw (eq-eqb v v refl)
      (ap₂ (λ x y. if bytes_eq p (coordinates (kept_dims s.tree s.fusion v) a) then arithmetic op x y else state v p) (left_same state same a) (right_same state same a))),
)
computed-word s op v before left_same right_same (i ∷ order) state a same = (
  repeated_related {Y = ℕ} (λ after w. SameBut v before after) (s.elements.extent i)
      (λ x inside. exec s (loops_round order (step (compute op v) stop)) inside (with_number a i x)) (λ x w. w) state 0 same
      (λ x after w l h. (computed-word s op v before left_same right_same order after (with_number a i x) h).0),
  (λ p. (repeated_related (λ after w. SameBut v before after × (after v p ≡ w)) (s.elements.extent i)
      (λ x inside. exec s (loops_round order (step (compute op v) stop)) inside (with_number a i x))
      (λ x w. nest_word s.elements.extent (λ b. bytes_eq p (coordinates (kept_dims s.tree s.fusion v) b))
      (λ b y. arithmetic op (left_word s v before b) (right_word s v before b)) order (with_number a i x) w)
      state (state v p) (same, refl)
      (λ x after w l h.
      let r = computed-word s op v before left_same right_same order after (with_number a i x) h.0 in (
        r.0,
        r.1 p ∙ ap (nest_word s.elements.extent (λ b. bytes_eq p (coordinates (kept_dims s.tree s.fusion v) b))
            (λ b y. arithmetic op (left_word s v before b) (right_word s v before b)) order (with_number a i x)) h.1,
      ))).1),
)

-- an operand's word is in the places of its own node
pub operand-elsewhere : (s : Setting) (c : ContractionTree) (u v : ℕ) → (is_leaf c ≡ false → u ≡ v → ⊥)
    → (before state : State) → SameBut v before state → (a : Assignment) → operand_word s c u state a ≡ operand_word s c u before a
operand-elsewhere s (leaf tensor indexes) u v ne before state same a = refl
operand-elsewhere s (constant number) u v ne before state same a = refl
operand-elsewhere s (binary op left right) u v ne before state same a = same u (ne refl) (coordinates (kept_dims s.tree s.fusion u) a)
operand-elsewhere s (sum indexes operand) u v ne before state same a = same u (ne refl) (coordinates (kept_dims s.tree s.fusion u) a)

-- operands that are nodes have lower numbers
pub left-elsewhere : (s : Setting) (v : ℕ) → (is_leaf (left_tree (node s.tree v)) ≡ false → 0 < v)
    → (before state : State) → SameBut v before state → (a : Assignment) → left_word s v state a ≡ left_word s v before a
left-elsewhere s v some before state same a =
    operand-elsewhere s (left_tree (node s.tree v)) (v - 1 - operations (right_tree (node s.tree v))) v
    (λ n e. let m = some n in omega arith) before state same a

pub right-elsewhere : (s : Setting) (v : ℕ) → (is_leaf (right_tree (node s.tree v)) ≡ false → 0 < v)
    → (before state : State) → SameBut v before state → (a : Assignment) → right_word s v state a ≡ right_word s v before a
right-elsewhere s v some before state same a =
    operand-elsewhere s (right_tree (node s.tree v)) (v - 1) v (λ n e. let m = some n in omega arith) before state same a

-- the word that a sum takes from the node before it
pub sum-takes : (s : Setting) (u : ℕ) (indexes : List ℕ) (operand : ContractionTree) → node s.tree (u + 1) ≡ sum indexes operand → is_leaf operand ≡ false
    → (state : State) (a : Assignment) → left_word s (u + 1) state a ≡ state u (coordinates (kept_dims s.tree s.fusion u) a)
sum-takes s u indexes operand at n state a = rw at (inner operand n)
  where
    number : u + 1 - 1 - 0 ≡ u
    number = omega arith

    inner : (c : ContractionTree) → is_leaf c ≡ false → operand_word s c (u + 1 - 1 - 0) state a ≡ state u (coordinates (kept_dims s.tree s.fusion u) a)
    inner (leaf tensor is) m = absurd (true≢false m)
    inner (constant k) m = absurd (true≢false m)
    inner (binary op l r) m = ap (λ w. state w (coordinates (kept_dims s.tree s.fusion w) a)) number
    inner (sum is e) m = ap (λ w. state w (coordinates (kept_dims s.tree s.fusion w) a)) number
