-- What a body of a band leaves, from two states that agree wherever it writes nothing.
use Rattle.std.proofs.Common.{◌≡◌, ℕ, zero, suc, ◌-◌, ◌<◌, true, false, not, ◌&&◌, ◌||◌, eqb, eqb-true, Bool, Option, Some, None, List, [], refl, sym, ap, ap₂, ◌∙◌, subst, inl, inr, arith}
use Rattle.std.proofs.lemmas.Bool.{cases_Bool, cases_eq, and_parts, or_cases, not-true, eq-eqb, ne_eqb, true≢false, or_right}
use Rattle.std.proofs.lemmas.Slice.Eq.{bytes_eq-Decides}
use Rattle.std.specs.List.{list_all}
use Rattle.std.specs.Prelude.{bytes_eq, ◌⊎◌, ◌==◌, if◌then◌else◌}
use Rattle.tce_base.specs.Word.{wrapping_add}
use Rattle.tce_base.proofs.Words.{plus_assoc}
use Rattle.tce_space.specs.IndexSet.{has, members}
use Rattle.tce_tree.proofs.Assignments.{with-other}
use Rattle.tce_tree.proofs.Lists.{among-all}
use Rattle.tce_tree.specs.ContractionTree.{Arithmetic, ContractionTree, leaf, constant, binary, sum, operations, node, left_tree, right_tree}
use Rattle.tce_tree.specs.Value.{Assignment, assignment, arithmetic, with_number}
use Rattle.tce_tree.specs.WellFormed.{among}
use Rattle.tce_code.specs.Execution.{Setting, State, coordinates, operand_word, left_word, right_word, with_word, apply, exec, repeated}
use Rattle.tce_code.specs.Program.{Action, clear, compute, accumulate, Program, stop, step, loop}
use Rattle.tce_walk.proofs.Places.{kept_set, place_numbers}
use Rattle.tce_walk.specs.Bands.{Known, is_sum, is_ready, left_ready, right_ready, action_passes, written_by, gained, known_after, passes, HaveTurns}
use Rattle.tce_walk.specs.TailLaws.{dims_at}

-- places that no action of the body writes: those of a node outside, and of a node with a single place all others
abbrev pub IsFree : Setting → Known → ℕ → List ℕ → Type 0
IsFree s outside v p = (outside v ≡ true) ⊎ ((is_sum (node s.tree v) ≡ false) × (dims_at s v ≡ 0) × (p ≡ [] → ⊥))

-- a word is added to a sum, and set elsewhere
abbrev pub put_on : Bool → ℕ → ℕ → ℕ
put_on true w x = wrapping_add w x
put_on false w x = x

abbrev pub changed : Bool → Option ℕ → ℕ → ℕ
changed grows None w = w
changed grows (Some x) w = put_on grows w x

abbrev pub also_changed : Bool → Option ℕ → ℕ → Option ℕ
also_changed grows None y = Some y
also_changed grows (Some x) y = Some (put_on grows x y)

changed_on : (grows : Bool) (c : Option ℕ) (y w : ℕ) → changed grows (also_changed grows c y) w ≡ put_on grows (changed grows c w) y
changed_on grows None y w = refl
changed_on true (Some x) y w = sym (plus_assoc w x y)
changed_on false (Some x) y w = refl

-- a place of node `t` is only set where it has the numbers of the band's loops
abbrev pub Lands : Setting → ℕ → List ℕ → Assignment → List ℕ → Option ℕ → Type 0
Lands s t order b p None = Unit {0}
Lands s t order b p (Some x) = (is_sum (node s.tree t) ≡ true) ⊎ ((i : ℕ) → among order i ≡ true → assignment (members (dims_at s t)) p i ≡ b i)

pub record Carried (s : Setting) (t : ℕ) (order : List ℕ) (b : Assignment) (e f now other : State) (p : List ℕ) : Type 0 where
  pub change : Option ℕ
  pub lands : Lands s t order b p change
  pub here : now t p ≡ changed (is_sum (node s.tree t)) change (e t p)
  pub there : other t p ≡ changed (is_sum (node s.tree t)) change (f t p)

-- two states that come of two others: known nodes are the same, free places are as before, and the places of node `t` have changed alike
pub record Follows (s : Setting) (t : ℕ) (order : List ℕ) (outside : Known) (b : Assignment) (e f : State) (known : Known) (now other : State) : Type 0 where
  pub agreed : (v : ℕ) (p : List ℕ) → known v ≡ true → now v p ≡ other v p
  pub free : (v : ℕ) (p : List ℕ) → IsFree s outside v p → now v p ≡ e v p
  pub other_free : (v : ℕ) (p : List ℕ) → IsFree s outside v p → other v p ≡ f v p
  pub carried : (p : List ℕ) → Carried s t order b e f now other p

-- a word that is written at a place
decide_place : (u v : ℕ) (p at : List ℕ) → ((u ≡ v) × (p ≡ at)) ⊎ (u ≡ v → p ≡ at → ⊥)
decide_place u v p at =
    elim (cases_eq u v) [
      | inr ne ↦ inr (λ q r. ne q)
      | inl q ↦ elim (cases_Bool (bytes_eq p at)) [
        | inl h ↦ inl (q, (bytes_eq-Decides p at).0 h)
        | inr h ↦ inr (λ _ r. true≢false (sym ((bytes_eq-Decides p at).1 r) ∙ h))
      ]
    ]

pub written_here : (state : State) (v : ℕ) (at : List ℕ) (w u : ℕ) (p : List ℕ) → u ≡ v → p ≡ at → with_word state v at w u p ≡ w
written_here state v at w u p q r = rw (eq-eqb u v q, (bytes_eq-Decides p at).1 r) refl

pub not_written : (state : State) (v : ℕ) (at : List ℕ) (w u : ℕ) (p : List ℕ) → (u ≡ v → p ≡ at → ⊥) → with_word state v at w u p ≡ state u p
not_written state v at w u p away =
    elim (cases_Bool (eqb u v)) [
      | inr ne ↦ rw ne refl
      | inl q ↦ elim (cases_Bool (bytes_eq p at)) [
        | inl h ↦ absurd (away (eqb-true u v q) ((bytes_eq-Decides p at).0 h))
        | inr h ↦ rw (q, h) refl
      ]
    ]

-- a word that is written into both states
both_written : (s : Setting) (t : ℕ) (order : List ℕ) (outside : Known) (b : Assignment) (e f : State) (known more : Known) (now other : State) (v : ℕ) (at : List ℕ) (w y : ℕ)
    → Follows s t order outside b e f known now other → (IsFree s outside v at → ⊥)
    → (more v ≡ true → w ≡ y) → ((u : ℕ) (p : List ℕ) → more u ≡ true → (u ≡ v → p ≡ at → ⊥) → now u p ≡ other u p)
    → ((p : List ℕ) → t ≡ v → p ≡ at → Carried s t order b e f (with_word now v at w) (with_word other v at y) p)
    → Follows s t order outside b e f more (with_word now v at w) (with_word other v at y)
both_written s t order outside b e f known more now other v at w y h not_free here elsewhere carry = record {
  agreed = λ u p m.
      elim (decide_place u v p at) [
        | inl q ↦ written_here now v at w u p q.0 q.1 ∙ here (ap more (sym q.0) ∙ m) ∙ sym (written_here other v at y u p q.0 q.1)
        | inr away ↦ not_written now v at w u p away ∙ elsewhere u p m away ∙ sym (not_written other v at y u p away)
      ];
  free = λ u p m. not_written now v at w u p (λ q r. not_free (moved u p q r m)) ∙ h.free u p m;
  other_free = λ u p m. not_written other v at y u p (λ q r. not_free (moved u p q r m)) ∙ h.other_free u p m;
  carried = λ p.
      elim (decide_place t v p at) [
        | inl q ↦ carry p q.0 q.1
        | inr away ↦ record {
          change = (h.carried p).change;
          lands = (h.carried p).lands;
          here = not_written now v at w t p away ∙ (h.carried p).here;
          there = not_written other v at y t p away ∙ (h.carried p).there;
        }
      ];
}
  where
    moved : (u : ℕ) (p : List ℕ) → u ≡ v → p ≡ at → IsFree s outside u p → IsFree s outside v at
    moved u p q r m = subst (λ x. IsFree s outside x at) q (subst (IsFree s outside u) r m)

-- operands that are ready have the same words in both
ready_same : (s : Setting) (known : Known) (c : ContractionTree) (u : ℕ) (now other : State) (a : Assignment) → is_ready known c u ≡ true
    → ((v : ℕ) (p : List ℕ) → known v ≡ true → now v p ≡ other v p) → operand_word s c u now a ≡ operand_word s c u other a
ready_same s known (leaf tensor indexes) u now other a m same = refl
ready_same s known (constant number) u now other a m same = refl
ready_same s known (binary op l r) u now other a m same = same u (coordinates (dims_at s u) a) m
ready_same s known (sum is c) u now other a m same = same u (coordinates (dims_at s u) a) m

left_same : (s : Setting) (known : Known) (v : ℕ) (now other : State) (a : Assignment) → left_ready s.tree known v ≡ true
    → ((u : ℕ) (p : List ℕ) → known u ≡ true → now u p ≡ other u p) → left_word s v now a ≡ left_word s v other a
left_same s known v now other a m same = ready_same s known (left_tree (node s.tree v)) (v - 1 - operations (right_tree (node s.tree v))) now other a m same

right_same : (s : Setting) (known : Known) (v : ℕ) (now other : State) (a : Assignment) → right_ready s.tree known v ≡ true
    → ((u : ℕ) (p : List ℕ) → known u ≡ true → now u p ≡ other u p) → right_word s v now a ≡ right_word s v other a
right_same s known v now other a m same = ready_same s known (right_tree (node s.tree v)) (v - 1) now other a m same

pub no_coordinates : (set : ℕ) (a : Assignment) → set ≡ 0 → coordinates set a ≡ []
unfolding members has
no_coordinates set a none = ap (λ n. coordinates n a) none ∙ refl

-- an action's own place is not free
own_place : (s : Setting) (outside : Known) (v : ℕ) (a : Assignment) → not (outside v) ≡ true → IsFree s outside v (coordinates (dims_at s v) a) → ⊥
own_place s outside v a inner (inl m) = true≢false (sym m ∙ not-true (outside v) inner)
own_place s outside v a inner (inr m) = m.2 (no_coordinates (dims_at s v) a m.1)

-- what is known is known after an action, and after a program
pub gained_more : (t : ℕ) (known : Known) (v u : ℕ) → known u ≡ true → gained t known v u ≡ true
gained_more t known v u m =
    elim (cases_Bool (eqb v t)) [
      | inl q ↦ rw q m
      | inr q ↦ rw q (or_right (eqb u v) (known u) m)
    ]

pub known_more : (t : ℕ) (program : Program) (known : Known) (u : ℕ) → known u ≡ true → known_after t known program u ≡ true
known_more t stop known u m = m
known_more t (step action rest) known u m = known_more t rest (gained t known (written_by action)) u (gained_more t known (written_by action) u m)
known_more t (loop i body rest) known u m = known_more t rest (known_after t known body) u (known_more t body known u m)

-- a node other than `t` that is gained
gained_other : (t : ℕ) (known : Known) (v u : ℕ) → gained t known v u ≡ true → (u ≡ v → ⊥) → known u ≡ true
gained_other t known v u m ne =
    elim (cases_Bool (eqb v t)) [
      | inl q ↦ (rw q at m)
      | inr q ↦ (rw (q, ne_eqb u v ne) at m)
    ]

gained_carrier : (t : ℕ) (known : Known) (v u : ℕ) → v ≡ t → gained t known v u ≡ true → known u ≡ true
gained_carrier t known v u q m = (rw (eq-eqb v t q) at m)

clear_follows : (s : Setting) (t : ℕ) (order : List ℕ) (outside : Known) (b : Assignment) (e f : State) (known : Known) (now other : State) (v : ℕ) (a : Assignment)
    → action_passes s.tree s.fusion order t outside known (clear v) ≡ true → Follows s t order outside b e f known now other
    → Follows s t order outside b e f (gained t known v) (apply s (clear v) now a) (apply s (clear v) other a)
clear_follows s t order outside b e f known now other v a m h =
    let inner = and_parts (not (outside v)) (not (eqb v t) && is_sum (node s.tree v)) m in
    let kinds = and_parts (not (eqb v t)) (is_sum (node s.tree v)) inner.1 in
    let not_free : (u : ℕ) (p : List ℕ) → IsFree s outside u p → u ≡ v → ⊥ = λ u p free q.
    elim free [
      | inl k ↦ true≢false (sym k ∙ ap outside q ∙ not-true (outside v) inner.0)
      | inr k ↦ true≢false (sym kinds.1 ∙ ap (λ x. is_sum (node s.tree x)) (sym q) ∙ k.0)
    ] in
    record {
      agreed = λ u p k.
          elim (cases_eq u v) [
            | inl q ↦ rw (eq-eqb u v q) refl
            | inr ne ↦ rw (ne_eqb u v ne) (h.agreed u p (gained_other t known v u k ne))
          ];
      free = λ u p k. (rw (ne_eqb u v (not_free u p k)) refl) ∙ h.free u p k;
      other_free = λ u p k. (rw (ne_eqb u v (not_free u p k)) refl) ∙ h.other_free u p k;
      carried = λ p.
          let apart : eqb t v ≡ false = ne_eqb t v (λ q. true≢false (sym (eq-eqb v t (sym q)) ∙ not-true (eqb v t) kinds.0)) in
          record {
            change = (h.carried p).change;
            lands = (h.carried p).lands;
            here = (rw apart refl) ∙ (h.carried p).here;
            there = (rw apart refl) ∙ (h.carried p).there;
          };
    }

accumulate_follows : (s : Setting) (t : ℕ) (order : List ℕ) (outside : Known) (b : Assignment) (e f : State) (known : Known) (now other : State) (v : ℕ) (a : Assignment)
    → action_passes s.tree s.fusion order t outside known (accumulate v) ≡ true → Follows s t order outside b e f known now other
    → Follows s t order outside b e f (gained t known v) (apply s (accumulate v) now a) (apply s (accumulate v) other a)
accumulate_follows s t order outside b e f known now other v a m h =
    let inner = and_parts (not (outside v)) (is_sum (node s.tree v) && (left_ready s.tree known v && (eqb v t || known v))) m in
    let kind = and_parts (is_sum (node s.tree v)) (left_ready s.tree known v && (eqb v t || known v)) inner.1 in
    let ready = and_parts (left_ready s.tree known v) (eqb v t || known v) kind.1 in
    let same = left_same s known v now other a ready.0 h.agreed in
    let own : gained t known v v ≡ true → known v ≡ true = λ k.
    elim (or_cases (eqb v t) (known v) ready.1) [
      | inl q ↦ gained_carrier t known v v (eqb-true v t q) k
      | inr q ↦ q
    ] in
    both_written s t order outside b e f known (gained t known v) now other v (coordinates (dims_at s v) a)
    (wrapping_add (now v (coordinates (dims_at s v) a)) (left_word s v now a)) (wrapping_add (other v (coordinates (dims_at s v) a)) (left_word s v other a)) h
    (own_place s outside v a inner.0)
    (λ k. ap₂ wrapping_add (h.agreed v (coordinates (dims_at s v) a) (own k)) same)
    (λ u p k away.
    elim (cases_eq u v) [
      | inl q ↦ h.agreed u p (ap known q ∙ own (ap (gained t known v) (sym q) ∙ k))
      | inr ne ↦ h.agreed u p (gained_other t known v u k ne)
    ])
    (λ p q r.
    let grows : is_sum (node s.tree t) ≡ true = ap (λ x. is_sum (node s.tree x)) q ∙ kind.0 in
    let c = h.carried p in
    record {
      change = also_changed (is_sum (node s.tree t)) c.change (left_word s v now a);
      lands = lands_sum s t order b p (is_sum (node s.tree t)) c.change (left_word s v now a) grows;
      here = written_here now v (coordinates (dims_at s v) a) (wrapping_add (now v (coordinates (dims_at s v) a)) (left_word s v now a)) t p q r
          ∙ grown now e p q r grows c.change (left_word s v now a) c.here;
      there = written_here other v (coordinates (dims_at s v) a) (wrapping_add (other v (coordinates (dims_at s v) a)) (left_word s v other a)) t p q r
          ∙ ap (wrapping_add (other v (coordinates (dims_at s v) a))) (sym same)
          ∙ grown other f p q r grows c.change (left_word s v now a) c.there;
    })
  where
    lands_sum : (s : Setting) (t : ℕ) (order : List ℕ) (b : Assignment) (p : List ℕ) (grows : Bool) (c : Option ℕ) (y : ℕ) → is_sum (node s.tree t) ≡ true
        → Lands s t order b p (also_changed grows c y)
    lands_sum s t order b p grows None y g = inl g
    lands_sum s t order b p grows (Some x) y g = inl g

    grown : (state before : State) (p : List ℕ) → t ≡ v → p ≡ coordinates (dims_at s v) a → is_sum (node s.tree t) ≡ true → (c : Option ℕ) (y : ℕ)
        → state t p ≡ changed (is_sum (node s.tree t)) c (before t p)
        → wrapping_add (state v (coordinates (dims_at s v) a)) y ≡ changed (is_sum (node s.tree t)) (also_changed (is_sum (node s.tree t)) c y) (before t p)
    grown state before p q r grows c y at =
        ap (λ x. wrapping_add x y) (ap₂ state (sym q) (sym r) ∙ at)
        ∙ ap (λ g. put_on g (changed (is_sum (node s.tree t)) c (before t p)) y) (sym grows)
        ∙ sym (changed_on (is_sum (node s.tree t)) c y (before t p))

compute_follows : (s : Setting) (t : ℕ) (order : List ℕ) (outside : Known) (b : Assignment) (e f : State) (known : Known) (now other : State) (v : ℕ) (a : Assignment)
    (op : Arithmetic)
    → action_passes s.tree s.fusion order t outside known (compute op v) ≡ true → ((i : ℕ) → among order i ≡ true → a i ≡ b i)
    → ((u : ℕ) (p : List ℕ) → IsFree s outside u p → e u p ≡ f u p) → Follows s t order outside b e f known now other
    → Follows s t order outside b e f (gained t known v) (apply s (compute op v) now a) (apply s (compute op v) other a)
compute_follows s t order outside b e f known now other v a op m here start h =
    let first = and_parts (not (outside v)) (not (is_sum (node s.tree v)) && (left_ready s.tree known v && (right_ready s.tree known v
    && (if eqb v t then list_all (has (dims_at s v)) order else dims_at s v == 0)))) m in
    let second = and_parts (not (is_sum (node s.tree v))) (left_ready s.tree known v && (right_ready s.tree known v
    && (if eqb v t then list_all (has (dims_at s v)) order else dims_at s v == 0))) first.1 in
    let third = and_parts (left_ready s.tree known v) (right_ready s.tree known v && (if eqb v t then list_all (has (dims_at s v)) order else dims_at s v == 0)) second.1 in
    let last = and_parts (right_ready s.tree known v) (if eqb v t then list_all (has (dims_at s v)) order else dims_at s v == 0) third.1 in
    let kind = not-true (is_sum (node s.tree v)) second.0 in
    let same = ap₂ (arithmetic op) (left_same s known v now other a third.0 h.agreed) (right_same s known v now other a last.0 h.agreed) in
    both_written s t order outside b e f known (gained t known v) now other v (coordinates (dims_at s v) a)
    (arithmetic op (left_word s v now a) (right_word s v now a)) (arithmetic op (left_word s v other a) (right_word s v other a)) h (own_place s outside v a first.0)
    (λ k. same)
    (λ u p k away.
    elim (cases_eq u v) [
      | inl q ↦ elim (cases_Bool (eqb v t)) [
        | inl carries ↦ h.agreed u p (gained_carrier t known v u (eqb-true v t carries) k)
        | inr single ↦
            let none : dims_at s v ≡ 0 = eqb-true (dims_at s v) 0 (rw single at last.1) in
            let free : IsFree s outside u p =
            inr (ap (λ x. is_sum (node s.tree x)) q ∙ kind, ap (dims_at s) q ∙ none, λ empty. away q (empty ∙ sym (no_coordinates (dims_at s v) a none))) in
            h.free u p free ∙ start u p free ∙ sym (h.other_free u p free)
      ]
      | inr ne ↦ h.agreed u p (gained_other t known v u k ne)
    ])
    (λ p q r.
    let c = h.carried p in
    let grows : is_sum (node s.tree t) ≡ false = ap (λ x. is_sum (node s.tree x)) q ∙ kind in
    let over : list_all (has (dims_at s v)) order ≡ true = (rw (eq-eqb v t (sym q)) at last.1) in
    let lies : (i : ℕ) → among order i ≡ true → assignment (members (dims_at s t)) p i ≡ b i = λ i l.
    place_numbers (dims_at s t) a p i (kept_set s t) (r ∙ ap (λ x. coordinates (dims_at s x) a) (sym q))
    (ap (λ x. has (dims_at s x) i) q ∙ among-all (has (dims_at s v)) order i over l) ∙ here i l in
    record {
      change = also_changed (is_sum (node s.tree t)) c.change (arithmetic op (left_word s v now a) (right_word s v now a));
      lands = lands_set p (is_sum (node s.tree t)) c.change (arithmetic op (left_word s v now a) (right_word s v now a)) lies;
      here = written_here now v (coordinates (dims_at s v) a) (arithmetic op (left_word s v now a) (right_word s v now a)) t p q r
          ∙ set_to (is_sum (node s.tree t)) c.change (arithmetic op (left_word s v now a) (right_word s v now a)) (e t p) grows;
      there = written_here other v (coordinates (dims_at s v) a) (arithmetic op (left_word s v other a) (right_word s v other a)) t p q r
          ∙ sym same ∙ set_to (is_sum (node s.tree t)) c.change (arithmetic op (left_word s v now a) (right_word s v now a)) (f t p) grows;
    })
  where
    lands_set : (p : List ℕ) (grows : Bool) (c : Option ℕ) (y : ℕ) → ((i : ℕ) → among order i ≡ true → assignment (members (dims_at s t)) p i ≡ b i)
        → Lands s t order b p (also_changed grows c y)
    lands_set p grows None y g = inr g
    lands_set p grows (Some x) y g = inr g

    set_to : (grows : Bool) (c : Option ℕ) (y w : ℕ) → grows ≡ false → y ≡ changed grows (also_changed grows c y) w
    set_to grows c y w g = ap (λ k. put_on k (changed grows c w) y) (sym g) ∙ sym (changed_on grows c y w)

pub action_follows : (s : Setting) (t : ℕ) (order : List ℕ) (outside : Known) (b : Assignment) (e f : State) (known : Known) (now other : State) (action : Action) (a : Assignment)
    → action_passes s.tree s.fusion order t outside known action ≡ true → ((i : ℕ) → among order i ≡ true → a i ≡ b i)
    → ((u : ℕ) (p : List ℕ) → IsFree s outside u p → e u p ≡ f u p) → Follows s t order outside b e f known now other
    → Follows s t order outside b e f (gained t known (written_by action)) (apply s action now a) (apply s action other a)
action_follows s t order outside b e f known now other (clear v) a m here start h = clear_follows s t order outside b e f known now other v a m h
action_follows s t order outside b e f known now other (compute op v) a m here start h = compute_follows s t order outside b e f known now other v a op m here start h
action_follows s t order outside b e f known now other (accumulate v) a m here start h = accumulate_follows s t order outside b e f known now other v a m h

-- turns of a loop, of which there is at least one
turns_follow : (R after : State → State → Type 0) (n : ℕ) (turn : ℕ → State → State) (now other : State) → 0 < n → ((u w : State) → after u w → R u w)
    → ((x : ℕ) (u w : State) → R u w → after (turn x u) (turn x w)) → R now other → after (repeated n turn now) (repeated n turn other)
turns_follow R after zero turn now other some back each h = absurd (omega (arith, some))
turns_follow R after (suc zero) turn now other some back each h = each 0 now other h
turns_follow R after (suc (suc n)) turn now other some back each h =
    each (suc n) (repeated (suc n) turn now) (repeated (suc n) turn other)
    (back (repeated (suc n) turn now) (repeated (suc n) turn other) (turns_follow R after (suc n) turn now other (omega arith) back each h))

pub body_follows : (s : Setting) (t : ℕ) (order : List ℕ) (outside : Known) (b : Assignment) (e f : State) (program : Program) (known : Known) (now other : State) (a : Assignment)
    → passes s.tree s.fusion order t outside known program ≡ true → HaveTurns s program → ((i : ℕ) → among order i ≡ true → a i ≡ b i)
    → ((u : ℕ) (p : List ℕ) → IsFree s outside u p → e u p ≡ f u p) → Follows s t order outside b e f known now other
    → Follows s t order outside b e f (known_after t known program) (exec s program now a) (exec s program other a)
body_follows s t order outside b e f stop known now other a m turns here start h = h
body_follows s t order outside b e f (step action rest) known now other a m turns here start h =
    let parts = and_parts (action_passes s.tree s.fusion order t outside known action) (passes s.tree s.fusion order t outside (gained t known (written_by action)) rest) m in
    body_follows s t order outside b e f rest (gained t known (written_by action)) (apply s action now a) (apply s action other a) a parts.1 turns here start
    (action_follows s t order outside b e f known now other action a parts.0 here start h)
body_follows s t order outside b e f (loop i body rest) known now other a m turns here start h =
    let first = and_parts (not (among order i)) (passes s.tree s.fusion order t outside known body && passes s.tree s.fusion order t outside (known_after t known body) rest) m in
    let parts = and_parts (passes s.tree s.fusion order t outside known body) (passes s.tree s.fusion order t outside (known_after t known body) rest) first.1 in
    body_follows s t order outside b e f rest (known_after t known body) (repeated (s.elements.extent i) (λ x before. exec s body before (with_number a i x)) now)
    (repeated (s.elements.extent i) (λ x before. exec s body before (with_number a i x)) other) a parts.1 turns.2 here start
    (turns_follow (Follows s t order outside b e f known) (Follows s t order outside b e f (known_after t known body)) (s.elements.extent i)
    (λ x before. exec s body before (with_number a i x)) now other turns.0
    (λ u w k. record {
      agreed = λ v p l. k.agreed v p (known_more t body known v l);
      free = k.free;
      other_free = k.other_free;
      carried = k.carried;
    })
    (λ x u w k. body_follows s t order outside b e f body known u w (with_number a i x) parts.0 turns.1
    (λ j l. with-other a i x j (λ q. true≢false (sym l ∙ ap (among order) q ∙ not-true (among order i) first.0)) ∙ here j l) start k) h)
