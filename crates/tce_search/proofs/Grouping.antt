-- Candidates that stand for a state have entries in the groups of its upper parts.
use Rattle.std.proofs.Common.{◌≡◌, ◌↔◌, ℕ, ◌+◌, ◌<◌, ◌≤◌, ◌%◌, ◌∙◌, Bool, inl, inr, sym, ap, ap₂, subst, arith, List, [], ◌∷◌, ◌++◌, length, map, get_or, set, insert, replicate}
use Rattle.std.specs.Prelude.{IsTrue}
use Rattle.std.specs.List.{All, AllWithin, Any, Contains}
use Rattle.std.proofs.lemmas.Bool.{cases_eq, cases_lt}
use Rattle.std.proofs.lemmas.List.{length_push, length-map, get_or_append_left, get_or_push, get_or-set_same, get_or-set_other, length-set, map-set, get_or-map, get_or-replicate, get_or_past, length-replicate, map-append, replicate_more}
use Rattle.std.proofs.lemmas.List.Elements.{All-contains, Contains-append_right, Contains-append_cases, Contains-push, Contains-push_cases, Contains-append_left, at_read}
use Rattle.std.proofs.lemmas.List.Sorted.{IsPermutation-insert, IsPermutation-sym, Contains-permutation, IsNonDecreasingBy-insert}
use Rattle.std.proofs.lemmas.Grind.{get_or_default_zero}
use Rattle.tce_space.specs.IndexSet.{IsWithin, has}
use Rattle.tce_fusion.specs.Relation.{Relation, above}
use Rattle.tce_nesting.proofs.RowLists.{unchanged_at}
use Rattle.tce_search.specs.declared.candidate.Candidate.{Candidate}
use Rattle.tce_search.specs.declared.groups.Entry.{Entry}
use Rattle.tce_search.specs.Candidates.{Stands}
use Rattle.tce_search.specs.Parts.{IsUpperPart, AreMarksOf}
use Rattle.tce_search.specs.Groups.{IsEntered, AreEntered, AreFalling, AreByCost, ArePut, HaveLeasts, StandsAt, PartStands, key_of, group_of}
use Rattle.tce_search.proofs.Parts.{upper_of_coarser}

-- some group of the parts has an entry of a candidate that stands for the state
abbrev pub HasCover : ℕ → Relation → ℕ → ℕ → List (List Entry) → List Candidate → List ℕ → Type 0
HasCover outer relation limit marks groups candidates parts = Any (PartStands outer relation limit marks groups candidates parts) parts

pub cover_stands : (outer : ℕ) (relation : Relation) (limit marks : ℕ) (groups : List (List Entry)) (candidates : List Candidate) (parts : List ℕ)
    → HasCover outer relation limit marks groups candidates parts → Any (Stands outer relation limit) candidates
cover_stands outer relation limit marks groups candidates parts found =
    let entry = found.4.some.4.some.4.1 in
    (entry.1.place, entry.4.candidate, entry.4.inside, entry.4.is, entry.4.stands)

-- marks of parts that are among others
marks_within : (few many : List ℕ) (few_marks many_marks : ℕ) → AreMarksOf few few_marks → AreMarksOf many many_marks → ((part : ℕ) → Contains few part → Contains many part) → IsWithin few_marks many_marks
marks_within few many few_marks many_marks here there among i h =
    let from = here.some i h in
    let inn = among from.1 (from.0, from.2, from.3) in
    subst (λ mark. IsTrue (has many_marks mark)) from.4 (All-contains (λ part. IsTrue (has many_marks (part % 23))) many from.1 there.each inn)

pub cover_found : (outer : ℕ) (relation : Relation) (limit marks : ℕ) (groups : List (List Entry)) (candidates : List Candidate) (parts : List ℕ)
    → AreEntered outer groups candidates → ((part : ℕ) → IsUpperPart outer relation part → Contains parts part) → AreMarksOf parts marks
    → Any (Stands outer relation limit) candidates → HasCover outer relation limit marks groups candidates parts
cover_found outer relation limit marks groups candidates parts entered listed marked found =
    let k = found.0 in
    let x = found.1 in
    let at = subst (IsEntered outer groups k) found.3 (entered k x found.2) in
    let among = λ (part : ℕ) (inn : Contains at.parts part). listed part
    (upper_of_coarser outer (above x.row.classes) relation part found.4.coarser (All-contains (IsUpperPart outer (above x.row.classes)) at.parts part at.upper inn)) in
    let falling = at.falling in
    let first = among at.part falling.first in
    let second = among at.under falling.second in
    let last = among at.third falling.last in
    let entry : Entry = record { cost = x.row.cost; place = k; marks = at.marks } in
    let here : StandsAt outer relation limit marks candidates entry = record {
      cheap = found.4.cheap;
      marked = marks_within at.parts parts at.marks marks at.marked marked among;
      candidate = x;
      inside = found.2;
      is = found.3;
      stands = found.4;
    } in (
      first.0,
      at.part,
      first.1,
      first.2,
      record {
        some = (
          second.0,
          at.under,
          second.1,
          second.2,
          record {
            below = falling.below;
            some = (last.0, at.third, last.1, last.2, (falling.lowest, (at.entered.0, entry, at.entered.1, at.entered.2, here)));
          },
        );
      },
    )

-- entries stay where groups only grow
abbrev pub StayEntered : List (List Entry) → List (List Entry) → Type 0
StayEntered old new = (key : ℕ) (entry : Entry) → Contains (group_of old key) entry → Contains (group_of new key) entry

pub entered_later : (outer : ℕ) (old new : List (List Entry)) (candidates : List Candidate) → StayEntered old new → AreEntered outer old candidates → AreEntered outer new candidates
entered_later outer old new candidates stay entered k d low =
    let at = entered k d low in
    record {
      parts = at.parts;
      part = at.part;
      under = at.under;
      third = at.third;
      marks = at.marks;
      upper = at.upper;
      falling = at.falling;
      marked = at.marked;
      entered = stay (key_of at.part at.under at.third) _ at.entered;
    }

-- one more candidate, with an entry
pub entered_last : (outer : ℕ) (groups : List (List Entry)) (old new : List Candidate) (last : Candidate) (parts : List ℕ) (part under third marks place key : ℕ) → AreEntered outer groups old → new ≡ old ++ last ∷ []
    → All (IsUpperPart outer (above last.row.classes)) parts → AreFalling parts part under third → AreMarksOf parts marks → place ≡ length old
    → key ≡ key_of part under third → Contains (group_of groups key) (record { cost = last.row.cost; place = place; marks = marks }) → AreEntered outer groups new
entered_last outer groups old new last parts part under third marks place key entered is upper falling marked here named inn = subst (AreEntered outer groups) (sym is) all
  where
    before : (k n m : ℕ) → m ≡ n + 1 → k < m → (k ≡ n → ⊥) → k < n
    before k n m is_more low other = omega (arith, is_more, low, other)

    all : AreEntered outer groups (old ++ last ∷ [])
    all k d low = elim (cases_eq k (length old)) [
      | inl at ↦ subst (IsEntered outer groups k) (sym (get_or_push old last d k (sym at)))
          (subst (λ n. IsEntered outer groups n last) (here ∙ sym at) (record { parts = parts; part = part; under = under; third = third; marks = marks; upper = upper; falling = falling; marked = marked; entered = subst (λ k. Contains (group_of groups k) (record { cost = last.row.cost; place = place; marks = marks })) named inn }))
      | inr other ↦
          let inside = before k (length old) (length (old ++ last ∷ [])) (length_push old last) low other in
          subst (IsEntered outer groups k) (sym (get_or_append_left old (last ∷ []) d k inside)) (entered k d inside)
    ]

-- an entry that is put among entries by cost
pub entries_put : (old : List Entry) (place : ℕ) (entry : Entry) → AreByCost old → place ≤ length old → ((k : ℕ) (e : Entry) → k < place → (get_or old k e).cost ≤ entry.cost)
    → ((k : ℕ) (e : Entry) → place ≤ k → k < length old → entry.cost ≤ (get_or old k e).cost) → ArePut old entry (insert old place entry)
entries_put old place entry order inside before behind = record {
  has = moved entry (Contains-append_left (entry ∷ []) old entry (Contains-push [] entry));
  kept = λ e inn. moved e (Contains-append_right (entry ∷ []) old e inn);
  origin = λ e inn. elim (Contains-append_cases (entry ∷ []) old e (back e inn)) [
    | inl one ↦ elim (Contains-push_cases [] entry e one) [ inl none ↦ absurd (nothing e none) | inr same ↦ inr same ]
    | inr was ↦ inl was
  ];
  order = IsNonDecreasingBy-insert (λ (e : Entry). e.cost) old place entry order inside before behind;
}
  where
    nothing : (e : Entry) → Contains {X = Entry} [] e → ⊥
    nothing e inn = omega (arith, inn.1)

    moved : (e : Entry) → Contains (entry ∷ old) e → Contains (insert old place entry) e
    moved e inn = Contains-permutation (entry ∷ old) (insert old place entry) e (IsPermutation-insert old place entry) inn

    back : (e : Entry) → Contains (insert old place entry) e → Contains (entry ∷ old) e
    back e inn = Contains-permutation (insert old place entry) (entry ∷ old) e (IsPermutation-sym (entry ∷ old) (insert old place entry) (IsPermutation-insert old place entry)) inn

-- one group grows
module _ (old : List (List Entry)) (number : ℕ) (entry : Entry) (more : List Entry) (low : number < length old) (put : ArePut (get_or old number []) entry more) where
  stays_at : (k : ℕ) (e : Entry) → Contains (get_or old k []) e → Contains (get_or (set old number more) k []) e
  stays_at k e inn = elim (cases_eq k number) [
    | inl same ↦
        subst (λ n. Contains (get_or (set old number more) n []) e) (sym same)
        (subst (λ xs. Contains xs e) (sym (get_or-set_same old number more [] low))
        (put.kept e (subst (λ n. Contains (get_or old n []) e) same inn)))
    | inr other ↦ subst (λ xs. Contains xs e) (sym (get_or-set_other old number k more [] other)) inn
  ]

  entries_stay : StayEntered old (set old number more)
  entries_stay key e inn =
      subst (λ n. Contains (get_or (set old number more) (key % n) []) e) (sym (length-set old number more))
      (stays_at (key % length old) e inn)

  -- so does its least cost, and entries go by cost
  least_stays : (leasts lower : List ℕ) → HaveLeasts old leasts → length lower ≡ length leasts → ((k : ℕ) → get_or lower k 0 ≤ get_or leasts k 0) → get_or lower number 0 ≤ entry.cost
      → HaveLeasts (set old number more) lower
  least_stays leasts lower before same below at = record {
    some = subst (λ n. 0 < n) (sym (length-set old number more)) before.some;
    each = same ∙ before.each ∙ sym (length-set old number more);
    order = order;
    least = least;
  }
    where
      order : (k : ℕ) → AreByCost (get_or (set old number more) k [])
      order k = elim (cases_eq k number) [
        | inl is ↦ subst (λ n. AreByCost (get_or (set old number more) n [])) (sym is) (subst AreByCost (sym (get_or-set_same old number more [] low)) put.order)
        | inr other ↦ subst AreByCost (sym (get_or-set_other old number k more [] other)) (before.order k)
      ]

      here : (e : Entry) → Contains more e → get_or lower number 0 ≤ e.cost
      here e inn = elim (put.origin e inn) [
        | inl was ↦ omega (arith, below number, before.least number e was)
        | inr same_entry ↦ subst (λ (x : Entry). get_or lower number 0 ≤ x.cost) same_entry at
      ]

      least : (k : ℕ) (e : Entry) → Contains (get_or (set old number more) k []) e → get_or lower k 0 ≤ e.cost
      least k e inn = elim (cases_eq k number) [
        | inl is ↦
            let at_number = subst (λ n. Contains (get_or (set old number more) n []) e) is inn in
            subst (λ n. get_or lower n 0 ≤ e.cost) (sym is) (here e (subst (λ xs. Contains xs e) (get_or-set_same old number more [] low) at_number))
        | inr other ↦ omega (arith, below k, before.least k e (subst (λ xs. Contains xs e) (get_or-set_other old number k more [] other) inn))
      ]

-- lists without entries, and one more of them
pub none_yet : {X : Type 0} (lists : List X) (f : X → List Entry) → lists ≡ [] → map f lists ≡ []
none_yet lists f is = ap (map f) is

pub none_further : {X : Type 0} (old new : List X) (last : X) (f : X → List Entry) (n : ℕ) → new ≡ old ++ last ∷ [] → f last ≡ [] → map f old ≡ replicate {A = List Entry} n []
    → map f new ≡ replicate {A = List Entry} (n + 1) []
none_further old new last f n grown none before =
    ap (map f) grown ∙ map-append f old (last ∷ []) ∙ ap₂ (λ (xs : List (List Entry)) x. xs ++ x ∷ []) before none ∙ replicate_more n []

-- without entries
pub leasts_of_none : (groups : List (List Entry)) (leasts : List ℕ) (count : ℕ) → 0 < count → groups ≡ replicate {A = List Entry} count [] → length leasts ≡ length groups → HaveLeasts groups leasts
leasts_of_none groups leasts count some is each = record {
  some = subst (λ gs. 0 < length gs) (sym is) (omega (arith, some, length-replicate {A = List Entry} count []));
  each = each;
  order = λ k. subst (λ gs. AreByCost (get_or gs k [])) (sym is) (subst AreByCost (sym (empty k)) in_order);
  least = λ k e inn. absurd (nothing e (subst (λ xs. Contains xs e) (empty k) (subst (λ gs. Contains (get_or gs k []) e) is inn)));
}
  where
    nothing : (e : Entry) → Contains {X = Entry} [] e → ⊥
    nothing e inn = omega (arith, inn.1)

    in_order : AreByCost []
    in_order i j d le lt = omega (arith, lt)

    empty : (k : ℕ) → get_or (replicate {A = List Entry} count []) k [] ≡ []
    empty k = elim (cases_lt k count) [
      | inl low ↦ get_or-replicate {A = List Entry} count k [] [] low
      | inr past ↦ get_or_past (replicate {A = List Entry} count []) k [] (omega (arith, past, length-replicate {A = List Entry} count []))
    ]

-- the entries of a list go by cost, as those of its group do
pub list_ordered : {X : Type 0} (lists : List X) (f : X → List Entry) (leasts : List ℕ) (number : ℕ) (list : X) → HaveLeasts (map f lists) leasts → number < length lists
    → list ≡ get_or lists number list → AreByCost (f list)
list_ordered lists f leasts number list have low is =
    subst AreByCost (get_or-map f lists number list [] low ∙ sym (ap f is)) (have.order number)

-- no entry behind one that costs more than a state is at a candidate that stands for it
pub none_behind : (outer : ℕ) (relation : Relation) (limit marks : ℕ) (candidates : List Candidate) (group : List Entry) (k : ℕ) (entry : Entry) → AreByCost group → k < length group
    → entry ≡ get_or group k entry → limit < entry.cost → AllWithin (λ e. StandsAt outer relation limit marks candidates e → ⊥) group 0 k
    → Any (StandsAt outer relation limit marks candidates) group → ⊥
none_behind outer relation limit marks candidates group k entry order low is dear before found = elim (cases_lt found.0 k) [
  | inl earlier ↦ before found.0 found.1 (omega arith) earlier (subst (StandsAt outer relation limit marks candidates) (sym found.3) found.4)
  | inr later ↦
      omega (arith, order k found.0 found.1 later found.2, at_read group (λ (e : Entry). limit < e.cost) k entry low is dear found.1, ap (λ (e : Entry). e.cost) found.3, found.4.cheap)
]

-- the least cost of a group, as it is read
pub least_found : {X : Type 0} (lists : List X) (f : X → List Entry) (groups : List (List Entry)) (leasts : List ℕ) (count number key least : ℕ) → map f lists ≡ groups
    → HaveLeasts (map f lists) leasts → number ≡ key % count → number < count → count ≡ length lists → least ≡ get_or leasts number least
    → (entry : Entry) → Contains (group_of groups key) entry → least ≤ entry.cost
least_found lists f groups leasts count number key least shown have named low same is e inn =
    let at : key % length groups ≡ number = sym (named ∙ ap (λ n. key % n) (same ∙ sym (length-map lists f) ∙ ap length shown)) in
    let read : least ≡ get_or leasts number 0 = is ∙ get_or_default_zero leasts number least (omega (arith, low, same, have.each, length-map lists f)) in
    subst (λ n. n ≤ e.cost) (sym read)
    (have.least number e (subst (λ gs. Contains (get_or gs number []) e) (sym shown) (subst (λ k. Contains (get_or groups k []) e) at inn)))

-- nothing in a group whose least cost is more than a limit stands for a state
pub none_stands : (outer : ℕ) (relation : Relation) (limit marks : ℕ) (candidates : List Candidate) (group : List Entry) (least : ℕ) → ((entry : Entry) → Contains group entry → least ≤ entry.cost) → limit < least
    → Any (StandsAt outer relation limit marks candidates) group → ⊥
none_stands outer relation limit marks candidates group least each dear found =
    omega (arith, each found.1 (found.0, found.2, found.3), found.4.cheap, dear)

pub number_named : {X : Type 0} (lists : List X) (count number key : ℕ) → number ≡ key % count → count ≡ length lists → number ≡ key % length lists
number_named lists count number key is same = is ∙ ap (λ n. key % n) same

module _ {X : Type 0} (lists : List X) (f : X → List Entry) (groups : List (List Entry)) (number key : ℕ) (old new : X)
    (shown : map f lists ≡ groups) (named : number ≡ key % length lists) (low : number < length lists) (is : old ≡ get_or lists number old) where
  shown_set : map f (set lists number new) ≡ set groups number (f new)
  shown_set = map-set f lists number new ∙ ap (λ gs. set gs number (f new)) shown

  inside : number < length groups
  inside = subst (λ gs. number < length gs) shown (omega (arith, low, length-map lists f))

  was : f old ≡ get_or groups number []
  was = ap f is ∙ sym (get_or-map f lists number old [] low) ∙ ap (λ gs. get_or gs number []) shown

  put_in : (entry : Entry) → ArePut (f old) entry (f new) → ArePut (get_or groups number []) entry (f new)
  put_in entry put = subst (λ xs. ArePut xs entry (f new)) was put

  pub groups_added : (entry : Entry) → ArePut (f old) entry (f new) → Contains (group_of (map f (set lists number new)) key) entry
  groups_added entry put =
      let at : key % length (map f (set lists number new)) ≡ number =
      ap (λ n. key % n) (length-map (set lists number new) f ∙ length-set lists number new) ∙ sym named in
      subst (λ k. Contains (get_or (map f (set lists number new)) k []) entry) (sym at)
      (subst (λ gs. Contains (get_or gs number []) entry) (sym shown_set)
      (subst (λ xs. Contains xs entry) (sym (get_or-set_same groups number (f new) [] inside)) put.has))

  pub groups_kept : (entry : Entry) → ArePut (f old) entry (f new) → StayEntered groups (map f (set lists number new))
  groups_kept entry put = subst (StayEntered groups) (sym shown_set) (entries_stay groups number entry (f new) inside (put_in entry put))

  pub groups_unchanged : f new ≡ f old → StayEntered groups (map f (set lists number new))
  groups_unchanged same = subst (StayEntered groups) (sym (unchanged_at lists f number old new is same ∙ shown)) (λ k e inn. inn)

  pub leasts_kept : (entry : Entry) (leasts lower : List ℕ) → ArePut (f old) entry (f new) → HaveLeasts groups leasts → length lower ≡ length leasts
      → ((k : ℕ) → get_or lower k 0 ≤ get_or leasts k 0) → get_or lower number 0 ≤ entry.cost → HaveLeasts (map f (set lists number new)) lower
  leasts_kept entry leasts lower put before same below at =
      subst (λ gs. HaveLeasts gs lower) (sym shown_set) (least_stays groups number entry (f new) inside (put_in entry put) leasts lower before same below at)

  pub leasts_unchanged : (leasts lower : List ℕ) → f new ≡ f old → HaveLeasts groups leasts → length lower ≡ length leasts
      → ((k : ℕ) → get_or lower k 0 ≤ get_or leasts k 0) → HaveLeasts (map f (set lists number new)) lower
  leasts_unchanged leasts lower same before count below =
      subst (λ gs. HaveLeasts gs lower) (sym (unchanged_at lists f number old new is same ∙ shown)) (record {
        some = before.some;
        each = count ∙ before.each;
        order = before.order;
        least = λ k e inn. omega (arith, below k, before.least k e inn);
      })

-- the parts of a state, as they are looked up
pub covers_from : (outer limit marks : ℕ) (inner classes : List ℕ) (groups : List (List Entry)) (slice candidates : List Candidate) (read parts : List ℕ) (result : Bool)
    → inner ≡ classes → slice ≡ candidates → read ≡ parts → IsTrue result ↔ HasCover outer (above classes) limit marks groups slice read
    → AreEntered outer groups candidates → ((part : ℕ) → IsUpperPart outer (above inner) part → Contains parts part) → AreMarksOf parts marks → IsTrue result ↔ Any (Stands outer (above classes) limit) candidates
covers_from outer limit marks inner classes groups slice candidates read parts result same sliced listed tells entered all marked = (there, back)
  where
    found_in : HasCover outer (above classes) limit marks groups slice read → HasCover outer (above classes) limit marks groups candidates parts
    found_in found = subst (λ xs. HasCover outer (above classes) limit marks groups xs parts) sliced (subst (HasCover outer (above classes) limit marks groups slice) listed found)

    found_from : HasCover outer (above classes) limit marks groups candidates parts → HasCover outer (above classes) limit marks groups slice read
    found_from found = subst (HasCover outer (above classes) limit marks groups slice) (sym listed) (subst (λ xs. HasCover outer (above classes) limit marks groups xs parts) (sym sliced) found)

    of_state : (part : ℕ) → IsUpperPart outer (above classes) part → Contains parts part
    of_state = subst (λ cs. (part : ℕ) → IsUpperPart outer (above cs) part → Contains parts part) same all

    there : IsTrue result → Any (Stands outer (above classes) limit) candidates
    there h = cover_stands outer (above classes) limit marks groups candidates parts (found_in (tells.0 h))

    back : Any (Stands outer (above classes) limit) candidates → IsTrue result
    back found = tells.1 (found_from (cover_found outer (above classes) limit marks groups candidates parts entered of_state marked found))
