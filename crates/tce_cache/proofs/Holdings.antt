-- What the links of a table say of the tiles that it holds.
use Rattle.std.proofs.Common.{◌≡◌, ◌≢◌, ◌∙◌, ℕ, zero, suc, ◌+◌, ◌^◌, ◌<◌, ◌≤◌, ◌||◌, Bool, true, false, nat_eq, if◌then◌else◌, List, [], ◌∷◌, length, map, slice_index, slice_index_or, slice_set, Some, sym, refl, ap, subst, arith, inl, inr}
use Rattle.std.proofs.lemmas.Bool.{cases_eq}
use Rattle.std.proofs.lemmas.List.{get_or-set_same, get_or-set_other, get_or_default}
use Rattle.tce_cache.specs.Held.{Held, is_tile, look_up, without}
use Rattle.tce_cache.specs.Ring.{Links, IsPath, IsAbsent, AreDistinct, IsIn, removed, AreBelow, AreRings}
use Rattle.tce_cache.specs.Table.{Holding, walk, frame_at, entry, bucket_of, order_of, IsTable}
use Rattle.tce_cache.specs.declared.table.Frame.{Frame}
use Rattle.tce_cache.specs.declared.table.Spread.{Spread}
use Rattle.tce_cache.proofs.Paths.{below_in, below_removed}
use Rattle.tce_cache.proofs.Current.{tile_cases}

pub walk_path : (A B : List ℕ) (x : ℕ) (ys : List ℕ) (z : ℕ) → IsPath A B x ys z → walk A x (length ys) ≡ ys
walk_path A B x [] z p = refl
walk_path A B x (y ∷ ys) z p = ap (λ i. i ∷ walk A i (length ys)) p.0 ∙ ap (λ l. y ∷ l) (walk_path A B y ys z p.2)

pub length-walk : (A : List ℕ) (x n : ℕ) → length (walk A x n) ≡ n
length-walk A x zero = refl
length-walk A x (suc n) = ap suc (length-walk A (slice_index A x) n)

pub length_removed : (f : ℕ) (ys : List ℕ) → IsIn f ys → suc (length (removed f ys)) ≡ length ys
length_removed f [] h = absurd h
length_removed f (y ∷ ys) h =
    elim (cases_eq y f) [
      | inl e ↦ (let b : nat_eq y f ≡ true = grind (arith, e) in ap (λ v. suc (length (if v then ys else y ∷ removed f ys))) b)
      | inr n ↦
          let b : nat_eq y f ≡ false = grind (arith, n) in
          let later : IsIn f ys = elim h [ inl e ↦ absurd (n e) | inr r ↦ r ] in
          ap (λ v. suc (length (if v then ys else y ∷ removed f ys))) b ∙ ap suc (length_removed f ys later)
    ]

pub absent_self : (f : ℕ) (ys : List ℕ) → AreDistinct ys → IsAbsent f (removed f ys)
absent_self f [] d = tt
absent_self f (y ∷ ys) d =
    elim (cases_eq y f) [
      | inl e ↦ (let b : nat_eq y f ≡ true = grind (arith, e) in subst (λ v. IsAbsent f (if v then ys else y ∷ removed f ys)) (sym b) (subst (λ i. IsAbsent i ys) e d.0))
      | inr n ↦ (let b : nat_eq y f ≡ false = grind (arith, n) in subst (λ v. IsAbsent f (if v then ys else y ∷ removed f ys)) (sym b) ((λ e. n (sym e)), absent_self f ys d.1))
    ]

pub in_removed_other : (g f : ℕ) (ys : List ℕ) → IsIn g ys → g ≢ f → IsIn g (removed f ys)
in_removed_other g f [] h n = h
in_removed_other g f (y ∷ ys) h n =
    elim (cases_eq y f) [
      | inl e ↦ (let b : nat_eq y f ≡ true = grind (arith, e) in subst (λ v. IsIn g (if v then ys else y ∷ removed f ys)) (sym b) (elim h [ inl k ↦ absurd (n (sym k ∙ e)) | inr r ↦ r ]))
      | inr m ↦ (let b : nat_eq y f ≡ false = grind (arith, m) in subst (λ v. IsIn g (if v then ys else y ∷ removed f ys)) (sym b) (elim h [ inl k ↦ inl k | inr r ↦ inr (in_removed_other g f ys r n) ]))
    ]

-- one ring alone
pub one_ring : (links : Links) (n : ℕ) (rings : ℕ → List ℕ) (xs : List ℕ) → AreRings links n 1 rings → rings 0 ≡ xs → AreRings links n 1 (λ _. xs)
one_ring links n rings xs are is = record {
  ring = λ r lt. let none : r ≡ 0 = omega arith in subst (λ i. IsPath links.after links.before (n + i) xs (n + i)) (sym none) (subst (λ l. IsPath links.after links.before (n + 0) l (n + 0)) is (are.ring 0 (omega arith)));
  distinct = λ r lt. subst AreDistinct is (are.distinct 0 (omega arith));
  below = λ r lt. subst (AreBelow n) is (are.below 0 (omega arith));
  apart = λ r s x lr ls ne h. let both : r ≡ s = omega arith in absurd (ne both);
}

-- a tile that is found is the entry of its frame
pub found_entry : (fs : List Frame) (os : List ℕ) (a t : ℕ) (h : Held) → look_up (map (entry fs) os) a t ≡ Some h → (h ≡ entry fs h.frame) × IsIn h.frame os × (h.array ≡ a) × (h.tile ≡ t)
found_entry fs [] a t h e = absurd (cc)
found_entry fs (y ∷ ys) a t h e =
    elim (tile_cases a t (entry fs y)) [
      | inl s ↦
          let found : Some (entry fs y) ≡ Some h = ap (λ v. if v then Some (entry fs y) else look_up (map (entry fs) ys) a t) (sym s.0) ∙ e in
          let same : entry fs y ≡ h = cc in
          subst (λ (x : Held). (x ≡ entry fs x.frame) × IsIn x.frame (y ∷ ys) × (x.array ≡ a) × (x.tile ≡ t)) same (refl, inl refl, s.1, s.2)
      | inr n ↦
          let rest = found_entry fs ys a t h (ap (λ v. if v then Some (entry fs y) else look_up (map (entry fs) ys) a t) (sym n.0) ∙ e) in
          (rest.0, inr rest.1, rest.2, rest.3)
    ]

-- to take out a tile is to take out its frame
pub without_entry : (fs : List Frame) (os : List ℕ) (a t f : ℕ) → (entry fs f).array ≡ a → (entry fs f).tile ≡ t → ((g : ℕ) → IsIn g os → (entry fs g).array ≡ a → (entry fs g).tile ≡ t → g ≡ f) → without a t (map (entry fs) os) ≡ map (entry fs) (removed f os)
without_entry fs [] a t f ea et only = refl
without_entry fs (y ∷ ys) a t f ea et only =
    elim (cases_eq y f) [
      | inl e ↦
          let b : nat_eq y f ≡ true = grind (arith, e) in
          let here : is_tile a t (entry fs y) ≡ true = elim (tile_cases a t (entry fs y)) [ inl s ↦ s.0 | inr n ↦ absurd (n.1 (ap (λ i. (entry fs i).array) e ∙ ea) (ap (λ i. (entry fs i).tile) e ∙ et)) ] in
          ap (λ v. if v then map (entry fs) ys else entry fs y ∷ without a t (map (entry fs) ys)) here
          ∙ ap (λ v. map (entry fs) (if v then ys else y ∷ removed f ys)) (sym b)
      | inr n ↦
          let b : nat_eq y f ≡ false = grind (arith, n) in
          let here : is_tile a t (entry fs y) ≡ false = elim (tile_cases a t (entry fs y)) [ inl s ↦ absurd (n (only y (inl refl) s.1 s.2)) | inr m ↦ m.0 ] in
          ap (λ v. if v then map (entry fs) ys else entry fs y ∷ without a t (map (entry fs) ys)) here
          ∙ ap (λ l. entry fs y ∷ l) (without_entry fs ys a t f ea et (λ g k. only g (inr k)))
          ∙ ap (λ v. map (entry fs) (if v then ys else y ∷ removed f ys)) (sym b)
    ]

-- another frame's entry
pub map_other : (fs gs : List Frame) (f : ℕ) (os : List ℕ) → ((g : ℕ) → g ≢ f → frame_at gs g ≡ frame_at fs g) → IsAbsent f os → map (entry gs) os ≡ map (entry fs) os
map_other fs gs f [] same n = refl
map_other fs gs f (y ∷ ys) same n =
    let here : frame_at gs y ≡ frame_at fs y = same y (λ e. n.0 (sym e)) in
    let one : entry gs y ≡ entry fs y = ap (λ (x : Frame). record { array = x.array; tile = x.tile; frame = y; marked = x.marked }) here in
    ap (λ h. h ∷ map (entry gs) ys) one ∙ ap (λ l. entry fs y ∷ l) (map_other fs gs f ys same n.1)

-- the order after a frame came to the front
pub record IsFront (fs : List Frame) (held f : ℕ) (old new : Links) : Type 0 where
  pub rings : ℕ → List ℕ
  pub are : AreRings new (length fs) 1 rings
  pub is : rings 0 ≡ f ∷ removed f (order_of fs held old)
  pub len : length new.after ≡ length old.after

pub order_front : (fs : List Frame) (held f : ℕ) (old new buckets : Links) (s : Spread) → IsTable fs held old buckets s → f < held → IsFront fs held f old new → order_of fs held new ≡ f ∷ removed f (order_of fs held old)
order_front fs held f old new buckets s t lt front =
    let os = order_of fs held old in
    let long : suc (length (removed f os)) ≡ held = length_removed f os (t.order_all f lt) ∙ length-walk old.after (length fs) held in
    let path = (one_ring new (length fs) front.rings (f ∷ removed f os) front.are front.is).ring 0 (omega arith) in
    let walked : walk new.after (length fs + 0) (suc (length (removed f os))) ≡ f ∷ removed f os = walk_path new.after new.before (length fs + 0) (f ∷ removed f os) (length fs + 0) path in
    let start : length fs + 0 ≡ length fs = omega arith in
    ap (walk new.after (length fs)) (sym long) ∙ ap (λ x. walk new.after x (suc (length (removed f os)))) (sym start) ∙ walked

pub table_front : (fs gs : List Frame) (held f : ℕ) (old new buckets : Links) (s : Spread) → IsTable fs held old buckets s → f < held → IsFront fs held f old new
    → length gs ≡ length fs → ((g : ℕ) → ((frame_at gs g).array ≡ (frame_at fs g).array) × ((frame_at gs g).tile ≡ (frame_at fs g).tile)) → IsTable gs held new buckets s
table_front fs gs held f old new buckets s t lt front len same =
    let os = order_of fs held old in
    let front_is : order_of fs held new ≡ f ∷ removed f os = order_front fs held f old new buckets s t lt front in
    let order_is : order_of gs held new ≡ f ∷ removed f os = ap (λ n. walk new.after n held) len ∙ front_is in
    record {
      held_le = subst (λ n. held ≤ n) (sym len) t.held_le;
      order_len = front.len ∙ t.order_len ∙ ap (λ n. n + 1) (sym len);
      order_ring = subst (λ n. AreRings new n 1 (λ _. order_of gs held new)) (sym len) (subst (λ xs. AreRings new (length fs) 1 (λ _. xs)) (sym order_is) (one_ring new (length fs) front.rings (f ∷ removed f os) front.are front.is));
      order_below = subst (AreBelow held) (sym order_is) (lt, below_removed held f os t.order_below);
      order_all = λ g lg. subst (IsIn g) (sym order_is) (elim (cases_eq g f) [ inl e ↦ inl (sym e) | inr n ↦ inr (in_removed_other g f os (t.order_all g lg) n) ]);
      buckets_len = t.buckets_len ∙ ap (λ n. n + (s.mask + 1)) (sym len);
      room = subst (λ n. n + (s.mask + 1) < 2 ^ 64) (sym len) t.room;
      rings = t.rings;
      bucket_rings = subst (λ n. AreRings buckets n (s.mask + 1) t.rings) (sym len) t.bucket_rings;
      home = λ g lg. subst (λ b. IsIn g (t.rings b)) (ap (λ a. bucket_of s a (frame_at fs g).tile) (sym ((same g).0)) ∙ ap (λ i. bucket_of s (frame_at gs g).array i) (sym ((same g).1))) (t.home g lg);
      ringed = t.ringed;
      known = λ g lg. subst (λ a. a < length s.firsts.items) (sym ((same g).0)) (t.known g lg);
      distinct = λ g k lg lk ea et. t.distinct g k lg lk (sym ((same g).0) ∙ ea ∙ (same k).0) (sym ((same g).1) ∙ et ∙ (same k).1);
    }

-- the held tiles after a frame came to the front, whatever it holds now
pub held_moved : (fs gs : List Frame) (held f : ℕ) (old new buckets : Links) (s : Spread) (a t : ℕ) (h now : Held) → IsTable fs held old buckets s → f < held → IsFront fs held f old new
    → length gs ≡ length fs → ((g : ℕ) → g ≢ f → frame_at gs g ≡ frame_at fs g) → entry gs f ≡ now
    → look_up (map (entry fs) (order_of fs held old)) a t ≡ Some h → h.frame ≡ f
    → map (entry gs) (order_of gs held new) ≡ now ∷ without a t (map (entry fs) (order_of fs held old))
held_moved fs gs held f old new buckets s a t h now table lt front len others here found at =
    let os = order_of fs held old in
    let order_is : order_of gs held new ≡ f ∷ removed f os = ap (λ n. walk new.after n held) len ∙ order_front fs held f old new buckets s table lt front in
    let is = found_entry fs os a t h found in
    let entry_is : entry fs f ≡ h = ap (entry fs) (sym at) ∙ sym is.0 in
    let distinct : AreDistinct os = table.order_ring.distinct 0 (omega arith) in
    let ea : (entry fs f).array ≡ a = ap (λ (x : Held). x.array) entry_is ∙ is.2 in
    let et : (entry fs f).tile ≡ t = ap (λ (x : Held). x.tile) entry_is ∙ is.3 in
    ap (map (entry gs)) order_is
    ∙ ap (λ x. x ∷ map (entry gs) (removed f os)) here
    ∙ ap (λ l. now ∷ l) (map_other fs gs f (removed f os) others (absent_self f os distinct)
    ∙ sym (without_entry fs os a t f ea et (λ g k ga gt. table.distinct g f (below_in held g os table.order_below k) lt (ga ∙ sym ea) (gt ∙ sym et))))

-- a frame that holds a tile is one of those in use
pub held_low : (fs : List Frame) (held arrays : ℕ) (order buckets : Links) (s : Spread) (now : Holding) (frame : ℕ) → IsTable fs held order buckets s
    → record { frames = length fs; arrays = arrays; held = map (entry fs) (order_of fs held order) } ≡ now
    → (h : Held) × (look_up now.held h.array h.tile ≡ Some h) × (h.frame ≡ frame) → frame < held
held_low fs held arrays order buckets s now frame t view (h, e, at) =
    let found : look_up (map (entry fs) (order_of fs held order)) h.array h.tile ≡ Some h = ap (λ (x : Holding). look_up x.held h.array h.tile) view ∙ e in
    let is = found_entry fs (order_of fs held order) h.array h.tile h found in
    subst (λ f. f < held) at (below_in held h.frame (order_of fs held order) t.order_below is.1)

-- a mark changes neither arrays nor tiles
pub marked_same : (fs : List Frame) (f : ℕ) (x : Frame) (m : Bool) → f < length fs → x ≡ slice_index_or fs f x → (g : ℕ)
    → ((frame_at (slice_set fs f (record { array = x.array; tile = x.tile; marked = m })) g).array ≡ (frame_at fs g).array)
    × ((frame_at (slice_set fs f (record { array = x.array; tile = x.tile; marked = m })) g).tile ≡ (frame_at fs g).tile)
marked_same fs f x m lt is g =
    let y : Frame = record { array = x.array; tile = x.tile; marked = m } in
    let d : Frame = record { array = 0; tile = 0; marked = false } in
    let was : x ≡ frame_at fs f = is ∙ get_or_default fs f x d lt in
    elim (cases_eq g f) [
      | inl e ↦
          let now : frame_at (slice_set fs f y) g ≡ y = ap (frame_at (slice_set fs f y)) e ∙ get_or-set_same fs f y d lt in (
            ap (λ (z : Frame). z.array) now ∙ ap (λ (z : Frame). z.array) was ∙ ap (λ i. (frame_at fs i).array) (sym e),
            ap (λ (z : Frame). z.tile) now ∙ ap (λ (z : Frame). z.tile) was ∙ ap (λ i. (frame_at fs i).tile) (sym e),
          )
      | inr n ↦
          let now : frame_at (slice_set fs f y) g ≡ frame_at fs g = get_or-set_other fs f g y d n in
          (ap (λ (z : Frame). z.array) now, ap (λ (z : Frame). z.tile) now)
    ]

pub marked_entry : (fs : List Frame) (f : ℕ) (x : Frame) (mark : Bool) → f < length fs → x ≡ slice_index_or fs f x
    → entry (slice_set fs f (record { array = x.array; tile = x.tile; marked = x.marked || mark })) f ≡ record (entry fs f) { marked = (entry fs f).marked || mark }
marked_entry fs f x mark lt is =
    let d : Frame = record { array = 0; tile = 0; marked = false } in
    let was : x ≡ frame_at fs f = is ∙ get_or_default fs f x d lt in
    let y : Frame = record { array = x.array; tile = x.tile; marked = x.marked || mark } in
    ap (λ (z : Frame). record { array = z.array; tile = z.tile; frame = f; marked = z.marked }) (get_or-set_same fs f y d lt)
    ∙ ap (λ (z : Frame). record { array = z.array; tile = z.tile; frame = f; marked = z.marked || mark }) was
