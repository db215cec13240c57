-- Loops of a block that run as one row.
use Rattle.std.proofs.Common.{◌≡◌, ℕ, zero, suc, add-one, ◌+◌, ◌-◌, ◌*◌, ◌^◌, ◌<◌, ◌≤◌, List, [], ◌∷◌, map, length, drop, set, get_or, slice_index, slice_set, length-set, refl, sym, ap, ap₂, ◌∙◌, subst, inl, inr, arith}
use Rattle.std.specs.List.{All}
use Rattle.std.proofs.Math.Nat.{mul_assoc, mul-le-mul_right}
use Rattle.std.proofs.lemmas.Bool.{cases_eq}
use Rattle.std.proofs.lemmas.List.{drop_more, length-drop}
use Rattle.tce_space.specs.Box.{product}
use Rattle.tce_space.specs.Space.{IsSpace}
use Rattle.tce_tree.specs.FlatTree.{IsTree}
use Rattle.tce_code.specs.Program.{program_of}
use Rattle.tce_walk.specs.PartRuns.{exec_along}
use Rattle.tce_walk.proofs.StraightBodies.{all-rest}
use Rattle.tce_exec.specs.Bodies.{touches_along}
use Rattle.tce_exec.specs.ChainRows.{put_along, after_turn, after_row, window_along, source_along, link_along, IsLinkAlong}
use Rattle.tce_exec.specs.Following.{kept_own}
use Rattle.tce_exec.specs.Links.{AreLinks, IsAtFirst, IsAlongWithin, word_along}
use Rattle.tce_exec.specs.MergedRows.{IsSourceAlike, IsLinkAlike, AreAlike}
use Rattle.tce_exec.specs.Operands.{combined}
use Rattle.tce_exec.specs.Prepared.{IsPrepared}
use Rattle.tce_exec.specs.Steps.{IsKept, IsChanged}
use Rattle.tce_exec.specs.Workspace.{Workspace, setting_in}
use Rattle.tce_exec.specs.declared.body.BodyBlock.{BodyBlock}
use Rattle.tce_exec.specs.declared.links.Source.{Source}
use Rattle.tce_exec.specs.declared.links.Source.TheVariants.{Number, Words}
use Rattle.tce_exec.specs.declared.links.Link.{Link}
use Rattle.tce_exec.specs.declared.window.Window.{Window}
use Rattle.tce_exec.proofs.Bodies.{IsHere, IsLoopAt, IsSplit, AreTurnsOf, split, all_turns, loop_at, no_turn, next_turn, ranges_long}
use Rattle.tce_exec.proofs.ChainRows.{HasRow, IsRowSoFar, IsLoopTurn, loop_turn, links_here, row_so_far, row_within}
use Rattle.tce_exec.proofs.LinkSteps.{mapped_at, place_apart, from_place, same_link}
use Rattle.tce_exec.proofs.Putting.{with_words}

pub alike_more : (b : BodyBlock) (links : List Link) (depth : ℕ) → 0 < depth → AreAlike b depth links
    → All (IsLinkAlike (slice_index b.loops.now (depth - 1)) (slice_index b.loops.now depth) (slice_index b.len.now depth)) links → AreAlike b (depth - 1) links
alike_more b links depth some h first = λ d le low. elim (cases_eq d (depth - 1)) [
  | inl e ↦
      let next : depth ≡ d + 1 = omega (arith, e, some) in
      subst (λ n. All (IsLinkAlike (slice_index b.loops.now d) (slice_index b.loops.now n) (slice_index b.len.now n)) links) next
      (subst (λ n. All (IsLinkAlike (slice_index b.loops.now n) (slice_index b.loops.now depth) (slice_index b.len.now depth)) links) (sym e) first)
  | inr ne ↦ h d (omega (arith, le, ne)) low
]

-- the last loop alone is one row
pub alone_alike : (b : BodyBlock) (links : List Link) (depth : ℕ) → depth + 1 ≡ length b.loops.now → AreAlike b depth links
alone_alike b links depth last = λ d le low. absurd (omega (arith, last, le, low))

-- ---- a row in two parts

word_split : (i a b : ℕ) (words : List ℕ) (s : Source) → word_along words i (a + b) s ≡ word_along words i b (source_along i a s)
word_split i a b words (Number k) = refl
word_split i a b words (Words w) = ap (slice_index words) (place_apart w.first a b (slice_index w.steps i))

put_split : (i a b : ℕ) (words : List ℕ) (l : Link) → put_along i (a + b) words l ≡ put_along i b words (link_along i a l)
put_split i a b words l =
    ap₂ (slice_set words) (place_apart l.out.first a b (slice_index l.out.steps i)) (ap₂ (combined l.kind) (word_split i a b words l.left) (word_split i a b words l.right))

turn_split : (links : List Link) (i a b : ℕ) (words : List ℕ) → after_turn links i (a + b) words ≡ after_turn (map (link_along i a) links) i b words
turn_split [] i a b words = refl
turn_split (l ∷ links) i a b words = ap (after_turn links i (a + b)) (put_split i a b words l) ∙ turn_split links i a b (put_along i b words (link_along i a l))

row_split : (links : List Link) (i a b : ℕ) (words : List ℕ) → after_row links i (a + b) words ≡ after_row (map (link_along i a) links) i b (after_row links i a words)
row_split links i a zero words = ap (λ n. after_row links i n words) (let e : a + 0 ≡ a = omega arith in e)
row_split links i a (suc b) words =
    ap (λ n. after_row links i n words) (let e : a + suc b ≡ suc (a + b) = omega arith in e)
    ∙ turn_split links i a b (after_row links i (a + b) words)
    ∙ ap (after_turn (map (link_along i a) links) i b) (row_split links i a b words)

-- ---- steps

-- all loops of a row step by the step of the last one
abbrev last_of : BodyBlock → ℕ
last_of b = get_or b.loops.now (length b.loops.now - 1) 0

alike_steps : (b : BodyBlock) (w : Window) (h d : ℕ) → length b.len.now ≡ length b.loops.now → d + suc h ≡ length b.loops.now
    → ((e : ℕ) → d ≤ e → e + 1 < length b.loops.now → slice_index w.steps (get_or b.loops.now e 0) ≡ get_or b.len.now (e + 1) 0 * slice_index w.steps (get_or b.loops.now (e + 1) 0))
    → slice_index w.steps (get_or b.loops.now d 0) ≡ product (drop (d + 1) b.len.now) * slice_index w.steps (last_of b)
alike_steps b w zero d long tall h =
    let none : drop (d + 1) b.len.now ≡ [] = nothing (drop (d + 1) b.len.now) (omega (arith, length-drop (d + 1) b.len.now, long, tall)) in
    let at : d ≡ length b.loops.now - 1 = omega (arith, tall) in
    ap (λ n. slice_index w.steps (get_or b.loops.now n 0)) at ∙ once (slice_index w.steps (last_of b)) ∙ ap (λ ns. product ns * slice_index w.steps (last_of b)) (sym none)
  where
    nothing : (xs : List ℕ) → length xs ≡ 0 → xs ≡ []
    nothing [] e = refl
    nothing (x ∷ xs) e = absurd (omega (arith, e))

    once : (n : ℕ) → n ≡ 1 * n
    once n = omega arith
alike_steps b w (suc h) d long tall f =
    let next = f d (omega arith) (omega (arith, tall)) in
    let rest = alike_steps b w h (d + 1) long (omega (arith, tall)) (λ e le low. f e (omega (arith, le)) low) in
    next
    ∙ ap (λ n. get_or b.len.now (d + 1) 0 * n) rest
    ∙ sym (mul_assoc (get_or b.len.now (d + 1) 0) (product (drop (d + 1 + 1) b.len.now)) (slice_index w.steps (last_of b)))
    ∙ ap (λ ns. product ns * slice_index w.steps (last_of b)) (sym (drop_more b.len.now (d + 1) 0 (omega (arith, tall, long))))

-- a link all of whose windows step so
abbrev IsRowLink : BodyBlock → ℕ → Link → Type 0
IsRowLink b d l = (e : ℕ) → d ≤ e → e + 1 < length b.loops.now → IsLinkAlike (get_or b.loops.now e 0) (get_or b.loops.now (e + 1) 0) (get_or b.len.now (e + 1) 0) l

row_links : (b : BodyBlock) (links : List Link) (d : ℕ) → AreAlike b d links → All (IsRowLink b d) links
row_links b links d h = λ k l low e le inside. h e le inside k l low

window_same : (b : BodyBlock) (w : Window) (d k n s : ℕ) → slice_index w.steps (get_or b.loops.now d 0) ≡ n * slice_index w.steps (last_of b) → window_along (last_of b) (k * n) w ≡ window_along (get_or b.loops.now d 0) k w
window_same b w d k n s e = ap (λ m. from_place (w.first + m) w) (mul_assoc k n (slice_index w.steps (last_of b)) ∙ ap (λ m. k * m) (sym e))

source_same : (b : BodyBlock) (s : Source) (h d k : ℕ) → length b.len.now ≡ length b.loops.now → d + suc h ≡ length b.loops.now
    → ((e : ℕ) → d ≤ e → e + 1 < length b.loops.now → IsSourceAlike (get_or b.loops.now e 0) (get_or b.loops.now (e + 1) 0) (get_or b.len.now (e + 1) 0) s)
    → source_along (last_of b) (k * product (drop (d + 1) b.len.now)) s ≡ source_along (get_or b.loops.now d 0) k s
source_same b (Number m) h d k long tall f = refl
source_same b (Words w) h d k long tall f = ap (λ u. Words u) (window_same b w d k (product (drop (d + 1) b.len.now)) 0 (alike_steps b w h d long tall f))

links_same : (b : BodyBlock) (links : List Link) (h d k : ℕ) → length b.len.now ≡ length b.loops.now → d + suc h ≡ length b.loops.now → All (IsRowLink b d) links
    → map (link_along (last_of b) (k * product (drop (d + 1) b.len.now))) links ≡ map (link_along (get_or b.loops.now d 0) k) links
links_same b [] h d k long tall f = refl
links_same b (l ∷ links) h d k long tall f =
    let here : IsRowLink b d l = f 0 l (omega arith) in
    ap₂ (λ m ms. m ∷ ms)
    (same_link l.kind _ _ _ _ _ _ (source_same b l.left h d k long tall (λ e le low. (here e le low).left)) (source_same b l.right h d k long tall (λ e le low. (here e le low).right))
    (window_same b l.out d k (product (drop (d + 1) b.len.now)) 0 (alike_steps b l.out h d long tall (λ e le low. (here e le low).out))))
    (links_same b links h d k long tall (all-rest (IsRowLink b d) l links f))

source_still : (o n c i a : ℕ) (s : Source) → IsSourceAlike o n c s → IsSourceAlike o n c (source_along i a s)
source_still o n c i a (Number k) h = tt
source_still o n c i a (Words w) h = h

link_still : (o n c i a : ℕ) (l : Link) → IsLinkAlike o n c l → IsLinkAlike o n c (link_along i a l)
link_still o n c i a l h = record { left = source_still o n c i a l.left h.left; right = source_still o n c i a l.right h.right; out = h.out }

-- windows that go on step as before
pub still_alike : (b : BodyBlock) (links : List Link) (d i a : ℕ) → AreAlike b d links → AreAlike b d (map (link_along i a) links)
still_alike b links d i a h = λ e le low k l inside.
    mapped_at (IsLinkAlike (get_or b.loops.now e 0) (get_or b.loops.now (e + 1) 0) (get_or b.len.now (e + 1) 0)) (IsLinkAlike (get_or b.loops.now e 0) (get_or b.loops.now (e + 1) 0) (get_or b.len.now (e + 1) 0)) (link_along i a) links
    (λ m u. link_still (get_or b.loops.now e 0) (get_or b.loops.now (e + 1) 0) (get_or b.len.now (e + 1) 0) i a m u) (h e le low) k l inside

pub deeper_alike : (b : BodyBlock) (links : List Link) (d : ℕ) → AreAlike b d links → AreAlike b (d + 1) links
deeper_alike b links d h = λ e le low. h e (omega (arith, le)) low

-- ---- the turns inside

-- what loops that run as one row need
pub record HasRows (x : Workspace) (b : BodyBlock) (numbers : List ℕ) (links : List Link) (d : ℕ) : Type 0 where
  pub prepared : IsPrepared x
  pub space : IsSpace x.places.space
  pub tree : IsTree x.places.tree
  pub low : (k : ℕ) → slice_index x.words k < 2 ^ 64
  pub inside : d < length b.loops.now
  pub many : length b.len.now ≡ length b.loops.now
  pub long : length numbers ≡ 24
  pub begun : IsAtFirst x.places.space b d numbers
  pub body : IsHere (setting_in x) x.places.space b.loops.now b.from.now b.len.now b.ops.now d (slice_index numbers)
  pub links_are : AreLinks (3 * length b.ops.now) x.places x.cache x.tensor (slice_index numbers) b.ops.now links
  pub alike : AreAlike b d links

-- the numbers at a turn of the first of them
abbrev now_at : BodyBlock → List ℕ → ℕ → ℕ → List ℕ
now_at b numbers d k = set numbers (get_or b.loops.now d 0) (get_or b.from.now d 0 + k)

turn_at : (x y : Workspace) (b : BodyBlock) (numbers : List ℕ) (links : List Link) (d k : ℕ) → HasRows x b numbers links d → IsKept x y → k < get_or b.len.now d 0 → IsLoopTurn x y b numbers (now_at b numbers d k) d k
turn_at x y b numbers links d k h kept turn = loop_turn x y b numbers numbers d k h.prepared h.space kept h.inside h.long turn (λ z. refl) h.begun h.body

inner_rows : (x : Workspace) (words : List ℕ) (b : BodyBlock) (numbers : List ℕ) (links : List Link) (d k : ℕ) → HasRows x b numbers links d → IsKept x (with_words x words) → IsPrepared (with_words x words)
    → ((j : ℕ) → slice_index words j < 2 ^ 64) → d + 1 < length b.loops.now → k < get_or b.len.now d 0
    → HasRows (with_words x words) b (now_at b numbers d k) (map (link_along (get_or b.loops.now d 0) k) links) (d + 1)
inner_rows x words b numbers links d k h kept ready low deep turn =
    let at = turn_at x (with_words x words) b numbers links d k h kept turn in
    record {
      prepared = ready;
      space = h.space;
      tree = h.tree;
      low = low;
      inside = deep;
      many = h.many;
      long = length-set numbers (get_or b.loops.now d 0) (get_or b.from.now d 0 + k) ∙ h.long;
      begun = at.begun;
      body = at.here;
      links_are = links_here x b numbers (now_at b numbers d k) links d k (turn_at x x b numbers links d k h (kept_own x) turn) h.links_are;
      alike = deeper_alike b (map (link_along (get_or b.loops.now d 0) k) links) d (still_alike b links d (get_or b.loops.now d 0) k h.alike);
    }

one_row : (x : Workspace) (b : BodyBlock) (numbers : List ℕ) (links : List Link) (d : ℕ) → HasRows x b numbers links d → d + 1 ≡ length b.loops.now → HasRow x b numbers links d
one_row x b numbers links d h last = record {
  prepared = h.prepared;
  space = h.space;
  tree = h.tree;
  low = h.low;
  last = last;
  long = h.long;
  begun = h.begun;
  body = h.body;
  links_are = h.links_are;
}

some_turn : (x : Workspace) (b : BodyBlock) (numbers : List ℕ) (links : List Link) (d : ℕ) → HasRows x b numbers links d → 0 < get_or b.len.now d 0
some_turn x b numbers links d h = (loop_at (setting_in x) x.places.space b.loops.now b.from.now b.len.now b.ops.now d (slice_index numbers) h.space h.inside h.body).some

-- the turns of the last loop, and of one that holds another
pub last_count : (b : BodyBlock) (d : ℕ) → length b.len.now ≡ length b.loops.now → d + 1 ≡ length b.loops.now → product (drop d b.len.now) ≡ get_or b.len.now d 0
last_count b d many last =
    let none : drop (d + 1) b.len.now ≡ [] = nothing (drop (d + 1) b.len.now) (omega (arith, length-drop (d + 1) b.len.now, many, last)) in
    ap product (drop_more b.len.now d 0 (omega (arith, many, last))) ∙ ap (λ ns. get_or b.len.now d 0 * product ns) none ∙ omega arith
  where
    nothing : (xs : List ℕ) → length xs ≡ 0 → xs ≡ []
    nothing [] e = refl
    nothing (x ∷ xs) e = absurd (omega (arith, e))

outer_count : (b : BodyBlock) (d : ℕ) → length b.len.now ≡ length b.loops.now → d < length b.loops.now → product (drop d b.len.now) ≡ get_or b.len.now d 0 * product (drop (d + 1) b.len.now)
outer_count b d many inside = ap product (drop_more b.len.now d 0 (omega (arith, many, inside)))

last_is : (b : BodyBlock) (d : ℕ) → d + 1 ≡ length b.loops.now → get_or b.loops.now d 0 ≡ last_of b
last_is b d last = ap (λ n. get_or b.loops.now n 0) (let e : d ≡ length b.loops.now - 1 = omega (arith, last) in e)

-- ---- where the words of the row stand

along_less : (f a c s n : ℕ) → c ≤ a → f + a * s < n → f + c * s < n
along_less f a c s n le h = let more : c * s ≤ a * s = mul-le-mul_right s le in omega (arith, h, more)

source_less : (m i a c : ℕ) (s : Source) → c ≤ a → IsAlongWithin m i a s → IsAlongWithin m i c s
source_less m i a c (Number k) le h = tt
source_less m i a c (Words w) le h = along_less w.first a c (slice_index w.steps i) m le h

link_less : (m i a c : ℕ) (l : Link) → c ≤ a → IsLinkAlong m i a l → IsLinkAlong m i c l
link_less m i a c l le h = record { left = source_less m i a c l.left le h.left; right = source_less m i a c l.right le h.right; out = along_less l.out.first a c (slice_index l.out.steps i) m le h.out }

source_joined : (m i a c : ℕ) (s : Source) → IsAlongWithin m i c (source_along i a s) → IsAlongWithin m i (a + c) s
source_joined m i a c (Number k) h = tt
source_joined m i a c (Words w) h = let e = place_apart w.first a c (slice_index w.steps i) in omega (arith, h, e)

link_joined : (m i a c : ℕ) (l : Link) → IsLinkAlong m i c (link_along i a l) → IsLinkAlong m i (a + c) l
link_joined m i a c l h = record {
  left = source_joined m i a c l.left h.left;
  right = source_joined m i a c l.right h.right;
  out = let e = place_apart l.out.first a c (slice_index l.out.steps i) in let o = h.out in omega (arith, o, e);
}

joined_at : (m i a c : ℕ) (links : List Link) → All (IsLinkAlong m i c) (map (link_along i a) links) → (k : ℕ) (l : Link) → k < length links → IsLinkAlong m i (a + c) (get_or links k l)
joined_at m i a c [] h k l low = absurd (omega (arith, low))
joined_at m i a c (x ∷ links) h zero l low = link_joined m i a c x (h 0 (link_along i a x) (omega arith))
joined_at m i a c (x ∷ links) h (suc k) l low = joined_at m i a c links (all-rest (IsLinkAlong m i c) (link_along i a x) (map (link_along i a) links) h) k l (omega (arith, low))

turns_less : (n t : ℕ) → 0 < n → 0 < t → (n - 1) * t + (t - 1) ≡ n * t - 1
turns_less zero t some more = absurd (omega (arith, some))
turns_less (suc n) t some more =
    let one : suc n - 1 ≡ n = omega arith in
    let same : (suc n - 1) * t ≡ n * t = ap (λ m. m * t) one in
    omega (arith, more, same)

some_count : (h : ℕ) (x : Workspace) (b : BodyBlock) (numbers : List ℕ) (links : List Link) (d : ℕ) → HasRows x b numbers links d → d + suc h ≡ length b.loops.now → 0 < product (drop d b.len.now)
some_count zero x b numbers links d r tall =
    let e = last_count b d r.many (omega (arith, tall)) in let s = some_turn x b numbers links d r in omega (arith, e, s)
some_count (suc h) x b numbers links d r tall =
    let deep : d + 1 < length b.loops.now = omega (arith, tall) in
    let inner = inner_rows x x.words b numbers links d 0 r (kept_own x) r.prepared r.low deep (some_turn x b numbers links d r) in
    let rest = some_count h x b (now_at b numbers d 0) (map (link_along (get_or b.loops.now d 0) 0) links) (d + 1) inner (omega (arith, tall)) in
    let more : 1 * product (drop (d + 1) b.len.now) ≤ get_or b.len.now d 0 * product (drop (d + 1) b.len.now) = mul-le-mul_right (product (drop (d + 1) b.len.now)) (let s = some_turn x b numbers links d r in omega (arith, s)) in
    let e = outer_count b d r.many r.inside in
    omega (arith, rest, more, e)

last_within : (h m : ℕ) (x : Workspace) (b : BodyBlock) (numbers : List ℕ) (links : List Link) (d : ℕ) → HasRows x b numbers links d → d + suc h ≡ length b.loops.now → length x.words ≤ m
    → All (IsLinkAlong m (last_of b) (product (drop d b.len.now) - 1)) links
last_within zero m x b numbers links d r tall le =
    let last : d + 1 ≡ length b.loops.now = omega (arith, tall) in
    let e = last_count b d r.many last in
    let s = some_turn x b numbers links d r in
    subst (λ i. All (IsLinkAlong m i (product (drop d b.len.now) - 1)) links) (last_is b d last)
    (row_within m x b numbers links d (one_row x b numbers links d r last) le (product (drop d b.len.now) - 1) (omega (arith, e, s)))
last_within (suc h) m x b numbers links d r tall le =
    let deep : d + 1 < length b.loops.now = omega (arith, tall) in
    let q : ℕ = get_or b.len.now d 0 - 1 in
    let n : ℕ = product (drop (d + 1) b.len.now) in
    let s = some_turn x b numbers links d r in
    let inner = inner_rows x x.words b numbers links d q r (kept_own x) r.prepared r.low deep (omega (arith, s)) in
    let moved = map (link_along (get_or b.loops.now d 0) q) links in
    let rest = last_within h m x b (now_at b numbers d q) moved (d + 1) inner (omega (arith, tall)) le in
    let more = some_count h x b (now_at b numbers d q) moved (d + 1) inner (omega (arith, tall)) in
    let same = links_same b links (suc h) d q r.many tall (row_links b links d r.alike) in
    let all = joined_at m (last_of b) (q * n) (n - 1) links (subst (All (IsLinkAlong m (last_of b) (n - 1))) (sym same) rest) in
    subst (λ t. All (IsLinkAlong m (last_of b) t) links) (turns_less (get_or b.len.now d 0) n s more ∙ ap (λ t. t - 1) (sym (outer_count b d r.many r.inside))) (λ k l low. all k l low)

pub rows_within : (h m : ℕ) (x : Workspace) (b : BodyBlock) (numbers : List ℕ) (links : List Link) (d : ℕ) → HasRows x b numbers links d → d + suc h ≡ length b.loops.now → length x.words ≤ m
    → (by : ℕ) → by < product (drop d b.len.now) → All (IsLinkAlong m (last_of b) by) links
rows_within h m x b numbers links d r tall le by turn = λ k l low.
    link_less m (last_of b) (product (drop d b.len.now) - 1) by (get_or links k l) (omega (arith, turn)) (last_within h m x b numbers links d r tall le k l low)

-- ---- what the row leaves

pub record AreRowsDone (x : Workspace) (b : BodyBlock) (numbers : List ℕ) (d : ℕ) (new : List ℕ) : Type 0 where
  pub kept : IsKept x (with_words x new)
  pub changed : IsChanged (λ state. exec_along (setting_in x) (program_of b.ops.now) (drop d b.loops.now) (drop d b.from.now) (drop d b.len.now) state (slice_index numbers)) (touches_along (drop d b.len.now) b.ops.now) x (with_words x new)
  pub low : (k : ℕ) → slice_index new k < 2 ^ 64

-- the same of the loops inside
abbrev RowsInside : BodyBlock → ℕ → Type 0
RowsInside b d =
    (x : Workspace) (numbers : List ℕ) (links : List Link) → HasRows x b numbers links (d + 1) → AreRowsDone x b numbers (d + 1) (after_row links (last_of b) (product (drop (d + 1) b.len.now)) x.words)

rows_more : (x : Workspace) (b : BodyBlock) (numbers : List ℕ) (links : List Link) (h d k : ℕ) → RowsInside b d → HasRows x b numbers links d → d + suc (suc h) ≡ length b.loops.now → k < get_or b.len.now d 0
    → IsRowSoFar x b numbers d k (after_row links (last_of b) (k * product (drop (d + 1) b.len.now)) x.words)
    → IsRowSoFar x b numbers d (suc k) (after_row links (last_of b) (suc k * product (drop (d + 1) b.len.now)) x.words)
rows_more x b numbers links h d k inside r tall turn before = record {
  turns = subst (λ ws. AreTurnsOf x (with_words x ws) b.ops.now b.loops.now b.from.now b.len.now d (suc k) (slice_index numbers)) whole
      (subst (λ c. AreTurnsOf x (with_words x new) b.ops.now b.loops.now b.from.now b.len.now d c (slice_index numbers)) (add-one k)
      (next_turn x (with_words x mid) (with_words x new) b.ops.now b.loops.now b.from.now b.len.now d k (slice_index numbers) (slice_index (now_at b numbers d k)) r.prepared before.turns at.next done.kept done.changed));
  low = λ j. subst (λ ws. slice_index ws j < 2 ^ 64) whole (done.low j);
}
  where
    n : ℕ
    n = product (drop (d + 1) b.len.now)

    mid : List ℕ
    mid = after_row links (last_of b) (k * n) x.words

    moved : List Link
    moved = map (link_along (get_or b.loops.now d 0) k) links

    new : List ℕ
    new = after_row moved (last_of b) n mid

    at : IsLoopTurn x (with_words x mid) b numbers (now_at b numbers d k) d k
    at = turn_at x (with_words x mid) b numbers links d k r before.turns.kept turn

    done : AreRowsDone (with_words x mid) b (now_at b numbers d k) (d + 1) new
    done = inside (with_words x mid) (now_at b numbers d k) moved
        (inner_rows x mid b numbers links d k r before.turns.kept before.turns.changed.prepared before.low (omega (arith, tall)) turn)

    further : suc k * n ≡ k * n + n
    further = omega arith

    whole : new ≡ after_row links (last_of b) (suc k * n) x.words
    whole =
        ap (λ ls. after_row ls (last_of b) n mid) (sym (links_same b links (suc h) d k r.many tall (row_links b links d r.alike)))
        ∙ sym (row_split links (last_of b) (k * n) n x.words)
        ∙ ap (λ t. after_row links (last_of b) t x.words) (sym further)

rows_so_far : (x : Workspace) (b : BodyBlock) (numbers : List ℕ) (links : List Link) (h d k : ℕ) → RowsInside b d → HasRows x b numbers links d → d + suc (suc h) ≡ length b.loops.now → k ≤ get_or b.len.now d 0
    → IsRowSoFar x b numbers d k (after_row links (last_of b) (k * product (drop (d + 1) b.len.now)) x.words)
rows_so_far x b numbers links h d zero inside r tall le =
    subst (λ t. IsRowSoFar x b numbers d 0 (after_row links (last_of b) t x.words)) (nothing (product (drop (d + 1) b.len.now)))
    (record { turns = no_turn x b.ops.now b.loops.now b.from.now b.len.now d (slice_index numbers) r.prepared; low = r.low })
  where
    nothing : (t : ℕ) → 0 ≡ 0 * t
    nothing t = omega arith
rows_so_far x b numbers links h d (suc k) inside r tall le =
    rows_more x b numbers links h d k inside r tall (omega (arith, le)) (rows_so_far x b numbers links h d k inside r tall (omega (arith, le)))

rows_from_turns : (x : Workspace) (b : BodyBlock) (numbers new : List ℕ) (links : List Link) (d : ℕ) → HasRows x b numbers links d → IsRowSoFar x b numbers d (get_or b.len.now d 0) new → AreRowsDone x b numbers d new
rows_from_turns x b numbers new links d r row =
    let at : IsSplit b.loops.now b.from.now b.len.now d = split x.places.space b.loops.now b.from.now b.len.now d r.body.ranges r.inside in
    record {
      kept = row.turns.kept;
      changed = all_turns x (with_words x new) b.ops.now b.loops.now b.from.now b.len.now d (get_or b.len.now d 0) (slice_index numbers) at refl row.turns;
      low = row.low;
    }

pub rows_done : (h : ℕ) (x : Workspace) (b : BodyBlock) (numbers : List ℕ) (links : List Link) (d : ℕ) → HasRows x b numbers links d → d + suc h ≡ length b.loops.now
    → AreRowsDone x b numbers d (after_row links (last_of b) (product (drop d b.len.now)) x.words)
rows_done zero x b numbers links d r tall =
    let last : d + 1 ≡ length b.loops.now = omega (arith, tall) in
    subst (λ t. AreRowsDone x b numbers d (after_row links (last_of b) t x.words)) (sym (last_count b d r.many last))
    (subst (λ i. AreRowsDone x b numbers d (after_row links i (get_or b.len.now d 0) x.words)) (last_is b d last)
    (rows_from_turns x b numbers (after_row links (get_or b.loops.now d 0) (get_or b.len.now d 0) x.words) links d r
    (row_so_far x b numbers links d (get_or b.len.now d 0) (one_row x b numbers links d r last) (omega arith))))
rows_done (suc h) x b numbers links d r tall =
    subst (λ t. AreRowsDone x b numbers d (after_row links (last_of b) t x.words)) (sym (outer_count b d r.many r.inside))
    (rows_from_turns x b numbers (after_row links (last_of b) (get_or b.len.now d 0 * product (drop (d + 1) b.len.now)) x.words) links d r
    (rows_so_far x b numbers links h d (get_or b.len.now d 0) (λ y ns ls inner. rows_done h y b ns ls (d + 1) inner (omega (arith, tall))) r tall (omega arith)))

-- ---- from the row's depth on

height : BodyBlock → ℕ → ℕ
height b d = length b.loops.now - 1 - d

tall : (b : BodyBlock) (d : ℕ) → d < length b.loops.now → d + suc (height b d) ≡ length b.loops.now
unfolding height
tall b d inside = omega (arith, inside)

small_last : (h : ℕ) (x : Workspace) (b : BodyBlock) (numbers : List ℕ) (links : List Link) (d : ℕ) → HasRows x b numbers links d → d + suc h ≡ length b.loops.now → last_of b < 24
small_last zero x b numbers links d r e =
    let here = loop_at (setting_in x) x.places.space b.loops.now b.from.now b.len.now b.ops.now d (slice_index numbers) r.space r.inside r.body in
    let s = here.small in
    let same = last_is b d (omega (arith, e)) in
    omega (arith, s, same)
small_last (suc h) x b numbers links d r e =
    small_last h x b (now_at b numbers d 0) (map (link_along (get_or b.loops.now d 0) 0) links) (d + 1)
    (inner_rows x x.words b numbers links d 0 r (kept_own x) r.prepared r.low (omega (arith, e)) (some_turn x b numbers links d r)) (omega (arith, e))

pub rows_small : (x : Workspace) (b : BodyBlock) (numbers : List ℕ) (links : List Link) (d : ℕ) → HasRows x b numbers links d → last_of b < 24
rows_small x b numbers links d r = small_last (height b d) x b numbers links d r (tall b d r.inside)

pub rows_fit : (x : Workspace) (b : BodyBlock) (numbers : List ℕ) (links : List Link) (d count : ℕ) → HasRows x b numbers links d → count ≡ product (drop d b.len.now)
    → (by : ℕ) → by < count → All (IsLinkAlong (length x.words) (last_of b) by) links
rows_fit x b numbers links d count r e by turn = rows_within (height b d) (length x.words) x b numbers links d r (tall b d r.inside) (omega arith) by (omega (arith, turn, e))

pub rows_left : (x : Workspace) (b : BodyBlock) (numbers new : List ℕ) (links : List Link) (d count : ℕ) → HasRows x b numbers links d → count ≡ product (drop d b.len.now)
    → new ≡ after_row links (last_of b) count x.words → AreRowsDone x b numbers d new
rows_left x b numbers new links d count r e f =
    subst (AreRowsDone x b numbers d) (sym (f ∙ ap (λ n. after_row links (last_of b) n x.words) e)) (rows_done (height b d) x b numbers links d r (tall b d r.inside))
