-- The windows of a body's operations, one after the other.
use Rattle.std.proofs.Common.{◌≡◌, ℕ, zero, suc, ◌+◌, ◌*◌, ◌%◌, ◌^◌, ◌<◌, ◌≤◌, Bool, true, false, List, [], ◌∷◌, ◌++◌, Option, Some, None, if◌then◌else◌, eqb, length, take, get_or, refl, sym, ap, ◌∙◌, subst, inl, inr, arith}
use Rattle.std.proofs.lemmas.Bool.{cases_Bool, eq-eqb, ne_eqb}
use Rattle.std.proofs.lemmas.List.{take_more}
use Rattle.std.proofs.lemmas.List.Sums.{sum_by-le, sum_by-take-le, sum_by_more}
use Rattle.tce_base.specs.Word.{word}
use Rattle.tce_space.specs.Tiling.{Tiling}
use Rattle.tce_cache.specs.Cache.{State as CacheState}
use Rattle.tce_tree.specs.ContractionTree.{ContractionTree, operations, node}
use Rattle.tce_tree.specs.FlatTree.{kind_of, left_of, right_of}
use Rattle.tce_tree.specs.Value.{Assignment}
use Rattle.tce_tree.specs.declared.node.Kind.{Kind}
use Rattle.tce_tree.specs.declared.node.Kind.TheVariants.{Product}
use Rattle.tce_tree.specs.declared.node.Operand.{Operand}
use Rattle.tce_tree.specs.declared.node.Operand.TheVariants.{Leaf, Constant, Node}
use Rattle.tce_code.specs.declared.op.Op.{Op}
use Rattle.tce_exec.specs.Bodies.{node_of_op}
use Rattle.tce_exec.specs.Links.{IsSource, IsTarget, IsLink, AreLinks, KeepsMore}
use Rattle.tce_exec.specs.NodeStates.{Places}
use Rattle.tce_exec.specs.TileCounts.{tile_count_of_operand, tile_count_of_right, tile_count_of_place, tile_count_of_node, tile_count}
use Rattle.tce_exec.specs.Touches.{IsAmongLast}
use Rattle.tce_exec.specs.Windows.{IsTouchedTile}
use Rattle.tce_exec.specs.declared.links.Source.{Source}
use Rattle.tce_exec.specs.declared.links.Source.TheVariants.{Number, Words}
use Rattle.tce_exec.specs.declared.links.Link.{Link}
use Rattle.tce_exec.specs.declared.window.Window.{Window}

pub constant_source : (n : ℕ) (p : Places) (c : CacheState) (first : Assignment) (o : Operand) (k : ℕ) → o ≡ Constant k → k < 2 ^ 64 → IsSource n p c first o (Number k)
unfolding word
constant_source n p c first o k is low = let small : k ≡ k % 2 ^ 64 = omega (arith, low) in subst (λ q. IsSource n p c first q (Number k)) (sym is) small

-- what stands past the end of a list of links
abbrev pub no_link : Link
no_link = record { kind = Product; left = Number 0; right = Number 0; out = record { first = 0; steps = [] } }

-- ---- further back

-- the windows that are known of tiles among the last `n` of one cache are known of those among the last `m` of another
abbrev pub Further : ℕ → ℕ → CacheState → CacheState → Type 0
Further n m c d = (array tile first : ℕ) (marked : Bool) → IsAmongLast n c array tile first marked → IsAmongLast m d array tile first marked

tile_further : (n m : ℕ) (c d : CacheState) (array : ℕ) (shape : Tiling) (indexes : List ℕ) (first : Assignment) (marked : Bool) (w : Window) → Further n m c d
    → IsTouchedTile n c array shape indexes first marked w → IsTouchedTile m d array shape indexes first marked w
tile_further n m c d array shape indexes first marked w f h = record {
  tiling = h.tiling;
  known = h.known;
  at = h.at;
  among = f array _ h.at marked h.among;
  window_is = h.window_is;
}

pub source_further : (n m : ℕ) (p : Places) (c d : CacheState) (first : Assignment) (o : Operand) (s : Source) → Further n m c d → IsSource n p c first o s → IsSource m p d first o s
source_further n m p c d first (Leaf l) (Number k) f h = absurd h
source_further n m p c d first (Leaf l) (Words w) f h = tile_further n m c d l.tensor _ l.indexes.items first false w f h
source_further n m p c d first (Constant k) (Number q) f h = h
source_further n m p c d first (Constant k) (Words w) f h = absurd h
source_further n m p c d first (Node u) (Number k) f h = absurd h
source_further n m p c d first (Node u) (Words w) f h = h

pub target_further : (n m : ℕ) (p : Places) (c d : CacheState) (array : ℕ) (first : Assignment) (v : ℕ) (w : Window) → Further n m c d
    → IsTarget n p c array first v w → IsTarget m p d array first v w
target_further n m p c d array first v w f h = record {
  inner = h.inner;
  root = λ last. tile_further n m c d array _ p.result first true w f (h.root last);
}

link_further : (n m : ℕ) (p : Places) (c d : CacheState) (array : ℕ) (first : Assignment) (v : ℕ) (l : Link) → Further n m c d → IsLink n p c array first v l → IsLink m p d array first v l
link_further n m p c d array first v l f h = record {
  kind_is = h.kind_is;
  left_is = source_further n m p c d first (left_of p.tree v) l.left f h.left_is;
  right_is = λ o e. source_further n m p c d first o l.right f (h.right_is o e);
  own_is = h.own_is;
  out_is = target_further n m p c d array first v l.out f h.out_is;
}

links_further : (n m : ℕ) (p : Places) (c d : CacheState) (array : ℕ) (first : Assignment) (ops : List Op) (links : List Link) → Further n m c d
    → AreLinks n p c array first ops links → AreLinks m p d array first ops links
links_further n m p c d array first [] [] f h = tt
links_further n m p c d array first [] (l ∷ links) f h = absurd h
links_further n m p c d array first (op ∷ ops) [] f h = absurd h
links_further n m p c d array first (op ∷ ops) (l ∷ links) f h = (link_further n m p c d array first (node_of_op op) l f h.0, links_further n m p c d array first ops links f h.1)

-- among fewer, and so among more
pub weaker : (n m : ℕ) (c : CacheState) → n ≤ m → Further n m c c
weaker n m c le = λ array tile first marked h. record {
  at = h.at;
  low = omega (arith, h.low, le);
  held = h.held;
  stands = h.stands;
  array_is = h.array_is;
  tile_is = h.tile_is;
  place_is = h.place_is;
  marked_is = h.marked_is;
}

-- touches one after the other
pub keeps_both : (m k : ℕ) (a b c : CacheState) → b.frames ≡ a.frames → KeepsMore m a b → KeepsMore k b c → KeepsMore (m + k) a c
keeps_both m k a b c same f g = λ n array tile first marked room h.
    let once = f n array tile first marked (omega (arith, room)) h in
    let twice = g (n + m) array tile first marked (omega (arith, room, same)) once in
    weaker (n + m + k) (n + (m + k)) c (omega arith) array tile first marked twice

pub keeps_own : (c : CacheState) → KeepsMore 0 c c
keeps_own c = λ n array tile first marked room h. weaker n (n + 0) c (omega arith) array tile first marked h

further_by : (n m : ℕ) (c d : CacheState) → n + m ≤ c.frames → KeepsMore m c d → Further n (n + m) c d
further_by n m c d room keeps = λ array tile first marked h. keeps n array tile first marked room h

-- ---- so many tiles

pub operand_count : (o : Operand) → tile_count_of_operand o ≤ 1
operand_count (Leaf l) = omega arith
operand_count (Constant k) = omega arith
operand_count (Node u) = omega arith

pub right_count : (o : Option Operand) → tile_count_of_right o ≤ 1
right_count None = omega arith
right_count (Some o) = operand_count o

pub place_count : (tree : ContractionTree) (v : ℕ) → tile_count_of_place tree v ≤ 1
place_count tree v = elim (cases_Bool (eqb (v + 1) (operations tree))) [
  | inl t ↦ (let e : tile_count_of_place tree v ≡ 1 = ap (λ b. if b then 1 else 0) t in omega (arith, e))
  | inr o ↦ (let e : tile_count_of_place tree v ≡ 0 = ap (λ b. if b then 1 else 0) o in omega (arith, e))
]

pub inner_count : (tree : ContractionTree) (v : ℕ) → (v + 1 ≡ operations tree → ⊥) → tile_count_of_place tree v ≡ 0
inner_count tree v other = ap (λ b. if b then 1 else 0) (ne_eqb (v + 1) (operations tree) other)

pub root_count : (tree : ContractionTree) (v : ℕ) → v + 1 ≡ operations tree → tile_count_of_place tree v ≡ 1
root_count tree v last = ap (λ b. if b then 1 else 0) (eq-eqb (v + 1) (operations tree) last)

pub node_count : (tree : ContractionTree) (v : ℕ) → tile_count_of_node tree v ≤ 3
node_count tree v = omega (arith, operand_count (left_of tree v), right_count (right_of tree v), place_count tree v)

pub body_count : (tree : ContractionTree) (ops : List Op) → tile_count tree ops ≤ 3 * length ops
body_count tree ops =
    let at = sum_by-le (λ op. tile_count_of_node tree (node_of_op op)) 3 ops (λ k d low. node_count tree (node_of_op (get_or ops k d))) in
    omega (arith, at)

-- a window needs the tile that its operand takes
source_tight : (p : Places) (c : CacheState) (first : Assignment) (o : Operand) (s : Source) → IsSource 1 p c first o s → IsSource (tile_count_of_operand o) p c first o s
source_tight p c first (Leaf l) (Number k) h = absurd h
source_tight p c first (Leaf l) (Words w) h = h
source_tight p c first (Constant k) (Number q) h = h
source_tight p c first (Constant k) (Words w) h = absurd h
source_tight p c first (Node u) (Number k) h = absurd h
source_tight p c first (Node u) (Words w) h = h

target_tight : (n : ℕ) (p : Places) (c : CacheState) (array : ℕ) (first : Assignment) (v : ℕ) (w : Window) → tile_count_of_place p.tree v ≤ n → IsTarget 1 p c array first v w → IsTarget n p c array first v w
target_tight n p c array first v w le h = record {
  inner = h.inner;
  root = λ last. tile_further 1 n c c array _ p.result first true w (weaker 1 n c (let one = root_count p.tree v last in omega (arith, le, one))) (h.root last);
}

-- ---- one operation

pub pair_link : (p : Places) (b c d : CacheState) (array : ℕ) (first : Assignment) (v : ℕ) (kind : Kind) (o second : Operand) (left right : Source) (out : Window) → 3 ≤ b.frames → 3 ≤ c.frames
    → KeepsMore (tile_count_of_operand second) b c → KeepsMore (tile_count_of_place p.tree v) c d → kind ≡ kind_of (node p.tree v) → o ≡ left_of p.tree v → Some second ≡ right_of p.tree v
    → IsSource 1 p b first o left → IsSource 1 p c first second right
    → IsTarget 1 p d array first v out → IsLink (tile_count_of_node p.tree v) p d array first v (record { kind = kind; left = left; right = right; out = out })
pair_link p b c d array first v kind o second left right out room_b room_c f g is left_at right_at l r t = record {
  kind_is = is;
  left_is = subst (λ q. IsSource n p d first q left) left_at
      (source_further (a + k + m) n p d d first o left (weaker (a + k + m) n d whole)
      (source_further (a + k) (a + k + m) p c d first o left (further_by (a + k) m c d (omega (arith, room_c, one, two, three)) g)
      (source_further a (a + k) p b c first o left (further_by a k b c (omega (arith, room_b, one, two)) f) (source_tight p b first o left l))));
  right_is = λ q e.
      let same : second ≡ q = cc in
      subst (λ q. IsSource n p d first q right) same
      (source_further (k + m) n p d d first second right (weaker (k + m) n d (omega (arith, whole)))
      (source_further k (k + m) p c d first second right (further_by k m c d (omega (arith, room_c, two, three)) g) (source_tight p c first second right r)));
  own_is = λ e. absurd (cc);
  out_is = target_tight n p d array first v out (omega (arith, whole)) t;
}
  where
    a : ℕ
    a = tile_count_of_operand o

    k : ℕ
    k = tile_count_of_operand second

    m : ℕ
    m = tile_count_of_place p.tree v

    n : ℕ
    n = tile_count_of_node p.tree v

    one : a ≤ 1
    one = operand_count o

    two : k ≤ 1
    two = operand_count second

    three : m ≤ 1
    three = place_count p.tree v

    whole : a + k + m ≤ n
    whole = let e = ap tile_count_of_operand left_at in let f = ap tile_count_of_right right_at in omega (arith, e, f)

pub sum_link : (p : Places) (b c : CacheState) (array : ℕ) (first : Assignment) (v : ℕ) (kind : Kind) (o : Operand) (left : Source) (out : Window) → 3 ≤ b.frames
    → KeepsMore (tile_count_of_place p.tree v) b c → kind ≡ kind_of (node p.tree v) → o ≡ left_of p.tree v → None ≡ right_of p.tree v → IsSource 1 p b first o left
    → IsTarget 1 p c array first v out → IsLink (tile_count_of_node p.tree v) p c array first v (record { kind = kind; left = left; right = Words out; out = out })
sum_link p b c array first v kind o left out room f is left_at none l t = record {
  kind_is = is;
  left_is = subst (λ q. IsSource n p c first q left) left_at
      (source_further (a + m) n p c c first o left (weaker (a + m) n c whole)
      (source_further a (a + m) p b c first o left (further_by a m b c (omega (arith, room, operand_count o, place_count p.tree v)) f) (source_tight p b first o left l)));
  right_is = λ q e. absurd (cc);
  own_is = λ e. refl;
  out_is = target_tight n p c array first v out (omega (arith, whole)) t;
}
  where
    a : ℕ
    a = tile_count_of_operand o

    m : ℕ
    m = tile_count_of_place p.tree v

    n : ℕ
    n = tile_count_of_node p.tree v

    whole : a + m ≤ n
    whole = let e = ap tile_count_of_operand left_at in omega (arith, e)

-- the tiles of one operation
pub pair_keeps : (tree : ContractionTree) (v : ℕ) (o second : Operand) (a b c d : CacheState) → b.frames ≡ a.frames → c.frames ≡ b.frames → o ≡ left_of tree v → Some second ≡ right_of tree v
    → KeepsMore (tile_count_of_operand o) a b → KeepsMore (tile_count_of_operand second) b c → KeepsMore (tile_count_of_place tree v) c d → KeepsMore (tile_count_of_node tree v) a d
pair_keeps tree v o second a b c d same later left_at right_at f g h =
    subst (λ n. KeepsMore n a d) (ap (λ n. n + tile_count_of_operand second + tile_count_of_place tree v) (ap tile_count_of_operand left_at)
    ∙ ap (λ n. tile_count_of_operand (left_of tree v) + n + tile_count_of_place tree v) (ap tile_count_of_right right_at))
    (keeps_both (tile_count_of_operand o + tile_count_of_operand second) (tile_count_of_place tree v) a c d (later ∙ same)
    (keeps_both (tile_count_of_operand o) (tile_count_of_operand second) a b c same f g) h)

pub sum_keeps : (tree : ContractionTree) (v : ℕ) (o : Operand) (a b c : CacheState) → b.frames ≡ a.frames → o ≡ left_of tree v → None ≡ right_of tree v
    → KeepsMore (tile_count_of_operand o) a b → KeepsMore (tile_count_of_place tree v) b c → KeepsMore (tile_count_of_node tree v) a c
sum_keeps tree v o a b c same left_at none f g =
    let whole : tile_count_of_operand o + tile_count_of_place tree v ≡ tile_count_of_node tree v =
    (let e = ap tile_count_of_operand left_at in let n = ap tile_count_of_right none in omega (arith, e, n)) in
    subst (λ n. KeepsMore n a c) whole (keeps_both (tile_count_of_operand o) (tile_count_of_place tree v) a b c same f g)

-- ---- one operation more

links_joined : (n : ℕ) (p : Places) (c : CacheState) (array : ℕ) (first : Assignment) (ops : List Op) (links : List Link) (op : Op) (l : Link)
    → AreLinks n p c array first ops links → IsLink n p c array first (node_of_op op) l → AreLinks n p c array first (ops ++ op ∷ []) (links ++ l ∷ [])
links_joined n p c array first [] [] op l h one = (one, tt)
links_joined n p c array first [] (k ∷ links) op l h one = absurd h
links_joined n p c array first (o ∷ ops) [] op l h one = absurd h
links_joined n p c array first (o ∷ ops) (k ∷ links) op l h one = (h.0, links_joined n p c array first ops links op l h.1 one)

pub links_more : (p : Places) (c d : CacheState) (array : ℕ) (first : Assignment) (ops : List Op) (links : List Link) (k : ℕ) (op e : Op) (l : Link) (v : ℕ)
    → KeepsMore (tile_count_of_node p.tree v) c d → tile_count p.tree ops ≤ c.frames
    → k < length ops → op ≡ get_or ops k e → v ≡ node_of_op op → AreLinks (tile_count p.tree (take k ops)) p c array first (take k ops) links → IsLink (tile_count_of_node p.tree v) p d array first v l
    → AreLinks (tile_count p.tree (take (k + 1) ops)) p d array first (take (k + 1) ops) (links ++ l ∷ [])
links_more p c d array first ops links k op e l v keeps room low named at h one =
    subst (λ os. AreLinks more p d array first os (links ++ l ∷ [])) (sym (take_more ops k e low ∙ ap (λ o. take k ops ++ o ∷ []) (sym named)))
    (links_joined more p d array first (take k ops) links op l
    (links_further done more p c d array first (take k ops) links
    (λ array tile place marked last. weaker (done + m) more d (omega (arith, next)) array tile place marked (keeps done array tile place marked (omega (arith, next, room, few)) last)) h)
    (subst (λ u. IsLink more p d array first u l) at (link_further m more p d d array first v l (weaker m more d (omega (arith, next))) one)))
  where
    done : ℕ
    done = tile_count p.tree (take k ops)

    more : ℕ
    more = tile_count p.tree (take (k + 1) ops)

    m : ℕ
    m = tile_count_of_node p.tree v

    f : Op → ℕ
    f o = tile_count_of_node p.tree (node_of_op o)

    next : more ≡ done + m
    next = sum_by_more f ops k e low ∙ ap (λ o. done + f o) (sym named) ∙ ap (λ u. done + tile_count_of_node p.tree u) (sym at)

    few : more ≤ tile_count p.tree ops
    few = sum_by-take-le f ops (k + 1)

pub all_links : (p : Places) (c : CacheState) (array : ℕ) (first : Assignment) (ops : List Op) (links : List Link) (k : ℕ) → k ≡ length ops
    → AreLinks (tile_count p.tree (take k ops)) p c array first (take k ops) links → AreLinks (3 * length ops) p c array first ops links
all_links p c array first ops links k e h =
    links_further (tile_count p.tree ops) (3 * length ops) p c c array first ops links (weaker (tile_count p.tree ops) (3 * length ops) c (body_count p.tree ops))
    (subst (λ os. AreLinks (tile_count p.tree os) p c array first os links) (taken ops) (subst (λ j. AreLinks (tile_count p.tree (take j ops)) p c array first (take j ops) links) e h))
  where
    taken : {X : Type 0} (xs : List X) → take (length xs) xs ≡ xs
    taken [] = refl
    taken (x ∷ xs) = ap (λ l. x ∷ l) (taken xs)

-- ---- each by its operation

pub same_count : (n : ℕ) (p : Places) (c : CacheState) (array : ℕ) (first : Assignment) (ops : List Op) (links : List Link) → AreLinks n p c array first ops links → length links ≡ length ops
same_count n p c array first [] [] h = refl
same_count n p c array first [] (l ∷ links) h = absurd h
same_count n p c array first (op ∷ ops) [] h = absurd h
same_count n p c array first (op ∷ ops) (l ∷ links) h = ap suc (same_count n p c array first ops links h.1)

pub link_at : (n : ℕ) (p : Places) (c : CacheState) (array : ℕ) (first : Assignment) (ops : List Op) (links : List Link) (k : ℕ) (d : Op) (e : Link) → AreLinks n p c array first ops links
    → k < length ops → IsLink n p c array first (node_of_op (get_or ops k d)) (get_or links k e)
link_at n p c array first [] [] k d e h low = absurd (omega (arith, low))
link_at n p c array first [] (l ∷ links) k d e h low = absurd h
link_at n p c array first (op ∷ ops) [] k d e h low = absurd h
link_at n p c array first (op ∷ ops) (l ∷ links) zero d e h low = h.0
link_at n p c array first (op ∷ ops) (l ∷ links) (suc k) d e h low = link_at n p c array first ops links k d e h.1 (omega (arith, low))
