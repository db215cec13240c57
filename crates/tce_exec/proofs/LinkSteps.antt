-- Windows of links that begin where an index is further.
use Rattle.std.proofs.Common.{◌≡◌, ℕ, zero, suc, ◌+◌, ◌-◌, ◌*◌, ◌<◌, ◌≤◌, List, [], ◌∷◌, map, length, get_or, slice_index, refl, ap, ap₂, ◌∙◌, arith}
use Rattle.std.specs.List.{All}
use Rattle.tce_tree.specs.Value.{Assignment, with_number}
use Rattle.tce_tree.specs.declared.node.Kind.{Kind}
use Rattle.tce_walk.proofs.StraightBodies.{all-rest}
use Rattle.tce_exec.specs.ChainRows.{window_along, source_along, link_along, window_before, source_before, link_before, IsLinkAlong, IsLinkFar, IsSourceFar}
use Rattle.tce_exec.specs.Links.{IsLinkWithin, IsAlongWithin, window_at, source_at, link_at_turn}
use Rattle.tce_exec.specs.declared.links.Source.{Source}
use Rattle.tce_exec.specs.declared.links.Source.TheVariants.{Number, Words}
use Rattle.tce_exec.specs.declared.links.Link.{Link}
use Rattle.tce_exec.specs.declared.window.Window.{Window}
use Rattle.tce_exec.proofs.LinkTurns.{single, within_along}

-- ---- where an index is further

further_place : (f a b s : ℕ) → f + a * s + b * s ≡ f + (a + b) * s
further_place f a b s = omega arith

abbrev pub from_place : (n : ℕ) (w : Window) → Window
from_place n w = record { first = n; steps = w.steps }

window_further : (i a b : ℕ) (w : Window) → window_along i b (window_along i a w) ≡ window_along i (a + b) w
window_further i a b w = ap (λ n. from_place n w) (further_place w.first a b (slice_index w.steps i))

source_further : (i a b : ℕ) (s : Source) → source_along i b (source_along i a s) ≡ source_along i (a + b) s
source_further i a b (Number k) = refl
source_further i a b (Words w) = ap (λ u. Words u) (window_further i a b w)

abbrev pub link_of : Kind → Source → Source → Window → Link
link_of k l r o = record { kind = k; left = l; right = r; out = o }

pub same_link : (k : Kind) (l m r s : Source) (o p : Window) → l ≡ m → r ≡ s → o ≡ p → link_of k l r o ≡ link_of k m s p
same_link k l m r s o p e f g = ap (λ q. link_of k q r o) e ∙ ap (λ q. link_of k m q o) f ∙ ap (λ q. link_of k m s q) g

link_further : (i a b : ℕ) (l : Link) → link_along i b (link_along i a l) ≡ link_along i (a + b) l
link_further i a b l = same_link l.kind _ _ _ _ _ _ (source_further i a b l.left) (source_further i a b l.right) (window_further i a b l.out)

pub links_further : (i a b : ℕ) (links : List Link) → map (link_along i b) (map (link_along i a) links) ≡ map (link_along i (a + b)) links
links_further i a b [] = refl
links_further i a b (l ∷ links) = ap₂ (λ m ms. m ∷ ms) (link_further i a b l) (links_further i a b links)

window_none : (i : ℕ) (w : Window) → window_along i 0 w ≡ w
window_none i w = ap (λ n. from_place n w) (let e : w.first + 0 * slice_index w.steps i ≡ w.first = omega arith in e)

source_none : (i : ℕ) (s : Source) → source_along i 0 s ≡ s
source_none i (Number k) = refl
source_none i (Words w) = ap (λ u. Words u) (window_none i w)

link_none : (i : ℕ) (l : Link) → link_along i 0 l ≡ l
link_none i l = same_link l.kind _ _ _ _ _ _ (source_none i l.left) (source_none i l.right) (window_none i l.out)

pub links_none : (i : ℕ) (links : List Link) → map (link_along i 0) links ≡ links
links_none i [] = refl
links_none i (l ∷ links) = ap₂ (λ m ms. m ∷ ms) (link_none i l) (links_none i links)

-- ---- and back

window_back : (i a : ℕ) (w : Window) → window_before i a (window_along i a w) ≡ w
window_back i a w = ap (λ n. from_place n w) (let e : w.first + a * slice_index w.steps i - a * slice_index w.steps i ≡ w.first = omega arith in e)

source_back : (i a : ℕ) (s : Source) → source_before i a (source_along i a s) ≡ s
source_back i a (Number k) = refl
source_back i a (Words w) = ap (λ u. Words u) (window_back i a w)

link_back : (i a : ℕ) (l : Link) → link_before i a (link_along i a l) ≡ l
link_back i a l = same_link l.kind _ _ _ _ _ _ (source_back i a l.left) (source_back i a l.right) (window_back i a l.out)

pub links_back : (i a : ℕ) (links : List Link) → map (link_before i a) (map (link_along i a) links) ≡ links
links_back i a [] = refl
links_back i a (l ∷ links) = ap₂ (λ m ms. m ∷ ms) (link_back i a l) (links_back i a links)

source_far : (i a : ℕ) (s : Source) → IsSourceFar i a (source_along i a s)
source_far i a (Number k) = tt
source_far i a (Words w) = omega arith

link_far : (i a : ℕ) (l : Link) → IsLinkFar i a (link_along i a l)
link_far i a l = record { left = source_far i a l.left; right = source_far i a l.right; out = omega arith }

pub mapped_at : (P R : Link → Type 0) (f : Link → Link) (xs : List Link) → ((x : Link) → R x → P (f x)) → All R xs → (k : ℕ) (d : Link) → k < length (map f xs) → P (get_or (map f xs) k d)
mapped_at P R f [] h all k d low = absurd (omega (arith, low))
mapped_at P R f (x ∷ xs) h all zero d low = h x (all 0 x (omega arith))
mapped_at P R f (x ∷ xs) h all (suc k) d low = mapped_at P R f xs h (all-rest R x xs all) k d (omega (arith, low))

pub links_far : (i a : ℕ) (links : List Link) → All (IsLinkFar i a) (map (link_along i a) links)
links_far i a links = λ k d low. mapped_at (IsLinkFar i a) (λ l. Unit {0}) (link_along i a) links (λ l u. link_far i a l) (λ k d low. tt) k d low

-- ---- where the words of a turn stand

pub place_apart : (f a b s : ℕ) → f + (a + b) * s ≡ f + a * s + b * s
place_apart f a b s = omega arith

source_apart : (count i a b : ℕ) (s : Source) → IsAlongWithin count i (a + b) s → IsAlongWithin count i b (source_along i a s)
source_apart count i a b (Number k) h = tt
source_apart count i a b (Words w) h = let e = place_apart w.first a b (slice_index w.steps i) in omega (arith, h, e)

link_apart : (count i a b : ℕ) (l : Link) → IsLinkAlong count i (a + b) l → IsLinkAlong count i b (link_along i a l)
link_apart count i a b l h = record {
  left = source_apart count i a b l.left h.left;
  right = source_apart count i a b l.right h.right;
  out = let e = place_apart l.out.first a b (slice_index l.out.steps i) in let o = h.out in omega (arith, o, e);
}

pub links_apart : (count i a b : ℕ) (links : List Link) → All (IsLinkAlong count i (a + b)) links → All (IsLinkAlong count i b) (map (link_along i a) links)
links_apart count i a b links h = λ k d low. mapped_at (IsLinkAlong count i b) (IsLinkAlong count i (a + b)) (link_along i a) links (λ l u. link_apart count i a b l u) h k d low

pub link_of_turn : (count : ℕ) (l : Link) (first b : Assignment) (i x : ℕ) → i < 24 → b ≡ with_number first i (first i + x) → IsLinkWithin count first b l → IsLinkAlong count i x l
link_of_turn count l first b i x low e h = record {
  left = within_along count l.left first b i x low e h.left;
  right = within_along count l.right first b i x low e h.right;
  out = let o = h.out in omega (arith, o, single l.out first b i x low e);
}

-- ---- links that begin at a turn

window_of_turn : (w : Window) (first b : Assignment) (i x : ℕ) → i < 24 → b ≡ with_number first i (first i + x) → window_at first b w ≡ window_along i x w
window_of_turn w first b i x low e = ap (λ n. from_place n w) (single w first b i x low e)

source_of_turn : (s : Source) (first b : Assignment) (i x : ℕ) → i < 24 → b ≡ with_number first i (first i + x) → source_at first b s ≡ source_along i x s
source_of_turn (Number k) first b i x low e = refl
source_of_turn (Words w) first b i x low e = ap (λ u. Words u) (window_of_turn w first b i x low e)

pub links_of_turn : (links : List Link) (first b : Assignment) (i x : ℕ) → i < 24 → b ≡ with_number first i (first i + x) → map (link_at_turn first b) links ≡ map (link_along i x) links
links_of_turn [] first b i x low e = refl
links_of_turn (l ∷ links) first b i x low e =
    ap₂ (λ m ms. m ∷ ms) (same_link l.kind _ _ _ _ _ _ (source_of_turn l.left first b i x low e) (source_of_turn l.right first b i x low e) (window_of_turn l.out first b i x low e))
    (links_of_turn links first b i x low e)
