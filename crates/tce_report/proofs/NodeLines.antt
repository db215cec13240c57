-- The lines of nodes, from their parts.
use Rattle.std.proofs.Common.{◌≡◌, ℕ, ◌+◌, List, [], ◌∷◌, ◌++◌, codes, slice_index, eqb, false, ap, ap₂, sym, ◌∙◌, append_assoc, rules, tests}
use Rattle.std.specs.Fmt.{decimal}
use Rattle.std.specs.List.{flat_map, range_with_len}
use Rattle.std.proofs.lemmas.List.{flat_map_more}
use Rattle.std.proofs.lemmas.Bool.{eq-eqb}
use Rattle.tce_space.specs.Space.{IndexSpace}
use Rattle.tce_space.proofs.Ranges.{range_next}
use Rattle.tce_tree.specs.ContractionTree.{ContractionTree, operations, node}
use Rattle.tce_tree.specs.FlatTree.{kind_of}
use Rattle.tce_tree.specs.Fusion.{fused_at, order_at}
use Rattle.tce_tree.specs.declared.node.Kind.{Kind}
use Rattle.tce_report.specs.NodeLine.{Stated, node_line, line_saying, loops_text, set_text}

other_test : (a b : ℕ) → (a ≡ b → ⊥) → eqb a b ≡ false
other_test a b other = search (rules, tests)

pub root_line : (space : IndexSpace) (tree : ContractionTree) (s : Stated) (v : ℕ) (kind : Kind) (order line new : List ℕ) → v + 1 ≡ operations tree
    → kind ≡ kind_of (node tree v) → order ≡ order_at s.orders v → line ≡ loops_text space v kind order → new ≡ line ++ codes " result"
    → new ≡ node_line space tree s v
unfolding node_line line_saying
root_line space tree s v kind order line new is is_kind is_order is_line is_new =
    rw (eq-eqb (v + 1) (operations tree) is)
    (is_new ∙ ap (λ t. t ++ codes " result") (is_line ∙ ap₂ (λ k o. loops_text space v k o) is_kind is_order))

pub inner_line : (space : IndexSpace) (tree : ContractionTree) (s : Stated) (v : ℕ) (kind : Kind) (order : List ℕ) (fused size : ℕ) (line new : List ℕ) → (v + 1 ≡ operations tree → ⊥)
    → kind ≡ kind_of (node tree v) → order ≡ order_at s.orders v → fused ≡ fused_at s.fusion v → size ≡ slice_index s.sizes v → line ≡ loops_text space v kind order
    → new ≡ line ++ (codes " fused " ++ (set_text space fused ++ (codes " size " ++ decimal size)))
    → new ≡ node_line space tree s v
unfolding node_line line_saying
inner_line space tree s v kind order fused size line new other is_kind is_order is_fused is_size is_line is_new =
    rw (other_test (v + 1) (operations tree) other)
    (is_new ∙ ap₂ (λ t r. t ++ r) (is_line ∙ ap₂ (λ k o. loops_text space v k o) is_kind is_order)
    (ap₂ (λ f n. codes " fused " ++ (set_text space f ++ (codes " size " ++ decimal n))) is_fused is_size))

-- one more line and its line feed
pub lines_more : (f : ℕ → List ℕ) (old text with_line with_feed line : List ℕ) (v : ℕ)
    → text ≡ old ++ flat_map (λ w. f w ++ 10 ∷ []) (range_with_len 0 v) → line ≡ f v → with_line ≡ text ++ line → with_feed ≡ with_line ++ 10 ∷ []
    → with_feed ≡ old ++ flat_map (λ w. f w ++ 10 ∷ []) (range_with_len 0 (v + 1))
lines_more f old text with_line with_feed line v is is_line e1 e2 =
    e2
    ∙ ap (λ t. t ++ 10 ∷ []) e1
    ∙ append_assoc text line (10 ∷ [])
    ∙ ap₂ (λ t l. t ++ (l ++ 10 ∷ [])) is is_line
    ∙ flat_map_more (λ w. f w ++ 10 ∷ []) old (range_with_len 0 v) v
    ∙ ap (λ r. old ++ flat_map (λ w. f w ++ 10 ∷ []) r) (sym (range_next v))
