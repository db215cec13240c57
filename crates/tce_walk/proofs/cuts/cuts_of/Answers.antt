use Rattle.std.proofs.Common.{◌≡◌, ℕ, ◌+◌, ◌<◌, ◌≤◌, List, [], ◌∷◌, ◌++◌, length, map, take, get_or, sym, ap, ap₂, ◌∙◌, subst, arith}
use Rattle.std.specs.List.{All}
use Rattle.std.proofs.lemmas.List.{length-map, length-take-le, map-append, map_more, take_all}
use Rattle.std.proofs.lemmas.List.Elements.{All-push}
use Rattle.tce_space.specs.Space.{extent_at, edge_at}
use Rattle.tce_block.specs.Cuts.{IsCut}
use Rattle.tce_block.specs.declared.cut.Cut.{Cut}
use Rattle.tce_walk.proofs.cuts.cuts_of.Goals as goal

-- as many cuts as loops that the iteration has gone through
as_many : (f : Cut → ℕ) (g : ℕ → ℕ) (cuts : List Cut) (loops : List ℕ) (i : ℕ) → map f cuts ≡ map g (take i loops) → i ≤ length loops → length cuts ≡ i
as_many f g cuts loops i is low = sym (length-map cuts f) ∙ ap length is ∙ length-map (take i loops) g ∙ length-take-le i loops low

-- one cut more, which has of its loop what is asked
cut_more : (f : Cut → ℕ) (g : ℕ → ℕ) (cuts now : List Cut) (cut : Cut) (loops : List ℕ) (i : ℕ) → i < length loops → map f cuts ≡ map g (take i loops) → now ≡ cuts ++ cut ∷ [] → f cut ≡ g (get_or loops i 0)
    → map f now ≡ map g (take (i + 1) loops)
cut_more f g cuts now cut loops i low before is here =
    ap (map f) is ∙ map-append f cuts (cut ∷ []) ∙ ap₂ (λ (xs : List ℕ) x. xs ++ x ∷ []) before here ∙ sym (map_more g loops i 0 low)

pub extent-requires : goal.extent-requires
extent-requires c = c.requires.declared c.loop-index.index-index 0 c.loop-index-test.true

pub edge-requires : goal.edge-requires
edge-requires c = c.requires.declared c.loop-index.index-index 0 c.loop-index-test.true

pub loop-index-preserved : goal.loop-index-preserved
loop-index-preserved c =
    let i = c.loop-index.index-index in
    let cut : Cut = record { index = get_or c.args.loops.now i 0; extent = c.extent.result; edge = c.edge.result } in
    let is_cut : IsCut cut = record { limit = c.extent.ensures.small; edge_some = c.edge.ensures.positive; edge_limit = omega (arith, c.edge.ensures.within, c.extent.ensures.extent) } in
    record {
      cuts = subst (All IsCut) (sym c.push.ensures.items) (All-push IsCut c.loop-index.cuts.items cut c.loop-index.invariant.cuts is_cut);
      extents = cut_more (λ (x : Cut). x.extent) (extent_at c.args.space.now) c.loop-index.cuts.items c.push.new.self.items cut c.args.loops.now i c.loop-index-test.true
          c.loop-index.invariant.extents c.push.ensures.items c.extent.ensures.extent;
      edges = cut_more (λ (x : Cut). x.edge) (edge_at c.args.space.now) c.loop-index.cuts.items c.push.new.self.items cut c.args.loops.now i c.loop-index-test.true
          c.loop-index.invariant.edges c.push.ensures.items c.edge.ensures.edge;
    }

pub push-requires : goal.push-requires
push-requires c =
    let many : length c.loop-index.cuts.items ≡ c.loop-index.index-index = as_many (λ (x : Cut). x.extent) (extent_at c.args.space.now) c.loop-index.cuts.items c.args.loops.now c.loop-index.index-index c.loop-index.invariant.extents c.loop-index.auto.index-index-end in
    let few : length c.loop-index.cuts.items < 10 = omega (arith, many, c.loop-index-test.true, c.requires.few) in
    (omega arith, few)

pub returns-clause-cuts : goal.returns-clause-cuts
returns-clause-cuts c = c.loop-index.invariant.cuts

pub returns-clause-extents : goal.returns-clause-extents
returns-clause-extents c = c.loop-index.invariant.extents ∙ ap (map (extent_at c.args.space.now)) (take_all c.loop-index.index-index c.args.loops.now c.loop-index-test.false)

pub returns-clause-edges : goal.returns-clause-edges
returns-clause-edges c = c.loop-index.invariant.edges ∙ ap (map (edge_at c.args.space.now)) (take_all c.loop-index.index-index c.args.loops.now c.loop-index-test.false)
