-- What is found for the node that a band carries.
use Rattle.std.proofs.Common.{◌≡◌, ℕ, zero, suc, ◌+◌, ◌<◌, ◌≤◌, true, false, List, All, length, map, get_or, replicate, refl, sym, ◌∙◌, subst, arith}
use Rattle.std.proofs.lemmas.Bool.{false≢true}
use Rattle.tce_space.specs.Box.{product}
use Rattle.tce_space.specs.Space.{IndexSpace, extent_at}
use Rattle.tce_tree.specs.ContractionTree.{ContractionTree, operations, node_dims}
use Rattle.tce_tree.specs.WellFormed.{is_distinct}
use Rattle.tce_code.specs.declared.op.Op.{Op}
use Rattle.tce_walk.proofs.LeftValues.{sets_alone}
use Rattle.tce_walk.specs.Bands.{Known}
use Rattle.tce_walk.specs.BandSearch.{known_of}
use Rattle.tce_walk.specs.FoundTerms.{AddUpToValue, AreKeptDims, AreTermsOf, IsTermOver, LeavesValues}
use Rattle.tce_walk.specs.Positions.{program_at}
use Rattle.tce_walk.specs.Terms.{touches_of_terms}
use Rattle.tce_walk.specs.Touches.{block_count}
use Rattle.tce_walk.specs.declared.band_search.Band.{Band}
use Rattle.tce_walk.specs.declared.combination.Terms.{Terms}

-- where no node is marked, none is known
pub none_marked : (n v : ℕ) → v < n → known_of (replicate n false) v ≡ true → ⊥
none_marked n v l h = false≢true (sym (get_or_replicate n v l) ∙ h)
  where
    get_or_replicate : (n v : ℕ) → v < n → get_or (replicate n false) v true ≡ false
    get_or_replicate zero v l = absurd (omega (arith, l))
    get_or_replicate (suc n) zero l = refl
    get_or_replicate (suc n) (suc v) l = get_or_replicate n v (omega (arith, l))

pub terms_found : (space : IndexSpace) (tree : ContractionTree) (fusion : List ℕ) (ops : List Op) (band : Band) (terms : Terms) (loops : List ℕ) (set least most : ℕ) (before after : Known)
    → loops ≡ band.loops.0.items → band.carrier < operations tree → is_distinct loops ≡ true → AreKeptDims tree fusion loops band.carrier
    → block_count space loops + 1 ≤ product (map (extent_at space) loops)
    → LeavesValues space tree fusion band.carrier (program_at ops band.at) before after least → after band.carrier ≡ true → ((v : ℕ) → v < operations tree → before v ≡ true → ⊥)
    → AddUpToValue tree band.carrier terms.terms.items terms.scale → 1 ≤ length terms.terms.items → touches_of_terms space terms.terms.items ≤ most → most ≤ least
    → set ≡ node_dims tree band.carrier → All (IsTermOver space tree loops set) terms.terms.items → AreTermsOf space tree fusion ops band terms
terms_found space tree fusion ops band terms loops set least most before after is l distinct kept coarse leaves marked none adds some few low dims each = record {
  known = l;
  dims = subst (λ xs. AreKeptDims tree fusion xs band.carrier) is kept;
  distinct = subst (λ xs. is_distinct xs ≡ true) is distinct;
  some = omega (arith, some);
  each = subst (λ n. All (IsTermOver space tree band.loops.0.items n) terms.terms.items) dims (subst (λ xs. All (IsTermOver space tree xs set) terms.terms.items) is each);
  adds_up = adds;
  sets = λ s over. sets_alone space tree fusion band.carrier (program_at ops band.at) before after least s over l marked none leaves;
  touches = omega (arith, few, low, leaves.touches);
  coarse = subst (λ xs. block_count space xs + 1 ≤ product (map (extent_at space) xs)) is coarse;
}
