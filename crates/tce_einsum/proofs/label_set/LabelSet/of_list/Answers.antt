use Rattle.std.proofs.Common.{◌≡◌, Bool, true, false, ◌||◌, ◌==◌, List, ℕ, ◌-◌, ◌<◌, ◌≤◌, length, get_or, take, drop, All, refl, sym, ap, subst, ◌∙◌}
use Rattle.std.proofs.lemmas.List.Elements.{All-tail}
use Rattle.tce_space.specs.IndexSet.{has}
use Rattle.tce_tree.specs.WellFormed.{among}
use Rattle.tce_einsum.proofs.Loops.{first_and_rest}
use Rattle.tce_einsum.proofs.label_set.LabelSet.of_list.Goals as goal

one_more : (a b c : Bool) → ((a || b) || c) ≡ (a || (b || c))
one_more true b c = refl
one_more false b c = refl

members_next : (old new : ℕ → Bool) (rest labels : List ℕ) (d : ℕ) → 1 ≤ length rest → ((i : ℕ) → new i ≡ (old i || get_or rest 0 d == i)) → ((i : ℕ) → (old i || among rest i) ≡ among labels i)
    → (i : ℕ) → (new i || among (take (length rest - 1) (drop 1 rest)) i) ≡ among labels i
members_next old new rest labels d some is before i =
    ap (λ b. b || among (take (length rest - 1) (drop 1 rest)) i) (is i)
    ∙ one_more (old i) (get_or rest 0 d == i) (among (take (length rest - 1) (drop 1 rest)) i)
    ∙ ap (λ (xs : List ℕ). old i || among xs i) (sym (first_and_rest rest d some))
    ∙ before i

below_next : (rest : List ℕ) → 1 ≤ length rest → All (λ i. i < 32) rest → All (λ i. i < 32) (take (length rest - 1) (drop 1 rest))
below_next rest some below = All-tail (λ i. i < 32) (get_or rest 0 0) (take (length rest - 1) (drop 1 rest)) (subst (All (λ i. i < 32)) (first_and_rest rest 0 some) below)

pub loop-rest-preserved : goal.loop-rest-preserved
loop-rest-preserved c = record {
  members = members_next (has c.loop-rest.all.bits) (has c.with-all.result.bits) c.loop-rest.rest.now c.args.labels.now _ c.in-len1-up.len_at_least c.with-all.ensures c.loop-rest.invariant.members;
  below = below_next c.loop-rest.rest.now c.in-len1-up.len_at_least c.loop-rest.invariant.below;
}
