-- What the search for a band checks, position by position.
use Rattle.std.proofs.Common.{◌≡◌, ◌⊎◌, ℕ, suc, ◌+◌, ◌-◌, ◌<◌, ◌≤◌, min, Bool, true, false, not, Option, Some, None, List, [], ◌∷◌, length, get_or, drop, IsTrue, refl, sym, ap, ap₂, ◌∙◌, subst, inl, inr, arith}
use Rattle.std.proofs.lemmas.Bool.{and_from, and_parts, ne_eqb}
use Rattle.std.proofs.lemmas.List.{drop_more, drop_all}
use Rattle.std.specs.List.{list_all}
use Rattle.std.specs.Prelude.{slice_index}
use Rattle.tce_space.specs.IndexSet.{minus}
use Rattle.tce_space.specs.declared.loop_order.LoopOrder.{LoopOrder}
use Rattle.tce_tree.specs.Fusion.{kept_dims}
use Rattle.tce_tree.specs.ContractionTree.{Arithmetic, ContractionTree, node_dims, leaf, constant, binary, sum, multiply, add, subtract, is_leaf, operations, node, left_tree, right_tree}
use Rattle.tce_tree.specs.FlatTree.{operand_of, left_operand, right_operand, left_of, right_of, first_number_of, kind_of}
use Rattle.tce_tree.specs.declared.node.Kind.TheVariants.{Sum as SumKind}
use Rattle.tce_tree.specs.declared.node.Operand.{Operand}
use Rattle.tce_tree.specs.WellFormed.{among}
use Rattle.tce_tree.proofs.Nodes.{size_bounds, node-positive}
use Rattle.tce_code.specs.Program.{Program, stop, step, loop, compute, op_of, first_of, others_of}
use Rattle.tce_code.specs.declared.op.Op.{Op}
use Rattle.tce_code.specs.declared.op.Op.TheVariants.{Open, Close, Mul, Add, Sub}
use Rattle.tce_walk.specs.Bands.{Known, is_sum, is_ready, left_ready, right_ready, passes, known_after, gained, action_passes, IsBand}
use Rattle.tce_walk.specs.BandSearch.{known_of, operand_ready, IsPassed, IsCheckedAt, IsNestAt, BeginsBand}
use Rattle.tce_walk.specs.Positions.{programs_at, program_at, IsPlain, plain_program}
use Rattle.tce_walk.specs.Tails.{is_stop, loops_round}
use Rattle.tce_walk.specs.declared.band_search.Band.{Band}
use Rattle.tce_walk.specs.declared.band_search.Claim.{Claim}
use Rattle.tce_walk.proofs.Positions.{programs-loop, programs-action, programs-within, stop-close, stop-past, ends-close, ends-past}
use Rattle.tce_walk.proofs.Searching.{named, ends-with, stop-ends, is-stop, rest-at, program-loop}
use Rattle.tce_walk.proofs.Walking.{action-of, plain-program}

-- ---- nodes and their operands

sum_by_kind : (c : ContractionTree) → kind_of c ≡ SumKind → 0 < operations c → is_sum c ≡ true
sum_by_kind (leaf t is) k some = absurd (omega (arith, some))
sum_by_kind (constant n) k some = absurd (omega (arith, some))
sum_by_kind (binary multiply l r) k some = absurd (let h : ⊥ = cc in h)
sum_by_kind (binary add l r) k some = absurd (let h : ⊥ = cc in h)
sum_by_kind (binary subtract l r) k some = absurd (let h : ⊥ = cc in h)
sum_by_kind (sum is e) k some = refl

pub sum_at : (tree : ContractionTree) (v : ℕ) → v < operations tree → kind_of (node tree v) ≡ SumKind → is_sum (node tree v) ≡ true
sum_at tree v l k = sum_by_kind (node tree v) k (size_bounds tree v l).0

named_ready : (known : Known) (first u : ℕ) (c : ContractionTree) → (is_leaf c ≡ false → u + 1 ≡ first + operations c) → operand_ready known (operand_of first c) ≡ is_ready known c u
named_ready known first u (leaf t is) h = refl
named_ready known first u (constant n) h = refl
named_ready known first u (binary op l r) h = let same : first + operations l + operations r ≡ u = omega (arith, h refl) in ap known same
named_ready known first u (sum is e) h = let same : first + operations e ≡ u = omega (arith, h refl) in ap known same

left_ready_in : (known : Known) (c : ContractionTree) (v : ℕ) → 0 < operations c → operations c ≤ v + 1
    → operand_ready known (left_operand (v + 1 - operations c) c) ≡ is_ready known (left_tree c) (v - 1 - operations (right_tree c))
left_ready_in known (leaf t is) v some low = absurd (omega (arith, some))
left_ready_in known (constant n) v some low = absurd (omega (arith, some))
left_ready_in known (binary op l r) v some low =
    named_ready known (v + 1 - (operations l + operations r + 1)) (v - 1 - operations r) l (λ h. omega (arith, low, node-positive l h))
left_ready_in known (sum is e) v some low = named_ready known (v + 1 - (operations e + 1)) (v - 1 - 0) e (λ h. omega (arith, low, node-positive e h))

pub left_ready_is : (tree : ContractionTree) (known : Known) (v : ℕ) → v < operations tree → operand_ready known (left_of tree v) ≡ left_ready tree known v
unfolding left_of first_number_of
left_ready_is tree known v l = left_ready_in known (node tree v) v (size_bounds tree v l).0 (size_bounds tree v l).1

abbrev some_ready : Known → Option Operand → Bool
some_ready known None = true
some_ready known (Some operand) = operand_ready known operand

right_ready_in : (known : Known) (c : ContractionTree) (v : ℕ) → operations c ≤ v + 1
    → some_ready known (right_operand (v + 1 - operations c) c) ≡ is_ready known (right_tree c) (v - 1)
right_ready_in known (leaf t is) v low = refl
right_ready_in known (constant n) v low = refl
right_ready_in known (binary op l r) v low =
    named_ready known (v + 1 - (operations l + operations r + 1) + operations l) (v - 1) r (λ h. omega (arith, low, node-positive r h))
right_ready_in known (sum is e) v low = refl

right_ready_is : (tree : ContractionTree) (known : Known) (v : ℕ) → v < operations tree → some_ready known (right_of tree v) ≡ right_ready tree known v
unfolding right_of first_number_of
right_ready_is tree known v l = right_ready_in known (node tree v) v (size_bounds tree v l).1

pub right_ready_some : (tree : ContractionTree) (known : Known) (v : ℕ) (operand : Operand) → v < operations tree → Some operand ≡ right_of tree v
    → operand_ready known operand ≡ true → right_ready tree known v ≡ true
right_ready_some tree known v operand l is h = sym (right_ready_is tree known v l) ∙ ap (some_ready known) (sym is) ∙ h

pub right_ready_none : (tree : ContractionTree) (known : Known) (v : ℕ) → v < operations tree → None ≡ right_of tree v → right_ready tree known v ≡ true
right_ready_none tree known v l is = sym (right_ready_is tree known v l) ∙ ap (some_ready known) (sym is)

-- ---- lists and marks

pub all_from : (p : ℕ → Bool) (xs : List ℕ) → ((k : ℕ) → k < length xs → p (get_or xs k 0) ≡ true) → list_all p xs ≡ true
all_from p [] h = refl
all_from p (x ∷ xs) h = and_from (p x) (list_all p xs) (h 0 (omega arith)) (all_from p xs (λ k l. h (suc k) (omega (arith, l))))

pub none_among : (xs : List ℕ) (i : ℕ) → ((k : ℕ) → k < length xs → get_or xs k 0 ≡ i → ⊥) → among xs i ≡ false
none_among [] i h = refl
none_among (x ∷ xs) i h = rw (ne_eqb x i (h 0 (omega arith))) (none_among xs i (λ k l e. h (suc k) (omega (arith, l)) e))

-- ---- programs

pub passed_stop : (tree : ContractionTree) (fusion : List ℕ) (claim : Claim) (program : Program) (marks : List Bool) → program ≡ stop → IsPassed tree fusion claim program marks marks
passed_stop tree fusion claim program marks is = subst (λ p. IsPassed tree fusion claim p marks marks) (sym is) (record { passes = refl; known = refl })

pub checked_past : (tree : ContractionTree) (fusion : List ℕ) (ops : List Op) (claim : Claim) (at : ℕ) (marks : List Bool) → length ops ≤ at → at ≤ length ops
    → IsCheckedAt tree fusion ops claim at at marks marks
checked_past tree fusion ops claim at marks l within = record {
  passed = passed_stop tree fusion claim (program_at ops at) marks (stop-past ops at l);
  ends = record { ends = ends-past ops at at l refl; behind = omega arith; within = within };
}

pub checked_close : (tree : ContractionTree) (fusion : List ℕ) (ops : List Op) (claim : Claim) (at : ℕ) (d : Op) (marks : List Bool) → at < length ops → get_or ops at d ≡ Close
    → IsCheckedAt tree fusion ops claim at at marks marks
checked_close tree fusion ops claim at d marks l is = record {
  passed = passed_stop tree fusion claim (program_at ops at) marks (stop-close ops at l (named ops at d Close l is));
  ends = record { ends = ends-close ops at at l (named ops at d Close l is) refl; behind = omega arith; within = omega (arith, l) };
}

pub checked_loop : (tree : ContractionTree) (fusion : List ℕ) (ops : List Op) (claim : Claim) (at i close next end : ℕ) (d : Op) (old mid new : List Bool) → at < length ops
    → get_or ops at d ≡ Open i → not (among claim.loops.0.items i) ≡ true → next ≡ min (close + 1) (length ops)
    → IsCheckedAt tree fusion ops claim (at + 1) close old mid → IsCheckedAt tree fusion ops claim next end mid new → IsCheckedAt tree fusion ops claim at end old new
checked_loop tree fusion ops claim at i close next end d old mid new l is apart then h k =
    let here = programs-loop ops at i close l (named ops at d (Open i) l is) h.ends.ends in
    let later : programs_at ops next ≡ programs_at ops (close + 1) = ap (programs_at ops) then ∙ programs-within ops (close + 1) in
    let rest : program_at ops next ≡ program_at ops (close + 1) = ap first_of later in
    let is_loop : program_at ops at ≡ loop i (program_at ops (at + 1)) (program_at ops next) =
    ap first_of here ∙ ap (loop i (program_at ops (at + 1))) (sym rest) in
    record {
      passed = subst (λ p. IsPassed tree fusion claim p old new) (sym is_loop) (record {
        passes = and_from (not (among claim.loops.0.items i)) _ apart
            (and_from (passes tree fusion claim.loops.0.items claim.carrier (known_of claim.outside) (known_of old) (program_at ops (at + 1))) _ h.passed.passes
            (subst (λ n. passes tree fusion claim.loops.0.items claim.carrier (known_of claim.outside) n (program_at ops next) ≡ true) h.passed.known k.passed.passes));
        known = k.passed.known ∙ ap (λ n. known_after claim.carrier n (program_at ops next)) h.passed.known;
      });
      ends = record {
        ends = ends-with ops at next end end (ap others_of here ∙ sym (ap others_of later)) refl k.ends.ends;
        behind = omega (arith, h.ends.behind, k.ends.behind, then, l);
        within = k.ends.within;
      };
    }

pub checked_action : (tree : ContractionTree) (fusion : List ℕ) (ops : List Op) (claim : Claim) (at end : ℕ) (d : Op) (old mid new : List Bool) → at < length ops
    → IsPlain (get_or ops at d) → IsPassed tree fusion claim (plain_program (get_or ops at d)) old mid → IsCheckedAt tree fusion ops claim (at + 1) end mid new
    → IsCheckedAt tree fusion ops claim at end old new
checked_action tree fusion ops claim at end d old mid new l plain h k =
    let a = action-of (get_or ops at d) plain in
    let own : IsPassed tree fusion claim (step a.action stop) old mid = subst (λ p. IsPassed tree fusion claim p old mid) a.alone h in
    let here = programs-action ops at a.action l (named ops at d (op_of a.action) l (sym a.spells)) in
    record {
      passed = subst (λ p. IsPassed tree fusion claim p old new) (sym (plain-program ops at d l a)) (record {
        passes = and_from (action_passes tree fusion claim.loops.0.items claim.carrier (known_of claim.outside) (known_of old) a.action) _
            (and_parts (action_passes tree fusion claim.loops.0.items claim.carrier (known_of claim.outside) (known_of old) a.action) true own.passes).0
            (subst (λ n. passes tree fusion claim.loops.0.items claim.carrier (known_of claim.outside) n (program_at ops (at + 1)) ≡ true) own.known k.passed.passes);
        known = k.passed.known ∙ ap (λ n. known_after claim.carrier n (program_at ops (at + 1))) own.known;
      });
      ends = record {
        ends = ends-with ops at (at + 1) end end (ap others_of here) refl k.ends.ends;
        behind = omega (arith, k.ends.behind);
        within = k.ends.within;
      };
    }

-- ---- loops that hold nothing else

pub nest_body : (tree : ContractionTree) (fusion : List ℕ) (ops : List Op) (claim : Claim) (at d end : ℕ) (old new : List Bool) → length claim.loops.0.items ≤ d → at ≤ length ops
    → IsCheckedAt tree fusion ops claim at end old new → IsNestAt tree fusion ops claim at d end old new
nest_body tree fusion ops claim at d end old new all within h =
    let none : at ≡ at + (length claim.loops.0.items - d) = omega (arith, all) in
    record {
      is = ap (program_at ops) none ∙ ap (λ order. loops_round order (program_at ops (at + (length claim.loops.0.items - d)))) (sym (drop_all d claim.loops.0.items all));
      within = omega (arith, none, within);
      passed = subst (λ k. IsPassed tree fusion claim (program_at ops k) old new) none h.passed;
      ends = h.ends;
    }

pub nest_loop : (tree : ContractionTree) (fusion : List ℕ) (ops : List Op) (claim : Claim) (at d i close end : ℕ) (e : Op) (old new : List Bool) → at < length ops
    → d < length claim.loops.0.items → get_or ops at e ≡ Open i → i ≡ get_or claim.loops.0.items d 0 → end ≡ min (close + 1) (length ops)
    → is_stop (program_at ops end) ≡ true → IsNestAt tree fusion ops claim (at + 1) (d + 1) close old new → IsNestAt tree fusion ops claim at d end old new
nest_loop tree fusion ops claim at d i close end e old new l m is named_so then stops h =
    let order : List ℕ = claim.loops.0.items in
    let here = programs-loop ops at i close l (named ops at e (Open i) l is) h.ends.ends in
    let rest = rest-at ops at close h.ends.ends ∙ ap (program_at ops) (sym then) ∙ is-stop (program_at ops end) stops in
    let alone : program_at ops at ≡ loop i (program_at ops (at + 1)) stop = program-loop ops at i e l is ∙ ap (loop i (program_at ops (at + 1))) rest in
    let same : at + 1 + (length order - (d + 1)) ≡ at + (length order - d) = omega (arith, m) in
    record {
      is = alone ∙ ap (λ p. loop i p stop) (h.is ∙ ap (λ k. loops_round (drop (d + 1) order) (program_at ops k)) same)
          ∙ ap (λ xs. loops_round xs (program_at ops (at + (length order - d)))) (ap (λ x. x ∷ drop (d + 1) order) named_so ∙ sym (drop_more order d 0 m));
      within = omega (arith, same, h.within);
      passed = subst (λ k. IsPassed tree fusion claim (program_at ops k) old new) same h.passed;
      ends = record {
        ends = stop-ends ops at end stops (ap (λ k. others_of (programs_at ops k)) then ∙ ap others_of (programs-within ops (close + 1)) ∙ sym (ap others_of here));
        behind = omega (arith, h.ends.behind, then, l);
        within = omega (arith, then);
      };
    }

-- ---- single answers

pub kept_is : (tree : ContractionTree) (fusion : List ℕ) (v kept all fused : ℕ) → kept ≡ minus all fused → all ≡ node_dims tree v → fused ≡ slice_index fusion v
    → kept ≡ kept_dims tree fusion v
unfolding kept_dims
kept_is tree fusion v kept all fused is a f = is ∙ ap₂ minus a f

pub passed_compute : (tree : ContractionTree) (fusion : List ℕ) (claim : Claim) (op : Op) (v : ℕ) (old new : List Bool) → (op ≡ Mul v) ⊎ ((op ≡ Add v) ⊎ (op ≡ Sub v))
    → ((a : Arithmetic) → IsTrue (action_passes tree fusion claim.loops.0.items claim.carrier (known_of claim.outside) (known_of old) (compute a v)))
    → known_of new ≡ gained claim.carrier (known_of old) v → IsPassed tree fusion claim (plain_program op) old new
passed_compute tree fusion claim op v old new (inl is) h k =
    subst (λ o. IsPassed tree fusion claim (plain_program o) old new) (sym is) (record { passes = and_from _ true (h multiply) refl; known = k })
passed_compute tree fusion claim op v old new (inr (inl is)) h k =
    subst (λ o. IsPassed tree fusion claim (plain_program o) old new) (sym is) (record { passes = and_from _ true (h add) refl; known = k })
passed_compute tree fusion claim op v old new (inr (inr is)) h k =
    subst (λ o. IsPassed tree fusion claim (plain_program o) old new) (sym is) (record { passes = and_from _ true (h subtract) refl; known = k })

pub begins_band : (tree : ContractionTree) (fusion : List ℕ) (ops : List Op) (claim : Claim) (at i : ℕ) (band : Band) (new : List Bool)
    → 0 < length claim.loops.0.items → get_or claim.loops.0.items 0 0 ≡ i → band.loops ≡ claim.loops → band.carrier ≡ claim.carrier → band.at ≡ at + length claim.loops.0.items
    → IsNestAt tree fusion ops claim (at + 1) 1 band.close claim.outside new → ((v : ℕ) → (v ≡ claim.carrier) ⊎ IsTrue (known_of new v))
    → BeginsBand tree fusion ops at i band
begins_band tree fusion ops claim at i band new some first loops carries is h known =
    let order : List ℕ = claim.loops.0.items in
    let same : at + 1 + (length order - 1) ≡ band.at = omega (arith, some, is) in
    let own : order ≡ band.loops.0.items = ap (λ (o : LoopOrder). o.0.items) (sym loops) in
    let passed = subst (λ k. IsPassed tree fusion claim (program_at ops k) claim.outside new) same h.passed in
    let whole : i ∷ drop 1 order ≡ band.loops.0.items = ap (λ x. x ∷ drop 1 order) (sym first) ∙ sym (drop_more order 0 0 some) ∙ own in
    record {
      body = record {
        outside = known_of claim.outside;
        passes = subst (λ t. IsBand tree fusion band.loops.0.items t (known_of claim.outside) (program_at ops band.at)) (sym carries)
            (subst (λ o. IsBand tree fusion o claim.carrier (known_of claim.outside) (program_at ops band.at)) own (record {
              passes = passed.passes;
              rest = λ v. elim (known v) [ inl q ↦ inl q | inr m ↦ inr (ap (λ k. k v) (sym passed.known) ∙ m) ];
            }));
        within = omega (arith, same, h.within);
      };
      is = ap (λ p. loop i p stop) (h.is ∙ ap (λ k. loops_round (drop 1 order) (program_at ops k)) same) ∙ ap (λ xs. loops_round xs (program_at ops band.at)) whole;
      deeper = omega (arith, some, is);
      ends = h.ends;
    }
