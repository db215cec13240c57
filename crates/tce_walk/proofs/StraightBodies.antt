-- Bodies of operations alone, and what a machine is asked there.
use Rattle.std.proofs.Common.{◌≡◌, ℕ, zero, suc, ◌+◌, ◌-◌, ◌*◌, ◌^◌, ◌<◌, ◌≤◌, true, Option, Some, None, Result, Ok, Err, List, [], ◌∷◌, ◌++◌, map, length, get_or, take, drop, refl, sym, ap, ◌∙◌, subst, inl, inr, arith}
use Rattle.std.specs.Prelude.{IfSome, OnOk, All}
use Rattle.std.specs.Option.{option_map}
use Rattle.std.proofs.lemmas.Bool.{cases_Bool}
use Rattle.std.proofs.lemmas.List.{drop_more}
use Rattle.tce_space.specs.Box.{product}
use Rattle.tce_space.specs.Space.{IndexSpace, extent_at}
use Rattle.tce_tree.proofs.Conditions.{order-has, order-distinct}
use Rattle.tce_tree.proofs.NamedIndexes.{node_loops_declared}
use Rattle.tce_tree.specs.ContractionTree.{ContractionTree, multiply, add, subtract, operations, node}
use Rattle.tce_tree.specs.Fusion.{OrdersFit, order_at}
use Rattle.tce_tree.specs.Measure.{IsMeasured}
use Rattle.tce_tree.specs.Value.{Assignment}
use Rattle.tce_tree.specs.WellFormed.{among, is_distinct}
use Rattle.tce_block.specs.Parts.{Part}
use Rattle.tce_code.specs.Execution.{Setting, State}
use Rattle.tce_code.specs.Plan.{Plan}
use Rattle.tce_code.specs.Program.{step, compute, accumulate, program_of}
use Rattle.tce_code.specs.Shape.{EachAction, ActionFits, IsLoop}
use Rattle.tce_code.specs.declared.op.Op.{Op}
use Rattle.tce_code.specs.declared.op.Op.TheVariants.{Open, Close, Clear, Mul, Add, Sub, Acc}
use Rattle.tce_walk.specs.BandRuns.{IsBlockOf, IsPartRun, touches_in}
use Rattle.tce_walk.specs.Bodies.{IsOperationIn, IsBodyAt, touches_of_body, after_body}
use Rattle.tce_walk.specs.Machine.{operation_of_node}
use Rattle.tce_walk.specs.PartRuns.{exec_part}
use Rattle.tce_walk.specs.Positions.{program_at, plain_program}
use Rattle.tce_walk.specs.Run.{AreKept, IsPart, RunsOver}
use Rattle.tce_walk.specs.StraightBodies.{IsOperation, IsStraightTo, IsStraightBody}
use Rattle.tce_walk.specs.Tails.{loops_round}
use Rattle.tce_walk.specs.Touches.{touch_bound}
use Rattle.tce_walk.proofs.BandRuns.{few-loops}
use Rattle.tce_walk.proofs.Parts.{computing-binary, computing-sum}
use Rattle.tce_walk.proofs.TailParts.{among-behind, among-front, distinct-behind, behind-within, round-shape, order-volume}
use Rattle.tce_walk.proofs.Walking.{IsActionOf, plain-program}

-- what it does
pub record IsStepOf (op : Op) : Type 0 where
  pub acts : IsActionOf op
  pub first : (rest : List Op) → program_of (op ∷ rest) ≡ step acts.action (program_of rest)

step-of : (op : Op) → IsOperation op → IsStepOf op
step-of (Open i) h = absurd h
step-of Close h = absurd h
step-of (Clear v) h = absurd h
step-of (Mul v) h = record { acts = record { action = compute multiply v; spells = refl; alone = refl }; first = λ rest. refl }
step-of (Add v) h = record { acts = record { action = compute add v; spells = refl; alone = refl }; first = λ rest. refl }
step-of (Sub v) h = record { acts = record { action = compute subtract v; spells = refl; alone = refl }; first = λ rest. refl }
step-of (Acc v) h = record { acts = record { action = accumulate v; spells = refl; alone = refl }; first = λ rest. refl }

all-none : {X : Type 0} (P : X → Type 0) → All P []
all-none P k d l = absurd (omega (arith, l))

all-more : {X : Type 0} (P : X → Type 0) (x : X) (xs : List X) → P x → All P xs → All P (x ∷ xs)
all-more P x xs h hs zero d l = h
all-more P x xs h hs (suc k) d l = hs k d (omega (arith, l))

all-first : {X : Type 0} (P : X → Type 0) (x : X) (xs : List X) → All P (x ∷ xs) → P x
all-first P x xs h = h 0 x (omega arith)

pub all-rest : {X : Type 0} (P : X → Type 0) (x : X) (xs : List X) → All P (x ∷ xs) → All P xs
all-rest P x xs h k d l = h (suc k) d (omega (arith, l))

taken-more : (ops : List Op) (at end : ℕ) (d : Op) → at < length ops → at + 1 ≤ end
    → take (end - at) (drop at ops) ≡ get_or ops at d ∷ take (end - (at + 1)) (drop (at + 1) ops)
taken-more ops at end d l behind =
    let n : end - at ≡ suc (end - (at + 1)) = omega (arith, behind) in
    ap (λ k. take k (drop at ops)) n ∙ ap (take (suc (end - (at + 1)))) (drop_more ops at d l)

pub straight-more : (ops : List Op) (at end : ℕ) (d : Op) → at < length ops → IsOperation (get_or ops at d) → IsStraightTo ops (at + 1) end → IsStraightTo ops at end
straight-more ops at end d l own h =
    let here = taken-more ops at end d l h.behind in
    let does = step-of (get_or ops at d) own in record {
      behind = omega (arith, h.behind);
      within = h.within;
      is = plain-program ops at d l does.acts ∙ ap (step does.acts.action) h.is ∙ sym (does.first (take (end - (at + 1)) (drop (at + 1) ops)))
          ∙ ap program_of (sym here);
      each = subst (All IsOperation) (sym here) (all-more IsOperation (get_or ops at d) (take (end - (at + 1)) (drop (at + 1) ops)) own h.each);
    }

pub straight-later : (ops : List Op) (at : ℕ) (d : Op) (found : Option ℕ) → at < length ops → IsOperation (get_or ops at d)
    → IfSome found (IsStraightTo ops (at + 1)) → IfSome found (IsStraightTo ops at)
straight-later ops at d None l own h = tt
straight-later ops at d (Some end) l own h = straight-more ops at end d l own h

-- ---- what is asked at such a body

operation-in : (s : Setting) (plan : Plan) (loops opened : List ℕ) (a : Assignment) (op : Op) (v : ℕ) → OrdersFit s.tree plan.orders
    → ((i : ℕ) → among opened i ≡ true → a i < s.elements.extent i) → v < operations s.tree → opened ++ loops ≡ order_at plan.orders v
    → plain_program op ≡ operation_of_node s.tree v → IsOperationIn s loops a op
operation-in s plan loops opened a op v fit inside known whole alone = record {
  node = v;
  known = known;
  alone = alone;
  inside = λ i m. elim (cases_Bool (among loops i)) [
    | inl t ↦ inl t
    | inr f ↦ inr (inside i (among-front opened loops i (ap (λ xs. among xs i) whole ∙ order-has s.tree plan.orders fit v i known ∙ m) f))
  ];
}

-- each operation, inside loops that are open
each-in : (s : Setting) (plan : Plan) (loops opened : List ℕ) (a : Assignment) (body : List Op) → OrdersFit s.tree plan.orders
    → ((i : ℕ) → among opened i ≡ true → a i < s.elements.extent i) → All IsOperation body
    → EachAction (ActionFits s.tree plan) (IsLoop s.tree) (program_of body) (opened ++ loops) → All (IsOperationIn s loops a) body
each-in s plan loops opened a [] fit inside own h = all-none (IsOperationIn s loops a)
each-in s plan loops opened a (Open i ∷ body) fit inside own h = absurd (all-first IsOperation (Open i) body own)
each-in s plan loops opened a (Close ∷ body) fit inside own h = absurd (all-first IsOperation Close body own)
each-in s plan loops opened a (Clear v ∷ body) fit inside own h = absurd (all-first IsOperation (Clear v) body own)
each-in s plan loops opened a (Mul v ∷ body) fit inside own h =
    all-more (IsOperationIn s loops a) (Mul v) body (operation-in s plan loops opened a (Mul v) v fit inside h.0.0 h.0.2 (sym (computing-binary multiply (node s.tree v) v h.0.1)))
    (each-in s plan loops opened a body fit inside (all-rest IsOperation (Mul v) body own) h.1)
each-in s plan loops opened a (Add v ∷ body) fit inside own h =
    all-more (IsOperationIn s loops a) (Add v) body (operation-in s plan loops opened a (Add v) v fit inside h.0.0 h.0.2 (sym (computing-binary add (node s.tree v) v h.0.1)))
    (each-in s plan loops opened a body fit inside (all-rest IsOperation (Add v) body own) h.1)
each-in s plan loops opened a (Sub v ∷ body) fit inside own h =
    all-more (IsOperationIn s loops a) (Sub v) body (operation-in s plan loops opened a (Sub v) v fit inside h.0.0 h.0.2 (sym (computing-binary subtract (node s.tree v) v h.0.1)))
    (each-in s plan loops opened a body fit inside (all-rest IsOperation (Sub v) body own) h.1)
each-in s plan loops opened a (Acc v ∷ body) fit inside own h =
    all-more (IsOperationIn s loops a) (Acc v) body (operation-in s plan loops opened a (Acc v) v fit inside h.0.0 h.0.2 (sym (computing-sum (node s.tree v) v h.0.1)))
    (each-in s plan loops opened a body fit inside (all-rest IsOperation (Acc v) body own) h.1)

-- the node of its first operation
record HasNode (s : Setting) (plan : Plan) (opened : List ℕ) : Type 0 where
  node : ℕ
  known : node < operations s.tree
  whole : opened ≡ order_at plan.orders node

first-node : (s : Setting) (plan : Plan) (opened : List ℕ) (body : List Op) → 0 < length body → All IsOperation body
    → EachAction (ActionFits s.tree plan) (IsLoop s.tree) (program_of body) opened → HasNode s plan opened
first-node s plan opened [] l own h = absurd (omega (arith, l))
first-node s plan opened (Open i ∷ body) l own h = absurd (all-first IsOperation (Open i) body own)
first-node s plan opened (Close ∷ body) l own h = absurd (all-first IsOperation Close body own)
first-node s plan opened (Clear v ∷ body) l own h = absurd (all-first IsOperation (Clear v) body own)
first-node s plan opened (Mul v ∷ body) l own h = record { node = v; known = h.0.0; whole = h.0.2 }
first-node s plan opened (Add v ∷ body) l own h = record { node = v; known = h.0.0; whole = h.0.2 }
first-node s plan opened (Sub v ∷ body) l own h = record { node = v; known = h.0.0; whole = h.0.2 }
first-node s plan opened (Acc v ∷ body) l own h = record { node = v; known = h.0.0; whole = h.0.2 }

-- over the tree of the setting
asked-over : (space : IndexSpace) (s : Setting) (loops : List ℕ) (body : List Op) (part : Part) (a : Assignment) → s.elements.extent ≡ extent_at space → IsMeasured space s.tree
    → AreKept space s.tree → IsPart space s.tree (loops_round loops (program_of body)) a → IsBlockOf space loops part → 0 < length body → All IsOperation body
    → IsBodyAt space s loops body part a
asked-over space s loops body part a extents measured limits h block some own =
    let shape = round-shape (ActionFits s.tree h.plan) (IsLoop s.tree) loops (program_of body) h.opened h.shape in
    let first = first-node s h.plan (h.opened ++ loops) body some own shape in
    let inside : (i : ℕ) → among h.opened i ≡ true → a i < s.elements.extent i = λ i m. subst (λ (f : ℕ → ℕ). a i < f i) (sym extents) (h.inside i m) in
    let volume : product (map (extent_at space) (h.opened ++ loops)) ≤ 2 ^ 90 =
    omega (arith, ap (λ xs. product (map (extent_at space) xs)) first.whole, order-volume space s.tree h.plan.orders h.fit first.node first.known, measured.limit first.node first.known) in
    record {
      few = few-loops space s.tree (program_of body) loops a h;
      distinct = distinct-behind h.opened loops (ap is_distinct first.whole ∙ order-distinct s.tree h.plan.orders h.fit first.node first.known);
      declared = λ i m.
          node_loops_declared space s.tree first.node first.known limits.is_space.index_limit measured.declared i
          (sym (ap (λ xs. among xs i) first.whole ∙ order-has s.tree h.plan.orders h.fit first.node i first.known) ∙ among-behind h.opened loops i m);
      limit = behind-within (extent_at space) h.opened loops (2 ^ 90) (λ i m. let l = h.inside i m in omega arith) volume;
      each = each-in s h.plan loops h.opened a body h.fit inside own shape;
      number = block.number;
      block = block.block;
    }

pub body-asks : (space : IndexSpace) (tree : ContractionTree) (own : IndexSpace) (s : Setting) (ops : List Op) (at : ℕ) (loops : List ℕ) (body : List Op) (part : Part) (a : Assignment)
    → RunsOver space tree own s → AreKept space tree → IsPart space tree (loops_round loops (program_at ops at)) a → IsBlockOf space loops part → IsStraightBody ops at body
    → IsBodyAt own s loops body part a
body-asks space tree own s ops at loops body part a over limits h block straight =
    subst (λ o. IsBodyAt o s loops body part a) (sym over.space_is)
    (asked-over space s loops body part a over.extents (subst (IsMeasured space) (sym over.tree_is) over.measured) (subst (AreKept space) (sym over.tree_is) limits)
    (subst (λ c. IsPart space c (loops_round loops (program_of body)) a) (sym over.tree_is) (subst (λ p. IsPart space tree (loops_round loops p) a) straight.is h))
    block straight.some straight.each)

-- ---- its touches, and what it leaves

straight-touches : (space : IndexSpace) (tree : ContractionTree) (body : List Op) → All IsOperation body → touch_bound space tree (program_of body) ≡ 3 * length body
straight-touches space tree [] own = refl
straight-touches space tree (Open i ∷ body) own = absurd (all-first IsOperation (Open i) body own)
straight-touches space tree (Close ∷ body) own = absurd (all-first IsOperation Close body own)
straight-touches space tree (Clear v ∷ body) own = absurd (all-first IsOperation (Clear v) body own)
straight-touches space tree (Mul v ∷ body) own = let later = straight-touches space tree body (all-rest IsOperation (Mul v) body own) in omega (arith, later)
straight-touches space tree (Add v ∷ body) own = let later = straight-touches space tree body (all-rest IsOperation (Add v) body own) in omega (arith, later)
straight-touches space tree (Sub v ∷ body) own = let later = straight-touches space tree body (all-rest IsOperation (Sub v) body own) in omega (arith, later)
straight-touches space tree (Acc v ∷ body) own = let later = straight-touches space tree body (all-rest IsOperation (Acc v) body own) in omega (arith, later)

body-touches : (space : IndexSpace) (tree : ContractionTree) (ops : List Op) (at : ℕ) (body : List Op) (part : Part) → IsStraightBody ops at body
    → touches_in space tree (program_at ops at) part.len ≡ touches_of_body body part
body-touches space tree ops at body part straight =
    ap (λ t. product part.len * t) (ap (touch_bound space tree) straight.is ∙ straight-touches space tree body straight.each)

pub body-few : (space : IndexSpace) (tree : ContractionTree) (ops : List Op) (at : ℕ) (body : List Op) (part : Part) (t : ℕ) → IsStraightBody ops at body
    → t + touches_in space tree (program_at ops at) part.len ≤ 2 ^ 100 → t + touches_of_body body part ≤ 2 ^ 100
body-few space tree ops at body part t straight few = omega (arith, few, body-touches space tree ops at body part straight)

pub body-run : (space : IndexSpace) (tree : ContractionTree) (s : Setting) (ops : List Op) (at : ℕ) (loops : List ℕ) (body : List Op) (part : Part) (a : Assignment)
    (before now : Option State) (t u : ℕ) → IsStraightBody ops at body → now ≡ after_body s loops body part a before → u ≤ t + touches_of_body body part
    → IsPartRun space tree s (program_at ops at) loops part a before now t u
body-run space tree s ops at loops body part a before now t u straight e l = record {
  state = subst (λ p. now ≡ option_map (λ state. exec_part s p loops part state a) before) (sym straight.is) e;
  touches = omega (arith, l, body-touches space tree ops at body part straight);
}

pub both-ok : {A E P Q R : Type 0} (answer : Result A E) → (P → Q → R) → OnOk answer P → OnOk answer Q → OnOk answer R
both-ok (Ok x) f p q = f p q
both-ok (Err e) f p q = tt
