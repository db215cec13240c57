-- What the search for a tail sees at a position.
use Rattle.std.proofs.Common.{◌≡◌, ℕ, ◌+◌, ◌-◌, ◌<◌, ◌≤◌, ◌⊎◌, min, Bool, true, false, ◌||◌, Option, Some, None, List, [], ◌∷◌, ◌++◌, length, get_or, refl, sym, ap, ap₂, ◌∙◌, inl, inr, subst, arith, append_assoc}
use Rattle.std.proofs.lemmas.Bool.{cases_Bool, cases_lt, eq-eqb, false≢true}
use Rattle.std.proofs.lemmas.List.{get_or_default}
use Rattle.std.specs.Option.{option_map}
use Rattle.tce_tree.specs.ContractionTree.{ContractionTree, leaf, constant, binary, sum, Arithmetic, multiply, add, subtract, operations, node, left_tree, right_tree, parent}
use Rattle.tce_tree.specs.FlatTree.{operand_of, left_operand, right_operand, left_of, right_of, first_number_of}
use Rattle.tce_tree.specs.declared.node.Operand.TheVariants.{Node as NodeOperand}
use Rattle.tce_tree.proofs.Nodes.{size_bounds}
use Rattle.tce_tree.proofs.Operands.{parents_have_operands}
use Rattle.tce_tree.proofs.Parents.{parent_is}
use Rattle.tce_code.specs.Generation.{computing, followed_by}
use Rattle.tce_code.specs.Program.{Action, clear, compute, accumulate, Program, stop, step, loop, op_of, first_of, others_of}
use Rattle.tce_code.specs.Shape.{IsSum, most_open}
use Rattle.tce_code.specs.declared.op.Op.{Op}
use Rattle.tce_code.specs.declared.op.Op.TheVariants.{Open, Close, Clear, Mul, Add, Sub, Acc}
use Rattle.tce_walk.specs.Tails.{is_stop, tail_loops, accumulates_parent, is_number, is_tail_action, loops_round, reads_constant, is_constant}
use Rattle.tce_walk.specs.Machine.{operation_of_node, joined_sum, inside_tail, IsJoinedTo}
use Rattle.tce_walk.specs.Positions.{programs_at, program_at, EndsAt}
use Rattle.tce_walk.specs.Run.{IsEnd}
use Rattle.tce_walk.specs.Search.{IsShaped, IsSumAt, IsAlone, IsInside, IsTailOf, HasNoTail, names_constant, some_constant}
use Rattle.tce_walk.specs.declared.machine.Tail.{Tail}
use Rattle.tce_walk.proofs.Parts.{computing-binary, computing-sum}
use Rattle.tce_walk.proofs.Positions.{programs_next, programs-action, programs-loop, ends-close, ends-past, programs-within, stop-close}

pub is-stop : (p : Program) → is_stop p ≡ true → p ≡ stop
is-stop stop h = refl
is-stop (step action rest) h = absurd (false≢true h)
is-stop (loop i body rest) h = absurd (false≢true h)

-- where nothing stands, the program that comes before it ends
pub stop-ends : (ops : List Op) (start at : ℕ) → is_stop (program_at ops at) ≡ true → others_of (programs_at ops at) ≡ others_of (programs_at ops start) → EndsAt ops start at
stop-ends ops start at h e =
    elim (cases_lt at (length ops)) [
      | inl l ↦ here l (get_or ops at Close) refl
      | inr l ↦ ends-past ops start at l e
    ]
  where
    none : (p : Program) → is_stop p ≡ false → program_at ops at ≡ p → ⊥
    none p n q = false≢true (sym n ∙ ap is_stop (sym q) ∙ h)

    here : at < length ops → (op : Op) → op ≡ get_or ops at Close → EndsAt ops start at
    here l (Open i) is = absurd (none (loop i _ _) refl (ap first_of (programs_next ops at (Open i) l (is ∙ get_or_default ops at Close (Open i) l))))
    here l Close is = ends-close ops start at l is e
    here l (Clear v) is = absurd (none (step (clear v) _) refl (ap first_of (programs-action ops at (clear v) l (is ∙ get_or_default ops at Close (Clear v) l))))
    here l (Mul v) is = absurd (none (step (compute multiply v) _) refl (ap first_of (programs-action ops at (compute multiply v) l (is ∙ get_or_default ops at Close (Mul v) l))))
    here l (Add v) is = absurd (none (step (compute add v) _) refl (ap first_of (programs-action ops at (compute add v) l (is ∙ get_or_default ops at Close (Add v) l))))
    here l (Sub v) is = absurd (none (step (compute subtract v) _) refl (ap first_of (programs-action ops at (compute subtract v) l (is ∙ get_or_default ops at Close (Sub v) l))))
    here l (Acc v) is = absurd (none (step (accumulate v) _) refl (ap first_of (programs-action ops at (accumulate v) l (is ∙ get_or_default ops at Close (Acc v) l))))

-- an action with nothing behind it
action-ends : (ops : List Op) (at : ℕ) (action : Action) → at < length ops → op_of action ≡ get_or ops at (op_of action) → is_stop (program_at ops (at + 1)) ≡ true
    → IsEnd ops at (at + 1)
action-ends ops at action l is h = record {
  ends = stop-ends ops at (at + 1) h (sym (ap others_of (programs-action ops at action l is)));
  behind = omega arith;
  within = omega arith;
}

program-action : (ops : List Op) (at : ℕ) (action : Action) → at < length ops → op_of action ≡ get_or ops at (op_of action) → is_stop (program_at ops (at + 1)) ≡ true
    → program_at ops at ≡ step action stop
program-action ops at action l is h = ap first_of (programs-action ops at action l is) ∙ ap (step action) (is-stop (program_at ops (at + 1)) h)

-- the operation at a position, as code reads it
pub named : (ops : List Op) (at : ℕ) (d op : Op) → at < length ops → get_or ops at d ≡ op → op ≡ get_or ops at op
named ops at d op l e = sym e ∙ get_or_default ops at d op l

pub sum-here : (tree : ContractionTree) (ops : List Op) (at v u : ℕ) (d : Op) → at < length ops → get_or ops at d ≡ Acc u → IsShaped tree (program_at ops at)
    → parent tree v ≡ Some u → is_stop (program_at ops (at + 1)) ≡ true → IsSumAt tree ops at v u
sum-here tree ops at v u d l is shaped up h =
    let e = program-action ops at (accumulate u) l (named ops at d (Acc u) l is) h in
    let k : IsShaped tree (step (accumulate u) stop) = subst (IsShaped tree) e shaped in
    record { is = e; above = up; sum = k.shape.0.1; ends = action-ends ops at (accumulate u) l (named ops at d (Acc u) l is) h }

-- an operation of a node alone
alone-binary : (tree : ContractionTree) (ops : List Op) (at v : ℕ) (arithmetic : Arithmetic) → at < length ops
    → op_of (compute arithmetic v) ≡ get_or ops at (op_of (compute arithmetic v)) → IsShaped tree (program_at ops at)
    → is_stop (program_at ops (at + 1)) ≡ true → is_tail_action tree (step (compute arithmetic v) stop) ≡ true → IsAlone tree ops at v None (at + 1)
alone-binary tree ops at v arithmetic l is shaped h t =
    let e = program-action ops at (compute arithmetic v) l is h in
    let k : IsShaped tree (step (compute arithmetic v) stop) = subst (IsShaped tree) e shaped in
    record {
      known = k.shape.0.0;
      is = e ∙ sym (ap (λ p. followed_by p stop) (computing-binary arithmetic (node tree v) v k.shape.0.1));
      loops = ap (tail_loops tree) e ∙ (rw t refl);
      joins = tt;
      ends = action-ends ops at (compute arithmetic v) l is h;
    }

pub product-alone : (tree : ContractionTree) (ops : List Op) (at v : ℕ) → at < length ops → get_or ops at (Mul v) ≡ Mul v → IsShaped tree (program_at ops at)
    → is_stop (program_at ops (at + 1)) ≡ true → IsAlone tree ops at v None (at + 1)
product-alone tree ops at v l is shaped h = alone-binary tree ops at v multiply l (sym is) shaped h refl

-- the operations that are no product
abbrev pub IsSingle : Op → ℕ → Type 0
IsSingle op v = (op ≡ Add v) ⊎ ((op ≡ Sub v) ⊎ (op ≡ Acc v))

pub single-alone : (tree : ContractionTree) (ops : List Op) (at v : ℕ) (d : Op) → at < length ops → IsSingle (get_or ops at d) v → IsShaped tree (program_at ops at)
    → is_stop (program_at ops (at + 1)) ≡ true → IsAlone tree ops at v None (at + 1)
single-alone tree ops at v d l (inl is) shaped h = alone-binary tree ops at v add l (named ops at d (Add v) l is) shaped h refl
single-alone tree ops at v d l (inr (inl is)) shaped h = alone-binary tree ops at v subtract l (named ops at d (Sub v) l is) shaped h refl
single-alone tree ops at v d l (inr (inr is)) shaped h =
    let e = program-action ops at (accumulate v) l (named ops at d (Acc v) l is) h in
    let k : IsShaped tree (step (accumulate v) stop) = subst (IsShaped tree) e shaped in
    record {
      known = k.shape.0.0;
      is = e ∙ sym (ap (λ p. followed_by p stop) (computing-sum (node tree v) v k.shape.0.1));
      loops = ap (tail_loops tree) e;
      joins = tt;
      ends = action-ends ops at (accumulate v) l (named ops at d (Acc v) l is) h;
    }

-- an operation with others behind it
action-none : (tree : ContractionTree) (ops : List Op) (at : ℕ) (action : Action) → at < length ops → op_of action ≡ get_or ops at (op_of action)
    → is_tail_action tree (step action (program_at ops (at + 1))) ≡ false → tail_loops tree (program_at ops at) ≡ None
action-none tree ops at action l is f = ap (λ ps. tail_loops tree (first_of ps)) (programs-action ops at action l is) ∙ (rw f refl)

pub single-none : (tree : ContractionTree) (ops : List Op) (at v : ℕ) (d : Op) → at < length ops → IsSingle (get_or ops at d) v
    → is_stop (program_at ops (at + 1)) ≡ false → tail_loops tree (program_at ops at) ≡ None
single-none tree ops at v d l (inl is) h = action-none tree ops at (compute add v) l (named ops at d (Add v) l is) h
single-none tree ops at v d l (inr (inl is)) h = action-none tree ops at (compute subtract v) l (named ops at d (Sub v) l is) h
single-none tree ops at v d l (inr (inr is)) h = action-none tree ops at (accumulate v) l (named ops at d (Acc v) l is) h

pub product-none : (tree : ContractionTree) (ops : List Op) (at v : ℕ) → at < length ops → get_or ops at (Mul v) ≡ Mul v
    → is_stop (program_at ops (at + 1)) ≡ false → accumulates_parent tree v (program_at ops (at + 1)) ≡ false → tail_loops tree (program_at ops at) ≡ None
product-none tree ops at v l is h n = action-none tree ops at (compute multiply v) l (sym is) (rw (h, n) refl)

-- a program that goes on with another ends where that ends
pub ends-with : (ops : List Op) (at start close end : ℕ) → others_of (programs_at ops at) ≡ others_of (programs_at ops start) → close ≡ end → EndsAt ops start close
    → EndsAt ops at end
ends-with ops at start close end e same h =
    subst (EndsAt ops at) same (record { next = ap first_of e ∙ h.next; others = ap others_of e ∙ h.others })

-- the operation of a product, and that of the sum that takes it
pub product-joined : (tree : ContractionTree) (ops : List Op) (at v u : ℕ) → at < length ops → get_or ops at (Mul v) ≡ Mul v → IsShaped tree (program_at ops at)
    → IsSumAt tree ops (at + 1) v u → IsAlone tree ops at v (Some u) (at + 2)
product-joined tree ops at v u l is shaped h =
    let here = programs-action ops at (compute multiply v) l (sym is) in
    let e : program_at ops at ≡ step (compute multiply v) (step (accumulate u) stop) = ap first_of here ∙ ap (step (compute multiply v)) h.is in
    let k : IsShaped tree (step (compute multiply v) (step (accumulate u) stop)) = subst (IsShaped tree) e shaped in
    let tail : is_number (parent tree v) u ≡ true = ap (λ o. is_number o u) h.above ∙ eq-eqb u u refl in
    let two : at + 1 + 1 ≡ at + 2 = omega arith in
    record {
      known = k.shape.0.0;
      is = e ∙ sym (ap (λ p. followed_by p (step (accumulate u) stop)) (computing-binary multiply (node tree v) v k.shape.0.1));
      loops = ap (tail_loops tree) e ∙ (rw tail refl);
      joins = record { product = k.shape.0.1; above = h.above; sum = h.sum };
      ends = record {
        ends = ends-with ops at (at + 1) (at + 1 + 1) (at + 2) (ap others_of here) two h.ends.ends;
        behind = omega arith;
        within = omega (arith, h.ends.within);
      };
    }

-- what is no operation of a node begins no tail
pub other-none : (tree : ContractionTree) (ops : List Op) (at : ℕ) (d op : Op) → at < length ops → get_or ops at d ≡ op → ((i : ℕ) → get_or ops at (Open i) ≡ Open i → ⊥)
    → ((i : ℕ) × (op ≡ Open i)) ⊎ ((op ≡ Close) ⊎ ((v : ℕ) × (op ≡ Clear v))) → tail_loops tree (program_at ops at) ≡ None
other-none tree ops at d op l e away (inl h) = absurd (away h.0 (sym (named ops at d (Open h.0) l (e ∙ h.1))))
other-none tree ops at d op l e away (inr (inl h)) = ap (λ p. tail_loops tree p) (stop-close ops at l (named ops at d Close l (e ∙ h)))
other-none tree ops at d op l e away (inr (inr h)) = action-none tree ops at (clear h.0) l (named ops at d (Clear h.0) l (e ∙ h.1)) refl

-- a loop
pub program-loop : (ops : List Op) (at i : ℕ) (d : Op) → at < length ops → get_or ops at d ≡ Open i
    → program_at ops at ≡ loop i (program_at ops (at + 1)) (first_of (others_of (programs_at ops (at + 1))))
program-loop ops at i d l is = ap first_of (programs_next ops at (Open i) l (named ops at d (Open i) l is))

pub loop-shaped : (tree : ContractionTree) (ops : List Op) (at i : ℕ) (d : Op) → at < length ops → get_or ops at d ≡ Open i → IsShaped tree (program_at ops at)
    → IsShaped tree (program_at ops (at + 1))
loop-shaped tree ops at i d l is shaped =
    let k : IsShaped tree (loop i (program_at ops (at + 1)) (first_of (others_of (programs_at ops (at + 1))))) = subst (IsShaped tree) (program-loop ops at i d l is) shaped in
    record { plan = k.plan; opened = k.opened ++ i ∷ []; shape = k.shape.1 }

pub loop-few : (ops : List Op) (at i : ℕ) (d : Op) → at < length ops → get_or ops at d ≡ Open i
    → most_open (program_at ops (at + 1)) + 1 ≤ most_open (program_at ops at)
loop-few ops at i d l is = omega (arith, ap most_open (program-loop ops at i d l is))

loop-none : (tree : ContractionTree) (i : ℕ) (body rest : Program) → tail_loops tree body ≡ None → tail_loops tree (loop i body rest) ≡ None
loop-none tree i body rest e =
    elim (cases_Bool (is_stop rest)) [
      | inl t ↦ rw t (ap (option_map (λ order. i ∷ order)) e)
      | inr f ↦ rw f refl
    ]

pub inside-none : (tree : ContractionTree) (ops : List Op) (at i : ℕ) (d : Op) → at < length ops → get_or ops at d ≡ Open i
    → tail_loops tree (program_at ops (at + 1)) ≡ None → tail_loops tree (program_at ops at) ≡ None
inside-none tree ops at i d l is e =
    ap (tail_loops tree) (program-loop ops at i d l is) ∙ loop-none tree i (program_at ops (at + 1)) (first_of (others_of (programs_at ops (at + 1)))) e

-- where the loop's body ends at `close`, what follows the loop is seen behind it
pub rest-at : (ops : List Op) (at close : ℕ) → EndsAt ops (at + 1) close
    → first_of (others_of (programs_at ops (at + 1))) ≡ program_at ops (min (close + 1) (length ops))
rest-at ops at close ends = ends.next ∙ sym (ap first_of (programs-within ops (close + 1)))

pub inside-more : (tree : ContractionTree) (ops : List Op) (at i : ℕ) (d : Op) (close : ℕ) → at < length ops → get_or ops at d ≡ Open i → EndsAt ops (at + 1) close
    → is_stop (program_at ops (min (close + 1) (length ops))) ≡ false → tail_loops tree (program_at ops at) ≡ None
inside-more tree ops at i d close l is ends f =
    ap (tail_loops tree) (program-loop ops at i d l is ∙ ap (loop i (program_at ops (at + 1))) (rest-at ops at close ends)) ∙ (rw f refl)

pub inside-loop : (tree : ContractionTree) (ops : List Op) (at i : ℕ) (d : Op) (old new : List ℕ) (v : ℕ) (joined : Option ℕ) (close : ℕ)
    → at < length ops → get_or ops at d ≡ Open i → IsInside tree ops (at + 1) (old ++ i ∷ []) new v joined close
    → is_stop (program_at ops (min (close + 1) (length ops))) ≡ true → IsInside tree ops at old new v joined (min (close + 1) (length ops))
inside-loop tree ops at i d old new v joined close l is h t =
    let here = programs-loop ops at i close l (named ops at d (Open i) l is) h.ends.ends in
    let rest = rest-at ops at close h.ends.ends ∙ is-stop (program_at ops (min (close + 1) (length ops))) t in
    let e : program_at ops at ≡ loop i (program_at ops (at + 1)) stop = program-loop ops at i d l is ∙ ap (loop i (program_at ops (at + 1))) rest in
    record {
      known = h.known;
      order = i ∷ h.order;
      is = e ∙ ap (λ p. loop i p stop) h.is;
      loops = ap (tail_loops tree) e ∙ ap (option_map (λ order. i ∷ order)) h.loops;
      behind = h.behind ∙ append_assoc old (i ∷ []) h.order;
      joins = h.joins;
      ends = record {
        ends = stop-ends ops at (min (close + 1) (length ops)) t (ap others_of (programs-within ops (close + 1)) ∙ sym (ap others_of here));
        behind = omega (arith, h.ends.behind);
        within = omega arith;
      };
    }

-- constants among the operands
operand-constant : (first : ℕ) (c : ContractionTree) → names_constant (operand_of first c) ≡ is_constant c
operand-constant first (leaf tensor indexes) = refl
operand-constant first (constant number) = refl
operand-constant first (binary op left right) = refl
operand-constant first (sum indexes operand) = refl

pub or-false : (b : Bool) → b || false ≡ b
or-false true = refl
or-false false = refl

constants-named : (tree c : ContractionTree) (first v : ℕ) → c ≡ node tree v → 0 < operations c
    → reads_constant tree (computing c v) ≡ (names_constant (left_operand first c) || some_constant (right_operand first c))
constants-named tree (leaf tensor indexes) first v e l = absurd (omega arith)
constants-named tree (constant number) first v e l = absurd (omega arith)
constants-named tree (binary op left right) first v e l =
    or-false (is_constant (left_tree (node tree v)) || is_constant (right_tree (node tree v)))
    ∙ ap (λ n. is_constant (left_tree n) || is_constant (right_tree n)) (sym e)
    ∙ ap₂ (λ a b. a || b) (sym (operand-constant first left)) (sym (operand-constant (first + operations left) right))
constants-named tree (sum indexes operand) first v e l =
    ap (λ n. is_constant (left_tree n) || false) (sym e) ∙ ap (λ a. a || false) (sym (operand-constant first operand))

pub node-constants : (tree : ContractionTree) (v : ℕ) → v < operations tree
    → reads_constant tree (operation_of_node tree v) ≡ (names_constant (left_of tree v) || some_constant (right_of tree v))
unfolding left_of right_of
node-constants tree v l = constants-named tree (node tree v) (first_number_of tree v) v refl (size_bounds tree v l).0

-- the operand of a sum that takes a node is no constant
pub sum-node : (c : ContractionTree) → IsSum c → (is : List ℕ) × (e : ContractionTree) × (c ≡ sum is e)
sum-node (leaf t is) h = absurd h
sum-node (constant k) h = absurd h
sum-node (binary op l r) h = absurd h
sum-node (sum is e) h = (is, e, refl)

child-node : (first : ℕ) (e : ContractionTree) (u : ℕ) → operand_of first e ≡ NodeOperand u → is_constant e ≡ false
child-node first (leaf t is) u e = refl
child-node first (constant n) u e = absurd (let k : ⊥ = cc in k)
child-node first (binary op l r) u e = refl
child-node first (sum is x) u e = refl

child-of : (tree : ContractionTree) (u v : ℕ) (is : List ℕ) (e : ContractionTree) → node tree v ≡ sum is e → u < operations tree → v < operations tree
    → parent tree u ≡ Some v → is_constant e ≡ false
unfolding left_of right_of first_number_of
child-of tree u v is e at u_in v_in up =
    elim ((parents_have_operands tree u v u_in v_in).0 up) [
      | inl l ↦ child-node (v + 1 - operations (sum is e)) e u (subst (λ c. left_operand (v + 1 - operations c) c ≡ NodeOperand u) at l)
      | inr k ↦ absurd (none (subst (λ c. right_operand (v + 1 - operations c) c ≡ Some (NodeOperand u)) at k))
    ]
  where
    none : None ≡ Some (NodeOperand u) → ⊥
    none q = cc

joined-free : (tree : ContractionTree) (v : ℕ) (joined : Option ℕ) → v < operations tree → IsJoinedTo tree v joined → reads_constant tree (joined_sum joined) ≡ false
joined-free tree v None l h = refl
joined-free tree v (Some u) l h =
    let parts = sum-node (node tree u) h.sum in
    let free = child-of tree v u parts.0 parts.1 parts.2 l (parent_is tree v u h.above).inside h.above in
    or-false (is_constant (left_tree (node tree u))) ∙ ap (λ c. is_constant (left_tree c)) parts.2 ∙ free

computing-constants : (tree c : ContractionTree) (v : ℕ) (rest : Program) → reads_constant tree (followed_by (computing c v) rest) ≡ (reads_constant tree (computing c v) || reads_constant tree rest)
computing-constants tree (leaf tensor indexes) v rest = refl
computing-constants tree (constant number) v rest = refl
computing-constants tree (binary op left right) v rest =
    ap (λ b. b || reads_constant tree rest) (sym (or-false (is_constant (left_tree (node tree v)) || is_constant (right_tree (node tree v)))))
computing-constants tree (sum indexes operand) v rest =
    ap (λ b. b || reads_constant tree rest) (sym (or-false (is_constant (left_tree (node tree v)))))

round-constants : (tree : ContractionTree) (order : List ℕ) (inside : Program) → reads_constant tree (loops_round order inside) ≡ reads_constant tree inside
round-constants tree [] inside = refl
round-constants tree (i ∷ order) inside = or-false (reads_constant tree (loops_round order inside)) ∙ round-constants tree order inside

tail-constants : (tree : ContractionTree) (order : List ℕ) (v : ℕ) (joined : Option ℕ) → v < operations tree → IsJoinedTo tree v joined
    → reads_constant tree (loops_round order (inside_tail tree v joined)) ≡ reads_constant tree (operation_of_node tree v)
tail-constants tree order v joined l h =
    round-constants tree order (inside_tail tree v joined) ∙ computing-constants tree (node tree v) v (joined_sum joined)
    ∙ ap (λ b. reads_constant tree (operation_of_node tree v) || b) (joined-free tree v joined l h) ∙ or-false (reads_constant tree (operation_of_node tree v))

pub tail-constant : (tree : ContractionTree) (ops : List Op) (at i : ℕ) (old new : List ℕ) (v : ℕ) (joined : Option ℕ) (close : ℕ)
    → IsInside tree ops at old new v joined close → reads_constant tree (operation_of_node tree v) ≡ true → HasNoTail tree i (program_at ops at)
tail-constant tree ops at i old new v joined close h t =
    inl (ap (reads_constant tree) h.is ∙ tail-constants tree h.order v joined h.known h.joins ∙ t)

pub tail-here : (tree : ContractionTree) (ops : List Op) (at i : ℕ) (old : List ℕ) (tail : Tail) (close : ℕ) → old ≡ i ∷ []
    → IsInside tree ops at old tail.loops.0.items tail.node tail.sum close → reads_constant tree (operation_of_node tree tail.node) ≡ false
    → IsTailOf tree i (program_at ops at) tail
tail-here tree ops at i old tail close one h f =
    let loops : i ∷ h.order ≡ tail.loops.0.items = sym (h.behind ∙ ap (λ xs. xs ++ h.order) one) in
    record {
      known = h.known;
      is = ap (λ p. loop i p stop) h.is ∙ ap (λ xs. loops_round xs (inside_tail tree tail.node tail.sum)) loops;
      loops = ap (option_map (λ order. i ∷ order)) h.loops ∙ ap Some loops;
      free = ap (reads_constant tree) h.is ∙ tail-constants tree h.order tail.node tail.sum h.known h.joins ∙ f;
      own = f;
      joins = h.joins;
    }

pub ruleset constant_rules = (node-constants)
