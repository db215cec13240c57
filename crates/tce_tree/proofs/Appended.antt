-- The nodes of two operands, appended one after the other, and the node above them.
use Rattle.std.proofs.Common.{◌≡◌, refl, ℕ, ◌+◌, ◌++◌, List, [], ◌∷◌, Option, Some, None, Result, Ok, Err, sym, ap, subst, append_assoc, arith}
use Rattle.std.specs.Prelude.{OnOk, IfErr}
use Rattle.std.specs.Option.{option_or}
use Rattle.std.specs.Result.{IsErr, IsErrAnd}
use Rattle.tce_space.specs.Space.{IndexSpace}
use Rattle.tce_space.specs.declared.arithmetic.Arithmetic.{Arithmetic}
use Rattle.tce_tree.specs.ContractionTree.{ContractionTree, binary, loops, operations}
use Rattle.tce_tree.specs.FlatTree.{flat, node_of}
use Rattle.tce_tree.specs.Faults.{Fault, loops_fault, nodes_fault, Shows}
use Rattle.tce_tree.specs.declared.fault.TreeFault.{TreeFault}
use Rattle.tce_tree.specs.declared.fault.TreeFault.TheVariants.{NoOperation, SumOverAbsent, TooManyLoops, VolumeTooLarge, Memory}
use Rattle.tce_tree.specs.declared.node.Node.{Node}

-- an error is handed on
pub ok_of_err : {T : Type 0} (r : Result T TreeFault) (P : Type 0) → IsErr r → OnOk r P
ok_of_err (Ok x) P is = cc
ok_of_err (Err fault) P is = tt

pub err_shows : {T : Type 0} (r : Result T TreeFault) (fault : TreeFault) (found : Option Fault) → IsErrAnd r (λ y. y ≡ fault) → Shows found fault → IfErr r (Shows found)
err_shows (Ok x) fault found is shown = absurd is
err_shows (Err y) fault found is shown = subst (Shows found) (sym is) shown

ok_then : {T : Type 0} (r : Result T TreeFault) (P Q : Type 0) → (P → Q) → OnOk r P → OnOk r Q
ok_then (Ok x) P Q f h = f h
ok_then (Err fault) P Q f h = tt

shown_first : (a rest : Option Fault) (fault : TreeFault) → Shows a fault → Shows (option_or a rest) fault
shown_first (Some x) rest fault shown = shown
shown_first None rest NoOperation shown = cc
shown_first None rest (SumOverAbsent name) shown = cc
shown_first None rest (TooManyLoops v) shown = cc
shown_first None rest (VolumeTooLarge v) shown = cc
shown_first None rest Memory shown = tt

-- the tree `t` has these operands
pub record IsBinary (t : ContractionTree) (op : Arithmetic) (left right : ContractionTree) : Type 0 where
  pub is : t ≡ binary op left right

pub shown_left : (space : IndexSpace) (n : ℕ) (t : ContractionTree) (op : Arithmetic) (left right l : ContractionTree) (fault : TreeFault)
    → IsBinary t op left right → l ≡ left → Shows (nodes_fault space n l) fault → Shows (nodes_fault space n t) fault
shown_left space n t op left right l fault b el shown =
    subst (λ (u : ContractionTree). Shows (nodes_fault space n u) fault) (sym b.is)
    (shown_first (nodes_fault space n left) _ fault (subst (λ (u : ContractionTree). Shows (nodes_fault space n u) fault) el shown))

-- the nodes of `l`, which is the operand `left`, stand from number `n` to number `n1`, without a fault
pub record HasLeft (space : IndexSpace) (n n1 : ℕ) (left l : ContractionTree) : Type 0 where
  pub same : l ≡ left
  pub faultless : nodes_fault space n l ≡ None
  pub len : n1 ≡ n + operations l

behind_left : (space : IndexSpace) (n n1 : ℕ) (t : ContractionTree) (op : Arithmetic) (left right l r : ContractionTree)
    → IsBinary t op left right → HasLeft space n n1 left l → r ≡ right
    → nodes_fault space n t ≡ option_or (nodes_fault space n1 r) (loops_fault space (n1 + operations r) (loops (binary op left right)))
behind_left space n n1 t op left right l r b h er =
    let whole : nodes_fault space n t ≡ nodes_fault space n (binary op left right) = ap (nodes_fault space n) b.is in
    let none : nodes_fault space n left ≡ None = cc in
    let place : n + operations left ≡ n1 = cc in
    let same : right ≡ r = sym er in
    rw whole (rw none (rw place (rw same refl)))

pub shown_right : (space : IndexSpace) (n n1 : ℕ) (t : ContractionTree) (op : Arithmetic) (left right l r : ContractionTree) (fault : TreeFault)
    → IsBinary t op left right → HasLeft space n n1 left l → r ≡ right → Shows (nodes_fault space n1 r) fault → Shows (nodes_fault space n t) fault
shown_right space n n1 t op left right l r fault b h er shown =
    subst (λ (m : Option Fault). Shows m fault) (sym (behind_left space n n1 t op left right l r b h er)) (shown_first (nodes_fault space n1 r) _ fault shown)

binary_fault : (space : IndexSpace) (n n1 n2 : ℕ) (t : ContractionTree) (op : Arithmetic) (left right l r : ContractionTree)
    → IsBinary t op left right → HasLeft space n n1 left l → HasLeft space n1 n2 right r
    → nodes_fault space n t ≡ loops_fault space n2 (loops (binary op left right))
binary_fault space n n1 n2 t op left right l r b h k =
    let place : n1 + operations r ≡ n2 = cc in
    rw (behind_left space n n1 t op left right l r b h k.same) (rw k.faultless (rw place refl))

pub ok_faultless : {T : Type 0} (res : Result T TreeFault) (space : IndexSpace) (n n1 n2 : ℕ) (t : ContractionTree) (op : Arithmetic) (left right l r l' r' : ContractionTree)
    → IsBinary t op left right → HasLeft space n n1 left l → HasLeft space n1 n2 right r → l' ≡ left → r' ≡ right
    → OnOk res (loops_fault space n2 (loops (binary op l' r')) ≡ None) → OnOk res (nodes_fault space n t ≡ None)
ok_faultless res space n n1 n2 t op left right l r l' r' b h k el er given =
    ok_then res _ _
    (λ (none : loops_fault space n2 (loops (binary op l' r')) ≡ None). let e = binary_fault space n n1 n2 t op left right l r b h k in
    let f : loops_fault space n2 (loops (binary op l' r')) ≡ loops_fault space n2 (loops (binary op left right)) = λ i. loops_fault space n2 (loops (binary op (el i) (er i))) in cc) given

pub err_fault : {T : Type 0} (res : Result T TreeFault) (space : IndexSpace) (n n1 n2 : ℕ) (t : ContractionTree) (op : Arithmetic) (left right l r l' r' : ContractionTree)
    → IsBinary t op left right → HasLeft space n n1 left l → HasLeft space n1 n2 right r → l' ≡ left → r' ≡ right
    → IfErr res (Shows (loops_fault space n2 (loops (binary op l' r')))) → IfErr res (Shows (nodes_fault space n t))
err_fault res space n n1 n2 t op left right l r l' r' b h k el er given =
    let e : nodes_fault space n t ≡ loops_fault space n2 (loops (binary op l' r')) =
    let f : loops_fault space n2 (loops (binary op l' r')) ≡ loops_fault space n2 (loops (binary op left right)) = λ i. loops_fault space n2 (loops (binary op (el i) (er i))) in
    let g = binary_fault space n n1 n2 t op left right l r b h k in cc in
    subst (λ (m : Option Fault). IfErr res (Shows m)) (sym e) given

pub ok_nodes : {T : Type 0} (res : Result T TreeFault) (n n1 first : ℕ) (t : ContractionTree) (op : Arithmetic) (left right l r l' r' : ContractionTree) (old more most new : List Node)
    → IsBinary t op left right → l ≡ left → r ≡ right → l' ≡ left → r' ≡ right → first ≡ n → n1 ≡ n + operations l → more ≡ old ++ flat n l → most ≡ more ++ flat n1 r
    → OnOk res (new ≡ most ++ node_of first (binary op l' r') ∷ []) → OnOk res (new ≡ old ++ flat n t)
ok_nodes res n n1 first t op left right l r l' r' old more most new b el er el' er' ef en em es given =
    ok_then res _ _
    (λ (last : new ≡ most ++ node_of first (binary op l' r') ∷ []).
    let whole : flat n t ≡ flat n (binary op left right) = ap (flat n) b.is in
    let node : node_of first (binary op l' r') ≡ node_of n (binary op left right) = λ i. node_of (ef i) (binary op (el' i) (er' i)) in
    let fl : flat n l ≡ flat n left = ap (flat n) el in
    let place : n1 ≡ n + operations left = cc in
    let fr : flat n1 r ≡ flat (n + operations left) right = λ i. flat (place i) (er i) in
    rw (last, es, em, whole, node, fl, fr) (cc (
      append_assoc old (flat n left) (flat (n + operations left) right ++ node_of n (binary op left right) ∷ []),
      append_assoc (old ++ flat n left) (flat (n + operations left) right) (node_of n (binary op left right) ∷ []),
    ))) given

pub ok_len : {T : Type 0} (res : Result T TreeFault) (n n1 n2 n3 : ℕ) (t : ContractionTree) (op : Arithmetic) (left right l r : ContractionTree)
    → IsBinary t op left right → l ≡ left → r ≡ right → n1 ≡ n + operations l → n2 ≡ n1 + operations r
    → OnOk res (n3 ≡ n2 + 1) → OnOk res (n3 ≡ n + operations t)
ok_len res n n1 n2 n3 t op left right l r b el er e1 e2 given =
    ok_then res _ _
    (λ (e3 : n3 ≡ n2 + 1).
    let whole : operations t ≡ operations (binary op left right) = ap operations b.is in
    let ol : operations l ≡ operations left = ap operations el in
    let or : operations r ≡ operations right = ap operations er in
    omega arith) given
