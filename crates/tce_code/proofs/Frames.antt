-- Programs one after the other, and the nodes whose places a program leaves alone.
use Rattle.std.proofs.Common.{◌≡◌, ℕ, zero, suc, ◌<◌, Bool, false, ◌||◌, eqb, List, [], ◌∷◌, ◌++◌, refl, sym, ap, ◌∙◌, arith, append_assoc, append-nil}
use Rattle.std.proofs.lemmas.Bool.{or_parts}
use Rattle.tce_tree.specs.Value.{Assignment, with_number}
use Rattle.tce_tree.specs.ContractionTree.{multiply, add, subtract}
use Rattle.tce_code.specs.Program.{Action, clear, compute, accumulate, Program, stop, step, loop, op_of, spelled, read_op, program_of, programs_of, first_of}
use Rattle.tce_code.specs.Generation.{followed_by}
use Rattle.tce_code.specs.Execution.{Setting, State, apply, exec, repeated, ReadsRight}
use Rattle.tce_code.specs.declared.op.Op.{Op}
use Rattle.tce_code.specs.declared.op.Op.TheVariants.{Open, Close}

pub exec-followed_by : (s : Setting) (p q : Program) (state : State) (a : Assignment) → exec s (followed_by p q) state a ≡ exec s q (exec s p state a) a
exec-followed_by s stop q state a = refl
exec-followed_by s (step op rest) q state a = exec-followed_by s rest q (apply s op state a) a
exec-followed_by s (loop i body rest) q state a =
    exec-followed_by s rest q (repeated (s.elements.extent i) (λ x before. exec s body before (with_number a i x)) state) a

pub reads-followed_by : (s : Setting) (p q : Program) (state : State) (a : Assignment)
    → ReadsRight s p state a → ReadsRight s q (exec s p state a) a → ReadsRight s (followed_by p q) state a
reads-followed_by s stop q state a h k = k
reads-followed_by s (step op rest) q state a h k = (h.0, reads-followed_by s rest q (apply s op state a) a h.1 k)
reads-followed_by s (loop i body rest) q state a h k =
    (h.0, reads-followed_by s rest q (repeated (s.elements.extent i) (λ x before. exec s body before (with_number a i x)) state) a h.1 k)

-- the node whose places an action changes
abbrev pub changed_by : Action → ℕ
changed_by (clear v) = v
changed_by (compute op v) = v
changed_by (accumulate v) = v

-- whether a program changes places of node `u`
abbrev pub changes : Program → ℕ → Bool
changes stop u = false
changes (step action rest) u = eqb u (changed_by action) || changes rest u
changes (loop i body rest) u = changes body u || changes rest u

pub changes-followed_by : (p q : Program) (u : ℕ) → changes p u ≡ false → changes q u ≡ false → changes (followed_by p q) u ≡ false
changes-followed_by stop q u h k = k
changes-followed_by (step op rest) q u h k =
    let parts = or_parts (eqb u (changed_by op)) (changes rest u) h in
    rw parts.0 (changes-followed_by rest q u parts.1 k)
changes-followed_by (loop i body rest) q u h k =
    let parts = or_parts (changes body u) (changes rest u) h in
    rw parts.0 (changes-followed_by rest q u parts.1 k)

apply-other : (s : Setting) (action : Action) (u : ℕ) → eqb u (changed_by action) ≡ false
    → (state : State) (a : Assignment) (p : List ℕ) → apply s action state a u p ≡ state u p
apply-other s (clear v) u h state a p = rw h refl
apply-other s (compute op v) u h state a p = rw h refl
apply-other s (accumulate v) u h state a p = rw h refl

-- a fact that each turn keeps
pub repeated_keeps : {X : Type 0} (P : X → Type 0) (n : ℕ) (turn : ℕ → X → X) (x : X)
    → P x → ((k : ℕ) (y : X) → k < n → P y → P (turn k y)) → P (repeated n turn x)
repeated_keeps P zero turn x start more = start
repeated_keeps P (suc n) turn x start more =
    more n (repeated n turn x) (omega arith) (repeated_keeps P n turn x start (λ k y l. more k y (omega arith)))

-- a program changes the places of no other node
pub exec-other : (s : Setting) (program : Program) (u : ℕ) → changes program u ≡ false
    → (state : State) (a : Assignment) (p : List ℕ) → exec s program state a u p ≡ state u p
exec-other s stop u h state a p = refl
exec-other s (step op rest) u h state a p =
    let parts = or_parts (eqb u (changed_by op)) (changes rest u) h in
    exec-other s rest u parts.1 (apply s op state a) a p ∙ apply-other s op u parts.0 state a p
exec-other s (loop i body rest) u h state a p =
    let parts = or_parts (changes body u) (changes rest u) h in
    exec-other s rest u parts.1 (repeated (s.elements.extent i) (λ x before. exec s body before (with_number a i x)) state) a p
    ∙ repeated_keeps (λ after. after u p ≡ state u p) (s.elements.extent i) (λ x before. exec s body before (with_number a i x)) state refl
    (λ k y l e. exec-other s body u parts.0 y (with_number a i k) p ∙ e)

followed_by-stop : (p : Program) → followed_by p stop ≡ p
followed_by-stop stop = refl
followed_by-stop (step action after) = ap (step action) (followed_by-stop after)
followed_by-stop (loop i body after) = ap (loop i body) (followed_by-stop after)

-- what an action spells is read as that action
pub read-action : (action : Action) (programs others : List Program) (last : Program)
    → programs ≡ last ∷ others → read_op (op_of action) programs ≡ step action last ∷ others
read-action (clear v) programs others last h = rw h refl
read-action (compute multiply v) programs others last h = rw h refl
read-action (compute add v) programs others last h = rw h refl
read-action (compute subtract v) programs others last h = rw h refl
read-action (accumulate v) programs others last h = rw h refl

programs_of-spelled : (p : Program) (rest : List Op) (others : List Program) (last : Program)
    → programs_of rest ≡ last ∷ others → programs_of (spelled p ++ rest) ≡ followed_by p last ∷ others
programs_of-spelled stop rest others last h = h
programs_of-spelled (step action after) rest others last h =
    read-action action (programs_of (spelled after ++ rest)) others (followed_by after last) (programs_of-spelled after rest others last h)
programs_of-spelled (loop i body after) rest others last h =
    ap (λ ops. read_op (Open i) (programs_of ops)) (append_assoc (spelled body) (Close ∷ spelled after) rest)
    ∙ ap (read_op (Open i)) (programs_of-spelled body (Close ∷ (spelled after ++ rest)) (followed_by after last ∷ others) stop
    (ap (λ ps. stop ∷ ps) (programs_of-spelled after rest others last h)))
    ∙ ap (λ p. loop i p (followed_by after last) ∷ others) (followed_by-stop body)

-- what a program spells is read as that program
pub program_of-spelled : (p : Program) → program_of (spelled p) ≡ p
program_of-spelled p =
    ap (λ ops. first_of (programs_of ops)) (sym (append-nil (spelled p)))
    ∙ ap first_of (programs_of-spelled p [] [] stop refl) ∙ followed_by-stop p
