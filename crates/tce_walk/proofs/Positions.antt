-- Running a list of operations from a position on.
use Rattle.std.proofs.Common.{◌≡◌, ℕ, ◌+◌, ◌<◌, ◌≤◌, min, Option, Some, None, List, [], ◌∷◌, length, get_or, drop, refl, sym, ap, ap₂, ◌∙◌, inl, inr, arith}
use Rattle.std.proofs.lemmas.Bool.{cases_lt}
use Rattle.std.proofs.lemmas.List.{drop_more, drop_all}
use Rattle.tce_space.specs.Space.{IndexSpace}
use Rattle.tce_tree.specs.ContractionTree.{ContractionTree, multiply, add, subtract}
use Rattle.tce_tree.specs.Value.{Assignment}
use Rattle.tce_code.specs.Execution.{Setting, State}
use Rattle.tce_code.specs.Program.{Action, clear, compute, accumulate, Program, stop, step, loop, op_of, read_op, first_of, others_of, programs_of}
use Rattle.tce_code.specs.declared.op.Op.{Op}
use Rattle.tce_code.specs.declared.op.Op.TheVariants.{Open, Close, Clear, Mul, Add, Sub, Acc}
use Rattle.tce_code.proofs.Frames.{read-action}
use Rattle.tce_walk.specs.Touches.{touch_bound}
use Rattle.tce_walk.specs.Machine.{after}
use Rattle.tce_walk.specs.Positions.{programs_at, program_at, EndsAt, IsPlain, plain_program}
use Rattle.tce_walk.specs.Run.{IsRun}

pub programs_next : (ops : List Op) (at : ℕ) (op : Op) → at < length ops → op ≡ get_or ops at op
    → programs_at ops at ≡ read_op op (programs_at ops (at + 1))
programs_next ops at op l is = ap programs_of (drop_more ops at op l ∙ ap (λ o. o ∷ drop (at + 1) ops) (sym is))

programs-some : (ops : List Op) → programs_of ops ≡ first_of (programs_of ops) ∷ others_of (programs_of ops)
programs-some [] = refl
programs-some (Open i ∷ ops) = refl
programs-some (Close ∷ ops) = refl
programs-some (Clear v ∷ ops) = refl
programs-some (Mul v ∷ ops) = refl
programs-some (Add v ∷ ops) = refl
programs-some (Sub v ∷ ops) = refl
programs-some (Acc v ∷ ops) = refl

-- past the end there is nothing
programs-none : (ops : List Op) (at : ℕ) → length ops ≤ at → programs_at ops at ≡ stop ∷ []
programs-none ops at l = ap programs_of (drop_all at ops l)

-- an action, and what follows it
pub programs-action : (ops : List Op) (at : ℕ) (action : Action) → at < length ops → op_of action ≡ get_or ops at (op_of action)
    → programs_at ops at ≡ step action (program_at ops (at + 1)) ∷ others_of (programs_at ops (at + 1))
programs-action ops at action l is =
    programs_next ops at (op_of action) l is
    ∙ read-action action (programs_at ops (at + 1)) (others_of (programs_at ops (at + 1))) (program_at ops (at + 1)) (programs-some (drop (at + 1) ops))

-- a loop, whose body ends at `close`, and what follows it
pub programs-loop : (ops : List Op) (at i close : ℕ) → at < length ops → Open i ≡ get_or ops at (Open i) → EndsAt ops (at + 1) close
    → programs_at ops at ≡ loop i (program_at ops (at + 1)) (program_at ops (close + 1)) ∷ others_of (programs_at ops (close + 1))
programs-loop ops at i close l is ends =
    programs_next ops at (Open i) l is ∙ ap₂ (λ p ps. loop i (program_at ops (at + 1)) p ∷ ps) ends.next ends.others

-- what is left to do from a position on leads to the same end as the whole, and what comes after it is what comes after the whole
pub record IsLeft (space : IndexSpace) (tree : ContractionTree) (s : Setting) (ops : List Op) (start at : ℕ) (a : Assignment) (before now : Option State) (t u : ℕ) : Type 0 where
  pub same : after s (program_at ops at) a now ≡ after s (program_at ops start) a before
  pub others : others_of (programs_at ops at) ≡ others_of (programs_at ops start)
  pub few : u + touch_bound space tree (program_at ops at) ≤ t + touch_bound space tree (program_at ops start)

pub left-start : (space : IndexSpace) (tree : ContractionTree) (s : Setting) (ops : List Op) (start : ℕ) (a : Assignment) (state : Option State) (t : ℕ)
    → IsLeft space tree s ops start start a state state t t
left-start space tree s ops start a state t = record { same = refl; others = refl; few = omega arith }

after-step : (s : Setting) (action : Action) (rest : Program) (a : Assignment) (state : Option State)
    → after s rest a (after s (step action stop) a state) ≡ after s (step action rest) a state
after-step s action rest a None = refl
after-step s action rest a (Some state) = refl

after-loop : (s : Setting) (i : ℕ) (body rest : Program) (a : Assignment) (state : Option State)
    → after s rest a (after s (loop i body stop) a state) ≡ after s (loop i body rest) a state
after-loop s i body rest a None = refl
after-loop s i body rest a (Some state) = refl

pub after-stop : (s : Setting) (a : Assignment) (state : Option State) → after s stop a state ≡ state
after-stop s a None = refl
after-stop s a (Some state) = refl

bound-step : (space : IndexSpace) (tree : ContractionTree) (action : Action) (rest : Program)
    → touch_bound space tree (step action rest) ≡ touch_bound space tree (step action stop) + touch_bound space tree rest
bound-step space tree (clear v) rest = omega arith
bound-step space tree (compute op v) rest = omega arith
bound-step space tree (accumulate v) rest = omega arith

-- one action
left-action : (space : IndexSpace) (tree : ContractionTree) (s : Setting) (ops : List Op) (start at : ℕ) (a : Assignment) (before state now : Option State) (t m u : ℕ) (action : Action)
    → at < length ops → op_of action ≡ get_or ops at (op_of action) → IsLeft space tree s ops start at a before state t m
    → IsRun space tree s (step action stop) a state now m u → IsLeft space tree s ops start (at + 1) a before now t u
left-action space tree s ops start at a before state now t m u action l is h run =
    let here = programs-action ops at action l is in
    let bound = ap (λ ps. touch_bound space tree (first_of ps)) here ∙ bound-step space tree action (program_at ops (at + 1)) in
    record {
      same = ap (after s (program_at ops (at + 1)) a) run.state ∙ after-step s action (program_at ops (at + 1)) a state
          ∙ sym (ap (λ ps. after s (first_of ps) a state) here) ∙ h.same;
      others = sym (ap others_of here) ∙ h.others;
      few = omega (arith, h.few, run.touches, bound);
    }

-- one operation that is no loop
pub left-plain : (space : IndexSpace) (tree : ContractionTree) (s : Setting) (ops : List Op) (start at : ℕ) (a : Assignment) (before state now : Option State) (t m u : ℕ) (op : Op)
    → at < length ops → op ≡ get_or ops at op → IsPlain op → IsLeft space tree s ops start at a before state t m
    → IsRun space tree s (plain_program op) a state now m u → IsLeft space tree s ops start (at + 1) a before now t u
left-plain space tree s ops start at a before state now t m u (Open i) l is plain h run = absurd plain
left-plain space tree s ops start at a before state now t m u Close l is plain h run = absurd plain
left-plain space tree s ops start at a before state now t m u (Clear v) l is plain h run = left-action space tree s ops start at a before state now t m u (clear v) l is h run
left-plain space tree s ops start at a before state now t m u (Mul v) l is plain h run = left-action space tree s ops start at a before state now t m u (compute multiply v) l is h run
left-plain space tree s ops start at a before state now t m u (Add v) l is plain h run = left-action space tree s ops start at a before state now t m u (compute add v) l is h run
left-plain space tree s ops start at a before state now t m u (Sub v) l is plain h run = left-action space tree s ops start at a before state now t m u (compute subtract v) l is h run
left-plain space tree s ops start at a before state now t m u (Acc v) l is plain h run = left-action space tree s ops start at a before state now t m u (accumulate v) l is h run

-- past the end nothing is left
pub programs-within : (ops : List Op) (at : ℕ) → programs_at ops (min at (length ops)) ≡ programs_at ops at
programs-within ops at =
    elim (cases_lt at (length ops)) [
      | inl l ↦ let same : min at (length ops) ≡ at = omega arith in ap (programs_at ops) same
      | inr l ↦ programs-none ops (min at (length ops)) (omega arith) ∙ sym (programs-none ops at l)
    ]

left-within : (space : IndexSpace) (tree : ContractionTree) (s : Setting) (ops : List Op) (start at : ℕ) (a : Assignment) (before state : Option State) (t m : ℕ)
    → IsLeft space tree s ops start at a before state t m → IsLeft space tree s ops start (min at (length ops)) a before state t m
left-within space tree s ops start at a before state t m h =
    let same = programs-within ops at in
    record {
      same = ap (λ ps. after s (first_of ps) a state) same ∙ h.same;
      others = ap others_of same ∙ h.others;
      few = omega (arith, h.few, ap (λ ps. touch_bound space tree (first_of ps)) same);
    }

bound-loop : (space : IndexSpace) (tree : ContractionTree) (i : ℕ) (body rest : Program)
    → touch_bound space tree (loop i body rest) ≡ touch_bound space tree (loop i body stop) + touch_bound space tree rest
bound-loop space tree i body rest = omega arith

-- a whole loop, whose body ends at `close`
pub left-loop : (space : IndexSpace) (tree : ContractionTree) (s : Setting) (ops : List Op) (start at i close : ℕ) (a : Assignment) (before state now : Option State) (t m u : ℕ)
    → at < length ops → Open i ≡ get_or ops at (Open i) → EndsAt ops (at + 1) close → IsLeft space tree s ops start at a before state t m
    → IsRun space tree s (loop i (program_at ops (at + 1)) stop) a state now m u → IsLeft space tree s ops start (min (close + 1) (length ops)) a before now t u
left-loop space tree s ops start at i close a before state now t m u l is ends h run =
    let here = programs-loop ops at i close l is ends in
    let bound = ap (λ ps. touch_bound space tree (first_of ps)) here ∙ bound-loop space tree i (program_at ops (at + 1)) (program_at ops (close + 1)) in
    left-within space tree s ops start (close + 1) a before now t u (record {
      same = ap (after s (program_at ops (close + 1)) a) run.state ∙ after-loop s i (program_at ops (at + 1)) (program_at ops (close + 1)) a state
          ∙ sym (ap (λ ps. after s (first_of ps) a state) here) ∙ h.same;
      others = sym (ap others_of here) ∙ h.others;
      few = omega (arith, h.few, run.touches, bound);
    })

-- at a `Close`, or at the end, the whole is done
pub left-done : (space : IndexSpace) (tree : ContractionTree) (s : Setting) (ops : List Op) (start at : ℕ) (a : Assignment) (before now : Option State) (t u : ℕ)
    → program_at ops at ≡ stop → IsLeft space tree s ops start at a before now t u → IsRun space tree s (program_at ops start) a before now t u
left-done space tree s ops start at a before now t u e h = record {
  state = sym (after-stop s a now) ∙ sym (ap (λ p. after s p a now) e) ∙ h.same;
  touches = omega (arith, h.few);
}

pub stop-close : (ops : List Op) (at : ℕ) → at < length ops → Close ≡ get_or ops at Close → program_at ops at ≡ stop
stop-close ops at l is = ap first_of (programs_next ops at Close l is)

pub stop-past : (ops : List Op) (at : ℕ) → length ops ≤ at → program_at ops at ≡ stop
stop-past ops at l = ap first_of (programs-none ops at l)

-- where nothing stands, there the program that begins ends
others-close : (ops : List Op) (at : ℕ) → at < length ops → Close ≡ get_or ops at Close → others_of (programs_at ops at) ≡ programs_at ops (at + 1)
others-close ops at l is = ap others_of (programs_next ops at Close l is)

pub ends-close : (ops : List Op) (start at : ℕ) → at < length ops → Close ≡ get_or ops at Close → others_of (programs_at ops at) ≡ others_of (programs_at ops start)
    → EndsAt ops start at
ends-close ops start at l is e =
    let here = others-close ops at l is in
    record { next = ap first_of (sym e ∙ here); others = ap others_of (sym e ∙ here) }

pub ends-past : (ops : List Op) (start at : ℕ) → length ops ≤ at → others_of (programs_at ops at) ≡ others_of (programs_at ops start) → EndsAt ops start at
ends-past ops start at l e =
    let here = ap others_of (programs-none ops at l) in
    let next = programs-none ops (at + 1) (omega arith) in
    record { next = ap first_of (sym e ∙ here) ∙ sym (ap first_of next); others = ap others_of (sym e ∙ here) ∙ sym (ap others_of next) }
