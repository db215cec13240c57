-- Parts of the code at positions, one after the other.
use Rattle.std.proofs.Common.{◌≡◌, ℕ, zero, suc, replicate, ◌+◌, ◌^◌, ◌<◌, ◌≤◌, min, Option, List, [], length, get_or, set, refl, sym, ap, ap₂, ◌∙◌, subst, arith, set-set}
use mathlib.Core.Path.{fun_ext}
use Rattle.std.proofs.lemmas.Bool.{false≢true}
use Rattle.std.proofs.lemmas.List.{set-get_or}
use Rattle.tce_space.specs.Space.{IndexSpace, extent_at}
use Rattle.tce_tree.specs.ContractionTree.{ContractionTree, multiply, add, subtract}
use Rattle.tce_tree.specs.Value.{Assignment}
use Rattle.tce_code.specs.Execution.{Setting, State}
use Rattle.tce_code.specs.Plan.{plan_of}
use Rattle.tce_code.specs.Program.{Action, clear, compute, accumulate, Program, stop, step, loop, op_of, first_of, others_of}
use Rattle.tce_code.specs.declared.op.Op.{Op}
use Rattle.tce_code.specs.declared.op.Op.TheVariants.{Open, Close, Clear, Mul, Add, Sub, Acc}
use Rattle.tce_walk.specs.Touches.{touch_bound}
use Rattle.tce_walk.specs.Machine.{assignment_of}
use Rattle.tce_walk.specs.Positions.{programs_at, program_at, EndsAt, IsPlain, plain_program}
use Rattle.tce_walk.specs.Run.{zeros, IsCodeOf, RunsOver, IsPart, IsRun, IsEnd}
use Rattle.tce_walk.proofs.Searching.{program-loop, named}
use Rattle.tce_walk.proofs.Positions.{programs-action, programs-loop, programs-within, IsLeft, left-plain, left-loop, left-done, stop-close, stop-past, ends-close, ends-past}

-- the same machine, later
pub over-later : {space : IndexSpace} {tree : ContractionTree} {own later : IndexSpace} {s next : Setting} → later ≡ own → next ≡ s → RunsOver space tree own s
    → RunsOver space tree later next
over-later {space} {tree} {own} {later} {s} {next} e f h =
    subst (λ o. RunsOver space tree o next) (sym e) (subst (λ n. RunsOver space tree own n) (sym f) h)

pub over-part : (space : IndexSpace) (tree : ContractionTree) (own : IndexSpace) (s : Setting) (program : Program) (a : Assignment) → RunsOver space tree own s
    → IsPart space tree program a → IsPart own s.tree program a
over-part space tree own s program a over h =
    subst (λ o. IsPart o s.tree program a) (sym over.space_is) (subst (λ c. IsPart space c program a) (sym over.tree_is) h)

pub over-extents : (space : IndexSpace) (tree : ContractionTree) (own : IndexSpace) (s : Setting) → RunsOver space tree own s → s.elements.extent ≡ extent_at own
over-extents space tree own s over = over.extents ∙ sym (ap extent_at over.space_is)

pub over-bound : (space : IndexSpace) (tree : ContractionTree) (own : IndexSpace) (s : Setting) (program : Program) → RunsOver space tree own s
    → touch_bound own s.tree program ≡ touch_bound space tree program
over-bound space tree own s program over = ap₂ (λ o c. touch_bound o c program) over.space_is over.tree_is

pub over-run : (space : IndexSpace) (tree : ContractionTree) (own : IndexSpace) (s now : Setting) (program : Program) (a : Assignment) (before later : Option State) (t u : ℕ)
    → RunsOver space tree own now → now ≡ s → IsRun own now.tree now program a before later t u → IsRun space tree s program a before later t u
over-run space tree own s now program a before later t u over e h =
    subst (λ n. IsRun space tree n program a before later t u) e
    (record { state = h.state; touches = omega (arith, h.touches, over-bound space tree own now program over) })

-- an operation that is no loop
pub plain-is : (op : Op) → ((i : ℕ) → op ≡ Open i → ⊥) → (op ≡ Close → ⊥) → IsPlain op
plain-is (Open i) f g = absurd (f i refl)
plain-is Close f g = absurd (g refl)
plain-is (Clear v) f g = tt
plain-is (Mul v) f g = tt
plain-is (Add v) f g = tt
plain-is (Sub v) f g = tt
plain-is (Acc v) f g = tt

pub record IsActionOf (op : Op) : Type 0 where
  pub action : Action
  pub spells : op_of action ≡ op
  pub alone : plain_program op ≡ step action stop

pub action-of : (op : Op) → IsPlain op → IsActionOf op
action-of (Open i) h = absurd h
action-of Close h = absurd h
action-of (Clear v) h = record { action = clear v; spells = refl; alone = refl }
action-of (Mul v) h = record { action = compute multiply v; spells = refl; alone = refl }
action-of (Add v) h = record { action = compute add v; spells = refl; alone = refl }
action-of (Sub v) h = record { action = compute subtract v; spells = refl; alone = refl }
action-of (Acc v) h = record { action = accumulate v; spells = refl; alone = refl }

pub plain-program : (ops : List Op) (at : ℕ) (d : Op) → at < length ops → (h : IsActionOf (get_or ops at d)) → program_at ops at ≡ step h.action (program_at ops (at + 1))
plain-program ops at d l h =
    ap first_of (programs-action ops at h.action l (named ops at d (op_of h.action) l (sym h.spells)))

pub plain-part : (space : IndexSpace) (tree : ContractionTree) (ops : List Op) (at : ℕ) (d : Op) (a : Assignment) → at < length ops → IsPlain (get_or ops at d)
    → IsPart space tree (program_at ops at) a → IsPart space tree (plain_program (get_or ops at d)) a
plain-part space tree ops at d a l plain h =
    let k = action-of (get_or ops at d) plain in
    let p : IsPart space tree (step k.action (program_at ops (at + 1))) a = subst (λ q. IsPart space tree q a) (plain-program ops at d l k) h in
    subst (λ q. IsPart space tree q a) (sym k.alone)
    (record { plan = p.plan; fit = p.fit; opened = p.opened; shape = (p.shape.0, tt); few = omega (arith, p.few); inside = p.inside })

pub plain-rest : (space : IndexSpace) (tree : ContractionTree) (ops : List Op) (at : ℕ) (d : Op) (a : Assignment) → at < length ops → IsPlain (get_or ops at d)
    → IsPart space tree (program_at ops at) a → IsPart space tree (program_at ops (at + 1)) a
plain-rest space tree ops at d a l plain h =
    let k = action-of (get_or ops at d) plain in
    let p : IsPart space tree (step k.action (program_at ops (at + 1))) a = subst (λ q. IsPart space tree q a) (plain-program ops at d l k) h in
    record { plan = p.plan; fit = p.fit; opened = p.opened; shape = p.shape.1; few = p.few; inside = p.inside }

step-bound : (space : IndexSpace) (tree : ContractionTree) (action : Action) (rest : Program) → touch_bound space tree (step action stop) ≤ touch_bound space tree (step action rest)
step-bound space tree (clear v) rest = omega arith
step-bound space tree (compute op v) rest = omega arith
step-bound space tree (accumulate v) rest = omega arith

pub plain-few : (space : IndexSpace) (tree : ContractionTree) (own : IndexSpace) (s now : Setting) (ops : List Op) (start at : ℕ) (d : Op) (a : Assignment) (before state : Option State) (t m : ℕ)
    → RunsOver space tree own now → at < length ops → IsPlain (get_or ops at d) → IsLeft space tree s ops start at a before state t m
    → t + touch_bound space tree (program_at ops start) ≤ 2 ^ 100 → m + touch_bound own now.tree (plain_program (get_or ops at d)) ≤ 2 ^ 100
plain-few space tree own s now ops start at d a before state t m over l plain h few =
    let k = action-of (get_or ops at d) plain in
    omega (
      arith,
      h.few,
      few,
      over-bound space tree own now (plain_program (get_or ops at d)) over,
      ap (touch_bound space tree) k.alone,
      ap (touch_bound space tree) (plain-program ops at d l k),
      step-bound space tree k.action (program_at ops (at + 1)),
    )

-- a loop
pub open-part : (space : IndexSpace) (tree : ContractionTree) (ops : List Op) (at i : ℕ) (d : Op) (a : Assignment) → at < length ops → get_or ops at d ≡ Open i
    → IsPart space tree (program_at ops at) a → IsPart space tree (loop i (program_at ops (at + 1)) stop) a
open-part space tree ops at i d a l is h =
    let e = program-loop ops at i d l is in
    let p : IsPart space tree (loop i (program_at ops (at + 1)) (first_of (others_of (programs_at ops (at + 1))))) a = subst (λ q. IsPart space tree q a) e h in
    record { plan = p.plan; fit = p.fit; opened = p.opened; shape = (p.shape.0, p.shape.1, tt); few = omega (arith, p.few); inside = p.inside }

pub open-few : (space : IndexSpace) (tree : ContractionTree) (s : Setting) (ops : List Op) (start at i : ℕ) (d : Op) (a : Assignment) (before state : Option State) (t m : ℕ)
    → at < length ops → get_or ops at d ≡ Open i → IsLeft space tree s ops start at a before state t m
    → t + touch_bound space tree (program_at ops start) ≤ 2 ^ 100 → m + touch_bound space tree (loop i (program_at ops (at + 1)) stop) ≤ 2 ^ 100
open-few space tree s ops start at i d a before state t m l is h few =
    omega (arith, h.few, few, ap (touch_bound space tree) (program-loop ops at i d l is))

pub open-rest : (space : IndexSpace) (tree : ContractionTree) (ops : List Op) (at i : ℕ) (d : Op) (close next : ℕ) (a : Assignment) → at < length ops → get_or ops at d ≡ Open i
    → EndsAt ops (at + 1) close → next ≡ min (close + 1) (length ops) → IsPart space tree (program_at ops at) a → IsPart space tree (program_at ops next) a
open-rest space tree ops at i d close next a l is ends e h =
    let here = ap first_of (programs-loop ops at i close l (named ops at d (Open i) l is) ends) in
    let p : IsPart space tree (loop i (program_at ops (at + 1)) (program_at ops (close + 1))) a = subst (λ q. IsPart space tree q a) here h in
    let rest : program_at ops (close + 1) ≡ program_at ops next = sym (ap first_of (programs-within ops (close + 1))) ∙ ap (program_at ops) (sym e) in
    subst (λ q. IsPart space tree q a) rest
    (record { plan = p.plan; fit = p.fit; opened = p.opened; shape = p.shape.2; few = omega (arith, p.few); inside = p.inside })

pub open-left : (space : IndexSpace) (tree : ContractionTree) (s now : Setting) (ops : List Op) (start at i : ℕ) (d : Op) (close next : ℕ) (a : Assignment) (before state later : Option State) (t m u : ℕ)
    → now ≡ s → at < length ops → get_or ops at d ≡ Open i → EndsAt ops (at + 1) close → next ≡ min (close + 1) (length ops)
    → IsLeft space tree s ops start at a before state t m → IsRun space tree now (loop i (program_at ops (at + 1)) stop) a state later m u
    → IsLeft space tree s ops start next a before later t u
open-left space tree s now ops start at i d close next a before state later t m u same l is ends e h run =
    subst (λ k. IsLeft space tree s ops start k a before later t u) (sym e)
    (left-loop space tree s ops start at i close a before state later t m u l (named ops at d (Open i) l is) ends h
    (subst (λ n. IsRun space tree n (loop i (program_at ops (at + 1)) stop) a state later m u) same run))

pub plain-left : (space : IndexSpace) (tree : ContractionTree) (own : IndexSpace) (s now : Setting) (ops : List Op) (start at : ℕ) (d : Op) (a : Assignment) (before state later : Option State) (t m u : ℕ)
    → RunsOver space tree own now → now ≡ s → at < length ops → IsPlain (get_or ops at d) → IsLeft space tree s ops start at a before state t m
    → IsRun own now.tree now (plain_program (get_or ops at d)) a state later m u → IsLeft space tree s ops start (at + 1) a before later t u
plain-left space tree own s now ops start at d a before state later t m u over same l plain h run =
    left-plain space tree s ops start at a before state later t m u (get_or ops at d) l (named ops at d (get_or ops at d) l refl) plain h
    (over-run space tree own s now (plain_program (get_or ops at d)) a state later m u over same run)

-- at a `Close`, or at the end, the part is run
pub close-run : (space : IndexSpace) (tree : ContractionTree) (s : Setting) (ops : List Op) (start at : ℕ) (d : Op) (a : Assignment) (before now : Option State) (t u : ℕ)
    → at < length ops → get_or ops at d ≡ Close → IsLeft space tree s ops start at a before now t u → IsRun space tree s (program_at ops start) a before now t u
close-run space tree s ops start at d a before now t u l is h = left-done space tree s ops start at a before now t u (stop-close ops at l (named ops at d Close l is)) h

pub past-run : (space : IndexSpace) (tree : ContractionTree) (s : Setting) (ops : List Op) (start at : ℕ) (a : Assignment) (before now : Option State) (t u : ℕ)
    → length ops ≤ at → IsLeft space tree s ops start at a before now t u → IsRun space tree s (program_at ops start) a before now t u
past-run space tree s ops start at a before now t u l h = left-done space tree s ops start at a before now t u (stop-past ops at l) h

pub close-end : (space : IndexSpace) (tree : ContractionTree) (s : Setting) (ops : List Op) (start at : ℕ) (d : Op) (a : Assignment) (before now : Option State) (t u : ℕ)
    → at < length ops → get_or ops at d ≡ Close → start ≤ at → IsLeft space tree s ops start at a before now t u → IsEnd ops start at
close-end space tree s ops start at d a before now t u l is behind h =
    record { ends = ends-close ops start at l (named ops at d Close l is) h.others; behind = behind; within = omega (arith, l) }

pub past-end : (space : IndexSpace) (tree : ContractionTree) (s : Setting) (ops : List Op) (start at : ℕ) (a : Assignment) (before now : Option State) (t u : ℕ)
    → length ops ≤ at → start ≤ at → at ≤ length ops → IsLeft space tree s ops start at a before now t u → IsEnd ops start at
past-end space tree s ops start at a before now t u l behind within h =
    record { ends = ends-past ops start at l h.others; behind = behind; within = within }

-- setting a number again, and back
pub set-next : (numbers mid now : List ℕ) (i x y : ℕ) → mid ≡ set numbers i y → now ≡ set mid i x → now ≡ set numbers i x
set-next numbers mid now i x y m e = e ∙ ap (λ ns. set ns i x) m ∙ set-set numbers i y x

pub set-back : (numbers mid : List ℕ) (i x : ℕ) → i < length numbers → mid ≡ set numbers i x → set mid i (get_or numbers i 0) ≡ numbers
set-back numbers mid i x l e = ap (λ ns. set ns i (get_or numbers i 0)) e ∙ set-set numbers i x (get_or numbers i 0) ∙ set-get_or numbers i 0

-- the whole code, before any loop is open
pub whole-part : (space : IndexSpace) (tree : ContractionTree) (fusion : List ℕ) (ops : List Op) (a : Assignment) → IsCodeOf tree fusion ops
    → IsPart space tree (program_at ops 0) a
whole-part space tree fusion ops a h = record {
  plan = plan_of fusion h.orders;
  fit = h.fit;
  opened = [];
  shape = h.code.shape;
  few = omega (arith, h.code.few);
  inside = λ i m. absurd (false≢true m);
}

pub zeros-none : (n : ℕ) → assignment_of (replicate n 0) ≡ zeros
zeros-none n = fun_ext (λ i. zero-at n i)
  where
    zero-at : (n i : ℕ) → get_or (replicate {A = ℕ} n 0) i 0 ≡ 0
    zero-at zero i = refl
    zero-at (suc n) zero = refl
    zero-at (suc n) (suc i) = zero-at n i
