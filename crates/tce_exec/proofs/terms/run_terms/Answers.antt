use Rattle.std.proofs.Common.{◌≡◌, ℕ, ◌+◌, ◌<◌, ◌++◌, false, IsTrue, [], ◌∷◌, length, get_or, take, refl, ◌∙◌, arith}
use Rattle.std.proofs.lemmas.Bool.{false≢true}
use Rattle.std.proofs.lemmas.List.{take_more}
use Rattle.tce_outside.proofs.Causes.{no_cause, failed_after}
use Rattle.tce_space.specs.IndexSet.{has}
use Rattle.tce_tree.specs.ContractionTree.{node_dims}
use Rattle.tce_tree.specs.WellFormed.{among}
use Rattle.tce_block.specs.Cuts.{part_of}
use Rattle.tce_walk.specs.Machine.{assignment_of}
use Rattle.tce_walk.specs.Terms.{IsTermIn}
use Rattle.tce_walk.specs.declared.terms.Term.{Term}
use Rattle.tce_exec.specs.Following.{kept_on}
use Rattle.tce_exec.specs.Storages.{work_of}
use Rattle.tce_exec.specs.Workspace.{Workspace, setting_in}
use Rattle.tce_exec.specs.TermBlocks.{around}
use Rattle.tce_exec.specs.declared.term_block.TermRun.{TermRun}
use Rattle.tce_exec.proofs.Calls.{none_given, told_of}
use Rattle.tce_exec.proofs.Following.{same_on}
use Rattle.tce_exec.proofs.TermCombining.{run_is, terms_begun, terms_few, terms_stepped, terms_ended}
use Rattle.tce_exec.proofs.TermOperandsOf.{value_of}
use Rattle.tce_exec.proofs.TermPlaces.{can_step_term}
use Rattle.tce_exec.proofs.terms.run_terms.Goals as goal

pub loop-n-init : goal.loop-n-init
loop-n-init g c =
    let x : Workspace = work_of g.D.Disk.files c.args.evaluation.now c.args.store.now in
    record {
      along = terms_begun x c.args.sum.now (assignment_of c.args.numbers.now) (part_of c.args.block.now) c.requires.prepared;
      position = c.requires.position;
      same = (refl, refl, refl);
      counted = refl;
    }

pub of-plan-requires-clause-steps : goal.of-plan-requires-clause-steps
of-plan-requires-clause-steps g c =
    let x : Workspace = work_of g.D.Disk.files c.args.evaluation.now c.args.store.now in
    let y : Workspace = work_of g.D.Disk.files c.args.evaluation.now c.loop-n.store in
    let sum = c.args.sum.now in
    let n = c.loop-n.n in
    let term : Term = get_or sum.terms.now n c.index-sum-n.result in
    let low : n < length sum.terms.now = omega (arith, c.loop-n-test.true) in
    let r : TermRun = record {
      operands = c.term_operands.result;
      order = sum.loops;
      inner = c.as_slice.result;
      block = c.args.block;
      numbers = c.args.numbers;
      factors = record { before = c.factor_before-before.result; after = c.factor_after-after.result };
    } in
    let at : IsTermIn x.places.space (setting_in x) sum.loops.now (around r) term = c.requires.terms.each n c.index-sum-n.result low in
    let apart : (i : ℕ) → IsTrue (among term.loops.0.items i) → has (node_dims x.places.tree sum.node) i ≡ false = c.requires.terms.apart n c.index-sum-n.result low in
    let run = run_is x sum term r c.index_count-indexes.ensures.limits c.count-nodes.ensures.kept c.requires.terms at apart c.term_operands.ensures.operands c.term_operands.ensures.out refl c.as_slice.ensures.value in
    can_step_term y r.operands c.loop-n.invariant.along.changed.prepared run.known run.tensors

pub of-plan-requires-clause-run : goal.of-plan-requires-clause-run
of-plan-requires-clause-run g c =
    let x : Workspace = work_of g.D.Disk.files c.args.evaluation.now c.args.store.now in
    let y : Workspace = work_of g.D.Disk.files c.args.evaluation.now c.loop-n.store in
    let sum = c.args.sum.now in
    let n = c.loop-n.n in
    let term : Term = get_or sum.terms.now n c.index-sum-n.result in
    let low : n < length sum.terms.now = omega (arith, c.loop-n-test.true) in
    let r : TermRun = record {
      operands = c.term_operands.result;
      order = sum.loops;
      inner = c.as_slice.result;
      block = c.args.block;
      numbers = c.args.numbers;
      factors = record { before = c.factor_before-before.result; after = c.factor_after-after.result };
    } in
    let at : IsTermIn x.places.space (setting_in x) sum.loops.now (around r) term = c.requires.terms.each n c.index-sum-n.result low in
    let apart : (i : ℕ) → IsTrue (among term.loops.0.items i) → has (node_dims x.places.tree sum.node) i ≡ false = c.requires.terms.apart n c.index-sum-n.result low in
    let run = run_is x sum term r c.index_count-indexes.ensures.limits c.count-nodes.ensures.kept c.requires.terms at apart c.term_operands.ensures.operands c.term_operands.ensures.out refl c.as_slice.ensures.value in
    run

pub run_term-requires-clause-run : goal.run_term-requires-clause-run
run_term-requires-clause-run g c =
    let x : Workspace = work_of g.D.Disk.files c.args.evaluation.now c.args.store.now in
    let y : Workspace = work_of g.D.Disk.files c.args.evaluation.now c.loop-n.store in
    let sum = c.args.sum.now in
    let n = c.loop-n.n in
    let term : Term = get_or sum.terms.now n c.index-sum-n.result in
    let low : n < length sum.terms.now = omega (arith, c.loop-n-test.true) in
    let r : TermRun = record {
      operands = c.term_operands.result;
      order = sum.loops;
      inner = c.as_slice.result;
      block = c.args.block;
      numbers = c.args.numbers;
      factors = record { before = c.factor_before-before.result; after = c.factor_after-after.result };
    } in
    let at : IsTermIn x.places.space (setting_in x) sum.loops.now (around r) term = c.requires.terms.each n c.index-sum-n.result low in
    let apart : (i : ℕ) → IsTrue (among term.loops.0.items i) → has (node_dims x.places.tree sum.node) i ≡ false = c.requires.terms.apart n c.index-sum-n.result low in
    let run = run_is x sum term r c.index_count-indexes.ensures.limits c.count-nodes.ensures.kept c.requires.terms at apart c.term_operands.ensures.operands c.term_operands.ensures.out refl c.as_slice.ensures.value in
    run

pub run_term-requires-clause-prepared : goal.run_term-requires-clause-prepared
run_term-requires-clause-prepared g c = c.loop-n.invariant.along.changed.prepared

pub run_term-requires-clause-position : goal.run_term-requires-clause-position
run_term-requires-clause-position g c = c.loop-n.invariant.position

pub run_term-requires-clause-few : goal.run_term-requires-clause-few
run_term-requires-clause-few g c =
    let x : Workspace = work_of g.D.Disk.files c.args.evaluation.now c.args.store.now in
    let y : Workspace = work_of g.D.Disk.files c.args.evaluation.now c.loop-n.store in
    let sum = c.args.sum.now in
    let n = c.loop-n.n in
    let term : Term = get_or sum.terms.now n c.index-sum-n.result in
    let low : n < length sum.terms.now = omega (arith, c.loop-n-test.true) in
    let r : TermRun = record {
      operands = c.term_operands.result;
      order = sum.loops;
      inner = c.as_slice.result;
      block = c.args.block;
      numbers = c.args.numbers;
      factors = record { before = c.factor_before-before.result; after = c.factor_after-after.result };
    } in
    let at : IsTermIn x.places.space (setting_in x) sum.loops.now (around r) term = c.requires.terms.each n c.index-sum-n.result low in
    let apart : (i : ℕ) → IsTrue (among term.loops.0.items i) → has (node_dims x.places.tree sum.node) i ≡ false = c.requires.terms.apart n c.index-sum-n.result low in
    let more : take (n + 1) sum.terms.now ≡ take n sum.terms.now ++ term ∷ [] = take_more sum.terms.now n c.index-sum-n.result low in
    terms_few x y sum (around r) (part_of c.args.block.now) n term r low more c.as_slice.ensures.value c.loop-n.invariant.along c.requires.few

pub loop-n-preserved : goal.loop-n-preserved
loop-n-preserved g c =
    let x : Workspace = work_of g.D.Disk.files c.args.evaluation.now c.args.store.now in
    let y : Workspace = work_of g.D.Disk.files c.args.evaluation.now c.loop-n.store in
    let sum = c.args.sum.now in
    let n = c.loop-n.n in
    let term : Term = get_or sum.terms.now n c.index-sum-n.result in
    let low : n < length sum.terms.now = omega (arith, c.loop-n-test.true) in
    let r : TermRun = record {
      operands = c.term_operands.result;
      order = sum.loops;
      inner = c.as_slice.result;
      block = c.args.block;
      numbers = c.args.numbers;
      factors = record { before = c.factor_before-before.result; after = c.factor_after-after.result };
    } in
    let at : IsTermIn x.places.space (setting_in x) sum.loops.now (around r) term = c.requires.terms.each n c.index-sum-n.result low in
    let apart : (i : ℕ) → IsTrue (among term.loops.0.items i) → has (node_dims x.places.tree sum.node) i ≡ false = c.requires.terms.apart n c.index-sum-n.result low in
    let more : take (n + 1) sum.terms.now ≡ take n sum.terms.now ++ term ∷ [] = take_more sum.terms.now n c.index-sum-n.result low in
    let z : Workspace = work_of g.D.Disk.files c.args.evaluation.now c.run_term.new.store in
    let e = c.in_ok-run_term.ensures in
    record {
      along = terms_stepped x y z sum n term r c.requires.prepared low more c.term_operands.ensures.out refl c.as_slice.ensures.value
          (λ b. value_of (setting_in x).elements x.places.tree term.operand r.operands b at.operand c.term_operands.ensures.operands) c.factor_before-before.ensures c.factor_after-after.ensures
          c.loop-n.invariant.along e.upheld.kept e.changed;
      position = e.position;
      same = same_on c.args.store.now c.loop-n.store c.run_term.new.store c.loop-n.invariant.same e.upheld.same;
      counted = e.upheld.fault_reported.quiet false≢true ∙ c.loop-n.invariant.counted;
    }

pub returns-clause-changed : goal.returns-clause-changed
returns-clause-changed g c =
    let x : Workspace = work_of g.D.Disk.files c.args.evaluation.now c.args.store.now in
    let y : Workspace = work_of g.D.Disk.files c.args.evaluation.now c.loop-n.store in
    terms_ended x y c.args.sum.now (assignment_of c.args.numbers.now) (part_of c.args.block.now) c.loop-n.n (omega (arith, c.loop-n-test.false, c.loop-n.auto.n-end)) c.requires.terms c.loop-n.invariant.along

pub returns-clause-upheld : goal.returns-clause-upheld
returns-clause-upheld g c = record {
  kept = c.loop-n.invariant.along.kept;
  same = c.loop-n.invariant.same;
  fault_reported = record {
    cause = no_cause _ _ c.loop-n.invariant.counted false≢true;
    quiet = λ fine. c.loop-n.invariant.counted;
  };
}

pub returns-clause-position : goal.returns-clause-position
returns-clause-position g c = c.loop-n.invariant.position

pub returns-in_err-run_term-clause-changed : goal.returns-in_err-run_term-clause-changed
returns-in_err-run_term-clause-changed g c = none_given _ _ c.from_residual.result c.from_residual.ensures.1

pub returns-in_err-run_term-clause-position : goal.returns-in_err-run_term-clause-position
returns-in_err-run_term-clause-position g c = none_given _ _ c.from_residual.result c.from_residual.ensures.1

pub returns-in_err-run_term-clause-upheld : goal.returns-in_err-run_term-clause-upheld
returns-in_err-run_term-clause-upheld g c = record {
  kept =
      let x : Workspace = work_of g.D.Disk.files c.args.evaluation.now c.args.store.now in
      let y : Workspace = work_of g.D.Disk.files c.args.evaluation.now c.loop-n.store in
      let z : Workspace = work_of g.D.Disk.files c.args.evaluation.now c.run_term.new.store in
      kept_on x y z c.loop-n.invariant.along.kept c.in_err-run_term.ensures.upheld.kept;
  same = same_on c.args.store.now c.loop-n.store c.run_term.new.store c.loop-n.invariant.same c.in_err-run_term.ensures.upheld.same;
  fault_reported = record {
    cause = failed_after _ _ _ c.loop-n.invariant.counted c.in_err-run_term.ensures.upheld.fault_reported.cause;
    quiet = told_of _ _ _ c.from_residual.result c.from_residual.ensures.1;
  };
}
