use Rattle.std.proofs.Common.{◌≡◌, ◌∷◌, List, length, slice_index, refl, sym, ap, ◌∙◌, subst, arith}
use Rattle.std.proofs.lemmas.Bool.{false≢true}
use Rattle.tce_outside.proofs.Causes.{no_cause, failed_after}
use Rattle.tce_block.specs.Cuts.{part_of}
use Rattle.tce_block.specs.Parts.{Part}
use Rattle.tce_exec.specs.Blocks.{AreOutside}
use Rattle.tce_exec.specs.Following.{kept_on}
use Rattle.tce_exec.specs.Storages.{work_of}
use Rattle.tce_exec.specs.Workspace.{Workspace}
use Rattle.tce_exec.specs.Evaluations.{places_of}
use Rattle.tce_exec.specs.TermBlocks.{around, IsTermNest, IsTermBlock}
use Rattle.tce_exec.specs.TermPlans.{left_blocks, IsAlongTerm}
use Rattle.tce_exec.specs.declared.term_block.TermBlock.{TermBlock}
use Rattle.tce_exec.proofs.Calls.{none_given, told_of}
use Rattle.tce_exec.proofs.Following.{same_on}
use Rattle.tce_exec.proofs.TermSteps.{term_begun, next_is_block, term_few, term_stepped, term_ended, left_from, last_told, joined_short}
use Rattle.tce_exec.proofs.terms.run_term.Goals as goal

pub loop-more-init : goal.loop-more-init
loop-more-init g c =
    let x : Workspace = work_of g.D.Disk.files c.args.evaluation.now c.args.store.now in
    record {
      along = term_begun x c.args.run.now (left_blocks c.next_in-more.result (part_of c.next_in-more.new.block) c.next_in-more.new.self) c.requires.prepared
          (sym (left_from c.next_in-more.result (part_of c.next_in-more.new.block) c.args.plan.now.blocks c.next_in-more.new.self c.next_in-more.ensures.block c.next_in-more.ensures.rest) ∙ c.requires.plan.blocks_are);
      loops_are = c.requires.plan.loops_are;
      others = λ i m. ap (λ f. f i) c.go_to.ensures.numbers;
      position = c.go_to.ensures.position;
      nest = c.requires.plan.nest_is;
      same = (refl, refl, refl);
      counted = refl;
    }

pub join_blocks-requires-clause-from : goal.join_blocks-requires-clause-from
join_blocks-requires-clause-from g c =
    let x : Workspace = work_of g.D.Disk.files c.args.evaluation.now c.args.store.now in
    let y : Workspace = work_of g.D.Disk.files c.args.evaluation.now c.loop-more.store in
    let q : Part = part_of c.loop-more.plan.next in
    let r = c.args.run.now in
    let along : IsAlongTerm x y r (q ∷ c.loop-more.plan.blocks) c.loop-more.before = subst (λ t. IsAlongTerm x y r (left_blocks t q c.loop-more.plan.blocks) c.loop-more.before) c.loop-more-test.true c.loop-more.invariant.along in
    (joined_short (places_of c.args.evaluation.now) r q c.requires.run (next_is_block x y r q c.loop-more.plan.blocks c.loop-more.before along)).from

pub join_blocks-requires-clause-len : goal.join_blocks-requires-clause-len
join_blocks-requires-clause-len g c =
    let x : Workspace = work_of g.D.Disk.files c.args.evaluation.now c.args.store.now in
    let y : Workspace = work_of g.D.Disk.files c.args.evaluation.now c.loop-more.store in
    let q : Part = part_of c.loop-more.plan.next in
    let r = c.args.run.now in
    let along : IsAlongTerm x y r (q ∷ c.loop-more.plan.blocks) c.loop-more.before = subst (λ t. IsAlongTerm x y r (left_blocks t q c.loop-more.plan.blocks) c.loop-more.before) c.loop-more-test.true c.loop-more.invariant.along in
    (joined_short (places_of c.args.evaluation.now) r q c.requires.run (next_is_block x y r q c.loop-more.plan.blocks c.loop-more.before along)).len

pub run_term_block-requires-clause-prepared : goal.run_term_block-requires-clause-prepared
run_term_block-requires-clause-prepared g c = c.loop-more.invariant.along.changed.prepared

pub run_term_block-requires-clause-position : goal.run_term_block-requires-clause-position
run_term_block-requires-clause-position g c = c.loop-more.invariant.position

pub run_term_block-requires-clause-block : goal.run_term_block-requires-clause-block
run_term_block-requires-clause-block g c =
    let x : Workspace = work_of g.D.Disk.files c.args.evaluation.now c.args.store.now in
    let y : Workspace = work_of g.D.Disk.files c.args.evaluation.now c.loop-more.store in
    let q : Part = part_of c.loop-more.plan.next in
    let r = c.args.run.now in
    let along : IsAlongTerm x y r (q ∷ c.loop-more.plan.blocks) c.loop-more.before = subst (λ t. IsAlongTerm x y r (left_blocks t q c.loop-more.plan.blocks) c.loop-more.before) c.loop-more-test.true c.loop-more.invariant.along in
    record {
      run = c.requires.run;
      loops_are = c.as_slice.ensures.value ∙ c.loop-more.invariant.loops_are;
      part = q;
      part_is = next_is_block x y r q c.loop-more.plan.blocks c.loop-more.before along;
      block_is = c.join_blocks.ensures;
    }

pub run_term_block-requires-clause-others : goal.run_term_block-requires-clause-others
run_term_block-requires-clause-others g c =
    subst (λ ls. AreOutside ls (around c.args.run.now) (slice_index c.loop-more.first.numbers)) (sym c.as_slice.ensures.value) c.loop-more.invariant.others

pub run_term_block-requires-clause-nest : goal.run_term_block-requires-clause-nest
run_term_block-requires-clause-nest g c =
    subst (λ ls. IsTermNest (places_of c.args.evaluation.now) c.args.run.now ls c.loop-more.plan.nest) (sym c.as_slice.ensures.value) c.loop-more.invariant.nest

pub run_term_block-requires-clause-few : goal.run_term_block-requires-clause-few
run_term_block-requires-clause-few g c =
    let x : Workspace = work_of g.D.Disk.files c.args.evaluation.now c.args.store.now in
    let y : Workspace = work_of g.D.Disk.files c.args.evaluation.now c.loop-more.store in
    let q : Part = part_of c.loop-more.plan.next in
    let r = c.args.run.now in
    let along : IsAlongTerm x y r (q ∷ c.loop-more.plan.blocks) c.loop-more.before = subst (λ t. IsAlongTerm x y r (left_blocks t q c.loop-more.plan.blocks) c.loop-more.before) c.loop-more-test.true c.loop-more.invariant.along in
    term_few x y r q c.loop-more.plan.blocks c.loop-more.before along c.requires.few

pub loop-more-preserved : goal.loop-more-preserved
loop-more-preserved g c =
    let x : Workspace = work_of g.D.Disk.files c.args.evaluation.now c.args.store.now in
    let y : Workspace = work_of g.D.Disk.files c.args.evaluation.now c.loop-more.store in
    let z : Workspace = work_of g.D.Disk.files c.args.evaluation.now c.run_term_block.new.store in
    let q : Part = part_of c.loop-more.plan.next in
    let r = c.args.run.now in
    let e = c.in_ok-run_term_block.ensures in
    let now : IsAlongTerm x y r (q ∷ c.loop-more.plan.blocks) c.loop-more.before = subst (λ t. IsAlongTerm x y r (left_blocks t q c.loop-more.plan.blocks) c.loop-more.before) c.loop-more-test.true c.loop-more.invariant.along in
    let rest : List Part = left_blocks c.next_in-more-in-loop-more.result (part_of c.next_in-more-in-loop-more.new.block) c.next_in-more-in-loop-more.new.self in
    let along : IsAlongTerm x y r (q ∷ rest) c.loop-more.before =
    subst (λ ls. IsAlongTerm x y r (q ∷ ls) c.loop-more.before) (left_from c.next_in-more-in-loop-more.result (part_of c.next_in-more-in-loop-more.new.block) c.loop-more.plan.blocks c.next_in-more-in-loop-more.new.self c.next_in-more-in-loop-more.ensures.block c.next_in-more-in-loop-more.ensures.rest) now in
    let b : TermBlock = record { run = r; loops = c.as_slice.result; block = record { ref_ptr = c.args.run.now.block.ref_ptr; now = c.join_blocks.new.block }; factors = record { before = c.loop-more.before; after = c.factor_after-after.result } } in
    let block : IsTermBlock y.places b = record {
      run = c.requires.run;
      loops_are = c.as_slice.ensures.value ∙ c.loop-more.invariant.loops_are;
      part = q;
      part_is = next_is_block x y r q c.loop-more.plan.blocks c.loop-more.before now;
      block_is = c.join_blocks.ensures;
    } in
    record {
      along = term_stepped x y z r q rest c.loop-more.before c.factor_after-after.result b c.requires.prepared c.len-len.ensures.words along block refl refl refl refl
          (last_told r c.next_in-more-in-loop-more.result (part_of c.next_in-more-in-loop-more.new.block) c.next_in-more-in-loop-more.new.self c.factor_after-after.result c.factor_after-after.ensures) e.upheld.kept e.changed;
      loops_are = c.loop-more.invariant.loops_are;
      others = subst (λ ls. AreOutside ls (around r) (slice_index c.run_term_block.new.first.numbers)) c.as_slice.ensures.value e.others;
      position = e.position;
      nest = subst (λ ls. IsTermNest (places_of c.args.evaluation.now) r ls c.run_term_block.new.nest) c.as_slice.ensures.value e.nest;
      same = same_on c.args.store.now c.loop-more.store c.run_term_block.new.store c.loop-more.invariant.same e.upheld.same;
      counted = e.upheld.fault_reported.quiet false≢true ∙ c.loop-more.invariant.counted;
    }

pub loop-more-smaller : goal.loop-more-smaller
loop-more-smaller g c =
    let q : Part = part_of c.loop-more.plan.next in
    let rest = left_from c.next_in-more-in-loop-more.result (part_of c.next_in-more-in-loop-more.new.block) c.loop-more.plan.blocks c.next_in-more-in-loop-more.new.self c.next_in-more-in-loop-more.ensures.block c.next_in-more-in-loop-more.ensures.rest in
    let here : length (left_blocks c.loop-more.more q c.loop-more.plan.blocks) ≡ length (q ∷ c.loop-more.plan.blocks) = ap (λ t. length (left_blocks t q c.loop-more.plan.blocks)) c.loop-more-test.true in
    omega (arith, ap length rest, here)

pub returns-clause-changed : goal.returns-clause-changed
returns-clause-changed g c =
    let x : Workspace = work_of g.D.Disk.files c.args.evaluation.now c.args.store.now in
    let y : Workspace = work_of g.D.Disk.files c.args.evaluation.now c.loop-more.store in
    term_ended x y c.args.run.now c.loop-more.before c.requires.prepared c.len-words.ensures.words c.requires.run
    (subst (λ t. IsAlongTerm x y c.args.run.now (left_blocks t (part_of c.loop-more.plan.next) c.loop-more.plan.blocks) c.loop-more.before) c.loop-more-test.false c.loop-more.invariant.along)

pub returns-clause-upheld : goal.returns-clause-upheld
returns-clause-upheld g c = record {
  kept = c.loop-more.invariant.along.kept;
  same = c.loop-more.invariant.same;
  fault_reported = record {
    cause = no_cause _ _ c.loop-more.invariant.counted false≢true;
    quiet = λ fine. c.loop-more.invariant.counted;
  };
}

pub returns-clause-position : goal.returns-clause-position
returns-clause-position g c = c.loop-more.invariant.position

pub returns-in_err-run_term_block-clause-changed : goal.returns-in_err-run_term_block-clause-changed
returns-in_err-run_term_block-clause-changed g c = none_given _ _ c.from_residual.result c.from_residual.ensures.1

pub returns-in_err-run_term_block-clause-position : goal.returns-in_err-run_term_block-clause-position
returns-in_err-run_term_block-clause-position g c = none_given _ _ c.from_residual.result c.from_residual.ensures.1

pub returns-in_err-run_term_block-clause-upheld : goal.returns-in_err-run_term_block-clause-upheld
returns-in_err-run_term_block-clause-upheld g c = record {
  kept =
      let x : Workspace = work_of g.D.Disk.files c.args.evaluation.now c.args.store.now in
      let y : Workspace = work_of g.D.Disk.files c.args.evaluation.now c.loop-more.store in
      let z : Workspace = work_of g.D.Disk.files c.args.evaluation.now c.run_term_block.new.store in
      kept_on x y z c.loop-more.invariant.along.kept c.in_err-run_term_block.ensures.upheld.kept;
  same = same_on c.args.store.now c.loop-more.store c.run_term_block.new.store c.loop-more.invariant.same c.in_err-run_term_block.ensures.upheld.same;
  fault_reported = record {
    cause = failed_after _ _ _ c.loop-more.invariant.counted c.in_err-run_term_block.ensures.upheld.fault_reported.cause;
    quiet = told_of _ _ _ c.from_residual.result c.from_residual.ensures.1;
  };
}
