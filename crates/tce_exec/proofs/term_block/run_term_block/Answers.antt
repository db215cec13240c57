use Rattle.std.proofs.Common.{ℕ, ◌<◌, ◌∙◌, List, if◌then◌else◌, slice_index, length, sym, subst, ap}
use Rattle.std.proofs.lemmas.List.Elements.{All-from_recursion}
use Rattle.tce_outside.proofs.Causes.{cause_of}
use Rattle.tce_tree.specs.Value.{assignment}
use Rattle.tce_tree.specs.WellFormed.{among}
use Rattle.tce_exec.specs.Workspace.{Workspace}
use Rattle.tce_exec.specs.Storages.{work_of}
use Rattle.tce_exec.specs.Evaluations.{places_of}
use Rattle.tce_exec.specs.TermBlocks.{around, block_part}
use Rattle.tce_exec.proofs.Asking.{begun_first, outside_still}
use Rattle.tce_exec.proofs.Calls.{none_given, told_of}
use Rattle.tce_exec.proofs.Putting.{with_words}
use Rattle.tce_exec.proofs.Reading.{each_of}
use Rattle.tce_exec.proofs.TermLeaving.{facts, first_turn, turns_in, elements_at, place_at, ready, read_beside, places_within, outer_within, block_runs, scaled_ready, added_ready}
use Rattle.tce_exec.proofs.TermTurns.{outer_loops}
use Rattle.tce_exec.specs.TermWindows.{HaveElements}
use Rattle.tce_exec.specs.Operands.{IsPlaceOf}
use Rattle.tce_exec.proofs.term_block.run_term_block.Goals as goal

pub begin-requires-clause-position : goal.begin-requires-clause-position
begin-requires-clause-position g c = c.requires.position

pub begin-requires-clause-known : goal.begin-requires-clause-known
begin-requires-clause-known g c =
    All-from_recursion (λ i. i < 24) c.args.at.now.loops.now (each_of (λ i. i < 24) c.args.at.now.loops.now (facts (places_of c.args.evaluation.now) c.args.at.now c.requires.block).are_loops.below)

pub begin-requires-clause-each : goal.begin-requires-clause-each
begin-requires-clause-each g c = ap length c.as_slice.ensures.value ∙ (facts (places_of c.args.evaluation.now) c.args.at.now c.requires.block).begins

pub term_windows-requires-clause-prepared : goal.term_windows-requires-clause-prepared
term_windows-requires-clause-prepared g c = c.requires.prepared

pub term_windows-requires-clause-position : goal.term_windows-requires-clause-position
term_windows-requires-clause-position g c = c.begin.ensures.position

pub term_windows-requires-clause-elements : goal.term_windows-requires-clause-elements
term_windows-requires-clause-elements g c =
    subst (HaveElements (places_of c.args.evaluation.now) c.args.at.now.run.operands)
    (sym (c.begin.ensures.numbers ∙ ap (λ (fs : List ℕ). λ i. if among c.args.at.now.loops.now i then assignment c.args.at.now.loops.now fs i else slice_index c.args.first.now.numbers i) c.as_slice.ensures.value ∙ begun_first c.args.at.now.loops.now (around c.args.at.now.run) (slice_index c.args.first.now.numbers) (block_part c.args.at.now) c.requires.others))
    (elements_at (places_of c.args.evaluation.now) c.args.at.now c.requires.block (turns_in c.args.at.now).first (first_turn (places_of c.args.evaluation.now) c.args.at.now c.requires.block))

pub term_windows-requires-clause-place : goal.term_windows-requires-clause-place
term_windows-requires-clause-place g c =
    let x : Workspace = work_of g.D.Disk.files c.args.evaluation.now c.args.store.now in
    subst (IsPlaceOf x c.args.at.now.run.operands.out)
    (sym (c.begin.ensures.numbers ∙ ap (λ (fs : List ℕ). λ i. if among c.args.at.now.loops.now i then assignment c.args.at.now.loops.now fs i else slice_index c.args.first.now.numbers i) c.as_slice.ensures.value ∙ begun_first c.args.at.now.loops.now (around c.args.at.now.run) (slice_index c.args.first.now.numbers) (block_part c.args.at.now) c.requires.others))
    (place_at x c.args.at.now c.requires.block (turns_in c.args.at.now).first (first_turn (places_of c.args.evaluation.now) c.args.at.now c.requires.block))

pub term_windows-requires-clause-steps : goal.term_windows-requires-clause-steps
term_windows-requires-clause-steps g c = c.requires.nest.steps_are

pub term_windows-requires-clause-few : goal.term_windows-requires-clause-few
term_windows-requires-clause-few g c = c.requires.few

pub scale_places-requires-clause-sequence : goal.scale_places-requires-clause-sequence
scale_places-requires-clause-sequence g c = c.requires.nest.places_is

pub scale_places-requires-clause-loops : goal.scale_places-requires-clause-loops
scale_places-requires-clause-loops g c = outer_loops (places_of c.args.evaluation.now) c.args.at.now.run c.requires.block.run

pub scale_places-requires-clause-out : goal.scale_places-requires-clause-out
scale_places-requires-clause-out g c =
    let y : Workspace = work_of g.D.Disk.files c.args.evaluation.now c.term_windows.new.store in
    let same = c.begin.ensures.numbers ∙ ap (λ (fs : List ℕ). λ i. if among c.args.at.now.loops.now i then assignment c.args.at.now.loops.now fs i else slice_index c.args.first.now.numbers i) c.as_slice.ensures.value ∙ begun_first c.args.at.now.loops.now (around c.args.at.now.run) (slice_index c.args.first.now.numbers) (block_part c.args.at.now) c.requires.others in
    let at = ready y c.args.at.now (slice_index c.begin.new.self.numbers) c.term_windows.new.windows c.requires.block c.in_ok-term_windows.ensures.read.prepared same c.in_ok-term_windows.ensures.windows in
    outer_within y c.args.at.now c.term_windows.new.windows.out c.requires.block c.in_ok-term_windows.ensures.read.prepared at.outer

pub add_term-requires-clause-loops : goal.add_term-requires-clause-loops
add_term-requires-clause-loops g c = (facts (places_of c.args.evaluation.now) c.args.at.now c.requires.block).are_loops

pub add_term-requires-clause-out : goal.add_term-requires-clause-out
add_term-requires-clause-out g c =
    let y : Workspace = work_of g.D.Disk.files c.args.evaluation.now c.term_windows.new.store in
    let b = c.args.at.now in
    let w = c.term_windows.new.windows in
    let is = c.in_ok-term_windows.ensures.read.prepared in
    let same = c.begin.ensures.numbers ∙ ap (λ (fs : List ℕ). λ i. if among c.args.at.now.loops.now i then assignment c.args.at.now.loops.now fs i else slice_index c.args.first.now.numbers i) c.as_slice.ensures.value ∙ begun_first c.args.at.now.loops.now (around b.run) (slice_index c.args.first.now.numbers) (block_part b) c.requires.others in
    let at = ready y b (slice_index c.begin.new.self.numbers) w c.requires.block is same c.in_ok-term_windows.ensures.windows in
    let scaled = scaled_ready y b w c.scale_places.new.words c.requires.block is c.len-read.ensures.words at c.scale_places.ensures.made in
    places_within (with_words y c.scale_places.new.words) b w.out c.requires.block scaled.prepared scaled.at.puts

pub add_term-requires-clause-left : goal.add_term-requires-clause-left
add_term-requires-clause-left g c =
    let y : Workspace = work_of g.D.Disk.files c.args.evaluation.now c.term_windows.new.store in
    let b = c.args.at.now in
    let w = c.term_windows.new.windows in
    let is = c.in_ok-term_windows.ensures.read.prepared in
    let same = c.begin.ensures.numbers ∙ ap (λ (fs : List ℕ). λ i. if among c.args.at.now.loops.now i then assignment c.args.at.now.loops.now fs i else slice_index c.args.first.now.numbers i) c.as_slice.ensures.value ∙ begun_first c.args.at.now.loops.now (around b.run) (slice_index c.args.first.now.numbers) (block_part b) c.requires.others in
    let at = ready y b (slice_index c.begin.new.self.numbers) w c.requires.block is same c.in_ok-term_windows.ensures.windows in
    let scaled = scaled_ready y b w c.scale_places.new.words c.requires.block is c.len-read.ensures.words at c.scale_places.ensures.made in
    read_beside (with_words y c.scale_places.new.words) b (if b.run.operands.pair then 3 else 2) b.run.operands.left.now w.left w.out c.requires.block scaled.prepared c.requires.block.run.tensors.left_is scaled.at.left_is scaled.at.puts

pub add_term-requires-clause-right : goal.add_term-requires-clause-right
add_term-requires-clause-right g c =
    let y : Workspace = work_of g.D.Disk.files c.args.evaluation.now c.term_windows.new.store in
    let b = c.args.at.now in
    let w = c.term_windows.new.windows in
    let is = c.in_ok-term_windows.ensures.read.prepared in
    let same = c.begin.ensures.numbers ∙ ap (λ (fs : List ℕ). λ i. if among c.args.at.now.loops.now i then assignment c.args.at.now.loops.now fs i else slice_index c.args.first.now.numbers i) c.as_slice.ensures.value ∙ begun_first c.args.at.now.loops.now (around b.run) (slice_index c.args.first.now.numbers) (block_part b) c.requires.others in
    let at = ready y b (slice_index c.begin.new.self.numbers) w c.requires.block is same c.in_ok-term_windows.ensures.windows in
    let scaled = scaled_ready y b w c.scale_places.new.words c.requires.block is c.len-read.ensures.words at c.scale_places.ensures.made in
    λ pair. read_beside (with_words y c.scale_places.new.words) b 2 b.run.operands.right.now w.right w.out c.requires.block scaled.prepared c.requires.block.run.tensors.right_is (scaled.at.right_is pair) scaled.at.puts

pub scale_places-requires-2-clause-loops : goal.scale_places-requires-2-clause-loops
scale_places-requires-2-clause-loops g c = outer_loops (places_of c.args.evaluation.now) c.args.at.now.run c.requires.block.run

pub scale_places-requires-2-clause-out : goal.scale_places-requires-2-clause-out
scale_places-requires-2-clause-out g c =
    let y : Workspace = work_of g.D.Disk.files c.args.evaluation.now c.term_windows.new.store in
    let b = c.args.at.now in
    let w = c.term_windows.new.windows in
    let is = c.in_ok-term_windows.ensures.read.prepared in
    let same = c.begin.ensures.numbers ∙ ap (λ (fs : List ℕ). λ i. if among c.args.at.now.loops.now i then assignment c.args.at.now.loops.now fs i else slice_index c.args.first.now.numbers i) c.as_slice.ensures.value ∙ begun_first c.args.at.now.loops.now (around b.run) (slice_index c.args.first.now.numbers) (block_part b) c.requires.others in
    let at = ready y b (slice_index c.begin.new.self.numbers) w c.requires.block is same c.in_ok-term_windows.ensures.windows in
    let scaled = scaled_ready y b w c.scale_places.new.words c.requires.block is c.len-read.ensures.words at c.scale_places.ensures.made in
    let added = added_ready y b w c.scale_places.new.words c.add_term.new.words c.requires.block scaled c.len-scaled.ensures.words c.add_term.ensures.made in
    outer_within (with_words y c.add_term.new.words) b w.out c.requires.block added.prepared added.at.outer

pub returns-clause-changed : goal.returns-clause-changed
returns-clause-changed g c =
    let x : Workspace = work_of g.D.Disk.files c.args.evaluation.now c.args.store.now in
    let y : Workspace = work_of g.D.Disk.files c.args.evaluation.now c.term_windows.new.store in
    let b = c.args.at.now in
    let w = c.term_windows.new.windows in
    let is = c.in_ok-term_windows.ensures.read.prepared in
    let same = c.begin.ensures.numbers ∙ ap (λ (fs : List ℕ). λ i. if among c.args.at.now.loops.now i then assignment c.args.at.now.loops.now fs i else slice_index c.args.first.now.numbers i) c.as_slice.ensures.value ∙ begun_first c.args.at.now.loops.now (around b.run) (slice_index c.args.first.now.numbers) (block_part b) c.requires.others in
    let at = ready y b (slice_index c.begin.new.self.numbers) w c.requires.block is same c.in_ok-term_windows.ensures.windows in
    (block_runs x y b w c.scale_places.new.words c.add_term.new.words c.scale_places-2.new.words c.requires.block c.requires.prepared c.in_ok-term_windows.ensures.upheld.kept c.in_ok-term_windows.ensures.read at
    c.len-read.ensures.words c.len-scaled.ensures.words c.len-added.ensures.words c.scale_places.ensures.made c.add_term.ensures.made c.scale_places-2.ensures.made).changed

pub returns-clause-upheld : goal.returns-clause-upheld
returns-clause-upheld g c = record {
  kept =
      let x : Workspace = work_of g.D.Disk.files c.args.evaluation.now c.args.store.now in
      let y : Workspace = work_of g.D.Disk.files c.args.evaluation.now c.term_windows.new.store in
      let b = c.args.at.now in
      let w = c.term_windows.new.windows in
      let is = c.in_ok-term_windows.ensures.read.prepared in
      let same = c.begin.ensures.numbers ∙ ap (λ (fs : List ℕ). λ i. if among c.args.at.now.loops.now i then assignment c.args.at.now.loops.now fs i else slice_index c.args.first.now.numbers i) c.as_slice.ensures.value ∙ begun_first c.args.at.now.loops.now (around b.run) (slice_index c.args.first.now.numbers) (block_part b) c.requires.others in
      let at = ready y b (slice_index c.begin.new.self.numbers) w c.requires.block is same c.in_ok-term_windows.ensures.windows in
      (block_runs x y b w c.scale_places.new.words c.add_term.new.words c.scale_places-2.new.words c.requires.block c.requires.prepared c.in_ok-term_windows.ensures.upheld.kept c.in_ok-term_windows.ensures.read at
      c.len-read.ensures.words c.len-scaled.ensures.words c.len-added.ensures.words c.scale_places.ensures.made c.add_term.ensures.made c.scale_places-2.ensures.made).kept;
  same = c.in_ok-term_windows.ensures.upheld.same;
  fault_reported = c.in_ok-term_windows.ensures.upheld.fault_reported;
}

pub returns-clause-others : goal.returns-clause-others
returns-clause-others g c =
    outside_still c.args.at.now.loops.now (around c.args.at.now.run) (slice_index c.begin.new.self.numbers) (block_part c.args.at.now)
    (c.begin.ensures.numbers ∙ ap (λ (fs : List ℕ). λ i. if among c.args.at.now.loops.now i then assignment c.args.at.now.loops.now fs i else slice_index c.args.first.now.numbers i) c.as_slice.ensures.value ∙ begun_first c.args.at.now.loops.now (around c.args.at.now.run) (slice_index c.args.first.now.numbers) (block_part c.args.at.now) c.requires.others)

pub returns-clause-position : goal.returns-clause-position
returns-clause-position g c = c.begin.ensures.position

pub returns-in_err-term_windows-clause-changed : goal.returns-in_err-term_windows-clause-changed
returns-in_err-term_windows-clause-changed g c = none_given _ _ c.from_residual.result c.from_residual.ensures.1

pub returns-in_err-term_windows-clause-nest : goal.returns-in_err-term_windows-clause-nest
returns-in_err-term_windows-clause-nest g c = none_given _ _ c.from_residual.result c.from_residual.ensures.1

pub returns-in_err-term_windows-clause-upheld : goal.returns-in_err-term_windows-clause-upheld
returns-in_err-term_windows-clause-upheld g c = record {
  kept = c.in_err-term_windows.ensures.upheld.kept;
  same = c.in_err-term_windows.ensures.upheld.same;
  fault_reported = record {
    cause = cause_of _ _ c.in_err-term_windows.ensures.upheld.fault_reported.cause;
    quiet = told_of _ _ _ c.from_residual.result c.from_residual.ensures.1;
  };
}

pub returns-in_err-term_windows-clause-position : goal.returns-in_err-term_windows-clause-position
returns-in_err-term_windows-clause-position g c = c.begin.ensures.position

pub returns-in_err-term_windows-clause-others : goal.returns-in_err-term_windows-clause-others
returns-in_err-term_windows-clause-others g c =
    outside_still c.args.at.now.loops.now (around c.args.at.now.run) (slice_index c.begin.new.self.numbers) (block_part c.args.at.now)
    (c.begin.ensures.numbers ∙ ap (λ (fs : List ℕ). λ i. if among c.args.at.now.loops.now i then assignment c.args.at.now.loops.now fs i else slice_index c.args.first.now.numbers i) c.as_slice.ensures.value ∙ begun_first c.args.at.now.loops.now (around c.args.at.now.run) (slice_index c.args.first.now.numbers) (block_part c.args.at.now) c.requires.others)
