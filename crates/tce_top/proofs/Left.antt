-- What commands leave, by how they end.
use Rattle.std.proofs.Common.{◌≡◌, refl, sym, ap, subst, ◌∙◌, ◌⊎◌, inl, inr, ℕ, List, [], ◌++◌, Option, Some}
use Rattle.std.specs.Option.{ForSome, IsSomeAnd, option_map}
use Rattle.tce_outside.specs.Files.{Files, holding, with_file}
use Rattle.tce_outside.specs.Fault.{Rose}
use Rattle.tce_outside.proofs.Files.{file-with_file}
use Rattle.tce_space.specs.Space.{IndexSpace}
use Rattle.tce_spec.specs.Canonical.{canonical_of}
use Rattle.tce_command.specs.Source.{Specifies}
use Rattle.tce_command.specs.Command.{Command, run, batch, spill, plan, cert, check, pack, unpack, convert, expand, einsum, demo, IsCommand}
use Rattle.tce_command.specs.Report.{LineNames, NamesNoIndex, NamesNothing, cert_line, ending_of, line_over, trouble_of}
use Rattle.tce_command.specs.CommandRefusals.{HasNames, MayReplace}
use Rattle.tce_command.proofs.Statuses.{is_plain, over}
use Rattle.tce_command.specs.Outcome.{Grew, GrewWithin, HasErrorLine, IsFault, IsRefusal, IsReported}
use Rattle.tce_command.specs.declared.trouble.CertTrouble.{CertTrouble}
use Rattle.tce_command.specs.declared.trouble.CertFlaw.{CertFlaw}
use Rattle.tce_command.specs.declared.trouble.SymTrouble.{SymTrouble}
use Rattle.tce_command.specs.declared.trouble_line.TroubleLine.{TroubleLine}
use Rattle.arrayvec.specs.ArrayString.{ArrayString}
use Rattle.tce_command.specs.declared.refusal.Refusal.TheVariants.{Specification, Missing, Array, Budget, Intermediates, Flat, Tensor, Misfit, Einsum, Spill, Symmetry, Disk, Memory}
use Rattle.tce_command.specs.declared.command_refusal.CommandRefusal.{CommandRefusal}
use Rattle.tce_command.specs.declared.command_refusal.CommandRefusal.TheVariants.{Common, Certificate}
use Rattle.tce_command.specs.declared.status.Status.{Status}
use Rattle.tce_command.specs.declared.status.Status.TheVariants.{Done, BadWords, SpecRefused, NoFile, ArrayRefused, BudgetTooSmall, IntermediatesTooLarge, CertRefused, DiskFault, SinkFault, WantOfMemory, FlatRefused, UnknownTensor, DoesNotFit, EinsumRefused, SpillRefused, SymRefused}
use Rattle.tce_top.specs.Performed.{HasIndexes, IsDone, KeepsRoom, LeavesCutOff, LeavesInTurn, MayLeaveOther, MayRefuse, NamesItsIndexes}
use Rattle.tce_command.proofs.Commands.{one_command}
use Rattle.tce_top.specs.Outcome.{AreNamed, IsDemonstration, IsPartOfBatch, IsPartOfSpill, IsTensorOf, IsWholeBatch, IsWholeEinsum, IsWholeRun, IsWholeSpill}
use Rattle.tce_job.specs.Several.{files_after}
use Rattle.tce_tree.specs.ContractionTree.{operations}
use Rattle.tce_spill.specs.PieceRuns.{pieces_below}
use Rattle.tce_top.proofs.Joined.{Kept, free_fault}
use Rattle.tce_top.proofs.Expansions.{words_tensor}

-- Files and takings.

-- a status that is a fault is no refusal
no_refusal : (status : Status) → IsFault status → IsRefusal status → ⊥
no_refusal Done f r = f
no_refusal DiskFault f r = r
no_refusal SinkFault f r = r
no_refusal WantOfMemory f r = r
no_refusal BadWords f r = f
no_refusal (SpecRefused x) f r = f
no_refusal (NoFile x) f r = f
no_refusal (ArrayRefused x y) f r = f
no_refusal (BudgetTooSmall x) f r = f
no_refusal (IntermediatesTooLarge x) f r = f
no_refusal (CertRefused x) f r = f
no_refusal (FlatRefused x) f r = f
no_refusal (UnknownTensor x) f r = f
no_refusal (DoesNotFit x) f r = f
no_refusal (EinsumRefused x) f r = f
no_refusal (SpillRefused x) f r = f
no_refusal (SymRefused x) f r = f

-- a refusal that may come in the place of others does not end with a refusal's status
pub not_free : (r : CommandRefusal) (status : Status) → Kept r status → IsRefusal status → MayReplace r → ⊥
not_free r status (inl kept) refused free = no_refusal (ending_of r) (free_fault r free) (subst IsRefusal kept refused)
not_free r status (inr memory) refused free = no_refusal WantOfMemory tt (subst IsRefusal memory.0 refused)

-- what may leave other files is a failing disk, or want of memory
leaves : (command : Command) (r : CommandRefusal) → MayLeaveOther command r → MayReplace r
leaves (run spec budget) r e = subst MayReplace (sym e) tt
leaves (batch spec budget) r free = free
leaves (spill spec budget limit) r free = free
leaves (plan spec) r e = subst MayReplace (sym e) tt
leaves (cert spec file) r e = subst MayReplace (sym e) tt
leaves (check spec file) r e = subst MayReplace (sym e) tt
leaves (pack spec tensor flat) r e = subst MayReplace (sym e) tt
leaves (unpack spec tensor flat) r e = subst MayReplace (sym e) tt
leaves (convert spec tensor form) r e = subst MayReplace (sym e) tt
leaves (expand spec tensor) r e = subst MayReplace (sym e) tt
leaves (einsum text path spec) r e = subst MayReplace (sym e) tt
leaves (demo seed v o) r free = free

pub unchanged : (command : Command) (r : CommandRefusal) (status : Status) (A : Type 0) → Kept r status → IsRefusal status → MayLeaveOther command r ⊎ A → A
unchanged command r status A kept refused (inl other) = absurd (not_free r status kept refused (leaves command r other))
unchanged command r status A kept refused (inr same) = same

pub untaken : (r : CommandRefusal) (status : Status) (A : Type 0) → Kept r status → IsRefusal status → MayReplace r ⊎ A → A
untaken r status A kept refused (inl free) = absurd (not_free r status kept refused free)
untaken r status A kept refused (inr same) = same

-- a refusal that ends with want of memory is no failure of the disk
no_disk : (r : CommandRefusal) (status : Status) → Kept r status → status ≡ WantOfMemory → r ≡ Common Disk → ⊥
no_disk r status (inl kept) memory disk = let e : WantOfMemory ≡ DiskFault = sym memory ∙ kept ∙ ap ending_of disk in absurd (cc)
no_disk r status (inr other) memory disk = other.1 (ap ending_of disk)

-- a refusal for a failing disk ends with its status, whatever the sink does
disk_told : (r : CommandRefusal) (status : Status) → Kept r status → r ≡ Common Disk → status ≡ DiskFault
disk_told r status (inl kept) failed = kept ∙ ap ending_of failed
disk_told r status (inr memory) failed = absurd (memory.1 (ap ending_of failed))

pub no_failure : (r : CommandRefusal) (status : Status) → Kept r status → (status ≡ DiskFault → ⊥) → r ≡ Common Disk → ⊥
no_failure r status kept none failed = none (disk_told r status kept failed)

-- several formulas without memory: the first of them are run, or no file changed
batch_memory : (words : List (List ℕ)) (spec : List ℕ) (budget : ℕ) (r : CommandRefusal) (status : Status) (before after : Option Files) → IsCommand words (batch spec budget) → Kept r status → status ≡ WantOfMemory
    → LeavesInTurn (batch spec budget) r before after → (after ≡ before) ⊎ IsPartOfBatch words before after
batch_memory words spec budget (Certificate trouble line) status before after is kept memory left = absurd left
batch_memory words spec budget (Common Disk) status before after is kept memory left = absurd (no_disk (Common Disk) status kept memory refl)
batch_memory words spec budget (Common Memory) status before after is kept memory (inl same) = inl same
batch_memory words spec budget (Common Memory) status before after is kept memory (inr first) = inr (spec, budget, is, first)
batch_memory words spec budget (Common r) status before after is kept memory left = inl left

-- and so of the pieces of a tree
spill_memory : (words : List (List ℕ)) (spec : List ℕ) (budget limit : ℕ) (r : CommandRefusal) (status : Status) (before after : Option Files) → IsCommand words (spill spec budget limit) → Kept r status
    → status ≡ WantOfMemory → LeavesInTurn (spill spec budget limit) r before after → (after ≡ before) ⊎ IsPartOfSpill words before after
spill_memory words spec budget limit (Certificate trouble line) status before after is kept memory left = absurd left
spill_memory words spec budget limit (Common Disk) status before after is kept memory left = absurd (no_disk (Common Disk) status kept memory refl)
spill_memory words spec budget limit (Common Memory) status before after is kept memory (inl same) = inl same
spill_memory words spec budget limit (Common Memory) status before after is kept memory (inr first) = inr (spec, budget, limit, is, first)
spill_memory words spec budget limit (Common r) status before after is kept memory left = inl left

or_first : (A B C : Type 0) → A ⊎ B → A ⊎ (B ⊎ C)
or_first A B C (inl a) = inl a
or_first A B C (inr b) = inr (inl b)

pub or_part : (A B C : Type 0) → A ⊎ C → A ⊎ (B ⊎ C)
or_part A B C (inl a) = inl a
or_part A B C (inr c) = inr (inr c)

pub without_memory : (words : List (List ℕ)) (command : Command) (r : CommandRefusal) (status : Status) (before after : Option Files) → IsCommand words command → Kept r status → status ≡ WantOfMemory
    → LeavesInTurn command r before after → MayLeaveOther command r ⊎ (after ≡ before)
    → (after ≡ before) ⊎ (IsDemonstration words ⊎ (IsPartOfBatch words before after ⊎ IsPartOfSpill words before after))
without_memory words command r status before after is kept memory left (inr same) = inl same
without_memory words (batch spec budget) r status before after is kept memory left (inl free) =
    or_part _ _ _ (or_first _ _ _ (batch_memory words spec budget r status before after is kept memory left))
without_memory words (spill spec budget limit) r status before after is kept memory left (inl free) =
    or_part _ _ _ (or_part _ _ _ (spill_memory words spec budget limit r status before after is kept memory left))
without_memory words (run spec budget) r status before after is kept memory left (inl disk) = absurd (no_disk r status kept memory disk)
without_memory words (plan spec) r status before after is kept memory left (inl disk) = absurd (no_disk r status kept memory disk)
without_memory words (cert spec file) r status before after is kept memory left (inl disk) = absurd (no_disk r status kept memory disk)
without_memory words (check spec file) r status before after is kept memory left (inl disk) = absurd (no_disk r status kept memory disk)
without_memory words (pack spec tensor flat) r status before after is kept memory left (inl disk) = absurd (no_disk r status kept memory disk)
without_memory words (unpack spec tensor flat) r status before after is kept memory left (inl disk) = absurd (no_disk r status kept memory disk)
without_memory words (convert spec tensor form) r status before after is kept memory left (inl disk) = absurd (no_disk r status kept memory disk)
without_memory words (expand spec tensor) r status before after is kept memory left (inl disk) = absurd (no_disk r status kept memory disk)
without_memory words (einsum text path spec) r status before after is kept memory left (inl disk) = absurd (no_disk r status kept memory disk)
without_memory words (demo seed v o) r status before after is kept memory left (inl free) = inr (inl (seed, v, o, is))

-- a refusal for want of memory does not end as a failure of the disk
no_memory_cut : (status : Status) (A : Type 0) → Kept (Common Memory) status → status ≡ DiskFault → A
no_memory_cut status A (inl kept) failed = let e : WantOfMemory ≡ DiskFault = sym kept ∙ failed in absurd (cc)
no_memory_cut status A (inr memory) failed = let e : WantOfMemory ≡ DiskFault = sym memory.0 ∙ failed in absurd (cc)

batch_cut : (spec : List ℕ) (budget : ℕ) (r : CommandRefusal) (status : Status) (before after : Option Files) → Kept r status → status ≡ DiskFault → LeavesInTurn (batch spec budget) r before after
    → LeavesCutOff (batch spec budget) before after
batch_cut spec budget (Certificate trouble line) status before after kept failed left = absurd left
batch_cut spec budget (Common Disk) status before after kept failed left = left
batch_cut spec budget (Common Memory) status before after kept failed left = no_memory_cut status _ kept failed
batch_cut spec budget (Common r) status before after kept failed left = inl left

spill_cut : (spec : List ℕ) (budget limit : ℕ) (r : CommandRefusal) (status : Status) (before after : Option Files) → Kept r status → status ≡ DiskFault → LeavesInTurn (spill spec budget limit) r before after
    → LeavesCutOff (spill spec budget limit) before after
spill_cut spec budget limit (Certificate trouble line) status before after kept failed left = absurd left
spill_cut spec budget limit (Common Disk) status before after kept failed left = left
spill_cut spec budget limit (Common Memory) status before after kept failed left = no_memory_cut status _ kept failed
spill_cut spec budget limit (Common r) status before after kept failed left = inl left

-- what several formulas or pieces leave where the disk fails
pub cut_off : (command : Command) (r : CommandRefusal) (status : Status) (before after : Option Files) → Kept r status → status ≡ DiskFault → LeavesInTurn command r before after → LeavesCutOff command before after
cut_off (batch spec budget) r status before after kept failed left = batch_cut spec budget r status before after kept failed left
cut_off (spill spec budget limit) r status before after kept failed left = spill_cut spec budget limit r status before after kept failed left
cut_off command r status before after kept failed left = tt

-- a report that was put is no failure of the disk
pub not_cut_off : (status : Status) (A : Type 0) → IsReported status → status ≡ DiskFault → A
not_cut_off status A (inl done) failed = let e : Done ≡ DiskFault = sym done ∙ failed in absurd (cc)
not_cut_off status A (inr (inl cut)) failed = let e : SinkFault ≡ DiskFault = sym cut ∙ failed in absurd (cc)
not_cut_off status A (inr (inr memory)) failed = let e : WantOfMemory ≡ DiskFault = sym memory ∙ failed in absurd (cc)

-- takings that are as they were are kept
pub keeps_same : (command : Command) (told : Option Files) (taken taken_after : List (ℕ × ℕ)) → taken_after ≡ taken → KeepsRoom command told taken taken_after
keeps_same (batch spec budget) told taken taken_after same = λ files is. same
keeps_same (spill spec budget limit) told taken taken_after same = λ files is. same
keeps_same (run spec budget) told taken taken_after same = same
keeps_same (plan spec) told taken taken_after same = same
keeps_same (cert spec file) told taken taken_after same = same
keeps_same (check spec file) told taken taken_after same = same
keeps_same (pack spec tensor flat) told taken taken_after same = same
keeps_same (unpack spec tensor flat) told taken taken_after same = same
keeps_same (convert spec tensor form) told taken taken_after same = same
keeps_same (expand spec tensor) told taken taken_after same = same
keeps_same (einsum text path spec) told taken taken_after same = same
keeps_same (demo seed v o) told taken taken_after same = same

-- Lines.

-- a line that names nothing is the same whatever lines name
any_names : (a b : LineNames) (status : Status) (before after : Option (List ℕ)) (faults faults_after : ℕ) → NamesNothing status → HasErrorLine a status before after faults faults_after
    → HasErrorLine b status before after faults faults_after
any_names a b status before after faults faults_after nothing h =
    let e : line_over a status ≡ line_over b status = sym (over a status nothing) ∙ over b status nothing in
    record {
      part = subst (λ t. GrewWithin t before after) e h.part;
      whole = λ refused. subst (λ t. Grew t before after ⊎ Rose faults faults_after) e (h.whole refused);
    }

no_memory_names : (a b : LineNames) (status : Status) (before after : Option (List ℕ)) (faults faults_after : ℕ) → status ≡ WantOfMemory → HasErrorLine a status before after faults faults_after
    → HasErrorLine b status before after faults faults_after
no_memory_names a b status before after faults faults_after memory h = any_names a b status before after faults faults_after (subst NamesNothing (sym memory) tt) h

-- what is put for a refusal, by what its line names
abbrev PutFor : CommandRefusal → Status → Option (List ℕ) → Option (List ℕ) → ℕ → ℕ → Type 0
PutFor r status before after faults faults_after = (names : LineNames) → HasNames names r → HasErrorLine names status before after faults faults_after

pair_line : (words : List (List ℕ)) (command : Command) (tensor : ArrayString) (trouble : SymTrouble) (status : Status) (before after : Option (List ℕ)) (faults faults_after : ℕ) → IsCommand words command
    → MayRefuse command (Common (Symmetry tensor trouble)) → PutFor (Common (Symmetry tensor trouble)) status before after faults faults_after → Kept (Common (Symmetry tensor trouble)) status
    → (names : LineNames) → IsTensorOf words status names.tensor → HasErrorLine names status before after faults faults_after
pair_line words command tensor trouble status before after faults faults_after is may line (inl kept) names of =
    let due : IsTensorOf words (SymRefused trouble) names.tensor = subst (λ s. IsTensorOf words s names.tensor) kept of in
    line names (words_tensor words command names.tensor tensor trouble is may due)
pair_line words command tensor trouble status before after faults faults_after is may line (inr memory) names of =
    let put : LineNames = record { space = names.space; tensor = tensor.bytes } in
    no_memory_names put names status before after faults faults_after memory.0 (line put refl)

-- a certificate's refusal whose status names no index is want of memory
not_kept : (trouble : CertTrouble) (status : Status) (A : Type 0) → NamesNoIndex status → status ≡ CertRefused trouble → A
not_kept trouble status A plain kept = absurd (subst NamesNoIndex kept plain)

certificate_line : (space : IndexSpace) (flaw : CertFlaw) (text : TroubleLine) (status : Status) (before after : Option (List ℕ)) (faults faults_after : ℕ) → text.text.bytes ≡ cert_line space (trouble_of flaw)
    → PutFor (Certificate flaw text) status before after faults faults_after → NamesNoIndex status → Kept (Certificate flaw text) status → (names : LineNames)
    → HasErrorLine names status before after faults faults_after
certificate_line space flaw text status before after faults faults_after is line plain (inl kept) names = not_kept (trouble_of flaw) status _ plain kept
certificate_line space flaw text status before after faults faults_after is line plain (inr memory) names =
    let own : LineNames = record { space = space; tensor = [] } in
    no_memory_names own names status before after faults faults_after memory.0 (line own is)

pub plain_line : (words : List (List ℕ)) (command : Command) (told : Option Files) (r : CommandRefusal) (status : Status) (before after : Option (List ℕ)) (faults faults_after : ℕ)
    → IsCommand words command → MayRefuse command r → NamesItsIndexes command told r → PutFor r status before after faults faults_after → NamesNoIndex status → Kept r status
    → (names : LineNames) → IsTensorOf words status names.tensor → HasErrorLine names status before after faults faults_after
plain_line words command told (Certificate flaw text) status before after faults faults_after is may own line plain kept names of =
    certificate_line own.0 flaw text status before after faults faults_after own.2 line plain kept names
plain_line words command told (Common (Symmetry tensor trouble)) status before after faults faults_after is may own line plain kept names of =
    pair_line words command tensor trouble status before after faults faults_after is may line kept names of
plain_line words command told (Common (Specification fault)) status before after faults faults_after is may own line plain kept names of = line names tt
plain_line words command told (Common (Missing name)) status before after faults faults_after is may own line plain kept names of = line names tt
plain_line words command told (Common (Array name fault)) status before after faults faults_after is may own line plain kept names of = line names tt
plain_line words command told (Common (Budget n)) status before after faults faults_after is may own line plain kept names of = line names tt
plain_line words command told (Common (Intermediates n)) status before after faults faults_after is may own line plain kept names of = line names tt
plain_line words command told (Common (Flat n)) status before after faults faults_after is may own line plain kept names of = line names tt
plain_line words command told (Common (Tensor name)) status before after faults faults_after is may own line plain kept names of = line names tt
plain_line words command told (Common (Misfit n)) status before after faults faults_after is may own line plain kept names of = line names tt
plain_line words command told (Common (Spill trouble)) status before after faults faults_after is may own line plain kept names of = line names tt
plain_line words command told (Common (Einsum trouble)) status before after faults faults_after is may own line plain kept names of = line names tt
plain_line words command told (Common Disk) status before after faults faults_after is may own line plain kept names of = line names tt
plain_line words command told (Common Memory) status before after faults faults_after is may own line plain kept names of = line names tt

-- the line of a refused certificate
abbrev CertLine : Command → Option Files → Status → Option (List ℕ) → Option (List ℕ) → ℕ → ℕ → Type 0
CertLine command told status before after faults faults_after =
    (names : LineNames) × ForSome told (λ files. HasIndexes files command names.space) × HasErrorLine names status before after faults faults_after

no_cert : (r : CommandRefusal) (trouble : CertTrouble) → NamesNoIndex (ending_of r) → ending_of r ≡ CertRefused trouble → ⊥
no_cert r trouble plain e = subst NamesNoIndex e plain

kept_cert : (r : CommandRefusal) (status : Status) (trouble : CertTrouble) → Kept r status → status ≡ CertRefused trouble → ending_of r ≡ CertRefused trouble
kept_cert r status trouble (inl kept) e = sym kept ∙ e
kept_cert r status trouble (inr memory) e = let f : WantOfMemory ≡ CertRefused trouble = sym memory.0 ∙ e in absurd (cc)

pub cert_lines : (command : Command) (told : Option Files) (r : CommandRefusal) (status : Status) (trouble : CertTrouble) (before after : Option (List ℕ)) (faults faults_after : ℕ) → NamesItsIndexes command told r
    → PutFor r status before after faults faults_after → Kept r status → status ≡ CertRefused trouble → CertLine command told status before after faults faults_after
cert_lines command told (Common r) status trouble before after faults faults_after own line kept e =
    absurd (no_cert (Common r) trouble (is_plain r).plain (kept_cert (Common r) status trouble kept e))
cert_lines command told (Certificate held text) status trouble before after faults faults_after own line kept e =
    let names : LineNames = record { space = own.0; tensor = [] } in
    (names, own.1, line names own.2)

pub named_line : (words : List (List ℕ)) (command : Command) (told : Option Files) (status : Status) (before after : Option (List ℕ)) (faults faults_after : ℕ) → IsCommand words command
    → CertLine command told status before after faults faults_after → (names : LineNames) × AreNamed words told names.space × HasErrorLine names status before after faults faults_after
named_line words command told status before after faults faults_after is line =
    (line.0, (λ other words_are files tells. subst (λ k. HasIndexes files k line.0.space) (sym (one_command words command other is words_are)) (line.1 files tells)), line.2)

-- A run, whole.

pub whole_run : (spec : List ℕ) (budget : ℕ) (files : Files) (put : List ℕ) (before after : Option Files) (taken taken_after : List (ℕ × ℕ)) (report : List ℕ) (out out_after : Option (List ℕ))
    → IsDone (run spec budget) before after taken taken_after report → Grew report out out_after → before ≡ Some files → out ≡ Some put
    → (left : Files) × (put_after : List ℕ) × (after ≡ Some left) × (out_after ≡ Some put_after) × IsWholeRun spec budget files left taken taken_after put put_after
whole_run spec budget files put before after taken taken_after report out out_after done grew told sink = (
  _,
  put ++ report,
  done.written ∙ ap (option_map _) told,
  grew ∙ ap (option_map (λ bytes. bytes ++ report)) sink,
  record {
    specification = done.specification;
    specified = done.specified files told;
    written = refl;
    plan = done.plan;
    least = done.least;
    reported = ap (λ text. put ++ text) done.reported;
    taken_is = done.taking;
    within = done.within;
  },
)

-- Several formulas, whole.

pub whole_batch : (spec : List ℕ) (budget : ℕ) (files : Files) (put : List ℕ) (before after : Option Files) (taken taken_after : List (ℕ × ℕ)) (report : List ℕ) (out out_after : Option (List ℕ))
    → IsDone (batch spec budget) before after taken taken_after report → Grew report out out_after → before ≡ Some files → out ≡ Some put
    → (left : Files) × (put_after : List ℕ) × (after ≡ Some left) × (out_after ≡ Some put_after) × IsWholeBatch spec budget files left taken taken_after put put_after
whole_batch spec budget files put before after taken taken_after report out out_after done grew told sink = (
  _,
  put ++ report,
  done.written ∙ ap (option_map _) told,
  grew ∙ ap (option_map (λ bytes. bytes ++ report)) sink,
  record {
    formulas = done.formulas;
    specified = done.specified files told;
    written = refl;
    report = report;
    run_are = done.run;
    reported = refl;
    within = done.within;
  },
)

-- A tree in pieces, whole.

pub whole_spill : (spec : List ℕ) (budget limit : ℕ) (files : Files) (put : List ℕ) (before after : Option Files) (taken taken_after : List (ℕ × ℕ)) (report : List ℕ) (out out_after : Option (List ℕ))
    → IsDone (spill spec budget limit) before after taken taken_after report → Grew report out out_after → before ≡ Some files → out ≡ Some put
    → (left : Files) × (put_after : List ℕ) × (after ≡ Some left) × (out_after ≡ Some put_after) × IsWholeSpill spec budget limit files left taken taken_after put put_after
whole_spill spec budget limit files put before after taken taken_after report out out_after done grew told sink =
    let left : Files = files_after (pieces_below done.specification done.run.cut (operations done.specification.tree)) files in
    let at : after ≡ Some left = done.run.files ∙ ap (option_map _) told in (
      left,
      put ++ report,
      at,
      grew ∙ ap (option_map (λ bytes. bytes ++ report)) sink,
      record {
        specification = done.specification;
        specified = done.specified files told;
        cut = done.run.cut;
        are_cut = done.run.are_cut.cuts;
        values = done.run.values files told left at;
        report = report;
        run_are = done.run.reported;
        reported = refl;
        within = done.within;
      },
    )

-- An einsum, whole.

pub whole_einsum : (text path spec : List ℕ) (files : Files) (before after : Option Files) (taken taken_after : List (ℕ × ℕ)) (report : List ℕ) → IsDone (einsum text path spec) before after taken taken_after report
    → before ≡ Some files → (left : Files) × (after ≡ Some left) × IsWholeEinsum text path spec files left
whole_einsum text path spec files before after taken taken_after report done told =
    let written : List ℕ = canonical_of done.0.specification in (
      with_file files spec written,
      done.0.written ∙ ap (holding spec written) told,
      record {
        specification = done.0.specification;
        produced = done.0.produced;
        value = done.0.value;
        written = refl;
        specified = subst (λ o. IsSomeAnd o (λ bytes. Specifies bytes done.0.specification)) (sym (file-with_file files spec written)) done.0.specified;
      },
    )
