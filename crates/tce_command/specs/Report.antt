-- The exit status of each status, and the line of each refusal.
use Rattle.std.specs.Prelude.{⊤, ℕ, Bool, true, false, if◌then◌else◌, nat_lt, List, [], ◌∷◌, ◌++◌, codes, ◌≡◌, Option, MatchOption}
use Rattle.std.specs.Fmt.{decimal}
use Rattle.std.specs.List.{All}
use Rattle.tce_space.specs.Space.{IndexSpace, IsDeclared}
use Rattle.tce_report.specs.NodeLine.{set_text}
use Rattle.tce_cert.specs.Lines.{classes_text}
use Rattle.tce_cert.specs.declared.fault.CertFault.{CertFault}
use Rattle.tce_cert.specs.declared.fault.CertFault.TheVariants as certs
use Rattle.tce_check.specs.declared.verdict.Verdict.{Verdict}
use Rattle.tce_check.specs.declared.verdict.Verdict.TheVariants as verdicts
use Rattle.tce_tree.specs.declared.fault.TreeFault.{TreeFault}
use Rattle.tce_tree.specs.declared.fault.TreeFault.TheVariants as trees
use Rattle.tce_spec.specs.declared.fault.Limit.{Limit}
use Rattle.tce_spec.specs.declared.fault.Limit.TheVariants.{Ranges, Indexes, Tensors, Rank, TileWords, ArrayWords}
use Rattle.tce_spec.specs.declared.fault.SpecFault.{SpecFault}
use Rattle.tce_spec.specs.declared.fault.SpecFault.TheVariants.{TooLong, BadText, TooManyNodes, NameTwice, UnknownName, BadNumber, LimitPassed, RankDiffers, RangeDiffers, IndexTwice, ResultIsOperand, Tree, ResultIndices, Memory}
use Rattle.tce_array.specs.declared.fault.ArrayFault.{ArrayFault}
use Rattle.tce_array.specs.declared.fault.ArrayFault.TheVariants as arrays
use Rattle.tce_command.specs.declared.status.Status.{Status}
use Rattle.tce_command.specs.declared.status.Status.TheVariants.{Done, BadWords, SpecRefused, NoFile, ArrayRefused, BudgetTooSmall, IntermediatesTooLarge, CertRefused, DiskFault, SinkFault, WantOfMemory, FlatRefused, UnknownTensor, DoesNotFit, EinsumRefused, SpillRefused, SymRefused}
use Rattle.tce_command.specs.declared.trouble.ArrayTrouble.{ArrayTrouble}
use Rattle.tce_command.specs.declared.trouble.ArrayTrouble.TheVariants as contents
use Rattle.tce_command.specs.declared.trouble.CertTrouble.{CertTrouble}
use Rattle.tce_command.specs.declared.trouble.CertTrouble.TheVariants as troubles
use Rattle.tce_command.specs.declared.trouble.CertFlaw.{CertFlaw}
use Rattle.tce_command.specs.declared.trouble.CertFlaw.TheVariants as flaws
use Rattle.tce_command.specs.declared.trouble.EinsumTrouble.{EinsumTrouble}
use Rattle.tce_command.specs.declared.trouble.EinsumTrouble.TheVariants as einsums
use Rattle.tce_command.specs.declared.trouble.SpillTrouble.{SpillTrouble}
use Rattle.tce_command.specs.declared.trouble.SpillTrouble.TheVariants as spills
use Rattle.tce_command.specs.declared.trouble.SymTrouble.{SymTrouble}
use Rattle.tce_command.specs.declared.trouble.SymTrouble.TheVariants as pairs
use Rattle.tce_command.specs.declared.refusal.Refusal.{Refusal}
use Rattle.tce_command.specs.declared.refusal.Refusal.TheVariants as refusals
use Rattle.tce_command.specs.declared.command_refusal.CommandRefusal.{CommandRefusal}
use Rattle.tce_command.specs.declared.command_refusal.CommandRefusal.TheVariants as commands

-- the exit status of the process
abbrev pub code_of : Status → ℕ
code_of Done = 0
code_of BadWords = 1
code_of (SpecRefused fault) = 2
code_of (NoFile name) = 3
code_of (ArrayRefused tensor fault) = 4
code_of (BudgetTooSmall least) = 5
code_of (IntermediatesTooLarge memory) = 6
code_of (CertRefused trouble) = 7
code_of DiskFault = 8
code_of SinkFault = 9
code_of WantOfMemory = 10
code_of (FlatRefused len) = 11
code_of (UnknownTensor name) = 12
code_of (DoesNotFit place) = 13
code_of (EinsumRefused trouble) = 14
code_of (SpillRefused trouble) = 15
code_of (SymRefused trouble) = 16

-- the line of the specification at which the fault stands
abbrev pub at_line : ℕ → List ℕ
at_line line = codes "line " ++ decimal line ++ codes ": "

abbrev pub place_text : SpecFault → List ℕ
place_text TooLong = []
place_text (BadText line) = at_line line
place_text (TooManyNodes line) = at_line line
place_text (NameTwice line name) = at_line line
place_text (UnknownName line name) = at_line line
place_text (BadNumber line) = at_line line
place_text (LimitPassed line limit) = at_line line
place_text (RankDiffers line name) = at_line line
place_text (RangeDiffers line name) = at_line line
place_text (IndexTwice line name) = at_line line
place_text (ResultIsOperand line name) = at_line line
place_text (Tree line fault) = at_line line
place_text (ResultIndices line) = at_line line
place_text Memory = []

-- what is wrong there
abbrev pub limit_text : Limit → List ℕ
limit_text Ranges = codes "ranges"
limit_text Indexes = codes "indexes"
limit_text Tensors = codes "tensors"
limit_text Rank = codes "rank"
limit_text TileWords = codes "tile words"
limit_text ArrayWords = codes "array words"

abbrev pub tree_text : TreeFault → List ℕ
tree_text trees.NoOperation = codes "no operation"
tree_text (trees.SumOverAbsent name) = codes "sum over absent " ++ name.bytes ++ []
tree_text (trees.TooManyLoops node) = codes "node " ++ decimal node ++ codes " has more than 10 loops"
tree_text (trees.VolumeTooLarge node) = codes "node " ++ decimal node ++ codes " has too many iterations"
tree_text trees.Memory = []

abbrev pub fault_text : SpecFault → List ℕ
fault_text TooLong = codes "too long"
fault_text (BadText line) = codes "bad text"
fault_text (TooManyNodes line) = codes "more than 32 operations"
fault_text (NameTwice line name) = [] ++ name.bytes ++ codes " declared twice"
fault_text (UnknownName line name) = codes "unknown name " ++ name.bytes ++ []
fault_text (BadNumber line) = codes "bad number"
fault_text (LimitPassed line limit) = codes "limit of " ++ limit_text limit ++ codes " passed"
fault_text (RankDiffers line name) = codes "rank of " ++ name.bytes ++ codes " differs"
fault_text (RangeDiffers line name) = codes "range of " ++ name.bytes ++ codes " differs"
fault_text (IndexTwice line name) = codes "index " ++ name.bytes ++ codes " twice"
fault_text (ResultIsOperand line name) = [] ++ name.bytes ++ codes " is result and operand"
fault_text (Tree line fault) = tree_text fault
fault_text (ResultIndices line) = codes "result indexes differ"
fault_text Memory = []

-- what is wrong with the file of an array
abbrev pub array_text : ArrayFault → List ℕ
array_text arrays.NoFile = []
array_text (arrays.BadLength len) = codes "length " ++ decimal len ++ []
array_text (arrays.BadHeader place) = codes "head byte " ++ decimal place ++ []
array_text arrays.Disk = []

-- what is wrong with an einsum; a label is a letter, and no other byte is told
abbrev pub label_text : ℕ → List ℕ
label_text label = codes "size of " ++ (if nat_lt label 128 then label ∷ [] else [])

abbrev pub einsum_text : EinsumTrouble → List ℕ
einsum_text einsums.BadText = codes "bad text"
einsum_text (einsums.BadSize label) = label_text label
einsum_text (einsums.BadPath item) = codes "path item " ++ decimal item ++ []
einsum_text (einsums.Spec fault) = place_text fault ++ fault_text fault

-- why a tree is not cut for a limit: too many tensors, or a piece, by its root, that takes more elements
abbrev pub spill_text : SpillTrouble → List ℕ
spill_text spills.TooManyTensors = codes "32 tensors"
spill_text (spills.LimitTooSmall root least) = codes "piece " ++ decimal root ++ codes " needs " ++ decimal least

-- what is wrong with a file of elements that are stored once for each pair, and the line that names its tensor
abbrev pub sym_text : SymTrouble → List ℕ
sym_text (pairs.BadLength len) = codes "length " ++ decimal len ++ []
sym_text (pairs.BadHeader place) = codes "head byte " ++ decimal place ++ []

abbrev pub sym_line : List ℕ → SymTrouble → List ℕ
sym_line tensor trouble = codes "error 16: " ++ tensor ++ codes ".sym: " ++ sym_text trouble ++ codes "\n"

-- what the status alone says: the line of a refusal, but for that of a certificate; and of a file of stored pairs what is wrong with it
abbrev pub error_text : Status → List ℕ
error_text Done = []
error_text BadWords = codes "error 1: bad words\n"
error_text (SpecRefused fault) = codes "error 2: " ++ place_text fault ++ fault_text fault ++ codes "\n"
error_text (NoFile name) = codes "error 3: no file " ++ name.bytes ++ codes "\n"
error_text (ArrayRefused tensor fault) = codes "error 4: " ++ tensor.bytes ++ codes ".tca: " ++ array_text fault ++ codes "\n"
error_text (BudgetTooSmall least) = codes "error 5: budget needs " ++ decimal least ++ codes "\n"
error_text (IntermediatesTooLarge memory) = codes "error 6: intermediates " ++ decimal memory ++ codes "\n"
error_text (CertRefused trouble) = []
error_text DiskFault = codes "error 8: disk fault\n"
error_text SinkFault = []
error_text WantOfMemory = codes "error 10: want of memory\n"
error_text (FlatRefused len) = codes "error 11: flat length " ++ decimal len ++ codes "\n"
error_text (UnknownTensor name) = codes "error 12: no tensor " ++ name.bytes ++ codes "\n"
error_text (DoesNotFit place) = codes "error 13: element " ++ decimal place ++ codes " does not fit\n"
error_text (EinsumRefused trouble) = codes "error 14: " ++ einsum_text trouble ++ codes "\n"
error_text (SpillRefused trouble) = codes "error 15: " ++ spill_text trouble ++ codes "\n"
error_text (SymRefused trouble) = sym_text trouble

-- what is wrong with the text of a certificate; want of memory has a line of its own
abbrev pub cert_text : CertFault → List ℕ
cert_text (certs.BadText line) = codes "line " ++ decimal line ++ codes ": bad text"
cert_text (certs.WrongTree line) = codes "line " ++ decimal line ++ codes ": does not fit the tree"
cert_text certs.Memory = []

-- a step for which no row stands: its node, the fused set, and the state to which it leads
abbrev pub step_text : IndexSpace → ℕ → ℕ → List ℕ → ℕ → List ℕ
step_text space v fused classes cost =
    codes "node " ++ decimal v ++ codes ": fused " ++ set_text space fused ++ codes " classes " ++ classes_text space classes ++ codes " cost " ++ decimal cost ++ codes " not covered"

-- which rule a plan breaks, and where; an accepted one breaks none
abbrev pub verdict_text : IndexSpace → Verdict → List ℕ
verdict_text space verdicts.Accepted = []
verdict_text space (verdicts.NotLegal v) = codes "node " ++ decimal v ++ codes ": fusion not legal"
verdict_text space (verdicts.OrderWrong v) = codes "node " ++ decimal v ++ codes ": loop order"
verdict_text space (verdicts.SizeWrong v size) = codes "node " ++ decimal v ++ codes ": size " ++ decimal size
verdict_text space (verdicts.TotalWrong total) = codes "memory " ++ decimal total ++ []
verdict_text space (verdicts.NotCovered v fused classes cost) = step_text space v fused classes cost
verdict_text space (verdicts.BelowTotal sum) = codes "below total " ++ decimal sum ++ []

-- what is wrong with a certificate
abbrev pub trouble_text : IndexSpace → CertTrouble → List ℕ
trouble_text space (troubles.Text fault) = cert_text fault
trouble_text space (troubles.Verdict verdict) = verdict_text space verdict

-- the indexes that are named are declared
abbrev pub NamesDeclared : IndexSpace → CertTrouble → Type 0
NamesDeclared space (troubles.Verdict (verdicts.NotCovered v fused classes cost)) = IsDeclared space fused × All (IsDeclared space) classes
NamesDeclared space trouble = ⊤

-- the line of a refused certificate, which names indexes by this space
abbrev pub cert_line : IndexSpace → CertTrouble → List ℕ
cert_line space trouble = codes "error 7: " ++ trouble_text space trouble ++ codes "\n"

-- what a line names beside what its status holds: indexes by the space of the specification, and the tensor of the words
pub record LineNames : Type 0 where
  pub space : IndexSpace
  pub tensor : List ℕ

-- the line of each status
abbrev pub line_over : LineNames → Status → List ℕ
line_over names (CertRefused trouble) = cert_line names.space trouble
line_over names (SymRefused trouble) = sym_line names.tensor trouble
line_over names status = error_text status

-- the line of the status names no index
abbrev pub NamesNoIndex : Status → Type 0
NamesNoIndex (CertRefused trouble) = ⊥
NamesNoIndex status = ⊤

-- the line names nothing beside what the status holds
abbrev pub NamesNothing : Status → Type 0
NamesNothing (CertRefused trouble) = ⊥
NamesNothing (SymRefused trouble) = ⊥
NamesNothing status = ⊤

-- a fault of a text: no want of memory
abbrev pub IsOfTree : TreeFault → Type 0
IsOfTree trees.Memory = ⊥
IsOfTree fault = ⊤

abbrev pub IsOfText : SpecFault → Type 0
IsOfText Memory = ⊥
IsOfText (Tree line fault) = IsOfTree fault
IsOfText fault = ⊤

abbrev pub IsOfEinsum : EinsumTrouble → Type 0
IsOfEinsum (einsums.Spec fault) = IsOfText fault
IsOfEinsum trouble = ⊤

-- a fault of a file that is there: its length or its head is wrong
abbrev pub IsOfContents : ArrayFault → Type 0
IsOfContents (arrays.BadLength len) = ⊤
IsOfContents (arrays.BadHeader place) = ⊤
IsOfContents fault = ⊥

-- something is wrong with the certificate: neither is memory wanting, nor is its plan accepted
abbrev pub IsWrong : CertTrouble → Type 0
IsWrong (troubles.Text certs.Memory) = ⊥
IsWrong (troubles.Verdict verdicts.Accepted) = ⊥
IsWrong trouble = ⊤

-- the status holds no fault that is told by another one
abbrev pub IsWellFormed : Status → Type 0
IsWellFormed (SpecRefused fault) = IsOfText fault
IsWellFormed (ArrayRefused tensor fault) = IsOfContents fault
IsWellFormed (CertRefused trouble) = IsWrong trouble
IsWellFormed (EinsumRefused trouble) = IsOfEinsum trouble
IsWellFormed status = ⊤

-- whether a fault is want of memory
abbrev pub wants_memory : SpecFault → Bool
wants_memory Memory = true
wants_memory (Tree line trees.Memory) = true
wants_memory fault = false

-- the fault of an array with this trouble
abbrev pub fault_of : ArrayTrouble → ArrayFault
fault_of (contents.BadLength len) = arrays.BadLength len
fault_of (contents.BadHeader place) = arrays.BadHeader place

-- what a status says of a certificate with this flaw
abbrev pub trouble_of : CertFlaw → CertTrouble
trouble_of (flaws.BadText line) = troubles.Text (certs.BadText line)
trouble_of (flaws.WrongTree line) = troubles.Text (certs.WrongTree line)
trouble_of (flaws.NotLegal v) = troubles.Verdict (verdicts.NotLegal v)
trouble_of (flaws.OrderWrong v) = troubles.Verdict (verdicts.OrderWrong v)
trouble_of (flaws.SizeWrong v size) = troubles.Verdict (verdicts.SizeWrong v size)
trouble_of (flaws.TotalWrong total) = troubles.Verdict (verdicts.TotalWrong total)
trouble_of (flaws.NotCovered v fused classes cost) = troubles.Verdict (verdicts.NotCovered v fused classes cost)
trouble_of (flaws.BelowTotal sum) = troubles.Verdict (verdicts.BelowTotal sum)

-- the status of a command that is refused so
abbrev pub einsum_status : EinsumTrouble → Status
einsum_status (einsums.Spec fault) = if wants_memory fault then WantOfMemory else EinsumRefused (einsums.Spec fault)
einsum_status trouble = EinsumRefused trouble

abbrev pub status_of : Refusal → Status
status_of (refusals.Specification fault) = if wants_memory fault then WantOfMemory else SpecRefused fault
status_of (refusals.Missing name) = NoFile name
status_of (refusals.Array tensor trouble) = ArrayRefused tensor (fault_of trouble)
status_of (refusals.Budget least) = BudgetTooSmall least
status_of (refusals.Intermediates memory) = IntermediatesTooLarge memory
status_of (refusals.Flat len) = FlatRefused len
status_of (refusals.Tensor name) = UnknownTensor name
status_of (refusals.Misfit place) = DoesNotFit place
status_of (refusals.Einsum trouble) = einsum_status trouble
status_of (refusals.Spill trouble) = SpillRefused trouble
status_of (refusals.Symmetry tensor trouble) = SymRefused trouble
status_of refusals.Disk = DiskFault
status_of refusals.Memory = WantOfMemory

-- the line of a refusal; its status leaves out the tensor that is stored in pairs
abbrev pub refusal_line : Refusal → List ℕ
refusal_line (refusals.Symmetry tensor trouble) = sym_line tensor.bytes trouble
refusal_line refusal = error_text (status_of refusal)

abbrev pub ending_of : CommandRefusal → Status
ending_of (commands.Common refusal) = status_of refusal
ending_of (commands.Certificate flaw line) = CertRefused (trouble_of flaw)

-- what is wrong with the text of a certificate, or with its plan; nothing where only memory is wanting, or the plan is accepted
abbrev pub IsFlawOfText : CertFault → Option CertFlaw → Type 0
IsFlawOfText fault found = MatchOption found (fault ≡ certs.Memory) (λ flaw. trouble_of flaw ≡ troubles.Text fault)

abbrev pub IsFlawOfPlan : Verdict → Option CertFlaw → Type 0
IsFlawOfPlan verdict found = MatchOption found (verdict ≡ verdicts.Accepted) (λ flaw. trouble_of flaw ≡ troubles.Verdict verdict)

-- the text of a flaw
abbrev pub flaw_text : IndexSpace → CertFlaw → List ℕ
flaw_text space flaw = trouble_text space (trouble_of flaw)
