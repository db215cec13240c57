-- The command that the program has read.
use Rattle.tce_command.specs.Command as commands
use Rattle.tce_command.specs.declared.command.Command.{Command}
use Rattle.tce_command.specs.declared.command.Command.TheVariants.{Run, Batch, Spill, Plan, Cert, Check, Pack, Unpack, Convert, Expand, Einsum, Demo}
use Rattle.std.specs.Prelude.{◌≡◌, ◌≢◌, ℕ, List, map, Option, MatchOption}
use Rattle.std.specs.Fmt.{decimal}
use Rattle.std.specs.String.{string_bytes}
use Rattle.std.specs.declared.string.String.{String}
use Rattle.tce_array.specs.declared.form.Form.{Form}
use Rattle.tce_array.specs.declared.form.Form.TheVariants.{One}
use Rattle.tce_array.specs.Forms.{width}

abbrev pub command_of : Command → commands.Command
command_of (Run spec budget) = commands.run spec.now budget
command_of (Batch spec budget) = commands.batch spec.now budget
command_of (Spill spec budget limit) = commands.spill spec.now budget limit
command_of (Plan spec) = commands.plan spec.now
command_of (Cert spec cert) = commands.cert spec.now cert.now
command_of (Check spec cert) = commands.check spec.now cert.now
command_of (Pack spec tensor flat) = commands.pack spec.now tensor.now flat.now
command_of (Unpack spec tensor flat) = commands.unpack spec.now tensor.now flat.now
command_of (Convert spec tensor form) = commands.convert spec.now tensor.now form
command_of (Expand spec tensor) = commands.expand spec.now tensor.now
command_of (Einsum text path spec) = commands.einsum text.now path.now spec.now
command_of (Demo seed v o) = commands.demo seed v o

-- the words that the program is given, each by its bytes
abbrev pub words_of : {A : Type 0} → List (String A) → List (List ℕ)
words_of words = map string_bytes words

-- the command that the words are, or nothing where they are those of none
abbrev pub ReadsCommand : List (List ℕ) → Option Command → Type 0
ReadsCommand words read = MatchOption read (commands.IsNoCommand words) (λ command. commands.IsCommand words (command_of command))

-- the number between the least and the most whose digits these are, or nothing where they are those of none
abbrev pub ReadsBetween : ℕ → ℕ → List ℕ → Option ℕ → Type 0
ReadsBetween least most digits read =
    MatchOption read ((n : ℕ) → commands.IsBetween least most n → digits ≢ decimal n) (λ n. commands.IsBetween least most n × (digits ≡ decimal n))

-- the form of the second version whose width the word is, or nothing where it is that of none
abbrev pub ReadsForm : List ℕ → Option Form → Type 0
ReadsForm word read =
    MatchOption read ((form : Form) → form ≢ One → word ≢ decimal (width form)) (λ form. (form ≢ One) × (word ≡ decimal (width form)))
