-- The commands, as lists of words. Each word is a list of bytes.
use Rattle.std.specs.Prelude.{◌≡◌, ◌≢◌, ℕ, ◌<◌, ◌≤◌, ◌^◌, Bool, ◌||◌, ◌&&◌, ◌==◌, nat_eq, nat_lt, nat_le, IsTrue, List, [], ◌∷◌, length, codes}
use Rattle.std.specs.List.{list_all, ends_with}
use Rattle.std.specs.Char.{is_ascii_alphanumeric}
use Rattle.std.specs.Fmt.{decimal}
use Rattle.tce_space.specs.Limits.{max_memory}
use Rattle.tce_space.specs.Name.{is_name}
use Rattle.tce_array.specs.declared.form.Form.{Form}
use Rattle.tce_array.specs.declared.form.Form.TheVariants.{One}
use Rattle.tce_array.specs.Forms.{width}

-- names of files and tensors, a budget in words, a limit in elements, and a form of array files; the first name is that of the specification's file. An einsum has its text and its path, and then the name of the specification's file. A demonstration has the number from which its elements come, and the extents of its two ranges
pub data Command : Type 0 where
  run : List ℕ → ℕ → Command
  batch : List ℕ → ℕ → Command
  spill : List ℕ → ℕ → ℕ → Command
  plan : List ℕ → Command
  cert : List ℕ → List ℕ → Command
  check : List ℕ → List ℕ → Command
  pack : List ℕ → List ℕ → List ℕ → Command
  unpack : List ℕ → List ℕ → List ℕ → Command
  convert : List ℕ → List ℕ → Form → Command
  expand : List ℕ → List ℕ → Command
  einsum : List ℕ → List ℕ → List ℕ → Command
  demo : ℕ → ℕ → ℕ → Command

-- the first word of a command, and the words behind it
abbrev pub verb_of : Command → List ℕ
verb_of (run spec budget) = codes "run"
verb_of (batch spec budget) = codes "batch"
verb_of (spill spec budget limit) = codes "spill"
verb_of (plan spec) = codes "plan"
verb_of (cert spec file) = codes "cert"
verb_of (check spec file) = codes "check"
verb_of (pack spec tensor flat) = codes "pack"
verb_of (unpack spec tensor flat) = codes "unpack"
verb_of (convert spec tensor form) = codes "convert"
verb_of (expand spec tensor) = codes "expand"
verb_of (einsum text path spec) = codes "einsum"
verb_of (demo seed v o) = codes "demo"

abbrev pub arguments_of : Command → List (List ℕ)
arguments_of (run spec budget) = spec ∷ decimal budget ∷ []
arguments_of (batch spec budget) = spec ∷ decimal budget ∷ []
arguments_of (spill spec budget limit) = spec ∷ decimal budget ∷ decimal limit ∷ []
arguments_of (plan spec) = spec ∷ []
arguments_of (cert spec file) = spec ∷ file ∷ []
arguments_of (check spec file) = spec ∷ file ∷ []
arguments_of (pack spec tensor flat) = spec ∷ tensor ∷ flat ∷ []
arguments_of (unpack spec tensor flat) = spec ∷ tensor ∷ flat ∷ []
arguments_of (convert spec tensor form) = spec ∷ tensor ∷ decimal (width form) ∷ []
arguments_of (expand spec tensor) = spec ∷ tensor ∷ []
arguments_of (einsum text path spec) = text ∷ path ∷ spec ∷ []
arguments_of (demo seed v o) = decimal seed ∷ decimal v ∷ decimal o ∷ []

-- a byte that may stand in the name of a file: a letter, a digit, or one of `_`, `-`, `.` and `/`
abbrev pub is_file_byte : ℕ → Bool
is_file_byte b = is_ascii_alphanumeric b || b == 95 || b == 45 || b == 46 || b == 47

-- a word of at most 200 such bytes that ends in the suffix and is longer than it
abbrev pub is_file_word : List ℕ → List ℕ → Bool
is_file_word suffix word =
    nat_le (length word) 200 && nat_lt (length suffix) (length word) && ends_with nat_eq word suffix && list_all is_file_byte word

-- the name of a specification's file, of a certificate's, of a flat file, and of a tensor
abbrev pub NamesSpec : List ℕ → Type 0
NamesSpec word = IsTrue (is_file_word (codes ".tce") word)

abbrev pub NamesCertificate : List ℕ → Type 0
NamesCertificate word = IsTrue (is_file_word (codes ".cert") word)

abbrev pub NamesFlat : List ℕ → Type 0
NamesFlat word = IsTrue (is_file_word (codes ".flat") word)

abbrev pub NamesTensor : List ℕ → Type 0
NamesTensor word = IsTrue (is_name word)

-- a word of any bytes; no memory holds a longer one
abbrev pub IsHeld : List ℕ → Type 0
IsHeld word = length word < 2 ^ 63

-- a number from the least to the most
abbrev pub IsBetween : ℕ → ℕ → ℕ → Type 0
IsBetween least most n = (least ≤ n) × (n ≤ most)

-- what the words of a command keep: a budget is at most 2^40, as is a limit, files are converted to the second version of their format alone, the text and the path of an einsum are any words, and a demonstration has a number below 2^31 - 1 and extents of at most 32
abbrev pub KeepsRules : Command → Type 0
KeepsRules (run spec budget) = NamesSpec spec × (budget ≤ max_memory)
KeepsRules (batch spec budget) = NamesSpec spec × (budget ≤ max_memory)
KeepsRules (spill spec budget limit) = NamesSpec spec × (budget ≤ max_memory) × (limit ≤ max_memory)
KeepsRules (plan spec) = NamesSpec spec
KeepsRules (cert spec file) = NamesSpec spec × NamesCertificate file
KeepsRules (check spec file) = NamesSpec spec × NamesCertificate file
KeepsRules (pack spec tensor flat) = NamesSpec spec × NamesTensor tensor × NamesFlat flat
KeepsRules (unpack spec tensor flat) = NamesSpec spec × NamesTensor tensor × NamesFlat flat
KeepsRules (convert spec tensor form) = NamesSpec spec × NamesTensor tensor × (form ≢ One)
KeepsRules (expand spec tensor) = NamesSpec spec × NamesTensor tensor
KeepsRules (einsum text path spec) = IsHeld text × IsHeld path × NamesSpec spec
KeepsRules (demo seed v o) = IsBetween 1 2147483646 seed × IsBetween 1 32 v × IsBetween 1 32 o

-- the words are those of this command
pub record IsCommand (words : List (List ℕ)) (command : Command) : Type 0 where
  pub words_are : words ≡ verb_of command ∷ arguments_of command
  pub rules : KeepsRules command

-- the words are those of no command
abbrev pub IsNoCommand : List (List ℕ) → Type 0
IsNoCommand words = (command : Command) → IsCommand words command → ⊥
