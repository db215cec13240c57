-- Which words are those of a command.
use Rattle.std.proofs.Common.{Bool, ◌&&◌, if◌then◌else◌, ◌≡◌, ◌≢◌, refl, sym, ap, ◌∙◌, ℕ, suc, nat_eq, ◌<◌, ◌≤◌, ◌^◌, List, [], ◌∷◌, map, length, get_or, arith, String, Global, codes}
use Rattle.std.specs.String.{string_bytes}
use Rattle.std.specs.Fmt.{decimal}
use Rattle.std.specs.Str.Parse.{digits_value}
use Rattle.std.proofs.lemmas.Fmt.{decimal_digit, decimal_is_IsNumeral}
use Rattle.tce_array.specs.declared.form.Form.{Form}
use Rattle.tce_array.specs.declared.form.Form.TheVariants.{One, Narrow, Wide}
use Rattle.tce_array.specs.Forms.{width}
use Rattle.tce_command.specs.Command.{Command, run, batch, spill, plan, cert, check, pack, unpack, convert, expand, einsum, demo, IsBetween, IsCommand, IsNoCommand, KeepsRules, verb_of, arguments_of}

-- a command has two to four words
one_argument : (1 ≤ 1) × (1 ≤ 3)
one_argument = (omega arith, omega arith)

two_arguments : (1 ≤ 2) × (2 ≤ 3)
two_arguments = (omega arith, omega arith)

three_arguments : (1 ≤ 3) × (3 ≤ 3)
three_arguments = (omega arith, omega arith)

few_arguments : (command : Command) → (1 ≤ length (arguments_of command)) × (length (arguments_of command) ≤ 3)
few_arguments (run spec budget) = two_arguments
few_arguments (batch spec budget) = two_arguments
few_arguments (spill spec budget limit) = three_arguments
few_arguments (plan spec) = one_argument
few_arguments (cert spec file) = two_arguments
few_arguments (check spec file) = two_arguments
few_arguments (pack spec tensor flat) = three_arguments
few_arguments (unpack spec tensor flat) = three_arguments
few_arguments (convert spec tensor form) = three_arguments
few_arguments (expand spec tensor) = two_arguments
few_arguments (einsum text path spec) = three_arguments
few_arguments (demo seed v o) = three_arguments

command_length : (words : List (List ℕ)) (command : Command) → IsCommand words command → (2 ≤ length words) × (length words ≤ 4)
command_length words command h =
    let e : length words ≡ suc (length (arguments_of command)) = ap length h.words_are in
    let few : (1 ≤ length (arguments_of command)) × (length (arguments_of command) ≤ 3) = few_arguments command in
    (omega (arith, e, few.0), omega (arith, e, few.1))

-- so that other numbers of words are those of no command
pub too_few : (ws : List (String Global)) → length ws < 2 → IsNoCommand (map string_bytes ws)
too_few [] l command is = omega (arith, (command_length [] command is).0)
too_few (x ∷ []) l command is = omega (arith, (command_length (string_bytes x ∷ []) command is).0)
too_few (x ∷ y ∷ ws) l command is = omega arith

pub too_many : (ws : List (String Global)) → 5 ≤ length ws → IsNoCommand (map string_bytes ws)
too_many [] l command is = omega arith
too_many (a ∷ []) l command is = omega arith
too_many (a ∷ b ∷ []) l command is = omega arith
too_many (a ∷ b ∷ c ∷ []) l command is = omega arith
too_many (a ∷ b ∷ c ∷ d ∷ []) l command is = omega arith
too_many (a ∷ b ∷ c ∷ d ∷ e ∷ ws) l command is =
    omega (arith, (command_length (string_bytes a ∷ string_bytes b ∷ string_bytes c ∷ string_bytes d ∷ string_bytes e ∷ map string_bytes ws) command is).1)

-- words one by one
pub two_words : (ws : List (String Global)) (a b : String Global) (verb spec : List ℕ) → 2 ≤ length ws → length ws < 3 → a ≡ get_or ws 0 a → b ≡ get_or ws 1 b
    → verb ≡ string_bytes a → spec ≡ string_bytes b → verb ∷ spec ∷ [] ≡ map string_bytes ws
two_words [] a b verb spec some few is_a is_b v s = absurd (omega arith)
two_words (x ∷ []) a b verb spec some few is_a is_b v s = absurd (omega arith)
two_words (x ∷ y ∷ []) a b verb spec some few is_a is_b v s = λ i. (v ∙ ap string_bytes is_a) i ∷ (s ∙ ap string_bytes is_b) i ∷ []
two_words (x ∷ y ∷ z ∷ ws) a b verb spec some few is_a is_b v s = absurd (omega arith)

pub three_words : (ws : List (String Global)) (a b c : String Global) (verb spec last : List ℕ) → 3 ≤ length ws → length ws < 4 → a ≡ get_or ws 0 a → b ≡ get_or ws 1 b → c ≡ get_or ws 2 c
    → verb ≡ string_bytes a → spec ≡ string_bytes b → last ≡ string_bytes c → verb ∷ spec ∷ last ∷ [] ≡ map string_bytes ws
three_words [] a b c verb spec last some few is_a is_b is_c v s l = absurd (omega arith)
three_words (x ∷ []) a b c verb spec last some few is_a is_b is_c v s l = absurd (omega arith)
three_words (x ∷ y ∷ []) a b c verb spec last some few is_a is_b is_c v s l = absurd (omega arith)
three_words (x ∷ y ∷ z ∷ []) a b c verb spec last some few is_a is_b is_c v s l =
    λ i. (v ∙ ap string_bytes is_a) i ∷ (s ∙ ap string_bytes is_b) i ∷ (l ∙ ap string_bytes is_c) i ∷ []
three_words (x ∷ y ∷ z ∷ w ∷ ws) a b c verb spec last some few is_a is_b is_c v s l = absurd (omega arith)

pub four_words : (ws : List (String Global)) (a b c d : String Global) (verb first second last : List ℕ) → 4 ≤ length ws → length ws < 5
    → a ≡ get_or ws 0 a → b ≡ get_or ws 1 b → c ≡ get_or ws 2 c → d ≡ get_or ws 3 d
    → verb ≡ string_bytes a → first ≡ string_bytes b → second ≡ string_bytes c → last ≡ string_bytes d → verb ∷ first ∷ second ∷ last ∷ [] ≡ map string_bytes ws
four_words [] a b c d verb first second last some few is_a is_b is_c is_d v f s l = absurd (omega arith)
four_words (x ∷ []) a b c d verb first second last some few is_a is_b is_c is_d v f s l = absurd (omega arith)
four_words (x ∷ y ∷ []) a b c d verb first second last some few is_a is_b is_c is_d v f s l = absurd (omega arith)
four_words (x ∷ y ∷ z ∷ []) a b c d verb first second last some few is_a is_b is_c is_d v f s l = absurd (omega arith)
four_words (x ∷ y ∷ z ∷ w ∷ []) a b c d verb first second last some few is_a is_b is_c is_d v f s l =
    λ i. (v ∙ ap string_bytes is_a) i ∷ (f ∙ ap string_bytes is_b) i ∷ (s ∙ ap string_bytes is_c) i ∷ (l ∙ ap string_bytes is_d) i ∷ []
four_words (x ∷ y ∷ z ∷ w ∷ u ∷ ws) a b c d verb first second last some few is_a is_b is_c is_d v f s l = absurd (omega arith)

-- Words are those of one command, which is read back from them: its number of words and the first letters of the first one tell which it
-- is, and the other words what it is for.

abbrev begins_with : ℕ → ℕ → List ℕ → Bool
begins_with first second verb = nat_eq (get_or verb 0 0) first && nat_eq (get_or verb 1 0) second

abbrev value : List ℕ → ℕ
value word = digits_value 10 word

abbrev form_of : ℕ → Form
form_of wide = if nat_eq wide 4 then Narrow else Wide

abbrev of_three : List ℕ → List ℕ → List ℕ → Command
of_three verb spec last =
    if begins_with 114 117 verb then run spec (value last)
    else if begins_with 98 97 verb then batch spec (value last)
    else if begins_with 99 101 verb then cert spec last
    else if begins_with 99 104 verb then check spec last
    else expand spec last

abbrev of_four : List ℕ → List ℕ → List ℕ → List ℕ → Command
of_four verb first second last =
    if begins_with 115 112 verb then spill first (value second) (value last)
    else if begins_with 112 97 verb then pack first second last
    else if begins_with 117 110 verb then unpack first second last
    else if begins_with 99 111 verb then convert first second (form_of (value last))
    else if begins_with 101 105 verb then einsum first second last
    else demo (value first) (value second) (value last)

abbrev read_back : List (List ℕ) → Command
read_back (verb ∷ spec ∷ []) = plan spec
read_back (verb ∷ spec ∷ last ∷ []) = of_three verb spec last
read_back (verb ∷ first ∷ second ∷ last ∷ []) = of_four verb first second last
read_back words = plan []

value_of : (n most : ℕ) → n ≤ most → most < 2 ^ 64 → value (decimal n) ≡ n
value_of n most within small = (decimal_is_IsNumeral n (omega arith)).1

form_back : (form : Form) → form ≢ One → form_of (value (decimal (width form))) ≡ form
form_back One h = absurd (h refl)
form_back Narrow h = ap form_of (value_of 4 4 (omega arith) (omega arith))
form_back Wide h = ap form_of (value_of 8 8 (omega arith) (omega arith))

budget_back : (n : ℕ) → n ≤ 2 ^ 40 → value (decimal n) ≡ n
budget_back n within = value_of n (2 ^ 40) within (omega arith)

between_back : (n most : ℕ) → IsBetween 1 most n → most < 2 ^ 64 → value (decimal n) ≡ n
between_back n most between small = value_of n most between.1 small

is_read_back : (command : Command) → KeepsRules command → read_back (verb_of command ∷ arguments_of command) ≡ command
is_read_back (run s b) rules = ap (run s) (budget_back b rules.1)
is_read_back (batch s b) rules = ap (batch s) (budget_back b rules.1)
is_read_back (spill s b l) rules = ap (λ n. spill s n (value (decimal l))) (budget_back b rules.1) ∙ ap (spill s b) (budget_back l rules.2)
is_read_back (plan s) rules = refl
is_read_back (cert s f) rules = refl
is_read_back (check s f) rules = refl
is_read_back (pack s t f) rules = refl
is_read_back (unpack s t f) rules = refl
is_read_back (convert s t f) rules = ap (convert s t) (form_back f rules.2)
is_read_back (expand s t) rules = refl
is_read_back (einsum t p s) rules = refl
is_read_back (demo x v o) rules =
    ap (λ n. demo n (value (decimal v)) (value (decimal o))) (between_back x 2147483646 rules.0 (omega arith))
    ∙ ap (λ n. demo x n (value (decimal o))) (between_back v 32 rules.1 (omega arith))
    ∙ ap (demo x v) (between_back o 32 rules.2 (omega arith))

pub one_command : (words : List (List ℕ)) (command other : Command) → IsCommand words command → IsCommand words other → other ≡ command
one_command words command other h k =
    sym (is_read_back other k.rules) ∙ ap read_back (sym k.words_are ∙ h.words_are) ∙ is_read_back command h.rules

-- the words of the forms
four_word : codes "4" ≡ decimal 4
four_word = sym (decimal_digit 4 (omega arith))

eight_word : codes "8" ≡ decimal 8
eight_word = sym (decimal_digit 8 (omega arith))

pub narrow_word : (word : List ℕ) → word ≡ codes "4" → (Narrow ≢ One) × (word ≡ decimal (width Narrow))
narrow_word word e = ((λ f. absurd (cc)), e ∙ four_word)

pub wide_word : (word : List ℕ) → word ≡ codes "8" → (Wide ≢ One) × (word ≡ decimal (width Wide))
wide_word word e = ((λ f. absurd (cc)), e ∙ eight_word)

pub other_word : (word : List ℕ) → word ≢ codes "4" → word ≢ codes "8" → (form : Form) → form ≢ One → word ≡ decimal (width form) → ⊥
other_word word no_four no_eight One h e = h refl
other_word word no_four no_eight Narrow h e = no_four (e ∙ sym four_word)
other_word word no_four no_eight Wide h e = no_eight (e ∙ sym eight_word)
