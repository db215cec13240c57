-- Reading the statement of a line from its tokens, from the left. The contracts inside this crate speak of these
-- functions; the laws say that what they read is what the grammar says, and nothing else.
use Rattle.std.specs.Prelude.{◌≡◌, ℕ, zero, suc, ◌==◌, if◌then◌else◌, List, [], ◌∷◌, length, codes, Option, option_map, max}
use Rattle.std.specs.declared.option.Option.TheVariants.{Some, None}
use Rattle.std.specs.Str.{bytes_eq}
use Rattle.std.specs.List.{prefix_len}
use Rattle.tce_space.specs.Name.{is_name, is_word_byte}
use Rattle.tce_grammar.specs.Lines.{without_comment}
use Rattle.tce_grammar.specs.Tokens.{Token, word, number, symbol, tokens}
use Rattle.tce_grammar.specs.Formula.{Formula, Arithmetic, multiply, add, subtract, tensor, constant, sum, binary}
use Rattle.tce_grammar.specs.Grammar.{Statement, range, index, declaration, formula, Line, skipped, bad, says}

-- how long the first piece of a line is
abbrev pub piece_len : List ℕ → ℕ
piece_len line = max (prefix_len is_word_byte line) 1

-- what is read, and the tokens behind it
abbrev pub Reads : Type 0 → Type 0
Reads A = Option (A × List Token)

infixl 10 ◌>>=◌
abbrev pub ◌>>=◌ : {A B : Type 0} → Option A → (A → Option B) → Option B
None >>= f = None
(Some x) >>= f = f x

-- the tokens behind this symbol
abbrev pub behind : ℕ → List Token → Option (List Token)
behind c [] = None
behind c (word w ∷ ts) = None
behind c (number d ∷ ts) = None
behind c (symbol b ∷ ts) = if b == c then Some ts else None

-- the name that a token is
abbrev pub name_in : Token → Option (List ℕ)
name_in (word w) = if is_name w then Some w else None
name_in (number d) = None
name_in (symbol b) = None

-- a name at the front, and the tokens behind it
abbrev pub name_ahead : List Token → Reads (List ℕ)
name_ahead [] = None
name_ahead (t ∷ ts) = option_map (λ name. (name, ts)) (name_in t)

-- a name at the front with this symbol behind it
abbrev pub name_before : ℕ → List Token → Option (List ℕ)
name_before c [] = None
name_before c (t ∷ []) = None
name_before c (t ∷ word v ∷ ts) = None
name_before c (t ∷ number d ∷ ts) = None
name_before c (t ∷ symbol b ∷ ts) = if b == c then name_in t else None

abbrev pub with_first : List ℕ → Reads (List (List ℕ)) → Reads (List (List ℕ))
with_first name None = None
with_first name (Some r) = Some (name ∷ r.0, r.1)

-- one or more names with commas between them, up to the closing symbol
abbrev pub names_at : ℕ → List Token → Reads (List (List ℕ))
names_at close [] = None
names_at close (number d ∷ ts) = None
names_at close (symbol b ∷ ts) = None
names_at close (word w ∷ []) = None
names_at close (word w ∷ word v ∷ ts) = None
names_at close (word w ∷ number d ∷ ts) = None
names_at close (word w ∷ symbol b ∷ ts) =
    if is_name w then (if b == 44 then with_first w (names_at close ts) else if b == close then Some (w ∷ [], ts) else None) else None

-- no names, where the bracket closes at once
abbrev pub none_or_names : Option (List Token) → List Token → Reads (List (List ℕ))
none_or_names (Some rest) inner = Some ([], rest)
none_or_names None inner = names_at 93 inner

-- names in brackets, or none
abbrev pub brackets_at : List Token → Reads (List (List ℕ))
brackets_at ts = behind 91 ts >>= λ inner. none_or_names (behind 93 inner) inner

abbrev pub times_of : Token → Option Arithmetic
times_of (word w) = None
times_of (number d) = None
times_of (symbol b) = if b == 42 then Some multiply else None

abbrev pub plus_of : Token → Option Arithmetic
plus_of (word w) = None
plus_of (number d) = None
plus_of (symbol b) = if b == 43 then Some add else if b == 45 then Some subtract else None

-- the operator at the front, and the tokens behind it
abbrev pub ahead : (Token → Option Arithmetic) → List Token → Option (Arithmetic × List Token)
ahead operator [] = None
ahead operator (t ∷ ts) = option_map (λ o. (o, ts)) (operator t)

-- no operator stands at the front
abbrev pub Stops : (Token → Option Arithmetic) → List Token → Type 0
Stops operator [] = Unit {0}
Stops operator (t ∷ ts) = operator t ≡ None

-- what is read so far where no operator stands, or what comes of the operator
abbrev pub going_on : Option Arithmetic → Formula × List Token → (Arithmetic → Reads Formula) → Reads Formula
going_on None read next = Some read
going_on (Some o) read next = next o

-- further operands, as long as an operator stands before them; `fuel` operators at most
abbrev pub chain : (Token → Option Arithmetic) → (List Token → Reads Formula) → ℕ → Formula → List Token → Reads Formula
chain operator operand zero f ts = Some (f, ts)
chain operator operand (suc fuel) f [] = Some (f, [])
chain operator operand (suc fuel) f (t ∷ ts) =
    going_on (operator t) (f, t ∷ ts) (λ o. operand ts >>= λ r. chain operator operand fuel (binary o f r.0) r.1)

-- operands with operators between them
unfoldable pub chain_at : (Token → Option Arithmetic) → (List Token → Reads Formula) → List Token → Reads Formula
chain_at operator operand ts = operand ts >>= λ r. chain operator operand (length ts) r.0 r.1

-- the indexes of a sum, in braces behind its first word, up to the parenthesis behind them
abbrev pub summed_at : List Token → Reads (List (List ℕ))
summed_at ts = behind 123 ts >>= λ list. names_at 125 list >>= λ names. behind 40 names.1 >>= λ operand. Some (names.0, operand)

-- a sum behind its first word, where `enclosed` reads what stands behind an open parenthesis
abbrev pub sum_at : (List Token → Reads Formula) → List Token → Reads Formula
sum_at enclosed ts = behind 123 ts >>= λ list. names_at 125 list >>= λ names. behind 40 names.1 >>= λ operand. enclosed operand >>= λ r. Some (sum names.0 r.0, r.1)

-- a tensor of this name, with the indexes that stand behind it
abbrev pub tensor_at : List ℕ → List Token → Reads Formula
tensor_at name ts = brackets_at ts >>= λ names. Some (tensor name names.0, names.1)

-- a factor
abbrev pub factor_at : (List Token → Reads Formula) → List Token → Reads Formula
factor_at enclosed [] = None
factor_at enclosed (number d ∷ ts) = Some (constant d, ts)
factor_at enclosed (symbol b ∷ ts) = if b == 40 then enclosed ts else None
factor_at enclosed (word w ∷ ts) =
    if bytes_eq w (codes "sum") then sum_at enclosed ts
    else if is_name w then tensor_at w ts
    else None

-- products of factors, with plus and minus between them
abbrev pub formula_by : (List Token → Reads Formula) → List Token → Reads Formula
formula_by factor ts = chain_at plus_of (chain_at times_of factor) ts

-- a formula and the closing parenthesis behind it
abbrev pub closed_by : (List Token → Reads Formula) → List Token → Reads Formula
closed_by inner ts = inner ts >>= λ r. behind 41 r.1 >>= λ rest. Some (r.0, rest)

-- what stands behind an open parenthesis, where so many may be open, this one included
unfoldable pub enclosed_within : ℕ → List Token → Reads Formula
enclosed_within zero ts = None
enclosed_within (suc n) ts = closed_by (formula_by (factor_at (enclosed_within n))) ts

-- a factor, and a formula, with at most so many open parentheses
abbrev pub factor_within : ℕ → List Token → Reads Formula
factor_within n ts = factor_at (enclosed_within n) ts

-- a product of factors, with at most so many open parentheses
abbrev pub product_within : ℕ → List Token → Reads Formula
product_within n ts = chain_at times_of (factor_within n) ts

abbrev pub formula_within : ℕ → List Token → Reads Formula
formula_within n ts = formula_by (factor_within n) ts

-- what is read where no token is left
abbrev pub whole : {A : Type 0} → Reads A → Option A
whole None = None
whole (Some (x, [])) = Some x
whole (Some (x, t ∷ ts)) = None

-- the edge behind the extent of a range, where there is one
abbrev pub edge_of : List Token → Option (Option (List ℕ))
edge_of [] = Some None
edge_of (word tile ∷ number edge ∷ []) = if bytes_eq tile (codes "tile") then Some (Some edge) else None
edge_of _ = None

abbrev pub range_of : List Token → Option Statement
range_of (word name ∷ number extent ∷ ts) = if is_name name then option_map (range name extent) (edge_of ts) else None
range_of _ = None

abbrev pub all_names : List Token → Option (List (List ℕ))
all_names [] = Some []
all_names (number d ∷ ts) = None
all_names (symbol b ∷ ts) = None
all_names (word w ∷ ts) = if is_name w then option_map (λ names. w ∷ names) (all_names ts) else None

abbrev pub index_of : List Token → Option Statement
index_of (word name ∷ word first ∷ ts) = if is_name name then option_map (index name) (all_names (word first ∷ ts)) else None
index_of _ = None

abbrev pub declaration_of : List Token → Option Statement
declaration_of (word name ∷ ts) = if is_name name then option_map (declaration name) (whole (brackets_at ts)) else None
declaration_of _ = None

-- what stands behind the left side of a formula: the sign, and no more than an expression
abbrev pub right_side_of : List Token → Option Formula
right_side_of ts = behind 61 ts >>= λ rest. whole (formula_within 64 rest)

abbrev pub formula_of : List ℕ → List Token → Option Statement
formula_of name ts =
    if is_name name then
    (brackets_at ts >>= λ names. behind 61 names.1 >>= λ rest. option_map (formula name names.0) (whole (formula_within 64 rest)))
    else None

-- the statement of a line of tokens
unfoldable pub statement_of : List Token → Option Statement
statement_of [] = None
statement_of (number d ∷ ts) = None
statement_of (symbol b ∷ ts) = None
statement_of (word w ∷ ts) =
    if bytes_eq w (codes "range") then range_of ts
    else if bytes_eq w (codes "index") then index_of ts
    else if bytes_eq w (codes "tensor") then declaration_of ts
    else formula_of w ts

abbrev pub line_of_statement : Option Statement → Line
line_of_statement None = bad
line_of_statement (Some s) = says s

abbrev pub line_of_tokens : Option (List Token) → Line
line_of_tokens None = bad
line_of_tokens (Some []) = skipped
line_of_tokens (Some (t ∷ ts)) = line_of_statement (statement_of (t ∷ ts))

unfoldable pub line_of : List ℕ → Line
line_of line = line_of_tokens (tokens (without_comment line))
