-- The text of a demonstration is the canonical text of what it specifies.
use Rattle.std.proofs.Common.{◌≡◌, ◌∙◌, ℕ, ◌≤◌, ◌==◌, min, nat_eq, if◌then◌else◌, Bool, true, false, List, [], ◌∷◌, ◌++◌, map, Option, Some, None, refl, ap, arith, codes, append_assoc, append-nil}
use Rattle.std.specs.Fmt.{decimal}
use Rattle.tce_grammar.specs.Grammar.{Statement, range}
use Rattle.tce_grammar.specs.Canonical.{canonical_line, canonical_text}
use Rattle.tce_spec.specs.Statements.{edge_digits, range_statement, groups, index_statement, tensor_statement, formula_statement}
use Rattle.tce_tools.specs.Demo.{range_line, demo_formula, demo_text}
use Rattle.tce_spec.specs.Canonical.{canonical_of}
use Rattle.tce_run.specs.DemoSpecification.{range_of, demo_space, demo_tensors, demo_declarations, demo_tree, demo_specification}

-- an edge of one is that of an extent of one
same_test : (n : ℕ) → 1 ≤ n → (min n 4 == 1) ≡ nat_eq n 1
same_test n some = grind arith

edge_said : (n : ℕ) → 1 ≤ n → edge_digits (min n 4) ≡ (if nat_eq n 1 then None else Some (decimal (min n 4)))
edge_said n some = ap (λ (b : Bool). if b then None else Some (decimal (min n 4))) (same_test n some)

-- the line of a range whose tiles are of one, and of another
plain : (first : ℕ) (digits : List ℕ) → canonical_line (range (first ∷ []) digits None) ++ 10 ∷ [] ≡ codes "range " ++ ((first ∷ []) ++ (codes " " ++ (digits ++ codes "\n")))
plain first digits = ap (λ (ds : List ℕ). codes "range " ++ (first ∷ 32 ∷ (ds ++ 10 ∷ []))) (append-nil digits)

tiled : (first : ℕ) (digits edge : List ℕ)
    → canonical_line (range (first ∷ []) digits (Some edge)) ++ 10 ∷ [] ≡ codes "range " ++ ((first ∷ []) ++ (codes " " ++ (digits ++ (codes " tile " ++ (edge ++ codes "\n")))))
tiled first digits edge =
    ap (λ (rest : List ℕ). codes "range " ++ (first ∷ 32 ∷ rest))
    (append_assoc digits (codes " tile " ++ (edge ++ [])) (10 ∷ []) ∙ ap (λ (e : List ℕ). digits ++ (codes " tile " ++ (e ++ 10 ∷ []))) (append-nil edge))

range_text : (first n : ℕ) → 1 ≤ n → canonical_line (range_statement (range_of (first ∷ []) n)) ++ 10 ∷ [] ≡ range_line (first ∷ []) n
range_text first n some = ap (λ (e : Option (List ℕ)). canonical_line (range (first ∷ []) (decimal n) e) ++ 10 ∷ []) (edge_said n some) ∙ by_test (nat_eq n 1)
  where
    by_test : (b : Bool) → canonical_line (range (first ∷ []) (decimal n) (if b then None else Some (decimal (min n 4)))) ++ 10 ∷ []
        ≡ codes "range " ++ ((first ∷ []) ++ (codes " " ++ (decimal n ++ (if b then codes "\n" else codes " tile " ++ (decimal (min n 4) ++ codes "\n")))))
    by_test true = plain first (decimal n)
    by_test false = tiled first (decimal n) (decimal (min n 4))

-- the lines behind the ranges
abbrev rest_of : ℕ → ℕ → List Statement
rest_of v o =
    map (index_statement (demo_space v o)) (groups (demo_space v o).indexes)
    ++ (map (tensor_statement (demo_space v o)) demo_tensors ++ formula_statement (demo_declarations v o) 4 (0 ∷ 1 ∷ 6 ∷ 7 ∷ []) demo_tree ∷ [])

rest_text : (v o : ℕ) → canonical_text (rest_of v o) ≡ demo_formula
rest_text v o = refl

pub canonical_is : (v o : ℕ) → 1 ≤ v → 1 ≤ o → canonical_of (demo_specification v o) ≡ demo_text v o
canonical_is v o hv ho =
    ap (λ (line : List ℕ). line ++ ((canonical_line (range_statement (range_of (codes "O") o)) ++ 10 ∷ []) ++ canonical_text (rest_of v o))) (range_text 86 v hv)
    ∙ ap (λ (line : List ℕ). range_line (codes "V") v ++ (line ++ canonical_text (rest_of v o))) (range_text 79 o ho)
    ∙ ap (λ (rest : List ℕ). range_line (codes "V") v ++ (range_line (codes "O") o ++ rest)) (rest_text v o)
