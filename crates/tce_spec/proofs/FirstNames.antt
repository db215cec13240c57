-- The first of some names, and those behind it.
use Rattle.std.proofs.Common.{◌≡◌, ℕ, ◌+◌, ◌-◌, ◌<◌, ◌≤◌, Bool, true, false, cond, not, List, [], ◌∷◌, ◌++◌, length, take, drop, slice_index_or, Option, Some, None, Bor, sym, ap, subst, ◌∙◌, append_assoc, arith}
use Rattle.std.specs.Prelude.{IsTrue, is_none, is_some, unwrap_or}
use Rattle.std.proofs.lemmas.List.{append-nil, length-append, take_all}
use Rattle.tce_space.specs.Name.{is_name}
use Rattle.tce_space.specs.Space.{IndexSpace, index_number}
use Rattle.tce_grammar.specs.Code.{names}
use Rattle.tce_grammar.specs.Grammar.{AreNames}
use Rattle.tce_spec.specs.PlaceFaults.{undeclared_index}
use Rattle.tce_spec.specs.Meaning.{indexes_of}

-- those behind the first, as the code has them
abbrev behind : List (Bor (List ℕ)) → List (Bor (List ℕ))
behind ns = take (length ns - 1) (drop 1 ns)

behind_is : (n : Bor (List ℕ)) (ns : List (Bor (List ℕ))) → behind (n ∷ ns) ≡ ns
behind_is n ns = take_all (length (n ∷ ns) - 1) ns (omega arith)

pub behind_shorter : (ns : List (Bor (List ℕ))) → 1 ≤ length ns → length (behind ns) < length ns
behind_shorter [] some = absurd (omega arith)
behind_shorter (n ∷ ns) some = omega (arith, ap length (behind_is n ns))

pub first_is_name : (ns : List (Bor (List ℕ))) (other : Bor (List ℕ)) → 1 ≤ length ns → AreNames (names ns) → IsTrue (is_name (slice_index_or ns 0 other).now)
first_is_name [] other some are = absurd (omega arith)
first_is_name (n ∷ ns) other some are = are.0

pub behind_are : (ns : List (Bor (List ℕ))) → 1 ≤ length ns → AreNames (names ns) → AreNames (names (behind ns))
behind_are [] some are = absurd (omega arith)
behind_are (n ∷ ns) some are = subst (λ (ms : List (Bor (List ℕ))). AreNames (names ms)) (sym (behind_is n ns)) are.1

-- the first name that no index has

tested : (index : Option ℕ) (test found : Bool) → is_some index ≡ not test → test ≡ found → is_none index ≡ found
tested None true found is same = same
tested None false found is same = cc
tested (Some i) true found is same = cc
tested (Some i) false found is same = same

pub undeclared_here : (space : IndexSpace) (ns : List (Bor (List ℕ))) (other : Bor (List ℕ)) (m : Option (List ℕ)) (index : Option ℕ) (test : Bool)
    → 1 ≤ length ns → m ≡ undeclared_index space (names ns) → index ≡ index_number space (slice_index_or ns 0 other).now → is_some index ≡ not test → test ≡ true
    → m ≡ Some (slice_index_or ns 0 other).now
undeclared_here space [] other m index test some same number is found = absurd (omega arith)
undeclared_here space (n ∷ ns) other m index test some same number is found =
    same ∙ ap (λ (b : Bool). cond b (Some n.now) (undeclared_index space (names ns))) (sym (ap is_none number) ∙ tested index test _ is found)

pub undeclared_behind : (space : IndexSpace) (ns : List (Bor (List ℕ))) (other : Bor (List ℕ)) (m : Option (List ℕ)) (index : Option ℕ) (test : Bool)
    → 1 ≤ length ns → m ≡ undeclared_index space (names ns) → index ≡ index_number space (slice_index_or ns 0 other).now → is_some index ≡ not test → test ≡ false
    → m ≡ undeclared_index space (names (behind ns))
undeclared_behind space [] other m index test some same number is found = absurd (omega arith)
undeclared_behind space (n ∷ ns) other m index test some same number is found =
    same
    ∙ ap (λ (b : Bool). cond b (Some n.now) (undeclared_index space (names ns))) (sym (ap is_none number) ∙ tested index test _ is found)
    ∙ ap (λ (ms : List (Bor (List ℕ))). undeclared_index space (names ms)) (sym (behind_is n ns))

pub all_declared : (space : IndexSpace) (ns : List (Bor (List ℕ))) (m : Option (List ℕ)) → length ns < 1 → m ≡ undeclared_index space (names ns) → None ≡ m
all_declared space [] m none same = sym same
all_declared space (n ∷ ns) m none same = absurd (omega arith)

-- the numbers of names

pub numbered_behind : (space : IndexSpace) (ns : List (Bor (List ℕ))) (other : Bor (List ℕ)) (numbers pushed all : List ℕ) (index : Option ℕ) (n : ℕ)
    → 1 ≤ length ns → numbers ++ indexes_of space (names ns) ≡ all → index ≡ index_number space (slice_index_or ns 0 other).now → n ≡ unwrap_or index 0 → pushed ≡ numbers ++ n ∷ []
    → pushed ++ indexes_of space (names (behind ns)) ≡ all
numbered_behind space [] other numbers pushed all index n some same number is more = absurd (omega arith)
numbered_behind space (m ∷ ms) other numbers pushed all index n some same number is more =
    ap (λ (ks : List (Bor (List ℕ))). pushed ++ indexes_of space (names ks)) (behind_is m ms)
    ∙ ap (λ (front : List ℕ). front ++ indexes_of space (names ms)) more
    ∙ append_assoc numbers (n ∷ []) (indexes_of space (names ms))
    ∙ ap (λ (k : ℕ). numbers ++ k ∷ indexes_of space (names ms)) (is ∙ ap (λ (i : Option ℕ). unwrap_or i 0) number)
    ∙ same

pub room_behind : (ns : List (Bor (List ℕ))) (numbers pushed : List ℕ) (n limit : ℕ) → 1 ≤ length ns → length numbers + length ns ≤ limit → pushed ≡ numbers ++ n ∷ []
    → length pushed + length (behind ns) ≤ limit
room_behind ns numbers pushed n limit some room more = omega (arith, behind_shorter ns some, ap length more, length-append numbers (n ∷ []), room)

pub all_numbered : (space : IndexSpace) (ns : List (Bor (List ℕ))) (numbers all : List ℕ) → length ns < 1 → numbers ++ indexes_of space (names ns) ≡ all → numbers ≡ all
all_numbered space [] numbers all none same = sym (append-nil numbers) ∙ same
all_numbered space (n ∷ ns) numbers all none same = absurd (omega arith)
