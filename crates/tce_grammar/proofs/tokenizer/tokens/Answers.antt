use Rattle.std.proofs.Common.{◌++◌, ◌∷◌, [], ℕ, List, map, take, drop, sym, ap, ◌∙◌, arith}
use Rattle.std.proofs.lemmas.List.{map-append}
use Rattle.tce_grammar.specs.Code.{token}
use Rattle.tce_grammar.specs.Tokens.{Token, tokens, token_of}
use Rattle.tce_grammar.proofs.Pieces.{token_kept, blank_dropped, no_token, no_line, behind_tokens}
use Rattle.tce_grammar.proofs.tokenizer.tokens.Goals as goal

pub returns-in_default-token_of : goal.returns-in_default-token_of
returns-in_default-token_of c =
    no_token (tokens c.args.line.now) (map token c.loop-rest.found.items) c.loop-rest.rest.now c.loop-rest.invariant (omega arith)
    (sym c.is_blank.ensures ∙ c.if-not-is_blank.true)
    (c.in_default-token_of.ensures ∙ ap token_of (c.split_at.ensures.front ∙ ap (λ n. take n c.loop-rest.rest.now) c.piece_len.ensures.value))

pub loop-rest-preserved-in_ok-push : goal.loop-rest-preserved-in_ok-push
loop-rest-preserved-in_ok-push c =
    token_kept (tokens c.args.line.now) (map token c.loop-rest.found.items) c.loop-rest.rest.now (token c.in-Some.token) c.loop-rest.invariant (omega arith)
    (sym c.is_blank.ensures ∙ c.if-not-is_blank.true)
    (c.in-Some.ensures ∙ ap token_of (c.split_at.ensures.front ∙ ap (λ n. take n c.loop-rest.rest.now) c.piece_len.ensures.value))
    ∙ ap (λ (rest : List ℕ). behind_tokens (map token c.loop-rest.found.items ++ token c.in-Some.token ∷ []) (tokens rest))
    (ap (λ n. drop n c.loop-rest.rest.now) (sym c.piece_len.ensures.value) ∙ sym c.split_at.ensures.back)
    ∙ ap (λ (front : List Token). behind_tokens front (tokens c.split_at.result.1.now))
    (sym (map-append token c.loop-rest.found.items (c.in-Some.token ∷ [])) ∙ ap (map token) (sym c.in_ok-push.ensures.items))

pub loop-rest-preserved : goal.loop-rest-preserved
loop-rest-preserved c =
    blank_dropped (tokens c.args.line.now) (map token c.loop-rest.found.items) c.loop-rest.rest.now c.loop-rest.invariant (omega arith)
    (sym c.is_blank.ensures ∙ c.if-not-is_blank.false)
    ∙ ap (λ (rest : List ℕ). behind_tokens (map token c.loop-rest.found.items) (tokens rest))
    (ap (λ n. drop n c.loop-rest.rest.now) (sym c.piece_len.ensures.value) ∙ sym c.split_at.ensures.back)

pub returns : goal.returns
returns c = no_line (tokens c.args.line.now) (map token c.loop-rest.found.items) c.loop-rest.rest.now c.loop-rest.invariant (omega arith)
