use Rattle.std.proofs.Common.{◌≡◌, ◌+◌, ◌*◌, ◌<◌, ◌∙◌, ℕ, List, [], ◌∷◌, add-one, length, length-set, slice_index, slice_set, sym, ap, ap₂, subst, arith}
use Rattle.tce_exec.specs.ChainRows.{after_row, after_turn, put_along, IsLinkAlong}
use Rattle.tce_exec.specs.Links.{word_along, IsAlongWithin}
use Rattle.tce_exec.specs.Operands.{combined}
use Rattle.tce_exec.specs.declared.links.Source.{Source}
use Rattle.tce_exec.specs.declared.links.Link.{Link}
use Rattle.tce_exec.specs.declared.links.Source.TheVariants.{Number, Words}
use Rattle.tce_exec.proofs.row.run_number_first.Goals as goal

within_at : (count index by : ℕ) (l : Link) (s : Source) → l.right ≡ s → IsLinkAlong count index by l → IsAlongWithin count index by s
within_at count index by l s e h = subst (IsAlongWithin count index by) e h.right

pub get-word-requires : goal.get-word-requires
get-word-requires c =
    let at = within_at (length c.args.words.now) c.args.index c.loop-by.by c.args.link.now (Words c.args.window.now) c.requires.right (c.requires.within c.loop-by.by c.loop-by-test.true) in
    omega (arith, at, c.loop-by.invariant.long)

pub loop-by-preserved : goal.loop-by-preserved
loop-by-preserved c =
    let link = c.args.link.now in
    let index = c.args.index in
    let by : ℕ = c.loop-by.by in
    let mid = c.loop-by.words in
    let put : c.put.new.self ≡ put_along index by mid link =
    (c.put.ensures ∙ ap (slice_set mid (link.out.first + by * slice_index link.out.steps index)) (c.combine.ensures ∙ ap₂ (combined link.kind) (sym (ap (word_along mid index by) c.requires.left)) (c.get-word.ensures ∙ sym (ap (word_along mid index by) c.requires.right)))) in
    record {
      done = put ∙ ap (λ ws. put_along index by ws link) c.loop-by.invariant.done ∙ ap (λ n. after_row (link ∷ []) index n c.args.words.now) (sym (add-one by));
      long = ap length put ∙ length-set mid (link.out.first + by * slice_index link.out.steps index) (combined link.kind (word_along mid index by link.left) (word_along mid index by link.right)) ∙ c.loop-by.invariant.long;
    }

pub returns : goal.returns
returns c =
    let all : c.loop-by.by ≡ c.args.count = omega (arith, c.loop-by-test.false, c.loop-by.auto) in
    c.loop-by.invariant.done ∙ ap (λ n. after_row (c.args.link.now ∷ []) c.args.index n c.args.words.now) all
