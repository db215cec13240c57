use Rattle.std.proofs.Common.{rules, subst}
use Rattle.tce_command.specs.CommandCode.{ReadsCommand}
use Rattle.tce_command.proofs.Commands.{too_few, too_many, two_words, three_words, four_words}
use Rattle.tce_command.proofs.reading.read_command.Goals as goal
use Rattle.tce_command.proofs.reading.read_command.Goals.{in_default-via-then-words-lt2, in_default-via-else-words-lt2+else-words-lt3+else-words-lt4+else-words-lt5}

pub returns-in-len2 : goal.returns-in-len2
returns-in-len2 c =
    subst (λ words. ReadsCommand words c.read_plan.result)
    (two_words c.args.words.now c.verb-item.result c.spec-item.result _ _ c.in-len2.len_at_least c.in-len2.len_below c.verb-item.is c.spec-item.is
    c.as_str.ensures.value c.as_str-in-len2.ensures.value)
    c.read_plan.ensures

pub returns-in-len3 : goal.returns-in-len3
returns-in-len3 c =
    subst (λ words. ReadsCommand words c.read_with_one.result)
    (three_words c.args.words.now c.verb-item-then-words-lt4.result c.spec-item-then-words-lt4.result c.last-item.result _ _ _ c.in-len3.len_at_least c.in-len3.len_below
    c.verb-item-then-words-lt4.is c.spec-item-then-words-lt4.is c.last-item.is
    c.as_str-in-len3.ensures.value c.as_str-in-len3-2.ensures.value c.as_str-in-len3-3.ensures.value)
    c.read_with_one.ensures

pub returns-in-len4 : goal.returns-in-len4
returns-in-len4 c =
    subst (λ words. ReadsCommand words c.read_with_three.result)
    (four_words c.args.words.now c.verb-item-then-words-lt5.result c.first-item.result c.second-item.result c.last-item-then-words-lt5.result _ _ _ _ c.in-len4.len_at_least c.in-len4.len_below
    c.verb-item-then-words-lt5.is c.first-item.is c.second-item.is c.last-item-then-words-lt5.is
    c.as_str-in-len4.ensures.value c.as_str-in-len4-2.ensures.value c.as_str-in-len4-3.ensures.value c.as_str-in-len4-4.ensures.value)
    c.read_with_three.ensures

pub returns-in_default : goal.returns-in_default
returns-in_default c = λ command is. elim c.in_default.branch [
  | in_default-via-then-words-lt2 w ↦ too_few c.args.words.now (search rules) command is
  | in_default-via-else-words-lt2+else-words-lt3+else-words-lt4+else-words-lt5 w ↦ too_many c.args.words.now (search rules) command is
]
