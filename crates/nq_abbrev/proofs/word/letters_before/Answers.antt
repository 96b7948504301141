use Rattle.std.proofs.Common.{sym, ◌∙◌}
use Rattle.nq_abbrev.proofs.LetterLemmas.{counted_letters, few_letters, no_letters}
use Rattle.nq_abbrev.proofs.word.letters_before.Goals as goal

pub returns-else-count-lt2 : goal.returns-else-count-lt2
returns-else-count-lt2 c = counted_letters c.args.bytes.now c.in-Some.count (sym c.count_letters.ensures.count ∙ c.in-Some.is) c.if-count-lt2.false

pub returns-then-count-lt2 : goal.returns-then-count-lt2
returns-then-count-lt2 c = few_letters c.args.bytes.now c.in-Some.count (sym c.count_letters.ensures.count ∙ c.in-Some.is) c.if-count-lt2.true

pub returns-in-None : goal.returns-in-None
returns-in-None c = no_letters c.args.bytes.now (sym c.count_letters.ensures.count ∙ c.in-None.is)
