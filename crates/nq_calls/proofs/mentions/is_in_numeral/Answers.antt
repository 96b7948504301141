use Rattle.std.proofs.Common.{◌∙◌, sym, arith}
use Rattle.std.proofs.lemmas.Bool.{le-ltb}
use Rattle.nq_bank.specs.Content.{text_at}
use Rattle.nq_calls.proofs.MentionLemmas.{zero_in_numeral, add1_in_numeral, only_zero_in_0}
use Rattle.nq_calls.proofs.mentions.is_in_numeral.Goals as goal

pub returns-then-is_ground : goal.returns-then-is_ground
returns-then-is_ground c = c.if-is_ground.true ∙ sym (zero_in_numeral (text_at c.args.bank.now c.args.f) c.args.n (sym c.if-is_ground.ensures))

pub returns-then-n-gt0 : goal.returns-then-n-gt0
returns-then-n-gt0 c = c.is_ground-then-n-gt0.ensures ∙ sym (add1_in_numeral (text_at c.args.bank.now c.args.f) c.args.n c.if-n-gt0.true (sym c.if-is_ground.ensures))

pub returns-else-n-gt0 : goal.returns-else-n-gt0
returns-else-n-gt0 c =
    le-ltb 0 c.args.n c.if-n-gt0.false ∙ c.if-is_ground.ensures ∙ sym (only_zero_in_0 (text_at c.args.bank.now c.args.f) c.args.n (omega (arith, c.if-n-gt0.false)))
