use Rattle.std.proofs.Common.{sym, ◌∙◌}
use Rattle.nq_bank.specs.Content.{text_at}
use Rattle.nq_quick.proofs.HeadLemmas.{truth_head, falsity_head, no_constant}
use Rattle.nq_quick.proofs.heads.head_of_constant.Goals as goal

pub returns-then-is_ground : goal.returns-then-is_ground
returns-then-is_ground c = truth_head c.args.bank.now c.args.t (text_at c.args.bank.now c.args.f) c.requires.call (sym c.is_ground.ensures ∙ c.if-is_ground.true)

pub returns-then-is_ground-2 : goal.returns-then-is_ground-2
returns-then-is_ground-2 c = falsity_head c.args.bank.now c.args.t (text_at c.args.bank.now c.args.f) c.requires.call (sym c.is_ground-else-is_ground.ensures ∙ c.if-is_ground-2.true)

pub returns-else-is_ground-2 : goal.returns-else-is_ground-2
returns-else-is_ground-2 c = no_constant c.args.bank.now c.args.t (text_at c.args.bank.now c.args.f) c.requires.call (sym c.is_ground.ensures ∙ c.if-is_ground.false) (sym c.is_ground-else-is_ground.ensures ∙ c.if-is_ground-2.false)
