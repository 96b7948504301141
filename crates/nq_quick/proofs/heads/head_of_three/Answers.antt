use Rattle.std.proofs.Common.{sym, ◌∙◌}
use Rattle.nq_bank.specs.Content.{text_at, term_at}
use Rattle.nq_quick.proofs.HeadLemmas.{choice_head, no_choice}
use Rattle.nq_quick.proofs.heads.head_of_three.Goals as goal

pub returns-then-is_ground : goal.returns-then-is_ground
returns-then-is_ground c = choice_head c.args.bank.now c.args.t (text_at c.args.bank.now c.args.f) (record { test = c.args.p; first = c.args.x; second = c.args.y }) c.requires.call (sym c.is_ground.ensures ∙ c.if-is_ground.true) c.requires.test c.requires.first c.requires.second

pub returns-else-is_ground : goal.returns-else-is_ground
returns-else-is_ground c = no_choice c.args.bank.now c.args.t (text_at c.args.bank.now c.args.f) (term_at c.args.bank.now c.args.p) (term_at c.args.bank.now c.args.x) (term_at c.args.bank.now c.args.y) c.requires.call (sym c.is_ground.ensures ∙ c.if-is_ground.false)
