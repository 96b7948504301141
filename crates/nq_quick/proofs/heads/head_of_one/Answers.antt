use Rattle.std.proofs.Common.{sym, ◌∙◌}
use Rattle.nq_bank.specs.Content.{text_at, term_at}
use Rattle.nq_quick.proofs.HeadLemmas.{denial_head, no_denial}
use Rattle.nq_quick.proofs.heads.head_of_one.Goals as goal

pub returns-then-is_ground : goal.returns-then-is_ground
returns-then-is_ground c = denial_head c.args.bank.now c.args.t (text_at c.args.bank.now c.args.f) c.args.p c.requires.call (sym c.is_ground.ensures ∙ c.if-is_ground.true) c.requires.before

pub returns-else-is_ground : goal.returns-else-is_ground
returns-else-is_ground c = no_denial c.args.bank.now c.args.t (text_at c.args.bank.now c.args.f) (term_at c.args.bank.now c.args.p) c.requires.call (sym c.is_ground.ensures ∙ c.if-is_ground.false)
