use Rattle.std.proofs.Common.{sym}
use Rattle.nq_bank.specs.Content.{text_at, term_at}
use Rattle.nq_quick.proofs.HeadLemmas.{joined_head, no_joined}
use Rattle.nq_quick.proofs.heads.head_of_two.Goals as goal

pub returns-in-Some : goal.returns-in-Some
returns-in-Some c = joined_head c.args.bank.now c.args.t (text_at c.args.bank.now c.args.f) c.in-Some.c c.args.p c.args.q c.requires.call (sym c.in-Some.ensures) c.requires.left c.requires.right

pub returns-in-None : goal.returns-in-None
returns-in-None c = no_joined c.args.bank.now c.args.t (text_at c.args.bank.now c.args.f) (term_at c.args.bank.now c.args.p) (term_at c.args.bank.now c.args.q) c.requires.call (sym c.in-None.ensures)
