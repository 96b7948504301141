use Rattle.nq_bank.specs.Content.{term_at}
use Rattle.nq_decrease.proofs.NestLemmas.{no_call_shell, shell_found}
use Rattle.nq_decrease.proofs.descents.outermost.Goals as goal

pub returns-in-None : goal.returns-in-None
returns-in-None c = no_call_shell (term_at c.args.bank.now c.args.t) c.in-None.ensures

pub returns-in-Some : goal.returns-in-Some
returns-in-Some c = shell_found c.args.bank.now c.args.t c.in-Some.c c.kind_of.result c.in-Some.ensures c.kind_of.ensures
