use Rattle.std.proofs.Common.{sym}
use Rattle.nq_bank.specs.Content.{term_at, text_at}
use Rattle.nq_bank.specs.Shells.{shells_at}
use Rattle.nq_stuck.proofs.DestructorLemmas.{variable_number}
use Rattle.nq_eliminate.proofs.AccessLemmas.{not_variable}
use Rattle.nq_eliminate.proofs.accesses.access_on.Goals as goal

pub returns-in-Num : goal.returns-in-Num
returns-in-Num c =
    let bank = c.args.bank.now in
    not_variable (shells_at bank c.args.shells.now) (text_at bank c.args.f) (term_at bank c.args.t) (sym (variable_number (term_at bank c.args.t) c.in-Num.field-0 c.in-Num.ensures.head.1))
