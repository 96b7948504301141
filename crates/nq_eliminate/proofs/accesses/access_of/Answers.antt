use Rattle.std.proofs.Common.{sym}
use Rattle.nq_bank.specs.Content.{term_at}
use Rattle.nq_bank.specs.Shells.{shells_at}
use Rattle.nq_stuck.proofs.DestructorLemmas.{accessor_number}
use Rattle.nq_eliminate.proofs.accesses.access_of.Goals as goal

pub returns-in-Num : goal.returns-in-Num
returns-in-Num c =
    let bank = c.args.bank.now in
    sym (accessor_number (shells_at bank c.args.shells.now) (term_at bank c.args.t) c.in-Num.field-0 c.in-Num.ensures.head.1)
