use Rattle.nq_bank.specs.Content.{term_at}
use Rattle.nq_bank.specs.Shells.{shells_at}
use Rattle.nq_moves.proofs.NumberingLemmas.{some_is}
use Rattle.nq_eliminate.specs.Shells.{IsAccess}
use Rattle.nq_eliminate.proofs.AccessLemmas.{access_no_value}
use Rattle.nq_eliminate.proofs.accesses.access_in.Goals as goal

pub stands_here-requires-clause-other : goal.stands_here-requires-clause-other
stands_here-requires-clause-other c =
    let bank = c.args.bank.now in
    let shells = shells_at bank c.args.shells.now in
    access_no_value bank shells (term_at bank c.args.t) c.in-Some.access (some_is _ (IsAccess bank shells (term_at bank c.args.t)) c.access_of.result c.in-Some.access c.access_of.ensures c.in-Some.is)
