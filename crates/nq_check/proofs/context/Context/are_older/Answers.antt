use Rattle.std.proofs.Common.{sym, subst}
use Rattle.std.specs.Prelude.{All}
use Rattle.nq_bank.specs.Content.{Stands}
use Rattle.nq_calls.specs.Calls.{SiteStands}
use Rattle.nq_check.proofs.context.Context.are_older.Goals as goal

pub is_in_used-requires-clause-arguments : goal.is_in_used-requires-clause-arguments
is_in_used-requires-clause-arguments c =
    let bank = c.args.self.now.bank in
    subst (All (Stands bank)) (sym c.as_slice-arguments.ensures.value) (subst (SiteStands bank) (sym c.site-item.is) (c.requires.sites c.loop-site.site-index c.site-item.result c.loop-site-test.true)).arguments
