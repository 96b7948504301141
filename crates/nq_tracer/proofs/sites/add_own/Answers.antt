use Rattle.std.proofs.Common.{List, sym, subst}
use Rattle.std.specs.Prelude.{All}
use Rattle.nq_bank.proofs.Standing.{All-push}
use Rattle.nq_calls.specs.declared.calls.Site.{Site}
use Rattle.nq_calls.specs.Calls.{SiteStands}
use Rattle.nq_calls.proofs.CallLemmas.{site_stands}
use Rattle.nq_tracer.proofs.sites.add_own.Goals as goal

pub returns-clause-stand : goal.returns-clause-stand
returns-clause-stand c =
    subst (λ (sites : List Site). All (SiteStands c.args.bank.now) sites) (sym c.in_ok-push.ensures.items)
    (All-push (SiteStands c.args.bank.now) c.args.sites.now.items _ c.requires.sites
    (site_stands c.args.bank.now c.in_ok-guards.guards c.in_ok-arguments.arguments c.args.path.now c.args.args.now c.in_ok-guards.ensures.items c.in_ok-arguments.ensures.items c.requires.path c.requires.arguments))
