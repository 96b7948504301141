use Rattle.std.proofs.Common.{sym, subst}
use Rattle.nq_calls.specs.Calls.{SiteStands}
use Rattle.nq_check.proofs.context.Context.show_falls.Goals as goal

pub shows_fall-requires-clause-site : goal.shows_fall-requires-clause-site
shows_fall-requires-clause-site c = subst (SiteStands c.args.self.now.bank) (sym c.index-sites-place.is) (c.requires.sites c.loop-place.place c.index-sites-place.result c.loop-place-test.true)
