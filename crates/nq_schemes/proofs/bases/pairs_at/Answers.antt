use Rattle.std.proofs.Common.{◌∙◌, sym, subst}
use Rattle.std.specs.Prelude.{All}
use Rattle.nq_bank.proofs.Standing.{All-push}
use Rattle.nq_schemes.specs.Known.{IsOpenedIn}
use Rattle.nq_schemes.proofs.bases.pairs_at.Goals as goal

pub pairs_of-requires : goal.pairs_of-requires
pairs_of-requires c = subst (All (IsOpenedIn c.args.history.now c.args.work.now)) (sym (c.as_slice.ensures.value ∙ c.in_ok-known.ensures.all)) (All-push (IsOpenedIn c.args.history.now c.args.work.now) c.args.opened.now _ c.requires.opened (record { call = c.requires.measure; body = c.requires.measure }))
