use Rattle.nq_bank.specs.Content.{Content}
use Rattle.nq_steps.proofs.NameLemmas.{no_names}
use Rattle.nq_replay.proofs.UncountedLemmas.{bank_uncounted, grown_refl}
use Rattle.std.proofs.Common.{subst, sym}
use Rattle.nq_replay.specs.Uncounted.{GrowsUncounted}
use Rattle.nq_measures.proofs.finding.ordinal_literal.Goals as goal

pub returns-in-Ok-clause-grows : goal.returns-in-Ok-clause-grows
returns-in-Ok-clause-grows c = bank_uncounted c.args.history.now c.args.work.now c.app.new.self c.requires.stands c.in-Ok.ensures.ok.grows (no_names c.args.work.now.bank c.app.new.self c.in-Ok.ensures.ok.names)

pub returns-in-Err-clause-grows : goal.returns-in-Err-clause-grows
returns-in-Err-clause-grows c = subst (λ (b : Content). GrowsUncounted c.args.history.now c.args.work.now (record c.args.work.now { bank = b })) (sym c.in-Err.ensures.err) (grown_refl c.args.history.now c.args.work.now c.requires.stands)
