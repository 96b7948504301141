use Rattle.std.proofs.Common.{ap, sym, subst}
use Rattle.nq_bank.specs.Content.{Grows}
use Rattle.nq_bank.proofs.Growth.{Grows-refl}
use Rattle.nq_steps.proofs.NameLemmas.{no_names}
use Rattle.nq_replay.proofs.UncountedLemmas.{bank_uncounted}
use Rattle.nq_descents.proofs.making.call_of_one.Goals as goal

pub returns-in-Ok : goal.returns-in-Ok
returns-in-Ok c = bank_uncounted c.args.history.now c.args.work.now c.app.new.self c.requires.stands c.in-Ok.ensures.ok.grows (no_names c.args.work.now.bank c.app.new.self c.in-Ok.ensures.ok.names)

pub returns-in-Err-Memory : goal.returns-in-Err-Memory
returns-in-Err-Memory c =
    bank_uncounted c.args.history.now c.args.work.now c.app.new.self c.requires.stands (subst (Grows c.args.work.now.bank) (sym c.in-Err-Memory.ensures.err) (Grows-refl c.args.work.now.bank)) (no_names c.args.work.now.bank c.app.new.self (ap (λ bank. bank.names) c.in-Err-Memory.ensures.err))

pub returns-in-Err-Deep : goal.returns-in-Err-Deep
returns-in-Err-Deep c =
    bank_uncounted c.args.history.now c.args.work.now c.app.new.self c.requires.stands (subst (Grows c.args.work.now.bank) (sym c.in-Err-Deep.ensures.err) (Grows-refl c.args.work.now.bank)) (no_names c.args.work.now.bank c.app.new.self (ap (λ bank. bank.names) c.in-Err-Deep.ensures.err))
