use Rattle.std.proofs.Common.{ap, sym, subst}
use Rattle.nq_bank.specs.Content.{Grows}
use Rattle.nq_bank.proofs.Growth.{Grows-refl}
use Rattle.nq_steps.proofs.NameLemmas.{no_names}
use Rattle.nq_kernel.proofs.GrowingLemmas.{bank_grows, uncounted}
use Rattle.nq_kernel.proofs.work.Work.app.Goals as goal

pub returns-else-count-clause-grows : goal.returns-else-count-clause-grows
returns-else-count-clause-grows c = bank_grows c.args.history.now c.args.self.now c.app.new.self c.count.new.self c.requires.stands c.in-Ok.ensures.ok.grows (no_names c.args.self.now.bank c.app.new.self c.in-Ok.ensures.ok.names) (record { used = c.count.ensures.rises; limit = c.count.ensures.limit })

pub returns-in-Err-Deep-clause-grows : goal.returns-in-Err-Deep-clause-grows
returns-in-Err-Deep-clause-grows c = bank_grows c.args.history.now c.args.self.now c.app.new.self c.use_up.new.self c.requires.stands (subst (Grows c.args.self.now.bank) (sym c.in-Err-Deep.ensures.err) (Grows-refl c.args.self.now.bank)) (no_names c.args.self.now.bank c.app.new.self (ap (λ bank. bank.names) c.in-Err-Deep.ensures.err)) (record { used = c.use_up.ensures.rises; limit = c.use_up.ensures.limit })

pub returns-then-count-clause-grows : goal.returns-then-count-clause-grows
returns-then-count-clause-grows c = bank_grows c.args.history.now c.args.self.now c.app.new.self c.count.new.self c.requires.stands c.in-Ok.ensures.ok.grows (no_names c.args.self.now.bank c.app.new.self c.in-Ok.ensures.ok.names) (record { used = c.count.ensures.rises; limit = c.count.ensures.limit })

pub returns-in-Err-Memory-clause-grows : goal.returns-in-Err-Memory-clause-grows
returns-in-Err-Memory-clause-grows c = bank_grows c.args.history.now c.args.self.now c.app.new.self c.args.self.now.counter c.requires.stands (subst (Grows c.args.self.now.bank) (sym c.in-Err-Memory.ensures.err) (Grows-refl c.args.self.now.bank)) (no_names c.args.self.now.bank c.app.new.self (ap (λ bank. bank.names) c.in-Err-Memory.ensures.err)) (uncounted c.args.self.now.counter)
