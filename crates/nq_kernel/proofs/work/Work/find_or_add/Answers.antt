use Rattle.std.proofs.Common.{◌+◌, ◌≤◌, inl, arith}
use Rattle.nq_kernel.specs.Steps.{steps_of}
use Rattle.nq_kernel.proofs.GrowingLemmas.{placed_clause, placed_grows, grows_without_line}
use Rattle.nq_kernel.proofs.StepLemmas.{err_holds, part_passes}
use Rattle.nq_kernel.proofs.work.Work.find_or_add.Goals as goal

pub returns-then-count-clause-line : goal.returns-then-count-clause-line
returns-then-count-clause-line c = placed_clause c.args.self.now.bank c.find_or_add-placed.new.bank c.args.history.now c.args.self.now.log c.find_or_add-placed.new.self c.args.rule c.in-Ok.line c.in-Ok.ensures.line

pub returns-then-count-clause-grows : goal.returns-then-count-clause-grows
returns-then-count-clause-grows c =
    placed_grows c.args.history.now c.args.self.now c.find_or_add-placed.new.bank c.find_or_add-placed.new.self c.count.new.self c.args.rule c.in-Ok.line c.requires.stands c.requires.rule c.requires.over c.find_or_add-placed.ensures.grows c.find_or_add-placed.ensures.symbols c.in-Ok.ensures.line (record { used = c.count.ensures.rises; limit = c.count.ensures.limit })

pub returns-else-count-clause-grows : goal.returns-else-count-clause-grows
returns-else-count-clause-grows c =
    placed_grows c.args.history.now c.args.self.now c.find_or_add-placed.new.bank c.find_or_add-placed.new.self c.count.new.self c.args.rule c.in-Ok.line c.requires.stands c.requires.rule c.requires.over c.find_or_add-placed.ensures.grows c.find_or_add-placed.ensures.symbols c.in-Ok.ensures.line (record { used = c.count.ensures.rises; limit = c.count.ensures.limit })

pub returns-in-Err-Deep-clause-grows : goal.returns-in-Err-Deep-clause-grows
returns-in-Err-Deep-clause-grows c =
    grows_without_line c.args.history.now c.args.self.now c.find_or_add-placed.new.bank c.find_or_add-placed.new.self c.use_up.new.self c.requires.stands c.find_or_add-placed.ensures.grows c.find_or_add-placed.ensures.symbols (err_holds c.find_or_add-placed.result _ _ c.find_or_add-placed.ensures.err c.in-Err-Deep.is) (record { used = c.use_up.ensures.rises; limit = c.use_up.ensures.limit })

pub returns-in-Err-Memory-clause-grows : goal.returns-in-Err-Memory-clause-grows
returns-in-Err-Memory-clause-grows c =
    grows_without_line c.args.history.now c.args.self.now c.find_or_add-placed.new.bank c.find_or_add-placed.new.self c.count-in-Err-Memory.new.self c.requires.stands c.find_or_add-placed.ensures.grows c.find_or_add-placed.ensures.symbols (err_holds c.find_or_add-placed.result _ _ c.find_or_add-placed.ensures.err c.in-Err-Memory.is) (record { used = c.count-in-Err-Memory.ensures.rises; limit = c.count-in-Err-Memory.ensures.limit })

pub returns-else-count-clause-passes : goal.returns-else-count-clause-passes
returns-else-count-clause-passes c =
    λ e.
    let limit = c.args.self.now.counter.limit in
    let used = c.args.self.now.counter.used in
    let not_within : used + c.saturating_add.result ≤ limit → ⊥ = λ h. absurd (let yes = c.count.ensures.fits.1 h in let no = c.if-count.false in cc) in
    let past = part_passes used limit c.from-made.result (steps_of c.args.rule) c.steps_of_line-steps.result c.steps_if-added.result c.saturating_add.result c.steps_of_line-steps.ensures c.steps_if-added.ensures c.saturating_add.ensures (omega (arith, c.count.ensures.bounded, c.count.ensures.limit)) not_within in
    inl (omega (arith, past, c.from-made.ensures, c.saturating_sub.ensures, c.len.ensures, c.len-terms.ensures))
