-- The calls that are left decide.
use Rattle.std.proofs.Common.{◌≡◌, drop}
use Rattle.nq_bank.specs.Content.{term_at}
use Rattle.nq_bank.specs.Shells.{texts_at}
use Rattle.nq_calls.specs.Calls.{sites_at}
use Rattle.nq_check.specs.Contexts.{state_of}
use Rattle.nq_check.specs.Measures.{are_shown}
use Rattle.nq_check.proofs.context.Context.show_falls.Given as goal

abbrev pub invariant-loop-place : goal.invariant-loop-place
invariant-loop-place l =
    are_shown (state_of l.self).block (texts_at l.self.bank l.formals) (term_at l.self.bank l.measure) (sites_at l.self.bank (drop l.place l.sites)) (drop l.place l.lines)
    ≡ are_shown (state_of l.self).block (texts_at l.self.bank l.formals) (term_at l.self.bank l.measure) (sites_at l.self.bank l.sites) l.lines
