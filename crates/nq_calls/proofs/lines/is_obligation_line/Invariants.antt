-- The literals that are left decide.
use Rattle.std.proofs.Common.{◌≡◌, drop}
use Rattle.nq_bank.specs.Content.{term_at, terms_at}
use Rattle.nq_bank.specs.Shells.{texts_at}
use Rattle.nq_proof.specs.Clauses.{is_within}
use Rattle.nq_calls.specs.Calls.{site_at}
use Rattle.nq_calls.specs.Falls.{obligation_at}
use Rattle.nq_calls.proofs.lines.is_obligation_line.Given as goal

abbrev pub invariant-loop-literal : goal.invariant-loop-literal
invariant-loop-literal l =
    is_within (terms_at l.bank l.clause) (obligation_at (texts_at l.bank l.formals) (term_at l.bank l.measure) (site_at l.bank l.site)) ≡
    is_within (terms_at l.bank (drop l.literal-index l.clause)) (obligation_at (texts_at l.bank l.formals) (term_at l.bank l.measure) (site_at l.bank l.site))
