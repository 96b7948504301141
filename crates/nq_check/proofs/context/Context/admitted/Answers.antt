use Rattle.std.proofs.Common.{sym, ◌∙◌}
use Rattle.nq_logic.specs.Names.{is_in_use}
use Rattle.nq_bank.specs.Content.{text_at}
use Rattle.nq_log.specs.ClosingLines.{introduces}
use Rattle.nq_check.specs.Contexts.{state_of}
use Rattle.nq_check.proofs.DefinitionLemmas.{named_free}
use Rattle.nq_check.proofs.context.Context.admitted.Goals as goal

pub measure_of-requires-clause-apart : goal.measure_of-requires-clause-apart
measure_of-requires-clause-apart c =
    let s = state_of c.args.self.now in
    c.apart_if_unused.ensures (text_at c.args.self.now.bank c.args.f) s.history (named_free (is_in_use (text_at c.args.self.now.bank c.args.f) s.history) _ (sym c.may_name.ensures ∙ c.if-not-may_name.false))
