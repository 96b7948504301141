use Rattle.std.proofs.Common.{ap, sym, ◌∙◌, ◌||◌}
use Rattle.nq_logic.specs.Ground.{symbols_of}
use Rattle.nq_bank.specs.Content.{text_at}
use Rattle.nq_log.specs.States.{introduced_symbols}
use Rattle.nq_proof.specs.Logs.{has_symbol}
use Rattle.nq_check.specs.Contexts.{state_of}
use Rattle.nq_check.proofs.ArityLemmas.{has_symbol_joined}
use Rattle.nq_check.proofs.context.Context.takes_arguments.Goals as goal

pub returns-then-introduces : goal.returns-then-introduces
returns-then-introduces c =
    let s = state_of c.args.self.now in
    let f = text_at c.args.self.now.bank c.args.f in
    c.if-introduces.true
    ∙ ap (λ b. b || has_symbol f c.args.count (symbols_of s.history)) (sym c.if-introduces.true ∙ c.introduces.ensures)
    ∙ sym (has_symbol_joined f c.args.count (introduced_symbols s.block.introduced) (symbols_of s.history))

pub returns-else-introduces : goal.returns-else-introduces
returns-else-introduces c =
    let s = state_of c.args.self.now in
    let f = text_at c.args.self.now.bank c.args.f in
    c.takes_arguments.ensures
    ∙ ap (λ b. b || has_symbol f c.args.count (symbols_of s.history)) (sym c.if-introduces.false ∙ c.introduces.ensures)
    ∙ sym (has_symbol_joined f c.args.count (introduced_symbols s.block.introduced) (symbols_of s.history))
