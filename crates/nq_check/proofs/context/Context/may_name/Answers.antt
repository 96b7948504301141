use Rattle.std.proofs.Common.{ap, sym, ◌∙◌, ◌&&◌, not}
use Rattle.std.specs.Option.{option_map}
use Rattle.nq_bank.specs.Content.{text_at}
use Rattle.nq_log.specs.ClosingLines.{introduces}
use Rattle.nq_check.specs.Contexts.{function_of}
use Rattle.nq_check.proofs.ArityLemmas.{one_symbol}
use Rattle.nq_check.proofs.context.Context.may_name.Goals as goal

pub returns-in-Some : goal.returns-in-Some
returns-in-Some c =
    let old = c.args.self.now in
    let f = text_at old.bank c.args.f in
    c.is_symbol.ensures ∙ one_symbol (text_at old.bank c.in-Some.known.function) f c.in-Some.known.arity c.args.count
    ∙ sym (ap (λ o. introduces (option_map (function_of old.bank) o) f c.args.count) c.in-Some.is)
    ∙ ap (λ b. not b && introduces (option_map (function_of old.bank) old.introduced) f c.args.count) (sym c.if-in_use.false ∙ c.in_use.ensures)
