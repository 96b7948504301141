use Rattle.std.proofs.Common.{sym}
use Rattle.nq_bank.specs.Content.{text_at}
use Rattle.nq_value.proofs.TableLemmas.{nothing, unknown_is_no_one, unknown_is_no_two, unknown_is_no_three}
use Rattle.nq_value.proofs.table.found_for.Goals as goal

pub returns-in-None : goal.returns-in-None
returns-in-None c =
    let bank = c.args.bank.now in
    let f = text_at bank c.args.f in
    let none = sym c.in-None.ensures.found in
    nothing bank f c.args.arguments.now (λ e. unknown_is_no_one f none) (λ e. unknown_is_no_two f none) (λ e. unknown_is_no_three f none)
