use Rattle.std.proofs.Common.{sym, ap, ◌∙◌, []}
use Rattle.std.specs.Option.{option_map}
use Rattle.nq_bank.specs.Content.{term_at}
use Rattle.nq_events.specs.Inductions.{suggests_by}
use Rattle.nq_normal.specs.Definitions.{definition_at}
use Rattle.nq_normal.proofs.NumeralLemmas.{zero_by}
use Rattle.nq_normal.proofs.numerals.suggests_alone.Goals as goal

pub returns-in-Some : goal.returns-in-Some
returns-in-Some c =
    let d = definition_at c.args.bank.now c.args.definition in
    zero_by d (term_at c.args.bank.now c.in-Some.field-0) ∙ sym (ap (λ m. suggests_by d (option_map (term_at c.args.bank.now) m) []) c.in-Some.is)

pub returns-in-None : goal.returns-in-None
returns-in-None c =
    let d = definition_at c.args.bank.now c.args.definition in
    sym (ap (λ m. suggests_by d (option_map (term_at c.args.bank.now) m) []) c.in-None.is)
