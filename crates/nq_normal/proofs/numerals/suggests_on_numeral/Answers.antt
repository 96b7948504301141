use Rattle.std.proofs.Common.{sym, ap, ◌∙◌, [], ◌∷◌}
use Rattle.std.specs.Option.{option_map}
use Rattle.nq_logic.specs.Words.{numeral}
use Rattle.nq_bank.specs.Content.{term_at}
use Rattle.nq_events.specs.Inductions.{suggests_by}
use Rattle.nq_normal.specs.Definitions.{definition_at}
use Rattle.nq_normal.proofs.numerals.suggests_on_numeral.Goals as goal

pub returns-in_ok-answer-in-Some : goal.returns-in_ok-answer-in-Some
returns-in_ok-answer-in-Some c =
    let d = definition_at c.args.bank.now c.args.definition in
    λ n. c.in_ok-answer-in-Some.ensures n ∙ sym (ap (λ m. suggests_by d (option_map (term_at c.args.bank.now) m) (numeral n ∷ [])) c.in-Some.is)

pub returns-in-None : goal.returns-in-None
returns-in-None c =
    let d = definition_at c.args.bank.now c.args.definition in
    λ n. sym (ap (λ m. suggests_by d (option_map (term_at c.args.bank.now) m) (numeral n ∷ [])) c.in-None.is)
