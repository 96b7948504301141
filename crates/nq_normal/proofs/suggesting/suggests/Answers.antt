use Rattle.std.proofs.Common.{sym, ap, ◌∙◌}
use Rattle.std.specs.Option.{option_map}
use Rattle.nq_bank.specs.Content.{terms_at}
use Rattle.nq_events.specs.Inductions.{suggests_of}
use Rattle.nq_normal.specs.Definitions.{definition_at}
use Rattle.nq_normal.proofs.suggesting.suggests.Goals as goal

pub returns-in_ok-answer-in-Some : goal.returns-in_ok-answer-in-Some
returns-in_ok-answer-in-Some c =
    let bank = c.args.bank.now in
    c.in_ok-answer-in-Some.ensures ∙ ap (λ o. suggests_of o (terms_at bank c.args.arguments.now)) (sym (ap (option_map (definition_at bank)) c.in-Some.is) ∙ c.definition_of.ensures.is)

pub returns-in-None : goal.returns-in-None
returns-in-None c =
    let bank = c.args.bank.now in
    ap (λ o. suggests_of o (terms_at bank c.args.arguments.now)) (sym (ap (option_map (definition_at bank)) c.in-None.is) ∙ c.definition_of.ensures.is)
