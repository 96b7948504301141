use Rattle.std.proofs.Common.{sym, ap, ◌∙◌, [], ◌∷◌, Some, arith}
use Rattle.std.specs.Option.{option_map}
use Rattle.nq_logic.specs.Words.{numeral}
use Rattle.nq_bank.specs.declared.node.Sym.{Sym}
use Rattle.nq_bank.proofs.SoundLemmas.{text_at-ground}
use Rattle.nq_history.specs.Events.{events_at}
use Rattle.nq_events.specs.Inductions.{definition_if, suggests_of}
use Rattle.nq_normal.specs.Definitions.{definition_at}
use Rattle.nq_normal.proofs.numerals.successor_suggests.Goals as goal

pub returns-in_ok-answer-in-Some : goal.returns-in_ok-answer-in-Some
returns-in_ok-answer-in-Some c =
    let s : Sym = record { 0 = 7 } in
    let bank = c.args.bank.now in
    let h = events_at bank c.args.history.now in
    let found = sym (ap (λ x. definition_if h (Some x)) (text_at-ground bank s c.is_sound.ensures (omega arith))) ∙ (sym c.definition_of.ensures.is ∙ ap (option_map (definition_at bank)) c.in-Some.is) in
    λ n. c.in_ok-answer-in-Some.ensures n ∙ ap (λ o. suggests_of o (numeral n ∷ [])) (sym found)

pub returns-in-None : goal.returns-in-None
returns-in-None c =
    let s : Sym = record { 0 = 7 } in
    let bank = c.args.bank.now in
    let h = events_at bank c.args.history.now in
    let found = sym (ap (λ x. definition_if h (Some x)) (text_at-ground bank s c.is_sound.ensures (omega arith))) ∙ (sym c.definition_of.ensures.is ∙ ap (option_map (definition_at bank)) c.in-None.is) in
    λ n. ap (λ o. suggests_of o (numeral n ∷ [])) (sym found)
