use Rattle.std.proofs.Common.{List, [], ◌∷◌, ◌+◌, drop, sym, ap, ◌∙◌, subst}
use Rattle.std.specs.Prelude.{All}
use Rattle.std.specs.Option.{option_map}
use Rattle.std.proofs.lemmas.List.{at_drop_more, map-append}
use Rattle.nq_logic.specs.Terms.{Name}
use Rattle.nq_bank.specs.Content.{IsNamed, text_at}
use Rattle.nq_bank.specs.Shells.{texts_at}
use Rattle.nq_bank.proofs.Standing.{All-push}
use Rattle.nq_log.specs.States.{variables_at}
use Rattle.nq_check.specs.Contexts.{state_of}
use Rattle.nq_check.proofs.NumberLemmas.{with_front, names_more}
use Rattle.nq_check.proofs.context.Context.variables.Goals as goal

pub loop-number-preserved : goal.loop-number-preserved
loop-number-preserved c =
    let bank = c.args.self.now.bank in
    let block = (state_of c.args.self.now).block in
    let numbers = c.args.numbers.now in
    let names = c.loop-number.names.items in
    let push = c.in_ok-push.ensures.items in
    let rest = drop (c.loop-number.number-index + 1) numbers in (
      c.loop-number.invariant.0
          ∙ at_drop_more (λ rest. with_front (texts_at bank names) (variables_at block rest)) numbers c.loop-number.number-index 0 c.loop-number-test.true
          ∙ names_more block _ rest (texts_at bank names) (text_at bank c.in-Some.s) (sym c.variable.ensures.name ∙ ap (option_map (text_at bank)) c.in-Some.is)
          ∙ ap (λ (xs : List Name). with_front xs (variables_at block rest)) (sym (ap (texts_at bank) push ∙ map-append (text_at bank) names (c.in-Some.s ∷ []))),
      subst (All (IsNamed bank)) (sym push) (All-push (IsNamed bank) names c.in-Some.s c.loop-number.invariant.1 c.in-Some.ensures.stands),
    )
