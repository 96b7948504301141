use Rattle.std.proofs.Common.{List, [], ◌∷◌, ◌+◌, drop, sym, ap, ◌∙◌, subst}
use Rattle.std.specs.Prelude.{All}
use Rattle.std.specs.Option.{option_map}
use Rattle.std.proofs.lemmas.List.{at_drop_more, map-append}
use Rattle.nq_logic.specs.Terms.{Term}
use Rattle.nq_bank.specs.Content.{Stands, term_at, terms_at}
use Rattle.nq_bank.proofs.Standing.{All-push}
use Rattle.nq_log.specs.States.{terms_at as terms_of_block}
use Rattle.nq_check.specs.Contexts.{state_of}
use Rattle.nq_check.proofs.NumberLemmas.{with_front, front_more}
use Rattle.nq_check.proofs.context.Context.terms.Goals as goal

pub loop-number-preserved : goal.loop-number-preserved
loop-number-preserved c =
    let bank = c.args.self.now.bank in
    let block = (state_of c.args.self.now).block in
    let numbers = c.args.numbers.now in
    let ids = c.loop-number.terms.items in
    let push = c.in_ok-push.ensures.items in
    let rest = drop (c.loop-number.number-index + 1) numbers in (
      c.loop-number.invariant.0
          ∙ at_drop_more (λ rest. with_front (terms_at bank ids) (terms_of_block block rest)) numbers c.loop-number.number-index 0 c.loop-number-test.true
          ∙ front_more block _ rest (terms_at bank ids) (term_at bank c.in-Some.t) (sym c.term.ensures.term ∙ ap (option_map (term_at bank)) c.in-Some.is)
          ∙ ap (λ (ts : List Term). with_front ts (terms_of_block block rest)) (sym (ap (terms_at bank) push ∙ map-append (term_at bank) ids (c.in-Some.t ∷ []))),
      subst (All (Stands bank)) (sym push) (All-push (Stands bank) ids c.in-Some.t c.loop-number.invariant.1 c.in-Some.ensures.stands),
    )
