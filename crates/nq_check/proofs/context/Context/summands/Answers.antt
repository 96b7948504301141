use Rattle.std.proofs.Common.{List, [], ◌∷◌, ◌+◌, drop, map, sym, ap, ◌∙◌, subst}
use Rattle.std.specs.Option.{option_map}
use Rattle.std.proofs.lemmas.List.{at_drop_more, map-append}
use Rattle.nq_bank.proofs.Standing.{All-push}
use Rattle.nq_linear_rule.specs.Sums.{summand_at, summands_at, LiteralStands, LiteralsStand}
use Rattle.nq_logtext.specs.declared.line.Sign.TheVariants.{Plus}
use Rattle.nq_proof.specs.Rules.{Summand}
use Rattle.nq_log.specs.RuleLines.{summands_at as summands_of_block}
use Rattle.nq_check.specs.Contexts.{state_of}
use Rattle.nq_check.specs.Sums.{multiple_of}
use Rattle.nq_check.proofs.NumberLemmas.{with_front}
use Rattle.nq_check.proofs.SumLemmas.{summands_more, summands_stop}
use Rattle.nq_check.proofs.context.Context.summands.Goals as goal

pub returns-in_default-clause-summands : goal.returns-in_default-clause-summands
returns-in_default-clause-summands c =
    let bank = c.args.self.now.bank in
    let block = (state_of c.args.self.now).block in
    let multiples = c.args.multiples.now in
    let summands = c.loop-one.summands.items in
    sym (
    c.loop-one.invariant.0
    ∙ at_drop_more (λ rest. with_front (summands_at bank summands) (summands_of_block block (map multiple_of rest))) multiples c.loop-one.one-index (record { factor = 0; term = 0; sign = Plus }) c.loop-one-test.true
    ∙ summands_stop block _ _ (summands_at bank summands) (sym c.summand.ensures.summand ∙ ap (option_map (summand_at bank)) c.in_default.is)
    )

pub loop-one-preserved : goal.loop-one-preserved
loop-one-preserved c =
    let bank = c.args.self.now.bank in
    let block = (state_of c.args.self.now).block in
    let multiples = c.args.multiples.now in
    let summands = c.loop-one.summands.items in
    let push = c.in_ok-push.ensures.items in
    let rest = map multiple_of (drop (c.loop-one.one-index + 1) multiples) in (
      c.loop-one.invariant.0
          ∙ at_drop_more (λ rest. with_front (summands_at bank summands) (summands_of_block block (map multiple_of rest))) multiples c.loop-one.one-index (record { factor = 0; term = 0; sign = Plus }) c.loop-one-test.true
          ∙ summands_more block _ rest (summands_at bank summands) (summand_at bank c.in-Some.summand) (sym c.summand.ensures.summand ∙ ap (option_map (summand_at bank)) c.in-Some.is)
          ∙ ap (λ (ss : List Summand). with_front ss (summands_of_block block rest)) (sym (ap (summands_at bank) push ∙ map-append (summand_at bank) summands (c.in-Some.summand ∷ []))),
      subst (LiteralsStand bank) (sym push) (All-push (LiteralStands bank) summands c.in-Some.summand c.loop-one.invariant.1 c.in-Some.ensures.stands),
    )
