use Rattle.std.proofs.Common.{List, [], ◌∷◌, ◌+◌, drop, map, sym, ap, ◌∙◌, subst}
use Rattle.std.specs.Prelude.{All}
use Rattle.std.specs.Option.{option_map}
use Rattle.std.proofs.lemmas.List.{at_drop_more, map-append}
use Rattle.nq_logic.specs.Terms.{Name, Term}
use Rattle.nq_bank.proofs.Standing.{All-push}
use Rattle.nq_clause.specs.Substitution.{substitution_at, PairStands}
use Rattle.nq_log.specs.RuleLines.{substitution_at as substitution_of_block}
use Rattle.nq_check.specs.Contexts.{pair_of, state_of}
use Rattle.nq_check.specs.Pairs.{pair_at}
use Rattle.nq_check.proofs.NumberLemmas.{with_front, pairs_more, pairs_stop}
use Rattle.nq_check.proofs.context.Context.pairs.Goals as goal

pub returns-in_default-clause-pairs : goal.returns-in_default-clause-pairs
returns-in_default-clause-pairs c =
    let bank = c.args.self.now.bank in
    let block = (state_of c.args.self.now).block in
    let bindings = c.args.bindings.now in
    let pairs = c.loop-binding.pairs.items in
    sym (
    c.loop-binding.invariant.0
    ∙ at_drop_more (λ rest. with_front (substitution_at bank pairs) (substitution_of_block block (map pair_of rest))) bindings c.loop-binding.binding-index (record { variable = 0; term = 0 }) c.loop-binding-test.true
    ∙ pairs_stop block _ _ (substitution_at bank pairs) (sym c.pair.ensures.pair ∙ ap (option_map (pair_at bank)) c.in_default.is)
    )

pub loop-binding-preserved : goal.loop-binding-preserved
loop-binding-preserved c =
    let bank = c.args.self.now.bank in
    let block = (state_of c.args.self.now).block in
    let bindings = c.args.bindings.now in
    let pairs = c.loop-binding.pairs.items in
    let push = c.in_ok-push.ensures.items in
    let rest = map pair_of (drop (c.loop-binding.binding-index + 1) bindings) in (
      c.loop-binding.invariant.0
          ∙ at_drop_more (λ rest. with_front (substitution_at bank pairs) (substitution_of_block block (map pair_of rest))) bindings c.loop-binding.binding-index (record { variable = 0; term = 0 }) c.loop-binding-test.true
          ∙ pairs_more block _ rest (substitution_at bank pairs) (pair_at bank c.in-Some.pair) (sym c.pair.ensures.pair ∙ ap (option_map (pair_at bank)) c.in-Some.is)
          ∙ ap (λ (ps : List (Name × Term)). with_front ps (substitution_of_block block rest)) (sym (ap (substitution_at bank) push ∙ map-append (pair_at bank) pairs (c.in-Some.pair ∷ []))),
      subst (All (PairStands bank)) (sym push) (All-push (PairStands bank) pairs c.in-Some.pair c.loop-binding.invariant.1 c.in-Some.ensures.stands),
    )
