use Rattle.nq_bank.specs.Content.{Content, text_at}
use Rattle.nq_clause.specs.Binding.{bound_at, bindings_at, variables_of}
use Rattle.nq_logic.specs.Terms.{IsAmong}
use Rattle.std.proofs.Common.{subst, sym}
use Rattle.nq_clause.proofs.MatchLemmas.{bound_compared, match_new}
use Rattle.nq_clause.proofs.matching.bind.Goals as goal

pub returns-in-Some-clause-ok : goal.returns-in-Some-clause-ok
returns-in-Some-clause-ok c =
    let bank : Content = c.args.bank.now in
    bound_compared bank (text_at bank c.args.variable) (bound_at bank c.args.target) (bound_at bank c.in-Some.was) c.args.bindings.now.items c.as_slice.result.now c.is_one_term.result c.as_slice.ensures.value c.requires.stand c.requires.once c.in-Some.ensures.bound.1 c.in-Some.ensures.among c.is_one_term.ensures

pub returns-in_ok-push-in-None-clause-ok : goal.returns-in_ok-push-in-None-clause-ok
returns-in_ok-push-in-None-clause-ok c =
    let bank : Content = c.args.bank.now in
    match_new bank (record { variable = c.args.variable; bound = c.args.target }) c.args.bindings.now.items c.push.new.self.items c.in_ok-push-in-None.ensures.items (record { variable = c.requires.named; bound = c.requires.target }) c.requires.stand c.requires.once (λ m. c.in-None.ensures.among (subst (λ bs. IsAmong (text_at bank c.args.variable) (variables_of (bindings_at bank bs))) (sym c.as_slice.ensures.value) m))
