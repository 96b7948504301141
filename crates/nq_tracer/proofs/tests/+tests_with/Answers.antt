use Rattle.std.proofs.Common.{◌∷◌, false, map}
use Rattle.std.proofs.lemmas.Result.{IfOk-weaker}
use Rattle.nq_logic.specs.Terms.{substituted}
use Rattle.nq_logic.specs.Words.{and_term}
use Rattle.nq_bank.specs.Content.{IsIdOf, term_at}
use Rattle.nq_clause.specs.Substitution.{substitution_at}
use Rattle.nq_calls.specs.declared.calls.Guard.{Guard}
use Rattle.nq_calls.specs.Calls.{guard_at, guards_at}
use Rattle.nq_goals.specs.Inducting.{all_of}
use Rattle.nq_tracer.proofs.TestLemmas.{both_tests}
use Rattle.nq_tracer.proofs.tests.+tests_with.Goals as goal

pub returns-in_ok-test-in-len1-up-clause-ok : goal.returns-in_ok-test-in-len1-up-clause-ok
returns-in_ok-test-in-len1-up-clause-ok t c =
    let old = c.args.bank.now in
    let b1 = c.tests_with.new.bank in
    let b2 = c.test_at-in-len1-up.new.bank in
    let b3 = c.both.new.bank in
    let here = c.args.here.now in
    let first = c.args.first in
    let rest = c.args.rest.now in
    let later = c.in_ok-later-in-len1-up.later in
    let test = c.in_ok-test-in-len1-up.test in
    let d : Guard = record { test = record { 0 = 0 }; holds = false } in
    IfOk-weaker c.both.result (λ w. IsIdOf b3 w (and_term (term_at b2 test) (term_at b2 later))) (λ w. IsIdOf b3 w (all_of (map (substituted (substitution_at old here)) (guard_at old first ∷ guards_at old rest))))
    (λ w is.
    both_tests old b1 b2 b3 here first rest d test later w c.in-len1-up.len_at_least c.tests_with.ensures.grows c.test_at-in-len1-up.ensures.grows c.requires.pairs c.requires.first c.in_ok-later-in-len1-up.ensures.ok c.in_ok-test-in-len1-up.ensures.ok is)
    c.both.ensures.ok
