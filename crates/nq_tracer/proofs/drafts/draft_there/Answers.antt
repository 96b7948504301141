use Rattle.std.proofs.Common.{map, ap}
use Rattle.nq_logic.specs.Terms.{substituted}
use Rattle.nq_calls.specs.Calls.{guards_at}
use Rattle.nq_clause.specs.Substitution.{substitution_at}
use Rattle.nq_goals.specs.Inducting.{all_of}
use Rattle.nq_tracer.proofs.NextLemmas.{draft_is, id_by_equation}
use Rattle.nq_tracer.proofs.drafts.draft_there.Goals as goal

pub returns-clause-is : goal.returns-clause-is
returns-clause-is c =
    let old = c.args.bank.now in
    let b1 = c.all_tests.new.bank in
    let b2 = c.changes_at.new.bank in
    let s = substitution_at old c.args.here.now in
    draft_is old b1 b2 c.args.measure c.args.here.now c.args.there.now (guards_at old c.args.site.now.guards.items) c.in_ok-test.test c.in_ok-pairs.pairs c.all_tests.ensures.grows c.changes_at.ensures.grows c.requires.measure c.requires.here c.requires.there
    (id_by_equation b1 c.in_ok-test.test (ap (λ gs. all_of (map (substituted s) (guards_at old gs))) c.as_slice.ensures.value) c.in_ok-test.ensures.ok) c.in_ok-pairs.ensures.is
