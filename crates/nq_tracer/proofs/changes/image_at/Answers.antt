use Rattle.std.proofs.lemmas.Result.{IfOk-weaker}
use Rattle.nq_logic.specs.Terms.{substituted}
use Rattle.nq_bank.specs.Content.{IsIdOf, term_at, text_at}
use Rattle.nq_clause.specs.Substitution.{substitution_at}
use Rattle.nq_tracer.specs.Cases.{image_by}
use Rattle.nq_tracer.proofs.ChangeSteps.{image_is}
use Rattle.nq_tracer.proofs.changes.image_at.Goals as goal

pub returns-clause-ok : goal.returns-clause-ok
returns-clause-ok c =
    let old = c.args.bank.now in
    let b1 = c.var.new.self in
    let b2 = c.substitute.new.bank in
    let b3 = c.substitute-2.new.bank in
    let here = c.args.here.now in
    let there = c.args.there.now in
    let name = text_at old c.args.formal in
    IfOk-weaker c.substitute-2.result (λ i. IsIdOf b3 i (substituted (substitution_at b2 here) (term_at b2 c.in_ok-at_call.at_call))) (λ i. IsIdOf b3 i (image_by (substitution_at old here) (substitution_at old there) name))
    (λ i is. image_is old b1 b2 b3 here there name c.in-Ok.variable c.in_ok-at_call.at_call i c.in-Ok.ensures.ok.grows c.substitute.ensures.grows c.requires.here c.requires.there c.in-Ok.ensures.ok.id c.in_ok-at_call.ensures.ok is)
    c.substitute-2.ensures.ok
