use Rattle.std.proofs.Common.{get_or, refl, subst}
use Rattle.std.specs.Prelude.{MatchOption, Option}
use Rattle.nq_bank.specs.declared.node.TermId.{TermId}
use Rattle.nq_bank.specs.Content.{term_at, terms_at, text_at}
use Rattle.nq_eliminate.specs.Serving.{ServesAt, ServesNoneOf}
use Rattle.nq_eliminate.proofs.ServingLemmas.{each_all, each_more, element_among}
use Rattle.nq_eliminate.proofs.serving.find_destructor.Goals as goal

pub loop-d-preserved : goal.loop-d-preserved
loop-d-preserved c =
    let first : TermId = record { 0 = 0 } in
    let bank = c.args.bank.now in
    let x = text_at bank c.args.rule.name in
    let g = terms_at bank c.args.goal.now in
    let ds = terms_at bank c.args.destructors.now in
    let us = terms_at bank c.args.calls.now in
    let d = term_at bank (get_or c.args.these.now c.loop-d.d-index first) in
    let none = subst (λ (o : Option TermId). MatchOption o (ServesNoneOf x g ds us d) (ServesAt bank x g ds d)) c.in_default.is c.in_ok-call.ensures in
    each_more (ServesNoneOf x g ds us) (term_at bank) c.args.these.now c.loop-d.d-index first c.loop-d-test.true c.loop-d.invariant none

pub returns-in-Some : goal.returns-in-Some
returns-in-Some c =
    let first : TermId = record { 0 = 0 } in
    let bank = c.args.bank.now in
    let x = text_at bank c.args.rule.name in
    let g = terms_at bank c.args.goal.now in
    let ds = terms_at bank c.args.destructors.now in
    let us = terms_at bank c.args.calls.now in
    let d = term_at bank (get_or c.args.these.now c.loop-d.d-index first) in
    let at : ServesAt bank x g ds d c.in-Some.call = subst (λ (o : Option TermId). MatchOption o (ServesNoneOf x g ds us d) (ServesAt bank x g ds d)) c.in-Some.is c.in_ok-call.ensures in
    record { rule = refl; destructor = c.requires.these c.loop-d.d-index first c.loop-d-test.true; call = at.call; among = element_among (term_at bank) c.args.these.now c.loop-d.d-index first c.loop-d-test.true; served = at.served }

pub returns : goal.returns
returns c =
    let bank = c.args.bank.now in
    let x = text_at bank c.args.rule.name in
    let g = terms_at bank c.args.goal.now in
    let ds = terms_at bank c.args.destructors.now in
    each_all (ServesNoneOf x g ds (terms_at bank c.args.calls.now)) (term_at bank) c.args.these.now c.loop-d.d-index c.loop-d-test.false c.loop-d.invariant
