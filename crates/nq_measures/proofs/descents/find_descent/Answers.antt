use Rattle.std.proofs.Common.{◌∙◌, List, sym, subst}
use Rattle.nq_logic.specs.Terms.{value_at}
use Rattle.nq_logic.specs.Admissible.{matched}
use Rattle.nq_bank.specs.declared.node.TermId.{TermId}
use Rattle.nq_bank.specs.Content.{IsIdOf, text_at, terms_at}
use Rattle.nq_bank.specs.Shells.{texts_at}
use Rattle.nq_rule.proofs.Made.{for_ok}
use Rattle.nq_replay.proofs.UncountedLemmas.{grown_refl}
use Rattle.nq_measures.proofs.DescentLemmas.{part_shallow, mention_is_no_part, descent_found}
use Rattle.nq_measures.proofs.descents.find_descent.Goals as goal

pub returns-in_err-mentions_at-in-Some-clause-grows : goal.returns-in_err-mentions_at-in-Some-clause-grows
returns-in_err-mentions_at-in-Some-clause-grows c = grown_refl c.args.history.now c.args.work.now c.requires.stands

pub returns-then-branch-clause-found : goal.returns-then-branch-clause-found
returns-then-branch-clause-found c =
    mention_is_no_part c.args.history.now c.args.work.now.bank c.args.f c.args.formals.now c.args.measure c.args.x c.args.site.now c.in-Some.part c.requires.trial c.requires.size c.requires.site (subst (λ (ids : List TermId). IsIdOf c.args.work.now.bank c.in-Some.part (value_at (matched (texts_at c.args.work.now.bank c.args.formals.now) (terms_at c.args.work.now.bank ids)) (text_at c.args.work.now.bank c.args.x))) c.as_slice.ensures.value c.in-Some.ensures.some) c.requires.ready (sym c.in_ok-mentions_at-in-Some.ensures ∙ c.if-branch.true)

pub returns-then-branch-clause-grows : goal.returns-then-branch-clause-grows
returns-then-branch-clause-grows c = grown_refl c.args.history.now c.args.work.now c.requires.stands

pub find_part-requires-clause-part : goal.find_part-requires-clause-part
find_part-requires-clause-part c = record { stands = c.in-Some.ensures.some.stands; over = (part_shallow c.args.history.now c.args.work.now.bank c.args.f c.args.formals.now c.args.measure c.args.x c.args.site.now c.in-Some.part c.requires.trial c.requires.size c.requires.site (subst (λ (ids : List TermId). IsIdOf c.args.work.now.bank c.in-Some.part (value_at (matched (texts_at c.args.work.now.bank c.args.formals.now) (terms_at c.args.work.now.bank ids)) (text_at c.args.work.now.bank c.args.x))) c.as_slice.ensures.value c.in-Some.ensures.some) (sym c.in_ok-mentions_at-in-Some.ensures ∙ c.if-branch.false)).of }

pub find_part-requires-clause-shallow : goal.find_part-requires-clause-shallow
find_part-requires-clause-shallow c = (part_shallow c.args.history.now c.args.work.now.bank c.args.f c.args.formals.now c.args.measure c.args.x c.args.site.now c.in-Some.part c.requires.trial c.requires.size c.requires.site (subst (λ (ids : List TermId). IsIdOf c.args.work.now.bank c.in-Some.part (value_at (matched (texts_at c.args.work.now.bank c.args.formals.now) (terms_at c.args.work.now.bank ids)) (text_at c.args.work.now.bank c.args.x))) c.as_slice.ensures.value c.in-Some.ensures.some) (sym c.in_ok-mentions_at-in-Some.ensures ∙ c.if-branch.false)).shallow

pub returns-in-None-clause-grows : goal.returns-in-None-clause-grows
returns-in-None-clause-grows c = grown_refl c.args.history.now c.args.work.now c.requires.stands

pub returns-else-branch-clause-found : goal.returns-else-branch-clause-found
returns-else-branch-clause-found c =
    for_ok c.find_part.result _ _
    (λ found w. descent_found c.args.history.now c.args.work.now c.find_part.new.work c.args.f c.args.formals.now c.args.measure c.args.x c.args.site.now c.in-Some.part c.as_slice-in-Some.result.now found c.requires.stands c.find_part.ensures.grows.grows c.requires.trial c.requires.size c.requires.site (subst (λ (ids : List TermId). IsIdOf c.args.work.now.bank c.in-Some.part (value_at (matched (texts_at c.args.work.now.bank c.args.formals.now) (terms_at c.args.work.now.bank ids)) (text_at c.args.work.now.bank c.args.x))) c.as_slice.ensures.value c.in-Some.ensures.some)
    (sym c.in_ok-mentions_at-in-Some.ensures ∙ c.if-branch.false) c.as_slice-in-Some.ensures.value w)
    c.find_part.ensures.found
