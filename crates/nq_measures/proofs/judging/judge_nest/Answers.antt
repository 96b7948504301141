use Rattle.std.proofs.Common.{◌≡◌, ◌∷◌, [], ◌∙◌, List, ap, sym, subst}
use Rattle.nq_logic.specs.Terms.{Term}
use Rattle.nq_logic.specs.Shells.{either_of}
use Rattle.nq_bank.specs.Content.{term_at, terms_at}
use Rattle.nq_bank.proofs.Growth.{terms_at-grown}
use Rattle.std.proofs.lemmas.List.{append-nil}
use Rattle.nq_kernel.proofs.GrowingLemmas.{WorkGrows-refl, WorkGrows-trans}
use Rattle.nq_lines.specs.Lines.{LineHasOnly}
use Rattle.nq_kernel.proofs.GrowingLemmas.{LineHolds-grown}
use Rattle.nq_measures.proofs.TermLemmas.{term_in_grown}
use Rattle.nq_replay.specs.LawClauses.{choice_opens_clause}
use Rattle.nq_measures.proofs.JudgingLemmas.{proved_only, nest_grown}
use Rattle.nq_measures.proofs.judging.judge_nest.Goals as goal

pub returns-then-depth-gt-NEST_LIMIT-clause-grows : goal.returns-then-depth-gt-NEST_LIMIT-clause-grows
returns-then-depth-gt-NEST_LIMIT-clause-grows g c = WorkGrows-refl c.args.history.now c.args.work.now c.requires.stands

pub prove-requires-clause-hints : goal.prove-requires-clause-hints
prove-requires-clause-hints g c = c.no_hints-hints.ensures.stand c.args.work.now.bank

pub prove-requires-clause-hint_terms : goal.prove-requires-clause-hint_terms
prove-requires-clause-hint_terms g c = c.no_hints-hints.ensures.terms c.args.work.now.bank c.args.history.now

pub open_nest-requires-clause-law : goal.open_nest-requires-clause-law
open_nest-requires-clause-law g c = LineHolds-grown c.args.history.now c.args.work.now c.prove.new.work c.args.law choice_opens_clause c.requires.stands c.prove.ensures.grows c.requires.law

pub open_nest-requires-clause-whole : goal.open_nest-requires-clause-whole
open_nest-requires-clause-whole g c = nest_grown c.args.work.now.bank c.prove.new.work.bank c.args.nest c.args.literals.now c.prove.ensures.grows.bank c.requires.stand c.requires.nest

pub open_nest-requires-clause-over : goal.open_nest-requires-clause-over
open_nest-requires-clause-over g c = term_in_grown c.args.work.now.bank c.prove.new.work.bank c.args.history.now c.args.nest c.prove.ensures.grows.bank c.requires.stands.history c.requires.nest.stands c.requires.over

pub returns-in_err-line-in-Proved-clause-grows : goal.returns-in_err-line-in-Proved-clause-grows
returns-in_err-line-in-Proved-clause-grows g c = WorkGrows-trans c.args.history.now c.args.work.now c.prove.new.work c.open_nest.new.work c.prove.ensures.grows c.open_nest.ensures.grows.grows

pub returns-in-Proved-clause-grows : goal.returns-in-Proved-clause-grows
returns-in-Proved-clause-grows g c = WorkGrows-trans c.args.history.now c.args.work.now c.prove.new.work c.open_nest.new.work c.prove.ensures.grows c.open_nest.ensures.grows.grows

pub returns-in-Proved-clause-told : goal.returns-in-Proved-clause-told
returns-in-Proved-clause-told g c =
    let old = c.args.work.now.bank in
    let now = c.prove.new.work.bank in
    let same : terms_at now c.args.literals.now ≡ terms_at old c.args.literals.now = terms_at-grown old now c.args.literals.now c.prove.ensures.grows.bank c.requires.stand in
    subst (λ (ts : List Term). LineHasOnly c.open_nest.new.work c.in_ok-line-in-Proved.line ts) (append-nil (terms_at now c.args.literals.now) ∙ same)
    (c.in_ok-line-in-Proved.ensures.line []
    (subst (λ (t : Term). LineHasOnly c.prove.new.work c.in-Proved.line (t ∷ [])) (c.requires.nest.denotes ∙ ap either_of (sym same)) (proved_only c.prove.new.work (term_at old c.args.nest) c.in_ok-line.field-0 c.in-Proved.line c.in-Proved.field-1 c.in-Proved.is c.in_ok-line.ensures.told)))

pub returns-in_err-line-in-Proved-clause-holds : goal.returns-in_err-line-in-Proved-clause-holds
returns-in_err-line-in-Proved-clause-holds g c = c.held_work.ensures.grown c.args.history.now c.args.work.now c.open_nest.new.work c.requires.stands c.requires.ready c.requires.holds (WorkGrows-trans c.args.history.now c.args.work.now c.prove.new.work c.open_nest.new.work c.prove.ensures.grows c.open_nest.ensures.grows.grows)

pub returns-in-Proved-clause-holds : goal.returns-in-Proved-clause-holds
returns-in-Proved-clause-holds g c = c.held_work.ensures.grown c.args.history.now c.args.work.now c.open_nest.new.work c.requires.stands c.requires.ready c.requires.holds (WorkGrows-trans c.args.history.now c.args.work.now c.prove.new.work c.open_nest.new.work c.prove.ensures.grows c.open_nest.ensures.grows.grows)

pub returns-in-Failed-clause-holds : goal.returns-in-Failed-clause-holds
returns-in-Failed-clause-holds g c = c.held_work.ensures.grown c.args.history.now c.args.work.now c.prove.new.work c.requires.stands c.requires.ready c.requires.holds c.prove.ensures.grows

pub returns-in-OutOfSteps-clause-holds : goal.returns-in-OutOfSteps-clause-holds
returns-in-OutOfSteps-clause-holds g c = c.held_work.ensures.grown c.args.history.now c.args.work.now c.prove.new.work c.requires.stands c.requires.ready c.requires.holds c.prove.ensures.grows

pub returns-clause-holds : goal.returns-clause-holds
returns-clause-holds g c = c.held_work.ensures.grown c.args.history.now c.args.work.now c.prove.new.work c.requires.stands c.requires.ready c.requires.holds c.prove.ensures.grows

pub returns-in_err-line-clause-holds : goal.returns-in_err-line-clause-holds
returns-in_err-line-clause-holds g c = c.held_work.ensures.grown c.args.history.now c.args.work.now c.prove.new.work c.requires.stands c.requires.ready c.requires.holds c.prove.ensures.grows
