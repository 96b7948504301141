use Rattle.std.proofs.Common.{◌≡◌, true, List, map, sym, subst}
use Rattle.std.specs.Prelude.{Option}
use Rattle.nq_sexp.specs.Tree.{tree}
use Rattle.nq_bank.specs.declared.node.Sym.{Sym}
use Rattle.nq_bank.specs.declared.node.TermId.{TermId}
use Rattle.nq_bank.specs.Content.{term_at, terms_at, text_at}
use Rattle.nq_bank.specs.Shells.{texts_at}
use Rattle.nq_history.specs.Events.{events_at}
use Rattle.nq_event.specs.EventsAt.{measure_at}
use Rattle.nq_comment.specs.ReportViews.{trials_of}
use Rattle.nq_events.specs.Measures.{tried_measures}
use Rattle.nq_run.specs.declared.recursions.Kept.{Kept}
use Rattle.nq_run.specs.HistoryView.{history_of}
use Rattle.nq_run.specs.Outcome.{AreBlocks}
use Rattle.nq_run.specs.Recursions.{IsSought, IsTriable, kept_claims}
use Rattle.nq_run.proofs.MeasuredLemmas.{free_kept, hints_shallow, kept_none, kept_some, left, mark_kept, measure_kept, names_kept, ready_kept, session_stands, taken_on, triable}
use Rattle.nq_run.proofs.SessionLemmas.{stands_grown}
use Rattle.nq_run.proofs.TrialLemmas.{none_told}
use Rattle.nq_run.proofs.session.Session.define_recursive.Goals as goal

pub tried_measures-requires-clause-shallow : goal.tried_measures-requires-clause-shallow
tried_measures-requires-clause-shallow g c =
    let bank = c.args.self.bank in
    hints_shallow bank (history_of c.args.self) (text_at bank c.args.name) (texts_at bank c.args.formals.items) (term_at bank c.args.body) c.args.measures.now c.requires.spelled

pub try_recursion-requires-clause-history : goal.try_recursion-requires-clause-history
try_recursion-requires-clause-history g c = (stands_grown c.args.self c.tried_measures.new.bank c.requires.stands c.tried_measures.ensures.grows).history

pub try_recursion-requires-clause-symbols : goal.try_recursion-requires-clause-symbols
try_recursion-requires-clause-symbols g c = (stands_grown c.args.self c.tried_measures.new.bank c.requires.stands c.tried_measures.ensures.grows).symbols

pub try_recursion-requires-clause-ready : goal.try_recursion-requires-clause-ready
try_recursion-requires-clause-ready g c = (stands_grown c.args.self c.tried_measures.new.bank c.requires.stands c.tried_measures.ensures.grows).ready

pub try_recursion-requires-clause-triable : goal.try_recursion-requires-clause-triable
try_recursion-requires-clause-triable g c =
    let old = c.args.self in
    let grown = c.tried_measures.new.bank in
    let tried = c.in_ok-tried.tried.items in
    let told = subst (λ (xs : List Sym). terms_at grown tried ≡ tried_measures (texts_at old.bank xs) (map (measure_at old.bank) c.args.measures.now)) c.as_slice.ensures.value c.in_ok-tried.ensures.terms in
    let is = triable old grown c.args.name c.args.formals.items c.args.body c.args.measures.now tried c.requires.stands c.tried_measures.ensures.grows c.requires.event c.requires.spelled c.requires.free
    c.requires.recursive c.in_ok-tried.ensures.stand told in
    subst (λ (xs : List Sym). IsTriable grown old.history c.args.name xs c.args.body c.as_slice-3.result.now) (sym c.as_slice-2.ensures.value)
    (subst (λ (ts : List TermId). IsTriable grown old.history c.args.name c.args.formals.items c.args.body ts) (sym c.as_slice-3.ensures.value) is)

pub untaken-requires-clause-stands : goal.untaken-requires-clause-stands
untaken-requires-clause-stands g c =
    session_stands c.args.self c.tried_measures.new.bank c.args.name c.args.formals.items c.args.body c.args.measures.now c.in_ok-tried.tried.items c.requires.stands c.tried_measures.ensures.grows
    c.requires.event c.requires.spelled c.requires.free c.requires.recursive c.in_ok-sought.sought.bank c.in_ok-sought.ensures.sought.same

pub untaken-requires-clause-mark : goal.untaken-requires-clause-mark
untaken-requires-clause-mark g c =
    mark_kept c.args.self c.tried_measures.new.bank c.args.name c.args.formals.items c.args.body c.args.measures.now c.in_ok-tried.tried.items c.requires.stands c.tried_measures.ensures.grows
    c.requires.event c.requires.spelled c.requires.free c.requires.recursive c.in_ok-sought.sought.bank c.in_ok-sought.ensures.sought.same c.args.given.mark c.requires.mark

pub measured-requires-clause-stands : goal.measured-requires-clause-stands
measured-requires-clause-stands g c =
    session_stands c.args.self c.tried_measures.new.bank c.args.name c.args.formals.items c.args.body c.args.measures.now c.in_ok-tried.tried.items c.requires.stands c.tried_measures.ensures.grows
    c.requires.event c.requires.spelled c.requires.free c.requires.recursive c.in_ok-sought.sought.bank c.in_ok-sought.ensures.sought.same

pub measured-requires-clause-mark : goal.measured-requires-clause-mark
measured-requires-clause-mark g c =
    mark_kept c.args.self c.tried_measures.new.bank c.args.name c.args.formals.items c.args.body c.args.measures.now c.in_ok-tried.tried.items c.requires.stands c.tried_measures.ensures.grows
    c.requires.event c.requires.spelled c.requires.free c.requires.recursive c.in_ok-sought.sought.bank c.in_ok-sought.ensures.sought.same c.args.given.mark c.requires.mark

pub measured-requires-clause-names : goal.measured-requires-clause-names
measured-requires-clause-names g c =
    names_kept c.args.self c.tried_measures.new.bank c.args.name c.args.formals.items c.args.body c.args.measures.now c.in_ok-tried.tried.items c.requires.stands c.tried_measures.ensures.grows
    c.requires.event c.requires.spelled c.requires.free c.requires.recursive c.in_ok-sought.sought.bank c.in_ok-sought.ensures.sought.same

pub measured-requires-clause-free : goal.measured-requires-clause-free
measured-requires-clause-free g c =
    free_kept c.args.self c.tried_measures.new.bank c.args.name c.args.formals.items c.args.body c.args.measures.now c.in_ok-tried.tried.items c.requires.stands c.tried_measures.ensures.grows
    c.requires.event c.requires.spelled c.requires.free c.requires.recursive c.in_ok-sought.sought.bank c.in_ok-sought.ensures.sought.same

pub measured-requires-clause-measure : goal.measured-requires-clause-measure
measured-requires-clause-measure g c =
    let old = c.args.self in
    let grown = c.tried_measures.new.bank in
    let tried = c.in_ok-tried.tried.items in
    let of = subst (λ (xs : List Sym). IsSought grown old.history c.args.name xs c.args.body tried c.args.given.logging c.in_ok-sought.sought) c.as_slice-2.ensures.value
    (subst (λ (ts : List TermId). IsSought grown old.history c.args.name c.as_slice-2.result.now c.args.body ts c.args.given.logging c.in_ok-sought.sought) c.as_slice-3.ensures.value c.in_ok-sought.ensures.sought) in
    let kept = kept_some grown old.history c.args.name c.args.formals.items c.args.body tried c.in_ok-sought.sought.kept c.in-Some.kept c.in-Some.is of.kept in
    measure_kept c.args.self c.tried_measures.new.bank c.args.name c.args.formals.items c.args.body c.args.measures.now c.in_ok-tried.tried.items c.requires.stands c.tried_measures.ensures.grows
    c.requires.event c.requires.spelled c.requires.free c.requires.recursive c.in_ok-sought.sought.bank c.in_ok-sought.ensures.sought.same c.in-Some.kept kept

pub measured-requires-clause-ready : goal.measured-requires-clause-ready
measured-requires-clause-ready g c =
    let old = c.args.self in
    let grown = c.tried_measures.new.bank in
    let tried = c.in_ok-tried.tried.items in
    let of = subst (λ (xs : List Sym). IsSought grown old.history c.args.name xs c.args.body tried c.args.given.logging c.in_ok-sought.sought) c.as_slice-2.ensures.value
    (subst (λ (ts : List TermId). IsSought grown old.history c.args.name c.as_slice-2.result.now c.args.body ts c.args.given.logging c.in_ok-sought.sought) c.as_slice-3.ensures.value c.in_ok-sought.ensures.sought) in
    let kept = kept_some grown old.history c.args.name c.args.formals.items c.args.body tried c.in_ok-sought.sought.kept c.in-Some.kept c.in-Some.is of.kept in
    ready_kept c.args.self c.tried_measures.new.bank c.args.name c.args.formals.items c.args.body c.args.measures.now c.in_ok-tried.tried.items c.requires.stands c.tried_measures.ensures.grows
    c.requires.event c.requires.spelled c.requires.free c.requires.recursive c.in_ok-sought.sought.bank c.in_ok-sought.ensures.sought.same c.in-Some.kept kept

pub returns-in-None-clause-taken : goal.returns-in-None-clause-taken
returns-in-None-clause-taken g c =
    let old = c.args.self in
    let grown = c.tried_measures.new.bank in
    let tried = c.in_ok-tried.tried.items in
    let of = subst (λ (xs : List Sym). IsSought grown old.history c.args.name xs c.args.body tried c.args.given.logging c.in_ok-sought.sought) c.as_slice-2.ensures.value
    (subst (λ (ts : List TermId). IsSought grown old.history c.args.name c.as_slice-2.result.now c.args.body ts c.args.given.logging c.in_ok-sought.sought) c.as_slice-3.ensures.value c.in_ok-sought.ensures.sought) in
    let told = subst (λ (xs : List Sym). terms_at grown tried ≡ tried_measures (texts_at old.bank xs) (map (measure_at old.bank) c.args.measures.now)) c.as_slice.ensures.value c.in_ok-tried.ensures.terms in
    let form = tree c.args.given.form.now in
    let none = kept_none grown old.history c.args.name c.args.formals.items c.args.body tried c.in_ok-sought.sought.kept c.in-None.is of.kept in
    let all = none_told c.in_ok-sought.sought.kept _ c.in-None.is of.told in
    left c.args.self c.tried_measures.new.bank c.args.name c.args.formals.items c.args.body c.args.measures.now c.in_ok-tried.tried.items c.requires.stands c.tried_measures.ensures.grows
    c.requires.event c.requires.spelled c.requires.free c.requires.recursive c.in_ok-sought.sought.bank c.in_ok-sought.ensures.sought.same c.args.given.steps c.args.given.mark form c.args.given.logging (trials_of c.in_ok-sought.sought.trials.items) c.untaken.result c.requires.mark told none all c.untaken.ensures

pub returns-in-None-clause-learnt : goal.returns-in-None-clause-learnt
returns-in-None-clause-learnt g c = subst (g.P.Prover.has_learnt c.try_recursion.new.prover) (sym c.untaken.ensures.entries) c.in_ok-sought.ensures.learnt

pub returns-in-Some-clause-taken : goal.returns-in-Some-clause-taken
returns-in-Some-clause-taken g c =
    let old = c.args.self in
    let grown = c.tried_measures.new.bank in
    let tried = c.in_ok-tried.tried.items in
    let of = subst (λ (xs : List Sym). IsSought grown old.history c.args.name xs c.args.body tried c.args.given.logging c.in_ok-sought.sought) c.as_slice-2.ensures.value
    (subst (λ (ts : List TermId). IsSought grown old.history c.args.name c.as_slice-2.result.now c.args.body ts c.args.given.logging c.in_ok-sought.sought) c.as_slice-3.ensures.value c.in_ok-sought.ensures.sought) in
    let kept = kept_some grown old.history c.args.name c.args.formals.items c.args.body tried c.in_ok-sought.sought.kept c.in-Some.kept c.in-Some.is of.kept in
    let told = subst (λ (xs : List Sym). terms_at grown tried ≡ tried_measures (texts_at old.bank xs) (map (measure_at old.bank) c.args.measures.now)) c.as_slice.ensures.value c.in_ok-tried.ensures.terms in
    let written = subst (λ (o : Option Kept). c.args.given.logging ≡ true → AreBlocks (events_at grown old.history) (kept_claims grown c.args.name c.args.formals.items c.args.body o) c.in_ok-sought.sought.block) c.in-Some.is of.written in
    taken_on c.args.self c.tried_measures.new.bank c.args.name c.args.formals.items c.args.body c.args.measures.now c.in_ok-tried.tried.items c.requires.stands c.tried_measures.ensures.grows
    c.requires.event c.requires.spelled c.requires.free c.requires.recursive c.in_ok-sought.sought.bank c.in_ok-sought.ensures.sought.same c.args.given.steps c.args.given.mark (tree c.args.given.form.now) c.args.given.logging c.in-Some.kept c.in_ok-sought.sought.block c.measured.result c.tried_measures.ensures.names told kept written
    c.measured.ensures.after c.measured.ensures.stands_after c.measured.ensures.bank c.measured.ensures.answer c.measured.ensures.block
