use Rattle.std.proofs.Common.{◌∙◌, [], ◌∷◌, ap}
use Rattle.nq_logic.specs.Shells.{recognizes}
use Rattle.nq_logic.specs.Words.{not_term}
use Rattle.nq_bank.specs.Content.{term_at}
use Rattle.nq_bank.specs.Shells.{shell_at}
use Rattle.nq_bank.proofs.Standing.{id_grown}
use Rattle.nq_kernel.proofs.GrowingLemmas.{WorkGrows-trans}
use Rattle.nq_lines.specs.Lines.{IsTermIn}
use Rattle.nq_lines.proofs.TermLemmas.{same_term_grown, term_grown}
use Rattle.nq_eliminate.specs.Made.{hypotheses_on}
use Rattle.nq_eliminate.proofs.InstanceLemmas.{one_stands}
use Rattle.nq_eliminate.proofs.ShellSteps.{base_absent, base_says, hypotheses_with, hypotheses_without, id_over, ids_ok, one_in_list, told_ok, two_in}
use Rattle.nq_eliminate.proofs.shells.hypotheses_of.Goals as goal

pub app-requires-clause-function : goal.app-requires-clause-function
app-requires-clause-function c = c.requires.shell.recognizer

pub app-requires-clause-arguments : goal.app-requires-clause-arguments
app-requires-clause-arguments c = one_stands c.args.work.now.bank c.args.t c.requires.term.stands

pub deny-requires-clause-term : goal.deny-requires-clause-term
deny-requires-clause-term c =
    let h = c.args.history.now in
    let old = c.args.work.now in
    let says = base_says h old (term_at old.bank c.args.t) (shell_at old.bank c.args.shell.now).base c.args.base c.in-Some.equation c.requires.base c.in-Some.is in
    term_grown h old c.app.new.self c.in-Some.equation c.requires.stands c.app.ensures.grows says.over

pub returns-in_err-denied-in-Some-clause-grows : goal.returns-in_err-denied-in-Some-clause-grows
returns-in_err-denied-in-Some-clause-grows c = WorkGrows-trans c.args.history.now c.args.work.now c.app.new.self c.deny.new.work c.app.ensures.grows c.deny.ensures.grows

pub returns-in_ok-denied-in-Some-clause-hypotheses : goal.returns-in_ok-denied-in-Some-clause-hypotheses
returns-in_ok-denied-in-Some-clause-hypotheses c =
    let h = c.args.history.now in
    let old = c.args.work.now in
    let mid = c.app.new.self in
    let new = c.deny.new.work in
    let t = term_at old.bank c.args.t in
    let s = shell_at old.bank c.args.shell.now in
    let e = c.in-Some.equation in
    let says = base_says h old t s.base c.args.base e c.requires.base c.in-Some.is in
    let first = (id_grown mid.bank new.bank c.in_ok-recognized.recognized (recognizes s t) c.deny.ensures.grows.bank c.in_ok-recognized.ensures.call).denotes in
    let second = c.in_ok-denied-in-Some.ensures.denied.denotes ∙ ap not_term (same_term_grown h old mid e c.app.ensures.grows says.over ∙ says.is) in
    told_ok new.bank (hypotheses_on t s) c.copied.result (c.in_ok-recognized.recognized ∷ c.in_ok-denied-in-Some.denied ∷ []) (λ ids is. hypotheses_with new.bank t s says.base c.in_ok-recognized.recognized c.in_ok-denied-in-Some.denied ids says.some first second is) c.copied.ensures.ok

pub returns-in_ok-denied-in-Some-clause-over : goal.returns-in_ok-denied-in-Some-clause-over
returns-in_ok-denied-in-Some-clause-over c =
    let h = c.args.history.now in
    let old = c.args.work.now in
    let mid = c.app.new.self in
    let new = c.deny.new.work in
    let t = term_at old.bank c.args.t in
    let s = shell_at old.bank c.args.shell.now in
    let first = id_over h old mid c.requires.stands c.app.ensures.grows c.in_ok-recognized.recognized (recognizes s t) c.in_ok-recognized.ensures.call c.requires.over.recognized in
    ids_ok (IsTermIn h new) c.copied.result (c.in_ok-recognized.recognized ∷ c.in_ok-denied-in-Some.denied ∷ [])
    (two_in h new c.in_ok-recognized.recognized c.in_ok-denied-in-Some.denied (term_grown h mid new c.in_ok-recognized.recognized c.app.ensures.grows.stands c.deny.ensures.grows first) c.in_ok-denied-in-Some.ensures.over) c.copied.ensures.ok

pub returns-in_ok-denied-in-Some-clause-grows : goal.returns-in_ok-denied-in-Some-clause-grows
returns-in_ok-denied-in-Some-clause-grows c = WorkGrows-trans c.args.history.now c.args.work.now c.app.new.self c.deny.new.work c.app.ensures.grows c.deny.ensures.grows

pub returns-in-None-clause-hypotheses : goal.returns-in-None-clause-hypotheses
returns-in-None-clause-hypotheses c =
    let h = c.args.history.now in
    let old = c.args.work.now in
    let new = c.app.new.self in
    let t = term_at old.bank c.args.t in
    let s = shell_at old.bank c.args.shell.now in
    let none = base_absent h old t s.base c.args.base c.requires.base c.in-None.is in
    told_ok new.bank (hypotheses_on t s) c.copied-in-None.result (c.in_ok-recognized.recognized ∷ []) (λ ids is. hypotheses_without new.bank t s c.in_ok-recognized.recognized ids none c.in_ok-recognized.ensures.call.denotes is) c.copied-in-None.ensures.ok

pub returns-in-None-clause-over : goal.returns-in-None-clause-over
returns-in-None-clause-over c =
    let h = c.args.history.now in
    let old = c.args.work.now in
    let new = c.app.new.self in
    let t = term_at old.bank c.args.t in
    let s = shell_at old.bank c.args.shell.now in
    ids_ok (IsTermIn h new) c.copied-in-None.result (c.in_ok-recognized.recognized ∷ []) (one_in_list h new c.in_ok-recognized.recognized (id_over h old new c.requires.stands c.app.ensures.grows c.in_ok-recognized.recognized (recognizes s t) c.in_ok-recognized.ensures.call c.requires.over.recognized)) c.copied-in-None.ensures.ok
