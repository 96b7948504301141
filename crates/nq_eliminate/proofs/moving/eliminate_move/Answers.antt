use Rattle.std.proofs.Common.{◌≡◌, ◌∙◌, ap, sym, subst}
use Rattle.std.specs.Prelude.{All, IfOk, IfSome, MatchOption, Ok, Option, Vec}
use Rattle.std.specs.declared.alloc.Global.{Global}
use Rattle.nq_bank.specs.declared.node.TermId.{TermId}
use Rattle.nq_bank.specs.Content.{terms_at}
use Rattle.nq_event.specs.EventsAt.{hints_at}
use Rattle.nq_history.specs.Events.{events_at}
use Rattle.nq_history.specs.Hints.{HintsStand}
use Rattle.nq_kernel.specs.declared.work.Work.{Work}
use Rattle.nq_kernel.specs.Ready.{IsReady}
use Rattle.nq_kernel.proofs.GrowingLemmas.{WorkGrows-trans}
use Rattle.nq_lines.specs.Lines.{IsTermIn}
use Rattle.nq_moves.specs.Ways.{IsMove}
use Rattle.nq_moves.specs.declared.moved.Moved.{Moved}
use Rattle.nq_rule.proofs.Made.{for_ok}
use Rattle.nq_eliminate.specs.Finding.{HasNoElimination, HasNoneOfEvents}
use Rattle.nq_eliminate.specs.Instances.{Eliminates}
use Rattle.nq_eliminate.specs.Shells.{HasNoneOfShells}
use Rattle.nq_eliminate.proofs.FindingLemmas.{match_mapped}
use Rattle.nq_eliminate.proofs.RuleLemmas.{none_at_all, none_of_rules, none_of_shells}
use Rattle.nq_eliminate.proofs.moving.eliminate_move.Goals as goal

pub eliminate_by_rule-requires-clause-ready : goal.eliminate_by_rule-requires-clause-ready
eliminate_by_rule-requires-clause-ready c =
    let same : c.eliminate_by_shell.new.work ≡ c.args.work.now = c.in-Ok.ensures.none (ap Ok c.in-None.is) in
    subst (λ (w : Work). IsReady (events_at w.bank c.args.history.now)) (sym same) c.requires.ready

pub eliminate_by_rule-requires-clause-hints : goal.eliminate_by_rule-requires-clause-hints
eliminate_by_rule-requires-clause-hints c =
    let same : c.eliminate_by_shell.new.work ≡ c.args.work.now = c.in-Ok.ensures.none (ap Ok c.in-None.is) in
    subst (λ (w : Work). HintsStand w.bank c.args.hints.now) (sym same) c.requires.hints

pub eliminate_by_rule-requires-clause-path : goal.eliminate_by_rule-requires-clause-path
eliminate_by_rule-requires-clause-path c =
    let same : c.eliminate_by_shell.new.work ≡ c.args.work.now = c.in-Ok.ensures.none (ap Ok c.in-None.is) in
    subst (λ (w : Work). All (λ (earlier : Vec TermId Global). All (IsTermIn c.args.history.now w) earlier.items) c.args.path.now) (sym same) c.requires.path

pub eliminate_by_rule-requires-clause-goal : goal.eliminate_by_rule-requires-clause-goal
eliminate_by_rule-requires-clause-goal c =
    let same : c.eliminate_by_shell.new.work ≡ c.args.work.now = c.in-Ok.ensures.none (ap Ok c.in-None.is) in
    subst (λ (w : Work). All (IsTermIn c.args.history.now w) c.args.goal.now) (sym same) c.requires.goal

pub returns-in-Some-clause-moved : goal.returns-in-Some-clause-moved
returns-in-Some-clause-moved c =
    subst (λ o. IfSome o (IsMove c.args.history.now c.eliminate_by_shell.new.work c.args.goal.now)) c.in-Some.is c.in-Ok.ensures.moved

pub returns-in-Some-clause-legal : goal.returns-in-Some-clause-legal
returns-in-Some-clause-legal c =
    let hs = c.args.history.now in
    let old = c.args.work.now in
    let h = events_at old.bank hs in
    let hints = hints_at old.bank c.args.hints.now in
    let g = terms_at old.bank c.args.goal.now in
    subst (λ o. MatchOption o (HasNoneOfShells h g) (Eliminates h hints old.bank c.eliminate_by_shell.new.work.bank c.args.path.now c.args.goal.now)) c.in-Some.is c.in-Ok.ensures.legal

pub returns-in-None-clause-legal : goal.returns-in-None-clause-legal
returns-in-None-clause-legal c =
    let hs = c.args.history.now in
    let old = c.args.work.now in
    let mid = c.eliminate_by_shell.new.work in
    let h = events_at old.bank hs in
    let hints = hints_at old.bank c.args.hints.now in
    let g = terms_at old.bank c.args.goal.now in
    let path = c.args.path.now in
    let same : mid ≡ old = c.in-Ok.ensures.none (ap Ok c.in-None.is) in
    let last = c.eliminate_by_rule.new.work in
    let shells : HasNoneOfShells h g = subst (λ o. MatchOption o (HasNoneOfShells h g) (Eliminates h hints old.bank mid.bank path c.args.goal.now)) c.in-None.is c.in-Ok.ensures.legal in
    let told : IfOk c.eliminate_by_rule.result (λ found. MatchOption found (HasNoneOfEvents h hints g) (Eliminates h hints old.bank last.bank path c.args.goal.now)) =
    subst (λ (w : Work). IfOk c.eliminate_by_rule.result (λ found. MatchOption found (HasNoneOfEvents (events_at w.bank hs) (hints_at w.bank c.args.hints.now) (terms_at w.bank c.args.goal.now)) (Eliminates (events_at w.bank hs) (hints_at w.bank c.args.hints.now) w.bank last.bank path c.args.goal.now))) same c.eliminate_by_rule.ensures.legal in
    for_ok c.eliminate_by_rule.result (λ (found : Option Moved). MatchOption found (HasNoneOfEvents h hints g) (Eliminates h hints old.bank last.bank path c.args.goal.now)) (λ (found : Option Moved). MatchOption found (HasNoElimination h hints g) (Eliminates h hints old.bank last.bank path c.args.goal.now))
    (λ found so. match_mapped (HasNoneOfEvents h hints g) (HasNoElimination h hints g) (Eliminates h hints old.bank last.bank path c.args.goal.now) (Eliminates h hints old.bank last.bank path c.args.goal.now) found (λ events. none_at_all h hints g shells events) (λ m leads. leads) so) told

pub returns-in-None-clause-none : goal.returns-in-None-clause-none
returns-in-None-clause-none c =
    let same : c.eliminate_by_shell.new.work ≡ c.args.work.now = c.in-Ok.ensures.none (ap Ok c.in-None.is) in
    λ e. c.eliminate_by_rule.ensures.none e ∙ same

pub returns-in-None-clause-candidate : goal.returns-in-None-clause-candidate
returns-in-None-clause-candidate c =
    let hs = c.args.history.now in
    let old = c.args.work.now in
    let mid = c.eliminate_by_shell.new.work in
    let h = events_at old.bank hs in
    let hints = hints_at old.bank c.args.hints.now in
    let g = terms_at old.bank c.args.goal.now in
    let path = c.args.path.now in
    let same : mid ≡ old = c.in-Ok.ensures.none (ap Ok c.in-None.is) in
    λ out none. c.eliminate_by_rule.ensures.candidate out (subst (λ (w : Work). HasNoneOfEvents (events_at w.bank hs) (hints_at w.bank c.args.hints.now) (terms_at w.bank c.args.goal.now)) (sym same) (none_of_rules h hints g none))

pub returns-in-None-clause-grows : goal.returns-in-None-clause-grows
returns-in-None-clause-grows c = WorkGrows-trans c.args.history.now c.args.work.now c.eliminate_by_shell.new.work c.eliminate_by_rule.new.work c.eliminate_by_shell.ensures.grows c.eliminate_by_rule.ensures.grows

pub returns-in-Err-clause-candidate : goal.returns-in-Err-clause-candidate
returns-in-Err-clause-candidate c =
    let old = c.args.work.now in
    let h = events_at old.bank c.args.history.now in
    λ out none. c.in-Err.ensures.candidate out (none_of_shells h (hints_at old.bank c.args.hints.now) (terms_at old.bank c.args.goal.now) none)
