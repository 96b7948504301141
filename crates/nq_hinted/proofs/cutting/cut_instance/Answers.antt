use Rattle.std.proofs.Common.{◌∙◌, ap, sym, subst}
use Rattle.std.specs.Prelude.{Option, Some, IfSome}
use Rattle.std.specs.Option.{option_map}
use Rattle.std.proofs.lemmas.Result.{IfOk-weaker}
use Rattle.nq_logic.specs.Histories.{History}
use Rattle.nq_bank.specs.declared.node.TermId.{TermId}
use Rattle.nq_bank.specs.Content.{term_at}
use Rattle.nq_history.specs.Events.{events_at}
use Rattle.nq_history.proofs.HistoryLemmas.{events_at-grown}
use Rattle.nq_events.specs.HintRefusals.{instance_term}
use Rattle.nq_event.specs.EventsAt.{instance_at}
use Rattle.nq_event.proofs.GrownLemmas.{instances_stay}
use Rattle.nq_kernel.proofs.GrowingLemmas.{WorkGrows-trans}
use Rattle.nq_lines.specs.Lines.{IsTermIn}
use Rattle.nq_lines.proofs.InstanceLemmas.{pairs_in_grown}
use Rattle.nq_lines.proofs.LineLemmas.{line_grown}
use Rattle.nq_hinted.proofs.CutLemmas.{cut_later, not_cut}
use Rattle.nq_hinted.proofs.cutting.cut_instance.Goals as goal

pub cut_term-requires-clause-instance : goal.cut_term-requires-clause-instance
cut_term-requires-clause-instance c = instances_stay.keeps c.args.work.now.bank c.term_of.new.work.bank c.args.instance.now c.term_of.ensures.grows.bank c.requires.instance

pub cut_term-requires-clause-pairs : goal.cut_term-requires-clause-pairs
cut_term-requires-clause-pairs c = pairs_in_grown c.args.history.now c.args.work.now c.term_of.new.work c.args.instance.now.pairs.items c.requires.stands c.term_of.ensures.grows c.requires.pairs

pub cut_term-requires-clause-term : goal.cut_term-requires-clause-term
cut_term-requires-clause-term c = subst (λ (o : Option TermId). IfSome o (IsTermIn c.args.history.now c.term_of.new.work)) c.in-Some.is c.in_ok-t.ensures.over

pub cut_term-requires-clause-is : goal.cut_term-requires-clause-is
cut_term-requires-clause-is c =
    let w0 = c.args.work.now in
    let w1 = c.term_of.new.work in
    ap (λ (h : History). instance_term h (instance_at w1.bank c.args.instance.now)) (events_at-grown w0.bank w1.bank c.term_of.ensures.grows.bank c.args.history.now c.requires.stands.history.entries)
    ∙ ap (instance_term (events_at w0.bank c.args.history.now)) (instances_stay.same w0.bank w1.bank c.args.instance.now c.term_of.ensures.grows.bank c.requires.instance)
    ∙ sym c.in_ok-t.ensures.is
    ∙ ap (option_map (term_at w1.bank)) c.in-Some.is

pub cut_term-requires-clause-line : goal.cut_term-requires-clause-line
cut_term-requires-clause-line c = line_grown c.args.history.now c.args.work.now c.term_of.new.work c.args.line c.requires.stands c.term_of.ensures.grows c.requires.line

pub returns-in-Some-clause-line : goal.returns-in-Some-clause-line
returns-in-Some-clause-line c =
    let w1 = c.term_of.new.work in
    IfOk-weaker c.cut_term.result _ _
    (λ n cuts. cut_later c.args.history.now c.args.work.now w1 c.cut_term.new.work c.requires.stands c.term_of.ensures.grows _ (Some (term_at w1.bank c.in-Some.t)) c.args.line n
    (sym (ap (option_map (term_at w1.bank)) c.in-Some.is) ∙ c.in_ok-t.ensures.is) cuts)
    c.cut_term.ensures.line

pub returns-in-Some-clause-grows : goal.returns-in-Some-clause-grows
returns-in-Some-clause-grows c = WorkGrows-trans c.args.history.now c.args.work.now c.term_of.new.work c.cut_term.new.work c.term_of.ensures.grows c.cut_term.ensures.grows

pub returns-in-None-clause-line : goal.returns-in-None-clause-line
returns-in-None-clause-line c =
    not_cut c.args.history.now c.args.work.now c.term_of.new.work c.term_of.new.work c.requires.stands c.term_of.ensures.grows _ c.args.line (sym (ap (option_map (term_at c.term_of.new.work.bank)) c.in-None.is) ∙ c.in_ok-t.ensures.is)

pub returns-in-None-clause-stands : goal.returns-in-None-clause-stands
returns-in-None-clause-stands c = line_grown c.args.history.now c.args.work.now c.term_of.new.work c.args.line c.requires.stands c.term_of.ensures.grows c.requires.line
