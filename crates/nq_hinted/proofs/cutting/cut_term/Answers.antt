use Rattle.std.proofs.Common.{sym, subst, refl}
use Rattle.std.specs.Prelude.{IsSome}
use Rattle.std.proofs.lemmas.Result.{IfOk-weaker}
use Rattle.nq_bank.specs.Content.{term_at}
use Rattle.nq_history.specs.Events.{events_at}
use Rattle.nq_event.specs.EventsAt.{instance_at}
use Rattle.nq_kernel.proofs.GrowingLemmas.{WorkGrows-trans}
use Rattle.nq_lines.proofs.LineLemmas.{line_grown}
use Rattle.nq_lines.proofs.TermLemmas.{term_grown}
use Rattle.nq_hinted.proofs.CitedLemmas.{instance_stands}
use Rattle.nq_hinted.proofs.CutLemmas.{cut_shown}
use Rattle.nq_hinted.proofs.cutting.cut_term.Goals as goal

pub instance_line-requires-clause-stated : goal.instance_line-requires-clause-stated
instance_line-requires-clause-stated c = subst IsSome (sym c.requires.is) refl

pub cut-requires-clause-first : goal.cut-requires-clause-first
cut-requires-clause-first c =
    instance_stands (events_at c.args.work.now.bank c.args.history.now) (instance_at c.args.work.now.bank c.args.instance.now) c.instance_line.new.work c.in_ok-shown.shown (term_at c.args.work.now.bank c.args.t) c.requires.is
    c.in_ok-shown.ensures.line

pub cut-requires-clause-second : goal.cut-requires-clause-second
cut-requires-clause-second c = line_grown c.args.history.now c.args.work.now c.instance_line.new.work c.args.line c.requires.stands c.instance_line.ensures.grows c.requires.line

pub cut-requires-clause-term : goal.cut-requires-clause-term
cut-requires-clause-term c = term_grown c.args.history.now c.args.work.now c.instance_line.new.work c.args.t c.requires.stands c.instance_line.ensures.grows c.requires.term

pub returns-clause-line : goal.returns-clause-line
returns-clause-line c =
    IfOk-weaker c.cut.result _ _
    (λ n cuts. cut_shown c.args.history.now c.args.work.now c.instance_line.new.work c.cut.new.work c.requires.stands c.instance_line.ensures.grows c.args.t c.in_ok-shown.shown c.args.line n c.requires.term
    (c.in_ok-shown.ensures.line (term_at c.args.work.now.bank c.args.t) c.requires.is) cuts)
    c.cut.ensures.line

pub returns-clause-grows : goal.returns-clause-grows
returns-clause-grows c = WorkGrows-trans c.args.history.now c.args.work.now c.instance_line.new.work c.cut.new.work c.instance_line.ensures.grows c.cut.ensures.grows
