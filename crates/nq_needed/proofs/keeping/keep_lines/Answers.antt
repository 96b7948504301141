use Rattle.nq_kernel.proofs.GrowingLemmas.{WorkGrows-refl, WorkGrows-trans}
use Rattle.nq_needed.proofs.KeepingLemmas.{rules_grown}
use Rattle.nq_needed.proofs.keeping.keep_lines.Goals as goal

pub loop-marked-init : goal.loop-marked-init
loop-marked-init c = WorkGrows-refl c.args.history.now c.args.kept.now c.requires.stands

pub keep_if-requires-clause-rules : goal.keep_if-requires-clause-rules
keep_if-requires-clause-rules c =
    rules_grown c.args.kept.now.bank c.loop-marked.kept.bank c.args.history.now c.args.log.now c.requires.stands.history c.loop-marked.invariant.bank c.requires.rules

pub returns-in_err-number : goal.returns-in_err-number
returns-in_err-number c = WorkGrows-trans c.args.history.now c.args.kept.now c.loop-marked.kept c.keep_if.new.kept c.loop-marked.invariant c.keep_if.ensures

pub returns-in_err-push : goal.returns-in_err-push
returns-in_err-push c = WorkGrows-trans c.args.history.now c.args.kept.now c.loop-marked.kept c.keep_if.new.kept c.loop-marked.invariant c.keep_if.ensures

pub loop-marked-preserved : goal.loop-marked-preserved
loop-marked-preserved c = WorkGrows-trans c.args.history.now c.args.kept.now c.loop-marked.kept c.keep_if.new.kept c.loop-marked.invariant c.keep_if.ensures
