use Rattle.std.specs.Prelude.{All, Vec}
use Rattle.std.specs.declared.alloc.Global.{Global}
use Rattle.nq_bank.specs.declared.node.TermId.{TermId}
use Rattle.nq_kernel.proofs.GrowingLemmas.{WorkGrows-refl, WorkGrows-trans}
use Rattle.nq_lines.specs.Lines.{IsTermIn}
use Rattle.nq_schemes.proofs.GrownLemmas.{basis_grown, none_all}
use Rattle.nq_schemes.proofs.owed.owed_by.Goals as goal

pub add_case-requires-clause-basis : goal.add_case-requires-clause-basis
add_case-requires-clause-basis c = basis_grown c.args.history.now c.args.work.now c.loop-case.work c.requires.stands c.loop-case.invariant.grows c.args.basis.now c.requires.basis

pub loop-case-init : goal.loop-case-init
loop-case-init c = record { grows = WorkGrows-refl c.args.history.now c.args.work.now c.requires.stands; owed = none_all (λ (g : Vec TermId Global). All (IsTermIn c.args.history.now c.args.work.now) g.items) c.new-goals.result.items c.new-goals.ensures.items }

pub loop-case-preserved : goal.loop-case-preserved
loop-case-preserved c = record { grows = WorkGrows-trans c.args.history.now c.args.work.now c.loop-case.work c.add_case.new.work c.loop-case.invariant.grows c.add_case.ensures.grows; owed = c.in_ok-add_case.ensures.goals }

pub returns-in_err-add_case-clause-grows : goal.returns-in_err-add_case-clause-grows
returns-in_err-add_case-clause-grows c = WorkGrows-trans c.args.history.now c.args.work.now c.loop-case.work c.add_case.new.work c.loop-case.invariant.grows c.add_case.ensures.grows
