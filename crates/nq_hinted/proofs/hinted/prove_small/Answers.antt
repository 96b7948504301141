use Rattle.std.proofs.Common.{◌∷◌, [], ◌∙◌, sym, subst}
use Rattle.std.specs.Prelude.{All}
use Rattle.std.proofs.lemmas.Result.{IfOk-weaker}
use Rattle.nq_logic.specs.Terms.{Term}
use Rattle.nq_bank.proofs.Growth.{term_at-grown}
use Rattle.nq_history.specs.declared.hints.Instance.{Instance}
use Rattle.nq_history.specs.Hints.{InstanceStands}
use Rattle.nq_lines.specs.Instances.{ArePairsIn}
use Rattle.nq_lines.specs.Lines.{LineHasOnly}
use Rattle.nq_lines.proofs.TermLemmas.{term_grown}
use Rattle.nq_eval.proofs.LineLemmas.{grown_trans}
use Rattle.nq_hinted.proofs.NestLines.{nest_grown}
use Rattle.nq_hinted.proofs.HintedLemmas.{can_grown, denials, goal_grown, hinted_line}
use Rattle.nq_hinted.proofs.hinted.prove_small.Goals as goal

pub unwind_uncounted-requires-clause-ready : goal.unwind_uncounted-requires-clause-ready
unwind_uncounted-requires-clause-ready c = (can_grown c.args.history.now c.args.hints.now c.args.work.now c.tautology_line.new.work c.args.goal c.tautology_line.ensures.grows.grows c.requires.can).ready

pub unwind_uncounted-requires-clause-instances : goal.unwind_uncounted-requires-clause-instances
unwind_uncounted-requires-clause-instances c =
    subst (All (InstanceStands c.tautology_line.new.work.bank)) (sym c.as_slice-instances.ensures.value) (can_grown c.args.history.now c.args.hints.now c.args.work.now c.tautology_line.new.work c.args.goal c.tautology_line.ensures.grows.grows c.requires.can).hints_stand.instances

pub unwind_uncounted-requires-clause-pairs : goal.unwind_uncounted-requires-clause-pairs
unwind_uncounted-requires-clause-pairs c =
    subst (All (λ (i : Instance). ArePairsIn c.args.history.now c.tautology_line.new.work i.pairs.items)) (sym c.as_slice-instances.ensures.value)
    (can_grown c.args.history.now c.args.hints.now c.args.work.now c.tautology_line.new.work c.args.goal c.tautology_line.ensures.grows.grows c.requires.can).pairs

pub unwind_uncounted-requires-clause-first : goal.unwind_uncounted-requires-clause-first
unwind_uncounted-requires-clause-first c = (goal_grown c.args.history.now c.args.hints.now c.args.work.now c.tautology_line.new.work c.args.goal c.tautology_line.ensures.grows.grows c.args.first c.args.rest.now c.requires.can c.requires.literals).first_stands

pub unwind_uncounted-requires-clause-rest : goal.unwind_uncounted-requires-clause-rest
unwind_uncounted-requires-clause-rest c = (goal_grown c.args.history.now c.args.hints.now c.args.work.now c.tautology_line.new.work c.args.goal c.tautology_line.ensures.grows.grows c.args.first c.args.rest.now c.requires.can c.requires.literals).rest_stand

pub unwind_uncounted-requires-clause-denials : goal.unwind_uncounted-requires-clause-denials
unwind_uncounted-requires-clause-denials c =
    denials c.args.history.now c.args.hints.now c.tautology_line.new.work c.args.goal c.args.first c.args.rest.now
    (goal_grown c.args.history.now c.args.hints.now c.args.work.now c.tautology_line.new.work c.args.goal c.tautology_line.ensures.grows.grows c.args.first c.args.rest.now c.requires.can c.requires.literals)

pub unwind_uncounted-requires-clause-whole : goal.unwind_uncounted-requires-clause-whole
unwind_uncounted-requires-clause-whole c =
    nest_grown c.args.work.now.bank c.tautology_line.new.work.bank c.tautology_line.ensures.grows.grows.bank c.args.first c.args.rest.now c.requires.literals.first_stands c.requires.literals.rest_stand _
    (term_at-grown c.args.work.now.bank c.tautology_line.new.work.bank c.args.whole c.tautology_line.ensures.grows.grows.bank c.requires.whole.stands ∙ c.requires.whole.denotes)

pub unwind_uncounted-requires-clause-over : goal.unwind_uncounted-requires-clause-over
unwind_uncounted-requires-clause-over c =
    term_grown c.args.history.now c.args.work.now c.tautology_line.new.work c.args.whole c.requires.can.stands c.tautology_line.ensures.grows.grows (record { stands = c.requires.whole.stands; over = c.requires.over })

pub unwind_uncounted-requires-clause-line : goal.unwind_uncounted-requires-clause-line
unwind_uncounted-requires-clause-line c =
    subst (λ (t : Term). LineHasOnly c.tautology_line.new.work c.in_ok-line.line (t ∷ [])) (sym (term_at-grown c.args.work.now.bank c.tautology_line.new.work.bank c.args.whole c.tautology_line.ensures.grows.grows.bank c.requires.whole.stands))
    c.in_ok-line.ensures.line

pub returns-clause-line : goal.returns-clause-line
returns-clause-line c =
    IfOk-weaker c.unwind_uncounted.result _ _
    (λ n unwinds. hinted_line c.args.history.now c.args.hints.now c.args.work.now c.tautology_line.new.work c.unwind_uncounted.new.work c.args.goal c.args.first c.args.rest.now _ n c.tautology_line.ensures.grows.grows c.requires.can
    c.requires.literals c.as_slice-instances.ensures.value unwinds)
    c.unwind_uncounted.ensures.line

pub returns-clause-grows : goal.returns-clause-grows
returns-clause-grows c = grown_trans c.args.history.now c.args.work.now c.tautology_line.new.work c.unwind_uncounted.new.work c.tautology_line.ensures.grows c.unwind_uncounted.ensures.grows
