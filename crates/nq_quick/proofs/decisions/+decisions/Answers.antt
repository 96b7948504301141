use Rattle.std.proofs.Common.{◌≡◌, ◌≤◌, ◌<◌, ◌+◌, ◌∙◌, Bool, true, List, ap, sym, subst, arith}
use Rattle.nq_bank.specs.declared.node.TermId.{TermId}
use Rattle.nq_bank.specs.Content.{Content, Grows, term_at, terms_at}
use Rattle.nq_bank.proofs.Growth.{Grows-trans}
use Rattle.nq_rule.specs.declared.branching.Branches.{Branches}
use Rattle.nq_kernel.specs.declared.work.Work.{Work}
use Rattle.nq_kernel.specs.Growing.{WorkGrows}
use Rattle.nq_quick.specs.declared.assignments.Assignment.{Assignment}
use Rattle.nq_quick.specs.declared.heads.Head.TheVariants as head
use Rattle.nq_quick.specs.declared.patterns.Case.{Case}
use Rattle.nq_quick.specs.Assignments.{truth_with}
use Rattle.nq_fragments.specs.Propositions.{proposition_of}
use Rattle.nq_quick.specs.Choices.{branch_of}
use Rattle.nq_quick.specs.Decisions.{CanDecide, Decides, IsCaseAssignment, truth_at, weight_at}
use Rattle.nq_quick.specs.Lines.{LineHasOnly, Says}
use Rattle.nq_quick.specs.Patterns.{instance_literals}
use Rattle.nq_quick.proofs.LineLemmas.{grown_refl, grown_trans, only_grown}
use Rattle.nq_quick.proofs.GrownLemmas.{opening_grown}
use Rattle.nq_quick.proofs.ClosingLemmas.{rest_of, rest_same, rest_grown, instance_same}
use Rattle.nq_quick.proofs.DecisionLemmas.{can_grown, head_grown, case_grown, decides_grown, truth_same, weight_same, case_assigned_grown, body_can, body_light, test_can, branch_can, choice_lighter, denied_can, denial_lighter, left_can, right_can, joined_lighter, can_instantiate}
use Rattle.nq_quick.proofs.InLemmas.{in_grown}
use Rattle.nq_quick.proofs.decisions.+decisions.Goals as goal

pub case_line-returns-in_err-assignment-clause-grows : goal.case_line-returns-in_err-assignment-clause-grows
case_line-returns-in_err-assignment-clause-grows t c =
    grown_trans c.args.history.now c.args.work.now c.pattern_of.new.work c.case_assignment.new.work c.pattern_of.ensures.grows c.case_assignment.ensures.grows

pub case_line-returns-in-Some-clause-grows : goal.case_line-returns-in-Some-clause-grows
case_line-returns-in-Some-clause-grows t c =
    grown_trans c.args.history.now c.args.work.now c.pattern_of.new.work c.case_assignment.new.work c.pattern_of.ensures.grows c.case_assignment.ensures.grows

pub case_line-returns-in_err-line-clause-grows : goal.case_line-returns-in_err-line-clause-grows
case_line-returns-in_err-line-clause-grows t c =
    grown_trans c.args.history.now c.args.work.now c.pattern_of.new.work c.case_line_anew.new.work c.pattern_of.ensures.grows (grown_trans c.args.history.now c.pattern_of.new.work c.case_assignment.new.work c.case_line_anew.new.work c.case_assignment.ensures.grows c.case_line_anew.ensures.grows)

pub case_line-returns-in_err-push-clause-grows : goal.case_line-returns-in_err-push-clause-grows
case_line-returns-in_err-push-clause-grows t c =
    grown_trans c.args.history.now c.args.work.now c.pattern_of.new.work c.case_line_anew.new.work c.pattern_of.ensures.grows (grown_trans c.args.history.now c.pattern_of.new.work c.case_assignment.new.work c.case_line_anew.new.work c.case_assignment.ensures.grows c.case_line_anew.ensures.grows)

pub case_line-returns-clause-grows : goal.case_line-returns-clause-grows
case_line-returns-clause-grows t c =
    grown_trans c.args.history.now c.args.work.now c.pattern_of.new.work c.case_line_anew.new.work c.pattern_of.ensures.grows (grown_trans c.args.history.now c.pattern_of.new.work c.case_assignment.new.work c.case_line_anew.new.work c.case_assignment.ensures.grows c.case_line_anew.ensures.grows)

pub case_line_anew-decide-requires : goal.case_line_anew-decide-requires
case_line_anew-decide-requires t c =
    let bank : Content = c.open.new.work.bank in
    let a : Assignment = c.args.assignment.now in
    let assigned : IsCaseAssignment bank c.args.case a = case_assigned_grown c.args.work.now.bank bank c.args.case a c.open.ensures.grows.grows.bank c.requires.assignment in
    let light : weight_at bank c.in_ok-opened.opened.body ≤ 3 = body_light bank c.args.case a c.in_ok-opened.opened.body assigned c.in_ok-opened.ensures.opening.body in
    (omega arith, (c.open.ensures.grows.grows.stands, body_can bank c.args.case a c.in_ok-opened.opened.body assigned c.in_ok-opened.ensures.opening.body c.args.history.now c.open.ensures.grows.grows.stands.history))

pub case_line_anew-returns-in_err-line-clause-grows : goal.case_line_anew-returns-in_err-line-clause-grows
case_line_anew-returns-in_err-line-clause-grows t c =
    grown_trans c.args.history.now c.args.work.now c.open.new.work c.decide.new.work c.open.ensures.grows c.decide.ensures.grows

pub case_line_anew-close_case-requires-clause-assignment : goal.case_line_anew-close_case-requires-clause-assignment
case_line_anew-close_case-requires-clause-assignment t c =
    case_assigned_grown c.args.work.now.bank c.decide.new.work.bank c.args.case c.args.assignment.now (Grows-trans c.args.work.now.bank c.open.new.work.bank c.decide.new.work.bank c.open.ensures.grows.grows.bank c.decide.ensures.grows.grows.bank) c.requires.assignment

pub case_line_anew-close_case-requires-clause-opened : goal.case_line_anew-close_case-requires-clause-opened
case_line_anew-close_case-requires-clause-opened t c =
    opening_grown c.args.history.now c.open.new.work c.decide.new.work c.args.case.connective c.in_ok-opened.opened c.open.ensures.grows.grows.stands c.decide.ensures.grows.grows c.in_ok-opened.ensures.opening

pub case_line_anew-returns-clause-grows : goal.case_line_anew-returns-clause-grows
case_line_anew-returns-clause-grows t c =
    grown_trans c.args.history.now c.args.work.now c.open.new.work c.close_case.new.work c.open.ensures.grows (grown_trans c.args.history.now c.open.new.work c.decide.new.work c.close_case.new.work c.decide.ensures.grows c.close_case.ensures.grows)

pub decide_choice-decide-requires : goal.decide_choice-decide-requires
decide_choice-decide-requires t c =
    let old : Work = c.args.work.now in
    let a : Assignment = c.args.assignment.now in
    let parts : Branches = c.args.parts in
    let lighter : weight_at old.bank parts.test < weight_at old.bank c.args.t = (choice_lighter old.bank a c.args.t parts c.requires.head true).0 in
    (omega arith, (c.requires.stands, test_can old.bank a c.args.t parts c.requires.head c.requires.can))

pub decide_choice-decide-requires-2 : goal.decide_choice-decide-requires-2
decide_choice-decide-requires-2 t c =
    let old : Work = c.args.work.now in
    let a : Assignment = c.args.assignment.now in
    let parts : Branches = c.args.parts in
    let test : Bool = c.is_true-test.result in
    let same : c.branch_of-branch.result ≡ branch_of parts test = c.branch_of-branch.ensures in
    let branch_old : CanDecide old.bank c.args.history.now a c.branch_of-branch.result = subst (CanDecide old.bank c.args.history.now a) (sym same) (branch_can old.bank a c.args.t parts c.requires.head test c.requires.can) in
    let one : Work = c.decide.new.work in
    let first : Grows old.bank one.bank = c.decide.ensures.grows.grows.bank in
    let lighter : weight_at old.bank (branch_of parts test) < weight_at old.bank c.args.t = (choice_lighter old.bank a c.args.t parts c.requires.head test).1 in
    let light : weight_at old.bank c.branch_of-branch.result < weight_at old.bank c.args.t = subst (λ b. weight_at old.bank b < weight_at old.bank c.args.t) (sym same) lighter in
    let weighs : weight_at one.bank c.branch_of-branch.result ≡ weight_at old.bank c.branch_of-branch.result = weight_same old.bank one.bank c.branch_of-branch.result first branch_old.term in
    (omega arith, (c.decide.ensures.grows.grows.stands, can_grown old.bank one.bank first a c.branch_of-branch.result branch_old))

pub decide_choice-returns-in_err-branch_line-clause-grows : goal.decide_choice-returns-in_err-branch_line-clause-grows
decide_choice-returns-in_err-branch_line-clause-grows t c =
    grown_trans c.args.history.now c.args.work.now c.decide.new.work c.decide-2.new.work c.decide.ensures.grows c.decide-2.ensures.grows

pub decide_choice-close_choice-requires-clause-can : goal.decide_choice-close_choice-requires-clause-can
decide_choice-close_choice-requires-clause-can t c =
    let old : Work = c.args.work.now in
    let a : Assignment = c.args.assignment.now in
    let parts : Branches = c.args.parts in
    let one : Work = c.decide.new.work in
    let two : Work = c.decide-2.new.work in
    let first : WorkGrows c.args.history.now old one = c.decide.ensures.grows.grows in
    let second : WorkGrows c.args.history.now one two = c.decide-2.ensures.grows.grows in
    let both : Grows old.bank two.bank = Grows-trans old.bank one.bank two.bank first.bank second.bank in
    can_grown old.bank two.bank both a c.args.t c.requires.can

pub decide_choice-close_choice-requires-clause-head : goal.decide_choice-close_choice-requires-clause-head
decide_choice-close_choice-requires-clause-head t c =
    let old : Work = c.args.work.now in
    let a : Assignment = c.args.assignment.now in
    let parts : Branches = c.args.parts in
    let one : Work = c.decide.new.work in
    let two : Work = c.decide-2.new.work in
    let first : WorkGrows c.args.history.now old one = c.decide.ensures.grows.grows in
    let second : WorkGrows c.args.history.now one two = c.decide-2.ensures.grows.grows in
    let both : Grows old.bank two.bank = Grows-trans old.bank one.bank two.bank first.bank second.bank in
    head_grown old.bank two.bank both c.args.t (head.Choice parts) c.requires.can.term c.requires.head

pub decide_choice-close_choice-requires-clause-test : goal.decide_choice-close_choice-requires-clause-test
decide_choice-close_choice-requires-clause-test t c =
    let old : Work = c.args.work.now in
    let a : Assignment = c.args.assignment.now in
    let parts : Branches = c.args.parts in
    let one : Work = c.decide.new.work in
    let two : Work = c.decide-2.new.work in
    let first : WorkGrows c.args.history.now old one = c.decide.ensures.grows.grows in
    let second : WorkGrows c.args.history.now one two = c.decide-2.ensures.grows.grows in
    let both : Grows old.bank two.bank = Grows-trans old.bank one.bank two.bank first.bank second.bank in
    let can : CanDecide old.bank c.args.history.now a parts.test = test_can old.bank a c.args.t parts c.requires.head c.requires.can in
    decides_grown c.args.history.now one two c.in_ok-test_line.test_line a parts.test first.stands second (can_grown old.bank one.bank first.bank a parts.test can) c.in_ok-test_line.ensures.line

pub decide_choice-close_choice-requires-clause-branch : goal.decide_choice-close_choice-requires-clause-branch
decide_choice-close_choice-requires-clause-branch t c =
    let old : Work = c.args.work.now in
    let a : Assignment = c.args.assignment.now in
    let parts : Branches = c.args.parts in
    let test : Bool = c.is_true-test.result in
    let same : c.branch_of-branch.result ≡ branch_of parts test = c.branch_of-branch.ensures in
    let branch_old : CanDecide old.bank c.args.history.now a c.branch_of-branch.result = subst (CanDecide old.bank c.args.history.now a) (sym same) (branch_can old.bank a c.args.t parts c.requires.head test c.requires.can) in
    let one : Work = c.decide.new.work in
    let two : Work = c.decide-2.new.work in
    let first : WorkGrows c.args.history.now old one = c.decide.ensures.grows.grows in
    let second : WorkGrows c.args.history.now one two = c.decide-2.ensures.grows.grows in
    let both : Grows old.bank two.bank = Grows-trans old.bank one.bank two.bank first.bank second.bank in
    let can : CanDecide old.bank c.args.history.now a parts.test = test_can old.bank a c.args.t parts c.requires.head c.requires.can in
    let value : test ≡ truth_at old.bank a parts.test = c.is_true-test.ensures ∙ ap (λ (ids : List TermId). truth_with (terms_at old.bank ids) (proposition_of (term_at old.bank parts.test))) c.as_slice.ensures.value in
    let now : test ≡ truth_at two.bank a parts.test = value ∙ sym (truth_same old.bank two.bank both a parts.test can.assignment can.term) in
    subst (Decides two c.in_ok-branch_line.branch_line a) (same ∙ ap (branch_of parts) now) c.in_ok-branch_line.ensures.line

pub decide_choice-returns-clause-grows : goal.decide_choice-returns-clause-grows
decide_choice-returns-clause-grows t c =
    grown_trans c.args.history.now c.args.work.now c.decide.new.work c.close_choice.new.work c.decide.ensures.grows (grown_trans c.args.history.now c.decide.new.work c.decide-2.new.work c.close_choice.new.work c.decide-2.ensures.grows c.close_choice.ensures.grows)

pub decide_denial-decide-requires : goal.decide_denial-decide-requires
decide_denial-decide-requires t c =
    let lighter : weight_at c.args.work.now.bank c.args.p < weight_at c.args.work.now.bank c.args.t = denial_lighter c.args.work.now.bank c.args.assignment.now c.args.t c.args.p c.requires.head in
    (omega arith, (c.requires.stands, denied_can c.args.work.now.bank c.args.assignment.now c.args.t c.args.p c.requires.head c.requires.can))

pub decide_denial-close_denial-requires-clause-can : goal.decide_denial-close_denial-requires-clause-can
decide_denial-close_denial-requires-clause-can t c =
    can_grown c.args.work.now.bank c.decide.new.work.bank c.decide.ensures.grows.grows.bank c.args.assignment.now c.args.t c.requires.can

pub decide_denial-returns-clause-grows : goal.decide_denial-returns-clause-grows
decide_denial-returns-clause-grows t c =
    grown_trans c.args.history.now c.args.work.now c.decide.new.work c.close_denial.new.work c.decide.ensures.grows c.close_denial.ensures.grows

pub decide_joined-instance_line-requires : goal.decide_joined-instance_line-requires
decide_joined-instance_line-requires t c =
    let old : Work = c.args.work.now in
    let a : Assignment = c.args.assignment.now in
    let case : Case = c.args.case in
    let lighter = joined_lighter old.bank a c.args.t case.connective c.args.p c.args.q c.requires.case.head in
    let left_light : weight_at old.bank c.args.p + 9 ≤ weight_at old.bank c.args.t = lighter.0 in
    let right_light : weight_at old.bank c.args.q + 9 ≤ weight_at old.bank c.args.t = lighter.1 in
    let left : CanDecide old.bank c.args.history.now a c.args.p = left_can old.bank a c.args.t case.connective c.args.p c.args.q c.requires.case.head c.requires.can in
    let right : CanDecide old.bank c.args.history.now a c.args.q = right_can old.bank a c.args.t case.connective c.args.p c.args.q c.requires.case.head c.requires.can in
    (omega arith, (c.requires.stands, can_instantiate old.bank a c.args.t case c.args.p c.args.q c.requires.can c.requires.case))

pub decide_joined-decide-requires : goal.decide_joined-decide-requires
decide_joined-decide-requires t c =
    let old : Work = c.args.work.now in
    let a : Assignment = c.args.assignment.now in
    let case : Case = c.args.case in
    let lighter = joined_lighter old.bank a c.args.t case.connective c.args.p c.args.q c.requires.case.head in
    let left_light : weight_at old.bank c.args.p + 9 ≤ weight_at old.bank c.args.t = lighter.0 in
    let right_light : weight_at old.bank c.args.q + 9 ≤ weight_at old.bank c.args.t = lighter.1 in
    let left : CanDecide old.bank c.args.history.now a c.args.p = left_can old.bank a c.args.t case.connective c.args.p c.args.q c.requires.case.head c.requires.can in
    let right : CanDecide old.bank c.args.history.now a c.args.q = right_can old.bank a c.args.t case.connective c.args.p c.args.q c.requires.case.head c.requires.can in
    let one : Work = c.instance_line.new.work in
    let first : WorkGrows c.args.history.now old one = c.instance_line.ensures.grows.grows in
    let weighs : weight_at one.bank c.args.p ≡ weight_at old.bank c.args.p = weight_same old.bank one.bank c.args.p first.bank left.term in
    (omega arith, (first.stands, can_grown old.bank one.bank first.bank a c.args.p left))

pub decide_joined-returns-in_err-left_line-clause-grows : goal.decide_joined-returns-in_err-left_line-clause-grows
decide_joined-returns-in_err-left_line-clause-grows t c =
    grown_trans c.args.history.now c.args.work.now c.instance_line.new.work c.decide.new.work c.instance_line.ensures.grows c.decide.ensures.grows

pub decide_joined-close_left-requires-clause-can : goal.decide_joined-close_left-requires-clause-can
decide_joined-close_left-requires-clause-can t c =
    let old : Work = c.args.work.now in
    let a : Assignment = c.args.assignment.now in
    let case : Case = c.args.case in
    let lighter = joined_lighter old.bank a c.args.t case.connective c.args.p c.args.q c.requires.case.head in
    let left_light : weight_at old.bank c.args.p + 9 ≤ weight_at old.bank c.args.t = lighter.0 in
    let right_light : weight_at old.bank c.args.q + 9 ≤ weight_at old.bank c.args.t = lighter.1 in
    let left : CanDecide old.bank c.args.history.now a c.args.p = left_can old.bank a c.args.t case.connective c.args.p c.args.q c.requires.case.head c.requires.can in
    let right : CanDecide old.bank c.args.history.now a c.args.q = right_can old.bank a c.args.t case.connective c.args.p c.args.q c.requires.case.head c.requires.can in
    let one : Work = c.instance_line.new.work in
    let first : WorkGrows c.args.history.now old one = c.instance_line.ensures.grows.grows in
    let two : Work = c.decide.new.work in
    let second : WorkGrows c.args.history.now one two = c.decide.ensures.grows.grows in
    let both : Grows old.bank two.bank = Grows-trans old.bank one.bank two.bank first.bank second.bank in
    can_grown old.bank two.bank both a c.args.t c.requires.can

pub decide_joined-close_left-requires-clause-case : goal.decide_joined-close_left-requires-clause-case
decide_joined-close_left-requires-clause-case t c =
    let old : Work = c.args.work.now in
    let a : Assignment = c.args.assignment.now in
    let case : Case = c.args.case in
    let lighter = joined_lighter old.bank a c.args.t case.connective c.args.p c.args.q c.requires.case.head in
    let left_light : weight_at old.bank c.args.p + 9 ≤ weight_at old.bank c.args.t = lighter.0 in
    let right_light : weight_at old.bank c.args.q + 9 ≤ weight_at old.bank c.args.t = lighter.1 in
    let left : CanDecide old.bank c.args.history.now a c.args.p = left_can old.bank a c.args.t case.connective c.args.p c.args.q c.requires.case.head c.requires.can in
    let right : CanDecide old.bank c.args.history.now a c.args.q = right_can old.bank a c.args.t case.connective c.args.p c.args.q c.requires.case.head c.requires.can in
    let one : Work = c.instance_line.new.work in
    let first : WorkGrows c.args.history.now old one = c.instance_line.ensures.grows.grows in
    let two : Work = c.decide.new.work in
    let second : WorkGrows c.args.history.now one two = c.decide.ensures.grows.grows in
    let both : Grows old.bank two.bank = Grows-trans old.bank one.bank two.bank first.bank second.bank in
    case_grown old.bank two.bank a c.args.t case c.args.p c.args.q both c.requires.can c.requires.case

pub decide_joined-close_left-requires-clause-line : goal.decide_joined-close_left-requires-clause-line
decide_joined-close_left-requires-clause-line t c =
    let old : Work = c.args.work.now in
    let a : Assignment = c.args.assignment.now in
    let case : Case = c.args.case in
    let lighter = joined_lighter old.bank a c.args.t case.connective c.args.p c.args.q c.requires.case.head in
    let left_light : weight_at old.bank c.args.p + 9 ≤ weight_at old.bank c.args.t = lighter.0 in
    let right_light : weight_at old.bank c.args.q + 9 ≤ weight_at old.bank c.args.t = lighter.1 in
    let left : CanDecide old.bank c.args.history.now a c.args.p = left_can old.bank a c.args.t case.connective c.args.p c.args.q c.requires.case.head c.requires.can in
    let right : CanDecide old.bank c.args.history.now a c.args.q = right_can old.bank a c.args.t case.connective c.args.p c.args.q c.requires.case.head c.requires.can in
    let one : Work = c.instance_line.new.work in
    let first : WorkGrows c.args.history.now old one = c.instance_line.ensures.grows.grows in
    let two : Work = c.decide.new.work in
    let second : WorkGrows c.args.history.now one two = c.decide.ensures.grows.grows in
    let both : Grows old.bank two.bank = Grows-trans old.bank one.bank two.bank first.bank second.bank in
    subst (LineHasOnly two c.in_ok-line.line) (sym (instance_same old.bank two.bank case c.args.p c.args.q both left.term right.term)) (
    only_grown c.args.history.now one two c.in_ok-line.line (instance_literals case (term_at old.bank c.args.p) (term_at old.bank c.args.q)) first.stands second c.in_ok-line.ensures.line)

pub decide_joined-returns-in_err-rest-clause-grows : goal.decide_joined-returns-in_err-rest-clause-grows
decide_joined-returns-in_err-rest-clause-grows t c =
    grown_trans c.args.history.now c.args.work.now c.instance_line.new.work c.close_left.new.work c.instance_line.ensures.grows (grown_trans c.args.history.now c.instance_line.new.work c.decide.new.work c.close_left.new.work c.decide.ensures.grows c.close_left.ensures.grows)

pub decide_joined-decide_right-requires : goal.decide_joined-decide_right-requires
decide_joined-decide_right-requires t c =
    let old : Work = c.args.work.now in
    let a : Assignment = c.args.assignment.now in
    let case : Case = c.args.case in
    let lighter = joined_lighter old.bank a c.args.t case.connective c.args.p c.args.q c.requires.case.head in
    let left_light : weight_at old.bank c.args.p + 9 ≤ weight_at old.bank c.args.t = lighter.0 in
    let right_light : weight_at old.bank c.args.q + 9 ≤ weight_at old.bank c.args.t = lighter.1 in
    let left : CanDecide old.bank c.args.history.now a c.args.p = left_can old.bank a c.args.t case.connective c.args.p c.args.q c.requires.case.head c.requires.can in
    let right : CanDecide old.bank c.args.history.now a c.args.q = right_can old.bank a c.args.t case.connective c.args.p c.args.q c.requires.case.head c.requires.can in
    let one : Work = c.instance_line.new.work in
    let first : WorkGrows c.args.history.now old one = c.instance_line.ensures.grows.grows in
    let two : Work = c.decide.new.work in
    let second : WorkGrows c.args.history.now one two = c.decide.ensures.grows.grows in
    let both : Grows old.bank two.bank = Grows-trans old.bank one.bank two.bank first.bank second.bank in
    let three : Work = c.close_left.new.work in
    let third : WorkGrows c.args.history.now two three = c.close_left.ensures.grows.grows in
    let all : Grows old.bank three.bank = Grows-trans old.bank two.bank three.bank both third.bank in
    let weighs : weight_at three.bank c.args.q ≡ weight_at old.bank c.args.q = weight_same old.bank three.bank c.args.q all right.term in
    let can_two : CanDecide two.bank c.args.history.now a c.args.t = can_grown old.bank two.bank both a c.args.t c.requires.can in
    let right_two : CanDecide two.bank c.args.history.now a c.args.q = can_grown old.bank two.bank both a c.args.q right in
    let rest : LineHasOnly three c.in_ok-rest.rest (rest_of three.bank a c.args.t case c.args.q) = subst (LineHasOnly three c.in_ok-rest.rest) (sym (rest_same two.bank three.bank a c.args.t case c.args.q third.bank can_two right_two.term)) c.in_ok-rest.ensures.line in
    (omega arith, (third.stands, (can_grown old.bank three.bank all a c.args.t c.requires.can, (case_grown old.bank three.bank a c.args.t case c.args.p c.args.q all c.requires.can c.requires.case, rest))))

pub decide_joined-returns-clause-grows : goal.decide_joined-returns-clause-grows
decide_joined-returns-clause-grows t c =
    grown_trans c.args.history.now c.args.work.now c.instance_line.new.work c.decide_right.new.work c.instance_line.ensures.grows (grown_trans c.args.history.now c.instance_line.new.work c.decide.new.work c.decide_right.new.work c.decide.ensures.grows (grown_trans c.args.history.now c.decide.new.work c.close_left.new.work c.decide_right.new.work c.close_left.ensures.grows c.decide_right.ensures.grows))

pub decide_right-decide-requires : goal.decide_right-decide-requires
decide_right-decide-requires t c =
    let old : Work = c.args.work.now in
    let a : Assignment = c.args.assignment.now in
    let case : Case = c.args.case in
    let lighter = joined_lighter old.bank a c.args.t case.connective c.args.p c.args.q c.requires.case.head in
    let left_light : weight_at old.bank c.args.p + 9 ≤ weight_at old.bank c.args.t = lighter.0 in
    let right_light : weight_at old.bank c.args.q + 9 ≤ weight_at old.bank c.args.t = lighter.1 in
    let left : CanDecide old.bank c.args.history.now a c.args.p = left_can old.bank a c.args.t case.connective c.args.p c.args.q c.requires.case.head c.requires.can in
    let right : CanDecide old.bank c.args.history.now a c.args.q = right_can old.bank a c.args.t case.connective c.args.p c.args.q c.requires.case.head c.requires.can in
    (omega arith, (c.requires.stands, right))

pub decide_right-close_right-requires-clause-can : goal.decide_right-close_right-requires-clause-can
decide_right-close_right-requires-clause-can t c =
    let old : Work = c.args.work.now in
    let a : Assignment = c.args.assignment.now in
    let case : Case = c.args.case in
    let lighter = joined_lighter old.bank a c.args.t case.connective c.args.p c.args.q c.requires.case.head in
    let left_light : weight_at old.bank c.args.p + 9 ≤ weight_at old.bank c.args.t = lighter.0 in
    let right_light : weight_at old.bank c.args.q + 9 ≤ weight_at old.bank c.args.t = lighter.1 in
    let left : CanDecide old.bank c.args.history.now a c.args.p = left_can old.bank a c.args.t case.connective c.args.p c.args.q c.requires.case.head c.requires.can in
    let right : CanDecide old.bank c.args.history.now a c.args.q = right_can old.bank a c.args.t case.connective c.args.p c.args.q c.requires.case.head c.requires.can in
    let one : Work = c.decide.new.work in
    let first : WorkGrows c.args.history.now old one = c.decide.ensures.grows.grows in
    can_grown old.bank one.bank first.bank a c.args.t c.requires.can

pub decide_right-close_right-requires-clause-case : goal.decide_right-close_right-requires-clause-case
decide_right-close_right-requires-clause-case t c =
    let old : Work = c.args.work.now in
    let a : Assignment = c.args.assignment.now in
    let case : Case = c.args.case in
    let lighter = joined_lighter old.bank a c.args.t case.connective c.args.p c.args.q c.requires.case.head in
    let left_light : weight_at old.bank c.args.p + 9 ≤ weight_at old.bank c.args.t = lighter.0 in
    let right_light : weight_at old.bank c.args.q + 9 ≤ weight_at old.bank c.args.t = lighter.1 in
    let left : CanDecide old.bank c.args.history.now a c.args.p = left_can old.bank a c.args.t case.connective c.args.p c.args.q c.requires.case.head c.requires.can in
    let right : CanDecide old.bank c.args.history.now a c.args.q = right_can old.bank a c.args.t case.connective c.args.p c.args.q c.requires.case.head c.requires.can in
    let one : Work = c.decide.new.work in
    let first : WorkGrows c.args.history.now old one = c.decide.ensures.grows.grows in
    case_grown old.bank one.bank a c.args.t case c.args.p c.args.q first.bank c.requires.can c.requires.case

pub decide_right-close_right-requires-clause-rest : goal.decide_right-close_right-requires-clause-rest
decide_right-close_right-requires-clause-rest t c =
    let old : Work = c.args.work.now in
    let a : Assignment = c.args.assignment.now in
    let case : Case = c.args.case in
    let lighter = joined_lighter old.bank a c.args.t case.connective c.args.p c.args.q c.requires.case.head in
    let left_light : weight_at old.bank c.args.p + 9 ≤ weight_at old.bank c.args.t = lighter.0 in
    let right_light : weight_at old.bank c.args.q + 9 ≤ weight_at old.bank c.args.t = lighter.1 in
    let left : CanDecide old.bank c.args.history.now a c.args.p = left_can old.bank a c.args.t case.connective c.args.p c.args.q c.requires.case.head c.requires.can in
    let right : CanDecide old.bank c.args.history.now a c.args.q = right_can old.bank a c.args.t case.connective c.args.p c.args.q c.requires.case.head c.requires.can in
    let one : Work = c.decide.new.work in
    let first : WorkGrows c.args.history.now old one = c.decide.ensures.grows.grows in
    rest_grown c.args.history.now old one c.args.rest a c.args.t case c.args.q c.requires.stands first c.requires.can right.term c.requires.rest

pub decide_right-returns-clause-grows : goal.decide_right-returns-clause-grows
decide_right-returns-clause-grows t c =
    grown_trans c.args.history.now c.args.work.now c.decide.new.work c.close_right.new.work c.decide.ensures.grows c.close_right.ensures.grows

pub instance_line-returns-in_err-line-clause-grows : goal.instance_line-returns-in_err-line-clause-grows
instance_line-returns-in_err-line-clause-grows t c =
    grown_trans c.args.history.now c.args.work.now c.denials_of.new.work c.case_line.new.work c.denials_of.ensures.grows c.case_line.ensures.grows

pub instance_line-returns-in_err-line-2-clause-grows : goal.instance_line-returns-in_err-line-2-clause-grows
instance_line-returns-in_err-line-2-clause-grows t c =
    grown_trans c.args.history.now c.args.work.now c.denials_of.new.work c.add_instance.new.work c.denials_of.ensures.grows (grown_trans c.args.history.now c.denials_of.new.work c.case_line.new.work c.add_instance.new.work c.case_line.ensures.grows c.add_instance.ensures.grows)

pub instance_line-returns-in_err-push-clause-grows : goal.instance_line-returns-in_err-push-clause-grows
instance_line-returns-in_err-push-clause-grows t c =
    grown_trans c.args.history.now c.args.work.now c.denials_of.new.work c.add_instance.new.work c.denials_of.ensures.grows (grown_trans c.args.history.now c.denials_of.new.work c.case_line.new.work c.add_instance.new.work c.case_line.ensures.grows c.add_instance.ensures.grows)

pub instance_line-returns-clause-grows : goal.instance_line-returns-clause-grows
instance_line-returns-clause-grows t c =
    grown_trans c.args.history.now c.args.work.now c.denials_of.new.work c.add_instance.new.work c.denials_of.ensures.grows (grown_trans c.args.history.now c.denials_of.new.work c.case_line.new.work c.add_instance.new.work c.case_line.ensures.grows c.add_instance.ensures.grows)

pub instance_line-returns-clause-line : goal.instance_line-returns-clause-line
instance_line-returns-clause-line t c =
    let old : Work = c.args.work.now in
    let one : Work = c.denials_of.new.work in
    let two : Work = c.case_line.new.work in
    let both : Grows old.bank two.bank = Grows-trans old.bank one.bank two.bank c.denials_of.ensures.grows.grows.bank c.case_line.ensures.grows.grows.bank in
    subst (LineHasOnly c.add_instance.new.work c.in_ok-line-2.line) (instance_same old.bank two.bank c.args.case c.args.p c.args.q both c.requires.can.left c.requires.can.right) c.in_ok-line-2.ensures.line

pub instance_line-add_instance-requires-clause-over : goal.instance_line-add_instance-requires-clause-over
instance_line-add_instance-requires-clause-over t c =
    let old : Work = c.args.work.now in
    let one : Work = c.denials_of.new.work in
    let two : Work = c.case_line.new.work in
    let both : Grows old.bank two.bank = Grows-trans old.bank one.bank two.bank c.denials_of.ensures.grows.grows.bank c.case_line.ensures.grows.grows.bank in
    (in_grown old.bank two.bank c.args.history.now c.args.t both c.requires.can.whole.stands c.requires.can.over).over

pub decide-returns-in-Some-clause-grows : goal.decide-returns-in-Some-clause-grows
decide-returns-in-Some-clause-grows t c = grown_refl c.args.history.now c.args.work.now c.requires.stands

pub decide-returns-in-Some-clause-line : goal.decide-returns-in-Some-clause-line
decide-returns-in-Some-clause-line t c =
    let old : Work = c.args.work.now in
    let a : Assignment = c.args.assignment.now in
    let value : c.is_true-value.result ≡ truth_at old.bank a c.args.t = c.is_true-value.ensures ∙ ap (λ (ids : List TermId). truth_with (terms_at old.bank ids) (proposition_of (term_at old.bank c.args.t))) c.as_slice.ensures.value in
    subst (λ (b : Bool). Says old c.in-Some.line b c.args.t a.denials.items) value (
    subst (Says old c.in-Some.line c.is_true-value.result c.args.t) c.as_slice-denials.ensures.value c.in-Some.ensures)

pub decide_right-returns-then-says-clause-grows : goal.decide_right-returns-then-says-clause-grows
decide_right-returns-then-says-clause-grows t c = grown_refl c.args.history.now c.args.work.now c.requires.stands
