use Rattle.std.proofs.Common.{◌≡◌, ◌∙◌, ap, subst}
use Rattle.nq_logic.specs.Words.{not_term, equal_term, if_term}
use Rattle.nq_bank.specs.Content.{term_at}
use Rattle.nq_rule.proofs.Made.{for_ok}
use Rattle.nq_proof.specs.Rules.{Forwards}
use Rattle.nq_kernel.specs.declared.work.Work.{Work}
use Rattle.nq_kernel.specs.Growing.{WorkGrows}
use Rattle.nq_kernel.proofs.GrowingLemmas.{WorkGrows-trans}
use Rattle.nq_lines.specs.Lines.{LineHasOnly, DischargesTo}
use Rattle.nq_lines.proofs.LineLemmas.{only_grown, line_grown, only_stands}
use Rattle.nq_lines.proofs.TermLemmas.{term_grown, same_term_grown}
use Rattle.nq_lines.proofs.Chains.{cuts_by, discharges_by}
use Rattle.nq_lines.specs.Branches.{JoinsIf, JoinsBranches, if_at, joined_literals}
use Rattle.nq_lines.proofs.BranchLemmas.{branches_grown, joined_by}
use Rattle.nq_rule.specs.declared.branching.Branches.{Branches}
use Rattle.nq_lines.proofs.joining.joined_line.Goals as goal

pub join-requires-clause-first : goal.join-requires-clause-first
join-requires-clause-first c = (line_grown c.args.history.now c.args.work.now c.equations.new.work c.args.lines.second c.requires.stands c.equations.ensures.grows c.requires.lines.second)

pub join-requires-clause-second : goal.join-requires-clause-second
join-requires-clause-second c = (line_grown c.args.history.now c.args.work.now c.equations.new.work c.args.lines.first c.requires.stands c.equations.ensures.grows c.requires.lines.first)

pub condition-requires-clause-parts : goal.condition-requires-clause-parts
condition-requires-clause-parts c = branches_grown c.args.history.now c.equations.new.work c.join.new.work c.in_ok-parts.parts c.equations.ensures.grows.stands c.join.ensures.grows c.in_ok-parts.ensures.over

pub law_instance-requires-clause-law : goal.law_instance-requires-clause-law
law_instance-requires-clause-law c = only_grown c.args.history.now c.args.work.now c.condition.new.work c.args.law _ c.requires.stands (WorkGrows-trans c.args.history.now c.args.work.now c.equations.new.work c.condition.new.work c.equations.ensures.grows (WorkGrows-trans c.args.history.now c.equations.new.work c.join.new.work c.condition.new.work c.join.ensures.grows c.condition.ensures.grows)) c.requires.law

pub law_instance-requires-clause-before : goal.law_instance-requires-clause-before
law_instance-requires-clause-before c = branches_grown c.args.history.now c.args.work.now c.condition.new.work c.args.before c.requires.stands (WorkGrows-trans c.args.history.now c.args.work.now c.equations.new.work c.condition.new.work c.equations.ensures.grows (WorkGrows-trans c.args.history.now c.equations.new.work c.join.new.work c.condition.new.work c.join.ensures.grows c.condition.ensures.grows)) c.requires.before

pub law_instance-requires-clause-after : goal.law_instance-requires-clause-after
law_instance-requires-clause-after c = branches_grown c.args.history.now c.args.work.now c.condition.new.work c.args.after c.requires.stands (WorkGrows-trans c.args.history.now c.args.work.now c.equations.new.work c.condition.new.work c.equations.ensures.grows (WorkGrows-trans c.args.history.now c.equations.new.work c.join.new.work c.condition.new.work c.join.ensures.grows c.condition.ensures.grows)) c.requires.after

pub cut-requires-clause-first : goal.cut-requires-clause-first
cut-requires-clause-first c = (line_grown c.args.history.now c.join.new.work c.law_instance.new.work c.in_ok-chosen.chosen c.join.ensures.grows.stands (WorkGrows-trans c.args.history.now c.join.new.work c.condition.new.work c.law_instance.new.work c.condition.ensures.grows c.law_instance.ensures.grows) c.in_ok-chosen.ensures.stands)

pub cut-requires-clause-second : goal.cut-requires-clause-second
cut-requires-clause-second c = only_stands c.law_instance.new.work c.in_ok-known.known _ c.in_ok-known.ensures.line

pub cut-requires-clause-term : goal.cut-requires-clause-term
cut-requires-clause-term c = (term_grown c.args.history.now c.condition.new.work c.law_instance.new.work c.in_ok-choice.choice c.condition.ensures.grows.stands c.law_instance.ensures.grows c.in_ok-choice.ensures.over)

pub discharge-requires-clause-left : goal.discharge-requires-clause-left
discharge-requires-clause-left c = (term_grown c.args.history.now c.args.work.now c.cut.new.work c.args.before.test c.requires.stands (WorkGrows-trans c.args.history.now c.args.work.now c.equations.new.work c.cut.new.work c.equations.ensures.grows (WorkGrows-trans c.args.history.now c.equations.new.work c.join.new.work c.cut.new.work c.join.ensures.grows (WorkGrows-trans c.args.history.now c.join.new.work c.condition.new.work c.cut.new.work c.condition.ensures.grows (WorkGrows-trans c.args.history.now c.condition.new.work c.law_instance.new.work c.cut.new.work c.law_instance.ensures.grows c.cut.ensures.grows)))) c.requires.before.test)

pub discharge-requires-clause-right : goal.discharge-requires-clause-right
discharge-requires-clause-right c = (term_grown c.args.history.now c.args.work.now c.cut.new.work c.args.after.test c.requires.stands (WorkGrows-trans c.args.history.now c.args.work.now c.equations.new.work c.cut.new.work c.equations.ensures.grows (WorkGrows-trans c.args.history.now c.equations.new.work c.join.new.work c.cut.new.work c.join.ensures.grows (WorkGrows-trans c.args.history.now c.join.new.work c.condition.new.work c.cut.new.work c.condition.ensures.grows (WorkGrows-trans c.args.history.now c.condition.new.work c.law_instance.new.work c.cut.new.work c.law_instance.ensures.grows c.cut.ensures.grows)))) c.requires.after.test)

pub discharge-requires-clause-line : goal.discharge-requires-clause-line
discharge-requires-clause-line c = c.in_ok-rest.ensures.stands

pub discharge-requires-clause-equation : goal.discharge-requires-clause-equation
discharge-requires-clause-equation c = (line_grown c.args.history.now c.args.work.now c.cut.new.work c.args.lines.test c.requires.stands (WorkGrows-trans c.args.history.now c.args.work.now c.equations.new.work c.cut.new.work c.equations.ensures.grows (WorkGrows-trans c.args.history.now c.equations.new.work c.join.new.work c.cut.new.work c.join.ensures.grows (WorkGrows-trans c.args.history.now c.join.new.work c.condition.new.work c.cut.new.work c.condition.ensures.grows (WorkGrows-trans c.args.history.now c.condition.new.work c.law_instance.new.work c.cut.new.work c.law_instance.ensures.grows c.cut.ensures.grows)))) c.requires.lines.test)

pub returns-in_err-chosen-clause-grows : goal.returns-in_err-chosen-clause-grows
returns-in_err-chosen-clause-grows c = (WorkGrows-trans c.args.history.now c.args.work.now c.equations.new.work c.join.new.work c.equations.ensures.grows c.join.ensures.grows)

pub returns-in_err-choice-clause-grows : goal.returns-in_err-choice-clause-grows
returns-in_err-choice-clause-grows c = (WorkGrows-trans c.args.history.now c.args.work.now c.equations.new.work c.condition.new.work c.equations.ensures.grows (WorkGrows-trans c.args.history.now c.equations.new.work c.join.new.work c.condition.new.work c.join.ensures.grows c.condition.ensures.grows))

pub returns-in_err-known-clause-grows : goal.returns-in_err-known-clause-grows
returns-in_err-known-clause-grows c = (WorkGrows-trans c.args.history.now c.args.work.now c.equations.new.work c.law_instance.new.work c.equations.ensures.grows (WorkGrows-trans c.args.history.now c.equations.new.work c.join.new.work c.law_instance.new.work c.join.ensures.grows (WorkGrows-trans c.args.history.now c.join.new.work c.condition.new.work c.law_instance.new.work c.condition.ensures.grows c.law_instance.ensures.grows)))

pub returns-in_err-rest-clause-grows : goal.returns-in_err-rest-clause-grows
returns-in_err-rest-clause-grows c = (WorkGrows-trans c.args.history.now c.args.work.now c.equations.new.work c.cut.new.work c.equations.ensures.grows (WorkGrows-trans c.args.history.now c.equations.new.work c.join.new.work c.cut.new.work c.join.ensures.grows (WorkGrows-trans c.args.history.now c.join.new.work c.condition.new.work c.cut.new.work c.condition.ensures.grows (WorkGrows-trans c.args.history.now c.condition.new.work c.law_instance.new.work c.cut.new.work c.law_instance.ensures.grows c.cut.ensures.grows))))

pub returns-clause-grows : goal.returns-clause-grows
returns-clause-grows c = (WorkGrows-trans c.args.history.now c.args.work.now c.equations.new.work c.discharge.new.work c.equations.ensures.grows (WorkGrows-trans c.args.history.now c.equations.new.work c.join.new.work c.discharge.new.work c.join.ensures.grows (WorkGrows-trans c.args.history.now c.join.new.work c.condition.new.work c.discharge.new.work c.condition.ensures.grows (WorkGrows-trans c.args.history.now c.condition.new.work c.law_instance.new.work c.discharge.new.work c.law_instance.ensures.grows (WorkGrows-trans c.args.history.now c.law_instance.new.work c.cut.new.work c.discharge.new.work c.cut.ensures.grows c.discharge.ensures.grows)))))

pub returns-clause-line : goal.returns-clause-line
returns-clause-line c =
    let h = c.args.history.now in
    let w0 : Work = c.args.work.now in
    let w1 : Work = c.equations.new.work in
    let w2 : Work = c.join.new.work in
    let w3 : Work = c.condition.new.work in
    let w4 : Work = c.law_instance.new.work in
    let w5 : Work = c.cut.new.work in
    let w6 : Work = c.discharge.new.work in
    let g01 : WorkGrows h w0 w1 = c.equations.ensures.grows in
    let g03 : WorkGrows h w0 w3 = (WorkGrows-trans c.args.history.now c.args.work.now c.equations.new.work c.condition.new.work c.equations.ensures.grows (WorkGrows-trans c.args.history.now c.equations.new.work c.join.new.work c.condition.new.work c.join.ensures.grows c.condition.ensures.grows)) in
    let g05 : WorkGrows h w0 w5 = (WorkGrows-trans c.args.history.now c.args.work.now c.equations.new.work c.cut.new.work c.equations.ensures.grows (WorkGrows-trans c.args.history.now c.equations.new.work c.join.new.work c.cut.new.work c.join.ensures.grows (WorkGrows-trans c.args.history.now c.join.new.work c.condition.new.work c.cut.new.work c.condition.ensures.grows (WorkGrows-trans c.args.history.now c.condition.new.work c.law_instance.new.work c.cut.new.work c.law_instance.ensures.grows c.cut.ensures.grows)))) in
    let g12 : WorkGrows h w1 w2 = c.join.ensures.grows in
    let g23 : WorkGrows h w2 w3 = c.condition.ensures.grows in
    let g24 : WorkGrows h w2 w4 = (WorkGrows-trans c.args.history.now c.join.new.work c.condition.new.work c.law_instance.new.work c.condition.ensures.grows c.law_instance.ensures.grows) in
    let g34 : WorkGrows h w3 w4 = c.law_instance.ensures.grows in
    let g45 : WorkGrows h w4 w5 = c.cut.ensures.grows in
    let b = c.args.before in
    let a = c.args.after in
    let l = c.args.lines in
    let parts : Branches = c.in_ok-parts.parts in
    let eqs = c.in_ok-parts.ensures.parts in
    let p = term_at w0.bank b.test in
    let x = term_at w0.bank b.first in
    let y = term_at w0.bank b.second in
    let q = term_at w0.bank a.test in
    let u = term_at w0.bank a.first in
    let v = term_at w0.bank a.second in
    let chosen = c.in_ok-chosen.chosen in
    let choice = c.in_ok-choice.choice in
    let known = c.in_ok-known.known in
    let rest = c.in_ok-rest.rest in
    let over = c.in_ok-parts.ensures.over in
    let joins : JoinsIf w1 w2 (not_term q) (equal_term y v) (equal_term x u) l.second l.first chosen =
    subst (λ t. JoinsIf w1 w2 t (equal_term y v) (equal_term x u) l.second l.first chosen) eqs.test.denotes
    (subst (λ t. JoinsIf w1 w2 (term_at w1.bank parts.test) t (equal_term x u) l.second l.first chosen) eqs.first.denotes
    (subst (λ t. JoinsIf w1 w2 (term_at w1.bank parts.test) (term_at w1.bank parts.first) t l.second l.first chosen) eqs.second.denotes c.in_ok-chosen.ensures.line)) in
    let law : LineHasOnly w4 known (joined_literals p x y q u v) =
    subst (λ t. LineHasOnly w4 known (joined_literals t x y q u v)) (same_term_grown h w0 w3 b.test g03 c.requires.before.test)
    (subst (λ t. LineHasOnly w4 known (joined_literals (term_at w3.bank b.test) t y q u v)) (same_term_grown h w0 w3 b.first g03 c.requires.before.first)
    (subst (λ t. LineHasOnly w4 known (joined_literals (term_at w3.bank b.test) (term_at w3.bank b.first) t q u v)) (same_term_grown h w0 w3 b.second g03 c.requires.before.second)
    (subst (λ t. LineHasOnly w4 known (joined_literals (term_at w3.bank b.test) (term_at w3.bank b.first) (term_at w3.bank b.second) t u v)) (same_term_grown h w0 w3 a.test g03 c.requires.after.test)
    (subst (λ t. LineHasOnly w4 known (joined_literals (term_at w3.bank b.test) (term_at w3.bank b.first) (term_at w3.bank b.second) (term_at w3.bank a.test) t v)) (same_term_grown h w0 w3 a.first g03 c.requires.after.first)
    (subst (λ t. LineHasOnly w4 known (joined_literals (term_at w3.bank b.test) (term_at w3.bank b.first) (term_at w3.bank b.second) (term_at w3.bank a.test) (term_at w3.bank a.first) t)) (same_term_grown h w0 w3 a.second g03 c.requires.after.second)
    c.in_ok-known.ensures.line))))) in
    let one : term_at w3.bank choice ≡ if_at w2.bank parts = c.in_ok-choice.ensures.condition.denotes in
    let two : term_at w4.bank choice ≡ if_term (not_term q) (equal_term y v) (equal_term x u) =
    same_term_grown h w3 w4 choice g34 c.in_ok-choice.ensures.over ∙ one ∙
    ap (λ t. if_term t (term_at w2.bank parts.first) (term_at w2.bank parts.second)) (same_term_grown h w1 w2 parts.test g12 over.test ∙ eqs.test.denotes) ∙
    ap (λ t. if_term (not_term q) t (term_at w2.bank parts.second)) (same_term_grown h w1 w2 parts.first g12 over.first ∙ eqs.first.denotes) ∙
    ap (λ t. if_term (not_term q) (equal_term y v) t) (same_term_grown h w1 w2 parts.second g12 over.second ∙ eqs.second.denotes) in
    let cuts = cuts_by w4 w5 (term_at w4.bank choice) (if_term (not_term q) (equal_term y v) (equal_term x u)) chosen known rest two c.in_ok-rest.ensures.line in
    let p5 = same_term_grown h w0 w5 b.test g05 c.requires.before.test in
    let q5 = same_term_grown h w0 w5 a.test g05 c.requires.after.test in
    for_ok c.discharge.result (DischargesTo w5 w6 Forwards (term_at w5.bank b.test) (term_at w5.bank a.test) rest l.test) (JoinsBranches w0 w6 b a l) (λ n f.
    joined_by h w0 w1 w2 w4 w5 w6 p x y q u v l.test l.first l.second chosen known rest n c.requires.stands g01 g12 g24 g45 joins law cuts
    (discharges_by w5 w6 Forwards (term_at w5.bank b.test) (term_at w5.bank a.test) p q rest l.test n p5 q5 f)) c.discharge.ensures.line
