use Rattle.std.proofs.Common.{◌∷◌, ◌++◌, [], List, ◌∙◌, map, get_or, sym, ap, ap₂, subst}
use Rattle.std.specs.Prelude.{All}
use Rattle.std.proofs.lemmas.List.{take_more}
use Rattle.nq_bank.specs.declared.node.TermId.{TermId}
use Rattle.nq_bank.proofs.Standing.{All-push}
use Rattle.nq_kernel.proofs.GrowingLemmas.{WorkGrows-refl, WorkGrows-trans}
use Rattle.nq_lines.proofs.TermLemmas.{term_grown}
use Rattle.nq_elim.specs.Cases.{CaseStands}
use Rattle.nq_elim.proofs.ListLemmas.{all_none}
use Rattle.nq_elim.proofs.CaseLemmas.{cases_grown, literals_more}
use Rattle.nq_elim.proofs.cases.cases_of.Goals as goal

pub loop-literal-init : goal.loop-literal-init
loop-literal-init c =
    let h = c.args.history.now in
    let w = c.args.work.now in
    record {
      grows = WorkGrows-refl h w c.requires.stands;
      stand = subst (All (CaseStands h w)) (sym c.new-cases.ensures.items) (all_none (CaseStands h w));
      literals = ap (map (λ c. c.literal)) c.new-cases.ensures.items;
    }

pub case_of-requires-clause-literal : goal.case_of-requires-clause-literal
case_of-requires-clause-literal c =
    let none : TermId = record { 0 = 0 } in
    term_grown c.args.history.now c.args.work.now c.loop-literal.work (get_or c.args.literals.now c.loop-literal.literal-index none) c.requires.stands c.loop-literal.invariant.grows (c.requires.literals c.loop-literal.literal-index none c.loop-literal-test.true)

pub returns-in_err-case-clause-grows : goal.returns-in_err-case-clause-grows
returns-in_err-case-clause-grows c = WorkGrows-trans c.args.history.now c.args.work.now c.loop-literal.work c.case_of.new.work c.loop-literal.invariant.grows c.case_of.ensures.grows

pub returns-in_err-push_case-clause-grows : goal.returns-in_err-push_case-clause-grows
returns-in_err-push_case-clause-grows c = WorkGrows-trans c.args.history.now c.args.work.now c.loop-literal.work c.case_of.new.work c.loop-literal.invariant.grows c.case_of.ensures.grows

pub loop-literal-preserved : goal.loop-literal-preserved
loop-literal-preserved c =
    let none : TermId = record { 0 = 0 } in
    let h = c.args.history.now in
    let mid = c.loop-literal.work in
    let new = c.case_of.new.work in
    let before = c.loop-literal.invariant.grows in
    let after = c.case_of.ensures.grows in
    let items = c.loop-literal.cases.items in
    record {
      grows = WorkGrows-trans h c.args.work.now mid new before after;
      stand =
          subst (All (CaseStands h new)) (sym c.in_ok-push_case.ensures.ok)
          (All-push (CaseStands h new) items c.in_ok-case.case (cases_grown h mid new before.stands after items c.loop-literal.invariant.stand) c.in_ok-case.ensures.case);
      literals =
          ap (map (λ c. c.literal)) c.in_ok-push_case.ensures.ok ∙ literals_more items c.in_ok-case.case ∙
          ap₂ (λ (a : List TermId) (b : TermId). a ++ b ∷ []) c.loop-literal.invariant.literals c.in_ok-case.ensures.literal ∙
          sym (take_more c.args.literals.now c.loop-literal.literal-index none c.loop-literal-test.true);
    }
