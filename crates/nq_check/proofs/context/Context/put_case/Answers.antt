use Rattle.std.proofs.Common.{List, [], ◌∷◌, ◌++◌, true, map, refl, sym, ap, ◌∙◌, subst}
use Rattle.std.specs.Prelude.{All}
use Rattle.std.specs.Option.{option_map}
use Rattle.std.proofs.lemmas.List.{map-append}
use Rattle.nq_logtext.specs.declared.line.Binding.{Binding}
use Rattle.nq_bank.specs.Content.{term_at}
use Rattle.nq_bank.proofs.Standing.{All-push}
use Rattle.nq_clause.specs.Substitution.{substitution_at}
use Rattle.nq_history.proofs.Lists.{All-none}
use Rattle.nq_rule.specs.declared.induction.InductionStep.{InductionStep}
use Rattle.nq_rule.specs.Inductions.{case_at, cases_at, hypotheses_at, CaseStands, HypothesisStands}
use Rattle.nq_log.specs.RuleLines.{substitution_at as substitution_of_block}
use Rattle.nq_check.specs.declared.waiting.CaseLine.{CaseLine}
use Rattle.nq_check.specs.Cases.{GoesWith, PutsStep}
use Rattle.nq_check.specs.Contexts.{case_of, pair_of, state_of}
use Rattle.nq_check.proofs.CaseLemmas.{case_goes, if_ok, on_ok, step_put, step_stands}
use Rattle.nq_check.proofs.context.Context.put_case.Goals as goal

pub returns-in_ok-push-in-Case-clause-goes : goal.returns-in_ok-push-in-Case-clause-goes
returns-in_ok-push-in-Case-clause-goes c =
    let bank = c.args.self.now.bank in
    let block = (state_of c.args.self.now).block in
    let cases = c.args.cases.now.items in
    let olds = cases_at bank cases in
    let news = cases_at bank c.push.new.self.items in
    let t = term_at bank c.in-Some.t in
    let found = sym c.term.ensures.term ∙ ap (option_map (term_at bank)) c.in-Some.is in
    let pushed =
    ap (λ (steps : List InductionStep). olds ++ record { test = t; step = c.in-Case.step; hypotheses = hypotheses_at bank steps } ∷ []) (sym c.new.ensures.items)
    ∙ sym (ap (cases_at bank) c.in_ok-push-in-Case.ensures.items ∙ map-append (case_at bank) cases (record { test = c.in-Some.t; line = c.in-Case.step; steps = c.new.result } ∷ [])) in
    subst (λ (w : CaseLine). GoesWith true block (case_of w) olds news) (sym c.in-Case.is) (case_goes block c.in-Case.test c.in-Case.step t olds news found pushed)

pub returns-in_ok-push-in-Case-clause-stand : goal.returns-in_ok-push-in-Case-clause-stand
returns-in_ok-push-in-Case-clause-stand c =
    let bank = c.args.self.now.bank in
    subst (All (CaseStands bank)) (sym c.in_ok-push-in-Case.ensures.items)
    (All-push (CaseStands bank) c.args.cases.now.items _ c.requires.cases
    (record { test = c.in-Some.ensures.stands; steps = subst (All (HypothesisStands bank)) (sym c.new.ensures.items) (All-none (HypothesisStands bank)) }))

pub returns-in-Some-2-clause-goes : goal.returns-in-Some-2-clause-goes
returns-in-Some-2-clause-goes c =
    let bank = c.args.self.now.bank in
    let block = (state_of c.args.self.now).block in
    let olds = c.args.cases.now.items in
    let news = c.put_step.new.cases.items in
    let step : InductionStep = record { line = c.in-Hypothesis.line; pairs = c.in-Some-2.pairs } in
    let found =
    ap (λ (bs : List Binding). substitution_of_block block (map pair_of bs)) (sym c.as_slice.ensures.value)
    ∙ sym c.in_ok-pairs-in-Hypothesis.ensures.pairs ∙ ap (option_map (λ pairs. substitution_at bank pairs.items)) c.in-Some-2.is in
    if_ok c.put_step.result (λ put. PutsStep put olds news step) (λ put. GoesWith put block (case_of c.args.line.now) (cases_at bank olds) (cases_at bank news))
    (λ put puts. subst (λ (w : CaseLine). GoesWith put block (case_of w) (cases_at bank olds) (cases_at bank news)) (sym c.in-Hypothesis.is)
    (step_put bank block c.in-Hypothesis.line (map pair_of c.in-Hypothesis.bindings.items) olds news step put puts found refl))
    c.put_step.ensures

pub returns-in-Some-2-clause-stand : goal.returns-in-Some-2-clause-stand
returns-in-Some-2-clause-stand c =
    let bank = c.args.self.now.bank in
    let olds = c.args.cases.now.items in
    let news = c.put_step.new.cases.items in
    let step : InductionStep = record { line = c.in-Hypothesis.line; pairs = c.in-Some-2.pairs } in
    let here : HypothesisStands bank step = record { pairs = rw c.in-Some-2.is at c.in_ok-pairs-in-Hypothesis.ensures.stand } in
    on_ok c.put_step.result (λ put. PutsStep put olds news step) (All (CaseStands bank) news) (λ put puts. step_stands bank olds news step put puts c.requires.cases here) c.put_step.ensures
