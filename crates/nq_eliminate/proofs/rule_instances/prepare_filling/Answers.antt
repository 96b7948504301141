use Rattle.std.proofs.Common.{◌≡◌, ◌∙◌, ◌∷◌, List, length, drop, map, refl, sym, ap, ap₂, subst}
use Rattle.std.specs.Prelude.{All, ℕ, false}
use Rattle.nq_logic.specs.Terms.{Variable}
use Rattle.nq_logic.specs.Values.{is_value}
use Rattle.nq_bank.specs.declared.node.TermId.{TermId}
use Rattle.nq_bank.specs.Content.{Stands, term_at, terms_at}
use Rattle.nq_goals.specs.NewVariables.{clause_variables}
use Rattle.nq_kernel.proofs.GrowingLemmas.{WorkGrows-refl}
use Rattle.nq_lines.specs.Lines.{IsTermIn}
use Rattle.nq_moves.proofs.ClosingLemmas.{all_stand}
use Rattle.nq_moves.proofs.SwappedLemmas.{goal_in_grown}
use Rattle.nq_proof.specs.Clauses.{distinct}
use Rattle.nq_eliminate.specs.Choosing.{rule_variables}
use Rattle.nq_eliminate.specs.Filling.{images_named}
use Rattle.nq_eliminate.specs.Finding.{rule_at}
use Rattle.nq_eliminate.proofs.FillingLemmas.{call_in, filling_prepared, others_in, others_values, own_are, own_in}
use Rattle.nq_eliminate.proofs.rule_instances.prepare_filling.Goals as goal

pub hypotheses_in-requires : goal.hypotheses_in-requires
hypotheses_in-requires c = c.requires.candidate.is.term

pub destructors_of-requires : goal.destructors_of-requires
destructors_of-requires c = c.requires.candidate.is.serves.serves.rule.is

pub returns-in_err-hypotheses-clause-grows : goal.returns-in_err-hypotheses-clause-grows
returns-in_err-hypotheses-clause-grows c = WorkGrows-refl c.args.history.now c.args.work.now c.requires.stands

pub returns-in_err-destructors-clause-grows : goal.returns-in_err-destructors-clause-grows
returns-in_err-destructors-clause-grows c = WorkGrows-refl c.args.history.now c.args.work.now c.requires.stands

pub returns-in_err-own-clause-grows : goal.returns-in_err-own-clause-grows
returns-in_err-own-clause-grows c = WorkGrows-refl c.args.history.now c.args.work.now c.requires.stands

pub rule_variables-requires-clause-rule : goal.rule_variables-requires-clause-rule
rule_variables-requires-clause-rule c = c.requires.candidate.is.serves.serves.rule.is

pub rule_variables-requires-clause-hypotheses : goal.rule_variables-requires-clause-hypotheses
rule_variables-requires-clause-hypotheses c = subst (All (Stands c.args.work.now.bank)) (sym c.as_slice.ensures.value) c.in_ok-hypotheses.ensures.stand

pub name_rule-requires-clause-destructor : goal.name_rule-requires-clause-destructor
name_rule-requires-clause-destructor c = c.requires.candidate.is.serves.serves.by.destructor

pub name_rule-requires-clause-call : goal.name_rule-requires-clause-call
name_rule-requires-clause-call c = call_in c.args.history.now c.args.work.now c.args.goal.now c.requires.goal c.requires.ready (c.own_terms.ensures c.args.work.now.bank c.args.history.now c.requires.ready) c.args.c c.requires.candidate.hints c.requires.candidate.is

pub name_rule-requires-clause-own : goal.name_rule-requires-clause-own
name_rule-requires-clause-own c =
    let w = c.args.work.now in
    let hyps = c.in_ok-hypotheses.hypotheses.items in
    let own = c.in_ok-own.own.items in
    let rule = rule_at w.bank (term_at w.bank c.args.c.term) c.args.c.served.rule in
    let told : terms_at w.bank own ≡ distinct (map Variable (rule.variable ∷ clause_variables (rule.made_of ∷ terms_at w.bank hyps))) =
    c.in_ok-own.ensures.are ∙ ap (λ ids. distinct (map Variable (rule.variable ∷ clause_variables (rule.made_of ∷ terms_at w.bank ids)))) c.as_slice.ensures.value in
    let are : terms_at w.bank own ≡ map Variable (rule_variables rule) = own_are c.args.history.now c.args.work.now c.args.goal.now c.requires.goal c.requires.ready (c.own_terms.ensures c.args.work.now.bank c.args.history.now c.requires.ready) c.args.c c.requires.candidate.hints c.requires.candidate.is own hyps c.in_ok-hypotheses.ensures.are told in
    subst (All (IsTermIn c.args.history.now w)) (sym c.as_slice-3.ensures.value) (own_in c.args.history.now c.args.work.now c.args.goal.now c.requires.goal c.requires.ready (c.own_terms.ensures c.args.work.now.bank c.args.history.now c.requires.ready) c.args.c c.requires.candidate.hints c.requires.candidate.is own c.in_ok-own.ensures.stand are)

pub name_rule-requires-clause-others : goal.name_rule-requires-clause-others
name_rule-requires-clause-others c =
    let w = c.args.work.now in
    let hyps = c.in_ok-hypotheses.hypotheses.items in
    let own = c.in_ok-own.own.items in
    let rule = rule_at w.bank (term_at w.bank c.args.c.term) c.args.c.served.rule in
    let told : terms_at w.bank own ≡ distinct (map Variable (rule.variable ∷ clause_variables (rule.made_of ∷ terms_at w.bank hyps))) =
    c.in_ok-own.ensures.are ∙ ap (λ ids. distinct (map Variable (rule.variable ∷ clause_variables (rule.made_of ∷ terms_at w.bank ids)))) c.as_slice.ensures.value in
    let are : terms_at w.bank own ≡ map Variable (rule_variables rule) = own_are c.args.history.now c.args.work.now c.args.goal.now c.requires.goal c.requires.ready (c.own_terms.ensures c.args.work.now.bank c.args.history.now c.requires.ready) c.args.c c.requires.candidate.hints c.requires.candidate.is own hyps c.in_ok-hypotheses.ensures.are told in
    subst (All (IsTermIn c.args.history.now w)) (sym (c.after_first-others.ensures ∙ ap (drop 1) c.as_slice-2.ensures.value)) (others_in c.args.history.now c.args.work.now c.args.goal.now c.requires.goal c.requires.ready (c.own_terms.ensures c.args.work.now.bank c.args.history.now c.requires.ready) c.args.c c.requires.candidate.hints c.requires.candidate.is own c.in_ok-own.ensures.stand are)

pub name_rule-requires-clause-variables : goal.name_rule-requires-clause-variables
name_rule-requires-clause-variables c =
    let w = c.args.work.now in
    let hyps = c.in_ok-hypotheses.hypotheses.items in
    let own = c.in_ok-own.own.items in
    let rule = rule_at w.bank (term_at w.bank c.args.c.term) c.args.c.served.rule in
    let told : terms_at w.bank own ≡ distinct (map Variable (rule.variable ∷ clause_variables (rule.made_of ∷ terms_at w.bank hyps))) =
    c.in_ok-own.ensures.are ∙ ap (λ ids. distinct (map Variable (rule.variable ∷ clause_variables (rule.made_of ∷ terms_at w.bank ids)))) c.as_slice.ensures.value in
    let are : terms_at w.bank own ≡ map Variable (rule_variables rule) = own_are c.args.history.now c.args.work.now c.args.goal.now c.requires.goal c.requires.ready (c.own_terms.ensures c.args.work.now.bank c.args.history.now c.requires.ready) c.args.c c.requires.candidate.hints c.requires.candidate.is own hyps c.in_ok-hypotheses.ensures.are told in
    subst (All (λ t. is_value (term_at w.bank t) ≡ false)) (sym (c.after_first-others.ensures ∙ ap (drop 1) c.as_slice-2.ensures.value)) (others_values c.args.history.now c.args.work.now c.args.goal.now c.requires.goal c.requires.ready (c.own_terms.ensures c.args.work.now.bank c.args.history.now c.requires.ready) c.args.c c.requires.candidate.hints c.requires.candidate.is own are)

pub pairs_of-requires-clause-own : goal.pairs_of-requires-clause-own
pairs_of-requires-clause-own c =
    let w = c.args.work.now in
    let hyps = c.in_ok-hypotheses.hypotheses.items in
    let own = c.in_ok-own.own.items in
    let rule = rule_at w.bank (term_at w.bank c.args.c.term) c.args.c.served.rule in
    let told : terms_at w.bank own ≡ distinct (map Variable (rule.variable ∷ clause_variables (rule.made_of ∷ terms_at w.bank hyps))) =
    c.in_ok-own.ensures.are ∙ ap (λ ids. distinct (map Variable (rule.variable ∷ clause_variables (rule.made_of ∷ terms_at w.bank ids)))) c.as_slice.ensures.value in
    let are : terms_at w.bank own ≡ map Variable (rule_variables rule) = own_are c.args.history.now c.args.work.now c.args.goal.now c.requires.goal c.requires.ready (c.own_terms.ensures c.args.work.now.bank c.args.history.now c.requires.ready) c.args.c c.requires.candidate.hints c.requires.candidate.is own hyps c.in_ok-hypotheses.ensures.are told in
    let w1 = c.name_rule.new.work in
    subst (All (Stands w1.bank)) (sym c.as_slice-4.ensures.value) (all_stand c.args.history.now w1 own (goal_in_grown c.args.history.now w w1 c.requires.stands c.name_rule.ensures.grows own (own_in c.args.history.now c.args.work.now c.args.goal.now c.requires.goal c.requires.ready (c.own_terms.ensures c.args.work.now.bank c.args.history.now c.requires.ready) c.args.c c.requires.candidate.hints c.requires.candidate.is own c.in_ok-own.ensures.stand are)))

pub pairs_of-requires-clause-named : goal.pairs_of-requires-clause-named
pairs_of-requires-clause-named c =
    let w1 = c.name_rule.new.work in
    subst (All (Stands w1.bank)) (sym c.as_slice-5.ensures.value) (all_stand c.args.history.now w1 c.in_ok-named.named.items c.in_ok-named.ensures.over)

pub returns-clause-filling : goal.returns-clause-filling
returns-clause-filling c =
    let w = c.args.work.now in
    let hyps = c.in_ok-hypotheses.hypotheses.items in
    let own = c.in_ok-own.own.items in
    let rule = rule_at w.bank (term_at w.bank c.args.c.term) c.args.c.served.rule in
    let told : terms_at w.bank own ≡ distinct (map Variable (rule.variable ∷ clause_variables (rule.made_of ∷ terms_at w.bank hyps))) =
    c.in_ok-own.ensures.are ∙ ap (λ ids. distinct (map Variable (rule.variable ∷ clause_variables (rule.made_of ∷ terms_at w.bank ids)))) c.as_slice.ensures.value in
    let are : terms_at w.bank own ≡ map Variable (rule_variables rule) = own_are c.args.history.now c.args.work.now c.args.goal.now c.requires.goal c.requires.ready (c.own_terms.ensures c.args.work.now.bank c.args.history.now c.requires.ready) c.args.c c.requires.candidate.hints c.requires.candidate.is own hyps c.in_ok-hypotheses.ensures.are told in
    let w1 = c.name_rule.new.work in
    let named = c.in_ok-named.named.items in
    filling_prepared c.args.history.now c.args.work.now c.args.goal.now c.requires.goal c.requires.ready (c.own_terms.ensures c.args.work.now.bank c.args.history.now c.requires.ready) c.args.c c.requires.candidate.hints c.requires.candidate.is w1 c.requires.stands c.name_rule.ensures.grows _ refl refl refl c.in_ok-destructors.ensures.stand c.in_ok-destructors.ensures.are c.in_ok-hypotheses.ensures.stand c.in_ok-hypotheses.ensures.are own c.in_ok-own.ensures.stand are c.in_ok-named.ensures.over
    (c.in_ok-named.ensures.named ∙ ap₂ (λ (ids : List TermId) (n : ℕ). images_named w.bank c.args.goal.now c.args.c.served (terms_at w.bank ids) n) c.as_slice-3.ensures.value (ap length (c.after_first-others.ensures ∙ ap (drop 1) c.as_slice-2.ensures.value)))
    c.in_ok-pairs.ensures.stand
    (λ xs ys of_own of_named. c.in_ok-pairs.ensures.are xs ys (ap (terms_at w1.bank) c.as_slice-4.ensures.value ∙ of_own) (ap (terms_at w1.bank) c.as_slice-5.ensures.value ∙ of_named))
