use Rattle.std.proofs.Common.{◌≡◌, ap, sym, ◌∙◌, refl, arith}
use Rattle.nq_logic.specs.Terms.{Substitution, substituted}
use Rattle.nq_bank.specs.declared.node.TermId.{TermId}
use Rattle.nq_bank.specs.Content.{Content, term_at, text_at}
use Rattle.nq_clause.specs.Substitution.{substitution_at}
use Rattle.nq_clause.proofs.SubstitutionLemmas.{substituted-numeral, ids_kept}
use Rattle.nq_clause.proofs.InstanceLemmas.{tells_not, tells_same, not_told, are_like, argument_same_at, all_same, no_variable}
use Rattle.nq_clause.proofs.instance.+is_instance_within.Goals as goal

pub is_one-requires-in-Some-clause-left : goal.is_one-requires-in-Some-clause-left
is_one-requires-in-Some-clause-left t c = (c.requires.ids.right c.args.pattern c.in-Some.r (sym c.known_id.ensures ∙ c.in-Some.is)).stands

pub returns-then-not-are_alike-clause-ok : goal.returns-then-not-are_alike-clause-ok
returns-then-not-are_alike-clause-ok t c =
    let bank : Content = c.args.bank.now in
    let s : Substitution = substitution_at bank c.args.pairs.now in
    tells_not (substituted s (term_at bank c.args.pattern) ≡ term_at bank c.args.t)
    (λ e. not_told c.are_alike.result _ c.if-not-are_alike.true c.are_alike.ensures (are_like s bank (text_at bank c.in-App.f) (text_at bank c.in-App-node.g) (term_at bank c.args.pattern) (term_at bank c.args.t) c.args-arguments.result.now c.args-others.result.now c.in-App.ensures.head.1 c.in-App-node.ensures.head.1 c.args-arguments.ensures.parts c.args-others.ensures.parts e))

pub returns-then-not-branch-clause-ok : goal.returns-then-not-branch-clause-ok
returns-then-not-branch-clause-ok t c =
    let bank : Content = c.args.bank.now in
    let first : TermId = record { 0 = 0 } in
    let s : Substitution = substitution_at bank c.args.pairs.now in
    let alike = c.are_alike.ensures.0 c.if-not-are_alike.false in
    tells_not (substituted s (term_at bank c.args.pattern) ≡ term_at bank c.args.t)
    (λ e. not_told c.in_ok-is_instance_within-in-App-node.field-0 _ c.if-not-branch.true c.in_ok-is_instance_within-in-App-node.ensures.ok (argument_same_at s bank (text_at bank c.in-App.f) (text_at bank c.in-App-node.g) (term_at bank c.args.pattern) (term_at bank c.args.t) c.args-arguments.result.now c.args-others.result.now c.in-App.ensures.head.1 c.in-App-node.ensures.head.1 c.args-arguments.ensures.parts c.args-others.ensures.parts c.loop-i.i first c.loop-i-test.true (omega (arith, alike.1, c.loop-i-test.true)) e))

pub returns-in-Num-clause-ok : goal.returns-in-Num-clause-ok
returns-in-Num-clause-ok t c =
    let bank : Content = c.args.bank.now in
    let s : Substitution = substitution_at bank c.args.pairs.now in
    tells_same c.is_one-in-Num.result (term_at bank c.args.pattern) (substituted s (term_at bank c.args.pattern)) (term_at bank c.args.t)
    (c.in-Num.ensures.head.1 ∙ sym (ap (substituted s) c.in-Num.ensures.head.1 ∙ substituted-numeral s c.in-Num.field-0)) c.is_one-in-Num.ensures

pub returns-in_ok-remember-in-App-node-clause-ok : goal.returns-in_ok-remember-in-App-node-clause-ok
returns-in_ok-remember-in-App-node-clause-ok t c =
    let bank : Content = c.args.bank.now in
    let s : Substitution = substitution_at bank c.args.pairs.now in
    let alike = c.are_alike.ensures.0 c.if-not-are_alike.false in
    let same = all_same s bank (text_at bank c.in-App.f) (text_at bank c.in-App-node.g) (term_at bank c.args.pattern) (term_at bank c.args.t) c.args-arguments.result.now c.args-others.result.now c.in-App.ensures.head.1 c.in-App-node.ensures.head.1 c.args-arguments.ensures.parts c.args-others.ensures.parts c.loop-i.i alike.0 alike.1 c.loop-i-test.false c.loop-i.invariant.so_far in
    (λ h. same, λ e. refl)

pub returns-in_ok-remember-in-App-node-clause-ids : goal.returns-in_ok-remember-in-App-node-clause-ids
returns-in_ok-remember-in-App-node-clause-ids t c =
    let bank : Content = c.args.bank.now in
    let s : Substitution = substitution_at bank c.args.pairs.now in
    let alike = c.are_alike.ensures.0 c.if-not-are_alike.false in
    let same = all_same s bank (text_at bank c.in-App.f) (text_at bank c.in-App-node.g) (term_at bank c.args.pattern) (term_at bank c.args.t) c.args-arguments.result.now c.args-others.result.now c.in-App.ensures.head.1 c.in-App-node.ensures.head.1 c.args-arguments.ensures.parts c.args-others.ensures.parts c.loop-i.i alike.0 alike.1 c.loop-i-test.false c.loop-i.invariant.so_far in
    ids_kept bank s c.loop-i.known c.remember.new.known c.args.pattern c.args.t c.loop-i.invariant.ids c.in_ok-remember-in-App-node.ensures c.requires.pattern (record { stands = c.requires.term; denotes = sym same })

pub returns-in-Var-node-clause-ok : goal.returns-in-Var-node-clause-ok
returns-in-Var-node-clause-ok t c =
    let bank : Content = c.args.bank.now in
    let s : Substitution = substitution_at bank c.args.pairs.now in
    tells_not (substituted s (term_at bank c.args.pattern) ≡ term_at bank c.args.t)
    (no_variable s (text_at bank c.in-App.f) (text_at bank c.in-Var-node.field-0) (term_at bank c.args.pattern) (term_at bank c.args.t) c.in-App.ensures.head.1 c.in-Var-node.ensures.head.1)
