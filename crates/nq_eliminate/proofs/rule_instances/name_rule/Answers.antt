use Rattle.std.proofs.Common.{◌≡◌, ◌∙◌, length, sym, ap, ap₂, subst}
use Rattle.std.specs.Prelude.{All, Vec}
use Rattle.std.specs.declared.alloc.Global.{Global}
use Rattle.nq_logic.specs.Terms.{Term}
use Rattle.nq_bank.specs.declared.node.TermId.{TermId}
use Rattle.nq_bank.specs.Content.{Stands, term_at, terms_at}
use Rattle.nq_bank.specs.Parts.{parts_of}
use Rattle.nq_bank.proofs.Growth.{Stands-grown, term_at-grown}
use Rattle.nq_lines.specs.Lines.{IsTermIn}
use Rattle.nq_lines.proofs.TermLemmas.{both_ok, same_term_grown, term_grown}
use Rattle.nq_rule.proofs.Made.{for_ok}
use Rattle.nq_moves.proofs.ClosingLemmas.{all_stand}
use Rattle.nq_moves.proofs.SwappedLemmas.{goal_in_grown, goal_same}
use Rattle.nq_eliminate.specs.Filling.{images_named}
use Rattle.nq_eliminate.specs.Naming.{images_for}
use Rattle.nq_eliminate.proofs.PartLemmas.{images_over}
use Rattle.nq_eliminate.proofs.rule_instances.name_rule.Goals as goal

pub images_of-requires-clause-destructor : goal.images_of-requires-clause-destructor
images_of-requires-clause-destructor c = Stands-grown c.args.work.now.bank c.new_variables.new.work.bank c.args.served.destructor c.new_variables.ensures.grows.bank c.requires.destructor

pub images_of-requires-clause-call : goal.images_of-requires-clause-call
images_of-requires-clause-call c = (term_grown c.args.history.now c.args.work.now c.new_variables.new.work c.args.served.call c.requires.stands c.new_variables.ensures.grows c.requires.call).stands

pub images_of-requires-clause-own : goal.images_of-requires-clause-own
images_of-requires-clause-own c =
    let w1 = c.new_variables.new.work in
    all_stand c.args.history.now w1 c.args.own.now (goal_in_grown c.args.history.now c.args.work.now w1 c.requires.stands c.new_variables.ensures.grows c.args.own.now c.requires.own)

pub images_of-requires-clause-new : goal.images_of-requires-clause-new
images_of-requires-clause-new c =
    let w1 = c.new_variables.new.work in
    subst (All (Stands w1.bank)) (sym c.as_slice.ensures.value) (all_stand c.args.history.now w1 c.in_ok-new.new.items c.in_ok-new.ensures.over)

pub returns-clause-named : goal.returns-clause-named
returns-clause-named c =
    let w = c.args.work.now in
    let w1 = c.new_variables.new.work in
    let d = c.args.served.destructor in
    let u = c.args.served.call in
    let own = terms_at w.bank c.args.own.now in
    let new = terms_at w1.bank c.as_slice.result.now in
    let same_own : terms_at w1.bank c.args.own.now ≡ own = goal_same c.args.history.now w w1 c.requires.stands c.new_variables.ensures.grows c.args.own.now c.requires.own in
    let same_d : term_at w1.bank d ≡ term_at w.bank d = term_at-grown w.bank w1.bank d c.new_variables.ensures.grows.bank c.requires.destructor in
    let same_u : term_at w1.bank u ≡ term_at w.bank u = same_term_grown c.args.history.now w w1 u c.new_variables.ensures.grows c.requires.call in
    for_ok c.images_of.result (λ (v : Vec TermId Global). terms_at w1.bank v.items ≡ images_for (parts_of (term_at w1.bank d)) (parts_of (term_at w1.bank u)) (terms_at w1.bank c.args.own.now) new)
    (λ (v : Vec TermId Global). terms_at w1.bank v.items ≡ images_named w.bank c.args.goal.now c.args.served own (length c.args.others.now))
    (λ v are.
    are
    ∙ (ap₂ (λ (a b : Term). images_for (parts_of a) (parts_of b) (terms_at w1.bank c.args.own.now) new) same_d same_u
    ∙ ap₂ (images_for (parts_of (term_at w.bank d)) (parts_of (term_at w.bank u))) same_own (ap (terms_at w1.bank) c.as_slice.ensures.value ∙ c.in_ok-new.ensures.are))) c.images_of.ensures.are

pub returns-clause-over : goal.returns-clause-over
returns-clause-over c =
    let w = c.args.work.now in
    let w1 = c.new_variables.new.work in
    let d = c.args.served.destructor in
    let u = c.args.served.call in
    let new = c.as_slice.result.now in
    let over : All (IsTermIn c.args.history.now w1) new = subst (All (IsTermIn c.args.history.now w1)) (sym c.as_slice.ensures.value) c.in_ok-new.ensures.over in
    both_ok c.images_of.result (λ (v : Vec TermId Global). terms_at w1.bank v.items ≡ images_for (parts_of (term_at w1.bank d)) (parts_of (term_at w1.bank u)) (terms_at w1.bank c.args.own.now) (terms_at w1.bank new)) (λ (v : Vec TermId Global). All (Stands w1.bank) v.items) (λ (v : Vec TermId Global). All (IsTermIn c.args.history.now w1) v.items)
    (λ v are stand. images_over c.args.history.now w w1 c.requires.stands c.new_variables.ensures.grows (parts_of (term_at w1.bank d)) (terms_at w1.bank c.args.own.now) u new v.items c.requires.call over stand are) c.images_of.ensures.are c.images_of.ensures.stand
