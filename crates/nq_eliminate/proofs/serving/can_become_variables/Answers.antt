use Rattle.std.proofs.Common.{◌≡◌, ◌∙◌, ap, length, sym}
use Rattle.std.proofs.lemmas.List.{length-map}
use Rattle.nq_bank.specs.Content.{term_at, terms_at, text_at}
use Rattle.nq_eliminate.specs.Images.{has_other, image}
use Rattle.nq_eliminate.proofs.ServingLemmas.{becomes_made, copies_made, no_image, not_true, other_found, turned_false}
use Rattle.nq_eliminate.proofs.serving.can_become_variables.Goals as goal

pub returns-then-has_copies-clause-no : goal.returns-then-has_copies-clause-no
returns-then-has_copies-clause-no c =
    let bank = c.args.bank.now in
    λ fails. copies_made (text_at bank c.args.rule.name) (terms_at bank c.args.destructors.now) (terms_at bank c.args.from.now) (terms_at bank c.args.to.now) (c.has_copies.ensures.same c.if-has_copies.true)

pub returns-in-Some-clause-yes : goal.returns-in-Some-clause-yes
returns-in-Some-clause-yes c =
    let bank = c.args.bank.now in
    let x = text_at bank c.args.rule.name in
    let ts = terms_at bank c.args.from.now in
    let us = terms_at bank c.args.to.now in
    let w = term_at bank c.in-Some.known in
    let many : length ts ≡ length us = length-map c.args.from.now (term_at bank) ∙ (c.requires.many ∙ sym (length-map c.args.to.now (term_at bank))) in
    λ holds.
    becomes_made x (terms_at bank c.args.destructors.now) ts us w c.has_other.result c.requires.variables many (ap (image ts us) (sym c.requires.rule.variable_is) ∙ sym c.in-Some.ensures.is)
    (c.has_other.ensures ∙ ap (λ v. has_other ts us v w) c.requires.rule.variable_is) (turned_false c.has_other.result holds) (c.has_copies.ensures.apart c.if-has_copies.false)

pub returns-in-Some-clause-no : goal.returns-in-Some-clause-no
returns-in-Some-clause-no c =
    let bank = c.args.bank.now in
    let x = text_at bank c.args.rule.name in
    let ts = terms_at bank c.args.from.now in
    let us = terms_at bank c.args.to.now in
    let w = term_at bank c.in-Some.known in
    λ fails.
    other_found x (terms_at bank c.args.destructors.now) ts us w (ap (image ts us) (sym c.requires.rule.variable_is) ∙ sym c.in-Some.ensures.is)
    (sym (c.has_other.ensures ∙ ap (λ v. has_other ts us v w) c.requires.rule.variable_is) ∙ not_true c.has_other.result fails)

pub returns-in-None-clause-no : goal.returns-in-None-clause-no
returns-in-None-clause-no c =
    let bank = c.args.bank.now in
    let ts = terms_at bank c.args.from.now in
    let us = terms_at bank c.args.to.now in
    λ fails. no_image (text_at bank c.args.rule.name) (terms_at bank c.args.destructors.now) ts us (ap (image ts us) (sym c.requires.rule.variable_is) ∙ sym c.in-None.ensures.is)
