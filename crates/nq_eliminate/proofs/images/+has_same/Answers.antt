use Rattle.std.proofs.Common.{◌-◌, List, length, get_or, take, drop, sym, subst}
use Rattle.nq_logic.specs.Terms.{Term}
use Rattle.nq_bank.specs.declared.node.TermId.{TermId}
use Rattle.nq_bank.specs.Content.{term_at, terms_at}
use Rattle.nq_eliminate.specs.Images.{BecomesOneOf, StaysApart}
use Rattle.nq_eliminate.proofs.ImageLemmas.{first_becomes, later_becomes, more_apart, no_terms, none_apart, split_terms}
use Rattle.nq_eliminate.proofs.images.+has_same.Goals as goal

pub returns-in-empty-clause-apart : goal.returns-in-empty-clause-apart
returns-in-empty-clause-apart t c =
    let bank = c.args.bank.now in
    let from = terms_at bank c.args.from.now in
    let to = terms_at bank c.args.to.now in
    let u = term_at bank c.args.t in
    λ fails. subst (λ (us : List Term). StaysApart from to u us) (sym (no_terms bank c.args.calls.now c.in-empty.len_below)) (none_apart from to u)

pub returns-then-is_same_call-clause-same : goal.returns-then-is_same_call-clause-same
returns-then-is_same_call-clause-same t c =
    let none : TermId = record { 0 = 0 } in
    let bank = c.args.bank.now in
    let from = terms_at bank c.args.from.now in
    let to = terms_at bank c.args.to.now in
    let u = term_at bank c.args.t in
    let ids = c.args.calls.now in
    λ holds.
    subst (λ (us : List Term). BecomesOneOf from to u us) (sym (split_terms bank ids none c.in-len1-up.len_at_least))
    (first_becomes from to u (term_at bank (get_or ids 0 none)) (terms_at bank (take (length ids - 1) (drop 1 ids))) (c.is_same_call.ensures.same c.if-is_same_call.true))

pub returns-else-is_same_call-clause-same : goal.returns-else-is_same_call-clause-same
returns-else-is_same_call-clause-same t c =
    let none : TermId = record { 0 = 0 } in
    let bank = c.args.bank.now in
    let from = terms_at bank c.args.from.now in
    let to = terms_at bank c.args.to.now in
    let u = term_at bank c.args.t in
    let ids = c.args.calls.now in
    λ holds.
    subst (λ (us : List Term). BecomesOneOf from to u us) (sym (split_terms bank ids none c.in-len1-up.len_at_least))
    (later_becomes from to u (term_at bank (get_or ids 0 none)) (terms_at bank (take (length ids - 1) (drop 1 ids))) (c.has_same.ensures.same holds))

pub returns-else-is_same_call-clause-apart : goal.returns-else-is_same_call-clause-apart
returns-else-is_same_call-clause-apart t c =
    let none : TermId = record { 0 = 0 } in
    let bank = c.args.bank.now in
    let from = terms_at bank c.args.from.now in
    let to = terms_at bank c.args.to.now in
    let u = term_at bank c.args.t in
    let ids = c.args.calls.now in
    λ fails.
    subst (λ (us : List Term). StaysApart from to u us) (sym (split_terms bank ids none c.in-len1-up.len_at_least))
    (more_apart from to u (term_at bank (get_or ids 0 none)) (terms_at bank (take (length ids - 1) (drop 1 ids))) (c.is_same_call.ensures.apart c.if-is_same_call.false) (c.has_same.ensures.apart fails))
