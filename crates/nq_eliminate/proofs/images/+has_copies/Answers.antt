use Rattle.std.proofs.Common.{◌-◌, List, length, get_or, take, drop, sym, subst}
use Rattle.nq_logic.specs.Terms.{Term}
use Rattle.nq_bank.specs.declared.node.TermId.{TermId}
use Rattle.nq_bank.specs.Content.{term_at, terms_at}
use Rattle.nq_eliminate.specs.Images.{MakesCopies, StayDistinct}
use Rattle.nq_eliminate.proofs.ImageLemmas.{first_copies, later_copies, more_distinct, no_terms, none_distinct, split_terms}
use Rattle.nq_eliminate.proofs.images.+has_copies.Goals as goal

pub returns-in-empty-clause-apart : goal.returns-in-empty-clause-apart
returns-in-empty-clause-apart t c =
    let bank = c.args.bank.now in
    let from = terms_at bank c.args.from.now in
    let to = terms_at bank c.args.to.now in
    λ fails. subst (λ (us : List Term). StayDistinct from to us) (sym (no_terms bank c.args.calls.now c.in-empty.len_below)) (none_distinct from to)

pub returns-then-has_same-clause-same : goal.returns-then-has_same-clause-same
returns-then-has_same-clause-same t c =
    let none : TermId = record { 0 = 0 } in
    let bank = c.args.bank.now in
    let from = terms_at bank c.args.from.now in
    let to = terms_at bank c.args.to.now in
    let ids = c.args.calls.now in
    λ holds.
    subst (λ (us : List Term). MakesCopies from to us) (sym (split_terms bank ids none c.in-len1-up.len_at_least))
    (first_copies from to (term_at bank (get_or ids 0 none)) (terms_at bank (take (length ids - 1) (drop 1 ids))) (c.has_same.ensures.same c.if-has_same.true))

pub returns-else-has_same-clause-same : goal.returns-else-has_same-clause-same
returns-else-has_same-clause-same t c =
    let none : TermId = record { 0 = 0 } in
    let bank = c.args.bank.now in
    let from = terms_at bank c.args.from.now in
    let to = terms_at bank c.args.to.now in
    let ids = c.args.calls.now in
    λ holds.
    subst (λ (us : List Term). MakesCopies from to us) (sym (split_terms bank ids none c.in-len1-up.len_at_least))
    (later_copies from to (term_at bank (get_or ids 0 none)) (terms_at bank (take (length ids - 1) (drop 1 ids))) (c.has_copies.ensures.same holds))

pub returns-else-has_same-clause-apart : goal.returns-else-has_same-clause-apart
returns-else-has_same-clause-apart t c =
    let none : TermId = record { 0 = 0 } in
    let bank = c.args.bank.now in
    let from = terms_at bank c.args.from.now in
    let to = terms_at bank c.args.to.now in
    let ids = c.args.calls.now in
    λ fails.
    subst (λ (us : List Term). StayDistinct from to us) (sym (split_terms bank ids none c.in-len1-up.len_at_least))
    (more_distinct from to (term_at bank (get_or ids 0 none)) (terms_at bank (take (length ids - 1) (drop 1 ids))) (c.has_same.ensures.apart c.if-has_same.false) (c.has_copies.ensures.apart fails))
