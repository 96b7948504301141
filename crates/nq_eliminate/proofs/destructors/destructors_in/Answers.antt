use Rattle.std.proofs.Common.{◌∙◌, ◌++◌, List, sym, ap, subst}
use Rattle.std.specs.Prelude.{All}
use Rattle.nq_bank.specs.declared.node.TermId.{TermId}
use Rattle.nq_bank.specs.Content.{Stands, term_at, terms_at, text_at}
use Rattle.nq_proof.specs.Clauses.{distinct}
use Rattle.nq_eliminate.specs.Serving.{calls_of}
use Rattle.nq_eliminate.proofs.destructors.destructors_in.Goals as goal

pub distinct_clause-requires : goal.distinct_clause-requires
distinct_clause-requires c = subst (All (Stands c.args.bank.now)) (sym c.as_slice.ensures.value) c.in_ok-put_destructors.ensures.stand

pub returns-in-Ok-clause-are : goal.returns-in-Ok-clause-are
returns-in-Ok-clause-are c =
    let bank = c.args.bank.now in
    let calls = calls_of (text_at bank c.args.x) (term_at bank c.args.t) in
    c.in-Ok.ensures.clause ∙ ap distinct (ap (terms_at bank) c.as_slice.ensures.value ∙ (c.in_ok-put_destructors.ensures.more ∙ ap (λ (ids : List TermId). terms_at bank ids ++ calls) c.new-found.ensures.items))
