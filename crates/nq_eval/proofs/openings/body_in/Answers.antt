use Rattle.std.proofs.Common.{◌≡◌, ◌∷◌, [], ◌<◌, ◌∙◌, length, sym, ap, subst, arith}
use Rattle.nq_logic.specs.Terms.{Term}
use Rattle.nq_logic.specs.Words.{equal_term}
use Rattle.nq_bank.specs.declared.node.TermId.{TermId}
use Rattle.nq_bank.specs.Content.{Content, Stands, term_at, terms_at}
use Rattle.nq_bank.specs.Parts.{parts_of}
use Rattle.std.specs.Prelude.{slice_index_or}
use Rattle.nq_kernel.specs.Lines.{ids_at}
use Rattle.nq_kernel.specs.Growing.{LineHolds}
use Rattle.nq_eval.proofs.OpeningLemmas.{count_ids, first_id, second_id, ids_terms, equation_parts}
use Rattle.nq_eval.proofs.openings.body_in.Goals as goal

pub bounds-args-1 : goal.bounds-args-1
bounds-args-1 c =
    let bank : Content = c.args.work.now.bank in
    let u : Term = term_at bank c.args.u in
    let b : Term = c.requires.line.body in
    let clause : terms_at bank c.clause_over.result.now ≡ equal_term u b ∷ [] = ids_terms bank (ids_at c.args.work.now.log c.args.line) _ c.clause_over.result.now c.requires.line.holds c.clause_over.ensures.clause in
    let first : TermId = record { 0 = 0 } in
    let equation : term_at bank (slice_index_or c.clause_over.result.now 0 first) ≡ equal_term u b = first_id bank c.clause_over.result.now (equal_term u b) [] first clause in
    let parts : terms_at bank c.args-2.result.now ≡ u ∷ b ∷ [] = c.args-2.ensures.parts ∙ ap parts_of equation ∙ equation_parts u b in
    let count : length c.args-2.result.now ≡ 2 = count_ids bank c.args-2.result.now (u ∷ b ∷ []) parts in
    omega (arith, count)

pub returns-clause-stands : goal.returns-clause-stands
returns-clause-stands c =
    let bank : Content = c.args.work.now.bank in
    let u : Term = term_at bank c.args.u in
    let b : Term = c.requires.line.body in
    let clause : terms_at bank c.clause_over.result.now ≡ equal_term u b ∷ [] = ids_terms bank (ids_at c.args.work.now.log c.args.line) _ c.clause_over.result.now c.requires.line.holds c.clause_over.ensures.clause in
    let first : TermId = record { 0 = 0 } in
    let equation : term_at bank (slice_index_or c.clause_over.result.now 0 first) ≡ equal_term u b = first_id bank c.clause_over.result.now (equal_term u b) [] first clause in
    let parts : terms_at bank c.args-2.result.now ≡ u ∷ b ∷ [] = c.args-2.ensures.parts ∙ ap parts_of equation ∙ equation_parts u b in
    let count_one : length c.clause_over.result.now ≡ 1 = count_ids bank c.clause_over.result.now (equal_term u b ∷ []) clause in
    let count_two : length c.args-2.result.now ≡ 2 = count_ids bank c.args-2.result.now (u ∷ b ∷ []) parts in
    let here : Stands bank (slice_index_or c.clause_over.result.now 0 first) = c.clause_over.ensures.stand 0 first (omega (arith, count_one)) in
    let earlier : (slice_index_or c.args-2.result.now 1 first).0 < (slice_index_or c.clause_over.result.now 0 first).0 = c.args-2.ensures.earlier 1 first (omega (arith, count_two)) in
    omega (arith, here, earlier)

pub returns-clause-equation : goal.returns-clause-equation
returns-clause-equation c =
    let bank : Content = c.args.work.now.bank in
    let u : Term = term_at bank c.args.u in
    let b : Term = c.requires.line.body in
    let clause : terms_at bank c.clause_over.result.now ≡ equal_term u b ∷ [] = ids_terms bank (ids_at c.args.work.now.log c.args.line) _ c.clause_over.result.now c.requires.line.holds c.clause_over.ensures.clause in
    let first : TermId = record { 0 = 0 } in
    let equation : term_at bank (slice_index_or c.clause_over.result.now 0 first) ≡ equal_term u b = first_id bank c.clause_over.result.now (equal_term u b) [] first clause in
    let parts : terms_at bank c.args-2.result.now ≡ u ∷ b ∷ [] = c.args-2.ensures.parts ∙ ap parts_of equation ∙ equation_parts u b in
    subst (λ (t : Term). LineHolds c.args.work.now c.args.line (equal_term u t ∷ [])) (sym (second_id bank c.args-2.result.now u b [] first parts)) c.requires.line.holds
