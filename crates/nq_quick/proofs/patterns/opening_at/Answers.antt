use Rattle.std.proofs.Common.{◌≡◌, ◌∷◌, [], ◌<◌, ◌∙◌, length, ap, arith}
use Rattle.nq_logic.specs.Terms.{Term}
use Rattle.nq_logic.specs.Words.{equal_term}
use Rattle.nq_bank.specs.declared.node.TermId.{TermId}
use Rattle.nq_bank.specs.Content.{Content, Stands, term_at, terms_at}
use Rattle.nq_bank.specs.Parts.{parts_of}
use Rattle.std.specs.Prelude.{slice_index_or}
use Rattle.nq_kernel.specs.Lines.{ids_at}
use Rattle.nq_quick.specs.Lines.{definition_of}
use Rattle.nq_quick.specs.Patterns.{pattern_term}
use Rattle.nq_quick.proofs.PatternLemmas.{opening_is, opening_parts, count_ids, first_id, second_id, ids_terms}
use Rattle.nq_quick.proofs.patterns.opening_at.Goals as goal

pub bounds-args-1 : goal.bounds-args-1
bounds-args-1 c =
    let bank : Content = c.args.work.now.bank in
    let e : Term = equal_term (pattern_term c.args.connective) (definition_of c.args.connective).body in
    let clause : terms_at bank c.clause_over.result.now ≡ e ∷ [] = ids_terms bank (ids_at c.args.work.now.log c.args.line) _ c.clause_over.result.now c.requires.line c.clause_over.ensures.clause ∙ opening_is c.args.connective in
    let first : TermId = record { 0 = 0 } in
    let equation : term_at bank (slice_index_or c.clause_over.result.now 0 first) ≡ e = first_id bank c.clause_over.result.now e [] first clause in
    let parts : terms_at bank c.args-2.result.now ≡ pattern_term c.args.connective ∷ (definition_of c.args.connective).body ∷ [] = c.args-2.ensures.parts ∙ ap parts_of equation ∙ opening_parts c.args.connective in
    let count : length c.args-2.result.now ≡ 2 = count_ids bank c.args-2.result.now (pattern_term c.args.connective ∷ (definition_of c.args.connective).body ∷ []) parts in
    omega (arith, count)

pub returns : goal.returns
returns c =
    let bank : Content = c.args.work.now.bank in
    let e : Term = equal_term (pattern_term c.args.connective) (definition_of c.args.connective).body in
    let b : Term = (definition_of c.args.connective).body in
    let clause : terms_at bank c.clause_over.result.now ≡ e ∷ [] = ids_terms bank (ids_at c.args.work.now.log c.args.line) _ c.clause_over.result.now c.requires.line c.clause_over.ensures.clause ∙ opening_is c.args.connective in
    let first : TermId = record { 0 = 0 } in
    let equation : term_at bank (slice_index_or c.clause_over.result.now 0 first) ≡ e = first_id bank c.clause_over.result.now e [] first clause in
    let parts : terms_at bank c.args-2.result.now ≡ pattern_term c.args.connective ∷ b ∷ [] = c.args-2.ensures.parts ∙ ap parts_of equation ∙ opening_parts c.args.connective in
    let count_one : length c.clause_over.result.now ≡ 1 = count_ids bank c.clause_over.result.now (e ∷ []) clause in
    let count_two : length c.args-2.result.now ≡ 2 = count_ids bank c.args-2.result.now (pattern_term c.args.connective ∷ b ∷ []) parts in
    let here : Stands bank (slice_index_or c.clause_over.result.now 0 first) = c.clause_over.ensures.stand 0 first (omega (arith, count_one)) in
    let earlier : (slice_index_or c.args-2.result.now 1 first).0 < (slice_index_or c.clause_over.result.now 0 first).0 = c.args-2.ensures.earlier 1 first (omega (arith, count_two)) in
    record {
      line = c.requires.line;
      equation = record { stands = here; denotes = equation };
      body = record { stands = omega (arith, here, earlier); denotes = second_id bank c.args-2.result.now (pattern_term c.args.connective) b [] first parts };
    }
