use Rattle.std.proofs.Common.{◌∙◌, [], ◌∷◌, map, sym, ap, subst}
use Rattle.std.specs.Prelude.{All}
use Rattle.nq_logic.specs.Terms.{substituted}
use Rattle.nq_bank.specs.Content.{Stands, terms_at, text_at, term_at}
use Rattle.nq_moves.proofs.ClosingLemmas.{all_stand}
use Rattle.nq_moves.proofs.EliminatedLemmas.{clause_ok, one_pair_stands, over_ok, put_over}
use Rattle.nq_moves.proofs.eliminating.child_of.Goals as goal

pub substitute_all-requires-clause-terms : goal.substitute_all-requires-clause-terms
substitute_all-requires-clause-terms c =
    let w = c.args.work.now in
    subst (All (Stands w.bank)) (sym c.as_slice.ensures.value) (all_stand c.args.history.now w c.args.e.now.renamed.items c.requires.serves.renamed)

pub substitute_all-requires-clause-pairs : goal.substitute_all-requires-clause-pairs
substitute_all-requires-clause-pairs c =
    let e = c.args.e.now in
    one_pair_stands c.args.work.now.bank (record { variable = e.name; term = e.made_of }) c.requires.serves.name c.requires.serves.made_of.stands

pub distinct_clause-requires : goal.distinct_clause-requires
distinct_clause-requires c = subst (All (Stands c.substitute_all.new.work.bank)) (sym c.as_slice-2.ensures.value) c.in_ok-terms.ensures.stand

pub returns-clause-child : goal.returns-clause-child
returns-clause-child c =
    let old = c.args.work.now.bank in
    let new = c.substitute_all.new.work in
    let e = c.args.e.now in
    let put = map (substituted ((text_at old e.name, term_at old e.made_of) ∷ [])) in
    let told = ap (terms_at new.bank) c.as_slice-2.ensures.value ∙ c.in_ok-terms.ensures.terms ∙ ap (λ ids. put (terms_at old ids)) c.as_slice.ensures.value in
    clause_ok new.bank c.distinct_clause.result c.as_slice-2.result.now (put (terms_at old e.renamed.items)) told c.distinct_clause.ensures.clause

pub returns-clause-over : goal.returns-clause-over
returns-clause-over c =
    let h = c.args.history.now in
    let old = c.args.work.now in
    let new = c.substitute_all.new.work in
    let e = c.args.e.now in
    let put = map (substituted ((text_at old.bank e.name, term_at old.bank e.made_of) ∷ [])) in
    let told = ap (terms_at new.bank) c.as_slice-2.ensures.value ∙ c.in_ok-terms.ensures.terms ∙ ap (λ ids. put (terms_at old.bank ids)) c.as_slice.ensures.value in
    over_ok h new c.distinct_clause.result c.as_slice-2.result.now (put (terms_at old.bank e.renamed.items)) told (put_over h old new c.requires.stands c.substitute_all.ensures.grows c.args.goal.now e c.requires.serves) c.distinct_clause.ensures.clause c.distinct_clause.ensures.stand
