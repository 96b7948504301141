use Rattle.std.proofs.Common.{◌≡◌, ◌∙◌, List, length, sym, ap, subst}
use Rattle.std.specs.Prelude.{All, false}
use Rattle.nq_logic.specs.Values.{is_value}
use Rattle.nq_bank.specs.declared.node.TermId.{TermId}
use Rattle.nq_bank.specs.Content.{term_at, terms_at}
use Rattle.nq_lines.specs.Lines.{IsTermIn}
use Rattle.nq_rule.proofs.Made.{for_ok}
use Rattle.nq_goals.specs.NewVariables.{clause_variables, new_variables}
use Rattle.nq_moves.specs.Naming.{IsRenaming, occurs_in_one}
use Rattle.nq_eliminate.specs.Kept.{IsKept, IsRenamedBy}
use Rattle.nq_eliminate.proofs.MakingLemmas.{renamed_two}
use Rattle.nq_eliminate.proofs.making.renamed.Goals as goal

pub rename_new-requires-clause-literals : goal.rename_new-requires-clause-literals
rename_new-requires-clause-literals c = subst (All (IsTermIn c.args.history.now c.args.work.now)) (sym c.as_slice.ensures.value) c.requires.literals

pub rename_new-requires-clause-within : goal.rename_new-requires-clause-within
rename_new-requires-clause-within c =
    let bank = c.args.work.now.bank in
    λ x free. subst (λ ids. occurs_in_one x (terms_at bank ids) ≡ false) (sym c.as_slice.ensures.value) (c.requires.within x free)

pub rename_new-requires-clause-terms : goal.rename_new-requires-clause-terms
rename_new-requires-clause-terms c = subst (All (IsTermIn c.args.history.now c.args.work.now)) (sym c.as_slice-2.ensures.value) c.requires.calls

pub rename_new-requires-clause-values : goal.rename_new-requires-clause-values
rename_new-requires-clause-values c = subst (All (λ t. is_value (term_at c.args.work.now.bank t) ≡ false)) (sym c.as_slice-2.ensures.value) c.requires.values

pub kept-requires : goal.kept-requires
kept-requires c =
    let new = c.rename_new.new.work in
    renamed_two c.args.history.now new c.as_slice.result.now c.in_ok-renaming.renaming c.in_ok-renaming.ensures.renaming c.args.p.literals.items c.as_slice.ensures.value c.requires.two

pub returns-clause-renamed : goal.returns-clause-renamed
returns-clause-renamed c =
    let h = c.args.history.now in
    let old = c.args.work.now in
    let new = c.rename_new.new.work in
    let renaming = c.in_ok-renaming.renaming in
    for_ok c.kept.result (IsKept c.args.r c.args.p.equation renaming) (IsRenamedBy h old new c.args.known.now c.args.r c.args.p)
    (λ d kept.
    record {
      renaming = renaming;
      kept = kept;
      is = subst (λ (ids : List TermId). IsRenaming h new ids renaming) c.as_slice.ensures.value c.in_ok-renaming.ensures.renaming;
      names = c.in_ok-renaming.ensures.names ∙ ap (λ (ids : List TermId). new_variables (clause_variables (terms_at old.bank c.args.known.now)) (length ids)) c.as_slice-2.ensures.value;
      terms = c.in_ok-renaming.ensures.terms ∙ ap (terms_at old.bank) c.as_slice-2.ensures.value;
    }) c.kept.ensures.kept
