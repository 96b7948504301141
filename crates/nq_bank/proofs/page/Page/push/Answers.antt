use Rattle.std.proofs.Common.{◌∙◌, [], ◌∷◌, ◌++◌, ap, sym, subst}
use Rattle.std.specs.Prelude.{is_ok, if◌then◌else◌}
use Rattle.nq_bank.specs.declared.record.Kind.TheVariants.{Numeral}
use Rattle.nq_bank.specs.Entries.{Stored, stored, entry_with, record_of, IsCounted}
use Rattle.nq_bank.proofs.PageLemmas.{variable_kept, numeral_kept, call_kept}
use Rattle.nq_bank.proofs.page.Page.push.Goals as goal

pub returns-in-Var : goal.returns-in-Var
returns-in-Var c =
    c.push_words.ensures
    ∙ ap (λ (e : Stored). if is_ok c.push_words.result then c.args.self.now ++ e ∷ [] else c.args.self.now) (variable_kept c.in-Var.s c.args.arguments.now c.args.kept ∙ ap (λ x. stored x c.args.arguments.now c.args.kept) (sym c.in-Var.is))

pub returns-in-Num : goal.returns-in-Num
returns-in-Num c =
    let counted = subst (λ x. IsCounted x c.args.arguments.now) c.in-Num.is c.requires in
    c.push_words-in-Num.ensures
    ∙ ap (λ (e : Stored). if is_ok c.push_words-in-Num.result then c.args.self.now ++ e ∷ [] else c.args.self.now) (ap (entry_with (record_of Numeral 0 0 c.args.kept)) c.halves.ensures ∙ numeral_kept c.in-Num.n c.args.arguments.now c.args.kept counted ∙ ap (λ x. stored x c.args.arguments.now c.args.kept) (sym c.in-Num.is))

pub returns-in-App : goal.returns-in-App
returns-in-App c =
    let counted = subst (λ x. IsCounted x c.args.arguments.now) c.in-App.is c.requires in
    c.push_words-in-App.ensures
    ∙ ap (λ (e : Stored). if is_ok c.push_words-in-App.result then c.args.self.now ++ e ∷ [] else c.args.self.now) (call_kept c.in-App.f c.in-App._count c.args.arguments.now c.args.kept counted ∙ ap (λ x. stored x c.args.arguments.now c.args.kept) (sym c.in-App.is))
