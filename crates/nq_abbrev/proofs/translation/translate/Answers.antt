use Rattle.std.proofs.Common.{sym, ap, ◌∙◌}
use Rattle.nq_sexp.specs.Tree.{tree}
use Rattle.nq_abbrev.specs.Known.{arity_over}
use Rattle.nq_abbrev.specs.Met.{met_of, refusal_of}
use Rattle.nq_abbrev.proofs.MeantLemmas.{is_refused}
use Rattle.nq_abbrev.proofs.translation.translate.Goals as goal

pub returns-in-Some-clause-refused : goal.returns-in-Some-clause-refused
returns-in-Some-clause-refused g c =
    is_refused (arity_over c.args.bank.now.names (g.A.Arities.at c.args.arities.now)) (tree c.args.form.now) (refusal_of c.in-Some.refusal) (ap met_of (sym c.in-Some.is) ∙ c.first_refusal.ensures)

pub unrefused-requires : goal.unrefused-requires
unrefused-requires g c = sym c.first_refusal.ensures ∙ ap met_of c.in-None.is
