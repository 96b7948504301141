use Rattle.std.proofs.Common.{Err, ap, sym, ◌∙◌}
use Rattle.nq_bank.specs.Content.{term_at}
use Rattle.nq_sexp.specs.Tree.{tree}
use Rattle.nq_abbrev.specs.Known.{arity_over}
use Rattle.nq_abbrev.proofs.MeantLemmas.{is_term, is_large_term, is_deep_term}
use Rattle.nq_abbrev.proofs.translation.unrefused.Goals as goal

pub returns-then-is_too_large-clause-refused : goal.returns-then-is_too_large-clause-refused
returns-then-is_too_large-clause-refused g c =
    let arity = arity_over c.args.bank.now.names (g.A.Arities.at c.args.arities.now) in
    let made = c.in-Ok.ensures.right arity c.nests_of-nests.ensures c.requires in
    is_large_term arity (tree c.args.form.now) (term_at c.term_in.new.bank c.in-Ok.t) c.requires made.ok.denotes (sym c.is_too_large.ensures ∙ c.if-is_too_large.true)

pub returns-else-is_too_large-clause-term : goal.returns-else-is_too_large-clause-term
returns-else-is_too_large-clause-term g c =
    let arity = arity_over c.args.bank.now.names (g.A.Arities.at c.args.arities.now) in
    let made = c.in-Ok.ensures.right arity c.nests_of-nests.ensures c.requires in
    record {
      stands = made.ok.stands;
      is = is_term arity (tree c.args.form.now) (term_at c.term_in.new.bank c.in-Ok.t) c.requires made.ok.denotes (sym c.is_too_large.ensures ∙ c.if-is_too_large.false);
    }

pub returns-in-Err-Deep-clause-refused : goal.returns-in-Err-Deep-clause-refused
returns-in-Err-Deep-clause-refused g c =
    let arity = arity_over c.args.bank.now.names (g.A.Arities.at c.args.arities.now) in
    let made = c.term_in.ensures.right arity c.nests_of-nests.ensures c.requires in
    is_deep_term arity (tree c.args.form.now) c.requires (made.deep (c.in-Err-Deep.is ∙ ap Err c.in-Err-Deep.field-0-is))
