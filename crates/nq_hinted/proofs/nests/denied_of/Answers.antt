use Rattle.std.proofs.Common.{◌≡◌, ◌∙◌, Option, sym, ap, subst, refl}
use Rattle.std.specs.Prelude.{IsSome, Some}
use Rattle.nq_logic.specs.Terms.{Term}
use Rattle.nq_logic.specs.Words.{not_term}
use Rattle.nq_logic.specs.Numerals.{number_of}
use Rattle.nq_bank.specs.Content.{term_at}
use Rattle.nq_bank.specs.Parts.{parts_of}
use Rattle.nq_proof.specs.Clauses.{literal_at}
use Rattle.nq_hinted.specs.Nests.{denied_by}
use Rattle.nq_hinted.proofs.nests.denied_of.Goals as goal

denied_there : (t : Term) → literal_at 1 (parts_of (not_term t)) ≡ Some t
unfolding number_of
denied_there t = refl

there : (t : Term) → t ≡ not_term (denied_by t) → literal_at 1 (parts_of t) ≡ Some (denied_by t)
there t is = ap (λ (u : Term). literal_at 1 (parts_of u)) is ∙ denied_there (denied_by t)

some : (o : Option Term) (t : Term) → o ≡ Some t → IsSome o
some o t is = subst IsSome (sym is) refl

one : (t u : Term) → Some t ≡ Some u → t ≡ u
one t u is = cc

pub argument_at-requires-clause-place : goal.argument_at-requires-clause-place
argument_at-requires-clause-place c = some _ (denied_by (term_at c.args.bank.now c.args.t)) (there (term_at c.args.bank.now c.args.t) c.requires.denied)

pub returns : goal.returns
returns c = record {
  stands = c.argument_at.ensures.stands;
  denotes = one (term_at c.args.bank.now c.argument_at.result) (denied_by (term_at c.args.bank.now c.args.t)) (sym c.argument_at.ensures.argument ∙ there (term_at c.args.bank.now c.args.t) c.requires.denied);
}
