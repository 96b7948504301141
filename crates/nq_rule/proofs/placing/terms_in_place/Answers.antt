use Rattle.std.proofs.Common.{◌≡◌, ◌++◌, ◌-◌, take, drop, sym, subst}
use Rattle.std.specs.Prelude.{All}
use Rattle.std.proofs.lemmas.List.Elements.{All-append, All-take, All-drop}
use Rattle.nq_bank.specs.Content.{Stands, terms_at}
use Rattle.nq_proof.specs.Clauses.{in_place}
use Rattle.nq_rule.proofs.Made.{for_ok}
use Rattle.nq_rule.proofs.PlacingLemmas.{in_place_is}
use Rattle.nq_rule.proofs.placing.terms_in_place.Goals as goal

pub returns-clause-clause : goal.returns-clause-clause
returns-clause-clause c =
    for_ok c.spliced.result (λ v. v.items ≡ take (c.args.place - 1) c.args.terms.now ++ (c.args.these.now ++ drop c.args.place c.args.terms.now)) (λ v. terms_at c.args.bank.now v.items ≡ in_place c.args.place (terms_at c.args.bank.now c.args.these.now) (terms_at c.args.bank.now c.args.terms.now))
    (λ v e. in_place_is c.args.bank.now c.args.place c.args.terms.now c.args.these.now v.items c.requires.place e) c.spliced.ensures

pub returns-clause-stand : goal.returns-clause-stand
returns-clause-stand c =
    for_ok c.spliced.result (λ v. v.items ≡ take (c.args.place - 1) c.args.terms.now ++ (c.args.these.now ++ drop c.args.place c.args.terms.now)) (λ v. All (Stands c.args.bank.now) v.items)
    (λ v e. subst (All (Stands c.args.bank.now)) (sym e)
    (All-append (Stands c.args.bank.now) (take (c.args.place - 1) c.args.terms.now) (c.args.these.now ++ drop c.args.place c.args.terms.now) (All-take (Stands c.args.bank.now) (c.args.place - 1) c.args.terms.now c.requires.terms)
    (All-append (Stands c.args.bank.now) c.args.these.now (drop c.args.place c.args.terms.now) c.requires.these (All-drop (Stands c.args.bank.now) c.args.place c.args.terms.now c.requires.terms)))) c.spliced.ensures
