use Rattle.std.specs.Prelude.{nat_eq, Some, OnOk, Result, Ok, Err}
use Rattle.std.specs.HashMap.{Updates}
use Rattle.nq_logic.specs.Terms.{Substitution, substituted}
use Rattle.nq_bank.specs.Content.{IsIdOf, term_at}
use Rattle.nq_clause.specs.Substitution.{HasIds}
use Rattle.nq_clause.proofs.SubstitutionLemmas.{ids_kept}
use Rattle.nq_clause.proofs.substitution.keep_replaced.Goals as goal

-- what comes of a thing that is so where there is a result
on_ok : {A E : Type 0} (r : Result A E) (P Q : Type 0) → (P → Q) → OnOk r P → OnOk r Q
on_ok (Ok a) P Q f h = f h
on_ok (Err e) P Q f h = h

pub returns-clause-ids : goal.returns-clause-ids
returns-clause-ids c =
    let known = c.keep_id.new.known in
    on_ok c.keep_id.result (Updates nat_eq c.args.known.now known c.args.t.0 (Some c.args.r)) ((s : Substitution) → HasIds c.args.bank.now s c.args.known.now → IsIdOf c.args.bank.now c.args.r (substituted s (term_at c.args.bank.now c.args.t)) → HasIds c.args.bank.now s known) (λ updates s ids is. ids_kept c.args.bank.now s c.args.known.now known c.args.t c.args.r ids updates c.requires is) c.keep_id.ensures.ok
