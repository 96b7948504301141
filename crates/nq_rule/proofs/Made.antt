-- Clauses that are made, and faults that are passed on.
use Rattle.std.proofs.Common.{◌≡◌, ◌<◌, Some, refl, sym, ap, ◌∙◌, subst}
use Rattle.std.specs.Prelude.{All, Result, Ok, Err, IfOk, Vec}
use Rattle.std.specs.declared.alloc.Global.{Global}
use Rattle.std.specs.declared.alloc.AllocError.{AllocError}
use Rattle.nq_logic.specs.Terms.{Term, IsAmong}
use Rattle.nq_bank.specs.declared.node.TermId.{TermId}
use Rattle.nq_bank.specs.declared.node.BankFault.{BankFault}
use Rattle.nq_bank.specs.Content.{Content, Stands, terms_at, Gives, IsIdOf}
use Rattle.nq_logic.specs.Sizes.{depth_of, depth_limit}
use Rattle.nq_proof.specs.Clauses.{Clause, distinct}
use Rattle.nq_proof.proofs.Tests.{distinct_in}
use Rattle.nq_rule.specs.Conclusions.{Concludes, IsDeep}

-- what was made is the clause that was wanted
pub made : (bank : Content) (answer : Result (Vec TermId Global) AllocError) (result : Result (Vec TermId Global) BankFault) (clause wanted : Clause) → IfOk result (λ c. answer ≡ Ok c) → IfOk answer (λ c. terms_at bank c.items ≡ clause) → IfOk answer (λ c. All (Stands bank) c.items) → clause ≡ wanted → IfOk result (λ c. Concludes bank c.items (Some wanted))
made bank answer (Ok c) clause wanted same is stand e =
    let P : Result (Vec TermId Global) AllocError → Type 0 = λ r. IfOk r (λ v. terms_at bank v.items ≡ clause) in
    let Q : Result (Vec TermId Global) AllocError → Type 0 = λ r. IfOk r (λ v. All (Stands bank) v.items) in
    record { stand = subst Q same stand; concluded = ap Some (sym (subst P same is ∙ e)) }
made bank answer (Err e) clause wanted same is stand k = tt

-- a clause of which one literal is too deep
pub deep_among : (t : Term) (c : Clause) → IsAmong t c → depth_limit < depth_of t → IsDeep (Some (distinct c))
deep_among t c among deep = record { terms = distinct c; concluded = refl; deep = record { term = t; among = distinct_in t c among; deep = deep } }

-- what holds of an answer in one way holds in another
pub for_ok : {A F : Type 0} (r : Result A F) (P Q : A → Type 0) → ((a : A) → P a → Q a) → IfOk r P → IfOk r Q
for_ok (Ok a) P Q f h = f a h
for_ok (Err e) P Q f h = tt

-- the id that was given is that of the term that was wanted
pub given_id : {F : Type 0} (old new : Content) (r : Result TermId F) (term other : Term) → term ≡ other → IfOk r (λ t. Gives old new t term) → IfOk r (λ t. IsIdOf new t other)
given_id old new (Ok t) term other same h = subst (IsIdOf new t) same h.id
given_id old new (Err e) term other same h = tt
