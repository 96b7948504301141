-- Ready histories with one axiom more.
use Rattle.std.proofs.Common.{◌≡◌, ◌∷◌, ◌++◌, [], ℕ, Bool, true, false, List, refl, sym, subst}
use Rattle.std.specs.Prelude.{Result, Ok, Err, OnOk}
use Rattle.nq_logic.specs.Terms.{Name, Term}
use Rattle.nq_logic.specs.Ground.{symbols_of}
use Rattle.nq_logic.specs.Names.{is_in_use}
use Rattle.nq_logic.specs.Histories.{History, RuleClass, Axiom}
use Rattle.nq_history.specs.declared.history.PushFault.{PushFault}
use Rattle.nq_history.specs.Lookups.{push_fault, IsAnswer}
use Rattle.nq_kernel.specs.Over.{IsTermOf, IsVariable}
use Rattle.nq_kernel.specs.Ready.{IsReady}
use Rattle.nq_kernel.proofs.ReadyLemmas.{ready_more}

pub none_ready : (h : History) → h ≡ [] → IsReady h
none_ready h none = subst IsReady (sym none) tt

pub axiom_ready : (h : History) (name : Name) (classes : List RuleClass) (t : Term) → IsReady h → is_in_use name h ≡ false → IsTermOf IsVariable (symbols_of h) t → IsReady (h ++ Axiom name classes t ∷ [])
axiom_ready h name classes t ready unused over = ready_more h (Axiom name classes t) ready (record { unused = unused; holds = over.over; spelled = over })

-- an event is added only where its name was not in use
pub new_name : (used : Bool) (count : ℕ) (r : Result (Unit {0}) PushFault) → IsAnswer (push_fault used count) r → OnOk r (used ≡ false)
new_name true count (Ok u) answer = absurd answer
new_name true count (Err e) answer = tt
new_name false count (Ok u) answer = refl
new_name false count (Err e) answer = tt

pub on_ok₂ : {E : Type 0} {A : Type 0} (r : Result A E) (P Q R : Type 0) → (P → Q → R) → OnOk r P → OnOk r Q → OnOk r R
on_ok₂ (Ok a) P Q R f p q = f p q
on_ok₂ (Err e) P Q R f p q = tt
