-- The refusals of events with terms, and the arities of definitions.
use Rattle.std.proofs.Common.{◌≡◌, ℕ, List, length, sym, ap, ◌∙◌, subst}
use Rattle.std.specs.Prelude.{Option, None, Some, bytes_eq, if◌then◌else◌}
use Rattle.std.proofs.lemmas.List.{length-map}
use Rattle.nq_logic.specs.Terms.{Name, Term}
use Rattle.nq_logic.specs.Histories.{History, RuleClass}
use Rattle.nq_bank.specs.declared.node.Sym.{Sym}
use Rattle.nq_bank.specs.Content.{Content, text_at}
use Rattle.nq_bank.specs.Shells.{texts_at}
use Rattle.nq_history.specs.Events.{events_at}
use Rattle.nq_events.specs.Events as model
use Rattle.nq_events.specs.Refusals.{Refusal}
use Rattle.nq_events.specs.TermRefusals.{arity_of, arity_with, first}
use Rattle.nq_events.specs.Reading.{unless_refused}
use Rattle.nq_event.specs.declared.arities.NewFunction.{NewFunction}
use Rattle.nq_event.specs.declared.arities.Functions.{Functions}
use Rattle.nq_event.specs.declared.fault.EventFault.{EventFault}
use Rattle.nq_event.specs.declared.fault.EventFault.TheVariants.{Refused, Memory}
use Rattle.nq_event.specs.Arities.{arities_at, arity_before}
use Rattle.nq_event.specs.Faults.{IsTold}
use Rattle.nq_event.specs.Parsed.{IsFaultOf}
use Rattle.nq_event.specs.Readings.{IsToldOf}
use Rattle.nq_event.proofs.ToldLemmas.{told_some, told_first}

-- in the terms of a definition its function has the arity of its formals
pub with_arities : (bank : Content) (functions : Functions) (f : NewFunction) (h : History) (x : Name) (texts : List Name) → functions.defined ≡ Some f → events_at bank functions.history.now ≡ h → text_at bank f.name ≡ x → f.arity ≡ length texts → arities_at bank functions ≡ arity_with h x texts
unfolding arities_at
with_arities bank functions f h x texts defined past named count =
    let by : Name → ℕ → Name → Option ℕ = λ y n g. if bytes_eq g y then Some n else arity_of h g in
    ap (λ o. arity_before bank o (arity_of (events_at bank functions.history.now))) defined ∙ ap (λ es. arity_before bank (Some f) (arity_of es)) past ∙ ap (λ y. by y f.arity) named ∙ ap (by x) count

pub count_texts : (bank : Content) (names : List Sym) (texts : List Name) → texts_at bank names ≡ texts → length names ≡ length texts
count_texts bank names texts e = sym (length-map names (text_at bank)) ∙ ap length e

-- the refusals of an axiom, one behind the other
pub types_told : (r s t : Option Refusal) (refusal : Refusal) (fault : EventFault) → r ≡ Some refusal → IsTold refusal fault → IsToldOf (first (first r s) t) fault
types_told r s t refusal fault e told = subst (λ q. IsToldOf (first (first q s) t) fault) (sym e) (told_some refusal fault told)

pub after_types_told : (r s t : Option Refusal) (fault : EventFault) → r ≡ None → IsToldOf s fault → IsToldOf (first (first r s) t) fault
after_types_told r s t fault e told = subst (λ q. IsToldOf (first (first q s) t) fault) (sym e) (told_first s t fault told)

pub none_of_two : (r s : Option Refusal) → r ≡ None → s ≡ None → first r s ≡ None
none_of_two r s h k = ap (λ q. first q s) h ∙ k

-- the refusals of a lemma: of its types, its term, the terms of its hints, and its hints
pub in_turn : (types term terms hints : Option Refusal) → types ≡ None → term ≡ None → first (first types (first term terms)) hints ≡ first terms hints
in_turn types term terms hints h k = ap (λ q. first (first q (first term terms)) hints) h ∙ ap (λ q. first (first q terms) hints) k

-- a fault and an event, as they are promised
pub fault_promised : (r : Option Refusal) (event : model.Event) (fault : EventFault) → IsToldOf r fault → IsFaultOf (unless_refused r event) fault
fault_promised None event (Refused code words) h = h
fault_promised None event Memory h = tt
fault_promised (Some refusal) event (Refused code words) h = h
fault_promised (Some refusal) event Memory h = tt

-- events of equal parts
pub defn_is : (x y : Name) (xs ys : List Name) (t u : Term) (ms ns : List model.Measure) → x ≡ y → xs ≡ ys → t ≡ u → ms ≡ ns → model.Defn x xs t ms ≡ model.Defn y ys u ns
defn_is x y xs ys t u ms ns e f g h = cc

pub axiom_is : (x y : Name) (cs ds : List RuleClass) (t u : Term) → x ≡ y → cs ≡ ds → t ≡ u → model.AddAxiom x cs t ≡ model.AddAxiom y ds u
axiom_is x y cs ds t u e f g = cc

pub lemma_is : (x y : Name) (cs ds : List RuleClass) (t u : Term) (hs is : model.Hints) → x ≡ y → cs ≡ ds → t ≡ u → hs ≡ is → model.ProveLemma x cs t hs ≡ model.ProveLemma y ds u is
lemma_is x y cs ds t u hs is e f g h = cc
