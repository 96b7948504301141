-- The search for an axiom or lemma of which a goal is an instance.
use Rattle.std.proofs.Common.{◌≡◌, ℕ, ◌+◌, ◌<◌, ◌≤◌, Bool, true, false, Option, Some, List, [], ◌∷◌, length, get_or, take, map, refl, sym, ap, ◌∙◌, subst}
use Rattle.std.specs.Prelude.{All, IfSome, bytes_eq}
use Rattle.std.proofs.lemmas.List.{take_all, take_more}
use Rattle.nq_logic.specs.Terms.{Name, Term, Substitution, substituted}
use Rattle.nq_logic.specs.Histories.{History}
use Rattle.nq_proof.specs.Rules.{event_term, term_if}
use Rattle.nq_proof.proofs.Tests.{some_same}
use Rattle.nq_fragments.specs.Instances.{IsEarlierInstance}
use Rattle.nq_bank.specs.declared.node.Sym.{Sym}
use Rattle.nq_bank.specs.declared.node.TermId.{TermId}
use Rattle.nq_bank.specs.Content.{Content, text_at, term_at}
use Rattle.nq_bank.proofs.NodesLemmas.{All-head, All-tail}
use Rattle.nq_bank.proofs.Standing.{All-push}
use Rattle.nq_bank.proofs.Texts.{bytes_eq-true}
use Rattle.nq_history.specs.declared.entry.EntryKind.{EntryKind}
use Rattle.nq_history.specs.declared.entry.EntryKind.TheVariants as kind
use Rattle.nq_history.specs.declared.entry.Entry.{Entry}
use Rattle.nq_history.specs.Events.{event_of, event_at, events_at, past_ground, kind_term}
use Rattle.nq_quick.specs.Earlier.{IsNoInstance, IsPassed}

-- one more entry is passed
pub passed_more : (bank : Content) (h : History) (goal : TermId) (entries : List Entry) (i : ℕ) (e : Entry) → i < length entries → e ≡ get_or entries i e → All (IsPassed bank h goal) (take i entries) → IsPassed bank h goal e → All (IsPassed bank h goal) (take (i + 1) entries)
passed_more bank h goal entries i e below is passed here =
    subst (All (IsPassed bank h goal)) (sym (take_more entries i e below)) (All-push (IsPassed bank h goal) (take i entries) (get_or entries i e) passed (subst (IsPassed bank h goal) is here))

-- where each entry is passed, the goal is no instance of what stands under a name
module _ (bank : Content) (h : History) (goal : TermId) (x : Name) (p : Term) (pairs : Substitution) (event : event_term x h ≡ Some p) (gives : substituted pairs p ≡ term_at bank goal) where
  not_this : (b : Bool) (name : Sym) (t : TermId) (rest : Option Term) → bytes_eq x (text_at bank name) ≡ b → IsNoInstance bank h goal name t → (rest ≡ Some p → ⊥) → term_if b (term_at bank t) rest ≡ Some p → ⊥
  not_this false name t rest other here none found = none found
  not_this true name t rest same here none found =
      let term : term_at bank t ≡ p = some_same (term_at bank t) p found in
      let text : x ≡ text_at bank name = bytes_eq-true x (text_at bank name) same in
      here.none (ap (λ y. event_term y h) (sym text) ∙ event ∙ ap (λ u. Some u) (sym term)) pairs (ap (substituted pairs) term ∙ gives)

  not_here : (name : Sym) (k : EntryKind) (events : History) → IfSome (kind_term k) (IsNoInstance bank h goal name) → (event_term x events ≡ Some p → ⊥) → event_term x (event_of bank name k ∷ events) ≡ Some p → ⊥
  not_here name (kind.Shell shell) events here none found = none found
  not_here name (kind.Dcl n) events here none found = none found
  not_here name (kind.Defn formals body measure) events here none found = none found
  not_here name (kind.Toggle old disabled) events here none found = none found
  not_here name (kind.Axiom classes t) events here none found = not_this (bytes_eq x (text_at bank name)) name t (event_term x events) refl here none found
  not_here name (kind.Lemma classes t) events here none found = not_this (bytes_eq x (text_at bank name)) name t (event_term x events) refl here none found

  not_among : (entries : List Entry) → All (IsPassed bank h goal) entries → event_term x (map (event_at bank) entries) ≡ Some p → ⊥
  not_among [] passed found = absurd cc
  not_among (e ∷ entries) passed found =
      not_here e.name e.kind (map (event_at bank) entries) (All-head (IsPassed bank h goal) e entries passed) (not_among entries (All-tail (IsPassed bank h goal) e entries passed)) found

pub none_earlier : (bank : Content) (history : List Entry) (goal : TermId) (items : List Entry) (i : ℕ) → items ≡ past_ground history → length items ≤ i → All (IsPassed bank (events_at bank history) goal) (take i items) → IsEarlierInstance (events_at bank history) (term_at bank goal) → ⊥
none_earlier bank history goal items i are all passed instance =
    let each : All (IsPassed bank (events_at bank history) goal) (past_ground history) = subst (All (IsPassed bank (events_at bank history) goal)) (take_all i items all ∙ are) passed in
    not_among bank (events_at bank history) goal instance.name instance.pattern instance.pairs instance.event instance.instance_is (past_ground history) each instance.event
