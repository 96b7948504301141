-- Ready histories: with one event more, before an event, and what they hold.
use Rattle.std.proofs.Common.{◌≡◌, Bool, true, false, Option, Some, [], ◌∷◌, ◌++◌, if◌then◌else◌, sym, subst, append_assoc, append-nil}
use Rattle.std.specs.Prelude.{bytes_eq}
use Rattle.nq_logic.specs.Terms.{Name, Term}
use Rattle.nq_logic.specs.Names.{event_name, before_event}
use Rattle.nq_logic.specs.Ground.{symbols_of}
use Rattle.nq_logic.specs.Histories.{History, Event, AddShell, Declaration, Defines, Axiom, Lemma, Toggle}
use Rattle.nq_proof.specs.Rules.{event_term, term_if}
use Rattle.nq_proof.proofs.Tests.{some_same}
use Rattle.nq_log.specs.Laws.{HoldFrom, IsSound}
use Rattle.nq_kernel.specs.Over.{IsVariable, IsTermOf}
use Rattle.nq_kernel.specs.EventTerms.{IsSpelledTerm, HasSpelledTerms}
use Rattle.nq_kernel.specs.Ready.{IsReadyEvent, ReadyFrom, IsReady}

more_from : (b h : History) (e : Event) → ReadyFrom b h → IsReadyEvent (b ++ h) e → ReadyFrom b (h ++ e ∷ [])
more_from b [] e w last = (subst (λ k. IsReadyEvent k e) (append-nil b) last, tt)
more_from b (x ∷ h) e w last = (w.0, more_from (b ++ x ∷ []) h e w.1 (subst (λ k. IsReadyEvent k e) (sym (append_assoc b (x ∷ []) h)) last))

pub ready_more : (h : History) (e : Event) → IsReady h → IsReadyEvent h e → IsReady (h ++ e ∷ [])
ready_more h e ready last = more_from [] h e ready last

before_from : (b h : History) (x : Name) → ReadyFrom b h → ReadyFrom b (before_event x h)
before_from b [] x w = tt
before_from b (e ∷ h) x w = by_name (bytes_eq x (event_name e)) (before_from (b ++ e ∷ []) h x w.1)
  where
    by_name : (same : Bool) → ReadyFrom (b ++ e ∷ []) (before_event x h) → ReadyFrom b (if same then [] else e ∷ before_event x h)
    by_name true rest = tt
    by_name false rest = (w.0, rest)

pub ready_before : (h : History) (x : Name) → IsReady h → IsReady (before_event x h)
ready_before h x ready = before_from [] h x ready

sound_from : (b h : History) → ReadyFrom b h → HoldFrom b h
sound_from b [] w = tt
sound_from b (e ∷ h) w = (w.0.holds, sound_from (b ++ e ∷ []) h w.1)

-- each event holds in the history before it
pub ready_sound : (h : History) → IsReady h → IsSound h
ready_sound h ready = sound_from [] h ready

either_term : (b : Bool) (t u : Term) (later : Option Term) → term_if b t later ≡ Some u → IsSpelledTerm t → (later ≡ Some u → IsSpelledTerm u) → IsSpelledTerm u
either_term true t u later is own rest = subst IsSpelledTerm (some_same t u is) own
either_term false t u later is own rest = rest is

spelled_here : (h : History) (t : Term) → IsTermOf IsVariable (symbols_of h) t → IsSpelledTerm t
spelled_here h t over = record { symbols = symbols_of h; over = over }

spelled_from : (b h : History) (x : Name) (u : Term) → ReadyFrom b h → event_term x h ≡ Some u → IsSpelledTerm u
spelled_from b [] x u w is = absurd cc
spelled_from b (AddShell s ∷ h) x u w is = spelled_from (b ++ AddShell s ∷ []) h x u w.1 is
spelled_from b (Declaration f n ∷ h) x u w is = spelled_from (b ++ Declaration f n ∷ []) h x u w.1 is
spelled_from b (Defines d ∷ h) x u w is = spelled_from (b ++ Defines d ∷ []) h x u w.1 is
spelled_from b (Toggle n old disabled ∷ h) x u w is = spelled_from (b ++ Toggle n old disabled ∷ []) h x u w.1 is
spelled_from b (Axiom n classes t ∷ h) x u w is =
    either_term (bytes_eq x n) t u (event_term x h) is (spelled_here b t w.0.spelled) (λ later. spelled_from (b ++ Axiom n classes t ∷ []) h x u w.1 later)
spelled_from b (Lemma n classes t ∷ h) x u w is =
    either_term (bytes_eq x n) t u (event_term x h) is (spelled_here b t w.0.spelled) (λ later. spelled_from (b ++ Lemma n classes t ∷ []) h x u w.1 later)

-- the terms of its axioms and lemmas have variables that a log can spell
pub ready_spelled : (h : History) → IsReady h → HasSpelledTerms h
ready_spelled h ready = record { spelled = λ x u is. spelled_from [] h x u ready is }
