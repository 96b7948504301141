-- Events that hold where they were added.
use Rattle.std.proofs.Common.{◌≡◌, Bool, true, false, ℕ, zero, List, [], ◌∷◌, ◌++◌, length, if◌then◌else◌, inl, inr, refl, sym, ◌∙◌, subst, append_assoc, append-nil}
use Rattle.std.specs.Prelude.{bytes_eq}
use Rattle.nq_logic.specs.Terms.{Term, Symbol, IsTerm, IsAmong, Each}
use Rattle.nq_logic.specs.Formulas.{holds}
use Rattle.nq_logic.specs.Histories.{RuleClass, History, Event, AddShell, Declaration, Defines, Axiom, Lemma, Toggle, Shell, event_symbols, events_symbols, event_shells, events_shells}
use Rattle.nq_logic.specs.Ground.{symbols_of, ground_symbols, ground_shells}
use Rattle.nq_logic.specs.Names.{event_name, before_event}
use Rattle.nq_logic.specs.Derivations.{Derivable}
use Rattle.nq_logic.proofs.Lists.{among_left, among_right}
use Rattle.nq_logic.proofs.Basic.{well_formed}
use Rattle.nq_logic.proofs.Additions.{growth_law, takes_grows, all_symbols_grow}
use Rattle.nq_proof.specs.Closed.{EventOver, IsClosed, MeetsShellPrinciple}
use Rattle.nq_proof.specs.Laws.{LemmasHold}
use Rattle.nq_proof.proofs.AcceptedShells.{accepted_law}
use Rattle.nq_log.specs.States.{Claim, Grounded, Adds, Undoes, after_claim}
use Rattle.nq_log.specs.Laws.{EventHolds, ClaimHolds, HoldFrom, IsSound}

hold_before : (b : History) (n : List ℕ) (h : History) → HoldFrom b h → HoldFrom b (before_event n h)
hold_before b n [] w = tt
hold_before b n (e ∷ h) w = by_name (bytes_eq n (event_name e)) (hold_before (b ++ (e ∷ [])) n h w.1)
  where
    by_name : (same : Bool) → HoldFrom (b ++ (e ∷ [])) (before_event n h) → HoldFrom b (if same then [] else e ∷ before_event n h)
    by_name true rest = tt
    by_name false rest = (w.0, rest)

hold_more : (b h : History) (e : Event) → HoldFrom b h → EventHolds (b ++ h) e → HoldFrom b (h ++ (e ∷ []))
hold_more b [] e w p = (subst (λ k. EventHolds k e) (append-nil b) p, tt)
hold_more b (x ∷ h) e w p = (w.0, hold_more (b ++ (x ∷ [])) h e w.1 (subst (λ k. EventHolds k e) (sym (append_assoc b (x ∷ []) h)) p))

pub sound_after : (h : History) (c : Claim) → IsSound h → ClaimHolds h c → IsSound (after_claim h c)
sound_after h Grounded w p = tt
sound_after h (Adds e) w p = hold_more [] h e w p.1
sound_after h (Undoes n) w p = hold_before [] n h w

-- an event holds in the history before it
hold_at : (b before after : History) (e : Event) → HoldFrom b (before ++ (e ∷ after)) → EventHolds (b ++ before) e
hold_at b [] after e w = subst (λ k. EventHolds k e) (sym (append-nil b)) w.0
hold_at b (x ∷ before) after e w = subst (λ k. EventHolds k e) (append_assoc b (x ∷ []) before) (hold_at (b ++ (x ∷ [])) before after e w.1)

lemmas_from : (b h : History) → HoldFrom b h → (n : List ℕ) (classes : List RuleClass) (t : Term) → IsAmong (Lemma n classes t) h → Derivable (b ++ h) (holds t)
lemmas_from b [] w n classes t m = absurd m
lemmas_from b (e ∷ h) w n classes t (inl same) = growth_law b (e ∷ h) (holds t) (subst (EventHolds b) (sym same) w.0)
lemmas_from b (e ∷ h) w n classes t (inr m) = subst (λ k. Derivable k (holds t)) (append_assoc b (e ∷ []) h) (lemmas_from (b ++ (e ∷ [])) h w.1 n classes t m)

pub lemmas_hold : (h : History) → IsSound h → LemmasHold h
lemmas_hold h w n classes t m = lemmas_from [] h w n classes t m

shells_accepted : (h : History) → IsSound h → MeetsShellPrinciple h
shells_accepted h w before after s e = hold_at [] before after (AddShell s) (subst (HoldFrom []) e w)

-- ---- the history speaks of its own functions alone

own_shell : (h : History) (s : Shell) → IsAmong (AddShell s) h → IsAmong s (events_shells h)
own_shell [] s m = absurd m
own_shell (e ∷ h) s (inl same) = among_left s (event_shells e) (events_shells h) (subst (λ (e : Event). IsAmong s (event_shells e)) same (inl refl))
own_shell (e ∷ h) s (inr m) = among_right s (event_shells e) (events_shells h) (own_shell h s m)

own_symbols : (h : History) (e : Event) (x : Symbol) → IsAmong e h → IsAmong x (event_symbols e) → IsAmong x (events_symbols h)
own_symbols [] e x m a = absurd m
own_symbols (f ∷ h) e x (inl same) a = among_left x (event_symbols f) (events_symbols h) (subst (λ (f : Event). IsAmong x (event_symbols f)) same a)
own_symbols (f ∷ h) e x (inr m) a = among_right x (event_symbols f) (events_symbols h) (own_symbols h e x m a)

-- a function that an event adds is one of the history
added_symbol : (h : History) (e : Event) (x : Symbol) → IsAmong e h → IsAmong x (event_symbols e) → IsAmong x (symbols_of h)
unfolding symbols_of
added_symbol h e x m a = among_right x ground_symbols (events_symbols h) (own_symbols h e x m a)

term_grows : (b l : History) (t : Term) → IsTerm (symbols_of b) t → IsTerm (symbols_of (b ++ l)) t
term_grows b l t o = takes_grows (symbols_of b) (symbols_of (b ++ l)) (all_symbols_grow b l) t zero o

module _ (h : History) (w : IsSound h) where
  -- an event of the history, which stands between these
  event_over : (before after : History) (e : Event) → h ≡ before ++ (e ∷ after) → IsAmong e h → EventHolds before e → EventOver (symbols_of h) e
  event_over before after (AddShell s) is m p = accepted_law h s (shells_accepted h w) (among_right s ground_shells (events_shells h) (own_shell h s m))
  event_over before after (Declaration f n) is m p = tt
  event_over before after (Defines d) is m p =
      takes_grows ((d.function, length d.formals) ∷ symbols_of before) (symbols_of h) (λ x a. own x a) d.body zero p.over
    where
      own : (x : Symbol) → IsAmong x ((d.function, length d.formals) ∷ symbols_of before) → IsAmong x (symbols_of h)
      own x (inl e) = added_symbol h (Defines d) x m (inl e)
      own x (inr a) = subst (λ k. IsAmong x (symbols_of k)) (sym is) (all_symbols_grow before (Defines d ∷ after) x a)
  event_over before after (Axiom n classes t) is m p = subst (λ k. IsTerm (symbols_of k) t) (sym is) (term_grows before (Axiom n classes t ∷ after) t p)
  event_over before after (Lemma n classes t) is m p = subst (λ k. IsTerm (symbols_of k) t) (sym is) (term_grows before (Lemma n classes t ∷ after) t (well_formed before (holds t) p).0)
  event_over before after (Toggle n old disabled) is m p = tt

  events_over : (before l : History) → h ≡ before ++ l → ((e : Event) → IsAmong e l → IsAmong e h) → HoldFrom before l → Each (EventOver (symbols_of h)) l
  events_over before [] is within p = tt
  events_over before (e ∷ l) is within p = (
    event_over before l e is (within e (inl refl)) p.0,
    events_over (before ++ (e ∷ [])) l (is ∙ sym (append_assoc before (e ∷ []) l)) (λ x m. within x (inr m)) p.1,
  )

  pub closed_history : IsClosed h
  closed_history = events_over [] h refl (λ e m. m) w
