-- What ready histories are: closed, with derivable lemmas, terms over their own functions, and definitions that can be used.
use Rattle.std.proofs.Common.{◌≡◌, ◌≤◌, zero, Bool, true, false, ◌&&◌, Option, Some, List, [], ◌∷◌, ◌++◌, if◌then◌else◌, inl, inr, refl, sym, subst, append_assoc}
use Rattle.std.specs.Prelude.{bytes_eq, not, nat_le}
use Rattle.std.proofs.lemmas.Bool.{leb-true}
use Rattle.std.specs.List.{list_all}
use Rattle.nq_logtext.specs.Symbols.{is_symbol}
use Rattle.nq_logic.specs.Terms.{Name, Symbol, Term, Variable, Function, Applied, IsTerm, IsAmong, Each}
use Rattle.nq_logic.specs.Sizes.{depth_of, tree_depth}
use Rattle.nq_logic.specs.Numerals.{number_of}
use Rattle.nq_logic.specs.Words.{numeral}
use Rattle.nq_logic.specs.Names.{event_name, event_in, looked_up, has_name, constant_names, are_distinct}
use Rattle.nq_logic.specs.Admissible.{HasVariables, has_variables}
use Rattle.nq_logic.specs.Ground.{symbols_of, all_events, ground_history, ground_definitions}
use Rattle.nq_logic.specs.Histories.{History, Event, AddShell, Declaration, Defines, Axiom, Lemma, Toggle, Definition, event_definitions, events_definitions}
use Rattle.nq_logic.proofs.Lists.{each_at, each_append, among_left, among_right}
use Rattle.nq_logic.proofs.Tests.{names_distinct_law, variables_told_law}
use Rattle.nq_logic.proofs.Additions.{takes_grows, all_symbols_grow}
use Rattle.nq_proof.specs.Rules.{event_term, term_if}
use Rattle.nq_proof.specs.Rows.{opening}
use Rattle.nq_proof.proofs.Tests.{some_same, and_left, and_right}
use Rattle.nq_proof.proofs.KeptSymbols.{definitions_over}
use Rattle.nq_history.proofs.HistoryLemmas.{events_at-grown}
use Rattle.nq_log.proofs.Events.{closed_history, lemmas_hold}
use Rattle.nq_kernel.specs.Over.{IsVariable, VariablesAre, IsTermOf}
use Rattle.nq_kernel.specs.Ready.{body_depth, ReadyFrom, IsReady}
use Rattle.nq_kernel.specs.ReadyLaws.{ReadyIsClosed, ReadyLemmasHold, ReadyTerms, ReadyDefinitions, ReadyGrown}
use Rattle.nq_kernel.proofs.EntryLemmas.{definitions_join}
use Rattle.nq_kernel.proofs.ReadyLemmas.{ready_sound}

pub closed_law : ReadyIsClosed
closed_law h ready = closed_history h (ready_sound h ready)

pub lemmas_law : ReadyLemmasHold
lemmas_law h ready = lemmas_hold h (ready_sound h ready)

-- ---- terms

-- a term over the functions of a history is over those of the history with more events
pub term_grown : (b more : History) (t : Term) → IsTermOf IsVariable (symbols_of b) t → IsTermOf IsVariable (symbols_of (b ++ more)) t
term_grown b more t over = record { over = takes_grows (symbols_of b) (symbols_of (b ++ more)) (all_symbols_grow b more) t zero over.over; variables = over.variables }

either_over : (symbols : List Symbol) (b : Bool) (t u : Term) (later : Option Term) → term_if b t later ≡ Some u → IsTermOf IsVariable symbols t → (later ≡ Some u → IsTermOf IsVariable symbols u) → IsTermOf IsVariable symbols u
either_over symbols true t u later is own rest = subst (IsTermOf IsVariable symbols) (some_same t u is) own
either_over symbols false t u later is own rest = rest is

-- what holds of a term over the functions of the history with its last event among the others
joined : (b : History) (e : Event) (h : History) (u : Term) → IsTermOf IsVariable (symbols_of ((b ++ e ∷ []) ++ h)) u → IsTermOf IsVariable (symbols_of (b ++ e ∷ h)) u
joined b e h u over = subst (λ k. IsTermOf IsVariable (symbols_of k) u) (append_assoc b (e ∷ []) h) over

terms_from : (b h : History) (x : Name) (u : Term) → ReadyFrom b h → event_term x h ≡ Some u → IsTermOf IsVariable (symbols_of (b ++ h)) u
terms_from b [] x u w is = absurd cc
terms_from b (AddShell s ∷ h) x u w is = joined b (AddShell s) h u (terms_from (b ++ AddShell s ∷ []) h x u w.1 is)
terms_from b (Declaration f n ∷ h) x u w is = joined b (Declaration f n) h u (terms_from (b ++ Declaration f n ∷ []) h x u w.1 is)
terms_from b (Defines d ∷ h) x u w is = joined b (Defines d) h u (terms_from (b ++ Defines d ∷ []) h x u w.1 is)
terms_from b (Toggle n old disabled ∷ h) x u w is = joined b (Toggle n old disabled) h u (terms_from (b ++ Toggle n old disabled ∷ []) h x u w.1 is)
terms_from b (Axiom n classes t ∷ h) x u w is =
    either_over (symbols_of (b ++ Axiom n classes t ∷ h)) (bytes_eq x n) t u (event_term x h) is (term_grown b (Axiom n classes t ∷ h) t w.0.spelled)
    (λ later. joined b (Axiom n classes t) h u (terms_from (b ++ Axiom n classes t ∷ []) h x u w.1 later))
terms_from b (Lemma n classes t ∷ h) x u w is =
    either_over (symbols_of (b ++ Lemma n classes t ∷ h)) (bytes_eq x n) t u (event_term x h) is (term_grown b (Lemma n classes t ∷ h) t w.0.spelled)
    (λ later. joined b (Lemma n classes t) h u (terms_from (b ++ Lemma n classes t ∷ []) h x u w.1 later))

pub terms_law : ReadyTerms
terms_law h name t ready is = terms_from [] h name t ready is

-- ---- definitions

-- what a definition is besides that its body is over the history's functions
pub record IsPlain (d : Definition) : Type 0 where
  pub distinct : are_distinct d.formals ≡ true
  pub spelled : Each IsVariable d.formals
  pub closed : HasVariables d.formals d.body
  pub shallow : depth_of d.body ≤ body_depth

plain_from : (b h : History) → ReadyFrom b h → Each IsPlain (events_definitions h)
plain_from b [] w = tt
plain_from b (AddShell s ∷ h) w = plain_from (b ++ AddShell s ∷ []) h w.1
plain_from b (Declaration f n ∷ h) w = plain_from (b ++ Declaration f n ∷ []) h w.1
plain_from b (Defines d ∷ h) w = (
  record { distinct = (names_distinct_law d.formals).1 w.0.holds.distinct; spelled = w.0.spelled.0; closed = w.0.holds.closed; shallow = w.0.spelled.1 },
  plain_from (b ++ Defines d ∷ []) h w.1,
)
plain_from b (Axiom n classes t ∷ h) w = plain_from (b ++ Axiom n classes t ∷ []) h w.1
plain_from b (Lemma n classes t ∷ h) w = plain_from (b ++ Lemma n classes t ∷ []) h w.1
plain_from b (Toggle n old disabled ∷ h) w = plain_from (b ++ Toggle n old disabled ∷ []) h w.1

-- the same of the ground history, by a test
abbrev pub is_variable : Name → Bool
is_variable x = is_symbol x && not (has_name x constant_names)

abbrev is_plain : Definition → Bool
is_plain d = are_distinct d.formals && (list_all is_variable d.formals && (has_variables d.formals d.body && nat_le (depth_of d.body) body_depth))

ground_plain : list_all is_plain ground_definitions ≡ true
unfolding numeral number_of tree_depth
ground_plain = refl

pub variable_told : (x : Name) → is_variable x ≡ true → IsVariable x
variable_told x e =
    record { symbol = and_left (is_symbol x) (not (has_name x constant_names)) e; other = not_true (has_name x constant_names) (and_right (is_symbol x) (not (has_name x constant_names)) e) }
  where
    not_true : (b : Bool) → not b ≡ true → b ≡ false
    not_true true e = absurd cc
    not_true false e = refl

variables_told : (xs : List Name) → list_all is_variable xs ≡ true → Each IsVariable xs
variables_told [] e = tt
variables_told (x ∷ xs) e = (variable_told x (and_left (is_variable x) (list_all is_variable xs) e), variables_told xs (and_right (is_variable x) (list_all is_variable xs) e))

plain_told : (d : Definition) → is_plain d ≡ true → IsPlain d
plain_told d e =
    let rest = and_right (are_distinct d.formals) (list_all is_variable d.formals && (has_variables d.formals d.body && nat_le (depth_of d.body) body_depth)) e in
    let last = and_right (list_all is_variable d.formals) (has_variables d.formals d.body && nat_le (depth_of d.body) body_depth) rest in
    record {
      distinct = and_left (are_distinct d.formals) (list_all is_variable d.formals && (has_variables d.formals d.body && nat_le (depth_of d.body) body_depth)) e;
      spelled = variables_told d.formals (and_left (list_all is_variable d.formals) (has_variables d.formals d.body && nat_le (depth_of d.body) body_depth) rest);
      closed = (variables_told_law d.formals d.body).0 (and_left (has_variables d.formals d.body) (nat_le (depth_of d.body) body_depth) last);
      shallow = leb-true (depth_of d.body) body_depth (and_right (has_variables d.formals d.body) (nat_le (depth_of d.body) body_depth) last);
    }

plains_told : (ds : List Definition) → list_all is_plain ds ≡ true → Each IsPlain ds
plains_told [] e = tt
plains_told (d ∷ ds) e = (plain_told d (and_left (is_plain d) (list_all is_plain ds) e), plains_told ds (and_right (is_plain d) (list_all is_plain ds) e))

pub each_plain : (h : History) → IsReady h → Each IsPlain (ground_definitions ++ events_definitions h)
each_plain h ready = each_append IsPlain ground_definitions (events_definitions h) (plains_told ground_definitions ground_plain) (plain_from [] h ready)

found_event : (f : Name) (es : List Event) (e : Event) → event_in f es ≡ Some e → IsAmong e es
found_event f [] e is = absurd cc
found_event f (x ∷ es) e is = by_name (bytes_eq f (event_name x)) is (found_event f es e)
  where
    by_name : (same : Bool) → (if same then Some x else event_in f es) ≡ Some e → (event_in f es ≡ Some e → IsAmong e es) → IsAmong e (x ∷ es)
    by_name true is rest = inl (sym (some_same x e is))
    by_name false is rest = inr (rest is)

own_definition : (es : List Event) (d : Definition) → IsAmong (Defines d) es → IsAmong d (events_definitions es)
own_definition [] d m = absurd m
own_definition (e ∷ es) d (inl same) = among_left d (event_definitions e) (events_definitions es) (subst (λ (e : Event). IsAmong d (event_definitions e)) same (inl refl))
own_definition (e ∷ es) d (inr m) = among_right d (event_definitions e) (events_definitions es) (own_definition es d m)

-- a definition that is looked up is one of the ground history or of h
pub looked_up_defines : (h : History) (f : Name) (d : Definition) → looked_up f h ≡ Some (Defines d) → IsAmong d (ground_definitions ++ events_definitions h)
looked_up_defines h f d is =
    subst (IsAmong d) (definitions_join ground_history h) (own_definition (all_events h) d (found_event f (all_events h) (Defines d) is))

pub variables_are : (P : Name → Type 0) (xs : List Name) (t : Term) → Each P xs → HasVariables xs t → VariablesAre P t
variables_are P xs (Variable x) each among = each_at P x xs each among
variables_are P xs (Function f) each among = tt
variables_are P xs (Applied t u) each among = (variables_are P xs t each among.0, variables_are P xs u each among.1)

pub definitions_law : ReadyDefinitions
definitions_law h ready =
    record {
      each = λ f d is.
          let m = looked_up_defines h f d is in
          let plain = each_at IsPlain d (ground_definitions ++ events_definitions h) (each_plain h ready) m in
          let over = each_at (λ d. Each (IsTerm (symbols_of h)) (opening d)) d (ground_definitions ++ events_definitions h) (definitions_over h (closed_law h ready)) m in
          record {
            distinct = plain.distinct;
            spelled = plain.spelled;
            over = record { over = over.0.1; variables = variables_are IsVariable d.formals d.body plain.spelled plain.closed };
            shallow = plain.shallow;
          };
    }

-- ---- banks that grow

pub grown_law : ReadyGrown
grown_law old new history stands grows ready = subst IsReady (sym (events_at-grown old new grows history stands.entries)) ready
