-- The conditions under which a hint is refused.
use Rattle.std.specs.Prelude.{Bool, true, false, ◌&&◌, not, bytes_eq, is_some, if◌then◌else◌, List, [], ◌∷◌, map, Option, None, Some}
use Rattle.std.specs.List.{list_all, list_any}
use Rattle.std.specs.Option.{option_and_then}
use Rattle.nq_logic.specs.Terms.{Name, Term, Variable, call, substituted}
use Rattle.nq_logic.specs.Words.{equal_term}
use Rattle.nq_logic.specs.Histories.{History, Event, Definition}
use Rattle.nq_logic.specs.Histories as logic
use Rattle.nq_logic.specs.Names.{has_name, are_distinct, constant_names, looked_up}
use Rattle.nq_language.specs.Limits.{is_too_large}
use Rattle.nq_language.specs.Refusals as language
use Rattle.nq_events.specs.Refusals.{Refusal, OfLanguage, BadHint}
use Rattle.nq_events.specs.WrittenHints.{WrittenInstance, WrittenHint, HintKind, Use, Enable, Disable, Expand, Induct, DoNotInduct, DoNotGeneralize, HandsOff, NoArithmetic, Time}
use Rattle.nq_events.specs.TermRefusals.{arity_of}
use Rattle.nq_events.specs.Events.{Instance}
use Rattle.nq_events.specs.HintTerms.{term_in}
use Rattle.nq_events.specs.Inductions.{opened_by, suggests_induction}

-- (EQUAL call body)
abbrev pub defining_equation : Definition → Term
defining_equation d = equal_term (call d.function (map Variable d.formals)) d.body

-- the term of an axiom, a lemma or a definition
abbrev pub cited_term : Event → Option Term
cited_term (logic.AddShell s) = None
cited_term (logic.Declaration f n) = None
cited_term (logic.Defines d) = Some (defining_equation d)
cited_term (logic.Axiom n classes t) = Some t
cited_term (logic.Lemma n classes t) = Some t
cited_term (logic.Toggle n old disabled) = None

-- the term of the axiom, lemma or definition of this name
abbrev pub term_named : History → Name → Option Term
term_named h name = option_and_then cited_term (looked_up name h)

abbrev pub is_event : History → Name → Bool
is_event h name = is_some (looked_up name h)

abbrev pub is_function : History → Name → Bool
is_function h name = is_some (arity_of h name)

-- the replaced symbols are variables, none of which stands twice
abbrev pub are_replaceable : List Name → Bool
are_replaceable xs = not (list_any (λ x. has_name x constant_names) xs) && are_distinct xs

-- USE names an axiom, a lemma or a definition
abbrev pub is_usable : History → WrittenInstance → Bool
is_usable h i = is_some (term_named h i.name) && are_replaceable (map (λ p. p.variable) i.pairs)

abbrev pub is_good_kind : History → HintKind → Bool
is_good_kind h (Use instances) = list_all (is_usable h) instances
is_good_kind h (Enable names) = list_all (is_event h) names
is_good_kind h (Disable names) = list_all (is_event h) names
-- each EXPAND term is a call of a defined function
is_good_kind h (Expand forms) = list_all (λ form. is_some (opened_by h (term_in h form))) forms
is_good_kind h (Induct form) = suggests_induction h (term_in h form)
is_good_kind h DoNotInduct = true
is_good_kind h DoNotGeneralize = true
is_good_kind h (HandsOff functions) = list_all (is_function h) functions
is_good_kind h NoArithmetic = true
is_good_kind h Time = true

-- a hint without a kind has an unknown word or another shape
abbrev pub is_good_hint : History → Option HintKind → Bool
is_good_hint h None = false
is_good_hint h (Some kind) = is_good_kind h kind

abbrev pub stands_twice : Name → List Name → Bool
stands_twice x [] = false
stands_twice x (y ∷ ys) = if bytes_eq x y then has_name x ys else stands_twice x ys

abbrev pub first_bad : History → List Name → List WrittenHint → Option Refusal
first_bad h words [] = None
first_bad h words (hint ∷ hints) = if is_good_hint h hint.kind && not (stands_twice hint.word words) then first_bad h words hints else Some (BadHint hint.word)

-- 22: the first hint, from left to right, of which a condition holds; of a word that stands twice both hints are bad
abbrev pub hints_refusal : History → List WrittenHint → Option Refusal
hints_refusal h hints = first_bad h (map (λ hint. hint.word) hints) hints

-- the term of an instance, where its name is that of an axiom, a lemma or a definition
abbrev pub instance_term : History → Instance → Option Term
instance_term h i = option_and_then (λ t. Some (substituted i.pairs t)) (term_named h i.name)

abbrev pub is_large_instance : Option Term → Bool
is_large_instance None = false
is_large_instance (Some t) = is_too_large t

-- 15: an instance that passes the limits of a term
abbrev pub instances_refusal : History → List Instance → Option Refusal
instances_refusal h [] = None
instances_refusal h (i ∷ instances) = if is_large_instance (instance_term h i) then Some (OfLanguage language.TooLarge) else instances_refusal h instances
