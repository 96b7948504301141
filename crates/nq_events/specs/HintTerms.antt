-- What hints say, with the terms of their forms.
use Rattle.std.specs.Prelude.{ℕ, Bool, true, false, ◌||◌, List, [], ◌∷◌, ◌++◌, map, Option, None, Some}
use Rattle.nq_logic.specs.Terms.{Name, Term}
use Rattle.nq_logic.specs.Histories.{History}
use Rattle.nq_form.specs.Form.{Form}
use Rattle.nq_language.specs.Translation.{translated}
use Rattle.nq_events.specs.Events.{Hints, Instance}
use Rattle.nq_events.specs.WrittenHints.{WrittenPair, WrittenInstance, WrittenHint, HintKind, Use, Enable, Disable, Expand, Induct, DoNotInduct, DoNotGeneralize, HandsOff, NoArithmetic}
use Rattle.nq_events.specs.TermRefusals.{arity_of}

-- the term of a form over the history's functions
abbrev pub term_in : History → Form → Term
term_in h form = translated (arity_of h) form

abbrev pub pair_given : History → WrittenPair → List ℕ × Term
pair_given h p = (p.variable, term_in h p.form)

abbrev pub instance_given : History → WrittenInstance → Instance
instance_given h i = record { name = i.name; pairs = map (pair_given h) i.pairs }

abbrev pub listed_by : {X : Type 0} → (HintKind → List X) → Option HintKind → List X
listed_by say None = []
listed_by say (Some kind) = say kind

-- what the hints say, in their order
abbrev pub given : {X : Type 0} → (HintKind → List X) → List WrittenHint → List X
given say [] = []
given say (hint ∷ hints) = listed_by say hint.kind ++ given say hints

abbrev pub used : HintKind → List WrittenInstance
used (Use instances) = instances
used _ = []

abbrev pub enabled : HintKind → List Name
enabled (Enable names) = names
enabled _ = []

abbrev pub disabled : HintKind → List Name
disabled (Disable names) = names
disabled _ = []

abbrev pub expanded : HintKind → List Form
expanded (Expand forms) = forms
expanded _ = []

abbrev pub inducted : HintKind → List Form
inducted (Induct form) = form ∷ []
inducted _ = []

abbrev pub left_alone : HintKind → List Name
left_alone (HandsOff functions) = functions
left_alone _ = []

abbrev pub forbids_induction : Option HintKind → Bool
forbids_induction (Some DoNotInduct) = true
forbids_induction _ = false

abbrev pub forbids_generalization : Option HintKind → Bool
forbids_generalization (Some DoNotGeneralize) = true
forbids_generalization _ = false

abbrev pub forbids_arithmetic : Option HintKind → Bool
forbids_arithmetic (Some NoArithmetic) = true
forbids_arithmetic _ = false

-- does one of the hints say so?
abbrev pub is_given : (Option HintKind → Bool) → List WrittenHint → Bool
is_given says [] = false
is_given says (hint ∷ hints) = says hint.kind || is_given says hints

abbrev pub first_term : List Term → Option Term
first_term [] = None
first_term (t ∷ ts) = Some t

abbrev pub instances_given : History → List WrittenHint → List Instance
instances_given h hints = map (instance_given h) (given used hints)

-- what the hints of a lemma say
abbrev pub hints_given : History → List WrittenHint → Hints
hints_given h hints = record {
  instances = instances_given h hints;
  enable = given enabled hints;
  disable = given disabled hints;
  expand = map (term_in h) (given expanded hints);
  induct = first_term (map (term_in h) (given inducted hints));
  hands_off = given left_alone hints;
  no_induct = is_given forbids_induction hints;
  no_generalize = is_given forbids_generalization hints;
  no_arith = is_given forbids_arithmetic hints;
}
