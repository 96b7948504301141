-- What is derivable stays derivable when events are added.
use Rattle.std.proofs.Common.{◌≡◌, [], ◌∷◌, ◌++◌, refl, sym, ap, ◌∙◌, append_assoc}
use Rattle.nq_logic.specs.Terms.{IsAmong, Symbol}
use Rattle.nq_logic.specs.Formulas.{Formula}
use Rattle.nq_logic.specs.Histories.{History, event_symbols, events_symbols, event_shells, events_shells, event_definitions, events_definitions, Definition}
use Rattle.nq_logic.specs.Ground.{symbols_of, ground_symbols, ground_definitions, ground_shells}
use Rattle.nq_logic.specs.Derivations.{IsAxiom, truth_is_not_falsity, equal_of_same, equal_of_different, if_false, if_true, size_is_number, one_less_is_less, definition, shell, added}
use Rattle.nq_logic.specs.Trees.{Growth}
use Rattle.nq_logic.proofs.Lists.{among_left, among_behind}
use Rattle.nq_logic.proofs.Carrying.{derivable_carried}
pub use Rattle.nq_logic.proofs.Carrying.{takes_grows}

symbols_grow : (h more : History) (x : Symbol) → IsAmong x (events_symbols h) → IsAmong x (events_symbols (h ++ more))
symbols_grow [] more x m = absurd m
symbols_grow (e ∷ h) more x m = among_behind x (event_symbols e) (events_symbols h) (events_symbols (h ++ more)) (symbols_grow h more x) m

definitions_grow : (h more : History) (x : Definition) → IsAmong x (events_definitions h) → IsAmong x (events_definitions (h ++ more))
definitions_grow [] more x m = absurd m
definitions_grow (e ∷ h) more x m = among_behind x (event_definitions e) (events_definitions h) (events_definitions (h ++ more)) (definitions_grow h more x) m

pub shells_grow : (h more : History) → events_shells (h ++ more) ≡ events_shells h ++ events_shells more
shells_grow [] more = refl
shells_grow (e ∷ h) more = ap (λ rest. event_shells e ++ rest) (shells_grow h more) ∙ sym (append_assoc (event_shells e) (events_shells h) (events_shells more))

pub all_symbols_grow : (h more : History) (x : Symbol) → IsAmong x (symbols_of h) → IsAmong x (symbols_of (h ++ more))
unfolding symbols_of
all_symbols_grow h more x m = among_behind x ground_symbols (events_symbols h) (events_symbols (h ++ more)) (symbols_grow h more x) m

all_definitions_grow : (h more : History) (x : Definition) → IsAmong x (ground_definitions ++ events_definitions h) → IsAmong x (ground_definitions ++ events_definitions (h ++ more))
all_definitions_grow h more x m = among_behind x ground_definitions (events_definitions h) (events_definitions (h ++ more)) (definitions_grow h more x) m

axiom_grows : (h more : History) {f : Formula} → IsAxiom h f → IsAxiom (h ++ more) f
axiom_grows h more truth_is_not_falsity = truth_is_not_falsity
axiom_grows h more equal_of_same = equal_of_same
axiom_grows h more equal_of_different = equal_of_different
axiom_grows h more if_false = if_false
axiom_grows h more if_true = if_true
axiom_grows h more size_is_number = size_is_number
axiom_grows h more one_less_is_less = one_less_is_less
axiom_grows h more (definition d m) = definition d (all_definitions_grow h more d m)
axiom_grows h more (shell earlier later s row part literals e c) =
    shell earlier (later ++ events_shells more) s row part literals
    (ap (λ rest. ground_shells ++ rest) (shells_grow h more) ∙ (sym (append_assoc ground_shells (events_shells h) (events_shells more))
    ∙ (ap (λ all. all ++ events_shells more) e ∙ append_assoc earlier (s ∷ later) (events_shells more)))) c
axiom_grows h more (added n classes t m) = added n classes t (among_left _ h more m)

pub growth_law : Growth
growth_law h more = derivable_carried h (h ++ more) (all_symbols_grow h more) (λ f x. axiom_grows h more x)
