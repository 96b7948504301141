-- Histories whose rules have the shape of their class, as far as clauses of variables ask for it.
use Rattle.std.specs.Prelude.{◌≡◌, Bool, true, false, ◌||◌, not, List, codes}
use Rattle.std.specs.List.{list_any, list_all}
use Rattle.nq_logic.specs.Terms.{Term, Variable, Function, Applied}
use Rattle.nq_logic.specs.Histories.{History, Event, AddShell, Declaration, Defines, Axiom, Lemma, Toggle, RuleClass}
use Rattle.nq_logic.specs.RuleShapes.{are_rewritable, and_parts, rule_parts, is_function_named}
use Rattle.nq_events.specs.Events.{Hints}
use Rattle.nq_goals.specs.Normal.{is_rewrite}
use Rattle.nq_goals.specs.Eliminating.{elim_rules, destructors}

-- whether a term of these classes has the shape of a REWRITE rule, where it is one
abbrev pub is_shaped_rule : List RuleClass → Term → Bool
is_shaped_rule classes t = not (list_any is_rewrite classes) || are_rewritable (and_parts (rule_parts t).conclusion)

abbrev pub is_shaped : Event → Bool
is_shaped (AddShell s) = true
is_shaped (Declaration f n) = true
is_shaped (Defines d) = true
is_shaped (Axiom n classes t) = is_shaped_rule classes t
is_shaped (Lemma n classes t) = is_shaped_rule classes t
is_shaped (Toggle n old disabled) = true

-- whether the term is a call of NOT with one argument
abbrev pub is_denial : Term → Bool
is_denial (Variable x) = false
is_denial (Function f) = false
is_denial (Applied f t) = is_function_named (codes "NOT") f

-- Each REWRITE axiom or lemma has its shape, and no elimination rule has NOT for a destructor.
pub record IsShaped (h : History) (hints : Hints) : Type 0 where
  pub rewriting : list_all is_shaped h ≡ true
  pub eliminating : list_all (λ rule. not (list_any is_denial (destructors rule))) (elim_rules h hints) ≡ true
