-- The parts of a choice are over the history's functions.
use Rattle.std.proofs.Common.{◌≡◌, ℕ, suc, ◌==◌, true, Option, Some, None, List, [], ◌∷◌, ◌⊎◌, sym, ap, ◌∙◌, subst, inl, inr}
use Rattle.std.specs.Prelude.{MatchOption, nat_eq}
use Rattle.std.specs.HashMap.{get, IsEmpty}
use Rattle.std.specs.Map.{lookup}
use Rattle.nq_logic.specs.Terms.{Name, Term, Variable, Function, Applied}
use Rattle.nq_logic.specs.Words.{if_term}
use Rattle.nq_logic.specs.Numerals.{is_numeral}
use Rattle.nq_logic.specs.Ground.{symbols_of}
use Rattle.nq_logic.specs.Histories.{History}
use Rattle.nq_logic.proofs.Replacements.{replaced_over}
use Rattle.nq_bank.specs.declared.node.TermId.{TermId}
use Rattle.nq_bank.specs.Content.{Content, term_at}
use Rattle.nq_proof.specs.Paths.{argument_count, around, in_argument, replaced_at}
use Rattle.nq_proof.proofs.Tests.{chosen_some, none_is_not_some, some_same}
use Rattle.nq_proof.proofs.Places.{replaced_is}
use Rattle.nq_history.specs.declared.entry.Entry.{Entry}
use Rattle.nq_history.specs.Events.{events_at}
use Rattle.nq_kernel.specs.declared.work.Work.{Work}
use Rattle.nq_kernel.specs.Over.{IsVariable, VariablesAre}
use Rattle.nq_lines.specs.Lines.{IsTermIn}
use Rattle.nq_lines.proofs.TermLemmas.{id_in}
use Rattle.nq_cases.specs.Counts.{KnownCounts, HasCounts}
use Rattle.nq_cases.specs.Paths.{IsIfFree}
use Rattle.nq_cases.specs.declared.choosing.Choice.{Choice}
use Rattle.nq_cases.specs.Choices.{ChoiceOf}
use Rattle.nq_simplify.specs.Splitting.{IsChoiceIn}

around_told : (wrap : Term → Term) (o : Option (Term × Term)) (u b : Term) → around wrap o ≡ Some (u, b) → (v : Term) × (o ≡ Some (u, v)) × (wrap v ≡ b)
around_told wrap None u b e = absurd (none_is_not_some (u, b) e)
around_told wrap (Some change) u b e =
    let both = some_same (change.0, wrap change.1) (u, b) e in
    (change.1, ap (λ w. Some (w, change.1)) (ap (λ pair. pair.0) both), ap (λ pair. pair.1) both)

module _ (P : Name → Type 0) (t : Term) where
  -- the variables of what stands at a place are those of the term, and with t there no others come in than t's
  abbrev KeepsVariables : Term → Term → Term → Type 0
  KeepsVariables a u b = (VariablesAre P a → VariablesAre P u) × (VariablesAre P a → VariablesAre P t → VariablesAre P b)

  argument_variables : (place : ℕ) (change : Term → Option (Term × Term)) → ((a u b : Term) → change a ≡ Some (u, b) → KeepsVariables a u b) → (a u b : Term) → in_argument place change a ≡ Some (u, b) → KeepsVariables a u b
  argument_variables place change f (Variable x) u b e = absurd (none_is_not_some (u, b) e)
  argument_variables place change f (Function g) u b e = absurd (none_is_not_some (u, b) e)
  argument_variables place change f (Applied g v) u b e =
      by_place (λ u b e. argument_variables place change f g u b e)
      (chosen_some (suc (argument_count g) == place) (around (λ w. Applied g w) (change v)) (around (λ w. Applied w v) (in_argument place change g)) (u, b) e)
    where
      by_place : ((u b : Term) → in_argument place change g ≡ Some (u, b) → KeepsVariables g u b) → ((suc (argument_count g) == place ≡ true) × (around (λ w. Applied g w) (change v) ≡ Some (u, b))) ⊎ (around (λ w. Applied w v) (in_argument place change g) ≡ Some (u, b)) →
          KeepsVariables (Applied g v) u b
      by_place again (inl p) =
          let inner = around_told (λ w. Applied g w) (change v) u b p.1 in
          let rest = f v u inner.0 inner.1 in
          subst (λ b. KeepsVariables (Applied g v) u b) inner.2 (λ o. rest.0 o.1, λ o s. (o.0, rest.1 o.1 s))
      by_place again (inr p) =
          let inner = around_told (λ w. Applied w v) (in_argument place change g) u b p in
          let rest = again u inner.0 inner.1 in
          subst (λ b. KeepsVariables (Applied g v) u b) inner.2 (λ o. rest.0 o.0, λ o s. (rest.1 o.0 s, o.1))

  pub path_variables : (path : List ℕ) (a u b : Term) → replaced_at path t a ≡ Some (u, b) → KeepsVariables a u b
  path_variables [] a u b e =
      let both = some_same (a, t) (u, b) e in
      let first : a ≡ u = ap (λ pair. pair.0) both in
      let second : t ≡ b = ap (λ pair. pair.1) both in
      (λ o. subst (VariablesAre P) first o, λ o s. subst (VariablesAre P) second s)
  path_variables (place ∷ path) a u b e = by_test (λ a u b e. path_variables path a u b e) (chosen_some (is_numeral a) None (in_argument place (replaced_at path t) a) (u, b) e)
    where
      by_test : ((a u b : Term) → replaced_at path t a ≡ Some (u, b) → KeepsVariables a u b) → ((is_numeral a ≡ true) × ◌≡◌ {A = Option (Term × Term)} None (Some (u, b))) ⊎ (in_argument place (replaced_at path t) a ≡ Some (u, b)) → KeepsVariables a u b
      by_test again (inl p) = absurd (none_is_not_some (u, b) p.1)
      by_test again (inr p) = argument_variables place (replaced_at path t) again a u b p

-- a choice of a term over the history's functions
pub choice_in_is : (history : List Entry) (work : Work) (t : TermId) (c : Choice) → IsTermIn history work t → ChoiceOf work.bank (term_at work.bank t) c → IsChoiceIn history work t c
choice_in_is history work t c h k =
    let es : History = events_at work.bank history in
    let p : Term = term_at work.bank c.test in
    let x : Term = term_at work.bank c.first_branch in
    let y : Term = term_at work.bank c.second_branch in
    let a : Term = term_at work.bank t in
    let whole : Term = if_term p x y in
    let ot = h.over in
    let one = replaced_is (symbols_of es) x c.path.items a whole (term_at work.bank c.first) k.choice.at_first in
    let two = replaced_is (symbols_of es) y c.path.items a whole (term_at work.bank c.second) k.choice.at_second in
    let vars_one = path_variables IsVariable x c.path.items a whole (term_at work.bank c.first) k.choice.at_first in
    let vars_two = path_variables IsVariable y c.path.items a whole (term_at work.bank c.second) k.choice.at_second in
    let ow = one.1 ot.over in
    let vw = vars_one.0 ot.variables in
    let op = ow.0.0.1 in
    let ox = ow.0.1 in
    let oy = ow.1 in
    let vp = vw.0.0.1 in
    let vx = vw.0.1 in
    let vy = vw.1 in
    record {
      whole = id_in history work c.whole whole (record { stands = k.whole; denotes = k.denotes }) (record { over = ow; variables = vw });
      test = record { stands = k.test; over = record { over = op; variables = vp } };
      first_branch = record { stands = k.first_branch; over = record { over = ox; variables = vx } };
      second_branch = record { stands = k.second_branch; over = record { over = oy; variables = vy } };
      first = record { stands = k.first; over = record { over = replaced_over es whole x ow ox one.0 ot.over; variables = vars_one.1 ot.variables vx } };
      second = record { stands = k.second; over = record { over = replaced_over es whole y ow oy two.0 ot.over; variables = vars_two.1 ot.variables vy } };
      is = k.denotes;
      at_first = k.choice.at_first ∙ ap (λ w. Some (w, term_at work.bank c.first)) (sym k.denotes);
      at_second = k.choice.at_second ∙ ap (λ w. Some (w, term_at work.bank c.second)) (sym k.denotes);
    }

-- what is chosen in a bank is chosen in the work that holds it
pub chosen_in : (history : List Entry) (old new : Work) (o : Option Choice) (t : TermId) → IsTermIn history new t → term_at new.bank t ≡ term_at old.bank t → MatchOption o (IsIfFree (term_at old.bank t)) (λ c. ChoiceOf new.bank (term_at old.bank t) c) →
    MatchOption o (IsIfFree (term_at old.bank t)) (λ c. IsChoiceIn history new t c)
chosen_in history old new (Some c) t h same k = choice_in_is history new t c h (subst (λ u. ChoiceOf new.bank u c) (sym same) k)
chosen_in history old new None t h same k = k

-- where nothing is known yet
pub no_counts : (bank : Content) (known : KnownCounts) → IsEmpty known → HasCounts bank 2 known
no_counts bank known empty =
    record {
      right = λ t count found. absurd (none_is_not_some count (sym (none t.0) ∙ found));
      stand = λ t count found. absurd (none_is_not_some count (sym (none t.0) ∙ found));
    }
  where
    none : (k : ℕ) → get nat_eq known k ≡ None
    none k = ap (λ (es : List (ℕ × ℕ)). lookup (nat_eq k) es) empty
