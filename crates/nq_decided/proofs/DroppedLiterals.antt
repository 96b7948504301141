-- The first literal of a clause of variables and NOTs of variables can be dropped.
use Rattle.std.proofs.Common.{◌≡◌, ◌∙◌, ℕ, zero, suc, Bool, true, false, ◌||◌, ◌&&◌, List, [], ◌∷◌, ◌++◌, length, refl, sym, ap, ap₂, inl}
use Rattle.std.specs.Prelude.{not, bytes_eq, if◌then◌else◌}
use Rattle.nq_logic.specs.Terms.{Name, Term, IsAmong}
use Rattle.nq_logic.specs.Histories.{History}
use Rattle.nq_logic.specs.Names.{has_name}
use Rattle.nq_bank.specs.Parts.{occurs}
use Rattle.nq_proof.specs.Clauses.{Clause, same_term, without}
use Rattle.nq_goals.specs.Occurrences.{atom_of}
use Rattle.nq_goals.specs.Recursion.{holds_recursive}
use Rattle.nq_goals.specs.Dropping.{can_drop, droppings_from, group_from, group_of, is_empty, is_lone_call, others, shares, tied, untied}
use Rattle.nq_goals.proofs.Matches.{same_of_itself}
use Rattle.nq_decided.specs.Literals.{Signed, literal, literals}
use Rattle.nq_decided.specs.Laws.{LiteralsAreDropped}
use Rattle.nq_decided.proofs.NormalClauses.{ahead, names, other_way}

abbrev signed : Name → Bool → Signed
signed x b = record { name = x; denied = b }

-- literals of different variables
apart_share : (x : Name) (b : Bool) (y : Name) (d : Bool) → bytes_eq x y ≡ false → shares (literal (signed x b)) (literal (signed y d)) ≡ false
unfolding shares occurs
apart_share x true y true e = e
apart_share x true y false e = e
apart_share x false y true e = e
apart_share x false y false e = e

apart_same : (x : Name) (b : Bool) (y : Name) (d : Bool) → bytes_eq x y ≡ false → same_term (literal (signed x b)) (literal (signed y d)) ≡ false
apart_same x true y true e = e
apart_same x true y false e = refl
apart_same x false y true e = refl
apart_same x false y false e = e

or_first : (a b : Bool) → (a || b) ≡ false → a ≡ false
or_first true b e = absurd cc
or_first false b e = refl

or_second : (a b : Bool) → (a || b) ≡ false → b ≡ false
or_second true b e = absurd cc
or_second false b e = e

or_false : (a : Bool) → a ≡ false → (a || false) ≡ false
or_false a e = ap (λ (b : Bool). b || false) e

module _ (s : Signed) where
  abbrev t : Term
  t = literal s

  none_tied : (ss : List Signed) → has_name s.name (names ss) ≡ false → tied (t ∷ []) (literals ss) ≡ []
  none_tied [] e = refl
  none_tied (u ∷ ss) e =
      let here : shares t (literal u) ≡ false = apart_share s.name s.denied u.name u.denied (or_first (bytes_eq s.name u.name) (has_name s.name (names ss)) e) in
      ap (λ (b : Bool). if b then literal u ∷ tied (t ∷ []) (literals ss) else tied (t ∷ []) (literals ss)) (or_false (shares t (literal u)) here)
      ∙ none_tied ss (or_second (bytes_eq s.name u.name) (has_name s.name (names ss)) e)

  all_untied : (ss : List Signed) → has_name s.name (names ss) ≡ false → untied (t ∷ []) (literals ss) ≡ literals ss
  all_untied [] e = refl
  all_untied (u ∷ ss) e =
      let here : shares t (literal u) ≡ false = apart_share s.name s.denied u.name u.denied (or_first (bytes_eq s.name u.name) (has_name s.name (names ss)) e) in
      ap (λ (b : Bool). if b then untied (t ∷ []) (literals ss) else literal u ∷ untied (t ∷ []) (literals ss)) (or_false (shares t (literal u)) here)
      ∙ ap (λ (c : Clause). literal u ∷ c) (all_untied ss (or_second (bytes_eq s.name u.name) (has_name s.name (names ss)) e))

  alone : (n : ℕ) (ss : List Signed) → has_name s.name (names ss) ≡ false → group_from n (t ∷ []) (literals ss) ≡ t ∷ []
  alone zero ss e = refl
  alone (suc n) ss e = ap₂ (λ (a b : Clause). group_from n ((t ∷ []) ++ a) b) (none_tied ss e) (all_untied ss e) ∙ alone n ss e

  pub none_without : (ss : List Signed) → has_name s.name (names ss) ≡ false → without t (literals ss) ≡ literals ss
  none_without [] e = refl
  none_without (u ∷ ss) e =
      ap (λ (b : Bool). if b then without t (literals ss) else literal u ∷ without t (literals ss)) (apart_same s.name s.denied u.name u.denied (or_first (bytes_eq s.name u.name) (has_name s.name (names ss)) e))
      ∙ ap (λ (c : Clause). literal u ∷ c) (none_without ss (or_second (bytes_eq s.name u.name) (has_name s.name (names ss)) e))

  first_without : (ss : List Signed) → has_name s.name (names ss) ≡ false → without t (literals (s ∷ ss)) ≡ literals ss
  first_without ss e = ap (λ (b : Bool). if b then without t (literals ss) else t ∷ without t (literals ss)) (same_of_itself t) ∙ none_without ss e

  group : (ss : List Signed) → has_name s.name (names ss) ≡ false → group_of (literals (s ∷ ss)) t ≡ t ∷ []
  group ss e = ap (λ (c : Clause). group_from (length (literals (s ∷ ss))) (t ∷ []) c) (first_without ss e) ∙ alone (length (literals (s ∷ ss))) ss e

  none_of_them : (ss : List Signed) → has_name s.name (names ss) ≡ false → others (t ∷ []) (literals ss) ≡ literals ss
  none_of_them [] e = refl
  none_of_them (u ∷ ss) e =
      let here : same_term (literal u) t ≡ false = apart_same u.name u.denied s.name s.denied (other_way s.name u.name (or_first (bytes_eq s.name u.name) (has_name s.name (names ss)) e)) in
      ap (λ (b : Bool). if b then others (t ∷ []) (literals ss) else literal u ∷ others (t ∷ []) (literals ss)) (or_false (same_term (literal u) t) here)
      ∙ ap (λ (c : Clause). literal u ∷ c) (none_of_them ss (or_second (bytes_eq s.name u.name) (has_name s.name (names ss)) e))

  left : (ss : List Signed) → has_name s.name (names ss) ≡ false → others (t ∷ []) (literals (s ∷ ss)) ≡ literals ss
  left ss e = ap (λ (b : Bool). if b || false then others (t ∷ []) (literals ss) else t ∷ others (t ∷ []) (literals ss)) (same_of_itself t) ∙ none_of_them ss e

no_recursion : (h : History) (x : Name) (b : Bool) → holds_recursive h (atom_of (literal (signed x b))) ≡ false
unfolding holds_recursive
no_recursion h x true = refl
no_recursion h x false = refl

droppable : (h : History) (s u : Signed) (ss : List Signed) → has_name s.name (names (u ∷ ss)) ≡ false → can_drop h (literals (s ∷ u ∷ ss)) (literal s ∷ []) ≡ true
droppable h s u ss e =
    ap₂ (λ (a : Bool) (c : Clause). (not (a || false) || is_lone_call h (literal s ∷ [])) && not (is_empty c)) (no_recursion h s.name s.denied) (left s (u ∷ ss) e)

-- what is taken first is among what is taken
taken : {X : Type 0} (b : Bool) (x y : X) (xs : List X) → b ≡ true → y ≡ x → IsAmong x (elim b as (λ b. List X) [ true ↦ y ∷ xs | false ↦ xs ])
taken true x y xs e is = inl (sym is)
taken false x y xs e is = absurd cc

pub literals_are_dropped : LiteralsAreDropped
literals_are_dropped h hints above s u ss apart =
    let free : has_name s.name (names (u ∷ ss)) ≡ false = ahead [] s (u ∷ ss) apart in
    let goal : Clause = literals (s ∷ u ∷ ss) in
    let alone : group_of goal (literal s) ≡ literal s ∷ [] = group s (u ∷ ss) free in
    record {
      group = literal s ∷ [];
      candidate = taken (can_drop h goal (group_of goal (literal s))) (literal s ∷ []) (group_of goal (literal s)) (droppings_from h goal (literals (u ∷ ss))) (ap (can_drop h goal) alone ∙ droppable h s u ss free) alone;
      leads = ap (λ (c : Clause). c ∷ []) (sym (left s (u ∷ ss) free));
    }
