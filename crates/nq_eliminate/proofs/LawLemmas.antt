-- Each candidate of ELIM has one in the list.
use Rattle.std.proofs.Common.{◌≡◌, ◌≤◌, ℕ, suc, Bool, true, false, ◌&&◌, if◌then◌else◌, Option, Some, None, List, [], ◌∷◌, length, refl, sym, ap, ◌∙◌, subst, inl, inr, arith}
use Rattle.std.specs.Prelude.{bytes_eq, not}
use Rattle.nq_logic.specs.Terms.{Name, Term, Variable, IsAmong, Substitution, substituted, value_at}
use Rattle.nq_logic.specs.Histories.{History}
use Rattle.nq_logic.specs.Names.{has_name}
use Rattle.nq_logic.specs.RuleShapes.{variables_of}
use Rattle.nq_bank.proofs.Texts.{eq-bytes_eq}
use Rattle.nq_proof.specs.Clauses.{Clause}
use Rattle.nq_events.specs.Events.{Hints}
use Rattle.nq_goals.specs.Eliminating.{ElimRule, Eliminating, EliminateCandidate, arguments_paired, can_eliminate, destructors, destructors_of, elim_rules, elimination_of, eliminations_of, filled, from_calls, from_destructors, from_rules, is_renamed, name_in, named_by, names_for, no_copies, one_stands, other_variables, renaming, renaming_of}
use Rattle.nq_goals.specs.NewVariables.{clause_variables, new_variables}
use Rattle.nq_goals.specs.Replacing.{parts_in_all, stands_in_one}
use Rattle.nq_stuck.proofs.StandingLemmas.{one_among}
use Rattle.nq_moves.specs.Laws.{AreNewNames}
use Rattle.nq_moves.proofs.NewLemmas.{new_names}
use Rattle.nq_eliminate.specs.Laws.{ListedAreCandidates, NoneIsNone}
use Rattle.nq_eliminate.proofs.Names.{agree, among_either, among_first, among_has, among_second, goal_variables, has_among, renamed_value, same_name, value_among}
use Rattle.nq_eliminate.proofs.Flat.{HasPair, Renames, argument_variable, found_stands, found_value, has_pair, is_renamed_by, same_made}
use Rattle.nq_eliminate.proofs.Fresh.{FromCall, Pairs, Source, told, fresh, fresh_same, name_from, source, none_some, passed_on, value_here, value_later}
use Rattle.nq_eliminate.proofs.CandidateLemmas.{IsDestructor, IsOfRule, Standing, apart_from, apart_too, both_true, destructor_is, of_rule, stands_there, standing}

-- a candidate's name for the variable that is eliminated
module _ (h : History) (hints : Hints) (goal : Clause) (e : Eliminating) (candidate : EliminateCandidate h hints goal e) where
  abbrev rule : ElimRule
  rule = e.rule

  abbrev v : List ℕ
  v = e.rule.variable

  abbrev xs : List Name
  xs = other_variables e.rule

  abbrev s : Substitution
  s = renaming_of e

  renames : Renames s
  renames x = renamed_value (v ∷ xs) (e.variable ∷ e.others) x

  pub at : Standing (substituted s) (destructors rule) goal
  at = standing (substituted s) (destructors rule) goal candidate.stands

  abbrev d : Term
  d = at.element

  is : IsDestructor rule d
  is = destructor_is rule d at.among

  abbrev u : Term
  u = substituted s d

  abbrev ps : List (List ℕ × List ℕ)
  ps = arguments_paired d u

  stands_in_goal : IsAmong u (parts_in_all goal)
  stands_in_goal = one_among u goal at.stands

  abbrev new : List Name
  new = new_variables (clause_variables goal) (length xs)

  are_new : AreNewNames (clause_variables goal) (length xs)
  are_new = new_names (clause_variables goal) (length xs)

  enough : length xs ≤ length new
  enough = omega (arith, are_new.many)

  abbrev pub other : Eliminating
  other = filled goal rule ps e.variable

  abbrev r : Substitution
  r = renaming_of other

  apart_of : (x : Name) → IsAmong x xs → bytes_eq x v ≡ false
  apart_of x m = apart_from x v _ m

  itself : bytes_eq v v ≡ true
  itself = eq-bytes_eq v v refl

  first_named : name_in ps v ≡ Some e.variable
  first_named =
      let p : HasPair ps v = has_pair s renames [] d is.flat v (argument_variable [] d is.flat v is.argument) in
      let value : Variable p.name ≡ Variable e.variable = sym (found_value s renames [] d is.flat v p.name p.named) ∙ value_here v v e.variable (renaming xs e.others) itself in
      p.named ∙ ap Some (same_name p.name e.variable value)

  source_of : (x : Name) → IsOfRule rule x → Source ps new r x
  source_of x (inl same) = told e.variable (ap (name_in ps) same ∙ first_named) (ap (value_at r) same ∙ value_here v v e.variable (renaming xs (names_for ps xs new)) itself)
  source_of x (inr m) = passed_on ps new new (renaming xs (names_for ps xs new)) x v e.variable (apart_of x m) (λ z n. n) (source ps xs new x m enough)

  in_goal : (x y : Name) → name_in ps x ≡ Some y → has_name y (clause_variables goal) ≡ true
  in_goal x y named = among_has y (clause_variables goal) (goal_variables y goal u stands_in_goal (found_stands s renames [] d is.flat x y named))

  not_new : (y z : List ℕ) → has_name y (clause_variables goal) ≡ true → IsAmong z new → y ≡ z → ⊥
  not_new y z there m same =
      let unused : has_name z (clause_variables goal) ≡ false = are_new.unused z m in
      let used : has_name z (clause_variables goal) ≡ true = ap (λ n. has_name n (clause_variables goal)) (sym same) ∙ there in
      cc

  among_others : (x : Name) → IsOfRule rule x → name_in ps x ≡ None → IsAmong x xs
  among_others x (inl same) none = absurd (none_some (name_in ps x) e.variable none (ap (name_in ps) same ∙ first_named))
  among_others x (inr m) none = m

  later_value : (x : Name) (z : List ℕ) → IsAmong x xs → value_at r x ≡ Variable z → value_at (renaming xs (names_for ps xs new)) x ≡ Variable z
  later_value x z m value = sym (value_later x v e.variable (renaming xs (names_for ps xs new)) (apart_of x m)) ∙ value

  -- the listed one tells apart what the candidate does
  coarser : (x y : Name) → IsOfRule rule x → IsOfRule rule y → value_at r x ≡ value_at r y → value_at s x ≡ value_at s y
  coarser x y of_x of_y same = by_sources (source_of x of_x) (source_of y of_y)
    where
      by_sources : Source ps new r x → Source ps new r y → value_at s x ≡ value_at s y
      by_sources (told a i k) (told b j l) =
          found_value s renames [] d is.flat x a i ∙ (sym k ∙ (same ∙ (l ∙ sym (found_value s renames [] d is.flat y b j))))
      by_sources (told a i k) (fresh z j m l) = absurd (not_new a z (in_goal x a i) m (same_name a z (sym k ∙ (same ∙ l))))
      by_sources (fresh z i m k) (told b j l) = absurd (not_new b z (in_goal y b j) m (same_name b z (sym l ∙ (sym same ∙ k))))
      by_sources (fresh z i m k) (fresh w j n l) =
          let mx = among_others x of_x i in
          let my = among_others y of_y j in
          let one : x ≡ y = fresh_same ps xs new x y z are_new.distinct enough mx my i j (later_value x z mx k) (later_value y z my (sym same ∙ k)) in
          ap (value_at s) one

  apart : no_copies (destructors_of other) ≡ true
  apart = apart_too (substituted r) (substituted s) (destructors rule) each candidate.apart
    where
      each : (a b : Term) → IsAmong a (destructors rule) → IsAmong b (destructors rule) → substituted r a ≡ substituted r b → substituted s a ≡ substituted s b
      each a b m n same =
          let is_a = destructor_is rule a m in
          let is_b = destructor_is rule b n in
          same_made r s [] [] a b is_a.flat is_b.flat (λ x y k l eq. coarser x y (of_rule rule a x is_a k) (of_rule rule b y is_b l) eq) same

  made_same : substituted r d ≡ u
  made_same = agree r s d each
    where
      each : (x : Name) → IsAmong x (variables_of d) → value_at r x ≡ value_at s x
      each x m = by_source (source_of x (of_rule rule d x is m)) (has_pair s renames [] d is.flat x m)
        where
          by_source : Source ps new r x → HasPair ps x → value_at r x ≡ value_at s x
          by_source (told a i k) p = k ∙ sym (found_value s renames [] d is.flat x a i)
          by_source (fresh z i n k) p = absurd (none_some (name_in ps x) p.name i p.named)

  stands : one_stands (destructors_of other) goal ≡ true
  stands = stands_there (substituted r) d (destructors rule) goal at.among (ap (λ t. stands_in_one t goal) made_same ∙ at.stands)

  differs : has_name e.variable other.others ≡ false
  differs = by_test (has_name e.variable other.others) refl
    where
      from_call : FromCall ps xs e.variable → ⊥
      from_call call =
          let x = call.variable in
          let value = sym (value_later x v e.variable (renaming xs e.others) (apart_of x call.among)) ∙ found_value s renames [] d is.flat x e.variable call.named in
          let there = among_has e.variable e.others (value_among xs e.others x e.variable call.among candidate.each value) in
          let never = candidate.differs in
          cc

      not_there : IsAmong e.variable other.others → ⊥
      not_there m = elim (name_from ps xs new e.variable m) [ inl n ↦ not_new e.variable e.variable (in_goal v e.variable first_named) n refl | inr call ↦ from_call call ]

      by_test : (b : Bool) → has_name e.variable other.others ≡ b → b ≡ false
      by_test false k = refl
      by_test true k = absurd (not_there (has_among e.variable other.others k))

  can : can_eliminate goal other ≡ true
  can = ap (λ b. not b && no_copies (destructors_of other) && one_stands (destructors_of other) goal) differs ∙ (ap (λ b. b && one_stands (destructors_of other) goal) apart ∙ stands)

  renamed : is_renamed d u ≡ true
  renamed = is_renamed_by s renames [] d is.flat

  here : (if is_renamed d u then elimination_of goal rule ps (name_in ps v) else []) ≡ other ∷ []
  here =
      ap (λ b. if b then elimination_of goal rule ps (name_in ps v) else []) renamed
      ∙ (ap (elimination_of goal rule ps) first_named
      ∙ ap (λ b. elim b as (λ b. List Eliminating) [ true ↦ other ∷ [] | false ↦ [] ]) can)

  in_calls : (us : List Term) → IsAmong u us → IsAmong other (from_calls goal rule d us)
  in_calls [] m = absurd m
  in_calls (w ∷ us) (inl same) =
      let first : Term → List Eliminating = λ t. if is_renamed d t then elimination_of goal rule (arguments_paired d t) (name_in (arguments_paired d t) rule.variable) else [] in
      among_first other (first w) (from_calls goal rule d us) (subst (IsAmong other) (sym (ap first (sym same) ∙ here)) (inl refl))
  in_calls (w ∷ us) (inr m) = among_second other (if is_renamed d w then elimination_of goal rule (arguments_paired d w) (name_in (arguments_paired d w) rule.variable) else []) (from_calls goal rule d us) (in_calls us m)

  in_destructors : (ds : List Term) → IsAmong d ds → IsAmong other (from_destructors goal rule ds)
  in_destructors [] m = absurd m
  in_destructors (a ∷ ds) (inl same) =
      among_first other (from_calls goal rule a (parts_in_all goal)) (from_destructors goal rule ds) (subst (λ t. IsAmong other (from_calls goal rule t (parts_in_all goal))) same (in_calls (parts_in_all goal) stands_in_goal))
  in_destructors (a ∷ ds) (inr m) = among_second other (from_calls goal rule a (parts_in_all goal)) (from_destructors goal rule ds) (in_destructors ds m)

  in_rules : (rules : List ElimRule) → IsAmong rule rules → IsAmong other (from_rules goal rules)
  in_rules [] m = absurd m
  in_rules (a ∷ rules) (inl same) =
      among_first other (from_destructors goal a (destructors a)) (from_rules goal rules) (subst (λ t. IsAmong other (from_destructors goal t (destructors t))) same (in_destructors (destructors rule) at.among))
  in_rules (a ∷ rules) (inr m) = among_second other (from_destructors goal a (destructors a)) (from_rules goal rules) (in_rules rules m)

  pub listed : IsAmong other (eliminations_of h hints goal)
  listed = in_rules (elim_rules h hints) candidate.enabled

pub none_is_none : NoneIsNone
none_is_none h hints goal none e candidate = subst (IsAmong (other h hints goal e candidate)) none (listed h hints goal e candidate)

-- as many names as variables
pub names_many : (ps : Pairs) (xs new : List Name) → length xs ≤ length new → length (names_for ps xs new) ≡ length xs
names_many ps [] new enough = refl
names_many ps (x ∷ xs) new enough = by_name (λ ys more. names_many ps xs ys more) (name_in ps x) new enough
  where
    by_name : ((ys : List Name) → length xs ≤ length ys → length (names_for ps xs ys) ≡ length xs) → (o : Option (List ℕ)) (ys : List Name) → suc (length xs) ≤ length ys → length (named_by o ys (names_for ps xs)) ≡ suc (length xs)
    by_name later (Some y) ys more = ap suc (later ys (omega (arith, more)))
    by_name later None [] more = absurd (omega (arith, more))
    by_name later None (y ∷ ys) more = ap suc (later ys (omega (arith, more)))

not_false : (b : Bool) → not b ≡ true → b ≡ false
not_false false e = refl
not_false true e = absurd (cc)

-- what is listed for a rule is a candidate
module _ (h : History) (hints : Hints) (goal : Clause) (rule : ElimRule) (enabled : IsAmong rule (elim_rules h hints)) (e : Eliminating) where
  of_test : (ps : Pairs) (x : Name) → can_eliminate goal (filled goal rule ps x) ≡ true → EliminateCandidate h hints goal (filled goal rule ps x)
  of_test ps x can =
      let other : Eliminating = filled goal rule ps x in
      let both = both_true (not (has_name x other.others) && no_copies (destructors_of other)) (one_stands (destructors_of other) goal) can in
      let first = both_true (not (has_name x other.others)) (no_copies (destructors_of other)) both.0 in
      let xs = other_variables rule in
      let many = (new_names (clause_variables goal) (length xs)).many in
      record {
        enabled = enabled;
        each = names_many ps xs (new_variables (clause_variables goal) (length xs)) (omega (arith, many));
        differs = not_false (has_name x other.others) first.0;
        apart = first.1;
        stands = both.1;
      }

  of_elimination : (ps : Pairs) (o : Option Name) → IsAmong e (elimination_of goal rule ps o) → EliminateCandidate h hints goal e
  of_elimination ps None m = absurd m
  of_elimination ps (Some x) m = by_test (can_eliminate goal (filled goal rule ps x)) refl m
    where
      by_test : (b : Bool) → can_eliminate goal (filled goal rule ps x) ≡ b → IsAmong e (elim b as (λ b. List Eliminating) [ true ↦ filled goal rule ps x ∷ [] | false ↦ [] ]) → EliminateCandidate h hints goal e
      by_test true can (inl is) = subst (EliminateCandidate h hints goal) (sym is) (of_test ps x can)
      by_test true can (inr none) = absurd none
      by_test false can none = absurd none

  of_calls : (d : Term) (us : List Term) → IsAmong e (from_calls goal rule d us) → EliminateCandidate h hints goal e
  of_calls d [] m = absurd m
  of_calls d (u ∷ us) m =
      elim (among_either e (if is_renamed d u then elimination_of goal rule (arguments_paired d u) (name_in (arguments_paired d u) rule.variable) else []) (from_calls goal rule d us) m) [
        | inl here ↦ by_test (is_renamed d u) here
        | inr there ↦ of_calls d us there
      ]
    where
      by_test : (b : Bool) → IsAmong e (if b then elimination_of goal rule (arguments_paired d u) (name_in (arguments_paired d u) rule.variable) else []) → EliminateCandidate h hints goal e
      by_test true n = of_elimination (arguments_paired d u) (name_in (arguments_paired d u) rule.variable) n
      by_test false n = absurd n

  of_destructors : (ds : List Term) → IsAmong e (from_destructors goal rule ds) → EliminateCandidate h hints goal e
  of_destructors [] m = absurd m
  of_destructors (d ∷ ds) m =
      elim (among_either e (from_calls goal rule d (parts_in_all goal)) (from_destructors goal rule ds) m) [ inl here ↦ of_calls d (parts_in_all goal) here | inr there ↦ of_destructors ds there ]

of_rules : (h : History) (hints : Hints) (goal : Clause) (e : Eliminating) (rules : List ElimRule) → ((rule : ElimRule) → IsAmong rule rules → IsAmong rule (elim_rules h hints)) → IsAmong e (from_rules goal rules) → EliminateCandidate h hints goal e
of_rules h hints goal e [] within m = absurd m
of_rules h hints goal e (rule ∷ rules) within m =
    elim (among_either e (from_destructors goal rule (destructors rule)) (from_rules goal rules) m) [
      | inl here ↦ of_destructors h hints goal rule (within rule (inl refl)) e (destructors rule) here
      | inr there ↦ of_rules h hints goal e rules (λ r n. within r (inr n)) there
    ]

pub listed_are_candidates : ListedAreCandidates
listed_are_candidates h hints goal e m = of_rules h hints goal e (elim_rules h hints) (λ rule n. n) m
