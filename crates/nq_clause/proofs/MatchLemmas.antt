-- How matches are put together, and why there is none.
use Rattle.std.proofs.Common.{◌≡◌, ℕ, ◌+◌, ◌<◌, ◌≤◌, ◌⊎◌, Bool, false, true, ◌||◌, Some, List, [], ◌∷◌, ◌++◌, length, get_or, take, map, refl, sym, ap, ◌∙◌, subst, inl, inr, arith, append-nil, append_assoc}
use Rattle.std.specs.Prelude.{All, IsTrue, MatchBool, nat_eq, bytes_eq, Result, Ok, Err, IfOk}
use Rattle.std.specs.Bool.{OnTrue}
use Rattle.std.specs.declared.alloc.AllocError.{AllocError}
use Rattle.std.proofs.Math.Seq.{take-append_seam}
use Rattle.std.specs.HashMap.{Updates}
use Rattle.std.proofs.lemmas.Bool.{or_cases, or_left, or_right}
use Rattle.std.proofs.lemmas.List.{take-map, take-take, take_more, take_all, length-map}
use Rattle.nq_logic.specs.Terms.{Name, Term, Variable, Function, Applied, applied, call, IsAmong, Substitution, value_at, substituted}
use Rattle.nq_bank.specs.declared.node.TermId.{TermId}
use Rattle.nq_bank.specs.Parts.{occurs, parts_of}
use Rattle.nq_bank.proofs.ArgumentLemmas.{terms_from-take}
use Rattle.nq_bank.proofs.CallLemmas.{arguments_before-call}
use Rattle.nq_bank.proofs.Growth.{prefix_within}
use Rattle.nq_bank.specs.Content.{Content, term_at, terms_at, term_from, text_at}
use Rattle.nq_bank.proofs.Standing.{All-push}
use Rattle.nq_clause.specs.declared.binding.Bound.{Bound}
use Rattle.nq_clause.specs.declared.binding.Binding.{Binding}
use Rattle.nq_clause.specs.Binding.{bound_at, BoundStands, bindings_at, BindingStands, variables_of, BindsOnce, Extends, BindsAll, Matches, MatchesNone}
use Rattle.nq_clause.specs.Matching.{arguments_of, IsCallOf, IsMatched, Bounds, HasMatches}
use Rattle.nq_clause.proofs.Lookups.{kept_or_stood}
use Rattle.nq_clause.proofs.InstanceLemmas.{Tells, false_true, call_parts}
use Rattle.nq_clause.proofs.SubstitutionLemmas.{substituted-call, substituted-numeral}
use Rattle.nq_clause.proofs.OccurrenceLemmas.{occurs-numeral}
use Rattle.nq_bank.proofs.Texts.{bytes_eq-true, eq-bytes_eq}
use Rattle.nq_logic.specs.Words.{numeral}
use Rattle.nq_clause.proofs.BindingLemmas.{first, second, same_where_occurs, extended_same, value_at-new, value_at-first, among_or, among_after, distinct_push, bindings_at-append, more_extends, binds_more}

-- a substitution that extends what stood, and fits, extends what a match binds
pub extends_match : (bank : Content) (p t : Term) (old new : List Binding) (s : Substitution) → Matches bank p t old new → Extends s (bindings_at bank old) → substituted s p ≡ t → Extends s (bindings_at bank new)
extends_match bank p t old new s m h e =
    let parts : bindings_at bank new ≡ bindings_at bank old ++ bindings_at bank m.more = ap (bindings_at bank) m.whole ∙ bindings_at-append bank old m.more in
    let more : Extends (bindings_at bank new) (bindings_at bank old) = more_extends bank old m.more new m.whole in
    record {
      same = λ x among.
          elim (among_or x (bindings_at bank old) (bindings_at bank m.more) (subst (λ r. IsAmong x (variables_of r)) parts among)) [
            | inl stood ↦ h.same x stood ∙ sym (more.same x stood)
            | inr added ↦ same_where_occurs s (bindings_at bank new) p (e ∙ sym m.fits) x (m.only.in_term x added)
          ];
    }

-- bindings as they are, where they bind each variable of the pattern
pub match_as_is : (bank : Content) (p t : Term) (old : List Binding) → All (BindingStands bank) old → BindsOnce (bindings_at bank old) → BindsAll (bindings_at bank old) p → substituted (bindings_at bank old) p ≡ t → Matches bank p t old old
match_as_is bank p t old stand once all fits =
    record {
      more = [];
      whole = sym (append-nil old);
      only = record { in_term = λ x m. absurd m };
      stand = stand;
      once = once;
      all = all;
      fits = fits;
    }

-- a pattern whose variables are bound is one term, which is compared with the target
pub compared : (bank : Content) (p t u : Term) (old : List Binding) (answer : Bool) → All (BindingStands bank) old → BindsOnce (bindings_at bank old) → BindsAll (bindings_at bank old) p → substituted (bindings_at bank old) p ≡ u → Tells answer (u ≡ t) → MatchBool answer (Matches bank p t old old) (MatchesNone (bindings_at bank old) p t)
compared bank p t u old true stand once all is tells =
    match_as_is bank p t old stand once all (is ∙ tells.0 refl)
compared bank p t u old false stand once all is tells =
    record { none = λ s h e. false_true (tells.1 (sym is ∙ sym (extended_same s (bindings_at bank old) p h all) ∙ e)) }

pub function_binds : (s : Substitution) (f : Name) → BindsAll s (Function f)
unfolding occurs
function_binds s f = record { bound = λ x o. absurd (false_true o) }

pub function_matched : (bank : Content) (f : Name) (old : List Binding) → All (BindingStands bank) old → BindsOnce (bindings_at bank old) → Matches bank (Function f) (Function f) old old
function_matched bank f old stand once =
    match_as_is bank (Function f) (Function f) old stand once (function_binds (bindings_at bank old) f) refl

pub numeral_binds : (s : Substitution) (n : ℕ) → BindsAll s (numeral n)
numeral_binds s n = record { bound = λ x o. absurd (false_true (sym (occurs-numeral x n) ∙ o)) }

pub variable_binds : (s : Substitution) (x : Name) → IsAmong x (variables_of s) → BindsAll s (Variable x)
unfolding occurs
variable_binds s x m = record { bound = λ y o. subst (λ z. IsAmong z (variables_of s)) (sym (bytes_eq-true y x o)) m }

pub numeral_compared : (bank : Content) (p t u : Term) (old : List Binding) (n : ℕ) (answer : Bool) → All (BindingStands bank) old → BindsOnce (bindings_at bank old) → p ≡ numeral n → u ≡ p → Tells answer (u ≡ t) → MatchBool answer (Matches bank p t old old) (MatchesNone (bindings_at bank old) p t)
numeral_compared bank p t u old n answer stand once is same tells =
    let s : Substitution = bindings_at bank old in
    compared bank p t u old answer stand once (subst (BindsAll s) (sym is) (numeral_binds s n)) (ap (substituted s) is ∙ substituted-numeral s n ∙ sym is ∙ sym same) tells

-- a bound variable is compared with the target
pub bound_compared : (bank : Content) (x : Name) (t u : Term) (old given : List Binding) (answer : Bool) → given ≡ old → All (BindingStands bank) old → BindsOnce (bindings_at bank old) → value_at (bindings_at bank given) x ≡ u → IsAmong x (variables_of (bindings_at bank given)) → Tells answer (u ≡ t) → MatchBool answer (Matches bank (Variable x) t old old) (MatchesNone (bindings_at bank old) (Variable x) t)
bound_compared bank x t u old given answer same stand once value among tells =
    compared bank (Variable x) t u old answer stand once (variable_binds (bindings_at bank old) x (subst (λ bs. IsAmong x (variables_of (bindings_at bank bs))) same among)) (ap (λ bs. value_at (bindings_at bank bs) x) (sym same) ∙ value) tells

-- a new binding matches its variable
pub match_new : (bank : Content) (b : Binding) (old new : List Binding) → new ≡ old ++ b ∷ [] → BindingStands bank b → All (BindingStands bank) old → BindsOnce (bindings_at bank old) → (IsAmong (text_at bank b.variable) (variables_of (bindings_at bank old)) → ⊥) → Matches bank (Variable (text_at bank b.variable)) (bound_at bank b.bound) old new
unfolding occurs
match_new bank b old new whole stands stand once none =
    let x : Name = text_at bank b.variable in
    let t : Term = bound_at bank b.bound in
    let parts : bindings_at bank new ≡ bindings_at bank old ++ (x, t) ∷ [] = ap (bindings_at bank) whole ∙ bindings_at-append bank old (b ∷ []) in
    let among : IsAmong x (variables_of (bindings_at bank new)) = subst (λ r. IsAmong x (variables_of r)) (sym parts) (among_after x (bindings_at bank old) ((x, t) ∷ []) (inl refl)) in
    record {
      more = b ∷ [];
      whole = whole;
      only = record { in_term = λ y m. only_it y m };
      stand = subst (All (BindingStands bank)) (sym whole) (All-push (BindingStands bank) old b stand stands);
      once = subst BindsOnce (sym parts) (distinct_push (bindings_at bank old) x t once none);
      all = variable_binds (bindings_at bank new) x among;
      fits = ap (λ r. value_at r x) parts ∙ value_at-new (bindings_at bank old) ((x, t) ∷ []) x none ∙ value_at-first x t [];
    }
  where
    only_it : (y : Name) → (y ≡ text_at bank b.variable) ⊎ IsAmong y [] → IsTrue (bytes_eq y (text_at bank b.variable))
    only_it y (inl e) = eq-bytes_eq y (text_at bank b.variable) e
    only_it y (inr m) = absurd m

-- two matches, one after the other
pub match_applied : (bank : Content) (p q t u : Term) (old mid new : List Binding) → Matches bank p t old mid → Matches bank q u mid new → Matches bank (Applied p q) (Applied t u) old new
unfolding occurs
match_applied bank p q t u old mid new m n =
    let left : substituted (bindings_at bank new) p ≡ t = extended_same (bindings_at bank new) (bindings_at bank mid) p (more_extends bank mid n.more new n.whole) m.all ∙ m.fits in
    let right : substituted (bindings_at bank new) q ≡ u = n.fits in
    let all : BindsAll (bindings_at bank new) p = binds_more bank p mid n.more new n.whole m.all in
    record {
      more = m.more ++ n.more;
      whole = n.whole ∙ ap (λ xs. xs ++ n.more) m.whole ∙ append_assoc old m.more n.more;
      only = record { in_term = λ x among. in_either x (among_or x (bindings_at bank m.more) (bindings_at bank n.more) (subst (λ r. IsAmong x (variables_of r)) (bindings_at-append bank m.more n.more) among)) };
      stand = n.stand;
      once = n.once;
      all = record {
        bound = λ x o.
            elim (or_cases (occurs x p) (occurs x q) o) [ inl in_p ↦ all.bound x in_p | inr in_q ↦ n.all.bound x in_q ];
      };
      fits = cc;
    }
  where
    in_either : (x : Name) → IsAmong x (variables_of (bindings_at bank m.more)) ⊎ IsAmong x (variables_of (bindings_at bank n.more)) → IsTrue (occurs x p || occurs x q)
    in_either x (inl here) = or_left (occurs x p) (occurs x q) (m.only.in_term x here)
    in_either x (inr here) = or_right (occurs x p) (occurs x q) (n.only.in_term x here)

-- no match of an argument after one of the function
pub none_applied : (bank : Content) (p q t u : Term) (old mid : List Binding) → Matches bank p t old mid → MatchesNone (bindings_at bank mid) q u → MatchesNone (bindings_at bank old) (Applied p q) (Applied t u)
none_applied bank p q t u old mid m n =
    record { none = λ s h e. n.none s (extends_match bank p t old mid s m h (first e)) (second e) }

pub told_match : (b : Bool) (P Q : Type 0) → b ≡ true → MatchBool b P Q → P
told_match true P Q e h = h
told_match false P Q e h = absurd (false_true e)

pub told_none : (b : Bool) (P Q : Type 0) → b ≡ false → MatchBool b P Q → Q
told_none true P Q e h = absurd (false_true (sym e))
told_none false P Q e h = h

pub told_known : (b : Bool) (P : Type 0) → b ≡ true → OnTrue b P → P
told_known true P e h = h
told_known false P e h = absurd (false_true e)

-- what is known stays so when more is bound
pub known_more : (bank : Content) (old more new : List Binding) (known : Bounds) → new ≡ old ++ more → HasMatches bank (bindings_at bank old) known → HasMatches bank (bindings_at bank new) known
known_more bank old more new known whole h =
    record {
      right = λ t b found.
          let was : IsMatched bank (bindings_at bank old) (term_at bank t) b = h.right t b found in
          record {
            stands = was.stands;
            all = binds_more bank (term_at bank t) old more new whole was.all;
            fits = extended_same (bindings_at bank new) (bindings_at bank old) (term_at bank t) (more_extends bank old more new whole) was.all ∙ was.fits;
          };
    }

pub known_after : (bank : Content) (p t : Term) (old new : List Binding) (known : Bounds) (answer : Result Bool AllocError) → HasMatches bank (bindings_at bank old) known → IfOk answer (λ b. MatchBool b (Matches bank p t old new) (MatchesNone (bindings_at bank old) p t)) → IfOk answer (λ b. OnTrue b (HasMatches bank (bindings_at bank new) known))
known_after bank p t old new known (Ok true) h m = known_more bank old m.more new known m.whole h
known_after bank p t old new known (Ok false) h m = tt
known_after bank p t old new known (Err e) h m = tt

-- a bound that is kept is right
pub known_kept : (bank : Content) (s : Substitution) (old new : Bounds) (t : TermId) (b : Bound) → HasMatches bank s old → Updates nat_eq old new t.0 (Some b) → IsMatched bank s (term_at bank t) b → HasMatches bank s new
known_kept bank s old new t b h updates is =
    record {
      right = λ q d found.
          elim (kept_or_stood old new t.0 q.0 b d updates found) [
            | inl here ↦ subst (λ e. IsMatched bank s (term_at bank q) e) here.1 (subst (λ k. IsMatched bank s (term_at bank (record { 0 = k })) b) here.0 is)
            | inr there ↦ h.right q d there
          ];
    }

-- what stood before a match stays
pub match_keeps : (bank : Content) (p t : Term) (old new : List Binding) → Matches bank p t old new → take (length old) new ≡ old
match_keeps bank p t old new m = ap (take (length old)) m.whole ∙ take-append_seam old m.more

-- and what stays after it stays after it stays
pub kept_through : (bank : Content) (p t : Term) (old mid new : List Binding) → Matches bank p t old mid → take (length mid) new ≡ mid → take (length old) new ≡ old
kept_through bank p t old mid new m kept =
    let stood : take (length old) mid ≡ old = match_keeps bank p t old mid m in
    sym (take-take (length old) (length mid) new (prefix_within old mid stood)) ∙ ap (take (length old)) kept ∙ stood

applied-push : (t : Term) (us : List Term) (u : Term) → applied t (us ++ u ∷ []) ≡ Applied (applied t us) u
applied-push t [] u = refl
applied-push t (v ∷ us) u = applied-push (Applied t v) us u

-- a call of the arguments so far and one more
call_more : (f : Name) (ts : List Term) (i : ℕ) (d : Term) → i < length ts → call f (take (i + 1) ts) ≡ Applied (call f (take i ts)) (get_or ts i d)
call_more f ts i d below = ap (call f) (take_more ts i d below) ∙ applied-push (Function f) (take i ts) (get_or ts i d)

-- an argument of the pattern and one of the target
pub record IsNext (bank : Content) (ids : List TermId) (ts : List Term) (i : ℕ) (u : Term) : Type 0 where
  pub below : i < length ids
  pub above : i < length ts
  pub is : u ≡ get_or ts i u

module _ (bank : Content) (f : Name) (ids : List TermId) (ts : List Term) (i : ℕ) (d : TermId) (u : Term) (old mid : List Binding) (next : IsNext bank ids ts i u) (m : Matches bank (call f (terms_at bank (take i ids))) (call f (take i ts)) old mid) where
  pattern_more : call f (terms_at bank (take (i + 1) ids)) ≡ Applied (call f (terms_at bank (take i ids))) (term_at bank (get_or ids i d))
  pattern_more = ap (call f) (terms_from-take bank.terms ids i d next.below) ∙ applied-push (Function f) (terms_at bank (take i ids)) (term_at bank (get_or ids i d))

  target_more : call f (take (i + 1) ts) ≡ Applied (call f (take i ts)) u
  target_more = call_more f ts i u next.above ∙ ap (Applied (call f (take i ts))) (sym next.is)

  -- one more argument is matched
  pub argument_match : (new : List Binding) → Matches bank (term_at bank (get_or ids i d)) u mid new → Matches bank (call f (terms_at bank (take (i + 1) ids))) (call f (take (i + 1) ts)) old new
  argument_match new n =
      subst (λ p. Matches bank p (call f (take (i + 1) ts)) old new) (sym pattern_more)
      (subst (λ t. Matches bank (Applied (call f (terms_at bank (take i ids))) (term_at bank (get_or ids i d))) t old new) (sym target_more)
      (match_applied bank (call f (terms_at bank (take i ids))) (term_at bank (get_or ids i d)) (call f (take i ts)) u old mid new m n))

  -- or has no match, and then the call so far has none
  pub argument_none : MatchesNone (bindings_at bank mid) (term_at bank (get_or ids i d)) u → MatchesNone (bindings_at bank old) (call f (terms_at bank (take (i + 1) ids))) (call f (take (i + 1) ts))
  argument_none n =
      subst (λ p. MatchesNone (bindings_at bank old) p (call f (take (i + 1) ts))) (sym pattern_more)
      (subst (λ t. MatchesNone (bindings_at bank old) (Applied (call f (terms_at bank (take i ids))) (term_at bank (get_or ids i d))) t) (sym target_more)
      (none_applied bank (call f (terms_at bank (take i ids))) (term_at bank (get_or ids i d)) (call f (take i ts)) u old mid m n))

module _ (bank : Content) (f : Name) (p t : Term) (ids : List TermId) (is : p ≡ call f (parts_of p)) (tells : terms_at bank ids ≡ parts_of p) where
  whole_substituted : (s : Substitution) → substituted s p ≡ call f (map (substituted s) (terms_at bank ids))
  whole_substituted s = ap (substituted s) is ∙ substituted-call s f (parts_of p) ∙ ap (λ ts. call f (map (substituted s) ts)) (sym tells)

  -- what fits a call is a call of the function with as many arguments
  pub not_call : (r : Substitution) → (IsCallOf f (length ids) t → ⊥) → MatchesNone r p t
  not_call r other =
      record {
        none = λ s h e.
            let same : t ≡ call f (map (substituted s) (terms_at bank ids)) = sym e ∙ whole_substituted s in
            let parts : arguments_of t ≡ map (substituted s) (terms_at bank ids) = ap arguments_of same ∙ arguments_before-call f (map (substituted s) (terms_at bank ids)) in
            other (record { is = same ∙ ap (call f) (sym parts); count = ap length parts ∙ length-map (terms_at bank ids) (substituted s) ∙ length-map ids (term_from bank.terms) });
      }

  -- where a call of some arguments has no match, that of all has none
  pub some_arguments : (r : Substitution) (k : ℕ) → IsCallOf f (length ids) t → MatchesNone r (call f (terms_at bank (take k ids))) (call f (take k (arguments_of t))) → MatchesNone r p t
  some_arguments r k target n =
      record {
        none = λ s h e.
            let parts = call_parts f f (map (substituted s) (terms_at bank ids)) (arguments_of t) (sym (whole_substituted s) ∙ e ∙ target.is) in
            let some : map (substituted s) (terms_at bank (take k ids)) ≡ take k (arguments_of t) =
            ap (map (substituted s)) (sym (take-map (term_from bank.terms) k ids)) ∙ sym (take-map (substituted s) k (terms_at bank ids)) ∙ ap (take k) parts.1 in
            n.none s h (substituted-call s f (terms_at bank (take k ids)) ∙ ap (call f) some);
      }

  -- a call of all arguments that are matched is matched
  pub all_arguments : (old new : List Binding) (k : ℕ) → IsCallOf f (length ids) t → length ids ≤ k → Matches bank (call f (terms_at bank (take k ids))) (call f (take k (arguments_of t))) old new → Matches bank p t old new
  all_arguments old new k target all m =
      let pattern : call f (terms_at bank (take k ids)) ≡ p = ap (λ xs. call f (terms_at bank xs)) (take_all k ids all) ∙ ap (call f) tells ∙ sym is in
      let whole : call f (take k (arguments_of t)) ≡ t = ap (call f) (take_all k (arguments_of t) (omega (arith, target.count, all))) ∙ sym target.is in
      subst (λ q. Matches bank q t old new) pattern (subst (λ u. Matches bank (call f (terms_at bank (take k ids))) u old new) whole m)

-- a match of the pattern, as it is kept
pub matched_kept : (bank : Content) (p : Term) (b : Bound) (old new : List Binding) → BoundStands bank b → Matches bank p (bound_at bank b) old new → IsMatched bank (bindings_at bank new) p b
matched_kept bank p b old new stands m = record { stands = stands; all = m.all; fits = m.fits }
