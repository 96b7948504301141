-- Parts of terms that are over the functions of a history are so too.
use Rattle.std.proofs.Common.{◌≡◌, ℕ, zero, suc, Bool, true, false, if◌then◌else◌, Some, List, [], ◌∷◌, ◌++◌, map, refl, sym, ap, subst, inl, inr}
use Rattle.std.specs.Prelude.{All, codes, slice_get}
use Rattle.nq_logic.specs.Terms.{Each, IsAmong, Name, Symbol, Term, Variable, Function, Applied, Takes, call}
use Rattle.nq_logic.specs.Ground.{symbols_of}
use Rattle.nq_logic.specs.RuleShapes.{and_parts, inner_terms, is_function_named, rule_parts, supposing, variables_of}
use Rattle.nq_bank.specs.declared.node.TermId.{TermId}
use Rattle.nq_bank.specs.Content.{Stands, term_at, terms_at}
use Rattle.nq_bank.specs.Parts.{parts_of}
use Rattle.nq_proof.specs.Clauses.{Clause, distinct}
use Rattle.nq_history.specs.declared.entry.Entry.{Entry}
use Rattle.nq_history.specs.Events.{events_at}
use Rattle.nq_kernel.specs.declared.work.Work.{Work}
use Rattle.nq_kernel.specs.Growing.{WorkGrows, WorkStands}
use Rattle.nq_kernel.specs.Over.{IsTermOf, IsVariable, VariablesAre}
use Rattle.nq_lines.specs.Lines.{IsTermIn}
use Rattle.nq_lines.proofs.ArgumentLemmas.{argument_over}
use Rattle.nq_lines.proofs.LineLemmas.{from_distinct}
use Rattle.nq_lines.proofs.TermLemmas.{term_grown}
use Rattle.nq_goals.specs.NewVariables.{clause_variables}
use Rattle.nq_goals.specs.Replacing.{parts_in, parts_in_all}
use Rattle.nq_moves.proofs.ClosingLemmas.{each_over}
use Rattle.nq_moves.proofs.OverLemmas.{ids_in}
use Rattle.nq_eliminate.specs.Naming.{images_for}
use Rattle.nq_eliminate.proofs.Names.{among_either, same_name}
use Rattle.nq_eliminate.proofs.NamingLemmas.{images_among}

-- ---- terms over the functions of a history

module _ (symbols : List Symbol) where
  abbrev pub IsIn : Term → Type 0
  IsIn t = IsTermOf IsVariable symbols t

  inner_over : (t u : Term) (n : ℕ) → Takes symbols t n → VariablesAre IsVariable t → IsAmong u (inner_terms t) → IsIn u
  inner_over (Variable x) u n o v m = absurd m
  inner_over (Function f) u n o v m = absurd m
  inner_over (Applied t a) u n o v m =
      elim (among_either u (inner_terms t) (a ∷ inner_terms a) m) [
        | inl left ↦ inner_over t u (suc n) o.0 v.0 left
        | inr right ↦ elim right [ inl e ↦ subst IsIn (sym e) (record { over = o.1; variables = v.1 }) | inr inner ↦ inner_over a u zero o.1 v.1 inner ]
      ]

  pub part_over : (t u : Term) → IsIn t → IsAmong u (parts_in t) → IsIn u
  part_over t u h (inl e) = subst IsIn (sym e) h
  part_over t u h (inr m) = inner_over t u zero h.over h.variables m

  pub parts_over : (c : Clause) → ((t : Term) → IsAmong t c → IsIn t) → (u : Term) → IsAmong u (parts_in_all c) → IsIn u
  parts_over [] each u m = absurd m
  parts_over (t ∷ c) each u m = elim (among_either u (parts_in t) (parts_in_all c) m) [ inl here ↦ part_over t u (each t (inl refl)) here | inr there ↦ parts_over c (λ v n. each v (inr n)) u there ]

  -- the AND parts, the hypotheses and the conclusion
  and_over : (t u : Term) → IsIn t → IsAmong u (and_parts t) → IsIn u
  and_over (Variable x) u h (inl e) = subst IsIn (sym e) h
  and_over (Variable x) u h (inr none) = absurd none
  and_over (Function f) u h (inl e) = subst IsIn (sym e) h
  and_over (Function f) u h (inr none) = absurd none
  and_over (Applied (Variable x) a) u h (inl e) = subst IsIn (sym e) h
  and_over (Applied (Variable x) a) u h (inr none) = absurd none
  and_over (Applied (Function f) a) u h (inl e) = subst IsIn (sym e) h
  and_over (Applied (Function f) a) u h (inr none) = absurd none
  and_over (Applied (Applied f p) q) u h m = by_test (is_function_named (codes "AND") f) m (λ k. and_over p u (record { over = h.over.0.1; variables = h.variables.0.1 }) k) (λ k. and_over q u (record { over = h.over.1; variables = h.variables.1 }) k)
    where
      by_test : (b : Bool) → IsAmong u (if b then and_parts p ++ and_parts q else Applied (Applied f p) q ∷ []) → (IsAmong u (and_parts p) → IsIn u) → (IsAmong u (and_parts q) → IsIn u) → IsIn u
      by_test true m left right = elim (among_either u (and_parts p) (and_parts q) m) [ inl of_p ↦ left of_p | inr of_q ↦ right of_q ]
      by_test false (inl e) left right = subst IsIn (sym e) h
      by_test false (inr none) left right = absurd none

  pub record PartsOver (t : Term) : Type 0 where
    pub conclusion : IsIn (rule_parts t).conclusion
    pub hypotheses : (u : Term) → IsAmong u (rule_parts t).hypotheses → IsIn u

  itself_over : (t : Term) → IsIn t → rule_parts t ≡ record { hypotheses = []; conclusion = t } → PartsOver t
  itself_over t h is = record { conclusion = subst (λ r. IsIn r.conclusion) (sym is) h; hypotheses = λ u m. absurd (subst (λ r. IsAmong u r.hypotheses) is m) }

  pub rule_over : (t : Term) → IsIn t → PartsOver t
  rule_over (Variable x) h = itself_over (Variable x) h refl
  rule_over (Function f) h = itself_over (Function f) h refl
  rule_over (Applied (Variable x) u) h = itself_over (Applied (Variable x) u) h refl
  rule_over (Applied (Function f) u) h = itself_over (Applied (Function f) u) h refl
  rule_over (Applied (Applied f p) q) h = by_test (is_function_named (codes "IMPLIES") f) refl (rule_over q (record { over = h.over.1; variables = h.variables.1 }))
    where
      whole : Term
      whole = Applied (Applied f p) q

      by_test : (b : Bool) → is_function_named (codes "IMPLIES") f ≡ b → PartsOver q → PartsOver whole
      by_test true e rest =
          let is : rule_parts whole ≡ supposing (and_parts p) (rule_parts q) = ap (λ c. if c then supposing (and_parts p) (rule_parts q) else record { hypotheses = []; conclusion = whole }) e in
          record {
            conclusion = subst (λ r. IsIn r.conclusion) (sym is) rest.conclusion;
            hypotheses = λ u m.
                elim (among_either u (and_parts p) (rule_parts q).hypotheses (subst (λ r. IsAmong u r.hypotheses) is m)) [
                  | inl here ↦ and_over p u (record { over = h.over.0.1; variables = h.variables.0.1 }) here
                  | inr there ↦ rest.hypotheses u there
                ];
          }
      by_test false e rest = itself_over whole h (ap (λ c. if c then supposing (and_parts p) (rule_parts q) else record { hypotheses = []; conclusion = whole }) e)

variable_kind : (x : Name) (t : Term) → VariablesAre IsVariable t → IsAmong x (variables_of t) → IsVariable x
variable_kind x (Variable y) h (inl e) = subst IsVariable (sym e) h
variable_kind x (Variable y) h (inr none) = absurd none
variable_kind x (Function f) h m = absurd m
variable_kind x (Applied t u) h m = elim (among_either x (variables_of t) (variables_of u) m) [ inl here ↦ variable_kind x t h.0 here | inr there ↦ variable_kind x u h.1 there ]

pub variables_kind : (x : Name) (c : Clause) → ((t : Term) → IsAmong t c → VariablesAre IsVariable t) → IsAmong x (clause_variables c) → IsVariable x
variables_kind x [] each m = absurd m
variables_kind x (t ∷ c) each m = elim (among_either x (variables_of t) (clause_variables c) m) [ inl here ↦ variable_kind x t (each t (inl refl)) here | inr there ↦ variables_kind x c (λ u n. each u (inr n)) there ]

pub mapped_variable : (ts : List Term) (xs : List Name) (x : Name) → ts ≡ map Variable xs → IsAmong x xs → IsAmong (Variable x) ts
mapped_variable ts xs x is m = subst (IsAmong (Variable x)) (sym is) (go xs m)
  where
    go : (ys : List Name) → IsAmong x ys → IsAmong (Variable x) (map Variable ys)
    go [] n = n
    go (y ∷ ys) (inl e) = inl (ap Variable e)
    go (y ∷ ys) (inr n) = inr (go ys n)

pub names_within : (x : Name) (xs : List Name) → IsAmong (Variable x) (distinct (map Variable xs)) → IsAmong x xs
names_within x xs m = go xs (from_distinct (Variable x) (map Variable xs) m)
  where
    go : (ys : List Name) → IsAmong (Variable x) (map Variable ys) → IsAmong x ys
    go [] n = n
    go (y ∷ ys) (inl e) = inl (same_name x y e)
    go (y ∷ ys) (inr n) = inr (go ys n)

pub each_name : (xs : List Name) → ((x : Name) → IsAmong x xs → IsVariable x) → Each IsVariable xs
each_name [] f = tt
each_name (x ∷ xs) f = (f x (inl refl), each_name xs (λ y m. f y (inr m)))

-- ---- images are over the functions of the history

record HasPlace (a : Term) (ts : List Term) : Type 0 where
  place : ℕ
  there : slice_get ts place ≡ Some a

has_place : (a : Term) (ts : List Term) → IsAmong a ts → HasPlace a ts
has_place a [] m = absurd m
has_place a (t ∷ ts) (inl e) = record { place = zero; there = ap Some (sym e) }
has_place a (t ∷ ts) (inr m) = let rest = has_place a ts m in record { place = suc rest.place; there = rest.there }

call_part_over : (symbols : List Symbol) (t a : Term) → IsTermOf IsVariable symbols t → IsAmong a (parts_of t) → IsTermOf IsVariable symbols a
call_part_over symbols t a h m = let at = has_place a (parts_of t) m in argument_over symbols t (suc at.place) a h at.there

pub images_over : (history : List Entry) (w w1 : Work) (stood : WorkStands history w) (grows : WorkGrows history w w1) (from own : List Term) (call : TermId) (new ids : List TermId) → IsTermIn history w call → All (IsTermIn history w1) new → All (Stands w1.bank) ids →
    terms_at w1.bank ids ≡ images_for from (parts_of (term_at w1.bank call)) own (terms_at w1.bank new) → All (IsTermIn history w1) ids
images_over history w w1 stood grows from own call new ids in_call over stand are =
    ids_in history w1 ids stand (λ t m. elim (images_among from (parts_of (term_at w1.bank call)) own (terms_at w1.bank new) t (subst (IsAmong t) are m)) [ inl of_call ↦ call_part_over (symbols_of (events_at w1.bank history)) (term_at w1.bank call) t (term_grown history w w1 call stood grows in_call).over of_call | inr of_new ↦ each_over history w1 new over t of_new ])
