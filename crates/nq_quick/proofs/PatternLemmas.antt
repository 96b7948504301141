-- The lines of connectives over P and Q, which compute.
use Rattle.std.proofs.Common.{◌≡◌, ◌≤◌, ◌<◌, ℕ, Bool, true, false, Option, Some, None, List, [], ◌∷◌, ◌++◌, length, get_or, refl, sym, ap, ap₂, ◌∙◌, inl, inr, lit≤, lit<}
use Rattle.std.proofs.lemmas.List.{length-map}
use Rattle.std.specs.Option.{option_map}
use Rattle.std.specs.Prelude.{Vec, IsSome}
use Rattle.std.specs.declared.alloc.Global.{Global}
use Rattle.nq_logic.specs.Terms.{Term, IsAmong, Each, call}
use Rattle.nq_logic.specs.Numerals.{number_of}
use Rattle.nq_logic.specs.Sizes.{tree_depth, depth_of, depth_limit}
use Rattle.nq_logic.specs.Words.{not_term, equal_term}
use Rattle.nq_logic.specs.Ground.{p_term, q_term}
use Rattle.nq_proof.specs.Clauses.{Clause, distinct, literal_at, in_place}
use Rattle.nq_proof.specs.Paths.{replaced_at}
use Rattle.nq_proof.specs.Rows.{opening}
use Rattle.nq_proof.specs.Rules as tree
use Rattle.nq_proof.specs.Rules.{given, used_equation}
use Rattle.nq_bank.specs.declared.node.TermId.{TermId}
use Rattle.nq_bank.specs.Content.{Content, term_at, terms_at, IsIdOf}
use Rattle.nq_bank.specs.Parts.{parts_of}
use Rattle.nq_rule.specs.declared.replacing.Side.TheVariants.{Forwards}
use Rattle.nq_history.specs.declared.entry.Entry.{Entry}
use Rattle.nq_kernel.specs.declared.work.Work.{Work}
use Rattle.nq_kernel.specs.declared.rule.Rule.TheVariants.{Replace}
use Rattle.nq_kernel.specs.Meaning.{conclusion_at, clause_at}
use Rattle.nq_kernel.specs.Growing.{LineHolds}
use Rattle.nq_fragments.specs.declared.connective.Connective.{Connective}
use Rattle.nq_fragments.specs.declared.connective.Connective.TheVariants.{And, Or, Implies, Iff}
use Rattle.nq_quick.specs.Lines.{AreAmong, HasOnly, IsShallow, signed, denial, definition_of}
use Rattle.nq_quick.specs.Patterns.{pattern_term}
use Rattle.nq_quick.proofs.DepthLemmas.{among_each, only_shallow}

-- where the literal stands that is replaced, and the path to the connective in it
abbrev pub replaced_place : Bool → ℕ
replaced_place true = 2
replaced_place false = 1

abbrev pub replaced_path : Bool → List ℕ
replaced_path true = 1 ∷ []
replaced_path false = []

abbrev replaced_clause : ℕ → List ℕ → Option Clause → Term → Option Clause
replaced_clause k path o t =
    given o (λ c. given (literal_at k c) (λ a. given (replaced_at path t a) (λ change. Some (distinct (in_place k (change.1 ∷ []) c ++ (used_equation tree.Forwards change.0 t ∷ []))))))

abbrev either_clause : Connective → Clause
either_clause c = distinct (pattern_term c ∷ not_term (pattern_term c) ∷ [])

abbrev replaced_literals : Bool → Connective → Clause
replaced_literals true c = pattern_term c ∷ not_term (definition_of c).body ∷ not_term (equal_term (pattern_term c) (definition_of c).body) ∷ []
replaced_literals false c = (definition_of c).body ∷ not_term (pattern_term c) ∷ not_term (equal_term (pattern_term c) (definition_of c).body) ∷ []

abbrev pub folded_literals : Bool → Connective → Clause
folded_literals b c = not_term (equal_term (pattern_term c) (definition_of c).body) ∷ denial b (definition_of c).body ∷ signed b (pattern_term c) ∷ []

replaced_is : (b : Bool) (c : Connective) → replaced_clause (replaced_place b) (replaced_path b) (Some (either_clause c)) (definition_of c).body ≡ Some (replaced_literals b c)
unfolding number_of
replaced_is true And = refl
replaced_is true Or = refl
replaced_is true Implies = refl
replaced_is true Iff = refl
replaced_is false And = refl
replaced_is false Or = refl
replaced_is false Implies = refl
replaced_is false Iff = refl

replaced_within : (b : Bool) (c : Connective) → AreAmong (replaced_literals b c) (folded_literals b c)
replaced_within true c = among_each (λ u. IsAmong u (folded_literals true c)) (replaced_literals true c) (inr (inr (inl refl)), (inr (inl refl), (inl refl, tt)))
replaced_within false c = among_each (λ u. IsAmong u (folded_literals false c)) (replaced_literals false c) (inr (inl refl), (inr (inr (inl refl)), (inl refl, tt)))

folded_shallow : (b : Bool) (c : Connective) → Each (λ u. depth_of u ≤ depth_limit) (folded_literals b c)
unfolding number_of tree_depth
folded_shallow true And = (lit≤ tt, (lit≤ tt, (lit≤ tt, tt)))
folded_shallow true Or = (lit≤ tt, (lit≤ tt, (lit≤ tt, tt)))
folded_shallow true Implies = (lit≤ tt, (lit≤ tt, (lit≤ tt, tt)))
folded_shallow true Iff = (lit≤ tt, (lit≤ tt, (lit≤ tt, tt)))
folded_shallow false And = (lit≤ tt, (lit≤ tt, (lit≤ tt, tt)))
folded_shallow false Or = (lit≤ tt, (lit≤ tt, (lit≤ tt, tt)))
folded_shallow false Implies = (lit≤ tt, (lit≤ tt, (lit≤ tt, tt)))
folded_shallow false Iff = (lit≤ tt, (lit≤ tt, (lit≤ tt, tt)))

module _ (history : List Entry) (work : Work) where
  -- what the replacement gives
  pub replaced_only : (b : Bool) (c : Connective) (either place : ℕ) (path : Vec ℕ Global) (body : TermId) → place ≡ replaced_place b → path.items ≡ replaced_path b → LineHolds work either (either_clause c) → IsIdOf work.bank body (definition_of c).body → HasOnly (conclusion_at work.bank history work.log (Replace either place path body Forwards)) (folded_literals b c)
  unfolding conclusion_at
  replaced_only b c either place path body at leads holds is =
      record {
        literals = replaced_literals b c;
        stands =
            ap (λ k. replaced_clause k path.items (clause_at work.bank work.log either) (term_at work.bank body)) at ∙
            ap (λ xs. replaced_clause (replaced_place b) xs (clause_at work.bank work.log either) (term_at work.bank body)) leads ∙
            ap₂ (replaced_clause (replaced_place b) (replaced_path b)) holds is.denotes ∙ replaced_is b c;
        only = replaced_within b c;
      }

  pub replaced_shallow : (b : Bool) (c : Connective) (o : Option Clause) → HasOnly o (folded_literals b c) → IsShallow o
  replaced_shallow b c o only = only_shallow o (folded_literals b c) only (folded_shallow b c)

-- P and Q make a connective's call, which is not deep
pub pattern_called : (c : Connective) (left right : Term) → left ≡ p_term → right ≡ q_term → call (definition_of c).function (left ∷ right ∷ []) ≡ pattern_term c
pattern_called c left right l r = ap₂ (λ t u. call (definition_of c).function (t ∷ u ∷ [])) l r ∙ by_connective c
  where
    by_connective : (c : Connective) → call (definition_of c).function (p_term ∷ q_term ∷ []) ≡ pattern_term c
    by_connective And = refl
    by_connective Or = refl
    by_connective Implies = refl
    by_connective Iff = refl

pub pattern_depth : (c : Connective) → depth_of (pattern_term c) < depth_limit
unfolding number_of tree_depth
pattern_depth And = lit< tt
pattern_depth Or = lit< tt
pattern_depth Implies = lit< tt
pattern_depth Iff = lit< tt

pub p_depth : depth_of p_term < depth_limit
unfolding number_of tree_depth
p_depth = lit< tt

pub q_depth : depth_of q_term < depth_limit
unfolding number_of tree_depth
q_depth = lit< tt

-- the opening's only literal, and the sides of it
pub opening_is : (c : Connective) → opening (definition_of c) ≡ equal_term (pattern_term c) (definition_of c).body ∷ []
opening_is And = refl
opening_is Or = refl
opening_is Implies = refl
opening_is Iff = refl

pub opening_parts : (c : Connective) → parts_of (equal_term (pattern_term c) (definition_of c).body) ≡ pattern_term c ∷ (definition_of c).body ∷ []
unfolding number_of
opening_parts c = refl

-- the ids of a clause of known terms
pub count_ids : (bank : Content) (ids : List TermId) (ts : List Term) → terms_at bank ids ≡ ts → length ids ≡ length ts
count_ids bank ids ts e = sym (length-map ids (term_at bank)) ∙ ap length e

pub first_id : (bank : Content) (ids : List TermId) (t : Term) (rest : List Term) (d : TermId) → terms_at bank ids ≡ t ∷ rest → term_at bank (get_or ids 0 d) ≡ t
first_id bank [] t rest d e = absurd cc
first_id bank (a ∷ ids) t rest d e = cc

pub second_id : (bank : Content) (ids : List TermId) (t u : Term) (rest : List Term) (d : TermId) → terms_at bank ids ≡ t ∷ u ∷ rest → term_at bank (get_or ids 1 d) ≡ u
second_id bank [] t u rest d e = absurd cc
second_id bank (a ∷ []) t u rest d e = absurd cc
second_id bank (a ∷ b ∷ ids) t u rest d e = cc

pub some_ids : (bank : Content) (o : Option (List TermId)) (c : Clause) → option_map (terms_at bank) o ≡ Some c → IsSome o
some_ids bank None c e = absurd cc
some_ids bank (Some ids) c e = refl

pub ids_terms : (bank : Content) (o : Option (List TermId)) (c : Clause) (ids : List TermId) → option_map (terms_at bank) o ≡ Some c → o ≡ Some ids → terms_at bank ids ≡ c
ids_terms bank o c ids e h = let both : Some (terms_at bank ids) ≡ Some c = sym (ap (option_map (terms_at bank)) h) ∙ e in cc
