-- Terms over the functions of a history, with variables that a log can spell.
use Rattle.std.proofs.Common.{◌≡◌, ◌∷◌, [], ◌++◌, ℕ, Bool, true, false, Option, Some, None, List, refl, sym, subst, inl, inr}
use Rattle.std.specs.Prelude.{codes, bytes_eq, if◌then◌else◌, Vec}
use Rattle.std.specs.declared.alloc.Global.{Global}
use Rattle.nq_logic.specs.Terms.{Name, Symbol, Term, Variable, Function, Applied, IsAmong, Each}
use Rattle.nq_logic.specs.Histories.{History}
use Rattle.nq_logic.specs.Ground.{symbols_of}
use Rattle.nq_logic.specs.Words.{not_term, if_term, equal_term}
use Rattle.nq_logic.proofs.Symbols.{true_symbol, false_symbol, equal_symbol, if_symbol, not_symbol, and_symbol, or_symbol, implies_symbol, iff_symbol}
use Rattle.nq_bank.specs.declared.node.TermId.{TermId}
use Rattle.nq_bank.specs.Content.{Content, Stands, IsIdOf, Grows, term_at, terms_at}
use Rattle.nq_bank.proofs.Growth.{term_at-grown}
use Rattle.nq_clause.specs.declared.substitution.Pair.{Pair}
use Rattle.nq_clause.specs.Substitution.{substitution_at}
use Rattle.nq_proof.specs.Rules as tree
use Rattle.nq_history.specs.declared.entry.Entry.{Entry}
use Rattle.nq_history.specs.Events.{events_at, HistoryStands}
use Rattle.nq_history.proofs.HistoryLemmas.{events_at-grown, history_grown}
use Rattle.nq_rule.specs.declared.branching.Branches.{Branches}
use Rattle.nq_kernel.specs.declared.rule.Rule.TheVariants.{Taut, Instance}
use Rattle.nq_kernel.specs.Over.{IsVariable, IsTermOf, RuleIsOver, TermIsIn, RuleIsIn}
use Rattle.nq_fragments.specs.declared.connective.Connective.{Connective}
use Rattle.nq_fragments.specs.declared.connective.Connective.TheVariants.{And, Or, Implies, Iff}
use Rattle.nq_fragments.specs.Propositions.{Other, Truth, Falsity, Choice, Denial, proposition_of, connective_of, joined_by, others_in}
use Rattle.nq_quick.specs.Heads.{joined_term}
use Rattle.nq_quick.specs.Choices.{branch_of}
use Rattle.nq_quick.specs.Lines.{definition_of, if_at}
use Rattle.nq_quick.specs.Patterns.{pattern_term, IsPair}
use Rattle.nq_quick.specs.Decisions.{IsInHistory}
use Rattle.nq_quick.proofs.LineLemmas.{among_either}

module _ (symbols : List Symbol) where
  abbrev pub IsOver : Term → Type 0
  IsOver t = IsTermOf IsVariable symbols t

  -- the parts of a call
  pub part_of_one : (f : Name) (p : Term) → IsOver (Applied (Function f) p) → IsOver p
  part_of_one f p h = record { over = h.over.1; variables = h.variables.1 }

  pub parts_of_two : (f : Name) (p q : Term) → IsOver (Applied (Applied (Function f) p) q) → IsOver p × IsOver q
  parts_of_two f p q h = (record { over = h.over.0.1; variables = h.variables.0.1 }, record { over = h.over.1; variables = h.variables.1 })

  pub parts_of_three : (f : Name) (p q r : Term) → IsOver (Applied (Applied (Applied (Function f) p) q) r) → IsOver p × IsOver q × IsOver r
  parts_of_three f p q r h = (record { over = h.over.0.0.1; variables = h.variables.0.0.1 }, record { over = h.over.0.1; variables = h.variables.0.1 }, record { over = h.over.1; variables = h.variables.1 })

  pub parts_of_joined : (c : Connective) (p q : Term) → IsOver (joined_term c p q) → IsOver p × IsOver q
  parts_of_joined And p q h = parts_of_two (codes "AND") p q h
  parts_of_joined Or p q h = parts_of_two (codes "OR") p q h
  parts_of_joined Implies p q h = parts_of_two (codes "IMPLIES") p q h
  parts_of_joined Iff p q h = parts_of_two (codes "IFF") p q h

  itself_over : (t u : Term) → IsOver t → IsAmong u (t ∷ []) → IsOver u
  itself_over t u h m = elim m [ inl e ↦ subst IsOver (sym e) h | inr none ↦ absurd none ]

  constant_over : (f : List ℕ) (u : Term) (b c : Bool) → IsOver (Function f) → IsAmong u (others_in (if b then Truth else if c then Falsity else Other (Function f))) → IsOver u
  constant_over f u true c h m = absurd m
  constant_over f u false true h m = absurd m
  constant_over f u false false h m = itself_over (Function f) u h m

  -- the other terms of a proposition
  pub others_over : (t u : Term) → IsOver t → IsAmong u (others_in (proposition_of t)) → IsOver u
  unfolding proposition_of
  others_over (Variable x) u h m = itself_over (Variable x) u h m
  others_over (Function f) u h m = constant_over f u (bytes_eq f (codes "TRUE")) (bytes_eq f (codes "FALSE")) h m
  others_over (Applied (Variable z) p) u h m = itself_over (Applied (Variable z) p) u h m
  others_over (Applied (Function f) p) u h m = by_test (others_over p u (part_of_one f p h)) (bytes_eq f (codes "NOT")) m
    where
      by_test : (IsAmong u (others_in (proposition_of p)) → IsOver u) → (b : Bool) → IsAmong u (others_in (if b then Denial (proposition_of p) else Other (Applied (Function f) p))) → IsOver u
      by_test rest false m = itself_over (Applied (Function f) p) u h m
      by_test rest true m = rest m
  others_over (Applied (Applied (Variable z) p) q) u h m = itself_over (Applied (Applied (Variable z) p) q) u h m
  others_over (Applied (Applied (Function f) p) q) u h m = by_name (others_over p u (parts_of_two f p q h).0) (others_over q u (parts_of_two f p q h).1) (connective_of f) m
    where
      whole : Term
      whole = Applied (Applied (Function f) p) q

      by_name : (IsAmong u (others_in (proposition_of p)) → IsOver u) → (IsAmong u (others_in (proposition_of q)) → IsOver u) → (o : Option Connective) → IsAmong u (others_in (joined_by o whole (proposition_of p) (proposition_of q))) → IsOver u
      by_name left right None m = itself_over whole u h m
      by_name left right (Some c) m = elim (among_either u (others_in (proposition_of p)) (others_in (proposition_of q)) m) [ inl k ↦ left k | inr k ↦ right k ]
  others_over (Applied (Applied (Applied (Variable z) p) q) r) u h m = itself_over (Applied (Applied (Applied (Variable z) p) q) r) u h m
  others_over (Applied (Applied (Applied (Applied t o) p) q) r) u h m = itself_over (Applied (Applied (Applied (Applied t o) p) q) r) u h m
  others_over (Applied (Applied (Applied (Function f) p) q) r) u h m =
      by_test (others_over p u (parts_of_three f p q r h).0) (others_over q u (parts_of_three f p q r h).1) (others_over r u (parts_of_three f p q r h).2) (bytes_eq f (codes "IF")) m
    where
      whole : Term
      whole = Applied (Applied (Applied (Function f) p) q) r

      by_test : (IsAmong u (others_in (proposition_of p)) → IsOver u) → (IsAmong u (others_in (proposition_of q)) → IsOver u) → (IsAmong u (others_in (proposition_of r)) → IsOver u) → (b : Bool) → IsAmong u (others_in (if b then Choice (proposition_of p) (proposition_of q) (proposition_of r) else Other whole)) → IsOver u
      by_test test first second false m = itself_over whole u h m
      by_test test first second true m =
          elim (among_either u (others_in (proposition_of p)) (others_in (proposition_of q) ++ others_in (proposition_of r)) m) [
            | inl k ↦ test k
            | inr k ↦ elim (among_either u (others_in (proposition_of q)) (others_in (proposition_of r)) k) [ inl l ↦ first l | inr l ↦ second l ]
          ]

p_plain : IsVariable (codes "P")
p_plain = record { symbol = refl; other = refl }

q_plain : IsVariable (codes "Q")
q_plain = record { symbol = refl; other = refl }

-- the terms of the connectives over P and Q
module _ (h : History) where
  pub pattern_over : (c : Connective) → IsOver (symbols_of h) (pattern_term c)
  pattern_over And = record { over = ((and_symbol h, tt), tt); variables = ((tt, p_plain), q_plain) }
  pattern_over Or = record { over = ((or_symbol h, tt), tt); variables = ((tt, p_plain), q_plain) }
  pattern_over Implies = record { over = ((implies_symbol h, tt), tt); variables = ((tt, p_plain), q_plain) }
  pattern_over Iff = record { over = ((iff_symbol h, tt), tt); variables = ((tt, p_plain), q_plain) }

  pub body_over : (c : Connective) → IsOver (symbols_of h) (definition_of c).body
  body_over And = record { over = (((if_symbol h, tt), (((if_symbol h, tt), true_symbol h), false_symbol h)), false_symbol h); variables = (((tt, p_plain), (((tt, q_plain), tt), tt)), tt) }
  body_over Or = record { over = (((if_symbol h, tt), true_symbol h), (((if_symbol h, tt), true_symbol h), false_symbol h)); variables = (((tt, p_plain), tt), (((tt, q_plain), tt), tt)) }
  body_over Implies = record { over = (((if_symbol h, tt), (((if_symbol h, tt), true_symbol h), false_symbol h)), true_symbol h); variables = (((tt, p_plain), (((tt, q_plain), tt), tt)), tt) }
  body_over Iff = record { over = (((if_symbol h, tt), (((if_symbol h, tt), true_symbol h), false_symbol h)), (((if_symbol h, tt), false_symbol h), true_symbol h)); variables = (((tt, p_plain), (((tt, q_plain), tt), tt)), (((tt, q_plain), tt), tt)) }

  pub equation_over : (c : Connective) → IsOver (symbols_of h) (equal_term (pattern_term c) (definition_of c).body)
  equation_over c = let left = pattern_over c in let right = body_over c in record { over = ((equal_symbol h, left.over), right.over); variables = ((tt, left.variables), right.variables) }

  pub not_over : (t : Term) → IsOver (symbols_of h) t → IsOver (symbols_of h) (not_term t)
  not_over t k = record { over = (not_symbol h, k.over); variables = (tt, k.variables) }

-- a term that is in stays so as the bank grows
pub term_in_grown : (old new : Content) (history : List Entry) (t : TermId) → Grows old new → HistoryStands old history → Stands old t → TermIsIn old history t → TermIsIn new history t
term_in_grown old new history t h stands there over =
    subst (λ u. IsOver (symbols_of (events_at new history)) u) (sym (term_at-grown old new t h there)) (
    subst (λ es. IsOver (symbols_of es) (term_at old t)) (sym (events_at-grown old new h history stands.entries)) over)

pub in_grown : (old new : Content) (history : List Entry) (t : TermId) → Grows old new → Stands old t → IsInHistory old history t → IsInHistory new history t
in_grown old new history t h there k = record { stands = history_grown old new h history k.stands; over = term_in_grown old new history t h k.stands there k.over }

module _ (bank : Content) (history : List Entry) where
  abbrev symbols : List Symbol
  symbols = symbols_of (events_at bank history)

  pub id_in : (t : TermId) (u : Term) → IsIdOf bank t u → IsOver symbols u → TermIsIn bank history t
  id_in t u is over = subst (IsOver symbols) (sym is.denotes) over

  pub pattern_in : (c : Connective) (t : TermId) → IsIdOf bank t (pattern_term c) → TermIsIn bank history t
  pattern_in c t is = id_in t (pattern_term c) is (pattern_over (events_at bank history) c)

  pub body_in : (c : Connective) (t : TermId) → IsIdOf bank t (definition_of c).body → TermIsIn bank history t
  body_in c t is = id_in t (definition_of c).body is (body_over (events_at bank history) c)

  pub equation_in : (c : Connective) (t : TermId) → IsIdOf bank t (equal_term (pattern_term c) (definition_of c).body) → TermIsIn bank history t
  equation_in c t is = id_in t (equal_term (pattern_term c) (definition_of c).body) is (equation_over (events_at bank history) c)

  -- the parts of a term that is in
  pub choice_over : (t : TermId) (p x y : Term) → term_at bank t ≡ if_term p x y → TermIsIn bank history t → IsOver symbols p × IsOver symbols x × IsOver symbols y
  choice_over t p x y e over = parts_of_three symbols (codes "IF") p x y (subst (IsOver symbols) e over)

  pub branch_in : (t : TermId) (parts : Branches) (test : Bool) → term_at bank t ≡ if_at bank parts → TermIsIn bank history t → TermIsIn bank history (branch_of parts test)
  branch_in t parts true e over = (choice_over t (term_at bank parts.test) (term_at bank parts.first) (term_at bank parts.second) e over).1
  branch_in t parts false e over = (choice_over t (term_at bank parts.test) (term_at bank parts.first) (term_at bank parts.second) e over).2

  pub denial_over : (t : TermId) (p : Term) → term_at bank t ≡ not_term p → TermIsIn bank history t → IsOver symbols p
  denial_over t p e over = part_of_one symbols (codes "NOT") p (subst (IsOver symbols) e over)

  pub joined_over : (t : TermId) (c : Connective) (p q : Term) → term_at bank t ≡ joined_term c p q → TermIsIn bank history t → IsOver symbols p × IsOver symbols q
  joined_over t c p q e over = parts_of_joined symbols c p q (subst (IsOver symbols) e over)

  -- rules over terms that are in
  pub opposites_in : (terms : Vec TermId Global) (t denied : TermId) → terms.items ≡ t ∷ denied ∷ [] → IsIdOf bank denied (not_term (term_at bank t)) → TermIsIn bank history t → RuleIsIn bank history (Taut terms)
  opposites_in terms t denied e is over =
      let not : TermIsIn bank history denied = id_in denied (not_term (term_at bank t)) is (not_over (events_at bank history) (term_at bank t) over) in
      record { terms = subst (λ ids. Each (IsOver symbols) (terms_at bank ids)) (sym e) (over, (not, tt)); names = tt }

  pub instance_in : (line : ℕ) (pairs : Vec Pair Global) (first second : Pair) (t : TermId) (c : Connective) → pairs.items ≡ first ∷ second ∷ [] → IsPair bank first (codes "P") → IsPair bank second (codes "Q") → term_at bank t ≡ joined_term c (term_at bank first.term) (term_at bank second.term) → TermIsIn bank history t → RuleIsIn bank history (Instance line pairs)
  instance_in line pairs first second t c e left right is over =
      let parts = joined_over t c (term_at bank first.term) (term_at bank second.term) is over in
      subst (λ ps. RuleIsOver IsVariable symbols (tree.Instance line (substitution_at bank ps))) (sym e)
      (record { terms = (parts.0, (parts.1, tt)); names = (subst IsVariable (sym left.name.reads) p_plain, (subst IsVariable (sym right.name.reads) q_plain, tt)) })
