-- The instance of the rule of an axiom or a lemma, with its line.
use Rattle.std.proofs.Common.{◌≡◌, ◌≤◌, ℕ, true, Some, List, [], ◌∷◌, length, map, get_or, refl, sym, ap, ap₂, ◌∙◌, subst, inl, inr, arith}
use Rattle.std.specs.Prelude.{All, Vec}
use Rattle.std.specs.declared.alloc.Global.{Global}
use Rattle.nq_logic.specs.Terms.{Each, IsAmong, Name, Term, Variable, Substitution, substituted, value_at}
use Rattle.nq_logic.specs.Ground.{symbols_of}
use Rattle.nq_logic.specs.Histories.{History}
use Rattle.nq_logic.specs.RuleShapes.{rule_parts}
use Rattle.nq_logic.specs.Words.{equal_term, not_term}
use Rattle.nq_bank.specs.declared.node.TermId.{TermId}
use Rattle.nq_bank.specs.declared.node.Sym.{Sym}
use Rattle.nq_bank.specs.Content.{IsIdOf, IsNamed, Stands, term_at, terms_at, text_at}
use Rattle.nq_bank.proofs.Growth.{IsNamed-grown, Stands-grown, term_at-grown, terms_at-grown, text_at-grown}
use Rattle.nq_bank.proofs.Texts.{eq-bytes_eq}
use Rattle.nq_clause.specs.declared.substitution.Pair.{Pair}
use Rattle.nq_clause.specs.Substitution.{PairStands, substitution_at}
use Rattle.nq_bank.proofs.NodesLemmas.{All-head, All-tail}
use Rattle.nq_clause.proofs.SubstitutionLemmas.{pairs_grown, substitution_at-grown}
use Rattle.nq_proof.specs.Clauses.{Clause}
use Rattle.nq_proof.specs.Rules.{event_term, is_substitution, pair_terms}
use Rattle.nq_history.specs.declared.entry.Entry.{Entry}
use Rattle.nq_history.specs.Events.{events_at}
use Rattle.nq_history.proofs.HistoryLemmas.{events_at-grown}
use Rattle.nq_kernel.specs.declared.work.Work.{Work}
use Rattle.nq_kernel.specs.Growing.{WorkGrows, WorkStands}
use Rattle.nq_kernel.specs.Over.{IsTermOf, IsVariable, pair_names}
use Rattle.nq_lines.specs.Instances.{ArePairsIn}
use Rattle.nq_lines.specs.Lines.{IsTermIn, LineHasOnly}
use Rattle.nq_lines.proofs.FactLemmas.{substituted_over}
use Rattle.nq_lines.proofs.TermLemmas.{IsOver, same_term_grown, term_grown}
use Rattle.nq_goals.specs.Eliminating.{Eliminating, hypotheses_of, other_variables, renaming, renaming_of}
use Rattle.nq_moves.proofs.ClosingLemmas.{each_over}
use Rattle.nq_moves.proofs.OverLemmas.{ids_in}
use Rattle.nq_moves.proofs.SwappedLemmas.{goal_in_grown, goal_same}
use Rattle.nq_eliminate.specs.Filling.{IsFilled, IsFilling}
use Rattle.nq_eliminate.specs.Instances.{IsInstance, equation_of}
use Rattle.nq_eliminate.specs.declared.rule_instances.Filled.{Filled}
use Rattle.nq_eliminate.specs.declared.rule_instances.Filling.{Filling}
use Rattle.nq_eliminate.proofs.Fresh.{value_here}
use Rattle.nq_eliminate.proofs.ImageLemmas.{same_head, same_tail}
use Rattle.nq_eliminate.proofs.IdLemmas.{some_ids}

-- ---- pairs, however the work grows

module _ (history : List Entry) (w w1 : Work) (stood : WorkStands history w) (grows : WorkGrows history w w1) where
  pub over_grown : (t : Term) → IsOver history w t → IsOver history w1 t
  over_grown t h = subst (λ es. IsTermOf IsVariable (symbols_of es) t) (sym (events_at-grown w.bank w1.bank grows.bank history stood.history.entries)) h

  all_grown : (ts : List Term) → Each (IsOver history w) ts → Each (IsOver history w1) ts
  all_grown [] each = tt
  all_grown (t ∷ ts) each = (over_grown t each.0, all_grown ts each.1)

  pub pairs_still : (pairs : List Pair) → ArePairsIn history w pairs → ArePairsIn history w1 pairs
  pairs_still pairs is =
      let same : substitution_at w1.bank pairs ≡ substitution_at w.bank pairs = substitution_at-grown w.bank w1.bank pairs grows.bank is.stand in
      record {
        stand = pairs_grown w.bank w1.bank pairs grows.bank is.stand;
        distinct = subst (λ s. is_substitution s ≡ true) (sym same) is.distinct;
        terms = subst (λ s. Each (IsOver history w1) (pair_terms s)) (sym same) (all_grown (pair_terms (substitution_at w.bank pairs)) is.terms);
        names = subst (λ s. Each IsVariable (pair_names s)) (sym same) is.names;
      }

-- ---- the terms and the line of the instance

module _ (history : List Entry) (w w1 : Work) (stood : WorkStands history w) (grows : WorkGrows history w w1) (e : Eliminating) (p : Filling) (is : IsFilling history w e p) where
  put_over : (t : Term) → IsOver history w t → IsOver history w (substituted (substitution_at w.bank p.pairs.items) t)
  put_over t h = substituted_over IsVariable (symbols_of (events_at w.bank history)) (substitution_at w.bank p.pairs.items) t is.pairs.terms h

  still_over : (t : Term) → IsOver history w t → IsOver history w1 t
  still_over = over_grown history w w1 stood grows

  made_over : (ts us : List Term) → us ≡ map (substituted (substitution_at w.bank p.pairs.items)) ts → ((t : Term) → IsAmong t ts → IsOver history w t) → (u : Term) → IsAmong u us → IsOver history w1 u
  made_over ts us are each u m = go ts each (subst (IsAmong u) are m)
    where
      go : (vs : List Term) → ((t : Term) → IsAmong t vs → IsOver history w t) → IsAmong u (map (substituted (substitution_at w.bank p.pairs.items)) vs) → IsOver history w1 u
      go [] f n = absurd n
      go (v ∷ vs) f (inl same) = subst (IsOver history w1) (sym same) (still_over _ (put_over v (f v (inl refl))))
      go (v ∷ vs) f (inr n) = go vs (λ t k. f t (inr k)) n

  pub filled_made : (whole : TermId) (calls hyps : Vec TermId Global) → IsIdOf w1.bank whole (substituted (substitution_at w.bank p.pairs.items) (term_at w.bank p.made_of)) →
      All (Stands w1.bank) calls.items → terms_at w1.bank calls.items ≡ map (substituted (substitution_at w.bank p.pairs.items)) (terms_at w.bank p.destructors.items) →
      All (Stands w1.bank) hyps.items → terms_at w1.bank hyps.items ≡ map (substituted (substitution_at w.bank p.pairs.items)) (terms_at w.bank p.hypotheses.items) → IsFilled history w1 e (record { whole = whole; calls = calls; hypotheses = hyps })
  filled_made whole calls hyps id calls_stand calls_are hyps_stand hyps_are =
      record {
        whole = record { stands = id.stands; over = subst (IsOver history w1) (sym id.denotes) (still_over _ (put_over (term_at w.bank p.made_of) is.made_of.over)) };
        whole_is = id.denotes ∙ ap₂ (λ (s : Substitution) (t : Term). substituted s t) is.pairs_are is.made_of_is;
        calls = ids_in history w1 calls.items calls_stand (made_over (terms_at w.bank p.destructors.items) (terms_at w1.bank calls.items) calls_are (each_over history w p.destructors.items is.destructors));
        calls_are = calls_are ∙ ap₂ (λ (s : Substitution) (ts : List Term). map (substituted s) ts) is.pairs_are is.destructors_are;
        hypotheses = ids_in history w1 hyps.items hyps_stand (made_over (terms_at w.bank p.hypotheses.items) (terms_at w1.bank hyps.items) hyps_are (each_over history w p.hypotheses.items is.hypotheses));
        hypotheses_are = hyps_are ∙ ap₂ (λ (s : Substitution) (ts : List Term). map (substituted s) ts) is.pairs_are is.hypotheses_are;
      }

  pub filling_grown : IsFilling history w1 e p
  filling_grown =
      record {
        name = IsNamed-grown w.bank w1.bank p.name grows.bank is.name;
        event = ap₂ (λ (x : Name) (es : History). event_term x es) (text_at-grown w.bank w1.bank p.name grows.bank is.name) (events_at-grown w.bank w1.bank grows.bank history stood.history.entries) ∙ (is.event ∙ ap Some (sym same));
        term = term_grown history w w1 p.term stood grows is.term;
        conclusion = ap (λ a. (rule_parts a).conclusion) same ∙ is.conclusion;
        under = ap (λ a. (rule_parts a).hypotheses) same ∙ is.under;
        made_of = term_grown history w w1 p.made_of stood grows is.made_of;
        made_of_is = same_term_grown history w w1 p.made_of grows is.made_of ∙ is.made_of_is;
        destructors = goal_in_grown history w w1 stood grows p.destructors.items is.destructors;
        destructors_are = goal_same history w w1 stood grows p.destructors.items is.destructors ∙ is.destructors_are;
        hypotheses = goal_in_grown history w w1 stood grows p.hypotheses.items is.hypotheses;
        hypotheses_are = goal_same history w w1 stood grows p.hypotheses.items is.hypotheses ∙ is.hypotheses_are;
        named = goal_in_grown history w w1 stood grows p.named.items is.named;
        named_are = goal_same history w w1 stood grows p.named.items is.named ∙ is.named_are;
        pairs = pairs_still history w w1 stood grows p.pairs.items is.pairs;
        pairs_are = pairs_same ∙ is.pairs_are;
      }
    where
      same : term_at w1.bank p.term ≡ term_at w.bank p.term
      same = same_term_grown history w w1 p.term grows is.term

      pairs_same : substitution_at w1.bank p.pairs.items ≡ substitution_at w.bank p.pairs.items
      pairs_same = substitution_at-grown w.bank w1.bank p.pairs.items grows.bank is.pairs.stand

-- what pairs put into terms is the same, however the work grows
pub put_still : (history : List Entry) (w wi wj last : Work) (stood : WorkStands history w) (grows : WorkGrows history w wi) (on : WorkGrows history wj last) (pairs : List Pair) (ids made : List TermId) → All (PairStands w.bank) pairs → All (IsTermIn history w) ids → All (Stands wj.bank) made →
    terms_at wj.bank made ≡ map (substituted (substitution_at wi.bank pairs)) (terms_at wi.bank ids) → terms_at last.bank made ≡ map (substituted (substitution_at w.bank pairs)) (terms_at w.bank ids)
put_still history w wi wj last stood grows on pairs ids made stand over made_stand put =
    terms_at-grown wj.bank last.bank made on.bank made_stand
    ∙ (put ∙ ap₂ (λ (s : Substitution) (ts : List Term). map (substituted s) ts) (substitution_at-grown w.bank wi.bank pairs grows.bank stand) (goal_same history w wi stood grows ids over))

pub id_still : (history : List Entry) (wj last : Work) (on : WorkGrows history wj last) (r : TermId) (t u : Term) → IsIdOf wj.bank r t → t ≡ u → IsIdOf last.bank r u
id_still history wj last on r t u id same = record { stands = Stands-grown wj.bank last.bank r on.bank id.stands; denotes = term_at-grown wj.bank last.bank r on.bank id.stands ∙ (id.denotes ∙ same) }

-- the line of the instance
map_twice : (f g : Term → Term) (c : Clause) → ((t : Term) → f (g t) ≡ g (f t)) → map f (map g c) ≡ map g (map f c)
map_twice f g [] same = refl
map_twice f g (t ∷ c) same = ap₂ (λ (u : Term) (d : Clause). u ∷ d) (same t) (map_twice f g c same)

pub line_told : (history : List Entry) (w last : Work) (e : Eliminating) (p : Filling) (n : ℕ) → IsFilling history w e p → LineHasOnly last n (map (substituted (substitution_at w.bank p.pairs.items)) ((rule_parts (term_at w.bank p.term)).conclusion ∷ map not_term (rule_parts (term_at w.bank p.term)).hypotheses)) →
    LineHasOnly last n (equation_of e ∷ map not_term (hypotheses_of e))
line_told history w last e p n is line =
    let f = substituted (renaming_of e) in
    let told : LineHasOnly last n (map f (equal_term e.rule.made_of (Variable e.rule.variable) ∷ map not_term e.rule.hypotheses)) =
    subst (λ s. LineHasOnly last n (map (substituted s) (equal_term e.rule.made_of (Variable e.rule.variable) ∷ map not_term e.rule.hypotheses))) is.pairs_are
    (subst (λ hs. LineHasOnly last n (map (substituted (substitution_at w.bank p.pairs.items)) (equal_term e.rule.made_of (Variable e.rule.variable) ∷ map not_term hs))) is.under
    (subst (λ t. LineHasOnly last n (map (substituted (substitution_at w.bank p.pairs.items)) (t ∷ map not_term (rule_parts (term_at w.bank p.term)).hypotheses))) is.conclusion line)) in
    let first : f (equal_term e.rule.made_of (Variable e.rule.variable)) ≡ equation_of e = ap (equal_term (f e.rule.made_of)) (own_value e) in
    subst (λ t. LineHasOnly last n (t ∷ map not_term (hypotheses_of e))) first
    (subst (λ c. LineHasOnly last n (f (equal_term e.rule.made_of (Variable e.rule.variable)) ∷ c)) (map_twice f not_term e.rule.hypotheses (λ t. refl)) told)
  where
    own_value : (e : Eliminating) → value_at (renaming_of e) e.rule.variable ≡ Variable e.variable
    own_value e = value_here e.rule.variable e.rule.variable e.variable (renaming (other_variables e.rule) e.others) (eq-bytes_eq e.rule.variable e.rule.variable refl)

-- the instance
pub instance_filled : (history : List Entry) (w w1 last : Work) (stood : WorkStands history w) (grows : WorkGrows history w last) (on : WorkGrows history w1 last) (e : Eliminating) (p : Filling) → IsFilling history w e p → (m : Filled) → WorkStands history w1 → IsFilled history w1 e m →
    (variable : TermId) (others : Vec TermId Global) → p.named.items ≡ variable ∷ others.items → (name : Sym) → IsNamed last.bank name → ((x : Name) → term_at last.bank variable ≡ Variable x → text_at last.bank name ≡ x) → (n : ℕ) → LineHasOnly last n (equation_of e ∷ map not_term (hypotheses_of e)) →
    IsInstance history last e (record { name = name; variable = variable; others = others; whole = m.whole; calls = m.calls; hypotheses = m.hypotheses; line = n })
instance_filled history w w1 last stood grows on e p is m stands made variable others split name named names n line =
    let all_named : All (IsTermIn history last) (variable ∷ others.items) = subst (All (IsTermIn history last)) split (goal_in_grown history w last stood grows p.named.items is.named) in
    let told : term_at last.bank variable ∷ terms_at last.bank others.items ≡ Variable e.variable ∷ map Variable e.others =
    ap (terms_at last.bank) (sym split) ∙ (goal_same history w last stood grows p.named.items is.named ∙ is.named_are) in
    let first : term_at last.bank variable ≡ Variable e.variable = same_head (term_at last.bank variable) (Variable e.variable) (terms_at last.bank others.items) (map Variable e.others) told in
    record {
      name = named;
      named = names e.variable first;
      variable = All-head (IsTermIn history last) variable others.items all_named;
      variable_is = first;
      others = All-tail (IsTermIn history last) variable others.items all_named;
      others_are = same_tail (term_at last.bank variable) (Variable e.variable) (terms_at last.bank others.items) (map Variable e.others) told;
      whole = term_grown history w1 last m.whole stands on made.whole;
      whole_is = same_term_grown history w1 last m.whole on made.whole ∙ made.whole_is;
      calls = goal_in_grown history w1 last stands on m.calls.items made.calls;
      calls_are = goal_same history w1 last stands on m.calls.items made.calls ∙ made.calls_are;
      hypotheses = goal_in_grown history w1 last stands on m.hypotheses.items made.hypotheses;
      hypotheses_are = goal_same history w1 last stands on m.hypotheses.items made.hypotheses ∙ made.hypotheses_are;
      says = line;
    }

-- what the eliminated variable becomes stands
pub first_stands : (history : List Entry) (w last : Work) (stood : WorkStands history w) (grows : WorkGrows history w last) (e : Eliminating) (p : Filling) → IsFilling history w e p → (i : TermId) → i ≡ get_or p.named.items 0 i → Stands last.bank i
first_stands history w last stood grows e p is i at =
    let all : All (IsTermIn history last) p.named.items = goal_in_grown history w last stood grows p.named.items is.named in
    let some : 1 ≤ length p.named.items = some_ids w.bank p.named.items (Variable e.variable) (map Variable e.others) is.named_are in
    subst (Stands last.bank) (sym at) (all 0 i (omega (arith, some))).stands
