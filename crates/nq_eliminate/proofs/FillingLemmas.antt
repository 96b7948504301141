-- What the instance of the rule of an axiom or a lemma is made of.
use Rattle.std.proofs.Common.{◌≡◌, suc, true, false, ◌&&◌, Some, List, ◌∷◌, length, map, drop, refl, sym, ap, ap₂, ◌∙◌, subst, inl, inr}
use Rattle.std.specs.Prelude.{All, bytes_eq}
use Rattle.std.proofs.lemmas.List.{length-map}
use Rattle.nq_logic.specs.Terms.{Each, IsAmong, Name, Symbol, Term, Variable}
use Rattle.nq_logic.specs.Ground.{all_events, ground_history, symbols_of}
use Rattle.nq_logic.specs.Histories.{History, Axiom, Lemma}
use Rattle.nq_logic.specs.RuleShapes.{rule_parts}
use Rattle.nq_logic.specs.Values.{is_value}
use Rattle.nq_logic.specs.Words.{equal_term}
use Rattle.nq_logic.proofs.Lists.{among_right}
use Rattle.nq_bank.specs.declared.node.TermId.{TermId}
use Rattle.nq_bank.specs.Content.{IsNamed, Stands, term_at, terms_at, text_at}
use Rattle.nq_bank.specs.Parts.{parts_of}
use Rattle.nq_bank.proofs.Growth.{IsNamed-grown, text_at-grown}
use Rattle.nq_bank.proofs.Texts.{eq-bytes_eq}
use Rattle.nq_clause.specs.Substitution.{PairStands, substitution_at}
use Rattle.nq_proof.specs.Clauses.{Clause, distinct}
use Rattle.nq_proof.specs.Rules.{are_distinct, event_term, is_substitution, pair_terms}
use Rattle.nq_events.specs.Events.{Hints}
use Rattle.nq_history.specs.declared.entry.Entry.{Entry}
use Rattle.nq_history.specs.Events.{events_at}
use Rattle.nq_history.proofs.HistoryLemmas.{events_at-grown}
use Rattle.nq_kernel.specs.declared.work.Work.{Work}
use Rattle.nq_kernel.specs.Growing.{WorkGrows, WorkStands}
use Rattle.nq_kernel.specs.Over.{IsVariable, VariablesAre, pair_names}
use Rattle.nq_kernel.specs.Ready.{IsReady}
use Rattle.nq_lines.specs.Instances.{ArePairsIn}
use Rattle.nq_lines.specs.Lines.{IsTermIn}
use Rattle.nq_lines.specs.OwnTerms.{HasOwnTerms}
use Rattle.nq_lines.proofs.TermLemmas.{IsOver, same_term_grown, term_grown}
use Rattle.nq_goals.specs.Eliminating.{ElimRule, Eliminating, EliminateCandidate, destructors, elim_rules, has_elim, other_variables, renaming, renaming_of, rule_of_parts}
use Rattle.nq_goals.specs.Hints.{is_enabled_for}
use Rattle.nq_goals.specs.NewVariables.{clause_variables}
use Rattle.nq_stuck.proofs.StandingLemmas.{one_among}
use Rattle.nq_moves.proofs.ClosingLemmas.{each_over}
use Rattle.nq_moves.proofs.OverLemmas.{ids_in}
use Rattle.nq_moves.proofs.SwappedLemmas.{goal_in_grown, goal_same}
use Rattle.nq_eliminate.specs.Choosing.{chosen_at, names_of, new_names, rule_variables}
use Rattle.nq_eliminate.specs.Filling.{IsFilling, images_named}
use Rattle.nq_eliminate.specs.Finding.{HasNoneOfEvents, IsCandidate, events_own_rules, rule_at}
use Rattle.nq_eliminate.specs.Naming.{images_for}
use Rattle.nq_eliminate.specs.declared.finding.Candidate.{Candidate}
use Rattle.nq_eliminate.specs.declared.rule_instances.Filling.{Filling}
use Rattle.nq_eliminate.proofs.ChosenLemmas.{chosen_candidate, chosen_is, from_is, other, other_candidate, other_names, to_is}
use Rattle.nq_eliminate.proofs.EventLemmas.{term_found}
use Rattle.nq_eliminate.proofs.CandidateLemmas.{apart_from, destructor_is}
use Rattle.nq_eliminate.proofs.NamingLemmas.{images_named as images_are_names, names_distinct, renaming_names, renaming_terms, variables_once, variables_over}
use Rattle.nq_eliminate.proofs.PlainLemmas.{each_from}
use Rattle.nq_eliminate.proofs.RuleLemmas.{of_event_own, of_own, wanted_rule}
use Rattle.nq_eliminate.proofs.PartLemmas.{IsIn, PartsOver, each_name, mapped_variable, names_within, part_over, parts_over, rule_over, variables_kind}
use Rattle.nq_eliminate.proofs.IdLemmas.{drop_all_in, each_value, other_terms}

-- ---- the candidate

module _ (history : List Entry) (w : Work) (goal : List TermId) (over : All (IsTermIn history w) goal) (ready : IsReady (events_at w.bank history)) (own : HasOwnTerms (events_at w.bank history)) (c : Candidate) (hints : Hints) (is : IsCandidate w.bank (events_at w.bank history) hints (terms_at w.bank goal) (events_at w.bank history) c) where
  abbrev h : History
  h = events_at w.bank history

  abbrev g : Clause
  g = terms_at w.bank goal

  abbrev t : Term
  t = term_at w.bank c.term

  abbrev rule : ElimRule
  rule = rule_at w.bank t c.served.rule

  abbrev d : Term
  d = term_at w.bank c.served.destructor

  abbrev u : Term
  u = term_at w.bank c.served.call

  abbrev symbols : List Symbol
  symbols = symbols_of h

  pub event : event_term (text_at w.bank c.name) h ≡ Some t
  event = term_found h (text_at w.bank c.name) is.classes t ready is.among

  pub term_in : IsTermIn history w c.term
  term_in = record { stands = is.term; over = own.events (text_at w.bank c.name) t event }

  parts : PartsOver symbols t
  parts = rule_over symbols t term_in.over

  equation_over : IsIn symbols (equal_term rule.made_of (Variable rule.variable))
  equation_over = subst (IsIn symbols) is.serves.serves.rule.conclusion parts.conclusion

  pub made_of_over : IsIn symbols rule.made_of
  made_of_over = record { over = equation_over.over.0.1; variables = equation_over.variables.0.1 }

  variable_over : IsVariable rule.variable
  variable_over = equation_over.variables.1

  pub destructor_over : (a : Term) → IsAmong a (destructors rule) → IsIn symbols a
  destructor_over a m = part_over symbols rule.made_of a made_of_over (destructor_is rule a m).part

  pub hypothesis_over : (a : Term) → IsAmong a rule.hypotheses → IsIn symbols a
  hypothesis_over a m = parts.hypotheses a m

  pub names_are : (x : Name) → IsAmong x (rule_variables rule) → IsVariable x
  names_are x (inl e) = subst IsVariable (sym e) variable_over
  names_are x (inr m) =
      variables_kind x (rule.made_of ∷ rule.hypotheses) (λ a n. elim n [ inl same ↦ subst (VariablesAre IsVariable) (sym same) made_of_over.variables | inr k ↦ (hypothesis_over a k).variables ])
      (elim (names_within x (rule.variable ∷ clause_variables (rule.made_of ∷ rule.hypotheses)) (subst (IsAmong (Variable x)) (sym (variables_once (rule.variable ∷ clause_variables (rule.made_of ∷ rule.hypotheses)))) (mapped_variable (map Variable (rule_variables rule)) (rule_variables rule) x refl (inr m)))) [
        | inl own_one ↦ absurd (apart own_one)
        | inr there ↦ there
      ])
    where
      apart : x ≡ rule.variable → ⊥
      apart same =
          let other : bytes_eq x rule.variable ≡ false = apart_from x rule.variable _ m in
          let here : bytes_eq x rule.variable ≡ true = eq-bytes_eq x rule.variable same in
          absurd (cc)

  pub call_in : IsTermIn history w c.served.call
  call_in = record { stands = is.serves.serves.by.call; over = parts_over symbols g (each_over history w goal over) u (one_among u g is.serves.serves.by.served.stands) }

  own_rule : IsAmong rule (rule_of_parts (rule_parts t))
  own_rule = subst (IsAmong rule) (sym is.serves.serves.rule.rule) (inl refl)

  -- the rule is one of the history's axioms and lemmas
  own_among : IsAmong rule (events_own_rules h hints (all_events h))
  own_among = elim is.among [
    | inl axiom_one ↦ of_event_own h hints rule (Axiom (text_at w.bank c.name) is.classes t) (all_events h) (among_right (Axiom (text_at w.bank c.name) is.classes t) ground_history h axiom_one) (wanted_rule h hints rule (has_elim is.classes && is_enabled_for h hints (text_at w.bank c.name)) (rule_of_parts (rule_parts t)) is.serves.enabled own_rule)
    | inr lemma_one ↦ of_event_own h hints rule (Lemma (text_at w.bank c.name) is.classes t) (all_events h) (among_right (Lemma (text_at w.bank c.name) is.classes t) ground_history h lemma_one) (wanted_rule h hints rule (has_elim is.classes && is_enabled_for h hints (text_at w.bank c.name)) (rule_of_parts (rule_parts t)) is.serves.enabled own_rule)
  ]

  -- and enabled
  pub enabled : IsAmong rule (elim_rules h hints)
  enabled = of_own h hints rule (all_events h) own_among

  pub candidate : EliminateCandidate h hints g (chosen_at w.bank g c)
  candidate = chosen_candidate h hints g rule enabled d u is.serves.serves.by.among is.serves.serves.by.served

  abbrev e : Eliminating
  e = other h hints g rule enabled d u is.serves.serves.by.among is.serves.serves.by.served

  pub chosen_same : chosen_at w.bank g c ≡ e
  chosen_same = chosen_is h hints g rule enabled d u is.serves.serves.by.among is.serves.serves.by.served

  e_candidate : EliminateCandidate h hints g e
  e_candidate = other_candidate h hints g rule enabled d u is.serves.serves.by.among is.serves.serves.by.served

  -- what the variables become
  pub named_is : (own : List Term) → own ≡ map Variable (rule_variables rule) → images_named w.bank goal c.served own (length (other_variables rule)) ≡ map Variable (e.variable ∷ e.others)
  named_is own are =
      ap (λ ts. images_named w.bank goal c.served ts (length (other_variables rule))) are
      ∙ (ap₂ (λ (ts us : List Term). images_for ts us (map Variable (rule_variables rule)) (map Variable (new_names g rule))) first second
      ∙ (images_are_names (names_of (parts_of d)) (names_of (parts_of u)) (rule_variables rule) (new_names g rule)
      ∙ ap (map Variable) (sym (other_names h hints g rule enabled d u is.serves.serves.by.among is.serves.serves.by.served))))
    where
      first : parts_of d ≡ map Variable (names_of (parts_of d))
      first = from_is h hints g rule enabled d u is.serves.serves.by.among is.serves.serves.by.served

      second : parts_of u ≡ map Variable (names_of (parts_of u))
      second = to_is h hints g rule enabled d u is.serves.serves.by.among is.serves.serves.by.served

  -- the variables of the rule
  pub own_are : (ids hyps : List TermId) → terms_at w.bank hyps ≡ rule.hypotheses → terms_at w.bank ids ≡ distinct (map Variable (rule.variable ∷ clause_variables (rule.made_of ∷ terms_at w.bank hyps))) → terms_at w.bank ids ≡ map Variable (rule_variables rule)
  own_are ids hyps hyps_are once =
      once ∙ (ap (λ hs. distinct (map Variable (rule.variable ∷ clause_variables (rule.made_of ∷ hs)))) hyps_are ∙ variables_once (rule.variable ∷ clause_variables (rule.made_of ∷ rule.hypotheses)))

  pub own_in : (ids : List TermId) → All (Stands w.bank) ids → terms_at w.bank ids ≡ map Variable (rule_variables rule) → All (IsTermIn history w) ids
  own_in ids stand are = variables_over history w ids (rule_variables rule) stand are (each_name (rule_variables rule) names_are)

  pub others_values : (ids : List TermId) → terms_at w.bank ids ≡ map Variable (rule_variables rule) → All (λ a. is_value (term_at w.bank a) ≡ false) (drop 1 ids)
  others_values ids are = each_value w.bank (drop 1 ids) (other_variables rule) (other_terms w.bank ids rule.variable (other_variables rule) are)

  pub others_in : (ids : List TermId) → All (Stands w.bank) ids → terms_at w.bank ids ≡ map Variable (rule_variables rule) → All (IsTermIn history w) (drop 1 ids)
  others_in ids stand are = drop_all_in (IsTermIn history w) ids (own_in ids stand are)

  pub others_many : (ids : List TermId) → terms_at w.bank ids ≡ map Variable (rule_variables rule) → length (drop 1 ids) ≡ length (other_variables rule)
  others_many ids are =
      sym (length-map (drop 1 ids) (term_at w.bank)) ∙ (ap length (other_terms w.bank ids rule.variable (other_variables rule) are) ∙ length-map (other_variables rule) Variable)

  -- and it is filled so
  module _ (w1 : Work) (stood : WorkStands history w) (grows : WorkGrows history w w1) (p : Filling) (name : p.name ≡ c.name) (term : p.term ≡ c.term) (made : p.made_of ≡ c.served.rule.made_of)
      (calls_stand : All (Stands w.bank) p.destructors.items) (calls_are : terms_at w.bank p.destructors.items ≡ destructors rule) (hyps_stand : All (Stands w.bank) p.hypotheses.items) (hyps_are : terms_at w.bank p.hypotheses.items ≡ rule.hypotheses)
      (named_in : All (IsTermIn history w1) p.named.items) (named_are : terms_at w1.bank p.named.items ≡ map Variable (e.variable ∷ e.others)) (pairs_stand : All (PairStands w1.bank) p.pairs.items) (pairs_are : substitution_at w1.bank p.pairs.items ≡ renaming_of e) where
    calls_in : All (IsTermIn history w) p.destructors.items
    calls_in = ids_in history w p.destructors.items calls_stand (λ a m. destructor_over a (subst (IsAmong a) calls_are m))

    hyps_in : All (IsTermIn history w) p.hypotheses.items
    hyps_in = ids_in history w p.hypotheses.items hyps_stand (λ a m. hypothesis_over a (subst (IsAmong a) hyps_are m))

    made_in : IsTermIn history w c.served.rule.made_of
    made_in = record { stands = is.serves.serves.rule.is.made_of; over = made_of_over }

    many : length (e.variable ∷ e.others) ≡ length (rule_variables rule)
    many = ap suc e_candidate.each

    pairs_in : ArePairsIn history w1 p.pairs.items
    pairs_in =
        record {
          stand = pairs_stand;
          distinct = subst (λ s. is_substitution s ≡ true) (sym pairs_are) (ap are_distinct (renaming_names (rule_variables rule) (e.variable ∷ e.others) many) ∙ names_distinct (rule.variable ∷ clause_variables (rule.made_of ∷ rule.hypotheses)));
          terms = subst (λ s. Each (IsOver history w1) (pair_terms s)) (sym pairs_are) (each_from (IsOver history w1) (pair_terms (renaming_of e)) (λ a m. each_over history w1 p.named.items named_in a (subst (IsAmong a) (sym named_are) (renaming_terms (rule_variables rule) (e.variable ∷ e.others) a m))));
          names = subst (λ s. Each IsVariable (pair_names s)) (sym pairs_are) (subst (Each IsVariable) (sym (renaming_names (rule_variables rule) (e.variable ∷ e.others) many)) (each_name (rule_variables rule) names_are));
        }

    pub filling_made : IsFilling history w1 (chosen_at w.bank g c) p
    filling_made = subst (λ q. IsFilling history w1 q p) (sym chosen_same) (record {
      name = subst (IsNamed w1.bank) (sym name) (IsNamed-grown w.bank w1.bank c.name grows.bank is.name);
      event = ap₂ (λ (x : Name) (es : History). event_term x es) (ap (text_at w1.bank) name ∙ text_at-grown w.bank w1.bank c.name grows.bank is.name) (events_at-grown w.bank w1.bank grows.bank history stood.history.entries) ∙ (event ∙ ap Some (sym term_same));
      term = subst (IsTermIn history w1) (sym term) (term_grown history w w1 c.term stood grows term_in);
      conclusion = ap (λ a. (rule_parts a).conclusion) term_same ∙ is.serves.serves.rule.conclusion;
      under = ap (λ a. (rule_parts a).hypotheses) term_same;
      made_of = subst (IsTermIn history w1) (sym made) (term_grown history w w1 c.served.rule.made_of stood grows made_in);
      made_of_is = ap (term_at w1.bank) made ∙ same_term_grown history w w1 c.served.rule.made_of grows made_in;
      destructors = goal_in_grown history w w1 stood grows p.destructors.items calls_in;
      destructors_are = goal_same history w w1 stood grows p.destructors.items calls_in ∙ calls_are;
      hypotheses = goal_in_grown history w w1 stood grows p.hypotheses.items hyps_in;
      hypotheses_are = goal_same history w w1 stood grows p.hypotheses.items hyps_in ∙ hyps_are;
      named = named_in;
      named_are = named_are;
      pairs = pairs_in;
      pairs_are = pairs_are;
    })
      where
        term_same : term_at w1.bank p.term ≡ t
        term_same = ap (term_at w1.bank) term ∙ same_term_grown history w w1 c.term grows term_in

  pub filling_prepared : (w1 : Work) (stood : WorkStands history w) (grows : WorkGrows history w w1) (p : Filling) → p.name ≡ c.name → p.term ≡ c.term → p.made_of ≡ c.served.rule.made_of →
      All (Stands w.bank) p.destructors.items → terms_at w.bank p.destructors.items ≡ destructors rule → All (Stands w.bank) p.hypotheses.items → terms_at w.bank p.hypotheses.items ≡ rule.hypotheses →
      (ids : List TermId) → All (Stands w.bank) ids → terms_at w.bank ids ≡ map Variable (rule_variables rule) →
      All (IsTermIn history w1) p.named.items → terms_at w1.bank p.named.items ≡ images_named w.bank goal c.served (terms_at w.bank ids) (length (drop 1 ids)) →
      All (PairStands w1.bank) p.pairs.items → ((xs ys : List Name) → terms_at w1.bank ids ≡ map Variable xs → terms_at w1.bank p.named.items ≡ map Variable ys → substitution_at w1.bank p.pairs.items ≡ renaming xs ys) → IsFilling history w1 (chosen_at w.bank g c) p
  filling_prepared w1 stood grows p name term made calls_stand calls_are hyps_stand hyps_are ids own_stand own_are named_in named_told pairs_stand pairs_told =
      let named_are : terms_at w1.bank p.named.items ≡ map Variable (e.variable ∷ e.others) = named_told ∙ (ap (images_named w.bank goal c.served (terms_at w.bank ids)) (others_many ids own_are) ∙ named_is (terms_at w.bank ids) own_are) in
      let own_still : terms_at w1.bank ids ≡ map Variable (rule_variables rule) = goal_same history w w1 stood grows ids (own_in ids own_stand own_are) ∙ own_are in
      filling_made w1 stood grows p name term made calls_stand calls_are hyps_stand hyps_are named_in named_are pairs_stand (pairs_told (rule_variables rule) (e.variable ∷ e.others) own_still named_are)

-- where there is a candidate of an axiom or a lemma, it is not so that there is none
pub not_none : (history : List Entry) (w : Work) (goal : List TermId) (over : All (IsTermIn history w) goal) (ready : IsReady (events_at w.bank history)) (own : HasOwnTerms (events_at w.bank history)) (c : Candidate) (hints : Hints) →
    IsCandidate w.bank (events_at w.bank history) hints (terms_at w.bank goal) (events_at w.bank history) c → HasNoneOfEvents (events_at w.bank history) hints (terms_at w.bank goal) → ⊥
not_none history w goal over ready own c hints is none =
    let h = events_at w.bank history in
    let g = terms_at w.bank goal in
    let rule = rule_at w.bank (term_at w.bank c.term) c.served.rule in
    let e = other h hints g rule (enabled history w goal over ready own c hints is) (term_at w.bank c.served.destructor) (term_at w.bank c.served.call) is.serves.serves.by.among is.serves.serves.by.served in
    none.none e (own_among history w goal over ready own c hints is) (e_candidate history w goal over ready own c hints is)
