-- Lemmas that are hinted, as the work grows.
use Rattle.std.proofs.Common.{◌≡◌, ◌∙◌, ◌<◌, ℕ, Option, Some, None, List, [], ◌∷◌, map, length, get_or, sym, ap, subst, arith}
use Rattle.std.specs.Prelude.{All, IfOk, Result}
use Rattle.std.specs.declared.alloc.AllocError.{AllocError}
use Rattle.std.proofs.lemmas.List.{length-map}
use Rattle.std.proofs.lemmas.Result.{IfOk-weaker}
use Rattle.nq_logic.specs.Terms.{Term, Each}
use Rattle.nq_logic.specs.Words.{not_term, if_term, true_term}
use Rattle.nq_logic.specs.Shells.{either_of}
use Rattle.nq_logic.specs.Histories.{History}
use Rattle.nq_logic.specs.Ground.{symbols_of}
use Rattle.nq_logic.proofs.Symbols.{if_symbol, true_symbol}
use Rattle.nq_bank.specs.declared.node.TermId.{TermId}
use Rattle.nq_bank.specs.Content.{term_at, terms_at}
use Rattle.nq_bank.proofs.Growth.{Stands-grown, term_at-grown, terms_at-grown}
use Rattle.nq_bank.proofs.NodesLemmas.{All-head, All-tail}
use Rattle.nq_bank.proofs.Standing.{stand_grown}
use Rattle.nq_clause.specs.declared.substitution.Pair.{Pair}
use Rattle.nq_clause.specs.Substitution.{substitution_at}
use Rattle.nq_proof.specs.Clauses.{Clause, distinct}
use Rattle.nq_proof.specs.Rules.{pair_terms}
use Rattle.nq_fragments.specs.Fragments.{IsInNoFragment}
use Rattle.nq_fragments.specs.Tautologies.{IsSmallTautology}
use Rattle.nq_history.specs.declared.entry.Entry.{Entry}
use Rattle.nq_history.specs.declared.hints.Hints.{Hints}
use Rattle.nq_history.specs.declared.hints.Instance.{Instance}
use Rattle.nq_history.specs.Events.{events_at}
use Rattle.nq_history.specs.Hints.{HintsStand}
use Rattle.nq_history.proofs.HistoryLemmas.{events_at-grown}
use Rattle.nq_events.specs.Events as model
use Rattle.nq_event.specs.EventsAt.{hints_at, instance_at}
use Rattle.nq_event.proofs.HintSumLemmas.{hints_keep, hints_same}
use Rattle.nq_goals.specs.Decided.{IsHinted}
use Rattle.nq_goals.specs.Hints.{denied_instances, first_goal}
use Rattle.nq_kernel.specs.declared.work.Work.{Work}
use Rattle.nq_kernel.specs.Growing.{WorkStands, WorkGrows}
use Rattle.nq_kernel.specs.Hints.{HintsAreIn, PairIsIn}
use Rattle.nq_kernel.specs.Over.{IsVariable, IsTermOf, pair_names}
use Rattle.nq_kernel.specs.Ready.{IsReady}
use Rattle.nq_lines.specs.Instances.{ArePairsIn}
use Rattle.nq_lines.specs.Lines.{LineHasOnly}
use Rattle.nq_lines.proofs.InstanceLemmas.{pairs_in_grown}
use Rattle.nq_lines.proofs.TermLemmas.{term_grown}
use Rattle.nq_uses.proofs.Overs.{first_goal_over}
use Rattle.nq_hinted.specs.Nests.{AreDenials, denied_by, nest}
use Rattle.nq_hinted.specs.Answers.{CanBeHinted, HaveDistinctPairs, HasFirstGoal, IsHintedAnswer, UnwindsTo}
use Rattle.nq_hinted.proofs.NestLemmas.{HasDenials, few_literals, goal_denials, no_literal, small_either, small_nest}

-- ---- pairs over the history's functions

module _ (history : List Entry) (work : Work) where
  terms_in : (pairs : List Pair) → All (PairIsIn work.bank history) pairs → Each (IsTermOf IsVariable (symbols_of (events_at work.bank history))) (pair_terms (substitution_at work.bank pairs))
  terms_in [] k = tt
  terms_in (p ∷ pairs) k = ((All-head (PairIsIn work.bank history) p pairs k).term, terms_in pairs (All-tail (PairIsIn work.bank history) p pairs k))

  names_in : (pairs : List Pair) → All (PairIsIn work.bank history) pairs → Each IsVariable (pair_names (substitution_at work.bank pairs))
  names_in [] k = tt
  names_in (p ∷ pairs) k = ((All-head (PairIsIn work.bank history) p pairs k).variable, names_in pairs (All-tail (PairIsIn work.bank history) p pairs k))

  pub instances_in : (hints : Hints) → HintsStand work.bank hints → HintsAreIn work.bank history hints → HaveDistinctPairs work.bank hints.instances.items → All (λ i. ArePairsIn history work i.pairs.items) hints.instances.items
  instances_in hints stand inside distinct =
      λ j d below.
      let i : Instance = get_or hints.instances.items j d in
      record { stand = (stand.instances j d below).pairs; distinct = distinct j d below; terms = terms_in i.pairs.items (inside.instances j d below); names = names_in i.pairs.items (inside.instances j d below) }

  -- the pairs of each instance are over the history
  each_pair : (instances : List Instance) → All (λ i. ArePairsIn history work i.pairs.items) instances →
      Each (λ (i : model.Instance). Each (IsTermOf IsVariable (symbols_of (events_at work.bank history))) (pair_terms i.pairs)) (map (instance_at work.bank) instances)
  each_pair [] k = tt
  each_pair (i ∷ instances) k = ((All-head (λ (i : Instance). ArePairsIn history work i.pairs.items) i instances k).terms, each_pair instances (All-tail (λ (i : Instance). ArePairsIn history work i.pairs.items) i instances k))

-- ---- the nest is over the history

module _ (h : History) where
  abbrev IsOver : Term → Type 0
  IsOver t = IsTermOf IsVariable (symbols_of h) t

  under : (t : Term) → IsOver (not_term t) → IsOver t
  under t k = record { over = k.over.1; variables = k.variables.1 }

  choice_over : (p x : Term) → IsOver p → IsOver x → IsOver (if_term p x true_term)
  choice_over p x k l = record { over = (((if_symbol h, k.over), l.over), true_symbol h); variables = (((tt, k.variables), l.variables), tt) }

  nest_over : (t : Term) (c : Clause) → AreDenials t c → IsOver t → Each IsOver c → IsOver (nest t c)
  nest_over t [] d k each = k
  nest_over t (u ∷ c) d k each = choice_over (denied_by t) (nest u c) (under (denied_by t) (subst IsOver d.0 k)) (nest_over u c d.1 each.0 each.1)

-- ---- first goals

module _ (history : List Entry) (hints : Hints) (w0 w1 : Work) (goal : TermId) (grows : WorkGrows history w0 w1) where
  same_events : WorkStands history w0 → events_at w1.bank history ≡ events_at w0.bank history
  same_events stands = events_at-grown w0.bank w1.bank grows.bank history stands.history.entries

  pub can_grown : CanBeHinted history hints w0 goal → CanBeHinted history hints w1 goal
  can_grown k =
      let e = same_events k.stands in
      let same : term_at w1.bank goal ≡ term_at w0.bank goal = term_at-grown w0.bank w1.bank goal grows.bank k.goal_stands in
      record {
        stands = grows.stands;
        ready = subst IsReady (sym e) k.ready;
        goal_stands = Stands-grown w0.bank w1.bank goal grows.bank k.goal_stands;
        over = (term_grown history w0 w1 goal k.stands grows (record { stands = k.goal_stands; over = k.over })).over;
        outside = subst (λ (h : History). IsInNoFragment h (term_at w1.bank goal)) (sym e) (subst (λ (t : Term). IsInNoFragment (events_at w0.bank history) t) (sym same) k.outside);
        hints_stand = hints_keep w0.bank w1.bank grows.bank hints k.hints_stand;
        pairs = λ j d below. pairs_in_grown history w0 w1 (get_or hints.instances.items j d).pairs.items k.stands grows (k.pairs j d below);
      }

  -- the first goal is the same in grown work
  pub goal_same : CanBeHinted history hints w0 goal → first_goal (events_at w1.bank history) (hints_at w1.bank hints) (term_at w1.bank goal) ≡ first_goal (events_at w0.bank history) (hints_at w0.bank hints) (term_at w0.bank goal)
  goal_same k =
      ap (λ (h : History). first_goal h (hints_at w1.bank hints) (term_at w1.bank goal)) (same_events k.stands)
      ∙ ap (λ (hs : model.Hints). first_goal (events_at w0.bank history) hs (term_at w1.bank goal)) (hints_same w0.bank w1.bank grows.bank hints k.hints_stand)
      ∙ ap (first_goal (events_at w0.bank history) (hints_at w0.bank hints)) (term_at-grown w0.bank w1.bank goal grows.bank k.goal_stands)

  pub goal_grown : (first : TermId) (rest : List TermId) → CanBeHinted history hints w0 goal → HasFirstGoal history hints w0.bank goal first rest → HasFirstGoal history hints w1.bank goal first rest
  goal_grown first rest k g = record {
    first_stands = Stands-grown w0.bank w1.bank first grows.bank g.first_stands;
    rest_stand = stand_grown w0.bank w1.bank rest grows.bank g.rest_stand;
    literals =
        ap (λ (t : Term). t ∷ terms_at w1.bank rest) (term_at-grown w0.bank w1.bank first grows.bank g.first_stands)
        ∙ ap (λ (ts : List Term). term_at w0.bank first ∷ ts) (terms_at-grown w0.bank w1.bank rest grows.bank g.rest_stand)
        ∙ g.literals ∙ sym (goal_same k);
  }

  pub hinted_same : CanBeHinted history hints w0 goal → IsHinted (events_at w0.bank history) (hints_at w0.bank hints) (term_at w0.bank goal) → IsHinted (events_at w1.bank history) (hints_at w1.bank hints) (term_at w1.bank goal)
  hinted_same k h = record { outside = (can_grown k).outside; tautology = subst (λ (c : Clause). IsSmallTautology (either_of c)) (sym (goal_same k)) h.tautology }

  pub hinted_before : CanBeHinted history hints w0 goal → IsHinted (events_at w1.bank history) (hints_at w1.bank hints) (term_at w1.bank goal) → IsHinted (events_at w0.bank history) (hints_at w0.bank hints) (term_at w0.bank goal)
  hinted_before k h = record { outside = k.outside; tautology = subst (λ (c : Clause). IsSmallTautology (either_of c)) (goal_same k) h.tautology }

  distinct_pairs : (w : Work) → CanBeHinted history hints w goal → HaveDistinctPairs w.bank hints.instances.items
  distinct_pairs w k = λ j d below. (k.pairs j d below).distinct

  -- what is answered in grown work is answered in the work before
  pub answer_before : (later : Work) (r : Result (Option ℕ) AllocError) → CanBeHinted history hints w0 goal → IfOk r (IsHintedAnswer history hints w1 later goal) → IfOk r (IsHintedAnswer history hints w0 later goal)
  answer_before later r k = IfOk-weaker r _ _ (λ o a. by_answer o a)
    where
      by_answer : (o : Option ℕ) → IsHintedAnswer history hints w1 later goal o → IsHintedAnswer history hints w0 later goal o
      by_answer None a = λ d h. a (distinct_pairs w1 (can_grown k)) (hinted_same k h)
      by_answer (Some n) a = record { hinted = hinted_before k a.hinted; holds = subst (λ (t : Term). LineHasOnly later n (t ∷ [])) (term_at-grown w0.bank w1.bank goal grows.bank k.goal_stands) a.holds }

module _ (history : List Entry) (hints : Hints) (work : Work) (goal first : TermId) (rest : List TermId) (g : HasFirstGoal history hints work.bank goal first rest) where
  abbrev t : Term
  t = term_at work.bank first

  abbrev c : List Term
  c = terms_at work.bank rest

  pub denials : AreDenials t c
  denials = subst HasDenials (sym g.literals) (goal_denials (events_at work.bank history) (hints_at work.bank hints) (term_at work.bank goal))

  -- the nest of a hinted lemma is a small tautology
  pub hinted_nest : IsHinted (events_at work.bank history) (hints_at work.bank hints) (term_at work.bank goal) → IsSmallTautology (nest t c)
  hinted_nest h = small_nest t c denials (subst (λ (c : Clause). IsSmallTautology (either_of c)) (sym g.literals) h.tautology)

  pub nest_hinted : CanBeHinted history hints work goal → IsSmallTautology (nest t c) → IsHinted (events_at work.bank history) (hints_at work.bank hints) (term_at work.bank goal)
  nest_hinted k small = record { outside = k.outside; tautology = subst (λ (c : Clause). IsSmallTautology (either_of c)) g.literals (small_either t c denials small) }

  pub nest_in : CanBeHinted history hints work goal → IsTermOf IsVariable (symbols_of (events_at work.bank history)) (nest t c)
  nest_in k =
      let each : Each (IsOver (events_at work.bank history)) (t ∷ c) =
      subst (Each (IsOver (events_at work.bank history))) (sym g.literals) (first_goal_over (events_at work.bank history) (hints_at work.bank hints) (term_at work.bank goal) k.ready (each_pair history work hints.instances.items k.pairs) k.over) in
      nest_over (events_at work.bank history) t c denials each.0 each.1

  -- a lemma whose first goal has too many literals is not hinted
  pub too_many : 100 < length rest → (new : Work) → IsHintedAnswer history hints work new goal None
  too_many many new distinct h = let few = few_literals t c (hinted_nest h) in let same : length c ≡ length rest = length-map rest (term_at work.bank) in omega (arith, many, few, same)

-- the line of a first goal that is unwound in grown work has only the lemma
pub hinted_line : (history : List Entry) (hints : Hints) (w0 w1 w2 : Work) (goal first : TermId) (rest : List TermId) (instances : List Instance) (n : ℕ) → WorkGrows history w0 w1 → CanBeHinted history hints w0 goal →
    HasFirstGoal history hints w0.bank goal first rest → instances ≡ hints.instances.items →
    UnwindsTo w2 (denied_instances (events_at w1.bank history) (map (instance_at w1.bank) instances)) (term_at w1.bank first ∷ terms_at w1.bank rest) n → LineHasOnly w2 n (term_at w0.bank goal ∷ [])
hinted_line history hints w0 w1 w2 goal first rest instances n grows k g same unwinds =
    let later : HasFirstGoal history hints w1.bank goal first rest = goal_grown history hints w0 w1 goal grows first rest k g in
    let u : Term = term_at w0.bank goal in
    let is : term_at w1.bank goal ≡ u = term_at-grown w0.bank w1.bank goal grows.bank k.goal_stands in
    unwinds u (later.literals ∙ ap (λ (t : Term). distinct (denied_instances (events_at w1.bank history) (map (instance_at w1.bank) hints.instances.items) (t ∷ []))) is
    ∙ ap (λ (xs : List Instance). distinct (denied_instances (events_at w1.bank history) (map (instance_at w1.bank) xs) (u ∷ []))) (sym same))

-- a first goal has a literal, where its nest is a tautology
pub empty_goal : (history : List Entry) (hints : Hints) (work : Work) (goal : TermId) (literals : List TermId) → length literals < 1 →
    terms_at work.bank literals ≡ first_goal (events_at work.bank history) (hints_at work.bank hints) (term_at work.bank goal) →
    IsHinted (events_at work.bank history) (hints_at work.bank hints) (term_at work.bank goal) → ⊥
empty_goal history hints work goal [] few is h = no_literal (subst (λ (c : Clause). IsSmallTautology (either_of c)) (sym is) h.tautology)
empty_goal history hints work goal (t ∷ literals) few is h = omega (arith, few)
