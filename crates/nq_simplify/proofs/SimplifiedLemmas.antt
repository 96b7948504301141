-- Simplified goals, from what their next goals are simplified to.
use Rattle.std.proofs.Common.{◌≡◌, ℕ, List, [], ◌∷◌, ◌++◌, get_or, refl, sym, ap, ◌∙◌, subst, inr, arith}
use Rattle.std.specs.Prelude.{All}
use Rattle.std.proofs.lemmas.List.{map-append}
use Rattle.std.proofs.lemmas.List.Elements.{All-append, All-head, All-tail}
use Rattle.nq_logic.specs.Terms.{Term}
use Rattle.nq_logic.specs.Words.{not_term}
use Rattle.nq_bank.specs.declared.node.TermId.{TermId}
use Rattle.nq_bank.specs.Content.{term_at, terms_at}
use Rattle.nq_bank.proofs.Growth.{terms_at-grown}
use Rattle.nq_history.specs.declared.entry.Entry.{Entry}
use Rattle.nq_kernel.specs.declared.work.Work.{Work}
use Rattle.nq_kernel.specs.Growing.{WorkStands, WorkGrows}
use Rattle.nq_lines.specs.Lines.{LineHasOnly}
use Rattle.nq_lines.proofs.LineLemmas.{line_grown, only_stands}
use Rattle.nq_lines.proofs.TermLemmas.{term_grown, same_term_grown}
use Rattle.nq_cases.specs.Cases.{Clauses, clauses_at}
use Rattle.nq_simplify.specs.declared.way.Way.{Way}
use Rattle.nq_simplify.specs.declared.way.Way.TheVariants.{Line}
use Rattle.nq_simplify.specs.declared.steps.Turn.{Turn}
use Rattle.nq_simplify.specs.declared.steps.Split.{Split}
use Rattle.nq_simplify.specs.declared.steps.Simplified.{Simplified}
use Rattle.nq_simplify.specs.Ways.{WayStands, IsRewriting, IsWidened, LeadsTo, Shows, Turns, Divides}
use Rattle.nq_simplify.specs.Simplified.{AreTermsIn, IsTurn, IsDivided, IsSimplified, TurnsFirst, DividesFirst}
use Rattle.nq_simplify.proofs.WayLemmas.{rewriting_grown, way_grown, leads_grown}

-- the literals of a goal in work that grew
pub goal_grown : (history : List Entry) (old new : Work) (ids : List TermId) → WorkGrows history old new → AreTermsIn history old ids → terms_at new.bank ids ≡ terms_at old.bank ids
goal_grown history old new ids grows h = terms_at-grown old.bank new.bank ids grows.bank (λ k d below. (h k d below).stands)

pub goal_in : (history : List Entry) (old new : Work) (ids : List TermId) → WorkStands history old → WorkGrows history old new → AreTermsIn history old ids → AreTermsIn history new ids
goal_in history old new ids stands grows h = λ k d below. term_grown history old new (get_or ids k d) stands grows (h k d below)

module _ (history : List Entry) (old new : Work) (stands : WorkStands history old) (grows : WorkGrows history old new) where
  pub turn_grown : (goal : List Term) (turn : Turn) → IsTurn history old goal turn → IsTurn history new goal turn
  turn_grown goal turn h =
      record {
        old = term_grown history old new turn.old stands grows h.old;
        new = term_grown history old new turn.new stands grows h.new;
        line = line_grown history old new turn.line stands grows h.line;
        next = goal_in history old new turn.next.items stands grows h.next;
        rewriting =
            subst (λ a. IsRewriting new a (term_at new.bank turn.new) turn.line goal (terms_at new.bank turn.next.items)) (sym (same_term_grown history old new turn.old grows h.old))
            (subst (λ b. IsRewriting new (term_at old.bank turn.old) b turn.line goal (terms_at new.bank turn.next.items)) (sym (same_term_grown history old new turn.new grows h.new))
            (subst (λ g. IsRewriting new (term_at old.bank turn.old) (term_at old.bank turn.new) turn.line goal g) (sym (goal_grown history old new turn.next.items grows h.next))
            (rewriting_grown history old new stands grows (term_at old.bank turn.old) (term_at old.bank turn.new) turn.line goal (terms_at old.bank turn.next.items) h.rewriting)));
      }

  pub divided_grown : (goal : List Term) (s : Split) → IsDivided history old goal s → IsDivided history new goal s
  divided_grown goal s h =
      let same : term_at old.bank s.test ≡ term_at new.bank s.test = sym (same_term_grown history old new s.test grows h.test) in
      record {
        test = term_grown history old new s.test stands grows h.test;
        with_test = subst (λ p. IsTurn history new (p ∷ goal) s.with_test) same (turn_grown (term_at old.bank s.test ∷ goal) s.with_test h.with_test);
        without_test = subst (λ p. IsTurn history new (not_term p ∷ goal) s.without_test) same (turn_grown (not_term (term_at old.bank s.test) ∷ goal) s.without_test h.without_test);
      }

module _ (history : List Entry) (work : Work) where
  -- a way of a turn
  turn_leads : (goal : List Term) (turn : Turn) (way rest : Way) (nexts : List (List Term)) → IsTurn history work goal turn → TurnsFirst way turn rest → LeadsTo work rest (terms_at work.bank turn.next.items) nexts → LeadsTo work way goal nexts
  turn_leads goal turn way rest nexts h first leads =
      subst (λ w. LeadsTo work w goal nexts) (sym first.is)
      (Turns turn.old turn.new turn.line first.pointer rest goal (terms_at work.bank turn.next.items) nexts h.rewriting leads)

  turn_stands : (goal : List Term) (turn : Turn) (way rest : Way) → IsTurn history work goal turn → TurnsFirst way turn rest → WayStands history work rest → WayStands history work way
  unfolding WayStands
  turn_stands goal turn way rest h first stands = subst (WayStands history work) (sym first.is) (h.old, h.new, h.line, stands)

  pub turned_is : (goal : List Term) (turn : Turn) (rest s : Simplified) → IsTurn history work goal turn → IsSimplified history work (terms_at work.bank turn.next.items) rest → TurnsFirst s.way turn rest.way → s.nexts ≡ rest.nexts → IsSimplified history work goal s
  turned_is goal turn rest s h k first same =
      record {
        way = turn_stands goal turn s.way rest.way h first k.way;
        nexts = subst (λ v. All (λ c. AreTermsIn history work c.items) v.items) (sym same) k.nexts;
        leads = turn_leads goal turn s.way rest.way (clauses_at work.bank s.nexts.items) h first (subst (λ v. LeadsTo work rest.way (terms_at work.bank turn.next.items) (clauses_at work.bank v.items)) (sym same) k.leads);
      }

  widened : (t : Term) (goal : List Term) → IsWidened t goal (t ∷ goal)
  widened t goal = record { less = λ u m. m; more = λ u m. inr m }

  pub divided_is : (goal : List Term) (split : Split) (one two s : Simplified) → IsDivided history work goal split → IsSimplified history work (terms_at work.bank split.with_test.next.items) one →
      IsSimplified history work (terms_at work.bank split.without_test.next.items) two → DividesFirst s.way split one.way two.way → s.nexts.items ≡ one.nexts.items ++ two.nexts.items → IsSimplified history work goal s
  unfolding WayStands
  divided_is goal split one two s h first second divides all =
      let p : Term = term_at work.bank split.test in
      let some : List (List Term) = clauses_at work.bank one.nexts.items in
      let others : List (List Term) = clauses_at work.bank two.nexts.items in
      let goals_is : clauses_at work.bank s.nexts.items ≡ some ++ others = ap (clauses_at work.bank) all ∙ map-append (λ c. terms_at work.bank c.items) one.nexts.items two.nexts.items in
      record {
        way = subst (WayStands history work) (sym divides.is) (
          h.test,
          turn_stands (p ∷ goal) split.with_test divides.first one.way h.with_test divides.turns_first first.way,
          turn_stands (not_term p ∷ goal) split.without_test divides.second two.way h.without_test divides.turns_second second.way,
        );
        nexts = subst (All (λ c. AreTermsIn history work c.items)) (sym all) (All-append (λ c. AreTermsIn history work c.items) one.nexts.items two.nexts.items first.nexts second.nexts);
        leads =
            subst (λ gs. LeadsTo work s.way goal gs) (sym goals_is)
            (subst (λ w. LeadsTo work w goal (some ++ others)) (sym divides.is)
            (Divides split.test divides.left divides.right divides.first divides.second goal (p ∷ goal) (not_term p ∷ goal) some others (widened p goal) (widened (not_term p) goal)
            (turn_leads (p ∷ goal) split.with_test divides.first one.way some h.with_test divides.turns_first first.leads)
            (turn_leads (not_term p ∷ goal) split.without_test divides.second two.way others h.without_test divides.turns_second second.leads)));
      }

  pub closed_is : (goal : List Term) (n : ℕ) (s : Simplified) → LineHasOnly work n goal → s.way ≡ Line n → s.nexts.items ≡ [] → IsSimplified history work goal s
  unfolding WayStands
  closed_is goal n s line way none =
      record {
        way = subst (WayStands history work) (sym way) (only_stands work n goal line);
        nexts = subst (All (λ c. AreTermsIn history work c.items)) (sym none) (λ k d below. absurd (omega (arith, below)));
        leads = subst (λ w. LeadsTo work w goal (clauses_at work.bank s.nexts.items)) (sym way) (subst (λ ids. LeadsTo work (Line n) goal (clauses_at work.bank ids)) (sym none) (Shows n goal line));
      }

-- what a goal is simplified to, as the work grows
module _ (history : List Entry) (old new : Work) (stands : WorkStands history old) (grows : WorkGrows history old new) where
  clauses_grown : (nexts : Clauses) → All (λ c. AreTermsIn history old c.items) nexts → clauses_at new.bank nexts ≡ clauses_at old.bank nexts
  clauses_grown [] h = refl
  clauses_grown (c ∷ nexts) h =
      let first : terms_at new.bank c.items ≡ terms_at old.bank c.items = goal_grown history old new c.items grows (All-head (λ v. AreTermsIn history old v.items) c nexts h) in
      let rest : clauses_at new.bank nexts ≡ clauses_at old.bank nexts = clauses_grown nexts (All-tail (λ v. AreTermsIn history old v.items) c nexts h) in
      ap (λ g. g ∷ clauses_at new.bank nexts) first ∙ ap (λ gs. terms_at old.bank c.items ∷ gs) rest

  pub simplified_grown : (goal : List Term) (s : Simplified) → IsSimplified history old goal s → IsSimplified history new goal s
  simplified_grown goal s h =
      record {
        way = way_grown history old new stands grows s.way h.way;
        nexts = λ k d below. goal_in history old new (get_or s.nexts.items k d).items stands grows (h.nexts k d below);
        leads = subst (λ gs. LeadsTo new s.way goal gs) (sym (clauses_grown s.nexts.items h.nexts)) (leads_grown history old new stands grows s.way goal (clauses_at old.bank s.nexts.items) h.way h.leads);
      }

  -- and told of the literals before
  pub simplified_before : (ids : List TermId) (s : Simplified) → AreTermsIn history old ids → IsSimplified history new (terms_at new.bank ids) s → IsSimplified history new (terms_at old.bank ids) s
  simplified_before ids s terms h = subst (λ g. IsSimplified history new g s) (goal_grown history old new ids grows terms) h

  -- or of those after
  pub simplified_after : (ids : List TermId) (s : Simplified) → AreTermsIn history old ids → IsSimplified history new (terms_at old.bank ids) s → IsSimplified history new (terms_at new.bank ids) s
  simplified_after ids s terms h = subst (λ g. IsSimplified history new g s) (sym (goal_grown history old new ids grows terms)) h
