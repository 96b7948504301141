-- The elimination by an instance of a rule.
use Rattle.std.proofs.Common.{◌≡◌, ◌<◌, ◌≤◌, ◌+◌, ◌-◌, ℕ, zero, suc, false, List, [], ◌∷◌, ◌++◌, length, map, drop, take, get_or, refl, sym, ap, ap₂, ◌∙◌, subst, inr, arith}
use Rattle.std.specs.Prelude.{All, Vec}
use Rattle.std.specs.declared.alloc.Global.{Global}
use Rattle.std.proofs.lemmas.List.{append-nil, length-map, map_push, take_all, take_more}
use Rattle.nq_logic.specs.Terms.{Name, Term, Variable, Each, IsAmong, substituted}
use Rattle.nq_logic.specs.Histories.{History}
use Rattle.nq_logic.specs.Values.{is_value}
use Rattle.nq_logic.specs.Words.{equal_term, not_term}
use Rattle.nq_bank.specs.declared.node.TermId.{TermId}
use Rattle.nq_bank.specs.Content.{Content, term_at, terms_at}
use Rattle.nq_bank.proofs.Growth.{IsNamed-grown, terms_at-grown, text_at-grown}
use Rattle.nq_bank.proofs.NodesLemmas.{All-head, All-tail}
use Rattle.nq_clause.specs.Substitution.{substitution_at}
use Rattle.nq_proof.specs.Clauses.{Clause, distinct}
use Rattle.nq_proof.specs.Rules.{pair_terms}
use Rattle.nq_history.specs.declared.entry.Entry.{Entry}
use Rattle.nq_kernel.specs.declared.work.Work.{Work}
use Rattle.nq_kernel.specs.Growing.{WorkStands, WorkGrows}
use Rattle.nq_kernel.specs.Over.{pair_names}
use Rattle.nq_kernel.proofs.GrowingLemmas.{WorkGrows-trans}
use Rattle.nq_lines.specs.Lines.{IsTermIn, LineHasOnly}
use Rattle.nq_lines.proofs.LineLemmas.{only_grown}
use Rattle.nq_lines.proofs.TermLemmas.{same_term_grown, term_grown}
use Rattle.nq_events.specs.Events.{Hints}
use Rattle.nq_goals.specs.Eliminating.{Eliminating, EliminateCandidate, EliminateMove, destructors_of, eliminated_goal, hypotheses_of, hypothesis_goal, known_variables, whole_of}
use Rattle.nq_goals.specs.Generalizing.{exchange_of}
use Rattle.nq_goals.specs.NewVariables.{new_variables}
use Rattle.nq_goals.specs.Replacing.{exchanged}
use Rattle.nq_moves.specs.declared.moved.Eliminated.{Eliminated}
use Rattle.nq_moves.specs.declared.moved.Moved.{Moved}
use Rattle.nq_moves.specs.declared.naming.Renaming.{Renaming}
use Rattle.nq_moves.specs.Eliminated.{IsElimination, eliminated_goals, made_goal, stated_goal, whole_goal}
use Rattle.nq_moves.specs.Found.{goals_at}
use Rattle.nq_moves.specs.Naming.{IsRenaming, exchange_by, occurs_in_one}
use Rattle.nq_moves.proofs.ClosingLemmas.{all_stand}
use Rattle.nq_moves.proofs.LastingLemmas.{goals_grown}
use Rattle.nq_moves.proofs.NamingLemmas.{terms_for_own}
use Rattle.nq_eliminate.specs.declared.instances.Instance.{Instance}
use Rattle.nq_eliminate.specs.declared.making.Prepared.{Prepared}
use Rattle.nq_eliminate.specs.Instances.{Eliminates, IsChosen, IsInstance, IsPlain, equation_of}
use Rattle.nq_eliminate.specs.Kept.{IsKept, IsPrepared, IsRenamedBy, kept_of}
use Rattle.nq_eliminate.specs.Literals.{joined}
use Rattle.nq_eliminate.proofs.KnownLemmas.{goal_known, known_in, known_joined, rename_free, variables_known}

-- an instance stays one however the work grows
module _ (history : List Entry) (old new : Work) (stood : WorkStands history old) (grows : WorkGrows history old new) where
  all_grown : (ids : List TermId) → All (IsTermIn history old) ids → All (IsTermIn history new) ids
  all_grown ids h = λ k d below. term_grown history old new (get_or ids k d) stood grows (h k d below)

  terms_same : (ids : List TermId) → All (IsTermIn history old) ids → terms_at new.bank ids ≡ terms_at old.bank ids
  terms_same ids h = terms_at-grown old.bank new.bank ids grows.bank (all_stand history old ids h)

  pub instance_grown : (e : Eliminating) (r : Instance) → IsInstance history old e r → IsInstance history new e r
  instance_grown e r h =
      record {
        name = IsNamed-grown old.bank new.bank r.name grows.bank h.name;
        named = text_at-grown old.bank new.bank r.name grows.bank h.name ∙ h.named;
        variable = term_grown history old new r.variable stood grows h.variable;
        variable_is = same_term_grown history old new r.variable grows h.variable ∙ h.variable_is;
        others = all_grown r.others.items h.others;
        others_are = terms_same r.others.items h.others ∙ h.others_are;
        whole = term_grown history old new r.whole stood grows h.whole;
        whole_is = same_term_grown history old new r.whole grows h.whole ∙ h.whole_is;
        calls = all_grown r.calls.items h.calls;
        calls_are = terms_same r.calls.items h.calls ∙ h.calls_are;
        hypotheses = all_grown r.hypotheses.items h.hypotheses;
        hypotheses_are = terms_same r.hypotheses.items h.hypotheses ∙ h.hypotheses_are;
        says = only_grown history old new r.line (equation_of e ∷ map not_term (hypotheses_of e)) stood grows h.says;
      }

-- ---- the elimination

map_twice : (f g : Term → Term) (c : Clause) → map f (map g c) ≡ map (λ t. f (g t)) c
map_twice f g [] = refl
map_twice f g (t ∷ c) = ap (λ d. f (g t) ∷ d) (map_twice f g c)

module _ (history : List Entry) (w : Work) (goal : List TermId) (e : Eliminating) (r : Instance) (inst : IsInstance history w e r) (plain : IsPlain e)
    (equation : TermId) (eq_in : IsTermIn history w equation) (eq_is : term_at w.bank equation ≡ equation_of e)
    (literals : List TermId) (all : terms_at w.bank literals ≡ whole_of e ∷ not_term (term_at w.bank equation) ∷ (terms_at w.bank goal ++ map not_term (terms_at w.bank r.hypotheses.items)))
    (renaming : Renaming) (ren : IsRenaming history w literals renaming) (d : Eliminated) (k : IsKept r equation renaming d)
    (told : pair_terms (substitution_at w.bank renaming.pairs.items) ≡ destructors_of e) where
  abbrev names : List Name
  names = pair_names (substitution_at w.bank renaming.pairs.items)

  abbrev X : Term → Term
  X = exchanged (exchange_by (substitution_at w.bank renaming.pairs.items))

  abbrev own : Eliminated
  own = kept_of r equation renaming d.made_of d.denial d.renamed

  over : All (IsTermIn history w) (d.made_of ∷ d.denial ∷ d.renamed.items)
  over = subst (All (IsTermIn history w)) k.renamed ren.literals_in

  all_is : term_at w.bank d.made_of ∷ term_at w.bank d.denial ∷ terms_at w.bank d.renamed.items ≡ X (whole_of e) ∷ map X (whole_goal w.bank goal own)
  all_is = ap (terms_at w.bank) (sym k.renamed) ∙ ren.renamed ∙ ap (map X) all

  made_is : term_at w.bank d.made_of ≡ X (whole_of e)
  made_is = let h = all_is in cc

  rest_is : term_at w.bank d.denial ∷ terms_at w.bank d.renamed.items ≡ map X (whole_goal w.bank goal own)
  rest_is = let h = all_is in cc

  denial_is : term_at w.bank d.denial ≡ X (not_term (term_at w.bank equation))
  denial_is = let h = rest_is in cc

  renamed_is : terms_at w.bank d.renamed.items ≡ map X (stated_goal w.bank goal own)
  renamed_is = let h = rest_is in cc

  denies_it : term_at w.bank d.denial ≡ not_term (equal_term (term_at w.bank d.made_of) (term_at w.bank r.variable))
  denies_it =
      denial_is ∙ ap (λ t. X (not_term t)) eq_is
      ∙ ap (λ ts. exchanged (exchange_of ts names) (not_term (equation_of e))) told
      ∙ plain.within names
      ∙ ap (λ ts. not_term (equal_term (exchanged (exchange_of ts names) (whole_of e)) (Variable e.variable))) (sym told)
      ∙ ap (λ t. not_term (equal_term t (Variable e.variable))) (sym made_is)
      ∙ ap (λ t. not_term (equal_term (term_at w.bank d.made_of) t)) (sym inst.variable_is)

  pub elimination_made : IsElimination history w goal d
  elimination_made =
      subst (IsElimination history w goal) (sym k.is) (record {
        names = names;
        terms = pair_terms (substitution_at w.bank renaming.pairs.items);
        name = inst.name;
        variable = inst.variable;
        variable_is = inst.variable_is ∙ ap Variable (sym inst.named);
        made_of = All-head (IsTermIn history w) d.made_of (d.denial ∷ d.renamed.items) over;
        equation = eq_in;
        hypotheses = inst.hypotheses;
        says =
            subst (λ t. LineHasOnly w r.line (t ∷ map not_term (terms_at w.bank r.hypotheses.items))) (sym eq_is)
            (subst (λ hs. LineHasOnly w r.line (equation_of e ∷ map not_term hs)) (sym inst.hypotheses_are) inst.says);
        denial = (All-head (IsTermIn history w) d.denial d.renamed.items (All-tail (IsTermIn history w) d.made_of (d.denial ∷ d.renamed.items) over)).stands;
        denies = denies_it;
        renamed = All-tail (IsTermIn history w) d.denial d.renamed.items (All-tail (IsTermIn history w) d.made_of (d.denial ∷ d.renamed.items) over);
        renaming = rest_is;
        pairs = terms_for_own (substitution_at w.bank renaming.pairs.items);
        over = ren.over;
        apart = ren.apart;
        new = λ t m. ren.new t (subst (IsAmong t) (sym all) (inr m));
      })

  -- and it leads to the goals of the table
  module _ (h : History) (hints : Hints) (path : List Clause) (g : Clause) (candidate : EliminateCandidate h hints g e) (same : terms_at w.bank goal ≡ g)
      (named : names ≡ new_variables (known_variables path g e) (length (destructors_of e))) where
    abbrev Y : Term → Term
    Y = exchanged (exchange_of (destructors_of e) (new_variables (known_variables path g e) (length (destructors_of e))))

    exchange_is : exchange_by (substitution_at w.bank renaming.pairs.items) ≡ exchange_of (destructors_of e) (new_variables (known_variables path g e) (length (destructors_of e)))
    exchange_is = ap (λ ts. exchange_of ts names) told ∙ ap (exchange_of (destructors_of e)) named

    stated_is : stated_goal w.bank goal own ≡ g ++ (map not_term (hypotheses_of e) ++ map not_term [])
    stated_is =
        ap (λ c. c ++ map not_term (terms_at w.bank r.hypotheses.items)) same
        ∙ ap (λ hs. g ++ map not_term hs) inst.hypotheses_are
        ∙ ap (λ c. g ++ c) (sym (append-nil (map not_term (hypotheses_of e))))

    made_goal_is : made_goal w.bank own ≡ eliminated_goal path g e []
    made_goal_is =
        ap (λ x. distinct (map (substituted ((x, term_at w.bank d.made_of) ∷ [])) (terms_at w.bank d.renamed.items))) inst.named
        ∙ ap (λ t. distinct (map (substituted ((e.variable, t) ∷ [])) (terms_at w.bank d.renamed.items))) (made_is ∙ ap (λ es. exchanged es (whole_of e)) exchange_is)
        ∙ ap (λ c. distinct (map (substituted ((e.variable, Y (whole_of e)) ∷ [])) c)) (renamed_is ∙ ap (λ es. map (exchanged es) (stated_goal w.bank goal own)) exchange_is ∙ ap (map Y) stated_is)
        ∙ ap distinct (map_twice (substituted ((e.variable, Y (whole_of e)) ∷ [])) Y (g ++ (map not_term (hypotheses_of e) ++ map not_term [])))

    pub chosen_made : IsChosen h hints path g w.bank d
    chosen_made = subst (IsChosen h hints path g w.bank) (sym k.is) (record { chosen = e; candidate = candidate; hypotheses = inst.hypotheses_are; made = made_goal_is })

-- the move of the table
pub eliminates : (h : History) (hints : Hints) (bank : Content) (path : List Clause) (goal : List TermId) (g : Clause) (d : Eliminated) (nexts : List Clause) → terms_at bank goal ≡ g → IsChosen h hints path g bank d → nexts ≡ eliminated_goals bank goal d → EliminateMove h hints path g nexts
eliminates h hints bank path goal g d nexts same c leads =
    record {
      chosen = c.chosen;
      candidate = c.candidate;
      facts = [];
      are_facts = tt;
      leads =
          leads
          ∙ ap (λ c. map (hypothesis_goal c) (terms_at bank d.hypotheses.items) ++ (made_goal bank d ∷ [])) same
          ∙ ap (λ hs. map (hypothesis_goal g) hs ++ (made_goal bank d ∷ [])) c.hypotheses
          ∙ ap (λ m. map (hypothesis_goal g) (hypotheses_of c.chosen) ++ (m ∷ [])) c.made;
    }

-- ---- lists of ids

terms_assoc : (c d e : Clause) → (c ++ d) ++ e ≡ c ++ (d ++ e)
terms_assoc [] d e = refl
terms_assoc (t ∷ c) d e = ap (λ r. t ∷ r) (terms_assoc c d e)

pub denied_more : (old mid new : Content) (first : Clause) (ids : List TermId) (t : TermId) (terms : List TermId) (i : ℕ) (none : TermId) → i < length terms → terms_at new ids ≡ terms_at mid ids → terms_at mid ids ≡ first ++ map not_term (terms_at old (take i terms)) → term_at new t ≡ not_term (term_at old (get_or terms i none)) →
    terms_at new (ids ++ t ∷ []) ≡ first ++ map not_term (terms_at old (take (i + 1) terms))
denied_more old mid new first ids t terms i none below same before is =
    map_push (term_at new) ids t
    ∙ ap₂ (λ (ts : Clause) (u : Term). ts ++ u ∷ []) (same ∙ before) is
    ∙ terms_assoc first (map not_term (terms_at old (take i terms))) (not_term (term_at old (get_or terms i none)) ∷ [])
    ∙ sym (ap (λ xs. first ++ map not_term (terms_at old xs)) (take_more terms i none below) ∙ ap (λ c. first ++ map not_term c) (map_push (term_at old) (take i terms) (get_or terms i none)) ∙ ap (λ c. first ++ c) (map_push not_term (terms_at old (take i terms)) (term_at old (get_or terms i none))))

-- the first two, and the rest
abbrev pub after_two : List TermId → List TermId
after_two ids = take (length ids - 2) (drop 2 ids)

pub split_two : (ids : List TermId) (d e : TermId) → 2 ≤ length ids → ids ≡ get_or ids 0 d ∷ get_or ids 1 e ∷ after_two ids
split_two [] d e h = absurd (omega (arith, h))
split_two (x ∷ []) d e h = absurd (omega (arith, h))
split_two (x ∷ y ∷ ids) d e h = ap (λ l. x ∷ y ∷ l) (sym (take_all (length (x ∷ y ∷ ids) - 2) ids (omega arith)))

pub kept_made : (r : Instance) (equation : TermId) (renaming : Renaming) (a b : TermId) (rest : Vec TermId Global) → 2 ≤ length renaming.literals.items → a ≡ get_or renaming.literals.items 0 a → b ≡ get_or renaming.literals.items 1 b → rest.items ≡ after_two renaming.literals.items → IsKept r equation renaming (kept_of r equation renaming a b rest)
kept_made r equation renaming a b rest two first second others =
    let ids : List TermId = renaming.literals.items in
    record {
      is = refl;
      renamed = split_two ids a b two ∙ ap (λ x. x ∷ get_or ids 1 b ∷ after_two ids) (sym first) ∙ ap (λ y. a ∷ y ∷ after_two ids) (sym second) ∙ ap (λ l. a ∷ b ∷ l) (sym others);
    }

pub at_least_two : (bank : Content) (ids : List TermId) (t u : Term) (c : Clause) → terms_at bank ids ≡ t ∷ u ∷ c → 2 ≤ length ids
at_least_two bank [] t u c e = absurd (cc)
at_least_two bank (x ∷ []) t u c e = let h : terms_at bank [] ≡ u ∷ c = cc in absurd (cc)
at_least_two bank (x ∷ y ∷ ids) t u c e = omega arith

-- what holds of each term of ids
pub values_at : (bank : Content) (ids : List TermId) (c : Clause) → terms_at bank ids ≡ c → Each (λ t. is_value t ≡ false) c → All (λ t. is_value (term_at bank t) ≡ false) ids
values_at bank [] c e h k d below = absurd (omega (arith, below))
values_at bank (x ∷ ids) [] e h k d below = absurd (cc)
values_at bank (x ∷ ids) (t ∷ c) e h k d below =
    let first : term_at bank x ≡ t = cc in
    let rest : terms_at bank ids ≡ c = cc in
    by_place (ap is_value first ∙ h.0) (values_at bank ids c rest h.1) k below
  where
    by_place : is_value (term_at bank x) ≡ false → All (λ t. is_value (term_at bank t) ≡ false) ids → (j : ℕ) → j < length (x ∷ ids) → is_value (term_at bank (get_or (x ∷ ids) j d)) ≡ false
    by_place here later zero l = here
    by_place here later (suc j) l = later j d (omega (arith, l))

-- what is prepared
module _ (history : List Entry) (old mid new : Work) (stood : WorkStands history old) (up : WorkGrows history old mid) (more : WorkGrows history mid new) where
  pub prepared_made : (goal : List TermId) → All (IsTermIn history old) goal → (r : Instance) → IsTermIn history old r.whole → IsTermIn history old r.variable → All (IsTermIn history old) r.hypotheses.items → (equation : TermId) → IsTermIn history mid equation → term_at mid.bank equation ≡ equal_term (term_at old.bank r.whole) (term_at old.bank r.variable) →
      (literals : Vec TermId Global) → All (IsTermIn history new) literals.items → terms_at new.bank literals.items ≡ term_at mid.bank r.whole ∷ not_term (term_at mid.bank equation) ∷ (terms_at mid.bank goal ++ map not_term (terms_at mid.bank r.hypotheses.items)) → IsPrepared history new goal r (record { equation = equation; literals = literals })
  prepared_made goal all r whole variable hypotheses equation over is literals each told =
      let through = WorkGrows-trans history old mid new up more in
      let mid_stands = up.stands in
      let whole_mid = term_grown history old mid r.whole stood up whole in
      let goal_mid = all_grown history old mid stood up goal all in
      let hyps_mid = all_grown history old mid stood up r.hypotheses.items hypotheses in
      let same_equation = same_term_grown history mid new equation more over in
      let new_goal = terms_same history mid new mid_stands more goal goal_mid in
      let new_hyps = terms_same history mid new mid_stands more r.hypotheses.items hyps_mid in
      record {
        equation = term_grown history mid new equation mid_stands more over;
        equation_is = same_equation ∙ is ∙ ap₂ (λ (a b : Term). equal_term a b) (sym (same_term_grown history old new r.whole through whole)) (sym (same_term_grown history old new r.variable through variable));
        literals = each;
        all =
            told
            ∙ ap (λ t. t ∷ not_term (term_at mid.bank equation) ∷ (terms_at mid.bank goal ++ map not_term (terms_at mid.bank r.hypotheses.items))) (sym (same_term_grown history mid new r.whole more whole_mid))
            ∙ ap (λ t. term_at new.bank r.whole ∷ not_term t ∷ (terms_at mid.bank goal ++ map not_term (terms_at mid.bank r.hypotheses.items))) (sym same_equation)
            ∙ ap (λ g. term_at new.bank r.whole ∷ not_term (term_at new.bank equation) ∷ (g ++ map not_term (terms_at mid.bank r.hypotheses.items))) (sym new_goal)
            ∙ ap (λ hs. term_at new.bank r.whole ∷ not_term (term_at new.bank equation) ∷ (terms_at new.bank goal ++ map not_term hs)) (sym new_hyps);
      }

  -- the elimination, and the goals of the table
  module _ (path : List (Vec TermId Global)) (goal : List TermId) (paths : All (λ g. All (IsTermIn history old) g.items) path) (all : All (IsTermIn history old) goal) (r : Instance) (e : Eliminating) (plain : IsPlain e) (instance : IsInstance history old e r) (p : Prepared) (prep : IsPrepared history mid goal r p) where
    abbrev knowns : List TermId
    knowns = (joined path ++ goal) ++ r.variable ∷ r.others.items

    inst_mid : IsInstance history mid e r
    inst_mid = instance_grown history old mid stood up e r instance

    inst_new : IsInstance history new e r
    inst_new = instance_grown history mid new up.stands more e r inst_mid

    pub prepared_all : terms_at mid.bank p.literals.items ≡ whole_of e ∷ not_term (equation_of e) ∷ (terms_at mid.bank goal ++ map not_term (hypotheses_of e))
    prepared_all =
        prep.all
        ∙ ap (λ t. t ∷ not_term (term_at mid.bank p.equation) ∷ (terms_at mid.bank goal ++ map not_term (terms_at mid.bank r.hypotheses.items))) inst_mid.whole_is
        ∙ ap (λ t. whole_of e ∷ not_term t ∷ (terms_at mid.bank goal ++ map not_term (terms_at mid.bank r.hypotheses.items))) equation_mid
        ∙ ap (λ hs. whole_of e ∷ not_term (equation_of e) ∷ (terms_at mid.bank goal ++ map not_term hs)) inst_mid.hypotheses_are
      where
        equation_mid : term_at mid.bank p.equation ≡ equation_of e
        equation_mid = prep.equation_is ∙ ap₂ (λ (a b : Term). equal_term a b) inst_mid.whole_is inst_mid.variable_is

    pub known_in_mid : All (IsTermIn history mid) knowns
    known_in_mid = known_in history mid path goal r.variable r.others.items (λ k d below. all_grown history old mid stood up (get_or path k d).items (paths k d below)) (all_grown history old mid stood up goal all) inst_mid.variable inst_mid.others

    variables_mid : terms_at mid.bank (r.variable ∷ r.others.items) ≡ map Variable (e.variable ∷ e.others)
    variables_mid = ap₂ (λ (t : Term) (ts : Clause). t ∷ ts) inst_mid.variable_is inst_mid.others_are

    pub literals_free : (y : Name) → occurs_in_one y (terms_at mid.bank knowns) ≡ false → occurs_in_one y (terms_at mid.bank p.literals.items) ≡ false
    literals_free y free =
        subst (λ ts. occurs_in_one y ts ≡ false) (sym prepared_all)
        (rename_free e (terms_at mid.bank knowns) (terms_at mid.bank goal) y plain (variables_known mid.bank path goal (r.variable ∷ r.others.items) (e.variable ∷ e.others) variables_mid) (goal_known mid.bank path goal (r.variable ∷ r.others.items)) free)

    pub calls_in_mid : All (IsTermIn history mid) r.calls.items
    calls_in_mid = inst_mid.calls

    pub values_mid : All (λ t. is_value (term_at mid.bank t) ≡ false) r.calls.items
    values_mid = values_at mid.bank r.calls.items (destructors_of e) inst_mid.calls_are plain.values

    module _ (d : Eliminated) (ren : IsRenamedBy history mid new knowns r p d) where
      eq_in : IsTermIn history new p.equation
      eq_in = term_grown history mid new p.equation up.stands more prep.equation

      eq_same : term_at new.bank p.equation ≡ term_at mid.bank p.equation
      eq_same = same_term_grown history mid new p.equation more prep.equation

      eq_is : term_at new.bank p.equation ≡ equation_of e
      eq_is = eq_same ∙ prep.equation_is ∙ ap₂ (λ (a b : Term). equal_term a b) inst_mid.whole_is inst_mid.variable_is

      goal_new : terms_at new.bank goal ≡ terms_at mid.bank goal
      goal_new = terms_same history mid new up.stands more goal (all_grown history old mid stood up goal all)

      all_new : terms_at new.bank p.literals.items ≡ whole_of e ∷ not_term (term_at new.bank p.equation) ∷ (terms_at new.bank goal ++ map not_term (terms_at new.bank r.hypotheses.items))
      all_new =
          terms_same history mid new up.stands more p.literals.items prep.literals
          ∙ prepared_all
          ∙ ap (λ t. whole_of e ∷ not_term t ∷ (terms_at mid.bank goal ++ map not_term (hypotheses_of e))) (sym eq_is)
          ∙ ap (λ g. whole_of e ∷ not_term (term_at new.bank p.equation) ∷ (g ++ map not_term (hypotheses_of e))) (sym goal_new)
          ∙ ap (λ hs. whole_of e ∷ not_term (term_at new.bank p.equation) ∷ (terms_at new.bank goal ++ map not_term hs)) (sym inst_new.hypotheses_are)

      told : pair_terms (substitution_at new.bank ren.renaming.pairs.items) ≡ destructors_of e
      told = ren.terms ∙ inst_mid.calls_are

      many : length r.calls.items ≡ length (destructors_of e)
      many = sym (length-map r.calls.items (term_at mid.bank)) ∙ ap length inst_mid.calls_are

      path_same : goals_at mid.bank path ≡ goals_at old.bank path
      path_same = goals_grown old.bank mid.bank path up.bank (λ k d below. all_stand history old (get_or path k d).items (paths k d below))

      named : pair_names (substitution_at new.bank ren.renaming.pairs.items) ≡ new_variables (known_variables (goals_at old.bank path) (terms_at old.bank goal) e) (length (destructors_of e))
      named =
          ren.names
          ∙ ap (λ us. new_variables us (length r.calls.items)) (known_joined mid.bank path goal r.variable r.others.items e inst_mid.variable_is inst_mid.others_are)
          ∙ ap₂ (λ (gs : List Clause) (g : Clause). new_variables (known_variables gs g e) (length r.calls.items)) path_same (terms_same history old mid stood up goal all)
          ∙ ap (new_variables (known_variables (goals_at old.bank path) (terms_at old.bank goal) e)) many

      pub serves_new : IsElimination history new goal d
      serves_new = elimination_made history new goal e r inst_new plain p.equation eq_in eq_is p.literals.items all_new ren.renaming ren.is d ren.kept told

      pub chosen_new : (h : History) (hints : Hints) → EliminateCandidate h hints (terms_at old.bank goal) e → IsChosen h hints (goals_at old.bank path) (terms_at old.bank goal) new.bank d
      chosen_new h hints candidate =
          chosen_made history new goal e r inst_new plain p.equation eq_in eq_is p.literals.items all_new ren.renaming ren.is d ren.kept told h hints (goals_at old.bank path) (terms_at old.bank goal) candidate (goal_new ∙ terms_same history old mid stood up goal all) named

-- as many literals as before
pub renamed_two : (history : List Entry) (work : Work) (these : List TermId) (renaming : Renaming) → IsRenaming history work these renaming → (literals : List TermId) → these ≡ literals → 2 ≤ length literals → 2 ≤ length renaming.literals.items
renamed_two history work these renaming is literals same two =
    let many : length renaming.literals.items ≡ length these =
    sym (length-map renaming.literals.items (term_at work.bank)) ∙ ap length is.renamed ∙ length-map (terms_at work.bank these) (exchanged (exchange_by (substitution_at work.bank renaming.pairs.items))) ∙ length-map these (term_at work.bank) in
    let e : length these ≡ length literals = ap length same in
    omega (arith, many, e, two)

-- ---- the same goal in an earlier bank

pub candidate_at : (h : History) (hints : Hints) (g k : Clause) (e : Eliminating) → k ≡ g → EliminateCandidate h hints g e → EliminateCandidate h hints k e
candidate_at h hints g k e same candidate = subst (λ c. EliminateCandidate h hints c e) (sym same) candidate

pub eliminates_before : (h : History) (hints : Hints) (old mid new : Content) (path : List (Vec TermId Global)) (goal : List TermId) (moved : Moved) → terms_at mid goal ≡ terms_at old goal → goals_at mid path ≡ goals_at old path → Eliminates h hints mid new path goal moved → Eliminates h hints old new path goal moved
eliminates_before h hints old mid new path goal moved same paths m =
    record { leads = subst (λ p. EliminateMove h hints p (terms_at old goal) (goals_at new moved.children.items)) paths (subst (λ g. EliminateMove h hints (goals_at mid path) g (goals_at new moved.children.items)) same m.leads) }

-- a call that told nothing left the work as it was
pub as_before : (old new : Work) (P : Work → Type 0) → new ≡ old → P old → P new
as_before old new P same h = subst P (sym same) h
