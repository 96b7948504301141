-- Cases of an induction, line by line.
use Rattle.std.proofs.Common.{◌≡◌, ℕ, ◌+◌, ◌<◌, zero, suc, Bool, true, false, List, [], ◌∷◌, ◌++◌, map, length, get_or, drop, refl, sym, ap, ◌∙◌, subst, append_assoc, append-nil, arith}
use Rattle.std.specs.Prelude.{Option, Some, None, Result, Ok, Err, IfOk, OnOk, Vec, All, is_some, nat_le, ◌&&◌}
use Rattle.std.specs.declared.alloc.Global.{Global}
use Rattle.std.specs.List.{flat_map}
use Rattle.std.proofs.lemmas.Bool.Decides.{nat_tests}
use Rattle.std.proofs.lemmas.List.{map-append, at_drop_more}
use Rattle.nq_logtext.specs.Reading.{◌>>=◌}
use Rattle.nq_logtext.specs.Fields.{number}
use Rattle.nq_logtext.specs.Views.{of_binding}
use Rattle.nq_logtext.specs.declared.line.Binding.{Binding}
use Rattle.nq_logic.specs.Terms.{Term, Substitution}
use Rattle.nq_bank.specs.Content.{Content, Stands, term_at as term_of_bank}
use Rattle.nq_bank.proofs.NodesLemmas.{All-head, All-tail}
use Rattle.nq_bank.proofs.Standing.{All-push}
use Rattle.nq_history.proofs.Lists.{All-none, All-cons}
use Rattle.nq_proof.specs.Rules.{CaseLines, Rule}
use Rattle.nq_proof.specs.Rules as rules
use Rattle.nq_rule.specs.declared.induction.CaseOfInduction.{CaseOfInduction}
use Rattle.nq_rule.specs.declared.induction.InductionStep.{InductionStep}
use Rattle.nq_rule.specs.Inductions.{case_at, cases_at, hypothesis_at, hypotheses_at, CaseStands, HypothesisStands}
use Rattle.nq_log.specs.States.{Block, CaseLine, CaseOf, HypothesisOf, Step, Continues, Claims, Ends, Claim, term_at, has_line, has_term_at, numbered, only_when}
use Rattle.nq_log.specs.Logs.{continued}
use Rattle.nq_log.specs.RuleLines.{grouped, substitution_at, case_line, have_terms, hypothesis_line, rule_line, with_case}
use Rattle.nq_check.specs.declared.waiting.CaseLine.{CaseLine as Waiting}
use Rattle.nq_check.specs.declared.waiting.CaseLine.TheVariants.{Case, Hypothesis}
use Rattle.nq_check.specs.declared.context.Context.{Context}
use Rattle.nq_check.specs.declared.judged.Judged.{Judged}
use Rattle.nq_check.specs.declared.judged.Judged.TheVariants as told
use Rattle.nq_check.specs.Contexts.{case_of, pair_of, state_of, IsWhole}
use Rattle.nq_check.specs.Judging.{GoesOn, Leads}
use Rattle.nq_check.proofs.NumberLemmas.{pairs_again}
use Rattle.nq_check.specs.Cases.{with_steps, resumed, resumed_at, GoesWith, HasStep, PutsStep}

abbrev Groups : Type 0
Groups = List rules.Hypothesis × List CaseLines

-- a case behind those so far
resumed_push : (cs : List CaseLines) (c : CaseLines) (hs : List rules.Hypothesis) (ks : List CaseLines) → resumed (cs ++ c ∷ []) (hs, ks) ≡ resumed cs ([], with_steps c hs ∷ ks)
resumed_push [] c hs ks = refl
resumed_push (x ∷ []) c hs ks = ap (λ (steps : List rules.Hypothesis). Some (record x { hypotheses = steps } ∷ with_steps c hs ∷ ks)) (sym (append-nil x.hypotheses))
resumed_push (x ∷ y ∷ cs) c hs ks = ap (λ (o : Option (List CaseLines)). o >>= λ rest. Some (x ∷ rest)) (resumed_push (y ∷ cs) c hs ks)

-- a hypothesis behind those of the last case
resumed_step : (cs : List CaseLines) (c d : CaseLines) (h : rules.Hypothesis) (hs : List rules.Hypothesis) (ks : List CaseLines) → with_steps c (h ∷ []) ≡ d → resumed (cs ++ c ∷ []) (h ∷ hs, ks) ≡ resumed (cs ++ d ∷ []) (hs, ks)
resumed_step cs c d h hs ks e =
    resumed_push cs c (h ∷ hs) ks
    ∙ ap (λ (steps : List rules.Hypothesis). resumed cs ([], record c { hypotheses = steps } ∷ ks)) (sym (append_assoc c.hypotheses (h ∷ []) hs))
    ∙ ap (λ (x : CaseLines). resumed cs ([], with_steps x hs ∷ ks)) e
    ∙ sym (resumed_push cs d hs ks)

pub resumed_all : (cs : List CaseLines) → resumed cs ([], []) ≡ Some cs
resumed_all [] = refl
resumed_all (c ∷ []) = ap (λ (steps : List rules.Hypothesis). Some (record c { hypotheses = steps } ∷ [])) (append-nil c.hypotheses)
resumed_all (c ∷ d ∷ cs) = ap (λ (o : Option (List CaseLines)). o >>= λ rest. Some (c ∷ rest)) (resumed_all (d ∷ cs))

-- ---- CASE

by_groups : (cs : List CaseLines) (test : Term) (l : ℕ) (o : Option Groups) →
    ((o >>= λ g. Some ([], record { test = test; step = l; hypotheses = g.0 } ∷ g.1)) >>= resumed cs) ≡ (o >>= resumed (cs ++ record { test = test; step = l; hypotheses = [] } ∷ []))
by_groups cs test l None = refl
by_groups cs test l (Some g) = sym (resumed_push cs (record { test = test; step = l; hypotheses = [] }) g.0 g.1)

pub case_goes : (block : Block) (q l : ℕ) (test : Term) (cs ds : List CaseLines) → term_at block q ≡ Some test → cs ++ record { test = test; step = l; hypotheses = [] } ∷ [] ≡ ds → GoesWith true block (CaseOf q l) cs ds
case_goes block q l test cs ds e f =
    λ rest.
    ap (λ (o : Option Term). (o >>= λ test. grouped block rest >>= λ g. Some ([], record { test = test; step = l; hypotheses = g.0 } ∷ g.1)) >>= resumed cs) e
    ∙ by_groups cs test l (grouped block rest) ∙ ap (λ (ds : List CaseLines). resumed_at block ds rest) f

pub case_unknown : (block : Block) (q l : ℕ) (cs ds : List CaseLines) → term_at block q ≡ None → GoesWith false block (CaseOf q l) cs ds
case_unknown block q l cs ds e =
    λ rest. ap (λ (o : Option Term). (o >>= λ test. grouped block rest >>= λ g. Some ([], record { test = test; step = l; hypotheses = g.0 } ∷ g.1)) >>= resumed cs) e

-- ---- HYP

by_steps : (cs ds : List CaseLines) (h : rules.Hypothesis) (o : Option Groups) → ((hs : List rules.Hypothesis) (ks : List CaseLines) → resumed cs (h ∷ hs, ks) ≡ resumed ds (hs, ks)) →
    ((o >>= λ g. Some (h ∷ g.0, g.1)) >>= resumed cs) ≡ (o >>= resumed ds)
by_steps cs ds h None same = refl
by_steps cs ds h (Some g) same = same g.0 g.1

no_case : (h : rules.Hypothesis) (o : Option Groups) → ((o >>= λ g. Some (h ∷ g.0, g.1)) >>= resumed []) ≡ None
no_case h None = refl
no_case h (Some g) = refl

module _ (block : Block) (r : ℕ) (pairs : List (ℕ × ℕ)) where
  pub step_goes : (s : Substitution) (cs : List CaseLines) (c d : CaseLines) → substitution_at block pairs ≡ Some s → with_steps c (record { line = r; pairs = s } ∷ []) ≡ d →
      GoesWith true block (HypothesisOf r pairs) (cs ++ c ∷ []) (cs ++ d ∷ [])
  step_goes s cs c d e f =
      λ rest.
      ap (λ (o : Option Substitution). (o >>= λ s. grouped block rest >>= λ g. Some (record { line = r; pairs = s } ∷ g.0, g.1)) >>= resumed (cs ++ c ∷ [])) e
      ∙ by_steps (cs ++ c ∷ []) (cs ++ d ∷ []) (record { line = r; pairs = s }) (grouped block rest) (λ hs ks. resumed_step cs c d (record { line = r; pairs = s }) hs ks f)

  pub step_unknown : (cs ds : List CaseLines) → substitution_at block pairs ≡ None → GoesWith false block (HypothesisOf r pairs) cs ds
  step_unknown cs ds e =
      λ rest. ap (λ (o : Option Substitution). (o >>= λ s. grouped block rest >>= λ g. Some (record { line = r; pairs = s } ∷ g.0, g.1)) >>= resumed cs) e

  pub step_first : (s : Substitution) (ds : List CaseLines) → substitution_at block pairs ≡ Some s → GoesWith false block (HypothesisOf r pairs) [] ds
  step_first s ds e =
      λ rest.
      ap (λ (o : Option Substitution). (o >>= λ s. grouped block rest >>= λ g. Some (record { line = r; pairs = s } ∷ g.0, g.1)) >>= resumed []) e
      ∙ no_case (record { line = r; pairs = s }) (grouped block rest)

-- the step that was put, over a bank
pub put_over : (bank : Content) (block : Block) (r : ℕ) (pairs : List (ℕ × ℕ)) (old new : List CaseOfInduction) (step : InductionStep) → HasStep old new step →
    substitution_at block pairs ≡ Some (hypothesis_at bank step).pairs → step.line ≡ r → GoesWith true block (HypothesisOf r pairs) (cases_at bank old) (cases_at bank new)
put_over bank block r pairs old new step has e is =
    λ rest.
    ap (λ (cs : List CaseOfInduction). resumed_at block (cases_at bank cs) (HypothesisOf r pairs ∷ rest)) has.old_is
    ∙ ap (λ (cs : List CaseLines). resumed_at block cs (HypothesisOf r pairs ∷ rest)) (map-append (case_at bank) has.front (has.before ∷ []))
    ∙ step_goes block r pairs (hypothesis_at bank step).pairs (cases_at bank has.front) (case_at bank has.before) (case_at bank has.after) e after rest
    ∙ ap (λ (cs : List CaseLines). resumed_at block cs rest) (sym (map-append (case_at bank) has.front (has.after ∷ [])))
    ∙ ap (λ (cs : List CaseOfInduction). resumed_at block (cases_at bank cs) rest) (sym has.new_is)
  where
    steps : hypotheses_at bank has.after.steps.items ≡ hypotheses_at bank has.before.steps.items ++ hypothesis_at bank step ∷ []
    steps = ap (hypotheses_at bank) has.steps ∙ map-append (hypothesis_at bank) has.before.steps.items (step ∷ [])

    parts : with_steps (case_at bank has.before) (hypothesis_at bank step ∷ []) ≡ case_at bank has.after
    parts = λ i. record { test = term_of_bank bank (sym has.test i); step = sym has.line i; hypotheses = sym steps i }

    after : with_steps (case_at bank has.before) (record { line = r; pairs = (hypothesis_at bank step).pairs } ∷ []) ≡ case_at bank has.after
    after =
        ap (λ n. with_steps (case_at bank has.before) (record { line = n; pairs = (hypothesis_at bank step).pairs } ∷ [])) (sym is)
        ∙ parts

-- ---- INDUCT

-- the lines that waited are used up
pub induct_by : (o : Option Block) (b : Block) → continued o ≡ Some (Continues b) → continued (o >>= λ block. Some (record block { cases = [] })) ≡ Some (Continues (record b { cases = [] }))
induct_by None b e = absurd cc
induct_by (Some x) b e = let same : x ≡ b = cc in ap (λ (y : Block). Some (Continues (record y { cases = [] }))) same

pub induct_denied : (o : Option Block) → continued o ≡ None → continued (o >>= λ block. Some (record block { cases = [] })) ≡ None
induct_denied None e = refl
induct_denied (Some x) e = absurd cc

pub no_claim : (o : Option Block) (claim : Claim) → continued o ≡ Some (Claims claim) → ⊥
no_claim None claim e = absurd cc
no_claim (Some x) claim e = absurd cc

pub no_end : (o : Option Block) → continued o ≡ Some Ends → ⊥
no_end None e = absurd cc
no_end (Some x) e = absurd cc

pub induct_leads : (old mid : Context) (cases : Vec Waiting Global) (rule : Option Rule) (judged : Judged) → Leads (state_of old) (continued (rule_line (state_of old) rule)) judged mid → cases.items ≡ [] →
    Leads (state_of old) (continued (rule_line (state_of old) rule >>= λ block. Some (record block { cases = [] }))) judged (record mid { cases = cases })
induct_leads old mid cases rule told.NotAllowed led none = induct_denied (rule_line (state_of old) rule) led
induct_leads old mid cases rule told.Continues led none = record {
  whole = record { history = led.whole.history; introduced = led.whole.introduced; terms = led.whole.terms; lines = led.whole.lines; parts = led.whole.parts };
  step = induct_by (rule_line (state_of old) rule) (state_of mid).block led.step
      ∙ ap (λ (cs : List CaseLine). Some (Continues (record (state_of mid).block { cases = cs }))) (sym (ap (map case_of) none));
  history = led.history;
}
induct_leads old mid cases rule (told.Claims text) led none = absurd (no_claim (rule_line (state_of old) rule) led.claim led.step)
induct_leads old mid cases rule told.Ends led none = absurd (no_end (rule_line (state_of old) rule) led.0)

-- ---- lines that wait

pub case_added : (old : Context) (cases : Vec Waiting Global) (line : Waiting) → IsWhole old → cases.items ≡ old.cases.items ++ line ∷ [] →
    GoesOn (state_of old) (Some (Continues (with_case (state_of old).block (case_of line)))) (record old { cases = cases })
case_added old cases line whole pushed = record {
  whole = record { history = whole.history; introduced = whole.introduced; terms = whole.terms; lines = whole.lines; parts = whole.parts };
  step = ap (λ (cs : List CaseLine). Some (Continues (record (state_of old).block { cases = cs }))) (sym (ap (map case_of) pushed ∙ map-append case_of old.cases.items (line ∷ [])));
  history = refl;
}

pub case_goes_on : (old : Context) (cases : Vec Waiting Global) (q l : ℕ) → IsWhole old → (has_term_at (state_of old).block q && has_line (state_of old).block l) ≡ true → cases.items ≡ old.cases.items ++ Case q l ∷ [] →
    GoesOn (state_of old) (continued (case_line (state_of old) (number q ∷ number l ∷ []))) (record old { cases = cases })
case_goes_on old cases q l whole has pushed =
    subst (λ (o : Option Step). GoesOn (state_of old) o (record old { cases = cases })) (ap (λ b. continued (only_when b (with_case (state_of old).block (CaseOf q l)))) (sym has)) (case_added old cases (Case q l) whole pushed)

module _ (old : Context) (r : ℕ) (bindings : List Binding) where
  hypothesis_is : continued (hypothesis_line (state_of old) (number r ∷ flat_map of_binding bindings))
      ≡ continued (only_when (has_line (state_of old).block r && have_terms (state_of old).block (map pair_of bindings)) (with_case (state_of old).block (HypothesisOf r (map pair_of bindings))))
  hypothesis_is = ap (λ (o : Option (List (ℕ × ℕ))). continued (o >>= λ pairs. only_when (has_line (state_of old).block r && have_terms (state_of old).block pairs) (with_case (state_of old).block (HypothesisOf r pairs)))) (pairs_again bindings)

  pub hypothesis_denied : (has_line (state_of old).block r && have_terms (state_of old).block (map pair_of bindings)) ≡ false → continued (hypothesis_line (state_of old) (number r ∷ flat_map of_binding bindings)) ≡ None
  hypothesis_denied e = hypothesis_is ∙ ap (λ b. continued (only_when b (with_case (state_of old).block (HypothesisOf r (map pair_of bindings))))) e

  pub hypothesis_goes_on : (cases : Vec Waiting Global) (kept : Vec Binding Global) → IsWhole old → (has_line (state_of old).block r && have_terms (state_of old).block (map pair_of bindings)) ≡ true → kept.items ≡ bindings →
      cases.items ≡ old.cases.items ++ Hypothesis r kept ∷ [] → GoesOn (state_of old) (continued (hypothesis_line (state_of old) (number r ∷ flat_map of_binding bindings))) (record old { cases = cases })
  hypothesis_goes_on cases kept whole has same pushed =
      subst (λ (o : Option Step). GoesOn (state_of old) o (record old { cases = cases }))
      (ap (λ (bs : List Binding). Some (Continues (with_case (state_of old).block (HypothesisOf r (map pair_of bs))))) same
      ∙ ap (λ b. continued (only_when b (with_case (state_of old).block (HypothesisOf r (map pair_of bindings))))) (sym has) ∙ sym hypothesis_is)
      (case_added old cases (Hypothesis r kept) whole pushed)

-- whether a line has a number
pub line_within : {X : Type 0} (xs : List X) (n : ℕ) → is_some (numbered xs n) ≡ (nat_le 1 n && nat_le n (length xs))
line_within xs zero = refl
line_within [] (suc n) = grind (arith, nat_tests)
line_within (x ∷ xs) (suc zero) = grind (arith, nat_tests)
line_within (x ∷ xs) (suc (suc n)) = line_within xs (suc n) ∙ grind (arith, nat_tests)

-- ---- the lines that wait, one after the other

pub lines_more : (block : Block) (lines : List Waiting) (i : ℕ) (line : Waiting) (cs ds : List CaseLines) → i < length lines → line ≡ get_or lines i line → GoesWith true block (case_of line) cs ds →
    resumed_at block cs (map case_of (drop i lines)) ≡ resumed_at block ds (map case_of (drop (i + 1) lines))
lines_more block lines i line cs ds below is goes =
    at_drop_more (λ rest. resumed_at block cs (map case_of rest)) lines i line below
    ∙ ap (λ (here : Waiting). resumed_at block cs (case_of here ∷ map case_of (drop (i + 1) lines))) (sym is)
    ∙ goes (map case_of (drop (i + 1) lines))

pub lines_stop : (block : Block) (lines : List Waiting) (i : ℕ) (line : Waiting) (cs ds : List CaseLines) → i < length lines → line ≡ get_or lines i line → GoesWith false block (case_of line) cs ds →
    resumed_at block cs (map case_of (drop i lines)) ≡ None
lines_stop block lines i line cs ds below is goes =
    at_drop_more (λ rest. resumed_at block cs (map case_of rest)) lines i line below
    ∙ ap (λ (here : Waiting). resumed_at block cs (case_of here ∷ map case_of (drop (i + 1) lines))) (sym is)
    ∙ goes (map case_of (drop (i + 1) lines))

-- ---- what a step leaves

all_front : {X : Type 0} (P : X → Type 0) (xs : List X) (x : X) → All P (xs ++ x ∷ []) → All P xs
all_front P [] x h = All-none P
all_front P (y ∷ xs) x h = All-cons P y xs (All-head P y (xs ++ x ∷ []) h) (all_front P xs x (All-tail P y (xs ++ x ∷ []) h))

all_last : {X : Type 0} (P : X → Type 0) (xs : List X) (x : X) → All P (xs ++ x ∷ []) → P x
all_last P [] x h = All-head P x [] h
all_last P (y ∷ xs) x h = all_last P xs x (All-tail P y (xs ++ x ∷ []) h)

pub put_stands : (bank : Content) (old new : List CaseOfInduction) (step : InductionStep) → HasStep old new step → All (CaseStands bank) old → HypothesisStands bank step → All (CaseStands bank) new
put_stands bank old new step has stand here =
    let whole = subst (All (CaseStands bank)) has.old_is stand in
    let before = all_last (CaseStands bank) has.front has.before whole in
    subst (All (CaseStands bank)) (sym has.new_is)
    (All-push (CaseStands bank) has.front has.after (all_front (CaseStands bank) has.front has.before whole)
    (record { test = subst (Stands bank) (sym has.test) before.test; steps = subst (All (HypothesisStands bank)) (sym has.steps) (All-push (HypothesisStands bank) has.before.steps.items step before.steps here) }))

-- a step that was put, or that no case stands before
pub step_put : (bank : Content) (block : Block) (r : ℕ) (pairs : List (ℕ × ℕ)) (old new : List CaseOfInduction) (step : InductionStep) (put : Bool) → PutsStep put old new step →
    substitution_at block pairs ≡ Some (hypothesis_at bank step).pairs → step.line ≡ r → GoesWith put block (HypothesisOf r pairs) (cases_at bank old) (cases_at bank new)
step_put bank block r pairs old new step true puts e is = put_over bank block r pairs old new step puts e is
step_put bank block r pairs old new step false none e is =
    λ rest. ap (λ (cs : List CaseOfInduction). resumed_at block (cases_at bank cs) (HypothesisOf r pairs ∷ rest)) none.0 ∙ step_first block r pairs (hypothesis_at bank step).pairs (cases_at bank new) e rest

-- the cases stand where a step was put, and else as they did
pub step_stands : (bank : Content) (old new : List CaseOfInduction) (step : InductionStep) (put : Bool) → PutsStep put old new step → All (CaseStands bank) old → HypothesisStands bank step → All (CaseStands bank) new
step_stands bank old new step true puts stand here = put_stands bank old new step puts stand here
step_stands bank old new step false none stand here = subst (All (CaseStands bank)) (sym none.1) (All-none (CaseStands bank))

-- ---- what an answer that is Ok tells

pub if_ok : {T E : Type 0} (r : Result T E) (P Q : T → Type 0) → ((t : T) → P t → Q t) → IfOk r P → IfOk r Q
if_ok (Ok t) P Q f h = f t h
if_ok (Err e) P Q f h = tt

pub on_ok : {T E : Type 0} (r : Result T E) (P : T → Type 0) (Q : Type 0) → ((t : T) → P t → Q) → IfOk r P → OnOk r Q
on_ok (Ok t) P Q f h = f t h
on_ok (Err e) P Q f h = tt
