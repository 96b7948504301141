-- Drafts and the goals of an induction over a bank that grows.
use Rattle.std.proofs.Common.{◌≡◌, ◌∙◌, List, [], ◌∷◌, map, ap, ap₂}
use Rattle.std.specs.Prelude.{All, Vec}
use Rattle.std.specs.declared.alloc.Global.{Global}
use Rattle.nq_logic.specs.Terms.{Term, Substitution, substituted}
use Rattle.nq_logic.specs.Words.{not_term, and_term, implies_term}
use Rattle.nq_bank.specs.declared.node.TermId.{TermId}
use Rattle.nq_bank.specs.Content.{Content, Grows, Stands, IsIdOf, term_at}
use Rattle.nq_bank.proofs.Growth.{Stands-grown, term_at-grown}
use Rattle.nq_clause.specs.declared.substitution.Pair.{Pair}
use Rattle.nq_logic.specs.RuleShapes.{variables_of}
use Rattle.nq_clause.specs.Substitution.{PairStands, substitution_at}
use Rattle.nq_clause.proofs.SubstitutionLemmas.{substitution_at-grown}
use Rattle.nq_goals.specs.Inducting.{all_of, base_case, step_case}
use Rattle.nq_tracer.specs.Cases.{case_there, changes_of, image_by}
use Rattle.nq_tracer.specs.declared.drafts.Draft.{Draft}
use Rattle.nq_tracer.specs.Leads.{draft_at, DraftStands}
use Rattle.nq_tracer.proofs.GrowLemmas.{id_by, pairs_keep}

pub draft_same : (old new : Content) (r : Draft) → Grows old new → DraftStands old r → draft_at new r ≡ draft_at old r
draft_same old new r grows stands =
    ap₂ (λ (t : Term) (s : Substitution). record { test = t; substitutions = s ∷ [] }) (term_at-grown old new r.test grows stands.test) (substitution_at-grown old new r.pairs.items grows stands.pairs)

pub draft_keeps : (old new : Content) (r : Draft) → Grows old new → DraftStands old r → DraftStands new r
draft_keeps old new r grows stands = record { test = Stands-grown old new r.test grows stands.test; pairs = pairs_keep old new r.pairs.items grows stands.pairs }

-- an id that is made of a grown bank's terms
pub base_is : (old b1 new : Content) (p : TermId) (r : Draft) (denied base : TermId) → Grows old b1 → Stands old p → IsIdOf b1 denied (not_term (term_at old r.test)) → IsIdOf new base (implies_term (term_at b1 denied) (term_at b1 p))
    → IsIdOf new base (base_case (term_at old p) (draft_at old r ∷ []))
base_is old b1 new p r denied base grows stands d is =
    id_by new base (implies_term (term_at b1 denied) (term_at b1 p)) (base_case (term_at old p) (draft_at old r ∷ [])) (ap₂ implies_term d.denotes (term_at-grown old b1 p grows stands)) is

pub step_is : (old b1 b2 new : Content) (p : TermId) (r : Draft) (supposed both step : TermId) → Grows old b1 → Grows old b2 → Stands old p → DraftStands old r → IsIdOf b1 supposed (substituted (substitution_at old r.pairs.items) (term_at old p))
    → IsIdOf b2 both (and_term (term_at b1 r.test) (term_at b1 supposed)) → IsIdOf new step (implies_term (term_at b2 both) (term_at b2 p)) → IsIdOf new step (step_case (term_at old p) (draft_at old r))
step_is old b1 b2 new p r supposed both step grows more stands draft s b is =
    let both_is : term_at b2 both ≡ and_term (term_at old r.test) (substituted (substitution_at old r.pairs.items) (term_at old p)) = b.denotes ∙ ap₂ and_term (term_at-grown old b1 r.test grows draft.test) s.denotes in
    id_by new step (implies_term (term_at b2 both) (term_at b2 p)) (step_case (term_at old p) (draft_at old r)) (ap₂ implies_term both_is (term_at-grown old b2 p more stands)) is

-- terms that stay
pub id_keeps : (old new : Content) (t : TermId) (a : Term) → Grows old new → IsIdOf old t a → IsIdOf new t a
id_keeps old new t a grows is = record { stands = Stands-grown old new t grows is.stands; denotes = term_at-grown old new t grows is.stands ∙ is.denotes }

pub id_by_equation : (bank : Content) (t : TermId) {a b : Term} → a ≡ b → IsIdOf bank t a → IsIdOf bank t b
id_by_equation bank t e is = id_by bank t _ _ e is

-- a draft by its two parts
pub draft_is : (old b1 b2 : Content) (measure : TermId) (here there : List Pair) (tests : List Term) (test : TermId) (pairs : Vec Pair Global) → Grows old b1 → Grows b1 b2 → Stands old measure → All (PairStands old) here → All (PairStands old) there
    → IsIdOf b1 test (all_of (map (substituted (substitution_at old here)) tests))
    → substitution_at b2 pairs.items ≡ changes_of (variables_of (term_at b1 measure)) (image_by (substitution_at b1 here) (substitution_at b1 there)) (substitution_at b1 here)
    → draft_at b2 (record { test = test; pairs = pairs }) ≡ case_there (term_at old measure) (substitution_at old here) (substitution_at old there) tests
draft_is old b1 b2 measure here there tests test pairs grows more m_stands pairs_stand others test_is changes =
    let first = term_at-grown b1 b2 test more test_is.stands ∙ test_is.denotes in
    let second =
    changes
    ∙ ap (λ (m : Term). changes_of (variables_of m) (image_by (substitution_at b1 here) (substitution_at b1 there)) (substitution_at b1 here)) (term_at-grown old b1 measure grows m_stands)
    ∙ ap₂ (λ (h t : Substitution). changes_of (variables_of (term_at old measure)) (image_by h t) h) (substitution_at-grown old b1 here grows pairs_stand) (substitution_at-grown old b1 there grows others) in
    ap₂ (λ (t : Term) (s : Substitution). record { test = t; substitutions = s ∷ [] }) first second
