-- What variables become, over a bank that grows.
use Rattle.std.proofs.Common.{◌≡◌, ◌∙◌, ◌≤◌, ◌-◌, Bool, true, false, ℕ, zero, suc, List, length, get_or, take, drop, refl, sym, ap, ap₂}
use Rattle.std.specs.Prelude.{All, if◌then◌else◌}
use Rattle.nq_logic.specs.Terms.{Name, Term, Variable, Substitution, substituted, value_at}
use Rattle.nq_logic.specs.Words.{numeral}
use Rattle.nq_logic.specs.Names.{has_name}
use Rattle.nq_logic.specs.RuleShapes.{variables_of}
use Rattle.nq_bank.specs.declared.node.TermId.{TermId}
use Rattle.nq_bank.specs.Content.{Content, Grows, Stands, IsIdOf, text_at, term_at}
use Rattle.nq_bank.specs.Parts.{occurs}
use Rattle.nq_bank.proofs.Growth.{Grows-trans, text_at-grown, term_at-grown}
use Rattle.nq_clause.specs.declared.substitution.Pair.{Pair}
use Rattle.nq_clause.specs.Substitution.{PairStands, substitution_at}
use Rattle.nq_clause.proofs.SubstitutionLemmas.{substitution_at-grown}
use Rattle.nq_clause.proofs.SubsumptionLemmas.{first_rest}
use Rattle.nq_event.proofs.DefinitionLemmas.{occurs_is}
use Rattle.nq_tracer.specs.Cases.{change_of, changes_of, image_by}
use Rattle.nq_tracer.proofs.GrowLemmas.{id_by}

-- the image, in three steps
pub image_is : (old b1 b2 b3 : Content) (here there : List Pair) (name : List ℕ) (v t i : TermId) → Grows old b1 → Grows b1 b2 → All (PairStands old) here → All (PairStands old) there → IsIdOf b1 v (Variable name)
    → IsIdOf b2 t (substituted (substitution_at b1 there) (term_at b1 v)) → IsIdOf b3 i (substituted (substitution_at b2 here) (term_at b2 t))
    → IsIdOf b3 i (image_by (substitution_at old here) (substitution_at old there) name)
image_is old b1 b2 b3 here there name v t i grows more pairs others var at_call is =
    let t_is : term_at b2 t ≡ value_at (substitution_at old there) name = at_call.denotes ∙ ap₂ (λ (s : Substitution) (u : Term). substituted s u) (substitution_at-grown old b1 there grows others) var.denotes in
    id_by b3 i (substituted (substitution_at b2 here) (term_at b2 t)) (image_by (substitution_at old here) (substitution_at old there) name)
    (ap₂ (λ (s : Substitution) (u : Term). substituted s u) (substitution_at-grown old b2 here (Grows-trans old b1 b2 grows more) pairs) t_is) is

-- one change more
pub change_is : (old new : Content) (first : Pair) (later : List Pair) (s : Substitution) (here there : Substitution) (image : TermId) → Grows old new → PairStands old first → All (PairStands old) later
    → IsIdOf new image (image_by here there (text_at old first.variable)) → s ≡ change_of (term_at new first.term) (term_at new image) (substitution_at new later)
    → s ≡ change_of (term_at old first.term) (image_by here there (text_at old first.variable)) (substitution_at old later)
change_is old new first later s here there image grows stands pairs is e =
    e
    ∙ ap₂ (λ (t i : Term). change_of t i (substitution_at new later)) (term_at-grown old new first.term grows stands.term) is.denotes
    ∙ ap (change_of (term_at old first.term) (image_by here there (text_at old first.variable))) (substitution_at-grown old new later grows pairs)

-- the first formal is measured, or not
module _ (old b1 : Content) (measure : TermId) (here there left : List Pair) (d : Pair) (some : 1 ≤ length left) (grows : Grows old b1) (m_stands : Stands old measure) (first_stands : PairStands old (get_or left 0 d)) where
  abbrev first : Pair
  first = get_or left 0 d

  abbrev rest : List Pair
  rest = take (length left - 1) (drop 1 left)

  abbrev formals : List Name
  formals = variables_of (term_at old measure)

  abbrev image : Name → Term
  image = image_by (substitution_at old here) (substitution_at old there)

  left_is : changes_of formals image (substitution_at old left)
      ≡ (if has_name (text_at old first.variable) formals then change_of (term_at old first.term) (image (text_at old first.variable)) (changes_of formals image (substitution_at old rest)) else changes_of formals image (substitution_at old rest))
  left_is = ap (λ (l : List Pair). changes_of formals image (substitution_at old l)) (first_rest left d some)

  found : (b : Bool) → b ≡ occurs (text_at b1 first.variable) (term_at b1 measure) → has_name (text_at old first.variable) formals ≡ b
  found b e =
      sym (occurs_is (text_at old first.variable) (term_at old measure))
      ∙ ap₂ (λ (x : Name) (t : Term). occurs x t) (sym (text_at-grown old b1 first.variable grows first_stands.variable)) (sym (term_at-grown old b1 measure grows m_stands))
      ∙ sym e

  pub not_measured : (b : Bool) (s : Substitution) → b ≡ occurs (text_at b1 first.variable) (term_at b1 measure) → b ≡ false → s ≡ changes_of formals image (substitution_at old rest) → s ≡ changes_of formals image (substitution_at old left)
  not_measured b s told fails e =
      e
      ∙ sym (ap (λ c. if c then change_of (term_at old first.term) (image (text_at old first.variable)) (changes_of formals image (substitution_at old rest)) else changes_of formals image (substitution_at old rest)) (found b told ∙ fails))
      ∙ sym left_is

  pub is_measured : (b : Bool) (s : Substitution) (later : List Pair) → b ≡ occurs (text_at b1 first.variable) (term_at b1 measure) → b ≡ true → All (PairStands old) here → All (PairStands old) there
      → substitution_at b1 later ≡ changes_of formals image (substitution_at old rest)
      → s ≡ change_of (term_at b1 first.term) (image_by (substitution_at b1 here) (substitution_at b1 there) (text_at b1 first.variable)) (substitution_at b1 later) → s ≡ changes_of formals image (substitution_at old left)
  is_measured b s later told holds pairs others behind e =
      e
      ∙ ap₂ (λ (t : Term) (l : Substitution). change_of t (image_by (substitution_at b1 here) (substitution_at b1 there) (text_at b1 first.variable)) l) (term_at-grown old b1 first.term grows first_stands.term) behind
      ∙ ap (λ (x : Name). change_of (term_at old first.term) (image_by (substitution_at b1 here) (substitution_at b1 there) x) (changes_of formals image (substitution_at old rest))) (text_at-grown old b1 first.variable grows first_stands.variable)
      ∙ ap₂ (λ (h t : Substitution). change_of (term_at old first.term) (image_by h t (text_at old first.variable)) (changes_of formals image (substitution_at old rest))) (substitution_at-grown old b1 here grows pairs) (substitution_at-grown old b1 there grows others)
      ∙ sym (ap (λ c. if c then change_of (term_at old first.term) (image (text_at old first.variable)) (changes_of formals image (substitution_at old rest)) else changes_of formals image (substitution_at old rest)) (found b told ∙ holds))
      ∙ sym left_is

-- a numeral is no variable
pub numeral_stays : (n : ℕ) (image : Term) (changes : Substitution) → change_of (numeral n) image changes ≡ changes
unfolding numeral
numeral_stays zero image changes = refl
numeral_stays (suc n) image changes = refl
