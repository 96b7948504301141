-- The ground history's table over a bank: what the rows say of the ground names holds in each bank.
use Rattle.std.proofs.Common.{◌≡◌, ◌<◌, true, ◌&&◌, List, [], ◌∷◌, Option, reverse, length, get_or, refl, sym, ap, subst, ◌∙◌, inl, inr, arith}
use Rattle.std.specs.Prelude.{All, IfSome}
use Rattle.std.specs.Option.{option_map}
use Rattle.std.proofs.lemmas.Bool.{and_parts, ltb-true, leb-true}
use Rattle.nq_logic.specs.Terms.{Name, Term}
use Rattle.nq_logic.specs.Sizes.{depth_of, depth_limit}
use Rattle.nq_bank.specs.declared.node.Sym.{Sym}
use Rattle.nq_bank.specs.declared.node.TermId.{TermId}
use Rattle.nq_bank.specs.GroundNames.{ground_count}
use Rattle.nq_bank.specs.Content.{Content, Grows, IsNamed, Stands, term_at, terms_at}
use Rattle.nq_bank.specs.Shells.{texts_at}
use Rattle.nq_bank.specs.Soundness.{IsSound}
use Rattle.nq_bank.proofs.NodesLemmas.{All-head}
use Rattle.nq_bank.proofs.Growth.{Grows-refl, Grows-trans, IsNamed-grown, Stands-grown, term_at-grown}
use Rattle.nq_steps.specs.declared.steps.Leaf.TheVariants.{Letter, Name as Named, Part as PartAt, Number as NumberOf, Known}
use Rattle.nq_steps.specs.declared.steps.Step.{Step}
use Rattle.nq_steps.specs.declared.steps.Step.TheVariants.{Leaf as LeafStep, Call}
use Rattle.nq_steps.specs.Steps.{stack_of, step_taken, steps_taken, HasDeep, StepStands}
use Rattle.nq_steps.proofs.MakingLemmas.{step_grown}
use Rattle.nq_history.specs.Events.{DefinitionStands}
use Rattle.nq_history.specs.GroundTable.{ground_content, is_ground, is_base, is_step, are_steps, is_one, first_of, made_of, makes_one, is_measure, is_part_row, are_part_rows, is_row, are_rows, IsRow}
use Rattle.nq_history.specs.declared.ground_table.PartRow.{PartRow}
use Rattle.nq_history.specs.declared.ground_table.Row.{Row}
use Rattle.nq_history.specs.declared.ground_table.Row.TheVariants as row
use Rattle.nq_logic.specs.Histories.{Event, Defines}
use Rattle.nq_history.proofs.Lists.{All-cons, All-none}
use Rattle.nq_history.proofs.ShellLemmas.{texts-grown, names-grown}

-- each bank has the ground names
pub ground_grows : (bank : Content) → IsSound bank → Grows ground_content bank
ground_grows bank sound = record { names = sound.ground.first; terms = refl }

step_stands : (bank : Content) (step : Step) → Grows ground_content bank → is_step step ≡ true → StepStands bank step
step_stands bank (LeafStep (Letter b)) grows h = h
step_stands bank (LeafStep (Named s)) grows h = cc
step_stands bank (LeafStep (PartAt n)) grows h = tt
step_stands bank (LeafStep (NumberOf n)) grows h = tt
step_stands bank (LeafStep (Known t)) grows h = cc
step_stands bank (Call f n) grows h = IsNamed-grown ground_content bank f grows (ltb-true f.0 ground_count h)

pub steps_stand : (bank : Content) (steps : List Step) → Grows ground_content bank → are_steps steps ≡ true → All (StepStands bank) steps
steps_stand bank [] grows h = All-none (StepStands bank)
steps_stand bank (step ∷ steps) grows h =
    let parts = and_parts (is_step step) (are_steps steps) h in
    All-cons (StepStands bank) step steps (step_stands bank step grows parts.0) (steps_stand bank steps grows parts.1)

steps_grown : (bank : Content) (steps : List Step) (ts : List Term) → Grows ground_content bank → are_steps steps ≡ true → steps_taken bank steps ts ≡ steps_taken ground_content steps ts
steps_grown bank [] ts grows h = refl
steps_grown bank (step ∷ steps) ts grows h =
    let parts = and_parts (is_step step) (are_steps steps) h in
    ap (steps_taken bank steps) (step_grown ground_content bank step ts grows (step_stands ground_content step (Grows-refl ground_content) parts.0)) ∙
    steps_grown bank steps (step_taken ground_content step ts) grows parts.1

one_is : (ts : List Term) → is_one ts ≡ true → ts ≡ first_of ts ∷ []
one_is [] h = cc
one_is (t ∷ []) h = refl
one_is (t ∷ u ∷ ts) h = cc

one_shallow : (ts : List Term) → is_one ts ≡ true → HasDeep ts → ⊥
one_shallow [] h deep = absurd deep
one_shallow (t ∷ []) h (inl deep) = let most = leb-true (depth_of t) depth_limit h in absurd (omega (arith, most, deep))
one_shallow (t ∷ []) h (inr deep) = absurd deep
one_shallow (t ∷ u ∷ ts) h deep = cc

module _ (bank : Content) (steps : List Step) (grows : Grows ground_content bank) (h : makes_one steps ≡ true) where
  made : stack_of bank steps ≡ made_of steps ∷ []
  made =
      let parts = and_parts (are_steps steps) (is_one (stack_of ground_content steps)) h in
      steps_grown bank steps [] grows parts.0 ∙ one_is (stack_of ground_content steps) parts.1

  pub last_made : reverse (stack_of bank steps) ≡ made_of steps ∷ []
  last_made = ap reverse made

  pub none_deep : HasDeep (stack_of bank steps) → ⊥
  none_deep deep =
      let parts = and_parts (are_steps steps) (is_one (stack_of ground_content steps)) h in
      one_shallow (stack_of ground_content steps) parts.1 (subst HasDeep (steps_grown bank steps [] grows parts.0) deep)

  pub made_stand : All (StepStands bank) steps
  made_stand = steps_stand bank steps grows (and_parts (are_steps steps) (is_one (stack_of ground_content steps)) h).0

-- the id of a term that is the only one
pub one_made : (bank : Content) (ids : List TermId) (t : Term) (id : TermId) → terms_at bank ids ≡ t ∷ [] → All (Stands bank) ids → id ≡ get_or ids 0 id → Stands bank id × (term_at bank id ≡ t)
one_made bank [] t id e h is = cc
one_made bank (other ∷ ids) t id e h is =
    (subst (Stands bank) (sym is) (All-head (Stands bank) other ids h), ap (term_at bank) is ∙ ap first_of e)

pub one_id : (bank : Content) (ids : List TermId) (t : Term) → terms_at bank ids ≡ t ∷ [] → 0 < length ids
one_id bank [] t e = cc
one_id bank (id ∷ ids) t e = omega arith

part_rows_right : (parts : List PartRow) → are_part_rows parts ≡ true → All (λ part. is_part_row part ≡ true) parts
part_rows_right [] h = All-none (λ part. is_part_row part ≡ true)
part_rows_right (part ∷ parts) h =
    let both = and_parts (is_part_row part) (are_part_rows parts) h in
    All-cons (λ row. is_part_row row ≡ true) part parts both.0 (part_rows_right parts both.1)

pub row_right : (r : Row) → is_row r ≡ true → IsRow r
row_right (row.Declared f n) h = ltb-true f.0 ground_count h
row_right (row.Shell constructor base recognizer parts) h =
    let all = and_parts (is_ground constructor) (is_base base && (is_ground recognizer && are_part_rows parts.now)) h in
    let most = and_parts (is_base base) (is_ground recognizer && are_part_rows parts.now) all.1 in
    let last = and_parts (is_ground recognizer) (are_part_rows parts.now) most.1 in
    record { makes = ltb-true constructor.0 ground_count all.0; base_is = most.0; tells = ltb-true recognizer.0 ground_count last.0; parts_are = part_rows_right parts.now last.1 }
row_right (row.Defined f letters body measure) h =
    let all = and_parts (is_ground f) (makes_one body.now && is_measure measure.now) h in
    let last = and_parts (makes_one body.now) (is_measure measure.now) all.1 in
    record { function = ltb-true f.0 ground_count all.0; body_is = last.0; measure_is = last.1 }

pub rows_right : (rows : List Row) → are_rows rows ≡ true → All IsRow rows
rows_right [] h = All-none IsRow
rows_right (r ∷ rows) h =
    let both = and_parts (is_row r) (are_rows rows) h in
    All-cons IsRow r rows (row_right r both.0) (rows_right rows both.1)

abbrev pub name_event : Name → List Name → Term → Option Term → Event
name_event name formals body measure = Defines (record { function = name; formals = formals; body = body; measure = measure })

-- a definition that is made in steps
module _ (first second third : Content) (xs : List Sym) (t : TermId) (h : Grows first second) (k : Grows second third) (named : All (IsNamed first) xs) (stands : Stands second t) where
  pub defined_stands : (m : Option TermId) → IfSome m (λ u. Stands third u) → DefinitionStands third xs t m
  defined_stands m measured =
      record { formals = names-grown first third (Grows-trans first second third h k) xs named; body = Stands-grown second third t k stands; measure = measured }

  pub defined_event : (m : Option TermId) (name : Name) (formals : List Name) (body : Term) (measure : Option Term) → texts_at first xs ≡ formals → term_at second t ≡ body → option_map (term_at third) m ≡ measure → name_event name (texts_at third xs) (term_at third t) (option_map (term_at third) m) ≡ name_event name formals body measure
  defined_event m name formals body measure texts is measured =
      let texts_are : texts_at third xs ≡ formals = texts-grown first third (Grows-trans first second third h k) xs named ∙ texts in
      let body_is : term_at third t ≡ body = term_at-grown second third t k stands ∙ is in
      rw (texts_are, body_is, measured) refl

-- some row
abbrev pub a_row : Row
a_row = row.Declared (record { 0 = 0 }) 0
