-- The line of a call and what it opens to.
use Rattle.std.proofs.Common.{◌≡◌, ◌≤◌, ◌+◌, Option, Some, List, [], ◌∷◌, length, get_or, refl, sym, ap, ◌∙◌, subst, arith}
use Rattle.std.specs.Prelude.{is_some}
use Rattle.std.specs.Option.{option_map}
use Rattle.std.proofs.lemmas.List.{length-map}
use Rattle.nq_logic.specs.Terms.{Term, Substitution, Each}
use Rattle.nq_logic.specs.Words.{equal_term}
use Rattle.nq_logic.specs.Sizes.{depth_of, depth_limit}
use Rattle.nq_logic.specs.Ground.{symbols_of}
use Rattle.nq_bank.specs.declared.node.TermId.{TermId}
use Rattle.nq_bank.specs.Content.{Content, Stands, term_at, terms_at}
use Rattle.nq_bank.specs.Parts.{parts_of}
use Rattle.nq_logic.specs.Numerals.{number_of}
use Rattle.nq_clause.specs.Substitution.{substitution_at}
use Rattle.nq_proof.specs.Clauses.{Clause}
use Rattle.nq_proof.specs.Rules.{given, pair_terms}
use Rattle.nq_rule.specs.Results.{instance_of}
use Rattle.nq_history.specs.declared.entry.Entry.{Entry}
use Rattle.nq_history.specs.Events.{events_at}
use Rattle.nq_kernel.specs.declared.work.Work.{Work}
use Rattle.nq_kernel.specs.Over.{IsVariable, IsTermOf}
use Rattle.nq_kernel.specs.Growing.{WorkStands, LineHolds}
use Rattle.nq_fragments.specs.Outcomes.{term_depth, value_depth}
use Rattle.nq_fragments.specs.Openings.{body_of, opening_of}
use Rattle.nq_eval.specs.Lines.{GrowsUncounted, IsUsable}
use Rattle.nq_eval.specs.Rows.{row_at, row_instance, HasRow}
use Rattle.nq_eval.specs.Opened.{Opens, IsOpening, IsOpenedTo}
use Rattle.nq_eval.specs.declared.openings.Opening.{Opening}
use Rattle.nq_eval.specs.declared.openings.Opened.{Opened}
use Rattle.nq_eval.proofs.LineLemmas.{each_shallow, depth_equal}
use Rattle.nq_eval.proofs.ClosingLemmas.{events_same, same_after}
use Rattle.nq_eval.proofs.SubstitutionLemmas.{instance_over, instance_depth}

-- ---- the ids of a clause

pub count_ids : (bank : Content) (ids : List TermId) (ts : List Term) → terms_at bank ids ≡ ts → length ids ≡ length ts
count_ids bank ids ts e = sym (length-map ids (term_at bank)) ∙ ap length e

pub first_id : (bank : Content) (ids : List TermId) (t : Term) (rest : List Term) (d : TermId) → terms_at bank ids ≡ t ∷ rest → term_at bank (get_or ids 0 d) ≡ t
first_id bank [] t rest d e = absurd cc
first_id bank (a ∷ ids) t rest d e = cc

pub second_id : (bank : Content) (ids : List TermId) (t u : Term) (rest : List Term) (d : TermId) → terms_at bank ids ≡ t ∷ u ∷ rest → term_at bank (get_or ids 1 d) ≡ u
second_id bank [] t u rest d e = absurd cc
second_id bank (a ∷ []) t u rest d e = absurd cc
second_id bank (a ∷ b ∷ ids) t u rest d e = cc

pub ids_terms : (bank : Content) (o : Option (List TermId)) (c : Clause) (ids : List TermId) → option_map (terms_at bank) o ≡ Some c → o ≡ Some ids → terms_at bank ids ≡ c
ids_terms bank o c ids e h = let both : Some (terms_at bank ids) ≡ Some c = sym (ap (option_map (terms_at bank)) h) ∙ e in cc

pub one_line : (o : Option Clause) (u b w : Term) → o ≡ Some (equal_term u b ∷ []) → o ≡ Some (equal_term u w ∷ []) → w ≡ b
one_line o u b w e h = let both : Some (equal_term u b ∷ []) ≡ Some (equal_term u w ∷ []) = sym e ∙ h in cc

-- ---- the instance of the row

module _ (bank : Content) (history : List Entry) (u : TermId) (o : Opening) (opens : IsOpening bank history u o) (usable : IsUsable bank history u) where
  abbrev s : Substitution
  s = opens.opening.pairs

  abbrev body : Term
  body = body_of opens.opening

  pub opened_instance : row_instance bank history o.name o.row (substitution_at bank o.pairs.items) ≡ Some (equal_term (term_at bank u) body ∷ [])
  opened_instance =
      ap (λ c. given c (λ d. Some (instance_of (substitution_at bank o.pairs.items) d))) opens.row ∙
      ap (λ r. Some (instance_of r (equal_term opens.left opens.opening.body ∷ []))) opens.reads ∙
      ap (λ t. Some (equal_term t body ∷ [])) opens.left_is

  pub body_depth_is : depth_of body ≤ term_depth
  body_depth_is =
      let few : depth_of body ≤ depth_of opens.opening.body + value_depth = instance_depth (symbols_of (events_at bank history)) s value_depth opens.small (omega arith) opens.opening.body opens.body_over.over in
      let base : depth_of opens.opening.body ≤ 2000 = opens.body_shallow in
      omega (arith, few, base)

  pub body_over_is : IsTermOf IsVariable (symbols_of (events_at bank history)) body
  body_over_is = instance_over IsVariable (events_at bank history) s opens.opening.body (subst (λ r. Each (IsTermOf IsVariable (symbols_of (events_at bank history))) (pair_terms r)) opens.reads opens.pairs.terms) opens.body_over

  row_depth : depth_of (equal_term opens.left opens.opening.body) ≤ depth_limit
  row_depth = let whole = depth_equal opens.left opens.opening.body in let one = opens.left_shallow in let two : depth_of opens.opening.body ≤ 2000 = opens.body_shallow in omega (arith, whole, one, two)

  instance_limit : depth_of (equal_term (term_at bank u) body) ≤ depth_limit
  instance_limit = let whole = depth_equal (term_at bank u) body in let one : depth_of (term_at bank u) ≤ term_depth = usable.shallow in let two = body_depth_is in omega (arith, whole, one, two)

  pub opened_has : HasRow bank history o.name o.row (substitution_at bank o.pairs.items)
  opened_has =
      record {
        there = ap is_some opens.row;
        shallow = each_shallow (row_at bank history o.name o.row) (equal_term opens.left opens.opening.body ∷ []) opens.row (row_depth, tt);
        instance = each_shallow (row_instance bank history o.name o.row (substitution_at bank o.pairs.items)) (equal_term (term_at bank u) body ∷ []) opened_instance (instance_limit, tt);
      }

-- ---- as the work grows

module _ (history : List Entry) (old new : Work) (stands : WorkStands history old) (grown : GrowsUncounted history old new) (u : TermId) (usable : IsUsable old.bank history u) where
  pub opens_after : Opens old.bank history u → Opens new.bank history u
  opens_after k = let one = same_after history old new stands grown u usable in record { row = rw one k.row; value = rw one k.value; passes_not = rw one k.passes_not }

  pub opened_to : (o : Opening) (opened : Opened) → Opens old.bank history u → (k : IsOpening old.bank history u o) → Stands new.bank opened.body → LineHolds new opened.line (equal_term (term_at new.bank u) (body_of k.opening) ∷ []) →
      LineHolds new opened.line (equal_term (term_at new.bank u) (term_at new.bank opened.body) ∷ []) → IsOpenedTo history new u opened
  opened_to o opened opens k there one two =
      let events : events_at new.bank history ≡ events_at old.bank history = events_same history old new stands grown in
      let same : term_at new.bank u ≡ term_at old.bank u = same_after history old new stands grown u usable in
      let denotes : term_at new.bank opened.body ≡ body_of k.opening = one_line _ (term_at new.bank u) (body_of k.opening) (term_at new.bank opened.body) one two in
      record {
        opens = opens_after opens;
        opening = k.opening;
        is = ap (λ h. opening_of h (term_at new.bank u)) events ∙ ap (opening_of (events_at old.bank history)) same ∙ k.is;
        body = record {
          stands = there;
          over = subst (λ t. IsTermOf IsVariable (symbols_of (events_at new.bank history)) t) (sym denotes) (subst (λ h. IsTermOf IsVariable (symbols_of h) (body_of k.opening)) (sym events) (body_over_is old.bank history u o k usable));
          shallow = subst (λ t. depth_of t ≤ term_depth) (sym denotes) (body_depth_is old.bank history u o k usable);
        };
        denotes = denotes;
        line = λ differs. two;
      }

pub equation_parts : (t u : Term) → parts_of (equal_term t u) ≡ t ∷ u ∷ []
unfolding number_of
equation_parts t u = refl
