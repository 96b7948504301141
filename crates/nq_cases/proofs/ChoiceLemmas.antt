-- Choices of IFs, from those of arguments.
use Rattle.std.proofs.Common.{◌≡◌, ℕ, ◌≤◌, [], ◌∷◌, Option, Some, None, refl, sym, ap, ◌∙◌, subst, arith}
use Rattle.std.specs.Prelude.{IsSome, is_some}
use Rattle.std.specs.Prelude.{Result, Ok, Err, IfOk, MatchOption}
use Rattle.nq_logic.specs.Terms.{Term}
use Rattle.nq_logic.specs.Words.{if_term}
use Rattle.nq_logic.specs.Sizes.{depth_of, depth_limit}
use Rattle.nq_bank.specs.declared.node.TermId.{TermId}
use Rattle.nq_bank.specs.declared.node.BankFault.{BankFault}
use Rattle.nq_bank.specs.Content.{Content, Stands, Grows, IsIdOf, term_at}
use Rattle.nq_bank.specs.Parts.{parts_of}
use Rattle.nq_bank.proofs.Growth.{term_at-grown, Stands-grown, Grows-trans}
use Rattle.nq_proof.specs.Clauses.{literal_at}
use Rattle.nq_rule.specs.Results.{with_argument, with_part}
use Rattle.nq_rule.specs.declared.branching.Branches.{Branches}
use Rattle.nq_rule.proofs.PathLemmas.{with_part-step, part_at_first}
use Rattle.nq_cases.specs.Paths.{has_if, IsIfFree}
use Rattle.nq_cases.specs.declared.finding.Inside.{Inside}
use Rattle.nq_cases.specs.declared.choosing.Choice.{Choice}
use Rattle.nq_cases.specs.Choices.{IsInside, IsOpen, IsHere, IsFound, ChoiceIn, ChoiceOf, parts_at}
use Rattle.nq_cases.proofs.FindLemmas.{found_under, found_here, found_choice}

module _ (bank : Content) (t : TermId) (inside : Inside) (c : Choice) (i : IsInside bank t inside) (place_open : IsOpen (term_at bank t) inside.place) (h : ChoiceIn bank (term_at bank inside.argument) c) where
  pub wider : IsFound (inside.place ∷ c.path.items) (parts_at bank c) (term_at bank t)
  wider = found_under inside.place c.path.items (parts_at bank c) (term_at bank t) (term_at bank inside.argument) place_open i.at h.found

  step : (x y : Term) → y ≡ with_part c.path.items x (term_at bank inside.argument) → with_part (inside.place ∷ c.path.items) x (term_at bank t) ≡ with_argument inside.place y (term_at bank t)
  step x y e =
      with_part-step inside.place c.path.items x (term_at bank t) (term_at bank inside.argument) i.at (part_at_first c.path.items x (term_at bank inside.argument) (if_term (term_at bank c.test) (term_at bank c.first_branch) (term_at bank c.second_branch)) h.found.at) ∙
      ap (λ v. with_argument inside.place v (term_at bank t)) (sym e)

  pub first_wider : with_part (inside.place ∷ c.path.items) (term_at bank c.first_branch) (term_at bank t) ≡ with_argument inside.place (term_at bank c.first) (term_at bank t)
  first_wider = step (term_at bank c.first_branch) (term_at bank c.first) h.first_is

  pub second_wider : with_part (inside.place ∷ c.path.items) (term_at bank c.second_branch) (term_at bank t) ≡ with_argument inside.place (term_at bank c.second) (term_at bank t)
  second_wider = step (term_at bank c.second_branch) (term_at bank c.second) h.second_is

  pub first_shallow : (d : ℕ) → d ≡ depth_of (term_at bank t) → d ≤ depth_limit → depth_of (with_argument inside.place (term_at bank c.first) (term_at bank t)) ≤ depth_limit
  first_shallow d e most = let deep = wider.first_depth in let is = ap depth_of first_wider in omega (arith, deep, is, e, most)

  pub second_shallow : (d : ℕ) → d ≡ depth_of (term_at bank t) → d ≤ depth_limit → depth_of (with_argument inside.place (term_at bank c.second) (term_at bank t)) ≤ depth_limit
  second_shallow d e most = let deep = wider.second_depth in let is = ap depth_of second_wider in omega (arith, deep, is, e, most)

  pub second_later : (new : Content) (d : ℕ) → Grows bank new → Stands bank t → d ≡ depth_of (term_at bank t) → d ≤ depth_limit → depth_of (with_argument inside.place (term_at new c.second) (term_at new t)) ≤ depth_limit
  second_later new d grows stands e most =
      subst (λ v. depth_of (with_argument inside.place v (term_at new t)) ≤ depth_limit) (sym (term_at-grown bank new c.second grows h.second))
      (subst (λ u. depth_of (with_argument inside.place (term_at bank c.second) u) ≤ depth_limit) (sym (term_at-grown bank new t grows stands)) (second_shallow d e most))

  pub place_found : IsSome (literal_at inside.place (parts_of (term_at bank t)))
  place_found = ap is_some i.at

  -- the choice of the call, in a bank that grew
  pub around : (new : Content) (d : Choice) → Grows bank new → d.path.items ≡ inside.place ∷ c.path.items → d.whole ≡ c.whole → d.test ≡ c.test → d.first_branch ≡ c.first_branch → d.second_branch ≡ c.second_branch →
      IsIdOf new d.first (with_argument inside.place (term_at bank c.first) (term_at bank t)) → IsIdOf new d.second (with_argument inside.place (term_at bank c.second) (term_at bank t)) → ChoiceIn new (term_at bank t) d
  around new d grows path whole test first_branch second_branch first second =
      let w_is : term_at new d.whole ≡ term_at bank c.whole = ap (term_at new) whole ∙ term_at-grown bank new c.whole grows h.whole in
      let p_is : term_at new d.test ≡ term_at bank c.test = ap (term_at new) test ∙ term_at-grown bank new c.test grows h.test in
      let x_is : term_at new d.first_branch ≡ term_at bank c.first_branch = ap (term_at new) first_branch ∙ term_at-grown bank new c.first_branch grows h.first_branch in
      let y_is : term_at new d.second_branch ≡ term_at bank c.second_branch = ap (term_at new) second_branch ∙ term_at-grown bank new c.second_branch grows h.second_branch in
      let parts_is : parts_at bank c ≡ parts_at new d = rw (p_is, x_is, y_is) refl in
      record {
        whole = subst (Stands new) (sym whole) (Stands-grown bank new c.whole grows h.whole);
        test = subst (Stands new) (sym test) (Stands-grown bank new c.test grows h.test);
        first_branch = subst (Stands new) (sym first_branch) (Stands-grown bank new c.first_branch grows h.first_branch);
        second_branch = subst (Stands new) (sym second_branch) (Stands-grown bank new c.second_branch grows h.second_branch);
        first = first.stands;
        second = second.stands;
        denotes = w_is ∙ h.denotes ∙ rw (p_is, x_is, y_is) refl;
        found = subst (λ p. IsFound p (parts_at new d) (term_at bank t)) (sym path) (subst (λ q. IsFound (inside.place ∷ c.path.items) q (term_at bank t)) parts_is wider);
        first_is = first.denotes ∙ sym first_wider ∙ ap (λ v. with_part (inside.place ∷ c.path.items) v (term_at bank t)) (sym x_is) ∙ ap (λ p. with_part p (term_at new d.first_branch) (term_at bank t)) (sym path);
        second_is = second.denotes ∙ sym second_wider ∙ ap (λ v. with_part (inside.place ∷ c.path.items) v (term_at bank t)) (sym y_is) ∙ ap (λ p. with_part p (term_at new d.second_branch) (term_at bank t)) (sym path);
      }

  -- the same, where the second term was made after the first
  pub around_later : (mid new : Content) (d : Choice) → Grows bank mid → Grows mid new → Stands bank t → d.path.items ≡ inside.place ∷ c.path.items → d.whole ≡ c.whole → d.test ≡ c.test → d.first_branch ≡ c.first_branch → d.second_branch ≡ c.second_branch →
      IsIdOf mid d.first (with_argument inside.place (term_at bank c.first) (term_at bank t)) → IsIdOf new d.second (with_argument inside.place (term_at mid c.second) (term_at mid t)) → ChoiceIn new (term_at bank t) d
  around_later mid new d one two stands path whole test first_branch second_branch first second =
      around new d (Grows-trans bank mid new one two) path whole test first_branch second_branch
      (record { stands = Stands-grown mid new d.first two first.stands; denotes = term_at-grown mid new d.first two first.stands ∙ first.denotes })
      (record {
        stands = second.stands;
        denotes = second.denotes ∙ ap (λ v. with_argument inside.place v (term_at mid t)) (term_at-grown bank mid c.second one h.second) ∙ ap (λ u. with_argument inside.place (term_at bank c.second) u) (term_at-grown bank mid t one stands);
      })

-- an IF is a choice of itself
pub here_is : (bank : Content) (t : TermId) (b : Branches) (c : Choice) → Stands bank t → IsHere bank (term_at bank t) b → c.path.items ≡ [] → c.whole ≡ t → c.test ≡ b.test → c.first_branch ≡ b.first → c.second_branch ≡ b.second → c.first ≡ b.first → c.second ≡ b.second →
    ChoiceIn bank (term_at bank t) c
here_is bank t b c stands h path whole test first_branch second_branch first second =
    record {
      whole = subst (Stands bank) (sym whole) stands;
      test = subst (Stands bank) (sym test) h.stand.test;
      first_branch = subst (Stands bank) (sym first_branch) h.stand.first;
      second_branch = subst (Stands bank) (sym second_branch) h.stand.second;
      first = subst (Stands bank) (sym first) h.stand.first;
      second = subst (Stands bank) (sym second) h.stand.second;
      denotes = ap (term_at bank) whole ∙ is;
      found = subst (λ p. IsFound p (parts_at bank c) (term_at bank t)) (sym path) (found_here (term_at bank c.test) (term_at bank c.first_branch) (term_at bank c.second_branch) (term_at bank t) is (subst (λ u. IsIfFree (term_at bank u)) (sym test) h.free));
      first_is = ap (term_at bank) (first ∙ sym first_branch) ∙ ap (λ p. with_part p (term_at bank c.first_branch) (term_at bank t)) (sym path);
      second_is = ap (term_at bank) (second ∙ sym second_branch) ∙ ap (λ p. with_part p (term_at bank c.second_branch) (term_at bank t)) (sym path);
    }
  where
    is : term_at bank t ≡ if_term (term_at bank c.test) (term_at bank c.first_branch) (term_at bank c.second_branch)
    is = h.is ∙ rw (test, first_branch, second_branch) refl

-- what was found is a choice, where the term is not too deep
pub choice_of : (bank : Content) (t : Term) (c : Choice) → depth_of t ≤ depth_limit → ChoiceIn bank t c → ChoiceOf bank t c
choice_of bank t c most h =
    let test = h.found.test_depth in
    record {
      whole = h.whole;
      test = h.test;
      first_branch = h.first_branch;
      second_branch = h.second_branch;
      first = h.first;
      second = h.second;
      denotes = h.denotes;
      choice = found_choice c.path.items (parts_at bank c) t (term_at bank c.first) (term_at bank c.second) h.found h.first_is h.second_is;
      test_depth = omega (arith, test, most);
    }

pub choice_told : (bank : Content) (t : Term) (r : Result (Option Choice) BankFault) → depth_of t ≤ depth_limit → IfOk r (λ o. MatchOption o (IsIfFree t) (λ c. ChoiceIn bank t c)) → IfOk r (λ o. MatchOption o (IsIfFree t) (λ c. ChoiceOf bank t c))
choice_told bank t (Ok (Some c)) most h = choice_of bank t c most h
choice_told bank t (Ok None) most h = h
choice_told bank t (Err e) most h = tt

-- an argument is inside in a bank that grew
pub inside_grown : (old new : Content) (t : TermId) (inside : Inside) → Grows old new → Stands old t → IsInside old t inside → IsInside new t inside
inside_grown old new t inside grows stands h =
    let t_is = term_at-grown old new t grows stands in
    let a_is = term_at-grown old new inside.argument grows h.stands in
    record {
      stands = Stands-grown old new inside.argument grows h.stands;
      earlier = h.earlier;
      at = ap (λ u. literal_at inside.place (parts_of u)) t_is ∙ h.at ∙ ap (λ u. Some u) (sym a_is);
      has = ap has_if a_is ∙ h.has;
    }

pub open_grown : (old new : Content) (t : TermId) (place : ℕ) → Grows old new → Stands old t → IsOpen (term_at old t) place → IsOpen (term_at new t) place
open_grown old new t place grows stands h = subst (λ u. IsOpen u place) (sym (term_at-grown old new t grows stands)) h
