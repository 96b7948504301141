-- What is taken out of a term that a line shows.
use Rattle.std.proofs.Common.{◌≡◌, ◌∷◌, [], ℕ, List, Option, Some, None, sym, ap, ap₂, ◌∙◌, subst, inl, inr}
use Rattle.std.specs.Prelude.{Result, IfOk, IfSome}
use Rattle.nq_logic.specs.Terms.{Symbol, Term}
use Rattle.nq_logic.specs.Words.{equal_term, false_term, if_term, not_term}
use Rattle.nq_bank.specs.Content.{term_at}
use Rattle.nq_rule.specs.declared.branching.Branches.{Branches}
use Rattle.nq_rule.proofs.Made.{for_ok}
use Rattle.nq_proof.specs.Rules.{Forwards}
use Rattle.nq_history.specs.declared.entry.Entry.{Entry}
use Rattle.nq_kernel.specs.declared.work.Work.{Work}
use Rattle.nq_kernel.specs.declared.work.Stop.{Stop}
use Rattle.nq_kernel.specs.Growing.{WorkStands, WorkGrows, LineStands}
use Rattle.nq_lines.specs.Lines.{CutsTo, IsTermIn, LineHasOnly, MakesOf, RewritesTo}
use Rattle.nq_lines.proofs.Among.{beside, none_among}
use Rattle.nq_lines.proofs.LineLemmas.{only_grown, only_more, line_grown}
use Rattle.nq_lines.proofs.TermLemmas.{term_grown, same_term_grown}
use Rattle.nq_lines.specs.declared.facts.Fact.{Fact}
use Rattle.nq_lines.specs.Facts.{IsOpening}
use Rattle.std.specs.Option.{option_map}
use Rattle.nq_logic.specs.Ground.{symbols_of}
use Rattle.nq_proof.specs.Paths.{if_parts}
use Rattle.nq_proof.proofs.Places.{if_parts_are}
use Rattle.nq_rule.specs.Branches.{branches_at, BranchesStand}
use Rattle.nq_history.specs.Events.{events_at}
use Rattle.nq_kernel.specs.Over.{IsVariable, IsTermOf}
use Rattle.nq_bank.specs.declared.node.TermId.{TermId}
use Rattle.nq_instances.specs.Parts.{IsIfOf, IsLine, Derives, DerivesWith}

module _ (history : List Entry) (old new : Work) (grows : WorkGrows history old new) where
  pub line_there : (f : Fact) → WorkStands history old → IsLine history old f → IsLine history new f
  line_there f stands h = record { term = term_grown history old new f.term stands grows h.term; line = line_grown history old new f.line stands grows h.line }

  -- a line with its term stays
  pub has_still : (f : Fact) (these : List Term) → WorkStands history old → IsTermIn history old f.term → LineHasOnly old f.line (term_at old.bank f.term ∷ these) → LineHasOnly new f.line (term_at new.bank f.term ∷ these)
  has_still f these stands there h =
      subst (λ u. LineHasOnly new f.line (u ∷ these)) (sym (same_term_grown history old new f.term grows there)) (only_grown history old new f.line (term_at old.bank f.term ∷ these) stands grows h)

  -- the parts of an IF stay so
  pub if_grown : (t : TermId) (parts : Branches) → WorkStands history old → IsTermIn history old t → IsIfOf history old t parts → IsIfOf history new t parts
  if_grown t parts stands there h =
      record {
        whole =
            same_term_grown history old new t grows there ∙ h.whole ∙
            ap₃ if_term (sym (same_term_grown history old new parts.test grows h.test)) (sym (same_term_grown history old new parts.first grows h.first)) (sym (same_term_grown history old new parts.second grows h.second));
        test = term_grown history old new parts.test stands grows h.test;
        first = term_grown history old new parts.first stands grows h.first;
        second = term_grown history old new parts.second stands grows h.second;
      }
    where
      ap₃ : (f : Term → Term → Term → Term) {a b c x y z : Term} → a ≡ x → b ≡ y → c ≡ z → f a b c ≡ f x y z
      ap₃ f {a} {b} {c} {x} {y} {z} p q r = ap (λ u. f u b c) p ∙ ap (λ u. f x u c) q ∙ ap (f x y) r

module _ (history : List Entry) (old one new : Work) where
  pub then_derived : (f g : Fact) (result : Result (Option Fact) Stop) → Derives history old one f g → IfOk result (λ found. IfSome found (Derives history one new g)) → IfOk result (λ found. IfSome found (Derives history old new f))
  then_derived f g result first h = for_ok result (λ found. IfSome found (Derives history one new g)) (λ found. IfSome found (Derives history old new f)) (λ found k. both found k) h
    where
      both : (found : Option Fact) → IfSome found (Derives history one new g) → IfSome found (Derives history old new f)
      both None k = tt
      both (Some r) k = record { is = k.is; makes = λ these m. k.makes these (first.makes these m) }

  -- after the first step with another line
  pub derived_with : (f k g : Fact) (result : Result (Option Fact) Stop) → DerivesWith history old one f k g → IfOk result (λ found. IfSome found (Derives history one new g)) → IfOk result (λ found. IfSome found (DerivesWith history old new f k))
  derived_with f k g result first h = for_ok result (λ found. IfSome found (Derives history one new g)) (λ found. IfSome found (DerivesWith history old new f k)) (λ found m. both found m) h
    where
      both : (found : Option Fact) → IfSome found (Derives history one new g) → IfSome found (DerivesWith history old new f k)
      both None m = tt
      both (Some r) m = record { is = m.is; makes = λ these a b. m.makes these (first.makes these a b) }

  -- before the step with another line, which stood
  pub with_derived : (f k g : Fact) (result : Result (Option Fact) Stop) → WorkGrows history old one → WorkStands history old → IsLine history old k → Derives history old one f g → IfOk result (λ found. IfSome found (DerivesWith history one new g k)) → IfOk result (λ found. IfSome found (DerivesWith history old new f k))
  with_derived f k g result grows stands there first h = for_ok result (λ found. IfSome found (DerivesWith history one new g k)) (λ found. IfSome found (DerivesWith history old new f k)) (λ found m. both found m) h
    where
      both : (found : Option Fact) → IfSome found (DerivesWith history one new g k) → IfSome found (DerivesWith history old new f k)
      both None m = tt
      both (Some r) m = record { is = m.is; makes = λ these a b. m.makes these (first.makes these a) (has_still history old one grows k these stands there.term b) }

  -- with another line that came of the same
  pub by_own : (f g : Fact) (result : Result (Option Fact) Stop) → WorkGrows history old one → WorkStands history old → IsLine history old f → Derives history old one f g → IfOk result (λ found. IfSome found (DerivesWith history one new f g)) → IfOk result (λ found. IfSome found (Derives history old new f))
  by_own f g result grows stands there first h = for_ok result (λ found. IfSome found (DerivesWith history one new f g)) (λ found. IfSome found (Derives history old new f)) (λ found m. both found m) h
    where
      both : (found : Option Fact) → IfSome found (DerivesWith history one new f g) → IfSome found (Derives history old new f)
      both None m = tt
      both (Some r) m = record { is = m.is; makes = λ these a. m.makes these (has_still history old one grows f these stands there.term a) (first.makes these a) }

-- a call that was opened
pub opened_line : (history : List Entry) (old new : Work) (f body : Fact) (n : ℕ) → WorkStands history old → WorkGrows history old new → IsOpening history old (term_at old.bank f.term) body → LineStands new n → RewritesTo old new Forwards (term_at old.bank f.term) (term_at old.bank body.term) f.line body.line n → Derives history old new f (record { term = body.term; line = n })
opened_line history old new f body n stands grows opening there rewrites =
    let t : Term = term_at old.bank f.term in
    let u : Term = term_at old.bank body.term in
    record {
      is = record { term = term_grown history old new body.term stands grows opening.term; line = there };
      makes = λ these h. subst (λ w. LineHasOnly new n (w ∷ these)) (sym (same_term_grown history old new body.term grows opening.term)) (
          rewrites these h (only_more old body.line (equal_term t u ∷ []) (equal_term t u ∷ these) (beside (equal_term t u) [] these (none_among these)) opening.line));
    }

-- the test of an IF that ends in F
pub test_line : (history : List Entry) (w0 w1 w2 w3 : Work) (f : Fact) (parts : Branches) (law denial n : ℕ) → WorkStands history w0 → WorkGrows history w0 w1 → WorkGrows history w1 w2 → WorkGrows history w2 w3 → WorkGrows history w0 w3 → IsLine history w0 f → IsIfOf history w0 f.term parts → term_at w0.bank parts.second ≡ false_term →
    LineHasOnly w1 law (term_at w0.bank parts.test ∷ equal_term (if_term (term_at w0.bank parts.test) (term_at w0.bank parts.first) (term_at w0.bank parts.second)) (term_at w0.bank parts.second) ∷ []) →
    MakesOf w1 w2 (equal_term (term_at w1.bank f.term) false_term) (not_term (term_at w1.bank f.term)) law denial → CutsTo w2 w3 (term_at w2.bank f.term) f.line denial n → LineStands w3 n → Derives history w0 w3 f (record { term = parts.test; line = n })
test_line history w0 w1 w2 w3 f parts law denial n stands g1 g2 g3 g there is ends chosen denies cuts last =
    let p : Term = term_at w0.bank parts.test in
    let t : Term = term_at w0.bank f.term in
    let e : Term = equal_term (if_term p (term_at w0.bank parts.first) (term_at w0.bank parts.second)) (term_at w0.bank parts.second) in
    let in1 : IsTermIn history w1 f.term = term_grown history w0 w1 f.term stands g1 there.term in
    let same1 : term_at w1.bank f.term ≡ t = same_term_grown history w0 w1 f.term g1 there.term in
    let same2 : term_at w2.bank f.term ≡ t = same_term_grown history w1 w2 f.term g2 in1 ∙ same1 in
    let e_is : e ≡ equal_term t false_term = ap₂ equal_term (sym is.whole) ends in
    record {
      is = record { term = term_grown history w0 w3 parts.test stands g is.test; line = last };
      makes = λ these h.
          let law_has : LineHasOnly w1 law (equal_term (term_at w1.bank f.term) false_term ∷ p ∷ these) =
          subst (λ u. LineHasOnly w1 law (equal_term u false_term ∷ p ∷ these)) (sym same1) (
          only_more w1 law (p ∷ e ∷ []) (equal_term t false_term ∷ p ∷ these) (λ u m. elim m [ inl k ↦ inr (inl k) | inr (inl k) ↦ inl (k ∙ e_is) | inr (inr none) ↦ absurd none ]) chosen) in
          let denied : LineHasOnly w2 denial (not_term t ∷ p ∷ these) = subst (λ u. LineHasOnly w2 denial (not_term u ∷ p ∷ these)) same1 (denies (p ∷ these) law_has) in
          let whole : LineHasOnly w2 f.line (t ∷ p ∷ these) =
          only_grown history w1 w2 f.line (t ∷ p ∷ these) g1.stands g2 (only_grown history w0 w1 f.line (t ∷ p ∷ these) stands g1 (
          only_more w0 f.line (t ∷ these) (t ∷ p ∷ these) (λ u m. elim m [ inl k ↦ inl k | inr k ↦ inr (inr k) ]) h)) in
          subst (λ u. LineHasOnly w3 n (u ∷ these)) (sym (same_term_grown history w0 w3 parts.test g is.test)) (
          cuts (p ∷ these) (subst (λ u. LineHasOnly w2 f.line (u ∷ p ∷ these)) (sym same2) whole) (subst (λ u. LineHasOnly w2 denial (not_term u ∷ p ∷ these)) (sym same2) denied));
    }

-- the first branch of an IF whose test is known
pub first_line : (history : List Entry) (w0 w1 w2 : Work) (f k : Fact) (parts : Branches) (equation n : ℕ) → WorkStands history w0 → WorkGrows history w0 w1 → WorkGrows history w0 w2 → IsLine history w0 f → IsIfOf history w0 f.term parts → parts.test ≡ k.term →
    MakesOf w0 w1 (term_at w0.bank parts.test) (equal_term (if_term (term_at w0.bank parts.test) (term_at w0.bank parts.first) (term_at w0.bank parts.second)) (term_at w0.bank parts.first)) k.line equation →
    RewritesTo w1 w2 Forwards (term_at w1.bank f.term) (term_at w1.bank parts.first) f.line equation n → LineStands w2 n → DerivesWith history w0 w2 f k (record { term = parts.first; line = n })
first_line history w0 w1 w2 f k parts equation n stands g1 g there is test makes rewrites last =
    let t : Term = term_at w0.bank f.term in
    let x : Term = term_at w0.bank parts.first in
    let same_t : term_at w1.bank f.term ≡ t = same_term_grown history w0 w1 f.term g1 there.term in
    let same_x : term_at w1.bank parts.first ≡ x = same_term_grown history w0 w1 parts.first g1 is.first in
    record {
      is = record { term = term_grown history w0 w2 parts.first stands g is.first; line = last };
      makes = λ these h m.
          let by : LineHasOnly w1 equation (equal_term t x ∷ these) =
          subst (λ u. LineHasOnly w1 equation (equal_term u x ∷ these)) (sym is.whole) (makes these (subst (λ i. LineHasOnly w0 k.line (term_at w0.bank i ∷ these)) (sym test) m)) in
          let held : LineHasOnly w1 f.line (t ∷ these) = only_grown history w0 w1 f.line (t ∷ these) stands g1 h in
          subst (λ u. LineHasOnly w2 n (u ∷ these)) (sym (same_term_grown history w0 w2 parts.first g is.first)) (
          subst (λ u. LineHasOnly w2 n (u ∷ these)) same_x (
          rewrites these (subst (λ u. LineHasOnly w1 f.line (u ∷ these)) (sym same_t) held) (subst (λ u. LineHasOnly w1 equation (equal_term u (term_at w1.bank parts.first) ∷ these)) (sym same_t) (subst (λ u. LineHasOnly w1 equation (equal_term t u ∷ these)) (sym same_x) by))));
    }

-- of a line that stood
pub derived_before : (history : List Entry) (old one new : Work) (f : Fact) (result : Result (Option Fact) Stop) → WorkGrows history old one → WorkStands history old → IsLine history old f → IfOk result (λ found. IfSome found (Derives history one new f)) → IfOk result (λ found. IfSome found (Derives history old new f))
derived_before history old one new f result grows stands there h = for_ok result (λ found. IfSome found (Derives history one new f)) (λ found. IfSome found (Derives history old new f)) (λ found m. both found m) h
  where
    both : (found : Option Fact) → IfSome found (Derives history one new f) → IfSome found (Derives history old new f)
    both None m = tt
    both (Some r) m = record { is = m.is; makes = λ these a. m.makes these (has_still history old one grows f these stands there.term a) }

pub opening_now : (history : List Entry) (old new : Work) (f body : Fact) → WorkGrows history old new → IsLine history old f → IsOpening history new (term_at old.bank f.term) body → IsOpening history new (term_at new.bank f.term) body
opening_now history old new f body grows there h = subst (λ u. IsOpening history new u body) (sym (same_term_grown history old new f.term grows there.term)) h

-- the parts of an IF are over what it is over
parts_over : (symbols : List Symbol) (p x y : Term) → IsTermOf IsVariable symbols (if_term p x y) → IsTermOf IsVariable symbols p × IsTermOf IsVariable symbols x × IsTermOf IsVariable symbols y
parts_over symbols p x y h = (record { over = h.over.0.0.1; variables = h.variables.0.0.1 }, record { over = h.over.0.1; variables = h.variables.0.1 }, record { over = h.over.1; variables = h.variables.1 })

-- the parts of an IF
pub parts_told : (history : List Entry) (work : Work) (t : TermId) (o : Option Branches) → IsTermIn history work t → option_map (branches_at work.bank) o ≡ if_parts (term_at work.bank t) → IfSome o (BranchesStand work.bank) → IfSome o (IsIfOf history work t)
parts_told history work t None there e h = tt
parts_told history work t (Some b) there e h =
    let whole : term_at work.bank t ≡ if_term (term_at work.bank b.test) (term_at work.bank b.first) (term_at work.bank b.second) = if_parts_are (term_at work.bank t) (branches_at work.bank b) (sym e) in
    let over = parts_over (symbols_of (events_at work.bank history)) (term_at work.bank b.test) (term_at work.bank b.first) (term_at work.bank b.second) (subst (IsTermOf IsVariable (symbols_of (events_at work.bank history))) whole there.over) in
    record {
      whole = whole;
      test = record { stands = h.test; over = over.0 };
      first = record { stands = h.first; over = over.1 };
      second = record { stands = h.second; over = over.2 };
    }
