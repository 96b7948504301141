-- The kinds that the restriction of a part names, and that its default meets it.
use Rattle.std.proofs.Common.{◌≡◌, ◌≤◌, ◌<◌, ℕ, Bool, true, false, List, [], ◌∷◌, length, sym, ap, ◌∙◌, subst, arith}
use Rattle.nq_logic.specs.Terms.{Name, Term, Each}
use Rattle.nq_logic.specs.Names.{has_name}
use Rattle.nq_logic.specs.Histories.{History}
use Rattle.nq_logic.specs.ShellPrinciple.{listed}
use Rattle.nq_logic.specs.Shells.{either_of, recognized, restricted}
use Rattle.nq_logic.specs.Words.{not_term}
use Rattle.nq_bank.specs.declared.node.TermId.{TermId}
use Rattle.nq_bank.specs.declared.shell.Part.{Part}
use Rattle.nq_bank.specs.Content.{Content, IsIdOf}
use Rattle.nq_bank.specs.Shells.{part_at, texts_at}
use Rattle.nq_kernel.specs.declared.work.Work.{Work}
use Rattle.nq_kernel.specs.Ready.{recognizer_limit}
use Rattle.nq_lines.specs.Lines.{LineHasOnly}
use Rattle.nq_part_lines.specs.Decisions.{told}
use Rattle.nq_part_lines.specs.Defaults.{HasTruthDefault, IsKind, is_free, truth_kind, truth_term}
use Rattle.nq_part_lines.proofs.MeetLemmas.{listed_is, meets_line, restricted_is, some_named, texts_many}

-- the kinds that the part's restriction names
abbrev pub kinds_of : Content → Part → List Name
kinds_of bank part = texts_at bank part.recognizers.items

pub kinds_named : (h : History) (bank : Content) (part : Part) (value : Bool) → HasTruthDefault h (part_at bank part) value → Each (IsKind h) (kinds_of bank part)
kinds_named h bank part value d = subst (Each (IsKind h)) (listed_is part.one_of (kinds_of bank part)) d.kinds

pub few_kinds : (bank : Content) (part : Part) → length (listed (part_at bank part).restriction) ≤ recognizer_limit → length (kinds_of bank part) ≤ recognizer_limit
few_kinds bank part few = subst (λ rs. length rs ≤ recognizer_limit) (listed_is part.one_of (kinds_of bank part)) few

pub few_names : (bank : Content) (part : Part) → length (listed (part_at bank part).restriction) ≤ recognizer_limit → length part.recognizers.items ≤ recognizer_limit
few_names bank part few =
    let many : length (kinds_of bank part) ≡ length part.recognizers.items = texts_many bank part.recognizers.items in
    let little : length (kinds_of bank part) ≤ recognizer_limit = few_kinds bank part few in
    omega (arith, many, little)

module _ (h : History) (bank : Content) (part : Part) (value : Bool) (free : is_free (part_at bank part).restriction ≡ false) (d : HasTruthDefault h (part_at bank part) value) where
  pub some_kinds : 0 < length (kinds_of bank part)
  some_kinds = some_named part.one_of (kinds_of bank part) (truth_kind value) free d.meets

  pub some_names : 0 < length part.recognizers.items
  some_names =
      let many : length (kinds_of bank part) ≡ length part.recognizers.items = texts_many bank part.recognizers.items in
      let some : 0 < length (kinds_of bank part) = some_kinds in
      omega (arith, many, some)

  -- that the default meets the restriction, or that it is of one of the kinds
  abbrev pub chosen : Term
  chosen = either_of (recognized (kinds_of bank part) (truth_term value))

  restriction_is : (one_of : Bool) → part.one_of ≡ one_of → told one_of chosen ≡ restricted (part_at bank part).restriction (truth_term value)
  restriction_is one_of e = ap (λ b. told b chosen) (sym e) ∙ sym (restricted_is part.one_of (kinds_of bank part) (truth_term value) some_kinds)

  pub chosen_id : (new : Content) (t : TermId) → part.one_of ≡ true → IsIdOf new t chosen → IsIdOf new t (restricted (part_at bank part).restriction (truth_term value))
  chosen_id new t e is = subst (IsIdOf new t) (restriction_is true e) is

  pub denied_id : (new : Content) (t : TermId) → part.one_of ≡ false → IsIdOf new t (not_term chosen) → IsIdOf new t (restricted (part_at bank part).restriction (truth_term value))
  denied_id new t e is = subst (IsIdOf new t) (restriction_is false e) is

  pub restriction_line : (work : Work) (n : ℕ) → LineHasOnly work n (told (has_name (truth_kind value) (kinds_of bank part)) chosen ∷ []) → LineHasOnly work n (restricted (part_at bank part).restriction (truth_term value) ∷ [])
  restriction_line work n line = meets_line work n part.one_of (kinds_of bank part) (truth_kind value) (truth_term value) free d.meets line
