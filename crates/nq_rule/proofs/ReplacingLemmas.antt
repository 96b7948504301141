-- Terms that are replaced, argument by argument.
use Rattle.std.proofs.Common.{◌≡◌, ℕ, zero, suc, ◌-◌, ◌<◌, ◌≤◌, Option, Some, None, List, [], ◌∷◌, ◌++◌, length, get_or, take, drop, refl, sym, ap, ◌∙◌, subst, arith}
use Rattle.std.specs.Prelude.{All, IsSome, IfSome, is_some, slice_set}
use Rattle.std.specs.Option.{option_map}
use Rattle.std.proofs.lemmas.List.{take_all}
use Rattle.nq_logic.specs.Terms.{Term, IsAmong, call}
use Rattle.nq_bank.specs.declared.node.TermId.{TermId}
use Rattle.nq_bank.specs.Content.{Content, Stands, Grows, term_at, terms_at}
use Rattle.nq_bank.proofs.Growth.{terms_at-grown}
use Rattle.nq_logic.specs.Sizes.{depth_of, depth_limit}
use Rattle.nq_bank.specs.Parts.{parts_of}
use Rattle.nq_proof.specs.Clauses.{Clause, distinct, literal_at, in_place}
use Rattle.nq_proof.specs.Linear.{and_then}
use Rattle.nq_proof.specs.Paths.{replaced_at}
use Rattle.nq_proof.specs.Rules.{Side, used_equation, given}
use Rattle.nq_rule.specs.Conclusions.{IsDeep}
use Rattle.nq_rule.specs.Places.{part_at}
use Rattle.nq_rule.specs.Results.{second_or, with_argument, with_part, replacement_of}
use Rattle.nq_rule.proofs.PathLemmas.{with_argument-call, deep_with_argument, with_part-step, part_at_first, replaced_at-part, part_at-replaced_at}
use Rattle.nq_rule.proofs.Made.{deep_among}

-- the call that an argument is part of is too deep where the argument is
pub deep_if_some : (bank : Content) (o : Option TermId) (place : ℕ) (f : List ℕ) (ids : List TermId) (whole : Term) → whole ≡ call f (parts_of whole) → terms_at bank ids ≡ parts_of whole → option_map (term_at bank) o ≡ literal_at place (terms_at bank ids) →
    IfSome o (λ u. (v : Term) → depth_limit < depth_of v → depth_limit < depth_of (with_argument place v whole))
deep_if_some bank None place f ids whole is tells found = tt
deep_if_some bank (Some u) place f ids whole is tells found = λ v deep. deep_with_argument place f whole (term_at bank u) v is (sym (ap (literal_at place) tells) ∙ sym found) deep

pub literal_none : (place : ℕ) (ts : List Term) → ts ≡ [] → None ≡ literal_at place ts
literal_none zero ts e = refl
literal_none (suc k) ts e = sym (ap (literal_at (suc k)) e)

pub no_literal : (place : ℕ) (ts : List Term) → ts ≡ [] → IsSome (literal_at place ts) → ⊥
no_literal place ts e h = none_is_some (literal_at place ts) (literal_none place ts e) h
  where
    none_is_some : (o : Option Term) → None ≡ o → IsSome o → ⊥
    none_is_some None e h = cc
    none_is_some (Some t) e h = cc

terms_at-set : (bank : Content) (ids : List TermId) (k : ℕ) (t : TermId) → terms_at bank (slice_set ids k t) ≡ slice_set (terms_at bank ids) k (term_at bank t)
terms_at-set bank [] k t = refl
terms_at-set bank (u ∷ ids) zero t = refl
terms_at-set bank (u ∷ ids) (suc k) t = ap (λ c. term_at bank u ∷ c) (terms_at-set bank ids k t)

-- the call of the arguments, one of which is set
pub with_argument_made : (bank : Content) (place : ℕ) (f : List ℕ) (whole : Term) (copy changed passed : List TermId) (part : TermId) → whole ≡ call f (parts_of whole) → terms_at bank copy ≡ parts_of whole → changed ≡ slice_set copy (place - 1) part → passed ≡ changed → IsSome (literal_at place (parts_of whole)) →
    call f (terms_at bank passed) ≡ with_argument place (term_at bank part) whole
with_argument_made bank place f whole copy changed passed part is tells set same leads =
    ap (λ ids. call f (terms_at bank ids)) (same ∙ set) ∙ ap (call f) (terms_at-set bank copy (place - 1) part) ∙
    ap (λ ts. call f (slice_set ts (place - 1) (term_at bank part))) tells ∙
    by_literal (literal_at place (parts_of whole)) refl leads
  where
    by_literal : (o : Option Term) → literal_at place (parts_of whole) ≡ o → IsSome o → call f (slice_set (parts_of whole) (place - 1) (term_at bank part)) ≡ with_argument place (term_at bank part) whole
    by_literal None e h = absurd cc
    by_literal (Some u) e h = sym (with_argument-call place f (term_at bank part) whole u is e)

pub some_of : {X : Type 0} (o : Option X) (u : X) (P : X → Type 0) → IfSome o P → o ≡ Some u → P u
some_of None u P h e = absurd cc
some_of (Some v) u P h e = let same : v ≡ u = cc in subst P same h

-- the first place of a path, and the rest
pub with_part-path : (path : List ℕ) (bank : Content) (t whole : Term) (o : Option TermId) (inner : TermId) → 1 ≤ length path → option_map (term_at bank) o ≡ literal_at (get_or path 0 0) (parts_of whole) → o ≡ Some inner → IsSome (part_at path whole) →
    with_part path t whole ≡ with_argument (get_or path 0 0) (with_part (take (length path - 1) (drop 1 path)) t (term_at bank inner)) whole
with_part-path [] bank t whole o inner least found some leads = absurd (omega arith)
with_part-path (place ∷ path) bank t whole o inner least found some leads =
    let at : literal_at place (parts_of whole) ≡ Some (term_at bank inner) = sym found ∙ ap (option_map (term_at bank)) some in
    let rest : take (suc (length path) - 1) path ≡ path = take_all (suc (length path) - 1) path (omega arith) in
    let inside : IsSome (part_at path (term_at bank inner)) = sym (ap (λ o. is_some (and_then o (λ v. part_at path v))) at) ∙ leads in
    with_part-step place path t whole (term_at bank inner) at (replaces (part_at path (term_at bank inner)) refl inside) ∙
    ap (λ p. with_argument place (with_part p t (term_at bank inner)) whole) (sym rest)
  where
    replaces : (o : Option Term) → part_at path (term_at bank inner) ≡ o → IsSome o → IsSome (replaced_at path t (term_at bank inner))
    replaces None e h = absurd cc
    replaces (Some u) e h = part_at_first path t (term_at bank inner) u e

-- the clause after a replacement, told by the literal and the part
pub replacement_is : (k : ℕ) (path : List ℕ) (t : Term) (side : Side) (c : Clause) (a u : Term) → literal_at k c ≡ Some a → part_at path a ≡ Some u → replacement_of k path t side c ≡ Some (distinct (in_place k (with_part path t a ∷ []) c ++ (used_equation side u t ∷ [])))
replacement_is k path t side c a u at leads =
    let change = replaced_at-part path t a u leads in
    ap (λ o. given o (λ a. given (replaced_at path t a) (λ change. Some (distinct (in_place k (change.1 ∷ []) c ++ (used_equation side change.0 t ∷ [])))))) at ∙
    ap (λ o. given o (λ change. Some (distinct (in_place k (change.1 ∷ []) c ++ (used_equation side change.0 t ∷ []))))) change.1 ∙
    ap (λ b. Some (distinct (in_place k (b ∷ []) c ++ (used_equation side u t ∷ [])))) (sym (ap (second_or a) change.1))

-- whether there is such a place
pub replacement_test : (k : ℕ) (path : List ℕ) (t : Term) (side : Side) (c : Clause) → is_some (and_then (literal_at k c) (λ a. part_at path a)) ≡ is_some (replacement_of k path t side c)
replacement_test k path t side c = by_literal (literal_at k c)
  where
    by_change : (o : Option (Term × Term)) → is_some o ≡ is_some (given o (λ change. Some (distinct (in_place k (change.1 ∷ []) c ++ (used_equation side change.0 t ∷ [])))))
    by_change None = refl
    by_change (Some change) = refl

    by_literal : (o : Option Term) → is_some (and_then o (λ a. part_at path a)) ≡ is_some (given o (λ a. given (replaced_at path t a) (λ change. Some (distinct (in_place k (change.1 ∷ []) c ++ (used_equation side change.0 t ∷ []))))))
    by_literal None = refl
    by_literal (Some a) = part_at-replaced_at path t a ∙ by_change (replaced_at path t a)

-- a clause with a literal that is too deep after a replacement
pub deep_replacement : (k : ℕ) (path : List ℕ) (t : Term) (side : Side) (c : Clause) (a u deep : Term) → literal_at k c ≡ Some a → part_at path a ≡ Some u → IsAmong deep (in_place k (with_part path t a ∷ []) c ++ (used_equation side u t ∷ [])) → depth_limit < depth_of deep → IsDeep (replacement_of k path t side c)
deep_replacement k path t side c a u deep at leads among is =
    let terms = deep_among deep (in_place k (with_part path t a ∷ []) c ++ (used_equation side u t ∷ [])) among is in
    subst IsDeep (sym (replacement_is k path t side c a u at leads)) terms

pub literal_told : (bank : Content) (o : Option TermId) (t : TermId) (p : Option Term) → option_map (term_at bank) o ≡ p → o ≡ Some t → p ≡ Some (term_at bank t)
literal_told bank o t p e some = sym e ∙ ap (option_map (term_at bank)) some

-- the part of a literal, where there is one
pub part_leads : (place : ℕ) (path : List ℕ) (c : Clause) (a : Term) → literal_at place c ≡ Some a → IsSome (and_then (literal_at place c) (λ a. part_at path a)) → IsSome (part_at path a)
part_leads place path c a at h = sym (ap (λ o. is_some (and_then o (λ a. part_at path a))) at) ∙ h

-- a replacement in a bank that grew
pub replaced_same : (old new : Content) (k : ℕ) (side : Side) (terms : List TermId) (changed equation : TermId) (a e : Term) → Grows old new → All (Stands old) terms → term_at new changed ≡ a → term_at new equation ≡ e →
    distinct (in_place k (term_at new changed ∷ []) (terms_at new terms) ++ (term_at new equation ∷ [])) ≡ distinct (in_place k (a ∷ []) (terms_at old terms) ++ (e ∷ []))
replaced_same old new k side terms changed equation a e grows stand is tells =
    let same = terms_at-grown old new terms grows stand in
    rw (is, tells, same) refl
