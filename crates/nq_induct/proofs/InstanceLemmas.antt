-- Lines that hold an equation of a term and itself.
use Rattle.std.proofs.Common.{◌≡◌, ◌<◌, ◌∙◌, ℕ, Option, Some, None, List, [], ◌∷◌, length, get_or, refl, sym, ap, subst, inl, arith}
use Rattle.std.specs.Prelude.{IsSome, unwrap_or}
use Rattle.std.specs.Option.{option_map}
use Rattle.nq_logic.specs.Terms.{Term, Substitution, substituted}
use Rattle.nq_logic.specs.Numerals.{number_of}
use Rattle.nq_logic.specs.Words.{equal_term}
use Rattle.nq_bank.specs.declared.node.TermId.{TermId}
use Rattle.nq_bank.specs.Content.{Content, term_at, terms_at}
use Rattle.nq_bank.specs.Parts.{parts_of}
use Rattle.nq_proof.specs.Clauses.{Clause, literal_at}
use Rattle.nq_rule.specs.Results.{instance_of}
use Rattle.nq_kernel.specs.declared.work.Work.{Work}
use Rattle.nq_kernel.specs.Lines.{ids_at}
use Rattle.nq_kernel.specs.Growing.{LineHolds, held}
use Rattle.nq_lines.specs.Lines.{LineLeads, AreAmong}
use Rattle.nq_induct.specs.Instances.{IsReflexive}

-- the ids of a line's clause
pub record LineIds (work : Work) (line : ℕ) (c : Clause) : Type 0 where
  pub ids : List TermId
  pub at : ids_at work.log line ≡ Some ids
  pub terms : terms_at work.bank ids ≡ c

pub line_ids : (work : Work) (line : ℕ) (c : Clause) → LineHolds work line c → LineIds work line c
line_ids work line c holds = by_ids (ids_at work.log line) refl holds
  where
    by_ids : (o : Option (List TermId)) → ids_at work.log line ≡ o → option_map (terms_at work.bank) o ≡ Some c → LineIds work line c
    by_ids None e h = absurd cc
    by_ids (Some ids) e h = record { ids = ids; at = e; terms = cc }

-- the literals of a line that holds one term
pub one_id : (bank : Content) (ids : List TermId) (t : Term) (d : TermId) → terms_at bank ids ≡ t ∷ [] → (0 < length ids) × (term_at bank (get_or ids 0 d) ≡ t)
one_id bank [] t d e = absurd cc
one_id bank (i ∷ []) t d e = (omega arith, cc)
one_id bank (i ∷ (j ∷ ids)) t d e = absurd cc

pub told_ids : (work : Work) (line : ℕ) (c : Clause) (ids : List TermId) → LineHolds work line c → ids_at work.log line ≡ Some ids → terms_at work.bank ids ≡ c
told_ids work line c ids holds e =
    let found : LineIds work line c = line_ids work line c holds in
    let same : found.ids ≡ ids = some_same (sym found.at ∙ e) in
    ap (terms_at work.bank) (sym same) ∙ found.terms
  where
    some_same : {X : Type 0} {x y : X} → Some x ≡ Some y → x ≡ y
    some_same k = cc

-- a side of an equation
pub has_side : (t u : Term) → t ≡ equal_term u u → IsSome (literal_at 1 (parts_of t))
unfolding number_of
has_side t u e = subst (λ v. IsSome (literal_at 1 (parts_of v))) (sym e) refl

-- the instance of an equation's line
pub nothing_among : (c : Clause) → AreAmong c [] → c ≡ []
nothing_among [] h = refl
nothing_among (t ∷ c) h = absurd (h t (inl refl))

pub leads_alone : (work : Work) (line : ℕ) (t : Term) → LineLeads work line t [] → LineHolds work line (t ∷ [])
leads_alone work line t leads = subst (λ c. LineHolds work line (t ∷ c)) (nothing_among leads.rest leads.only) leads.holds

pub instance_held : (old new : Work) (s : Substitution) (law line : ℕ) (t : Term) → LineLeads old law (equal_term t t) [] → LineHolds new line (instance_of s (held old law)) → LineHolds new line (equal_term (substituted s t) (substituted s t) ∷ [])
instance_held old new s law line t leads holds =
    let same : held old law ≡ equal_term t t ∷ [] = ap (λ (o : Option Clause). unwrap_or o []) (leads_alone old law (equal_term t t) leads) in
    subst (λ c. LineHolds new line (instance_of s c)) same holds

-- a part of an equation is over the history where the instance's pairs are
pub equation_reflexive : (work : Work) (line : ℕ) (t : Term) → LineHolds work line (equal_term t t ∷ []) → IsReflexive work line
equation_reflexive work line t holds = record { side = t; holds = holds }
