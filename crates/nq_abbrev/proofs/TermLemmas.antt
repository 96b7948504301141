-- The parts of a form that isn't refused, and its term.
use Rattle.std.proofs.Common.{◌≡◌, ℕ, false, ◌<◌, refl, ap, sym, ◌∙◌, subst, inl, inr}
use Rattle.std.specs.Prelude.{Option, None, Some, Result, Ok, Err, IfOk, IsErrAnd}
use Rattle.nq_logic.specs.Terms.{Name, Term, Substitution}
use Rattle.nq_form.specs.Form.{Form, symbol, numeral, text, quoted, listed, end, dotted, next}
use Rattle.nq_language.specs.Objects.{nil_term}
use Rattle.nq_language.specs.Refusals.{Refusal, is_pair}
use Rattle.nq_bank.specs.declared.node.TermId.{TermId}
use Rattle.nq_bank.specs.declared.node.BankFault.{BankFault}
use Rattle.nq_bank.specs.declared.node.BankFault.TheVariants.{Deep, Memory}
use Rattle.nq_logic.specs.Words.{if_term}
use Rattle.nq_logic.specs.Sizes.{depth_of, depth_limit}
use Rattle.nq_bank.specs.Content.{Content, IsIdOf, term_at}
use Rattle.nq_bank.proofs.Standing.{passed_on}
use Rattle.nq_abbrev.specs.Scope.{Makes, kept_of, bound_term}
use Rattle.nq_abbrev.specs.InScope.{IsSameOrDeep, test_term_in, value_term_in}
use Rattle.nq_abbrev.proofs.ScopeLemmas.{deep_is_deep}

pub refused : (r : Refusal) → Some r ≡ None → ⊥
refused r h = cc

-- a term that is the same is made
pub makes_same : (bank : Content) (result : Result TermId BankFault) (t u : Term) → t ≡ u → Makes bank result t → Makes bank result u
makes_same bank result t u e h = subst (λ (z : Term). Makes bank result z) e h

-- what is made is NIL
pub makes_nil : (bank : Content) (result : Result TermId BankFault) (t : Term) → nil_term ≡ t → IfOk result (λ r. IsIdOf bank r nil_term) → (result ≡ Err Deep → ⊥) → Makes bank result t
makes_nil bank result t e ok shallow = makes_same bank result nil_term t e (record { ok = ok; deep = λ h. absurd (shallow h) })

-- an error that is passed on, where the whole is too deep if the part is
pub makes_err : (old bank : Content) (inner outer : Result TermId BankFault) (came : BankFault) (t u : Term) → inner ≡ Err came → IsErrAnd outer (λ y. y ≡ came) → Makes old inner t → (depth_limit < depth_of t → depth_limit < depth_of u) → Makes bank outer u
makes_err old bank inner (Ok r) came t u is err made deep = absurd err
makes_err old bank inner (Err e) came t u is err made deep = record { ok = tt; deep = λ h. deep (made.deep (is ∙ ap Err (passed_on (Err e) came Deep err h))) }

pub call_makes : (bank : Content) (result : Result TermId BankFault) (t : Term) → IfOk result (λ r. IsIdOf bank r t) → (result ≡ Err Deep → depth_limit < depth_of t) → Makes bank result t
call_makes bank result t ok deep = record { ok = ok; deep = deep }

-- what is kept of a term
pub kept_like : (bank : Content) (made : Result TermId BankFault) (o : Option TermId) (t : Term) → kept_of made ≡ Ok o → Makes bank made t → IsSameOrDeep (bound_term bank o) t
kept_like bank (Ok r) (Some u) t is h = let same : r ≡ u = cc in inl (ap (term_at bank) (sym same) ∙ h.ok.denotes)
kept_like bank (Ok r) None t is h = absurd (cc)
kept_like bank (Err Deep) (Some u) t is h = absurd (cc)
kept_like bank (Err Deep) None t is h = inr (deep_is_deep, h.deep refl)
kept_like bank (Err Memory) o t is h = absurd (cc)

-- three parts of a call of IF
pub three_are : (bank : Content) (i j k : TermId) (t u v : Term) → term_at bank i ≡ t → term_at bank j ≡ u → term_at bank k ≡ v → if_term (term_at bank i) (term_at bank j) (term_at bank k) ≡ if_term t u v
three_are bank i j k t u v p q r =
    ap (λ (z : Term). if_term z (term_at bank j) (term_at bank k)) p ∙ ap (λ (z : Term). if_term t z (term_at bank k)) q ∙ ap (λ (z : Term). if_term t u z) r

module _ (arity : Name → Option ℕ) (s : Substitution) where
  pub test_nil : (f : Form) → is_pair f ≡ false → nil_term ≡ test_term_in arity s f
  test_nil (symbol x) h = refl
  test_nil (numeral negative n) h = refl
  test_nil (text bytes) h = refl
  test_nil (quoted f) h = refl
  test_nil (listed end) h = refl
  test_nil (listed (dotted f)) h = refl
  test_nil (listed (next f end)) h = refl
  test_nil (listed (next f (dotted g))) h = refl
  test_nil (listed (next f (next g end))) h = absurd (cc)
  test_nil (listed (next f (next g (dotted i)))) h = refl
  test_nil (listed (next f (next g (next i fs)))) h = refl

  pub value_nil : (f : Form) → is_pair f ≡ false → nil_term ≡ value_term_in arity s f
  value_nil (symbol x) h = refl
  value_nil (numeral negative n) h = refl
  value_nil (text bytes) h = refl
  value_nil (quoted f) h = refl
  value_nil (listed end) h = refl
  value_nil (listed (dotted f)) h = refl
  value_nil (listed (next f end)) h = refl
  value_nil (listed (next f (dotted g))) h = refl
  value_nil (listed (next f (next g end))) h = absurd (cc)
  value_nil (listed (next f (next g (dotted i)))) h = refl
  value_nil (listed (next f (next g (next i fs)))) h = refl
