-- The translation of a form, by its first refusal and by its term.
use Rattle.std.proofs.Common.{◌≡◌, ℕ, ◌<◌, Bool, true, false, [], refl, ap, sym, ◌∙◌, arith}
use Rattle.std.proofs.lemmas.Bool.{lt-ltb}
use Rattle.std.specs.Prelude.{◌||◌, nat_lt, Option, None, Some, Ok, Err, if◌then◌else◌}
use Rattle.nq_logic.specs.Terms.{Name, Term}
use Rattle.nq_logic.specs.Sizes.{depth_of, depth_limit}
use Rattle.nq_form.specs.Form.{Form}
use Rattle.nq_language.specs.Limits.{is_large, is_too_large}
use Rattle.nq_language.specs.Refusals.{Refusal, TooLarge, met, sized, unless_met, translation}
use Rattle.nq_language.specs.Scopes.{translated_in}
use Rattle.nq_language.specs.Translation.{translated}
use Rattle.nq_language.proofs.ScopeLemmas.{empty_scope}

module _ (arity : Name → Option ℕ) (f : Form) where
  pub is_refused : (r : Refusal) → Some r ≡ met arity f → translation arity f ≡ Err r
  unfolding translation
  is_refused r h = ap (λ (z : Option Refusal). unless_met z (sized (translated arity f))) (sym h)

  is_sized : met arity f ≡ None → translation arity f ≡ sized (translated arity f)
  unfolding translation
  is_sized h = ap (λ (z : Option Refusal). unless_met z (sized (translated arity f))) h

  chosen : (b : Bool) (t : Term) → is_too_large t ≡ b → sized t ≡ (if b then Err TooLarge else Ok t)
  chosen b t h = ap (λ (c : Bool). if c then Err TooLarge else Ok t) h

  made : (t : Term) → t ≡ translated_in arity [] f → translated arity f ≡ t
  made t h = sym (empty_scope arity f) ∙ sym h

  -- a term within the limits
  pub is_term : (t : Term) → met arity f ≡ None → t ≡ translated_in arity [] f → is_too_large t ≡ false → translation arity f ≡ Ok t
  is_term t h e small = is_sized h ∙ ap sized (made t e) ∙ chosen false t small

  pub is_large_term : (t : Term) → met arity f ≡ None → t ≡ translated_in arity [] f → is_too_large t ≡ true → translation arity f ≡ Err TooLarge
  is_large_term t h e large = is_sized h ∙ ap sized (made t e) ∙ chosen true t large

  or_true : (b c : Bool) → c ≡ true → (b || c) ≡ true
  or_true true c h = refl
  or_true false c h = h

  past : (d : ℕ) → depth_limit < d → nat_lt 2000 d ≡ true
  past d h = lt-ltb 2000 d (omega (arith, h))

  -- a term that is too deep for a bank
  pub is_deep_term : met arity f ≡ None → depth_limit < depth_of (translated_in arity [] f) → translation arity f ≡ Err TooLarge
  is_deep_term h deep =
      let t = translated_in arity [] f in
      is_large_term t h refl (or_true (is_large t) (nat_lt 2000 (depth_of t)) (past (depth_of t) deep))
