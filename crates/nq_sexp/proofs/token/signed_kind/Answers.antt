use Rattle.std.proofs.Common.{◌≡◌, ℕ, Bool, List, ◌∷◌, ◌∙◌, ◌-◌, length, take, drop, get_or, sym, subst}
use Rattle.std.specs.Prelude.{IsTrue}
use Rattle.nq_form.specs.Bytes.{is_sign}
use Rattle.nq_form.specs.Token.{IsNumber, IsWide, signed_wide}
use Rattle.nq_form.proofs.Naming.{signed-number, first-and-rest}
use Rattle.nq_sexp.proofs.token.signed_kind.Goals as goal

pub returns-in-Narrow : goal.returns-in-Narrow
returns-in-Narrow c =
    let parts : c.args.word.now ≡ get_or c.args.word.now 0 0 ∷ take (length c.args.word.now - 1) (drop 1 c.args.word.now) = first-and-rest c.args.word.now c.requires.some in
    let sign : IsTrue (is_sign (get_or c.args.word.now 0 0)) = sym c.is_sign.ensures ∙ c.if-not-is_sign.false in
    subst (λ (z : List ℕ). IsNumber z c.is_negative.result c.in-Narrow.n) (sym parts)
    (subst (λ (z : Bool). IsNumber (get_or c.args.word.now 0 0 ∷ take (length c.args.word.now - 1) (drop 1 c.args.word.now)) z c.in-Narrow.n) (sym c.is_negative.ensures)
    (signed-number (get_or c.args.word.now 0 0) _ c.in-Narrow.n sign c.in-Narrow.ensures))

pub returns-in-Wide : goal.returns-in-Wide
returns-in-Wide c =
    let parts : c.args.word.now ≡ get_or c.args.word.now 0 0 ∷ take (length c.args.word.now - 1) (drop 1 c.args.word.now) = first-and-rest c.args.word.now c.requires.some in
    let sign : IsTrue (is_sign (get_or c.args.word.now 0 0)) = sym c.is_sign.ensures ∙ c.if-not-is_sign.false in
    subst IsWide (sym parts) (signed_wide (get_or c.args.word.now 0 0) sign c.in-Wide.ensures)
