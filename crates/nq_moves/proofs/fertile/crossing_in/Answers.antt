use Rattle.std.proofs.Common.{◌∙◌, ◌||◌, Bool, true, false, ◌≡◌, refl, ap, sym}
use Rattle.std.specs.Prelude.{unwrap_or}
use Rattle.nq_bank.specs.Content.{term_at}
use Rattle.nq_goals.specs.Replacing.{stands_in}
use Rattle.nq_moves.proofs.fertile.crossing_in.Goals as goal

or_false : (b : Bool) → b ≡ (b || false)
or_false true = refl
or_false false = refl

pub returns-then-inside-clause-holds : goal.returns-then-inside-clause-holds
returns-then-inside-clause-holds c =
    let bank = c.args.work.now.bank in
    let a = term_at bank c.args.from in
    ap (λ o. stands_in a (unwrap_or o (term_at bank c.args.whole))) c.argument_at-part.ensures.argument ∙ or_false (stands_in a (term_at bank c.argument_at-part.result)) ∙ sym c.in_ok-inside.ensures.answer ∙ c.if-inside.true
