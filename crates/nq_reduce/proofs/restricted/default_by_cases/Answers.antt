use Rattle.std.proofs.Common.{subst, ◌∷◌}
use Rattle.std.specs.Prelude.{IfSome}
use Rattle.nq_bank.specs.Content.{term_at, terms_at}
use Rattle.nq_lines.specs.Lines.{LineHasOnly}
use Rattle.nq_reduce.specs.Rewriting.{denials}
use Rattle.nq_reduce.proofs.StepLemmas.{kept_held}
use Rattle.nq_reduce.proofs.restricted.default_by_cases.Goals as goal

pub returns-in-Some-clause-held : goal.returns-in-Some-clause-held
returns-in-Some-clause-held c = kept_held c.args.history.now c.args.work.now c.led_to.new.work (terms_at c.args.work.now.bank c.args.assumed.now) c.args.e c.in-Some.n c.requires.can.stands c.led_to.ensures.grows c.requires.can.term (subst (λ o. IfSome o (λ n. LineHasOnly c.led_to.new.work n ((term_at c.args.work.now.bank c.args.e) ∷ denials (terms_at c.args.work.now.bank c.args.assumed.now)))) c.in-Some.is c.in_ok-n.ensures.line)
