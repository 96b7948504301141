use Rattle.std.proofs.Common.{◌∷◌, subst}
use Rattle.std.specs.Prelude.{IfSome}
use Rattle.nq_bank.specs.Content.{term_at, terms_at}
use Rattle.nq_lines.specs.Lines.{LineHasOnly}
use Rattle.nq_reduce.specs.Rewriting.{denials}
use Rattle.nq_reduce.proofs.StepLemmas.{kept_held}
use Rattle.nq_reduce.proofs.RewritingLemmas.{can_term}
use Rattle.nq_reduce.proofs.rows.shown_alone.Goals as goal

pub kept_alone-requires-clause-can : goal.kept_alone-requires-clause-can
kept_alone-requires-clause-can c = can_term c.args.history.now c.args.work.now c.args.assumed.now c.args.t c.args.kept c.requires.can c.requires.kept

pub returns-in-Some-clause-held : goal.returns-in-Some-clause-held
returns-in-Some-clause-held c = kept_held c.args.history.now c.args.work.now c.kept_alone.new.work (terms_at c.args.work.now.bank c.args.assumed.now) c.args.kept c.in-Some.n c.requires.can.stands c.kept_alone.ensures.grows c.requires.kept (subst (λ o. IfSome o (λ n. LineHasOnly c.kept_alone.new.work n ((term_at c.args.work.now.bank c.args.kept) ∷ denials (terms_at c.args.work.now.bank c.args.assumed.now)))) c.in-Some.is c.in_ok-n.ensures.line)
