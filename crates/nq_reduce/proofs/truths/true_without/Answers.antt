use Rattle.nq_lines.proofs.LineLemmas.{only_stands}
use Rattle.std.proofs.Common.{◌∷◌}
use Rattle.nq_bank.specs.Content.{term_at, terms_at}
use Rattle.nq_reduce.proofs.ShellLemmas.{discharged, shown_line}
use Rattle.nq_reduce.proofs.truths.true_without.Goals as goal

pub cut-requires-clause-first : goal.cut-requires-clause-first
cut-requires-clause-first c = only_stands c.args.work.now c.args.line _ c.requires.line

pub cut-requires-clause-second : goal.cut-requires-clause-second
cut-requires-clause-second c = only_stands c.args.work.now c.args.n _ (shown_line c.args.history.now c.args.work.now ((term_at c.args.work.now.bank c.args.t) ∷ (terms_at c.args.work.now.bank c.args.assumed.now)) (term_at c.args.work.now.bank c.args.t) c.args.new c.args.n c.requires.shown c.requires.new)

pub returns-clause-ok : goal.returns-clause-ok
returns-clause-ok c = discharged c.args.history.now c.args.work.now c.cut.new.work (terms_at c.args.work.now.bank c.args.assumed.now) (term_at c.args.work.now.bank c.args.t) c.args.new c.args.line c.args.n c.in_ok-shown.shown c.requires.can.stands c.cut.ensures.grows c.requires.line c.requires.shown c.requires.new c.in_ok-shown.ensures.line
