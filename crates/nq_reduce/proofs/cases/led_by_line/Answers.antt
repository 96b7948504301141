use Rattle.nq_lines.proofs.LineLemmas.{only_stands}
use Rattle.nq_bank.specs.Content.{term_at, terms_at}
use Rattle.nq_reduce.proofs.ShellLemmas.{dropped_led}
use Rattle.nq_reduce.proofs.cases.led_by_line.Goals as goal

pub cut-requires-clause-second : goal.cut-requires-clause-second
cut-requires-clause-second c = only_stands c.args.work.now c.args.shown _ c.requires.shown

pub returns-clause-line : goal.returns-clause-line
returns-clause-line c = dropped_led c.args.work.now c.cut.new.work (term_at c.args.work.now.bank c.args.kept) (term_at c.args.work.now.bank c.args.t) (terms_at c.args.work.now.bank c.args.assumed.now) c.args.line c.args.shown c.in_ok-n.n c.requires.shown c.in_ok-n.ensures.line
