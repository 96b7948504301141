use Rattle.std.proofs.Common.{[]}
use Rattle.nq_kernel.proofs.GrowingLemmas.{WorkGrows-trans}
use Rattle.nq_lines.proofs.TermLemmas.{term_grown}
use Rattle.nq_lines.proofs.LineLemmas.{line_grown, only_stands, leads_only}
use Rattle.std.proofs.Common.{◌∷◌}
use Rattle.nq_bank.specs.Content.{term_at, terms_at}
use Rattle.nq_logic.specs.Words.{not_term}
use Rattle.nq_reduce.proofs.EqualLemmas.{cut_unequal}
use Rattle.nq_reduce.proofs.part_cases.unequal_line.Goals as goal

pub cut-requires-clause-first : goal.cut-requires-clause-first
cut-requires-clause-first c = line_grown c.args.history.now c.args.work.now c.opposites.new.work c.args.line c.requires.can.stands c.opposites.ensures.grows (only_stands c.args.work.now c.args.line _ c.requires.line)

pub cut-requires-clause-second : goal.cut-requires-clause-second
cut-requires-clause-second c = only_stands c.opposites.new.work c.in_ok-either.either _ (leads_only c.opposites.new.work c.in_ok-either.either (term_at c.args.work.now.bank c.args.denied) (not_term (term_at c.args.work.now.bank c.args.denied) ∷ []) c.in_ok-either.ensures.line)

pub cut-requires-clause-term : goal.cut-requires-clause-term
cut-requires-clause-term c = term_grown c.args.history.now c.args.work.now c.opposites.new.work c.args.p c.requires.can.stands c.opposites.ensures.grows c.requires.test

pub returns-clause-line : goal.returns-clause-line
returns-clause-line c = cut_unequal c.args.history.now c.args.work.now c.opposites.new.work c.cut.new.work (terms_at c.args.work.now.bank c.args.assumed.now) (term_at c.args.work.now.bank c.args.t) c.args.p c.args.denied c.args.line c.in_ok-either.either c.cut.result c.requires.can.stands c.opposites.ensures.grows c.requires.test c.requires.denied.denotes c.requires.line c.in_ok-either.ensures.line c.cut.ensures.line

pub returns-clause-grows : goal.returns-clause-grows
returns-clause-grows c = WorkGrows-trans c.args.history.now c.args.work.now c.opposites.new.work c.cut.new.work c.opposites.ensures.grows c.cut.ensures.grows
