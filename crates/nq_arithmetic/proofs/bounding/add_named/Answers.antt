use Rattle.std.proofs.Common.{sym}
use Rattle.nq_bank.specs.Content.{term_at, text_at}
use Rattle.nq_kernel.proofs.GrowingLemmas.{WorkGrows-refl}
use Rattle.nq_arithmetic.proofs.bounding.add_named.Goals as goal

pub returns-in-None-clause-grows : goal.returns-in-None-clause-grows
returns-in-None-clause-grows c = WorkGrows-refl c.args.history.now c.args.work.now c.requires.stands

pub add_lemma-requires-clause-rule : goal.add_lemma-requires-clause-rule
add_lemma-requires-clause-rule c = record { stands = c.in-Some.ensures.stands; over = c.requires.ready.events (text_at c.args.work.now.bank c.args.name) (term_at c.args.work.now.bank c.in-Some.rule) (sym c.in-Some.ensures.term) }
