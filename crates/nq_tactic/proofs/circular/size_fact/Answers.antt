use Rattle.std.proofs.Common.{arith}
use Rattle.nq_kernel.specs.declared.work.Work.{Work}
use Rattle.nq_kernel.proofs.GrowingLemmas.{WorkGrows-trans}
use Rattle.nq_lines.proofs.LineLemmas.{line_grown, only_stands}
use Rattle.nq_lines.proofs.TermLemmas.{term_grown}
use Rattle.nq_tactic.proofs.circular.size_fact.Goals as goal

pub rewrite-requires : goal.rewrite-requires
rewrite-requires c =
    record {
      can = record {
        stands = c.requires.stands;
        term = c.requires.size;
        hypotheses = λ k d below. absurd (omega (arith, below));
        ready = c.requires.ready;
      };
    }

pub equate-requires-clause-left : goal.equate-requires-clause-left
equate-requires-clause-left c = term_grown c.args.history.now c.args.work.now c.rewrite.new.work c.args.size c.requires.stands c.rewrite.ensures.grows c.requires.size

pub returns-in_err-term-clause-grows : goal.returns-in_err-term-clause-grows
returns-in_err-term-clause-grows c = WorkGrows-trans c.args.history.now c.args.work.now c.rewrite.new.work c.equate.new.work c.rewrite.ensures.grows c.equate.ensures.grows

pub returns-clause-fact : goal.returns-clause-fact
returns-clause-fact c =
    let h = c.args.history.now in
    let w1 : Work = c.rewrite.new.work in
    record { term = c.in_ok-term.ensures.over; line = line_grown h w1 c.equate.new.work c.in_ok-made.made.1 c.rewrite.ensures.grows.stands c.equate.ensures.grows (only_stands w1 c.in_ok-made.made.1 _ c.in_ok-made.ensures.line) }

pub returns-clause-grows : goal.returns-clause-grows
returns-clause-grows c = WorkGrows-trans c.args.history.now c.args.work.now c.rewrite.new.work c.equate.new.work c.rewrite.ensures.grows c.equate.ensures.grows
