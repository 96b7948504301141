-- The denials so far are those of the facts so far, in work that only grows.
use Rattle.std.proofs.Common.{◌≡◌, take}
use Rattle.std.specs.Prelude.{All}
use Rattle.nq_bank.specs.Content.{terms_at}
use Rattle.nq_kernel.specs.Growing.{WorkGrows}
use Rattle.nq_lines.specs.Lines.{IsTermIn}
use Rattle.nq_elim.specs.Reasons.{denied_at}
use Rattle.nq_elim.proofs.denials.denied_facts.Given as goal

abbrev pub invariant-loop-fact : goal.invariant-loop-fact
invariant-loop-fact l =
    record {
      grows : WorkGrows l.history l.fn.work l.work;
      over : All (IsTermIn l.history l.work) l.denials.items;
      literals : terms_at l.work.bank l.denials.items ≡ denied_at l.fn.work.bank (take l.fact-index l.facts);
    }
