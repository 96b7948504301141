-- Values of calls.
use Rattle.std.specs.Prelude.{◌≡◌, List, Some}
use Rattle.nq_logic.specs.Terms.{Term}
use Rattle.nq_bank.specs.declared.node.TermId.{TermId}
use Rattle.nq_bank.specs.Content.{term_at}
use Rattle.nq_proof.specs.Values.{value_of}
use Rattle.nq_history.specs.declared.entry.Entry.{Entry}
use Rattle.nq_kernel.specs.declared.work.Work.{Work}
use Rattle.nq_lines.specs.Lines.{IsTermIn}

-- the id is that of the term's value by the table
pub record IsValueOf (history : List Entry) (work : Work) (t : Term) (v : TermId) : Type 0 where
  pub there : IsTermIn history work v
  pub value : value_of t ≡ Some (term_at work.bank v)
