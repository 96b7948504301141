use Rattle.std.proofs.Common.{Some, ap, ◌∙◌}
use Rattle.nq_bank.specs.Content.{term_at}
use Rattle.nq_value.proofs.MakingLemmas.{zero_is}
use Rattle.nq_value.proofs.TableLemmas.{accessor_keeps}
use Rattle.nq_value.proofs.rows_of_one.part_or_zero.Goals as goal

pub returns-in-Some : goal.returns-in-Some
returns-in-Some c =
    record {
      stands = c.in-Some.ensures.stands;
      value = c.in-Some.ensures.value;
      passes_is = accessor_keeps c.args.accessor (term_at c.args.bank.now c.args.t);
    }

pub returns-in-None : goal.returns-in-None
returns-in-None c =
    record {
      stands = tt;
      value = c.in-None.ensures.value ∙ ap Some zero_is;
      passes_is = accessor_keeps c.args.accessor (term_at c.args.bank.now c.args.t);
    }
