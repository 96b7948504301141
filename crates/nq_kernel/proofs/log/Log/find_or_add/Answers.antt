use Rattle.std.proofs.Common.{refl, sym, ap, ◌∙◌, ◌+◌, true, inl, inr, Some}
use Rattle.std.specs.Option.{option_map}
use Rattle.nq_bank.specs.Content.{terms_at}
use Rattle.nq_kernel.specs.Meaning.{conclusion_at}
use Rattle.nq_kernel.proofs.DepthLemmas.{concluded_shallow}
use Rattle.nq_kernel.proofs.log.Log.find_or_add.Goals as goal

pub returns-in-Some-clause-line : goal.returns-in-Some-clause-line
returns-in-Some-clause-line c =
    inl (refl, ap (option_map (terms_at c.conclude.new.bank)) (c.in-Some.ensures ∙ ap Some c.as_slice.ensures.value) ∙ sym c.in_ok-clause.ensures.ok.concluded)

pub returns-in_ok-push-in-None-clause-line : goal.returns-in_ok-push-in-None-clause-line
returns-in_ok-push-in-None-clause-line c =
    inr
    (record {
      line = record { rule = c.args.rule; clause = c.in_ok-clause.clause; stands = true };
      whole = c.note.ensures ∙ c.in_ok-push-in-None.ensures.ok;
      number = ap (λ n. n + 1) c.len-n.ensures.count;
      rule_is = refl;
      stands_is = refl;
      clause = c.in_ok-clause.ensures.ok;
    })

pub returns-in-Some-clause-shallow : goal.returns-in-Some-clause-shallow
returns-in-Some-clause-shallow c =
    λ deep. concluded_shallow c.conclude.new.bank c.in_ok-clause.clause.items (conclusion_at c.args.bank.now c.args.history.now c.args.self.now c.args.rule) c.is_sound.ensures c.in_ok-clause.ensures.ok deep

pub returns-in_ok-push-in-None-clause-shallow : goal.returns-in_ok-push-in-None-clause-shallow
returns-in_ok-push-in-None-clause-shallow c =
    λ deep. concluded_shallow c.conclude.new.bank c.in_ok-clause.clause.items (conclusion_at c.args.bank.now c.args.history.now c.args.self.now c.args.rule) c.is_sound.ensures c.in_ok-clause.ensures.ok deep
