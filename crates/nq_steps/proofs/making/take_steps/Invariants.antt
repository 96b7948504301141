-- The steps that are left, from the terms so far, make what all steps make.
use Rattle.std.proofs.Common.{◌≡◌, drop, reverse}
use Rattle.std.specs.Prelude.{All}
use Rattle.nq_bank.specs.Content.{Grows, Stands, terms_at}
use Rattle.nq_steps.specs.NewNames.{AddsSymbols}
use Rattle.nq_steps.specs.Steps.{stack_of, steps_taken}
use Rattle.nq_steps.proofs.making.take_steps.Given as goal

abbrev pub invariant-loop-step : goal.invariant-loop-step
invariant-loop-step l =
    record {
      grows : Grows l.fn.bank l.bank;
      names : AddsSymbols l.fn.bank l.bank;
      stand : All (Stands l.bank) l.ids.items;
      makes : steps_taken l.fn.bank (drop l.step-index l.steps) (reverse (terms_at l.bank l.ids.items)) ≡ stack_of l.fn.bank l.steps;
    }
