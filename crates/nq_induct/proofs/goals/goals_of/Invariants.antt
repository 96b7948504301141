-- The goals so far.
use Rattle.std.proofs.Common.{◌≡◌, ◌∷◌, map, take}
use Rattle.std.specs.Prelude.{All}
use Rattle.nq_bank.specs.Content.{terms_at}
use Rattle.nq_kernel.specs.Growing.{WorkGrows}
use Rattle.nq_induct.specs.Goals.{AreTermsIn, base_goal, clauses_at, step_goal}
use Rattle.nq_induct.proofs.goals.goals_of.Given as goal

abbrev pub invariant-loop-case : goal.invariant-loop-case
invariant-loop-case l =
    record {
      grows : WorkGrows l.history l.fn.work l.work;
      later : WorkGrows l.history l.initial.work l.work;
      over : All (λ g. AreTermsIn l.history l.work g.items) l.goals.items;
      terms : clauses_at l.work.bank l.goals.items ≡ base_goal l.fn.work.bank l.scheme.cases.items (terms_at l.fn.work.bank l.goal) ∷ map (step_goal l.fn.work.bank (terms_at l.fn.work.bank l.goal)) (take l.case-index l.scheme.cases.items);
    }
