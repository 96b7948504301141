use Rattle.std.proofs.Common.{subst, sym}
use Rattle.nq_run.specs.declared.session.Session.{Session}
use Rattle.nq_run.proofs.SessionLemmas.{ground_given_back, ground_stands, ground_within}
use Rattle.nq_run.proofs.TakingLemmas.{grounded}
use Rattle.nq_run.proofs.session.Session.boot_strap.Goals as goal

pub forget-requires : goal.forget-requires
forget-requires g c = record {
  entries = c.args.self.history;
  learnt = c.requires.learnt;
  within = ground_within c.args.self.bank c.args.self.history c.requires.stands.history;
}

pub returns-clause-taken : goal.returns-clause-taken
returns-clause-taken g c =
    λ limit mark form.
    let new : Session = record { bank = c.back_to_ground.new.bank; history = c.back_to_ground.new.self } in
    let back = c.back_to_ground.ensures in
    grounded limit c.args.self new mark form c.args.logging c.in_ok-block.block back.none
    (ground_stands c.events_are_spelled.ensures.begin new back.stands_after back.marked_after back.none) (ground_given_back c.args.self new c.requires.stands back.history back.bank) c.in_ok-block.ensures

pub returns-clause-learnt : goal.returns-clause-learnt
returns-clause-learnt g c =
    subst (g.P.Prover.has_learnt c.forget.new.self) (sym c.back_to_ground.ensures.history) (c.forget.ensures c.args.self.history c.requires.learnt)
