use Rattle.std.proofs.Common.{◌<◌, ap₂, sym, subst}
use Rattle.std.specs.Prelude.{IfOk}
use Rattle.nq_logic.specs.Terms.{Term}
use Rattle.nq_logic.specs.Sizes.{depth_of, depth_limit}
use Rattle.nq_bank.proofs.Growth.{Stands-grown, term_at-grown}
use Rattle.nq_proof.specs.Clauses.{Clause}
use Rattle.nq_quick.specs.Lines.{LineHasOnly}
use Rattle.nq_quick.specs.Patterns.{case_literals, instance_literals}
use Rattle.nq_quick.proofs.LineLemmas.{grown_trans, only_grown}
use Rattle.nq_quick.proofs.GrownLemmas.{joined_grown}
use Rattle.nq_quick.proofs.InLemmas.{term_in_grown}
use Rattle.nq_quick.proofs.instances.add_instance.Goals as goal

pub instantiate-requires-clause-line : goal.instantiate-requires-clause-line
instantiate-requires-clause-line c = only_grown c.args.history.now c.args.work.now c.names_of_sides.new.work c.args.line (case_literals c.args.case) c.requires.stands c.names_of_sides.ensures.grows.grows c.requires.line

pub instantiate-requires-clause-whole : goal.instantiate-requires-clause-whole
instantiate-requires-clause-whole c = joined_grown c.args.work.now.bank c.names_of_sides.new.work.bank c.args.case.connective c.args.t c.args.p c.args.q c.names_of_sides.ensures.grows.grows.bank c.requires.left c.requires.right c.requires.whole

pub instantiate-requires-clause-first : goal.instantiate-requires-clause-first
instantiate-requires-clause-first c = record { name = c.in_ok-names.ensures.names.0; term = Stands-grown c.args.work.now.bank c.names_of_sides.new.work.bank c.args.p c.names_of_sides.ensures.grows.grows.bank c.requires.left }

pub instantiate-requires-clause-second : goal.instantiate-requires-clause-second
instantiate-requires-clause-second c = record { name = c.in_ok-names.ensures.names.1; term = Stands-grown c.args.work.now.bank c.names_of_sides.new.work.bank c.args.q c.names_of_sides.ensures.grows.grows.bank c.requires.right }

pub instantiate-requires-clause-room : goal.instantiate-requires-clause-room
instantiate-requires-clause-room c = λ e. subst (λ (u : Term). depth_of u < depth_limit) (sym (term_at-grown c.args.work.now.bank c.names_of_sides.new.work.bank c.args.t c.names_of_sides.ensures.grows.grows.bank c.requires.whole.stands)) (c.requires.room e)

pub returns-clause-line : goal.returns-clause-line
returns-clause-line c =
    let h = c.names_of_sides.ensures.grows.grows.bank in
    let same = ap₂ (λ (p q : Term). instance_literals c.args.case p q) (term_at-grown c.args.work.now.bank c.names_of_sides.new.work.bank c.args.p h c.requires.left) (term_at-grown c.args.work.now.bank c.names_of_sides.new.work.bank c.args.q h c.requires.right) in
    subst (λ (ls : Clause). IfOk c.instantiate.result (λ n. LineHasOnly c.instantiate.new.work n ls)) same c.instantiate.ensures.line

pub returns-clause-grows : goal.returns-clause-grows
returns-clause-grows c = grown_trans c.args.history.now c.args.work.now c.names_of_sides.new.work c.instantiate.new.work c.names_of_sides.ensures.grows c.instantiate.ensures.grows

pub instantiate-requires-clause-over : goal.instantiate-requires-clause-over
instantiate-requires-clause-over c = term_in_grown c.args.work.now.bank c.names_of_sides.new.work.bank c.args.history.now c.args.t c.names_of_sides.ensures.grows.grows.bank c.requires.stands.history c.requires.whole.stands c.requires.over
