use Rattle.std.proofs.Common.{◌∙◌, sym, ap, subst, arith}
use Rattle.nq_kernel.specs.Over.{IsVariable}
use Rattle.nq_bank.specs.Content.{terms_at}
use Rattle.nq_moves.specs.Naming.{occurs_in_one}
use Rattle.nq_moves.proofs.SwappedLemmas.{goal_same}
use Rattle.nq_moves.proofs.NamingLemmas.{numbered_plain}
use Rattle.nq_moves.proofs.UsedLemmas.{names_grown}
use Rattle.nq_moves.proofs.numbering.new_name.Goals as goal

pub is_used-requires : goal.is_used-requires
is_used-requires c = c.in_ok-name.ensures.name.named

pub returns-then-is_used-clause-name : goal.returns-then-is_used-clause-name
returns-then-is_used-clause-name c =
    let h = c.args.history.now in
    let old = c.args.work.now in
    let new = c.numbered_name.new.work in
    let literals = c.args.literals.now in
    let grows = c.numbered_name.ensures.grows in
    let names = names_grown old.bank new.bank c.args.names.now (terms_at old.bank literals) (terms_at new.bank literals) grows.bank (goal_same h old new c.requires.stands grows literals c.requires.literals) c.requires.names in
    let told = c.is_used.ensures (terms_at new.bank literals) names in
    ap (λ x. occurs_in_one x (terms_at new.bank literals)) (sym c.in_ok-name.ensures.name.reads) ∙ (sym told ∙ c.if-is_used.true)

pub returns-else-is_used-clause-name : goal.returns-else-is_used-clause-name
returns-else-is_used-clause-name c =
    let h = c.args.history.now in
    let old = c.args.work.now in
    let new = c.numbered_name.new.work in
    let literals = c.args.literals.now in
    let grows = c.numbered_name.ensures.grows in
    let names = names_grown old.bank new.bank c.args.names.now (terms_at old.bank literals) (terms_at new.bank literals) grows.bank (goal_same h old new c.requires.stands grows literals c.requires.literals) c.requires.names in
    let told = c.is_used.ensures (terms_at new.bank literals) names in
    record {
      name = record {
        named = c.in_ok-name.ensures.name.named;
        plain = subst IsVariable (sym c.in_ok-name.ensures.name.reads) (numbered_plain c.args.number c.requires.number (omega (arith, c.ranges.number.fits)));
        free = sym told ∙ c.if-is_used.false;
      };
      reads = c.in_ok-name.ensures.name.reads;
    }
