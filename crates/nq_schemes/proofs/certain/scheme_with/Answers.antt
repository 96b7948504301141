use Rattle.std.proofs.Common.{sym, subst}
use Rattle.std.specs.Prelude.{All}
use Rattle.nq_kernel.proofs.GrowingLemmas.{WorkGrows-trans}
use Rattle.nq_schemes.specs.Known.{IsOpenedIn}
use Rattle.nq_schemes.proofs.GrownLemmas.{basis_grown}
use Rattle.nq_schemes.proofs.certain.scheme_with.Goals as goal

pub certain_pairs-requires : goal.certain_pairs-requires
certain_pairs-requires c =
    subst (All (IsOpenedIn c.args.history.now c.governing_all.new.work)) (sym c.as_slice-2.ensures.value)
    (basis_grown c.args.history.now c.args.work.now c.governing_all.new.work c.requires.stands c.governing_all.ensures.grows c.args.basis.now c.requires.basis).opened

pub single_scheme-requires-clause-basis : goal.single_scheme-requires-clause-basis
single_scheme-requires-clause-basis c = basis_grown c.args.history.now c.args.work.now c.governing_all.new.work c.requires.stands c.governing_all.ensures.grows c.args.basis.now c.requires.basis

pub returns-clause-grows : goal.returns-clause-grows
returns-clause-grows c = WorkGrows-trans c.args.history.now c.args.work.now c.governing_all.new.work c.single_scheme.new.work c.governing_all.ensures.grows c.single_scheme.ensures.grows
