use Rattle.std.proofs.Common.{◌∙◌, ap, sym, subst, get_or, rules, arith}
use Rattle.std.specs.Prelude.{All}
use Rattle.std.proofs.lemmas.List.{take_all}
use Rattle.nq_bank.specs.declared.node.TermId.{TermId}
use Rattle.nq_bank.specs.Content.{terms_at}
use Rattle.nq_clause.specs.Substitution.{substitution_at}
use Rattle.nq_proof.specs.Rules.{pair_terms}
use Rattle.nq_kernel.specs.Over.{pair_names}
use Rattle.nq_kernel.proofs.GrowingLemmas.{WorkGrows-refl, WorkGrows-trans}
use Rattle.nq_goals.specs.NewVariables.{clause_variables}
use Rattle.nq_moves.specs.Naming.{IsNaming}
use Rattle.nq_moves.proofs.ClosingLemmas.{all_stand}
use Rattle.nq_moves.proofs.SwappedLemmas.{goal_in_grown, goal_same}
use Rattle.nq_moves.proofs.NamingLemmas.{namings_more, namings_stand, no_namings}
use Rattle.nq_moves.proofs.NumberingLemmas.{all_named, names_more, terms_more}
use Rattle.nq_moves.proofs.UsedLemmas.{names_grown}
use Rattle.nq_moves.proofs.naming.name_terms.Goals as goal

pub loop-t-init : goal.loop-t-init
loop-t-init c =
    let h = c.args.history.now in
    let w = c.args.work.now in
    record {
      grows = WorkGrows-refl h w c.requires.stands;
      pairs = subst (All (IsNaming h w c.args.literals.now)) (sym c.new-pairs.ensures.items) (no_namings h w c.args.literals.now);
      number = omega arith;
      names = ap (λ ps. pair_names (substitution_at w.bank ps)) c.new-pairs.ensures.items;
      terms = ap (λ ps. pair_terms (substitution_at w.bank ps)) c.new-pairs.ensures.items;
    }

pub names_in-requires : goal.names_in-requires
names_in-requires c = all_stand c.args.history.now c.args.work.now c.args.literals.now c.requires.literals

pub next_name-requires-clause-names : goal.next_name-requires-clause-names
next_name-requires-clause-names c =
    let h = c.args.history.now in
    let old = c.args.work.now in
    let mid = c.loop-t.work in
    let literals = c.args.literals.now in
    let grows = c.loop-t.invariant.grows in
    names_grown old.bank mid.bank c.in_ok-names.names (terms_at old.bank literals) (terms_at mid.bank literals) grows.bank (goal_same h old mid c.requires.stands grows literals c.requires.literals) c.in_ok-names.ensures.names

pub returns-in_err-names-clause-grows : goal.returns-in_err-names-clause-grows
returns-in_err-names-clause-grows c = WorkGrows-refl c.args.history.now c.args.work.now c.requires.stands

pub next_name-requires-clause-literals : goal.next_name-requires-clause-literals
next_name-requires-clause-literals c = goal_in_grown c.args.history.now c.args.work.now c.loop-t.work c.requires.stands c.loop-t.invariant.grows c.args.literals.now c.requires.literals

pub returns-in_err-next-clause-grows : goal.returns-in_err-next-clause-grows
returns-in_err-next-clause-grows c = WorkGrows-trans c.args.history.now c.args.work.now c.loop-t.work c.next_name.new.work c.loop-t.invariant.grows c.next_name.ensures.grows

pub returns-in_err-push_pair-clause-grows : goal.returns-in_err-push_pair-clause-grows
returns-in_err-push_pair-clause-grows c = WorkGrows-trans c.args.history.now c.args.work.now c.loop-t.work c.next_name.new.work c.loop-t.invariant.grows c.next_name.ensures.grows

pub loop-t-preserved : goal.loop-t-preserved
loop-t-preserved c =
    let h = c.args.history.now in
    let literals = c.args.literals.now in
    let none : TermId = record { 0 = 0 } in
    let old = c.args.work.now in
    let mid = c.loop-t.work in
    let new = c.next_name.new.work in
    let next = c.in_ok-next.next in
    let stand = namings_stand h mid literals c.loop-t.pairs.items c.loop-t.invariant.pairs in
    record {
      grows = WorkGrows-trans h old mid new c.loop-t.invariant.grows c.next_name.ensures.grows;
      pairs =
          subst (All (IsNaming h new literals)) (sym c.in_ok-push_pair.ensures.kept)
          (namings_more h old mid new c.requires.stands c.loop-t.invariant.grows c.next_name.ensures.grows literals c.args.terms.now c.requires.literals c.requires.terms c.loop-t.pairs.items c.loop-t.invariant.pairs c.loop-t.t-index none c.loop-t-test.true next.name
          c.in_ok-next.ensures.name.new.name);
      number = search rules;
      names =
          ap (λ ps. pair_names (substitution_at new.bank ps)) c.in_ok-push_pair.ensures.kept
          ∙ names_more h old mid new c.requires.stands c.loop-t.invariant.grows c.next_name.ensures.grows literals c.requires.literals c.loop-t.pairs.items c.loop-t.number next (get_or c.args.terms.now c.loop-t.t-index none) stand c.loop-t.invariant.number c.in_ok-next.ensures.name c.loop-t.invariant.names;
      terms =
          ap (λ ps. pair_terms (substitution_at new.bank ps)) c.in_ok-push_pair.ensures.kept
          ∙ terms_more h old mid new c.requires.stands c.loop-t.invariant.grows c.next_name.ensures.grows literals c.requires.literals c.loop-t.pairs.items c.args.terms.now c.loop-t.t-index none next stand c.requires.terms c.loop-t-test.true c.loop-t.invariant.terms;
    }

pub returns-clause-names : goal.returns-clause-names
returns-clause-names c =
    let w = c.args.work.now in
    all_named (clause_variables (terms_at w.bank c.args.literals.now)) (substitution_at c.loop-t.work.bank c.loop-t.pairs.items) w.bank c.args.terms.now c.loop-t.t-index c.loop-t.number c.loop-t-test.false c.loop-t.invariant.terms c.loop-t.invariant.names

pub returns-clause-terms : goal.returns-clause-terms
returns-clause-terms c =
    let w = c.args.work.now in
    c.loop-t.invariant.terms ∙ ap (terms_at w.bank) (take_all c.loop-t.t-index c.args.terms.now c.loop-t-test.false)
