use Rattle.std.proofs.Common.{◌≤◌, ◌∙◌, length, get_or, List, sym, ap₂, subst, arith}
use Rattle.std.specs.Prelude.{All}
use Rattle.std.proofs.lemmas.List.{take_all}
use Rattle.nq_logic.specs.Admissible.{matched}
use Rattle.nq_bank.specs.declared.node.TermId.{TermId}
use Rattle.nq_bank.specs.declared.node.Sym.{Sym}
use Rattle.nq_bank.specs.Content.{Content, terms_at}
use Rattle.nq_bank.specs.Shells.{texts_at}
use Rattle.nq_bank.proofs.Standing.{All-push}
use Rattle.nq_clause.specs.declared.substitution.Pair.{Pair}
use Rattle.nq_clause.specs.Substitution.{PairStands}
use Rattle.nq_eval.proofs.DefinedLemmas.{pairs_more}
use Rattle.nq_eval.proofs.openings.pairs_for.Goals as goal

pub loop-place-preserved : goal.loop-place-preserved
loop-place-preserved c =
    let bank : Content = c.args.bank.now in
    let x : Sym = record { 0 = 0 } in
    let t : TermId = record { 0 = 0 } in
    let place = c.loop-place.place in
    let below = c.loop-place-test.true in
    let p : Pair = record { variable = get_or c.args.formals.now place x; term = get_or c.args.values.now place t } in
    record {
      pairs = pairs_more bank c.args.formals.now c.args.values.now place x t c.requires.same below c.loop-place.pairs.items c.push.new.self.items c.in_ok-push.ensures.items c.loop-place.invariant.pairs;
      stand = subst (λ (ps : List Pair). All (PairStands bank) ps) (sym c.in_ok-push.ensures.items) (All-push (PairStands bank) c.loop-place.pairs.items p c.loop-place.invariant.stand (record { variable = c.requires.formals place x below; term = c.requires.values place t (omega (arith, c.requires.same, below)) }));
    }

pub returns-clause-pairs : goal.returns-clause-pairs
returns-clause-pairs c =
    let bank : Content = c.args.bank.now in
    let done : length c.args.formals.now ≤ c.loop-place.place = omega arith in
    c.loop-place.invariant.pairs ∙
    ap₂ (λ (xs : List Sym) (ts : List TermId). matched (texts_at bank xs) (terms_at bank ts)) (take_all c.loop-place.place c.args.formals.now done) (take_all c.loop-place.place c.args.values.now (omega (arith, done, c.requires.same)))
