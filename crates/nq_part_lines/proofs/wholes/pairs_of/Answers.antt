use Rattle.std.proofs.Common.{◌≡◌, ◌<◌, ◌+◌, ◌++◌, ◌∙◌, List, Some, length, drop, get_or, sym, ap, subst, arith}
use Rattle.std.specs.Prelude.{All}
use Rattle.std.proofs.lemmas.Option.{get_or_from_slice_get}
use Rattle.nq_logic.specs.Terms.{Applied, Function}
use Rattle.nq_logic.specs.Histories.{Part}
use Rattle.nq_logic.specs.Shells.{made, part_variable, whole}
use Rattle.nq_bank.specs.declared.node.TermId.{TermId}
use Rattle.nq_bank.specs.Content.{term_at}
use Rattle.nq_bank.specs.Parts.{parts_of}
use Rattle.nq_bank.specs.Shells.{shell_at}
use Rattle.nq_bank.proofs.Standing.{All-push}
use Rattle.nq_clause.specs.declared.substitution.Pair.{Pair}
use Rattle.nq_clause.specs.Substitution.{PairStands, substitution_at}
use Rattle.nq_proof.specs.Clauses.{literal_at}
use Rattle.nq_kernel.specs.Over.{IsVariable, VariablesAre}
use Rattle.nq_part_lines.specs.Wholes.{part_pairs}
use Rattle.nq_part_lines.proofs.ObjectLemmas.{some_part}
use Rattle.nq_part_lines.proofs.PartCallLemmas.{call_got, calls_length, variable_there}
use Rattle.nq_part_lines.proofs.PartPairLemmas.{no_pairs, pair_next, pairs_all, parts_in}
use Rattle.nq_part_lines.proofs.wholes.pairs_of.Goals as goal

pub loop-place-init : goal.loop-place-init
loop-place-init c =
    let w = c.args.work.now in
    let parts = (shell_at w.bank c.args.shell.now).parts in
    record {
      stand = no_pairs w.bank c.new-pairs.result.items c.new-pairs.ensures.items;
      pairs = ap (λ (ps : List Pair). substitution_at w.bank ps ++ part_pairs 0 parts) c.new-pairs.ensures.items;
    }

pub pair_of-pair-requires-clause-object : goal.pair_of-pair-requires-clause-object
pair_of-pair-requires-clause-object c = c.requires.object.inside.stands

pub pair_of-pair-requires-clause-variable : goal.pair_of-pair-requires-clause-variable
pair_of-pair-requires-clause-variable c =
    let w = c.args.work.now in
    let s = shell_at w.bank c.args.shell.now in
    let place = c.loop-place.place in
    let many = calls_length w.bank c.args.calls.now s.parts c.requires.calls in
    let below : place < length c.args.calls.now = c.loop-place-test.true in
    let part = some_part s.parts place (omega (arith, many, below)) in
    subst (λ t. literal_at (place + 1) (parts_of t) ≡ Some (part_variable place)) (sym c.requires.made) (variable_there s place part.0 part.1)

pub pair_of-pair-requires-clause-term : goal.pair_of-pair-requires-clause-term
pair_of-pair-requires-clause-term c = (c.requires.small c.loop-place.place (record { 0 = 0 }) c.loop-place-test.true).inside.stands

pub loop-place-preserved : goal.loop-place-preserved
loop-place-preserved c =
    let w = c.args.work.now in
    let s = shell_at w.bank c.args.shell.now in
    let place = c.loop-place.place in
    let zero_id : TermId = record { 0 = 0 } in
    let many = calls_length w.bank c.args.calls.now s.parts c.requires.calls in
    let below : place < length c.args.calls.now = c.loop-place-test.true in
    let inside : place < length s.parts = omega (arith, many, below) in
    let part = some_part s.parts place inside in
    let p : Pair = c.pair_of-pair.result in
    let told : term_at w.bank p.term ≡ Applied (Function part.0.accessor) whole =
    ap (term_at w.bank) c.pair_of-pair.ensures.term ∙ call_got w.bank c.args.calls.now s.parts place zero_id part.0 c.requires.calls part.1 in
    let got : get_or s.parts place part.0 ≡ part.0 = get_or_from_slice_get s.parts place part.0 part.0 part.1 in
    let term : term_at w.bank p.term ≡ Applied (Function (get_or s.parts place part.0).accessor) whole = told ∙ ap (λ (q : Part). Applied (Function q.accessor) whole) (sym got) in
    record {
      stand = subst (All (PairStands w.bank)) (sym c.in_ok-push.ensures.items) (All-push (PairStands w.bank) c.loop-place.pairs.items p c.loop-place.invariant.stand c.pair_of-pair.ensures.stands);
      pairs =
          ap (λ (ps : List Pair). substitution_at w.bank ps ++ part_pairs (place + 1) (drop (place + 1) s.parts)) c.in_ok-push.ensures.items
          ∙ pair_next w.bank c.loop-place.pairs.items p s.parts place part.0 c.loop-place.invariant.pairs inside c.pair_of-pair.ensures.variable term;
    }

pub returns-clause-pairs : goal.returns-clause-pairs
returns-clause-pairs c =
    let w = c.args.work.now in
    let s = shell_at w.bank c.args.shell.now in
    let many = calls_length w.bank c.args.calls.now s.parts c.requires.calls in
    let past = c.loop-place-test.false in
    pairs_all (substitution_at w.bank c.loop-place.pairs.items) c.loop-place.place s.parts c.loop-place.invariant.pairs (omega (arith, many, past))

pub returns-clause-over : goal.returns-clause-over
returns-clause-over c =
    let h = c.args.history.now in
    let w = c.args.work.now in
    let s = shell_at w.bank c.args.shell.now in
    let many = calls_length w.bank c.args.calls.now s.parts c.requires.calls in
    let past = c.loop-place-test.false in
    let all = pairs_all (substitution_at w.bank c.loop-place.pairs.items) c.loop-place.place s.parts c.loop-place.invariant.pairs (omega (arith, many, past)) in
    let variables : VariablesAre IsVariable (made s) = subst (VariablesAre IsVariable) c.requires.made c.requires.object.inside.over.variables in
    parts_in h w c.loop-place.pairs.items s.constructor s.parts c.args.calls.now all c.loop-place.invariant.stand c.requires.calls c.requires.small variables
