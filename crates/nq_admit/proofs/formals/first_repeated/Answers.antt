use Rattle.std.proofs.Common.{ℕ, ◌<◌, ◌-◌, length, arith}
use Rattle.std.specs.Option.{option_map}
use Rattle.nq_bank.specs.declared.node.Sym.{Sym}
use Rattle.nq_bank.specs.Content.{text_at}
use Rattle.nq_admit.proofs.FormalLemmas.{set-before, found_twice, found_later}
use Rattle.nq_admit.proofs.formals.first_repeated.Goals as goal

pub loop-i-preserved-then-not-branch : goal.loop-i-preserved-then-not-branch
loop-i-preserved-then-not-branch c =
    let d : Sym = record { 0 = 0 } in
    let below : c.loop-i.i - 1 < length c.args.formals.now = omega (arith, c.loop-i-test.true, c.loop-i.auto.i) in
    let named = c.requires (c.loop-i.i - 1) d below in
    record {
      later = set-before c.args.bank.now c.args.formals.now c.loop-i.i d c.loop-i.later c.insert.new.self c.is_sound.ensures c.loop-i-test.true c.loop-i.auto.i named c.loop-i.invariant.later c.in_ok-insert.ensures.updates;
      first = found_twice c.args.bank.now c.args.formals.now c.loop-i.i d c.loop-i.later c.in_ok-insert.field-0 c.loop-i-test.true c.loop-i.auto.i named c.loop-i.invariant.later c.in_ok-insert.ensures.added c.if-not-branch.true;
      named = named;
    }

pub loop-i-preserved : goal.loop-i-preserved
loop-i-preserved c =
    let d : Sym = record { 0 = 0 } in
    let below : c.loop-i.i - 1 < length c.args.formals.now = omega (arith, c.loop-i-test.true, c.loop-i.auto.i) in
    let named = c.requires (c.loop-i.i - 1) d below in
    record {
      later = set-before c.args.bank.now c.args.formals.now c.loop-i.i d c.loop-i.later c.insert.new.self c.is_sound.ensures c.loop-i-test.true c.loop-i.auto.i named c.loop-i.invariant.later c.in_ok-insert.ensures.updates;
      first = found_later c.args.bank.now c.args.formals.now c.loop-i.i d c.loop-i.later c.in_ok-insert.field-0 (option_map (text_at c.args.bank.now) c.loop-i.first) c.loop-i-test.true c.loop-i.auto.i named c.loop-i.invariant.later c.in_ok-insert.ensures.added
          c.if-not-branch.false c.loop-i.invariant.first;
      named = c.loop-i.invariant.named;
    }
