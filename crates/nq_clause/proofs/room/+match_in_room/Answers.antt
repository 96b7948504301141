use Rattle.std.proofs.Common.{◌<◌, ◌+◌, List, length, get_or, refl, ◌∙◌, arith, rules}
use Rattle.nq_logic.specs.Terms.{Name, Term}
use Rattle.nq_bank.specs.declared.node.TermId.{TermId}
use Rattle.nq_bank.specs.Content.{Content, term_at, text_at}
use Rattle.nq_clause.specs.Binding.{bound_at, bindings_at, Matches, MatchesNone}
use Rattle.nq_clause.specs.Matching.{arguments_of, IsCallOf}
use Rattle.nq_clause.proofs.InstanceLemmas.{not_told}
use Rattle.nq_clause.proofs.MatchLemmas.{numeral_compared, function_matched, kept_through, told_match, told_none, IsNext, argument_match, argument_none, not_call, some_arguments, all_arguments}
use Rattle.nq_clause.proofs.RoomLemmas.{room_next}
use Rattle.nq_clause.proofs.room.+match_in_room.Goals as goal

pub returns-then-not-is_call_of-clause-ok : goal.returns-then-not-is_call_of-clause-ok
returns-then-not-is_call_of-clause-ok t c =
    let bank : Content = c.args.bank.now in
    not_call bank (text_at bank c.in-App.f) (term_at bank c.args.pattern) (bound_at bank c.args.target) c.args-arguments.result.now c.in-App.ensures.head.1 c.args-arguments.ensures.parts (bindings_at bank c.args.bindings.now.items)
    (not_told c.is_call_of.result (IsCallOf (text_at bank c.in-App.f) (length c.args-arguments.result.now) (bound_at bank c.args.target)) c.if-not-is_call_of.true c.is_call_of.ensures)

pub loop-i-init : goal.loop-i-init
loop-i-init t c =
    record {
      matched = λ f. function_matched c.args.bank.now f c.args.bindings.now.items c.requires.stand c.requires.once;
      room = refl;
    }

pub match_in_room-requires : goal.match_in_room-requires
match_in_room-requires t c =
    let first : TermId = record { 0 = 0 } in
    let bank : Content = c.args.bank.now in
    let f : Name = text_at bank c.in-App.f in
    let m = c.loop-i.invariant.matched f in
    let earlier : (get_or c.args-arguments.result.now c.loop-i.i first).0 < c.args.pattern.0 = c.args-arguments.ensures.earlier c.loop-i.i first c.loop-i-test.true in (
      search rules,
      (
        omega (arith, earlier, c.requires.pattern),
        (
          c.argument_of-part.ensures.stands,
          (
            m.stand,
            (
              m.once,
              room_next bank f (term_at bank c.args.pattern) _ c.args-arguments.result.now c.loop-i.i first c.args.bindings.now.items c.loop-i.bindings.items c.args.bindings.now.cap c.loop-i.bindings.cap c.requires.room c.in-App.ensures.head.1 c.args-arguments.ensures.parts c.loop-i-test.true m c.loop-i.invariant.room,
            ),
          ),
        ),
      ),
    )

pub returns-then-not-match_in_room-clause-kept : goal.returns-then-not-match_in_room-clause-kept
returns-then-not-match_in_room-clause-kept t c =
    kept_through c.args.bank.now _ _ c.args.bindings.now.items c.loop-i.bindings.items c.match_in_room.new.bindings.items (c.loop-i.invariant.matched (text_at c.args.bank.now c.in-App.f)) c.match_in_room.ensures.kept

pub returns-then-not-match_in_room-clause-ok : goal.returns-then-not-match_in_room-clause-ok
returns-then-not-match_in_room-clause-ok t c =
    let first : TermId = record { 0 = 0 } in
    let bank : Content = c.args.bank.now in
    let f : Name = text_at bank c.in-App.f in
    let ids : List TermId = c.args-arguments.result.now in
    let target : Term = bound_at bank c.args.target in
    let part : Term = bound_at bank c.argument_of-part.result in
    let is_call = c.is_call_of.ensures.0 c.if-not-is_call_of.false in
    let next : IsNext bank ids (arguments_of target) c.loop-i.i part = record { below = c.loop-i-test.true; above = omega (arith, is_call.count, c.loop-i-test.true); is = c.argument_of-part.ensures.is } in
    let none = told_none c.match_in_room.result (Matches bank (term_at bank (get_or ids c.loop-i.i first)) part c.loop-i.bindings.items c.match_in_room.new.bindings.items) (MatchesNone (bindings_at bank c.loop-i.bindings.items) (term_at bank (get_or ids c.loop-i.i first)) part) c.if-not-match_in_room.true c.match_in_room.ensures.ok in
    some_arguments bank f (term_at bank c.args.pattern) target ids c.in-App.ensures.head.1 c.args-arguments.ensures.parts (bindings_at bank c.args.bindings.now.items) (c.loop-i.i + 1) is_call
    (argument_none bank f ids (arguments_of target) c.loop-i.i first part c.args.bindings.now.items c.loop-i.bindings.items next (c.loop-i.invariant.matched f) none)

pub loop-i-preserved : goal.loop-i-preserved
loop-i-preserved t c =
    let first : TermId = record { 0 = 0 } in
    let bank : Content = c.args.bank.now in
    let ids : List TermId = c.args-arguments.result.now in
    let target : Term = bound_at bank c.args.target in
    let part : Term = bound_at bank c.argument_of-part.result in
    let is_call = c.is_call_of.ensures.0 c.if-not-is_call_of.false in
    let next : IsNext bank ids (arguments_of target) c.loop-i.i part = record { below = c.loop-i-test.true; above = omega (arith, is_call.count, c.loop-i-test.true); is = c.argument_of-part.ensures.is } in
    let m = told_match c.match_in_room.result (Matches bank (term_at bank (get_or ids c.loop-i.i first)) part c.loop-i.bindings.items c.match_in_room.new.bindings.items) (MatchesNone (bindings_at bank c.loop-i.bindings.items) (term_at bank (get_or ids c.loop-i.i first)) part) c.if-not-match_in_room.false c.match_in_room.ensures.ok in
    record {
      matched = λ f. argument_match bank f ids (arguments_of target) c.loop-i.i first part c.args.bindings.now.items c.loop-i.bindings.items next (c.loop-i.invariant.matched f) c.match_in_room.new.bindings.items m;
      room = c.match_in_room.ensures.room ∙ c.loop-i.invariant.room;
    }

pub returns-in-Num-clause-ok : goal.returns-in-Num-clause-ok
returns-in-Num-clause-ok t c =
    let bank : Content = c.args.bank.now in
    numeral_compared bank (term_at bank c.args.pattern) (bound_at bank c.args.target) (bound_at bank c.bound_of.result) c.args.bindings.now.items c.in-Num.field-0 c.is_one_term.result c.requires.stand c.requires.once c.in-Num.ensures.head.1 c.bound_of.ensures.term c.is_one_term.ensures

pub returns-after-loop-i-clause-ok : goal.returns-after-loop-i-clause-ok
returns-after-loop-i-clause-ok t c =
    let bank : Content = c.args.bank.now in
    let f : Name = text_at bank c.in-App.f in
    all_arguments bank f (term_at bank c.args.pattern) (bound_at bank c.args.target) c.args-arguments.result.now c.in-App.ensures.head.1 c.args-arguments.ensures.parts c.args.bindings.now.items c.loop-i.bindings.items c.loop-i.i (c.is_call_of.ensures.0 c.if-not-is_call_of.false) c.loop-i-test.false (c.loop-i.invariant.matched f)
