use Rattle.std.proofs.Common.{◌<◌, ◌+◌, List, length, get_or, sym, ◌∙◌, arith, rules}
use Rattle.nq_logic.specs.Terms.{Name, Term}
use Rattle.nq_bank.specs.declared.node.TermId.{TermId}
use Rattle.nq_bank.specs.Content.{Content, term_at, text_at}
use Rattle.nq_clause.specs.Binding.{bound_at, bindings_at, Matches, MatchesNone}
use Rattle.nq_clause.specs.Matching.{arguments_of, IsCallOf, HasMatches}
use Rattle.nq_clause.proofs.InstanceLemmas.{not_told}
use Rattle.nq_clause.proofs.MatchLemmas.{compared, numeral_compared, function_matched, known_after, known_kept, kept_through, match_keeps, told_match, told_none, told_known, IsNext, argument_match, argument_none, not_call, some_arguments, all_arguments, matched_kept}
use Rattle.nq_clause.proofs.matching.+match_within.Goals as goal

pub is_one_term-requires-in-Some-clause-left : goal.is_one_term-requires-in-Some-clause-left
is_one_term-requires-in-Some-clause-left t c =
    (c.requires.known.right c.args.pattern c.in-Some.b (sym c.known_bound.ensures ∙ c.in-Some.is)).stands

pub returns-then-not-is_call_of-clause-ok : goal.returns-then-not-is_call_of-clause-ok
returns-then-not-is_call_of-clause-ok t c =
    let bank : Content = c.args.bank.now in
    not_call bank (text_at bank c.in-App.f) (term_at bank c.args.pattern) (bound_at bank c.args.target) c.args-arguments.result.now c.in-App.ensures.head.1 c.args-arguments.ensures.parts (bindings_at bank c.args.bindings.now.items)
    (not_told c.is_call_of.result (IsCallOf (text_at bank c.in-App.f) (length c.args-arguments.result.now) (bound_at bank c.args.target)) c.if-not-is_call_of.true c.is_call_of.ensures)

pub loop-i-init : goal.loop-i-init
loop-i-init t c =
    record {
      matched = λ f. function_matched c.args.bank.now f c.args.bindings.now.items c.requires.stand c.requires.once;
      known = c.requires.known;
    }

pub match_within-requires : goal.match_within-requires
match_within-requires t c =
    let first : TermId = record { 0 = 0 } in
    let bank : Content = c.args.bank.now in
    let m = c.loop-i.invariant.matched (text_at bank c.in-App.f) in
    let earlier : (get_or c.args-arguments.result.now c.loop-i.i first).0 < c.args.pattern.0 = c.args-arguments.ensures.earlier c.loop-i.i first c.loop-i-test.true in (
      search rules,
      (
        omega (arith, earlier, c.requires.pattern),
        (c.argument_of-part.ensures.stands, (m.stand, (m.once, c.loop-i.invariant.known))),
      ),
    )

pub returns-in_err-match_within-in-None-clause-kept : goal.returns-in_err-match_within-in-None-clause-kept
returns-in_err-match_within-in-None-clause-kept t c =
    kept_through c.args.bank.now _ _ c.args.bindings.now.items c.loop-i.bindings.items c.match_within.new.bindings.items (c.loop-i.invariant.matched (text_at c.args.bank.now c.in-App.f)) c.match_within.ensures.kept

pub returns-then-not-branch-clause-kept : goal.returns-then-not-branch-clause-kept
returns-then-not-branch-clause-kept t c =
    kept_through c.args.bank.now _ _ c.args.bindings.now.items c.loop-i.bindings.items c.match_within.new.bindings.items (c.loop-i.invariant.matched (text_at c.args.bank.now c.in-App.f)) c.match_within.ensures.kept

pub returns-in_err-keep_bound-in-None-clause-kept : goal.returns-in_err-keep_bound-in-None-clause-kept
returns-in_err-keep_bound-in-None-clause-kept t c =
    match_keeps c.args.bank.now _ _ c.args.bindings.now.items c.loop-i.bindings.items (c.loop-i.invariant.matched (text_at c.args.bank.now c.in-App.f))

pub returns-in_ok-keep_bound-in-None-clause-kept : goal.returns-in_ok-keep_bound-in-None-clause-kept
returns-in_ok-keep_bound-in-None-clause-kept t c =
    match_keeps c.args.bank.now _ _ c.args.bindings.now.items c.loop-i.bindings.items (c.loop-i.invariant.matched (text_at c.args.bank.now c.in-App.f))

pub returns-then-not-branch-clause-ok : goal.returns-then-not-branch-clause-ok
returns-then-not-branch-clause-ok t c =
    let first : TermId = record { 0 = 0 } in
    let bank : Content = c.args.bank.now in
    let f : Name = text_at bank c.in-App.f in
    let ids : List TermId = c.args-arguments.result.now in
    let target : Term = bound_at bank c.args.target in
    let part : Term = bound_at bank c.argument_of-part.result in
    let is_call = c.is_call_of.ensures.0 c.if-not-is_call_of.false in
    let next : IsNext bank ids (arguments_of target) c.loop-i.i part = record { below = c.loop-i-test.true; above = omega (arith, is_call.count, c.loop-i-test.true); is = c.argument_of-part.ensures.is } in
    let none = told_none c.in_ok-match_within-in-None.field-0 (Matches bank (term_at bank (get_or ids c.loop-i.i first)) part c.loop-i.bindings.items c.match_within.new.bindings.items) (MatchesNone (bindings_at bank c.loop-i.bindings.items) (term_at bank (get_or ids c.loop-i.i first)) part) c.if-not-branch.true c.in_ok-match_within-in-None.ensures.ok in
    some_arguments bank f (term_at bank c.args.pattern) target ids c.in-App.ensures.head.1 c.args-arguments.ensures.parts (bindings_at bank c.args.bindings.now.items) (c.loop-i.i + 1) is_call
    (argument_none bank f ids (arguments_of target) c.loop-i.i first part c.args.bindings.now.items c.loop-i.bindings.items next (c.loop-i.invariant.matched f) none)

pub loop-i-preserved : goal.loop-i-preserved
loop-i-preserved t c =
    let first : TermId = record { 0 = 0 } in
    let bank : Content = c.args.bank.now in
    let ids : List TermId = c.args-arguments.result.now in
    let target : Term = bound_at bank c.args.target in
    let part : Term = bound_at bank c.argument_of-part.result in
    let is_call = c.is_call_of.ensures.0 c.if-not-is_call_of.false in
    let next : IsNext bank ids (arguments_of target) c.loop-i.i part = record { below = c.loop-i-test.true; above = omega (arith, is_call.count, c.loop-i-test.true); is = c.argument_of-part.ensures.is } in
    let m = told_match c.in_ok-match_within-in-None.field-0 (Matches bank (term_at bank (get_or ids c.loop-i.i first)) part c.loop-i.bindings.items c.match_within.new.bindings.items) (MatchesNone (bindings_at bank c.loop-i.bindings.items) (term_at bank (get_or ids c.loop-i.i first)) part) c.if-not-branch.false c.in_ok-match_within-in-None.ensures.ok in
    record {
      matched = λ f. argument_match bank f ids (arguments_of target) c.loop-i.i first part c.args.bindings.now.items c.loop-i.bindings.items next (c.loop-i.invariant.matched f) c.match_within.new.bindings.items m;
      known = told_known c.in_ok-match_within-in-None.field-0 (HasMatches bank (bindings_at bank c.match_within.new.bindings.items) c.match_within.new.known) c.if-not-branch.false c.in_ok-match_within-in-None.ensures.known;
    }

pub returns-in-Var-clause-known : goal.returns-in-Var-clause-known
returns-in-Var-clause-known t c =
    let bank : Content = c.args.bank.now in
    known_after bank _ (bound_at bank c.args.target) c.args.bindings.now.items c.bind.new.bindings.items c.args.known.now c.bind.result c.requires.known c.bind.ensures.ok

pub returns-in-Num-clause-ok : goal.returns-in-Num-clause-ok
returns-in-Num-clause-ok t c =
    let bank : Content = c.args.bank.now in
    numeral_compared bank (term_at bank c.args.pattern) (bound_at bank c.args.target) (bound_at bank c.bound_of.result) c.args.bindings.now.items c.in-Num.field-0 c.is_one_term.result c.requires.stand c.requires.once c.in-Num.ensures.head.1 c.bound_of.ensures.term c.is_one_term.ensures

pub returns-in-Some-clause-ok : goal.returns-in-Some-clause-ok
returns-in-Some-clause-ok t c =
    let bank : Content = c.args.bank.now in
    let was = c.requires.known.right c.args.pattern c.in-Some.b (sym c.known_bound.ensures ∙ c.in-Some.is) in
    compared bank (term_at bank c.args.pattern) (bound_at bank c.args.target) (bound_at bank c.in-Some.b) c.args.bindings.now.items c.is_one_term-in-Some.result c.requires.stand c.requires.once was.all was.fits c.is_one_term-in-Some.ensures

pub returns-in_ok-keep_bound-in-None-clause-ok : goal.returns-in_ok-keep_bound-in-None-clause-ok
returns-in_ok-keep_bound-in-None-clause-ok t c =
    let bank : Content = c.args.bank.now in
    let f : Name = text_at bank c.in-App.f in
    all_arguments bank f (term_at bank c.args.pattern) (bound_at bank c.args.target) c.args-arguments.result.now c.in-App.ensures.head.1 c.args-arguments.ensures.parts c.args.bindings.now.items c.loop-i.bindings.items c.loop-i.i (c.is_call_of.ensures.0 c.if-not-is_call_of.false) c.loop-i-test.false (c.loop-i.invariant.matched f)

pub returns-in_ok-keep_bound-in-None-clause-known : goal.returns-in_ok-keep_bound-in-None-clause-known
returns-in_ok-keep_bound-in-None-clause-known t c =
    let bank : Content = c.args.bank.now in
    let f : Name = text_at bank c.in-App.f in
    let m = all_arguments bank f (term_at bank c.args.pattern) (bound_at bank c.args.target) c.args-arguments.result.now c.in-App.ensures.head.1 c.args-arguments.ensures.parts c.args.bindings.now.items c.loop-i.bindings.items c.loop-i.i (c.is_call_of.ensures.0 c.if-not-is_call_of.false) c.loop-i-test.false (c.loop-i.invariant.matched f) in
    known_kept bank (bindings_at bank c.loop-i.bindings.items) c.loop-i.known c.keep_bound.new.known c.args.pattern c.args.target c.loop-i.invariant.known c.in_ok-keep_bound-in-None.ensures (matched_kept bank (term_at bank c.args.pattern) c.args.target c.args.bindings.now.items c.loop-i.bindings.items c.requires.target m)
