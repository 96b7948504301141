use Rattle.std.proofs.Common.{◌<◌, ◌∷◌, [], true, false, sym, ap, subst, ◌∙◌, inl, inr, arith, rules}
use Rattle.nq_logic.specs.Terms.{Term}
use Rattle.nq_logic.specs.Numerals.{number_of}
use Rattle.nq_logic.specs.Words.{equal_term}
use Rattle.nq_bank.specs.Content.{text_at, term_at}
use Rattle.nq_bank.specs.Parts.{parts_of}
use Rattle.nq_proof.proofs.Tests.{same_true}
use Rattle.nq_kernel.proofs.GrowingLemmas.{WorkGrows-refl, WorkGrows-trans}
use Rattle.nq_lines.specs.Lines.{LineHasOnly}
use Rattle.nq_lines.proofs.LineLemmas.{only_more, only_stands}
use Rattle.nq_lines.proofs.TermLemmas.{term_grown}
use Rattle.nq_goals.specs.Replacing.{exchanged_within}
use Rattle.nq_moves.specs.Equal.{swap_at, HasEquals}
use Rattle.nq_moves.proofs.EqualLemmas.{swap_grown, equals_grown, equals_kept, on_ok}
use Rattle.nq_moves.proofs.SoFarLemmas.{so_far_first, so_far_grown, so_far_next, so_far_last, call_so_far, argument_at_place, argument_in, argument_below, argument_got, all_looked_at}
use Rattle.nq_moves.proofs.equal.+equal_within.Goals as goal

pub returns-then-is_same-clause-equal : goal.returns-then-is_same-clause-equal
returns-then-is_same-clause-equal t c =
    let same = same_true (term_at c.args.work.now.bank c.args.swap.from) (term_at c.args.work.now.bank c.args.s) (sym c.is_same.ensures ∙ c.if-is_same.true) in
    record {
      stands = c.requires.term.stands;
      over = c.requires.swap.into;
      is = sym (ap (λ b. elim b as (λ b. Term) [ true ↦ term_at c.args.work.now.bank c.args.swap.into | false ↦ exchanged_within (swap_at c.args.work.now.bank c.args.swap) (term_at c.args.work.now.bank c.args.s) ]) (sym c.is_same.ensures ∙ c.if-is_same.true));
      says = subst (λ t. LineHasOnly c.args.work.now c.args.swap.line (equal_term t (term_at c.args.work.now.bank c.args.swap.into) ∷ term_at c.args.work.now.bank c.args.swap.hypothesis ∷ [])) same c.requires.swap.says;
    }

pub returns-then-is_same-clause-grows : goal.returns-then-is_same-clause-grows
returns-then-is_same-clause-grows t c =
    WorkGrows-refl c.args.history.now c.args.work.now c.requires.stands

pub returns-in_err-arguments-in-None-clause-grows : goal.returns-in_err-arguments-in-None-clause-grows
returns-in_err-arguments-in-None-clause-grows t c =
    WorkGrows-refl c.args.history.now c.args.work.now c.requires.stands

pub loop-i-init : goal.loop-i-init
loop-i-init t c =
    record {
      grows = c.itself.ensures.grows;
      known = equals_grown c.args.history.now c.args.work.now c.itself.new.work c.requires.stands c.itself.ensures.grows c.args.swap c.args.known.now c.requires.swap c.requires.known;
      call = λ f is. so_far_first c.args.history.now c.args.work.now c.itself.new.work c.args.swap c.args.s f (parts_of (term_at c.args.work.now.bank c.args.s)) c.in_ok-call-in-None.call c.requires.stands c.itself.ensures.grows c.requires.term is c.in_ok-call-in-None.ensures.term
          (only_more c.itself.new.work c.in_ok-call-in-None.call.line (equal_term (term_at c.args.work.now.bank c.args.s) (term_at c.args.work.now.bank c.args.s) ∷ []) (equal_term (term_at c.args.work.now.bank c.args.s) (term_at c.args.work.now.bank c.args.s) ∷ term_at c.args.work.now.bank c.args.swap.hypothesis ∷ []) (λ t m. elim m [ inl k ↦ inl k | inr none ↦ absurd none ]) c.in_ok-call-in-None.ensures.line);
    }

pub equal_within-requires : goal.equal_within-requires
equal_within-requires t c =
    let arg = (argument_in c.args.history.now c.args.work.now c.args.s c.index-a.result.now c.args-in-None.result.now c.in_ok-arguments-in-None.arguments.items c.loop-i.i c.requires.term c.args-in-None.ensures.parts c.args-in-None.ensures.earlier c.in_ok-arguments-in-None.ensures.ok (omega (arith, c.loop-i-test.true)) c.index-a.ensures) in
    let earlier : c.index-a.result.now.0 < c.args.s.0 = arg.earlier in
    (search rules, (c.loop-i.invariant.grows.stands, (swap_grown c.args.history.now c.args.work.now c.loop-i.work c.requires.stands c.loop-i.invariant.grows c.args.swap c.requires.swap, (term_grown c.args.history.now c.args.work.now c.loop-i.work c.index-a.result.now c.requires.stands c.loop-i.invariant.grows arg.over, c.loop-i.invariant.known))))

pub returns-in_err-part-in-None-clause-grows : goal.returns-in_err-part-in-None-clause-grows
returns-in_err-part-in-None-clause-grows t c =
    WorkGrows-trans c.args.history.now c.args.work.now c.loop-i.work c.equal_within.new.work c.loop-i.invariant.grows c.equal_within.ensures.grows

pub carry_part-requires-clause-whole : goal.carry_part-requires-clause-whole
carry_part-requires-clause-whole t c =
    term_grown c.args.history.now c.args.work.now c.equal_within.new.work c.args.s c.requires.stands (WorkGrows-trans c.args.history.now c.args.work.now c.loop-i.work c.equal_within.new.work c.loop-i.invariant.grows c.equal_within.ensures.grows) c.requires.term

pub carry_part-requires-clause-call : goal.carry_part-requires-clause-call
carry_part-requires-clause-call t c =
    (so_far_grown c.args.history.now c.args.work.now c.loop-i.work c.equal_within.new.work c.args.swap c.args.s (text_at c.args.work.now.bank c.in-App.field-0) (parts_of (term_at c.args.work.now.bank c.args.s)) c.loop-i.i c.loop-i.call c.equal_within.ensures.grows (c.loop-i.invariant.call (text_at c.args.work.now.bank c.in-App.field-0) c.in-App.ensures.head.1)).over

pub carry_part-requires-clause-head : goal.carry_part-requires-clause-head
carry_part-requires-clause-head t c =
    let arg = (argument_in c.args.history.now c.args.work.now c.args.s c.index-a.result.now c.args-in-None.result.now c.in_ok-arguments-in-None.arguments.items c.loop-i.i c.requires.term c.args-in-None.ensures.parts c.args-in-None.ensures.earlier c.in_ok-arguments-in-None.ensures.ok (omega (arith, c.loop-i-test.true)) c.index-a.ensures) in
    call_so_far c.args.history.now c.args.work.now c.equal_within.new.work c.args.swap c.args.s c.index-a.result.now (text_at c.args.work.now.bank c.in-App.field-0) (parts_of (term_at c.args.work.now.bank c.args.s)) c.loop-i.i c.loop-i.call c.in_ok-part-in-None.part (term_at c.args.work.now.bank c.index-a.result.now) c.requires.stands c.requires.swap c.requires.term arg.over.stands (argument_below (parts_of (term_at c.args.work.now.bank c.args.s)) c.loop-i.i (term_at c.args.work.now.bank c.index-a.result.now) arg.at) (ap number_of (sym c.in-App.ensures.head.1) ∙ c.in-App.ensures.head.3) (argument_got (parts_of (term_at c.args.work.now.bank c.args.s)) c.loop-i.i (term_at c.args.work.now.bank c.index-a.result.now) arg.at) (so_far_grown c.args.history.now c.args.work.now c.loop-i.work c.equal_within.new.work c.args.swap c.args.s (text_at c.args.work.now.bank c.in-App.field-0) (parts_of (term_at c.args.work.now.bank c.args.s)) c.loop-i.i c.loop-i.call c.equal_within.ensures.grows (c.loop-i.invariant.call (text_at c.args.work.now.bank c.in-App.field-0) c.in-App.ensures.head.1))

pub carry_part-requires-clause-place : goal.carry_part-requires-clause-place
carry_part-requires-clause-place t c =
    let arg = (argument_in c.args.history.now c.args.work.now c.args.s c.index-a.result.now c.args-in-None.result.now c.in_ok-arguments-in-None.arguments.items c.loop-i.i c.requires.term c.args-in-None.ensures.parts c.args-in-None.ensures.earlier c.in_ok-arguments-in-None.ensures.ok (omega (arith, c.loop-i-test.true)) c.index-a.ensures) in
    argument_at_place c.args.history.now c.args.work.now c.equal_within.new.work c.args.swap c.args.s c.index-a.result.now (text_at c.args.work.now.bank c.in-App.field-0) (parts_of (term_at c.args.work.now.bank c.args.s)) c.loop-i.i c.loop-i.call c.in_ok-part-in-None.part (term_at c.args.work.now.bank c.index-a.result.now) c.requires.stands c.requires.swap c.requires.term arg.over.stands (argument_below (parts_of (term_at c.args.work.now.bank c.args.s)) c.loop-i.i (term_at c.args.work.now.bank c.index-a.result.now) arg.at) (ap number_of (sym c.in-App.ensures.head.1) ∙ c.in-App.ensures.head.3) (argument_got (parts_of (term_at c.args.work.now.bank c.args.s)) c.loop-i.i (term_at c.args.work.now.bank c.index-a.result.now) arg.at) (so_far_grown c.args.history.now c.args.work.now c.loop-i.work c.equal_within.new.work c.args.swap c.args.s (text_at c.args.work.now.bank c.in-App.field-0) (parts_of (term_at c.args.work.now.bank c.args.s)) c.loop-i.i c.loop-i.call c.equal_within.ensures.grows (c.loop-i.invariant.call (text_at c.args.work.now.bank c.in-App.field-0) c.in-App.ensures.head.1))

pub carry_part-requires-clause-line : goal.carry_part-requires-clause-line
carry_part-requires-clause-line t c =
    only_stands c.equal_within.new.work c.loop-i.call.line (equal_term (term_at c.args.work.now.bank c.args.s) (term_at c.equal_within.new.work.bank c.loop-i.call.term) ∷ term_at c.args.work.now.bank c.args.swap.hypothesis ∷ []) (so_far_grown c.args.history.now c.args.work.now c.loop-i.work c.equal_within.new.work c.args.swap c.args.s (text_at c.args.work.now.bank c.in-App.field-0) (parts_of (term_at c.args.work.now.bank c.args.s)) c.loop-i.i c.loop-i.call c.equal_within.ensures.grows (c.loop-i.invariant.call (text_at c.args.work.now.bank c.in-App.field-0) c.in-App.ensures.head.1)).says

pub returns-in_err-call-in-None-2-clause-grows : goal.returns-in_err-call-in-None-2-clause-grows
returns-in_err-call-in-None-2-clause-grows t c =
    WorkGrows-trans c.args.history.now c.args.work.now c.equal_within.new.work c.carry_part.new.work (WorkGrows-trans c.args.history.now c.args.work.now c.loop-i.work c.equal_within.new.work c.loop-i.invariant.grows c.equal_within.ensures.grows) c.carry_part.ensures.grows

pub loop-i-preserved : goal.loop-i-preserved
loop-i-preserved t c =
    let arg = (argument_in c.args.history.now c.args.work.now c.args.s c.index-a.result.now c.args-in-None.result.now c.in_ok-arguments-in-None.arguments.items c.loop-i.i c.requires.term c.args-in-None.ensures.parts c.args-in-None.ensures.earlier c.in_ok-arguments-in-None.ensures.ok (omega (arith, c.loop-i-test.true)) c.index-a.ensures) in
    record {
      grows = WorkGrows-trans c.args.history.now c.args.work.now c.equal_within.new.work c.carry_part.new.work (WorkGrows-trans c.args.history.now c.args.work.now c.loop-i.work c.equal_within.new.work c.loop-i.invariant.grows c.equal_within.ensures.grows) c.carry_part.ensures.grows;
      known = equals_grown c.args.history.now c.equal_within.new.work c.carry_part.new.work (WorkGrows-trans c.args.history.now c.args.work.now c.loop-i.work c.equal_within.new.work c.loop-i.invariant.grows c.equal_within.ensures.grows).stands c.carry_part.ensures.grows c.args.swap c.equal_within.new.known (swap_grown c.args.history.now c.args.work.now c.equal_within.new.work c.requires.stands (WorkGrows-trans c.args.history.now c.args.work.now c.loop-i.work c.equal_within.new.work c.loop-i.invariant.grows c.equal_within.ensures.grows) c.args.swap c.requires.swap) c.in_ok-part-in-None.ensures.known;
      call = λ f is. so_far_next c.args.history.now c.args.work.now c.equal_within.new.work c.args.swap c.args.s c.index-a.result.now f (parts_of (term_at c.args.work.now.bank c.args.s)) c.loop-i.i c.loop-i.call c.in_ok-part-in-None.part (term_at c.args.work.now.bank c.index-a.result.now) c.requires.stands c.requires.swap c.requires.term arg.over.stands (argument_below (parts_of (term_at c.args.work.now.bank c.args.s)) c.loop-i.i (term_at c.args.work.now.bank c.index-a.result.now) arg.at) (ap number_of (sym is) ∙ c.in-App.ensures.head.3) (argument_got (parts_of (term_at c.args.work.now.bank c.args.s)) c.loop-i.i (term_at c.args.work.now.bank c.index-a.result.now) arg.at) (so_far_grown c.args.history.now c.args.work.now c.loop-i.work c.equal_within.new.work c.args.swap c.args.s f (parts_of (term_at c.args.work.now.bank c.args.s)) c.loop-i.i c.loop-i.call c.equal_within.ensures.grows (c.loop-i.invariant.call f is)) c.carry_part.new.work c.in_ok-call-in-None-2.call c.carry_part.ensures.grows c.in_ok-part-in-None.ensures.equal c.in_ok-call-in-None-2.ensures.call.denotes c.in_ok-call-in-None-2.ensures.over c.in_ok-call-in-None-2.ensures.line;
    }

pub returns-in_err-keep_equal-in-None-clause-grows : goal.returns-in_err-keep_equal-in-None-clause-grows
returns-in_err-keep_equal-in-None-clause-grows t c =
    c.loop-i.invariant.grows

pub returns-in-Var-clause-known : goal.returns-in-Var-clause-known
returns-in-Var-clause-known t c =
    on_ok c.equal_alone.result (HasEquals c.args.history.now c.equal_alone.new.work c.args.swap c.args.known.now) (equals_grown c.args.history.now c.args.work.now c.equal_alone.new.work c.requires.stands c.equal_alone.ensures.grows c.args.swap c.args.known.now c.requires.swap c.requires.known)

pub returns-in-Num-clause-known : goal.returns-in-Num-clause-known
returns-in-Num-clause-known t c =
    on_ok c.equal_alone-in-Num.result (HasEquals c.args.history.now c.equal_alone-in-Num.new.work c.args.swap c.args.known.now) (equals_grown c.args.history.now c.args.work.now c.equal_alone-in-Num.new.work c.requires.stands c.equal_alone-in-Num.ensures.grows c.args.swap c.args.known.now c.requires.swap c.requires.known)

pub returns-in-Some-clause-equal : goal.returns-in-Some-clause-equal
returns-in-Some-clause-equal t c =
    c.requires.known.right c.args.s c.in-Some.e (sym c.known_equal.ensures ∙ c.in-Some.is)

pub returns-in-Some-clause-grows : goal.returns-in-Some-clause-grows
returns-in-Some-clause-grows t c =
    WorkGrows-refl c.args.history.now c.args.work.now c.requires.stands

pub returns-in_ok-keep_equal-in-None-clause-equal : goal.returns-in_ok-keep_equal-in-None-clause-equal
returns-in_ok-keep_equal-in-None-clause-equal t c =
    so_far_last c.args.history.now c.args.work.now c.loop-i.work c.args.swap c.args.s (text_at c.args.work.now.bank c.in-App.field-0) (parts_of (term_at c.args.work.now.bank c.args.s)) c.loop-i.i c.loop-i.call c.requires.stands c.requires.swap c.requires.term c.in-App.ensures.head.1 (all_looked_at c.args.work.now c.args.s c.args-in-None.result.now c.in_ok-arguments-in-None.arguments.items c.loop-i.i c.args-in-None.ensures.parts c.in_ok-arguments-in-None.ensures.ok (omega (arith, c.loop-i-test.false))) (sym c.is_same.ensures ∙ c.if-is_same.false) (c.loop-i.invariant.call (text_at c.args.work.now.bank c.in-App.field-0) c.in-App.ensures.head.1)

pub returns-in_ok-keep_equal-in-None-clause-known : goal.returns-in_ok-keep_equal-in-None-clause-known
returns-in_ok-keep_equal-in-None-clause-known t c =
    equals_kept c.args.history.now c.loop-i.work c.args.swap c.loop-i.known c.keep_equal.new.known c.args.s c.loop-i.call c.loop-i.invariant.known c.in_ok-keep_equal-in-None.ensures.ok (so_far_last c.args.history.now c.args.work.now c.loop-i.work c.args.swap c.args.s (text_at c.args.work.now.bank c.in-App.field-0) (parts_of (term_at c.args.work.now.bank c.args.s)) c.loop-i.i c.loop-i.call c.requires.stands c.requires.swap c.requires.term c.in-App.ensures.head.1 (all_looked_at c.args.work.now c.args.s c.args-in-None.result.now c.in_ok-arguments-in-None.arguments.items c.loop-i.i c.args-in-None.ensures.parts c.in_ok-arguments-in-None.ensures.ok (omega (arith, c.loop-i-test.false))) (sym c.is_same.ensures ∙ c.if-is_same.false) (c.loop-i.invariant.call (text_at c.args.work.now.bank c.in-App.field-0) c.in-App.ensures.head.1))

pub returns-in_ok-keep_equal-in-None-clause-grows : goal.returns-in_ok-keep_equal-in-None-clause-grows
returns-in_ok-keep_equal-in-None-clause-grows t c =
    c.loop-i.invariant.grows
