use Rattle.std.proofs.Common.{◌∷◌, ◌+◌, [], subst}
use Rattle.std.specs.Prelude.{codes}
use Rattle.nq_proof.proofs.Tests.{some_same}
use Rattle.nq_history.specs.Events.{events_at}
use Rattle.nq_bank.specs.Content.{term_at}
use Rattle.nq_kernel.proofs.GrowingLemmas.{WorkGrows-refl}
use Rattle.nq_lines.specs.Lines.{LineHasOnly}
use Rattle.nq_types.specs.Kinds.{HasKind, of_truth, of_falsity, of_base, of_made}
use Rattle.nq_types.specs.TypeSets.{recognized_by}
use Rattle.nq_types.proofs.exact.type_of_kind.Goals as goal

pub returns-in_ok-line-in-Truth-clause-known : goal.returns-in_ok-line-in-Truth-clause-known
returns-in_ok-line-in-Truth-clause-known c =
    let h = events_at c.args.work.now.bank c.args.history.now in
    let t = term_at c.args.work.now.bank c.args.t in
    record {
      bit = 0;
      kind = of_truth (subst (HasKind h t) c.in-Truth.is c.requires.kind);
      set = c.single.ensures;
      line = λ r there. subst (λ x. LineHasOnly c.constant_line.new.work c.in_ok-line-in-Truth.line (recognized_by x t ∷ [])) (some_same (codes "TRUEP") r there) c.in_ok-line-in-Truth.ensures.line;
    }

pub returns-in_ok-line-in-Falsity-clause-known : goal.returns-in_ok-line-in-Falsity-clause-known
returns-in_ok-line-in-Falsity-clause-known c =
    let h = events_at c.args.work.now.bank c.args.history.now in
    let t = term_at c.args.work.now.bank c.args.t in
    record {
      bit = 1;
      kind = of_falsity (subst (HasKind h t) c.in-Falsity.is c.requires.kind);
      set = c.single-in-Falsity.ensures;
      line = λ r there. subst (λ x. LineHasOnly c.constant_line-in-Falsity.new.work c.in_ok-line-in-Falsity.line (recognized_by x t ∷ [])) (some_same (codes "FALSEP") r there) c.in_ok-line-in-Falsity.ensures.line;
    }

pub returns-in_ok-line-in-Base-clause-known : goal.returns-in_ok-line-in-Base-clause-known
returns-in_ok-line-in-Base-clause-known c =
    let h = events_at c.args.work.now.bank c.args.history.now in
    let t = term_at c.args.work.now.bank c.args.t in
    record { bit = c.in-Base.place + 2; kind = of_base c.in-Base.place (subst (HasKind h t) c.in-Base.is c.requires.kind); set = c.single-in-Base.ensures; line = c.in_ok-line-in-Base.ensures.line }

pub returns-in_ok-line-in-Made-clause-known : goal.returns-in_ok-line-in-Made-clause-known
returns-in_ok-line-in-Made-clause-known c =
    let h = events_at c.args.work.now.bank c.args.history.now in
    let t = term_at c.args.work.now.bank c.args.t in
    record { bit = c.in-Made.place + 2; kind = of_made c.in-Made.place (subst (HasKind h t) c.in-Made.is c.requires.kind); set = c.single-in-Made.ensures; line = c.in_ok-line-in-Made.ensures.line }

pub returns-in-Other-clause-grows : goal.returns-in-Other-clause-grows
returns-in-Other-clause-grows c = WorkGrows-refl c.args.history.now c.args.work.now c.requires.stands
