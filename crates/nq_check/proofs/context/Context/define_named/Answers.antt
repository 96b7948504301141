use Rattle.std.proofs.Common.{true, sym, ap, ◌≡◌, ◌∙◌, subst, List}
use Rattle.std.specs.Prelude.{IfOk, Option}
use Rattle.nq_logic.specs.Names.{are_distinct}
use Rattle.nq_logic.specs.Terms.{Name, Term}
use Rattle.nq_bank.specs.Content.{text_at, term_at}
use Rattle.nq_bank.specs.Shells.{texts_at}
use Rattle.nq_bank.proofs.Growth.{term_at-grown}
use Rattle.nq_history.proofs.ShellLemmas.{texts-grown}
use Rattle.nq_log.specs.States.{State, Step}
use Rattle.nq_check.specs.Contexts.{state_of}
use Rattle.nq_check.specs.Definitions.{defined}
use Rattle.nq_check.specs.Judging.{Leads}
use Rattle.nq_check.proofs.ContextLemmas.{state_grown, whole_grown}
use Rattle.nq_check.proofs.context.Context.define_named.Goals as goal

pub define-requires-clause-whole : goal.define-requires-clause-whole
define-requires-clause-whole c = whole_grown c.args.self.now c.name.new.self c.in_ok-f.ensures.ok.grows c.requires.whole

pub define-requires-clause-distinct : goal.define-requires-clause-distinct
define-requires-clause-distinct c = subst (λ (xs : List Name). are_distinct xs ≡ true) (sym (texts-grown c.args.self.now.bank c.name.new.self c.in_ok-f.ensures.ok.grows c.args.formals.items c.requires.formals)) c.requires.distinct

pub returns : goal.returns
returns c =
    let old = c.args.self.now in
    let bank = c.name.new.self in
    let names = c.in_ok-f.ensures.ok in
    let r = c.define.result in
    let new = c.define.new.self in
    let mid = record old { bank = bank } in
    let xs : List Name = texts_at old.bank c.args.formals.items in
    let t : Term = term_at old.bank c.args.body in
    subst (λ (s : State). IfOk r (λ judged. Leads s (defined s c.args.function.now xs t) judged new)) (sym (state_grown old bank names.grows c.requires.whole))
    (subst (λ (u : Term). IfOk r (λ judged. Leads (state_of mid) (defined (state_of mid) c.args.function.now xs u) judged new)) (term_at-grown old.bank bank c.args.body names.grows c.requires.body)
    (subst (λ (ys : List Name). IfOk r (λ judged. Leads (state_of mid) (defined (state_of mid) c.args.function.now ys (term_at bank c.args.body)) judged new)) (texts-grown old.bank bank names.grows c.args.formals.items c.requires.formals)
    (subst (λ (n : Name). IfOk r (λ judged. Leads (state_of mid) (defined (state_of mid) n (texts_at bank c.args.formals.items) (term_at bank c.args.body)) judged new)) names.reads c.define.ensures)))
