use Rattle.std.proofs.Common.{◌≡◌, ◌≤◌, ◌∙◌, List, [], refl, ap, sym, subst, arith}
use Rattle.std.specs.Prelude.{IsSome}
use Rattle.nq_logic.specs.Terms.{Term, Variable}
use Rattle.nq_logic.specs.Sizes.{depth_of}
use Rattle.nq_logic.specs.Ground.{symbols_of}
use Rattle.nq_bank.specs.Content.{text_at, term_at}
use Rattle.nq_bank.specs.Parts.{parts_of}
use Rattle.nq_proof.specs.Clauses.{literal_at}
use Rattle.nq_history.specs.Events.{events_at}
use Rattle.nq_kernel.specs.Ready.{body_depth}
use Rattle.nq_kernel.specs.Over.{IsVariable, IsTermOf}
use Rattle.nq_decrease.specs.LawLines.{term_room}
use Rattle.nq_measures.proofs.SearchLemmas.{variable_shallow}
use Rattle.nq_measures.proofs.FindingLemmas.{size_parts, same_some}
use Rattle.nq_measures.proofs.descents.size_ordinal.Goals as goal

pub argument_at-t-requires-clause-place : goal.argument_at-t-requires-clause-place
argument_at-t-requires-clause-place c =
    subst (λ (ts : List Term). IsSome (literal_at 1 ts)) (sym (ap parts_of c.requires.size.size ∙ size_parts (text_at c.args.work.now.bank c.args.x))) refl

pub size_is_ordinal-requires-clause-term : goal.size_is_ordinal-requires-clause-term
size_is_ordinal-requires-clause-term c =
    let bank = c.args.work.now.bank in
    let is : term_at bank c.argument_at-t.result ≡ Variable (text_at bank c.args.x) =
    same_some _ _ (sym c.argument_at-t.ensures.argument ∙ ap (literal_at 1) (ap parts_of c.requires.size.size ∙ size_parts (text_at bank c.args.x))) in
    record {
      stands = c.argument_at-t.ensures.stands;
      over = subst (λ (t : Term). IsTermOf IsVariable (symbols_of (events_at bank c.args.history.now)) t) (sym is) (record { over = tt; variables = c.requires.variable });
    }

pub size_is_ordinal-requires-clause-shallow : goal.size_is_ordinal-requires-clause-shallow
size_is_ordinal-requires-clause-shallow c =
    let bank = c.args.work.now.bank in
    let is : term_at bank c.argument_at-t.result ≡ Variable (text_at bank c.args.x) =
    same_some _ _ (sym c.argument_at-t.ensures.argument ∙ ap (literal_at 1) (ap parts_of c.requires.size.size ∙ size_parts (text_at bank c.args.x))) in
    let d : depth_of (Variable (text_at bank c.args.x)) ≤ body_depth = (variable_shallow [] (text_at bank c.args.x) c.requires.variable).shallow in
    subst (λ (t : Term). depth_of t ≤ term_room) (sym is) (omega (arith, d))
