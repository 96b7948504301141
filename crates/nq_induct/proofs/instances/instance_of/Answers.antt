use Rattle.std.proofs.Common.{◌≡◌, ◌∷◌, [], ◌∙◌, sym, ap, subst}
use Rattle.nq_logic.specs.Terms.{Term, Substitution, substituted}
use Rattle.nq_logic.specs.Words.{equal_term}
use Rattle.nq_bank.specs.Content.{IsIdOf, term_at}
use Rattle.nq_clause.specs.Substitution.{substitution_at}
use Rattle.nq_kernel.specs.declared.work.Work.{Work}
use Rattle.nq_kernel.specs.Growing.{LineHolds, WorkGrows}
use Rattle.nq_kernel.proofs.GrowingLemmas.{WorkGrows-trans, WorkGrows-refl}
use Rattle.nq_lines.specs.Instances.{ArePairsIn}
use Rattle.nq_lines.proofs.InstanceLemmas.{pairs_in_grown}
use Rattle.nq_induct.proofs.InstanceLemmas.{instance_held, equation_reflexive}
use Rattle.nq_induct.proofs.GrownLemmas.{same_pairs, instance_over}
use Rattle.nq_induct.proofs.instances.instance_of.Goals as goal

pub returns-in_err-copy-clause-grows : goal.returns-in_err-copy-clause-grows
returns-in_err-copy-clause-grows c = WorkGrows-refl c.args.history.now c.args.work.now c.requires.stands

pub find_instance-requires-clause-distinct : goal.find_instance-requires-clause-distinct
find_instance-requires-clause-distinct c =
    let w1 : Work = c.reflexive.new.work in
    let pairs : ArePairsIn c.args.history.now w1 c.in_ok-copy.copy.items = subst (ArePairsIn c.args.history.now w1) (sym c.in_ok-copy.ensures.copy) (pairs_in_grown c.args.history.now c.args.work.now w1 c.args.pairs.now c.requires.stands c.reflexive.ensures.grows c.requires.pairs) in
    pairs.distinct

pub find_instance-requires-clause-over : goal.find_instance-requires-clause-over
find_instance-requires-clause-over c =
    let w1 : Work = c.reflexive.new.work in
    let pairs : ArePairsIn c.args.history.now w1 c.in_ok-copy.copy.items = subst (ArePairsIn c.args.history.now w1) (sym c.in_ok-copy.ensures.copy) (pairs_in_grown c.args.history.now c.args.work.now w1 c.args.pairs.now c.requires.stands c.reflexive.ensures.grows c.requires.pairs) in
    record { terms = pairs.terms; names = pairs.names }

pub returns-in_err-line-clause-grows : goal.returns-in_err-line-clause-grows
returns-in_err-line-clause-grows c = WorkGrows-trans c.args.history.now c.args.work.now c.reflexive.new.work c.find_instance.new.self c.reflexive.ensures.grows c.find_instance.ensures.grows

pub returns-clause-grows : goal.returns-clause-grows
returns-clause-grows c = WorkGrows-trans c.args.history.now c.args.work.now c.reflexive.new.work c.find_instance.new.self c.reflexive.ensures.grows c.find_instance.ensures.grows

pub side_in-requires-clause-line : goal.side_in-requires-clause-line
side_in-requires-clause-line c =
    let w0 : Work = c.args.work.now in
    let w1 : Work = c.reflexive.new.work in
    equation_reflexive c.find_instance.new.self c.in_ok-line.line _ (instance_held w1 c.find_instance.new.self (substitution_at w1.bank c.in_ok-copy.copy.items) c.in_ok-law.law c.in_ok-line.line (term_at w0.bank c.args.t) c.in_ok-law.ensures.line c.in_ok-line.ensures.line)

pub returns-clause-term : goal.returns-clause-term
returns-clause-term c =
    let h = c.args.history.now in
    let w0 : Work = c.args.work.now in
    let w1 : Work = c.reflexive.new.work in
    let w2 : Work = c.find_instance.new.self in
    let t : Term = term_at w0.bank c.args.t in
    let s1 : Substitution = substitution_at w1.bank c.in_ok-copy.copy.items in
    let same : s1 ≡ substitution_at w0.bank c.args.pairs.now = ap (substitution_at w1.bank) c.in_ok-copy.ensures.copy ∙ same_pairs h w0 w1 c.requires.stands c.reflexive.ensures.grows c.args.pairs.now c.requires.pairs in
    let held : LineHolds w2 c.in_ok-line.line (equal_term (substituted s1 t) (substituted s1 t) ∷ []) = instance_held w1 w2 s1 c.in_ok-law.law c.in_ok-line.line t c.in_ok-law.ensures.line c.in_ok-line.ensures.line in
    subst (λ (s : Substitution). IsIdOf w2.bank c.side_in.result (substituted s t)) same (c.side_in.ensures (substituted s1 t) held)

pub returns-clause-over : goal.returns-clause-over
returns-clause-over c =
    let h = c.args.history.now in
    let w0 : Work = c.args.work.now in
    let w1 : Work = c.reflexive.new.work in
    let w2 : Work = c.find_instance.new.self in
    let t : Term = term_at w0.bank c.args.t in
    let s1 : Substitution = substitution_at w1.bank c.in_ok-copy.copy.items in
    let same : s1 ≡ substitution_at w0.bank c.args.pairs.now = ap (substitution_at w1.bank) c.in_ok-copy.ensures.copy ∙ same_pairs h w0 w1 c.requires.stands c.reflexive.ensures.grows c.args.pairs.now c.requires.pairs in
    let held : LineHolds w2 c.in_ok-line.line (equal_term (substituted s1 t) (substituted s1 t) ∷ []) = instance_held w1 w2 s1 c.in_ok-law.law c.in_ok-line.line t c.in_ok-law.ensures.line c.in_ok-line.ensures.line in
    let g02 : WorkGrows h w0 w2 = WorkGrows-trans h w0 w1 w2 c.reflexive.ensures.grows c.find_instance.ensures.grows in
    instance_over h w0 w2 c.requires.stands g02 c.args.t c.args.pairs.now c.side_in.result c.requires.term c.requires.pairs
    (subst (λ (s : Substitution). IsIdOf w2.bank c.side_in.result (substituted s t)) same (c.side_in.ensures (substituted s1 t) held))
