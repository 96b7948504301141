use Rattle.std.proofs.Common.{◌≡◌, ◌∙◌, List, Option, Some, None, sym, ap, subst, refl}
use Rattle.std.specs.Prelude.{IsSome, IfSome}
use Rattle.std.specs.Option.{option_map}
use Rattle.nq_logic.specs.Terms.{Term, Symbol}
use Rattle.nq_logic.specs.Words.{if_term}
use Rattle.nq_bank.specs.Content.{Content, term_at}
use Rattle.nq_proof.specs.Paths.{IfParts, if_parts}
use Rattle.nq_rule.specs.declared.branching.Branches.{Branches}
use Rattle.nq_rule.specs.Branches.{BranchesStand, branches_at}
use Rattle.nq_kernel.specs.Over.{IsVariable, IsTermOf}
use Rattle.nq_hinted.specs.Nests.{IsChoice}
use Rattle.nq_hinted.proofs.nests.parts_in.Goals as goal

abbrev parts : (t : Term) → IsChoice t → IfParts
parts t k = record { test = k.test; first = k.first; second = k.second }

found : (t : Term) (k : IsChoice t) → if_parts t ≡ Some (parts t k)
found t k = ap if_parts k.is

some_parts : (bank : Content) (o : Option Branches) (t : Term) → option_map (branches_at bank) o ≡ if_parts t → IsChoice t → IsSome o
some_parts bank None t e k = let none : None ≡ Some (parts t k) = e ∙ found t k in absurd cc
some_parts bank (Some b) t e k = refl

whole_is : (bank : Content) (o : Option Branches) (b : Branches) (t : Term) → option_map (branches_at bank) o ≡ if_parts t → IsChoice t → o ≡ Some b → t ≡ if_term (term_at bank b.test) (term_at bank b.first) (term_at bank b.second)
whole_is bank o b t e k is =
    let both : Some (branches_at bank b) ≡ Some (parts t k) = sym (ap (option_map (branches_at bank)) is) ∙ e ∙ found t k in
    let same : branches_at bank b ≡ parts t k = cc in
    k.is ∙ sym (ap (λ (p : IfParts). if_term p.test p.first p.second) same)

branches_stand : (bank : Content) (o : Option Branches) (b : Branches) → IfSome o (λ b. BranchesStand bank b) → o ≡ Some b → BranchesStand bank b
branches_stand bank o b h is = subst (λ (o : Option Branches). IfSome o (λ b. BranchesStand bank b)) is h

module _ (symbols : List Symbol) (p x y : Term) (over : IsTermOf IsVariable symbols (if_term p x y)) where
  test_over : IsTermOf IsVariable symbols p
  test_over = record { over = over.over.0.0.1; variables = over.variables.0.0.1 }

  first_over : IsTermOf IsVariable symbols x
  first_over = record { over = over.over.0.1; variables = over.variables.0.1 }

  second_over : IsTermOf IsVariable symbols y
  second_over = record { over = over.over.1; variables = over.variables.1 }

pub unwrap-requires : goal.unwrap-requires
unwrap-requires c = some_parts c.args.work.now.bank c.branches_in.result (term_at c.args.work.now.bank c.args.whole) c.branches_in.ensures.parts c.requires.choice

pub returns-clause-whole : goal.returns-clause-whole
returns-clause-whole c = whole_is c.args.work.now.bank c.branches_in.result c.unwrap.result (term_at c.args.work.now.bank c.args.whole) c.branches_in.ensures.parts c.requires.choice c.unwrap.ensures

pub returns-clause-test : goal.returns-clause-test
returns-clause-test c =
    let is = whole_is c.args.work.now.bank c.branches_in.result c.unwrap.result (term_at c.args.work.now.bank c.args.whole) c.branches_in.ensures.parts c.requires.choice c.unwrap.ensures in
    record { stands = (branches_stand c.args.work.now.bank c.branches_in.result c.unwrap.result c.branches_in.ensures.stand c.unwrap.ensures).test; over = test_over _ _ _ _ (subst (IsTermOf IsVariable _) is c.requires.over.over) }

pub returns-clause-first : goal.returns-clause-first
returns-clause-first c =
    let is = whole_is c.args.work.now.bank c.branches_in.result c.unwrap.result (term_at c.args.work.now.bank c.args.whole) c.branches_in.ensures.parts c.requires.choice c.unwrap.ensures in
    record { stands = (branches_stand c.args.work.now.bank c.branches_in.result c.unwrap.result c.branches_in.ensures.stand c.unwrap.ensures).first; over = first_over _ _ _ _ (subst (IsTermOf IsVariable _) is c.requires.over.over) }

pub returns-clause-second : goal.returns-clause-second
returns-clause-second c =
    let is = whole_is c.args.work.now.bank c.branches_in.result c.unwrap.result (term_at c.args.work.now.bank c.args.whole) c.branches_in.ensures.parts c.requires.choice c.unwrap.ensures in
    record { stands = (branches_stand c.args.work.now.bank c.branches_in.result c.unwrap.result c.branches_in.ensures.stand c.unwrap.ensures).second; over = second_over _ _ _ _ (subst (IsTermOf IsVariable _) is c.requires.over.over) }
