-- The rules of class REWRITE that an entry has, by the functions of their left sides.
use Rattle.std.specs.Prelude.{ℕ, suc, nat_eq, nat_lt, Bool, true, false, ◌&&◌, ◌||◌, not, if◌then◌else◌, bytes_eq, codes, List, [], ◌∷◌, ◌++◌, length, Option, None, Some}
use Rattle.nq_logic.specs.Terms.{Name, Term, Variable, Function, Applied, Substitution, substituted}
use Rattle.nq_logic.specs.Values.{is_value}
use Rattle.nq_logic.specs.RuleShapes.{and_parts, rule_parts, left_side, is_function_named}
use Rattle.nq_proof.specs.Clauses.{same_term}
use Rattle.nq_bank.specs.declared.node.Sym.{Sym}
use Rattle.nq_bank.specs.declared.node.TermId.{TermId}
use Rattle.nq_bank.specs.Content.{Content, text_at, term_at}
use Rattle.nq_history.specs.declared.entry.Class.{Class}
use Rattle.nq_history.specs.declared.entry.Class.TheVariants.{Rewrite, Elim, Generalize}
use Rattle.nq_history.specs.declared.entry.EntryKind.{EntryKind}
use Rattle.nq_history.specs.declared.entry.EntryKind.TheVariants as kind
use Rattle.nq_history.specs.declared.entry.Entry.{Entry}
use Rattle.nq_rule_table.specs.declared.rule.RuleRef.{RuleRef}
use Rattle.nq_rule_table.specs.declared.rule.Toggled.{Toggled}

-- how many parts of a conclusion can be numbered
abbrev pub part_limit : ℕ
part_limit = 4294967296

-- whether the term is a call of the function
abbrev pub is_call_of : Name → Term → Bool
is_call_of f (Variable x) = false
is_call_of f (Function g) = bytes_eq f g
is_call_of f (Applied t u) = is_call_of f t

-- whether a part is a rule about the function of this name: its left side is a call of it, and no value
abbrev pub is_about_name : Name → Term → Bool
is_about_name f part = not (is_value (left_side part)) && is_call_of f (left_side part)

-- the same of a name that stands in the bank
abbrev pub is_about : Content → Sym → Term → Bool
is_about bank f part = nat_lt f.0 (length bank.names) && is_about_name (text_at bank f) part

-- whether the name is this one, where there is one
abbrev pub is_it : Sym → Option Sym → Bool
is_it f None = false
is_it f (Some g) = nat_eq f.0 g.0

-- whether a part says that its left side is true: whether it is neither (EQUAL l r) nor (NOT l)
abbrev pub says_true : Term → Bool
says_true (Variable x) = true
says_true (Function f) = true
says_true (Applied (Variable x) u) = true
says_true (Applied (Function f) u) = not (bytes_eq f (codes "NOT"))
says_true (Applied (Applied f t) u) = not (is_function_named (codes "EQUAL") f)

-- what stands in r at the places of the variables of l
abbrev pub values_within : Term → Term → Substitution
values_within (Variable x) r = (x, r) ∷ []
values_within (Function f) r = []
values_within (Applied a b) (Variable y) = []
values_within (Applied a b) (Function g) = []
values_within (Applied a b) (Applied c d) = values_within a c ++ values_within b d

-- whether r is an instance of l: l with what stands in r at the places of its variables
abbrev pub is_instance : Term → Term → Bool
is_instance l r = same_term (substituted (values_within l r) l) r

-- whether a part is an equation whose right side is an instance of its left side, as in commutativity
abbrev pub permutes : Term → Bool
permutes (Variable x) = false
permutes (Function f) = false
permutes (Applied (Variable x) u) = false
permutes (Applied (Function f) u) = false
permutes (Applied (Applied f l) r) = is_function_named (codes "EQUAL") f && is_instance l r

-- the rule, where there is one
abbrev pub rule_if : Bool → RuleRef → List RuleRef
rule_if true r = r ∷ []
rule_if false r = []

-- the rule that a part of this number is
abbrev pub part_rule : Sym → ℕ → ℕ → Term → RuleRef
part_rule event place number part = record { event = event; part = number; place = place; truth = says_true part; permutes = permutes part }

-- the rules about f that the parts of a conclusion are, numbered from a number on, the last part first
abbrev pub parts_rules : Content → Sym → Sym → ℕ → ℕ → List Term → List RuleRef
parts_rules bank f event place number [] = []
parts_rules bank f event place number (p ∷ ps) =
    parts_rules bank f event place (suc number) ps ++ rule_if (is_about bank f p) (part_rule event place number p)

abbrev pub is_rewrite : Class → Bool
is_rewrite Rewrite = true
is_rewrite Elim = false
is_rewrite Generalize = false

-- whether REWRITE is among the classes
abbrev pub has_rewrite : List Class → Bool
has_rewrite [] = false
has_rewrite (c ∷ classes) = is_rewrite c || has_rewrite classes

-- the rules about f of an axiom or a lemma with these classes
abbrev pub term_rules : Content → Sym → Sym → ℕ → List Class → TermId → List RuleRef
term_rules bank f event place classes t =
    if has_rewrite classes then parts_rules bank f event place 0 (and_parts (rule_parts (term_at bank t)).conclusion) else []

abbrev pub kind_rules : Content → Sym → Sym → ℕ → EntryKind → List RuleRef
kind_rules bank f event place (kind.Shell shell) = []
kind_rules bank f event place (kind.Dcl n) = []
kind_rules bank f event place (kind.Defn formals body measure) = []
kind_rules bank f event place (kind.Axiom classes t) = term_rules bank f event place classes.items t
kind_rules bank f event place (kind.Lemma classes t) = term_rules bank f event place classes.items t
kind_rules bank f event place (kind.Toggle old disabled) = []

-- the rules about f of an entry at a place of the history
abbrev pub entry_rules : Content → Sym → ℕ → Entry → List RuleRef
entry_rules bank f place e = kind_rules bank f e.name place e.kind

-- the event at a place that disables or enables a name
abbrev pub toggled_at : ℕ → Sym → Bool → Toggled
toggled_at place name disabled = record { place = place; name = name; disabled = disabled }

abbrev pub kind_toggles : ℕ → EntryKind → List Toggled
kind_toggles place (kind.Shell shell) = []
kind_toggles place (kind.Dcl n) = []
kind_toggles place (kind.Defn formals body measure) = []
kind_toggles place (kind.Axiom classes t) = []
kind_toggles place (kind.Lemma classes t) = []
kind_toggles place (kind.Toggle old disabled) = toggled_at place old disabled ∷ []

-- the name that an entry at a place of the history disables or enables
abbrev pub entry_toggles : ℕ → Entry → List Toggled
entry_toggles place e = kind_toggles place e.kind
