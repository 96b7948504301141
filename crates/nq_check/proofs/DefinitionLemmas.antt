-- What the line of a definition leads to.
use Rattle.std.proofs.Common.{◌≡◌, ℕ, ◌≤◌, ◌<◌, ◌+◌, ◌^◌, Bool, true, false, List, [], ◌∷◌, ◌++◌, map, length, take, get_or, refl, sym, ap, ◌∙◌, subst, add-one, arith}
use Rattle.std.specs.Prelude.{Option, Some, None, ◌&&◌, not, nat_le, nat_lt, codes, All, Vec}
use Rattle.std.specs.declared.alloc.Global.{Global}
use Rattle.std.proofs.Math.Seq.{take-suc}
use Rattle.std.proofs.lemmas.Bool.{leb-true}
use Rattle.std.proofs.lemmas.List.{length-map, map_push}
use Rattle.std.specs.List.{flat_map}
use Rattle.std.proofs.Math.Nat.{max-le}
use Rattle.nq_logtext.specs.Reading.{◌>>=◌}
use Rattle.nq_logtext.specs.Fields.{Field, name, number}
use Rattle.nq_logtext.specs.Views.{one_number}
use Rattle.nq_logic.specs.Terms.{Name, Term, Variable, call}
use Rattle.nq_logic.specs.Names.{are_distinct, is_in_use}
use Rattle.nq_logic.specs.Admissible.{has_variables, mentions}
use Rattle.nq_logic.specs.Words.{equal_term}
use Rattle.nq_logic.specs.Histories.{Defines}
use Rattle.nq_logic.specs.Numerals.{number_of}
use Rattle.nq_logic.specs.Sizes.{depth_limit, depth_of, greatest_depth, size_of, tree_depth}
use Rattle.nq_bank.specs.declared.node.Sym.{Sym}
use Rattle.nq_bank.specs.declared.node.TermId.{TermId}
use Rattle.nq_bank.specs.Content.{Content, Grows, IsNamed, Names, Stands, term_at as term_of_bank, text_at}
use Rattle.nq_bank.specs.Shells.{texts_at}
use Rattle.nq_bank.proofs.Growth.{Grows-trans, term_at-grown, text_at-grown}
use Rattle.nq_bank.proofs.Numerals.{depth_of-number, depth_of-other}
use Rattle.nq_history.specs.declared.entry.EntryKind.TheVariants as kind
use Rattle.nq_history.specs.Events.{event_of}
use Rattle.nq_log.specs.Sizes.{is_small}
use Rattle.nq_log.specs.States.{Adds, Block, Claim, State, is_empty, only_when, term_at, variables_at}
use Rattle.nq_log.specs.Logs.{claimed}
use Rattle.nq_log.specs.Fields.{numbers_in}
use Rattle.nq_log.specs.ClosingLines.{definition_claim, has_room, introduces, is_definition, is_measured, new_definition}
use Rattle.nq_check.specs.declared.context.Context.{Context}
use Rattle.nq_check.specs.Claims.{event_named, has_place}
use Rattle.nq_check.specs.Contexts.{state_of}
use Rattle.nq_check.specs.Definitions.{may_define, is_admitted, defined, IsAdmittedBy}
use Rattle.nq_check.proofs.ClaimLemmas.{event_is}
use Rattle.nq_check.proofs.NumberLemmas.{numbers_again}

-- the condition fails where the part that is told apart does; else room, name and measure are left
lost : (parts cases room free count small introduced distinct within measured : Bool) → (parts && cases && count && small && distinct && within) ≡ false →
    (parts && cases && room && free && count && small && (introduced && distinct && within && measured)) ≡ false
lost false cases room free count small introduced distinct within measured e = refl
lost true false room free count small introduced distinct within measured e = refl
lost true true false free count small introduced distinct within measured e = refl
lost true true true false count small introduced distinct within measured e = refl
lost true true true true false small introduced distinct within measured e = refl
lost true true true true true false introduced distinct within measured e = refl
lost true true true true true true false distinct within measured e = refl
lost true true true true true true true false within measured e = refl
lost true true true true true true true true false measured e = refl
lost true true true true true true true true true measured e = absurd cc

kept : (parts cases room free count small introduced distinct within measured : Bool) → (parts && cases && count && small && distinct && within) ≡ true →
    (parts && cases && room && free && count && small && (introduced && distinct && within && measured)) ≡ ((room && free) && (free && introduced && measured))
kept false cases room free count small introduced distinct within measured e = absurd cc
kept true false room free count small introduced distinct within measured e = absurd cc
kept true true room free false small introduced distinct within measured e = absurd cc
kept true true room free true false introduced distinct within measured e = absurd cc
kept true true room free true true introduced false within measured e = absurd cc
kept true true room free true true introduced true false measured e = absurd cc
kept true true false free true true introduced true true measured e = refl
kept true true true false true true introduced true true measured e = refl
kept true true true true true true false true true measured e = refl
kept true true true true true true true true true measured e = refl

-- what is told of the formals' symbols
pub may_define_told : (block : Block) (bank : Content) (ids same : List Sym) (t : Term) (b : Bool) → same ≡ ids → b ≡ may_define block (texts_at bank same) t → may_define block (texts_at bank ids) t ≡ b
may_define_told block bank ids same t b e told = ap (λ (ids : List Sym). may_define block (texts_at bank ids) t) (sym e) ∙ sym told

module _ (c : Context) (f : Name) (b : ℕ) (ns : List ℕ) where
  abbrev s : State
  s = state_of c

  abbrev line : List Field
  line = name f ∷ number b ∷ flat_map one_number ns

  abbrev condition : List Name → Term → Bool
  condition xs body =
      is_empty s.block.parts && is_empty s.block.cases && has_room s.history && not (is_in_use f s.history) && nat_lt (length xs) (2 ^ 32) && is_small body && is_definition s f xs body

  abbrev claimed_so : Term → List Name → Option Claim
  claimed_so body xs = only_when (condition xs body) (Adds (Defines (new_definition s.block f xs body)))

  -- the line of a body that stands
  found : (t : Term) → term_at s.block b ≡ Some t → claimed (definition_claim s line) ≡ claimed (variables_at s.block ns >>= claimed_so t)
  found t e =
      ap (λ (o : Option Term). claimed (o >>= λ body. numbers_in (flat_map one_number ns) >>= λ ns. variables_at s.block ns >>= claimed_so body)) e
      ∙ ap (λ (o : Option (List ℕ)). claimed (o >>= λ ns. variables_at s.block ns >>= claimed_so t)) (numbers_again ns)

  pub definition_of_no_variables : (t : Term) → term_at s.block b ≡ Some t → variables_at s.block ns ≡ None → claimed (definition_claim s line) ≡ None
  definition_of_no_variables t e none = found t e ∙ ap (λ (o : Option (List Name)). claimed (o >>= claimed_so t)) none

  module _ (t : Term) (xs : List Name) (body : term_at s.block b ≡ Some t) (formals : variables_at s.block ns ≡ Some xs) where
    told : claimed (definition_claim s line) ≡ claimed (claimed_so t xs)
    told = found t body ∙ ap (λ (o : Option (List Name)). claimed (o >>= claimed_so t)) formals

    pub definition_denied : may_define s.block xs t ≡ false → claimed (definition_claim s line) ≡ None
    definition_denied e =
        told
        ∙ ap (λ b. claimed (only_when b (Adds (Defines (new_definition s.block f xs t)))))
        (lost (is_empty s.block.parts) (is_empty s.block.cases) (has_room s.history) (not (is_in_use f s.history)) (nat_lt (length xs) (2 ^ 32)) (is_small t) (introduces s.block.introduced f (length xs)) (are_distinct xs) (has_variables xs t)
        (is_measured s.block f xs t (mentions f t) s.block.measure) e)

    pub definition_led : may_define s.block xs t ≡ true → claimed (definition_claim s line) ≡ defined s f xs t
    definition_led e =
        told
        ∙ ap (λ b. claimed (only_when b (Adds (Defines (new_definition s.block f xs t)))))
        (kept (is_empty s.block.parts) (is_empty s.block.cases) (has_room s.history) (not (is_in_use f s.history)) (nat_lt (length xs) (2 ^ 32)) (is_small t) (introduces s.block.introduced f (length xs)) (are_distinct xs) (has_variables xs t)
        (is_measured s.block f xs t (mentions f t) s.block.measure) e)

-- ---- the claim

module _ (block : Block) (xs : List Name) (t : Term) (e : may_define block xs t ≡ true) where
  parts : (a b count small distinct within : Bool) → (a && b && count && small && distinct && within) ≡ true → (small ≡ true) × (distinct ≡ true)
  parts true true true true true within e = (refl, refl)
  parts true true true true false within e = absurd cc
  parts true true true false distinct within e = absurd cc
  parts true true false small distinct within e = absurd cc
  parts true false count small distinct within e = absurd cc
  parts false b count small distinct within e = absurd cc

  second : (a b : Bool) → (a && b) ≡ true → b ≡ true
  second true b e = e
  second false b e = absurd cc

  both : (is_small t ≡ true) × (are_distinct xs ≡ true)
  both = parts (is_empty block.parts) (is_empty block.cases) (nat_lt (length xs) (2 ^ 32)) (is_small t) (are_distinct xs) (has_variables xs t) e

  -- a body that may be claimed is not deep
  pub small_is_shallow : depth_of t ≤ 2000
  small_is_shallow = leb-true (depth_of t) 2000 (second (nat_le (size_of t) 100000) (nat_le (depth_of t) 2000) both.0)

  pub formals_are_distinct : are_distinct xs ≡ true
  formals_are_distinct = both.1

-- a definition that is not admitted leads nowhere, and one that is is claimed where there is a place
pub not_admitted : (s : State) (f : Name) (xs : List Name) (t : Term) → is_admitted s f xs t ≡ false → defined s f xs t ≡ None
not_admitted s f xs t e = ap (λ b. claimed (only_when (has_place s.history f && b) (Adds (Defines (new_definition s.block f xs t))))) e ∙ nothing (has_place s.history f)
  where
    nothing : (b : Bool) → claimed (only_when (b && false) (Adds (Defines (new_definition s.block f xs t)))) ≡ None
    nothing true = refl
    nothing false = refl

pub admitted_so : (c : Context) (f : Sym) (formals : Vec Sym Global) (body : TermId) (m : Option TermId) → IsAdmittedBy c (text_at c.bank f) (texts_at c.bank formals.items) (term_of_bank c.bank body) m →
    defined (state_of c) (text_at c.bank f) (texts_at c.bank formals.items) (term_of_bank c.bank body)
    ≡ claimed (only_when (has_place (state_of c).history (text_at c.bank f)) (Adds (event_named c.bank (text_at c.bank f) (kind.Defn formals body m))))
admitted_so c f formals body m by =
    let s = state_of c in
    let n = text_at c.bank f in
    let xs = texts_at c.bank formals.items in
    let t = term_of_bank c.bank body in
    ap (λ b. claimed (only_when (has_place s.history n && b) (Adds (Defines (new_definition s.block n xs t))))) by.admitted
    ∙ ap (λ b. claimed (only_when b (Adds (Defines (new_definition s.block n xs t))))) (plain (has_place s.history n))
    ∙ ap (λ (m : Option Term). claimed (only_when (has_place s.history n) (Adds (Defines (record { function = n; formals = xs; body = t; measure = m }))))) (sym by.measure.measure)
  where
    plain : (b : Bool) → (b && true) ≡ b
    plain true = refl
    plain false = refl

pub named_free : (used rest : Bool) → (not used && rest) ≡ true → used ≡ false
named_free true rest e = absurd cc
named_free false rest e = refl

-- ---- the same over a bank that grew

pub equation_is : (f g : Name) (xs ys : List Name) (t u : Term) → f ≡ g → xs ≡ ys → t ≡ u → equal_term (call f (map Variable xs)) t ≡ equal_term (call g (map Variable ys)) u
equation_is f g xs ys t u same formals body = λ i. equal_term (call (same i) (map Variable (formals i))) (body i)

-- the variable of one more name
pub variable_read : (start bank : Content) (names : List Sym) (i : ℕ) (d : Sym) → Grows start bank → All (IsNamed start) names → i < length names →
    map Variable (texts_at start (take i names)) ++ (Variable (text_at bank (get_or names i d)) ∷ []) ≡ map Variable (texts_at start (take (i + 1) names))
variable_read start bank names i d grows named below =
    let s = get_or names i d in
    ap (λ (x : Name). map Variable (texts_at start (take i names)) ++ (Variable x ∷ [])) (text_at-grown start bank s grows (named i d below))
    ∙ sym (map_push Variable (texts_at start (take i names)) (text_at start s))
    ∙ ap (map Variable) (sym (map_push (text_at start) (take i names) s))
    ∙ ap (λ (xs : List Sym). map Variable (texts_at start xs)) (sym (ap (λ n. take n names) (add-one i) ∙ take-suc names i d below))

-- ---- depths

variable_depth : (x : Name) → depth_of (Variable x) ≡ 1
unfolding tree_depth number_of
variable_depth x = refl

variables_depth : (xs : List Name) → greatest_depth (map Variable xs) ≤ 1
variables_depth [] = omega arith
variables_depth (x ∷ xs) = max-le (subst (λ n. n ≤ 1) (sym (variable_depth x)) (omega arith)) (variables_depth xs)

-- a call is at most one deeper than its arguments
call_depth : (f : Name) (ts : List Term) (n : ℕ) → greatest_depth ts ≤ n → depth_of (call f ts) ≤ n + 1
call_depth f ts n all = by_number (number_of (call f ts)) refl
  where
    by_number : (o : Option ℕ) → number_of (call f ts) ≡ o → depth_of (call f ts) ≤ n + 1
    by_number None e = subst (λ d. d ≤ n + 1) (sym (depth_of-other f ts e)) (omega (arith, all))
    by_number (Some k) e = subst (λ d. d ≤ n + 1) (sym (depth_of-number (call f ts) k e)) (omega arith)

pub formals_depth : (f : Name) (xs : List Name) → depth_of (call f (map Variable xs)) ≤ 2
formals_depth f xs = call_depth f (map Variable xs) 1 (variables_depth xs)

pub formals_not_deep : (f : Name) (xs : List Name) → depth_limit < depth_of (call f (map Variable xs)) → ⊥
formals_not_deep f xs deep = let low = formals_depth f xs in absurd (omega (arith, low, deep))

pub equation_not_deep : (t u : Term) → depth_of t ≤ 2 → depth_of u ≤ 2000 → depth_limit < depth_of (equal_term t u) → ⊥
equation_not_deep t u left right deep =
    let low : greatest_depth (t ∷ u ∷ []) ≤ 2000 = max-le (omega (arith, left)) (max-le right (omega arith)) in
    let most = call_depth (codes "EQUAL") (t ∷ u ∷ []) 2000 low in
    absurd (omega (arith, most, deep))
