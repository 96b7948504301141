-- The calls of a function within a body, with the tests that govern them and do not mention it, over ids.
use Rattle.std.specs.Prelude.{ℕ, zero, suc, Bool, true, false, not, filter, List, [], ◌∷◌, ◌++◌, map, All, Option, Some, None}
use Rattle.nq_logic.specs.Terms.{Name, Term}
use Rattle.nq_logic.specs.Words.{not_term}
use Rattle.nq_logic.specs.Admissible.{mentions, Call, calls_of}
use Rattle.nq_bank.specs.Content.{Content, Stands, term_at, terms_at}
use Rattle.nq_calls.specs.declared.calls.Guard.{Guard}
use Rattle.nq_calls.specs.declared.calls.Site.{Site}

-- the test, or its NOT
abbrev pub signed : Bool → Term → Term
signed true t = t
signed false t = not_term t

-- the test as it governs
abbrev pub guard_at : Content → Guard → Term
guard_at bank g = signed g.holds (term_at bank g.test)

abbrev pub guards_at : Content → List Guard → List Term
guards_at bank guards = map (guard_at bank) guards

-- a call with its tests
abbrev pub site_at : Content → Site → Call
site_at bank s = record { tests = guards_at bank s.guards.items; arguments = terms_at bank s.arguments.items }

abbrev pub sites_at : Content → List Site → List Call
sites_at bank sites = map (site_at bank) sites

-- the guard's test stands in the bank
abbrev pub GuardStands : Content → Guard → Type 0
GuardStands bank g = Stands bank g.test

-- so do the tests and the arguments of a call
pub record SiteStands (bank : Content) (s : Site) : Type 0 where
  pub guards : All (GuardStands bank) s.guards.items
  pub arguments : All (Stands bank) s.arguments.items

-- the tests that do not mention the function
abbrev pub older_tests : Name → List Term → List Term
older_tests f tests = filter (λ t. not (mentions f t)) tests

-- the calls under these tests outside, and under those of their own tests that do not mention the function
abbrev pub beneath : Name → List Term → List Call → List Call
beneath f tests calls = map (λ c. record { tests = tests ++ older_tests f c.tests; arguments = c.arguments }) calls

-- the calls of a function within a body, each with the tests that count: those that do not mention the function
abbrev pub counted_calls : Name → Term → List Call
counted_calls f body = beneath f [] (calls_of f body)

-- the test of an IF that governs what stands at a place, counted from 0
abbrev pub branch_tests : Term → ℕ → List Term
branch_tests p zero = []
branch_tests p (suc zero) = p ∷ []
branch_tests p (suc (suc zero)) = not_term p ∷ []
branch_tests p (suc (suc (suc n))) = []

-- the test that governs the place of an argument: only those of an IF are governed
abbrev pub place_tests : Bool → List Term → ℕ → List Term
place_tests false ts n = []
place_tests true [] n = []
place_tests true (p ∷ ts) n = branch_tests p n

abbrev pub optional_guard : Content → Option Guard → List Term
optional_guard bank None = []
optional_guard bank (Some g) = guard_at bank g ∷ []
