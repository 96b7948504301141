-- The nodes of a bank, and where they lie.
use Rattle.std.specs.Prelude.{◌≡◌, ℕ, zero, suc, ◌+◌, ◌-◌, ◌*◌, ◌/◌, ◌%◌, ◌^◌, ◌≤◌, Bool, false, List, [], ◌∷◌, length, get_or, take, drop}
use Rattle.nq_bank.specs.declared.node.TermId.{TermId}
use Rattle.nq_bank.specs.declared.node.Node.{Node}
use Rattle.nq_bank.specs.declared.node.Node.TheVariants.{Var, Num, App}
use Rattle.nq_bank.specs.declared.node.Kept.{Kept}
use Rattle.nq_bank.specs.declared.record.Kind.{Kind}
use Rattle.nq_bank.specs.declared.record.Kind.TheVariants.{Variable, Numeral, Call}
use Rattle.nq_bank.specs.declared.record.Record.{Record}

-- a node with its arguments, and what is kept with it
pub record Stored : Type 0 where
  pub node : Node
  pub arguments : List TermId
  pub depth : ℕ
  pub size : ℕ
  pub value : Bool

abbrev pub blank : Stored
blank = record { node = Num 0; arguments = []; depth = 0; size = 0; value = false }

-- the node at a place
abbrev pub entry_at : List Stored → ℕ → Stored
entry_at es i = get_or es i blank

-- what lies from a place to another
abbrev pub part : List TermId → ℕ → ℕ → List TermId
part ids start end = take (end - start) (drop start ids)

-- the two halves of a numeral, the low one first
abbrev pub halves : ℕ → List TermId
halves n = record { 0 = n % 2 ^ 64 } ∷ record { 0 = n / 2 ^ 64 } ∷ []

-- the number whose halves these words are
abbrev pub number_in : List TermId → ℕ
number_in (low ∷ high ∷ []) = low.0 + high.0 * 2 ^ 64
number_in words = 0

-- the head of a node, by the words that lie with it
abbrev pub node_of : Kind → ℕ → List TermId → Node
node_of Variable name words = Var (record { 0 = name })
node_of Numeral name words = Num (number_in words)
node_of Call name words = App (record { 0 = name }) (length words)

-- the arguments of a node, by the words that lie with it
abbrev pub arguments_of : Kind → List TermId → List TermId
arguments_of Variable words = words
arguments_of Numeral words = []
arguments_of Call words = words

-- the node of a record with which these words lie
abbrev pub entry_with : Record → List TermId → Stored
entry_with r words = record { node = node_of r.kind r.name words; arguments = arguments_of r.kind words; depth = r.depth; size = r.low + r.high * 2 ^ 32; value = r.value }

-- the node of a record whose words begin at a place
abbrev pub entry_of : List TermId → ℕ → Record → Stored
entry_of ids start r = entry_with r (part ids start r.end)

-- the nodes of the records whose words begin at a place, and then one after another
unfoldable pub entries : List TermId → ℕ → List Record → List Stored
entries ids start [] = []
entries ids start (r ∷ rs) = entry_of ids start r ∷ entries ids r.end rs

-- the words lie one after another, from a place to an end
unfoldable pub AreLaid : ℕ → List Record → ℕ → Type 0
AreLaid start [] end = start ≡ end
AreLaid start (r ∷ rs) end = (start ≤ r.end) × AreLaid r.end rs end

abbrev pub no_record : Record
no_record = record { name = 0; end = 0; low = 0; high = 0; depth = 0; kind = Numeral; value = false }

-- where the words of a record begin, where those of the first begin at a place
abbrev pub start_from : ℕ → List Record → ℕ → ℕ
start_from start rs zero = start
start_from start rs (suc i) = (get_or rs i no_record).end

abbrev pub start_at : List Record → ℕ → ℕ
start_at rs i = start_from 0 rs i

-- the record of a node whose words end at a place
abbrev pub record_of : Kind → ℕ → ℕ → Kept → Record
record_of kind name end kept = record { name = name; end = end; low = kept.size % 2 ^ 32; high = kept.size / 2 ^ 32; depth = kept.depth; kind = kind; value = kept.value }

-- the node that is added
abbrev pub stored : Node → List TermId → Kept → Stored
stored node ids kept = record { node = node; arguments = ids; depth = kept.depth; size = kept.size; value = kept.value }

-- a node counts its arguments right: a numeral has none
abbrev pub IsCounted : Node → List TermId → Type 0
IsCounted (Var s) ids = Unit {0}
IsCounted (Num n) ids = ids ≡ []
IsCounted (App f count) ids = count ≡ length ids
