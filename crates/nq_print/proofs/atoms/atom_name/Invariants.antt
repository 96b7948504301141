use Rattle.std.proofs.Common.{◌≡◌, ◌≤◌, length}
use Rattle.nq_bank.specs.Content.{term_at, Stands}
use Rattle.nq_language.specs.Quotations.{codes_of, atom_object}
use Rattle.nq_print.specs.Atoms.{prefixed}
use Rattle.nq_print.proofs.atoms.atom_name.Given as goal

abbrev pub decreases-loop-name : goal.decreases-loop-name
decreases-loop-name l = l.rest.0

-- the codes so far and those that are left are all of them
abbrev pub invariant-loop-name : goal.invariant-loop-name
invariant-loop-name l =
    record {
      stands : Stands l.bank l.rest;
      same : atom_object (prefixed l.name.items (codes_of (term_at l.bank l.rest))) ≡ atom_object (codes_of (term_at l.bank l.fn.codes));
      short : length l.name.items ≤ 256;
    }
