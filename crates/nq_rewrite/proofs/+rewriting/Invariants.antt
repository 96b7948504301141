-- Each entry uses a step. Between entries the functions are ranked.
use Rattle.std.proofs.Common.{◌+◌, ◌-◌, ◌*◌}
use Rattle.nq_bank.specs.Content.{term_at, terms_at}
use Rattle.nq_kernel.specs.Growing.{WorkGrows}
use Rattle.nq_reduce.specs.Rewriting.{IsRewritten}
use Rattle.nq_rewrite.proofs.+rewriting.Given as goal

abbrev pub decreases-rewriting::rewrite_term : goal.decreases-rewriting::rewrite_term
decreases-rewriting::rewrite_term l = 64 * (l.work.now.counter.limit - l.work.now.counter.used)

abbrev pub decreases-rewriting::rewrite_entered : goal.decreases-rewriting::rewrite_entered
decreases-rewriting::rewrite_entered l = 64 * (l.work.now.counter.limit - l.work.now.counter.used) + 40

abbrev pub decreases-rewriting::rewrite_inside : goal.decreases-rewriting::rewrite_inside
decreases-rewriting::rewrite_inside l = 64 * (l.work.now.counter.limit - l.work.now.counter.used) + 39

abbrev pub decreases-rewriting::rewrite_parts : goal.decreases-rewriting::rewrite_parts
decreases-rewriting::rewrite_parts l = 64 * (l.work.now.counter.limit - l.work.now.counter.used) + 28

abbrev pub decreases-rewriting::rewrite_arguments : goal.decreases-rewriting::rewrite_arguments
decreases-rewriting::rewrite_arguments l = 64 * (l.work.now.counter.limit - l.work.now.counter.used) + 20

abbrev pub decreases-rewriting::rewrite_argument : goal.decreases-rewriting::rewrite_argument
decreases-rewriting::rewrite_argument l = 64 * (l.work.now.counter.limit - l.work.now.counter.used) + 19

abbrev pub decreases-testing::rewrite_if : goal.decreases-testing::rewrite_if
decreases-testing::rewrite_if l = 64 * (l.work.now.counter.limit - l.work.now.counter.used) + 28

abbrev pub decreases-testing::rewrite_tested : goal.decreases-testing::rewrite_tested
decreases-testing::rewrite_tested l = 64 * (l.work.now.counter.limit - l.work.now.counter.used) + 27

abbrev pub decreases-testing::known_test : goal.decreases-testing::known_test
decreases-testing::known_test l = 64 * (l.work.now.counter.limit - l.work.now.counter.used) + 17

abbrev pub decreases-testing::known_by_rules : goal.decreases-testing::known_by_rules
decreases-testing::known_by_rules l = 64 * (l.work.now.counter.limit - l.work.now.counter.used) + 16

abbrev pub decreases-testing::rewrite_chosen : goal.decreases-testing::rewrite_chosen
decreases-testing::rewrite_chosen l = 64 * (l.work.now.counter.limit - l.work.now.counter.used) + 1

abbrev pub decreases-testing::rewrite_unknown : goal.decreases-testing::rewrite_unknown
decreases-testing::rewrite_unknown l = 64 * (l.work.now.counter.limit - l.work.now.counter.used) + 26

abbrev pub decreases-testing::rewrite_nested : goal.decreases-testing::rewrite_nested
decreases-testing::rewrite_nested l = 64 * (l.work.now.counter.limit - l.work.now.counter.used) + 25

abbrev pub decreases-testing::rewrite_spread : goal.decreases-testing::rewrite_spread
decreases-testing::rewrite_spread l = 64 * (l.work.now.counter.limit - l.work.now.counter.used) + 24

abbrev pub decreases-testing::rewrite_turned : goal.decreases-testing::rewrite_turned
decreases-testing::rewrite_turned l = 64 * (l.work.now.counter.limit - l.work.now.counter.used) + 27

abbrev pub decreases-testing::rewrite_divided : goal.decreases-testing::rewrite_divided
decreases-testing::rewrite_divided l = 64 * (l.work.now.counter.limit - l.work.now.counter.used) + 23

abbrev pub decreases-testing::rewrite_doubled : goal.decreases-testing::rewrite_doubled
decreases-testing::rewrite_doubled l = 64 * (l.work.now.counter.limit - l.work.now.counter.used) + 22

abbrev pub decreases-testing::rewrite_joined : goal.decreases-testing::rewrite_joined
decreases-testing::rewrite_joined l = 64 * (l.work.now.counter.limit - l.work.now.counter.used) + 21

abbrev pub decreases-testing::rewrite_branches : goal.decreases-testing::rewrite_branches
decreases-testing::rewrite_branches l = 64 * (l.work.now.counter.limit - l.work.now.counter.used) + 20

abbrev pub decreases-testing::rewrite_under : goal.decreases-testing::rewrite_under
decreases-testing::rewrite_under l = 64 * (l.work.now.counter.limit - l.work.now.counter.used) + 1

abbrev pub decreases-outside::rewrite_outside : goal.decreases-outside::rewrite_outside
decreases-outside::rewrite_outside l = 64 * (l.work.now.counter.limit - l.work.now.counter.used) + 29

abbrev pub decreases-outside::rewrite_call : goal.decreases-outside::rewrite_call
decreases-outside::rewrite_call l = 64 * (l.work.now.counter.limit - l.work.now.counter.used) + 26

abbrev pub decreases-outside::rewrite_on : goal.decreases-outside::rewrite_on
decreases-outside::rewrite_on l = 64 * (l.work.now.counter.limit - l.work.now.counter.used) + 1

abbrev pub decreases-outside::rewrite_further : goal.decreases-outside::rewrite_further
decreases-outside::rewrite_further l = 64 * (l.work.now.counter.limit - l.work.now.counter.used) + 21

abbrev pub decreases-outside::rewrite_by_fact : goal.decreases-outside::rewrite_by_fact
decreases-outside::rewrite_by_fact l = 64 * (l.work.now.counter.limit - l.work.now.counter.used) + 20

abbrev pub decreases-opening::rewrite_by_opening : goal.decreases-opening::rewrite_by_opening
decreases-opening::rewrite_by_opening l = 64 * (l.work.now.counter.limit - l.work.now.counter.used) + 10

abbrev pub decreases-opening::rewrite_opening : goal.decreases-opening::rewrite_opening
decreases-opening::rewrite_opening l = 64 * (l.work.now.counter.limit - l.work.now.counter.used) + 9

abbrev pub decreases-opening::rewrite_body : goal.decreases-opening::rewrite_body
decreases-opening::rewrite_body l = 64 * (l.work.now.counter.limit - l.work.now.counter.used) + 8

abbrev pub decreases-opening::rewrite_opened : goal.decreases-opening::rewrite_opened
decreases-opening::rewrite_opened l = 64 * (l.work.now.counter.limit - l.work.now.counter.used) + 7

abbrev pub decreases-reducing::try_rules : goal.decreases-reducing::try_rules
decreases-reducing::try_rules l = 64 * (l.work.now.counter.limit - l.work.now.counter.used) + 15

abbrev pub decreases-reducing::try_place : goal.decreases-reducing::try_place
decreases-reducing::try_place l = 64 * (l.work.now.counter.limit - l.work.now.counter.used) + 14

abbrev pub decreases-reducing::try_head : goal.decreases-reducing::try_head
decreases-reducing::try_head l = 64 * (l.work.now.counter.limit - l.work.now.counter.used) + 13

abbrev pub decreases-reducing::try_rule : goal.decreases-reducing::try_rule
decreases-reducing::try_rule l = 64 * (l.work.now.counter.limit - l.work.now.counter.used) + 12

abbrev pub decreases-reducing::try_instance : goal.decreases-reducing::try_instance
decreases-reducing::try_instance l = 64 * (l.work.now.counter.limit - l.work.now.counter.used) + 11

abbrev pub decreases-reducing::reduce : goal.decreases-reducing::reduce
decreases-reducing::reduce l = 64 * (l.work.now.counter.limit - l.work.now.counter.used)

abbrev pub decreases-reducing::reduce_entered : goal.decreases-reducing::reduce_entered
decreases-reducing::reduce_entered l = 64 * (l.work.now.counter.limit - l.work.now.counter.used) + 30

abbrev pub decreases-reducing::reduce_implication : goal.decreases-reducing::reduce_implication
decreases-reducing::reduce_implication l = 64 * (l.work.now.counter.limit - l.work.now.counter.used) + 20

abbrev pub decreases-reducing::reduce_relieved : goal.decreases-reducing::reduce_relieved
decreases-reducing::reduce_relieved l = 64 * (l.work.now.counter.limit - l.work.now.counter.used) + 1

abbrev pub decreases-reducing::reduce_conclusion : goal.decreases-reducing::reduce_conclusion
decreases-reducing::reduce_conclusion l = 64 * (l.work.now.counter.limit - l.work.now.counter.used) + 1

abbrev pub decreases-reducing::relieve : goal.decreases-reducing::relieve
decreases-reducing::relieve l = 64 * (l.work.now.counter.limit - l.work.now.counter.used) + 19

abbrev pub decreases-reducing::relieve_within : goal.decreases-reducing::relieve_within
decreases-reducing::relieve_within l = 64 * (l.work.now.counter.limit - l.work.now.counter.used) + 18

abbrev pub decreases-selecting::rewrite_asked : goal.decreases-selecting::rewrite_asked
decreases-selecting::rewrite_asked l = 64 * (l.work.now.counter.limit - l.work.now.counter.used) + 38

abbrev pub decreases-selecting::rewrite_asked_of : goal.decreases-selecting::rewrite_asked_of
decreases-selecting::rewrite_asked_of l = 64 * (l.work.now.counter.limit - l.work.now.counter.used) + 37

abbrev pub decreases-selecting::rewrite_asked_if : goal.decreases-selecting::rewrite_asked_if
decreases-selecting::rewrite_asked_if l = 64 * (l.work.now.counter.limit - l.work.now.counter.used) + 36

abbrev pub decreases-selecting::rewrite_asked_by : goal.decreases-selecting::rewrite_asked_by
decreases-selecting::rewrite_asked_by l = 64 * (l.work.now.counter.limit - l.work.now.counter.used) + 35

abbrev pub decreases-selecting::rewrite_asked_both : goal.decreases-selecting::rewrite_asked_both
decreases-selecting::rewrite_asked_both l = 64 * (l.work.now.counter.limit - l.work.now.counter.used) + 34

abbrev pub decreases-selecting::rewrite_made : goal.decreases-selecting::rewrite_made
decreases-selecting::rewrite_made l = 64 * (l.work.now.counter.limit - l.work.now.counter.used) + 33

abbrev pub decreases-selecting::rewrite_answered : goal.decreases-selecting::rewrite_answered
decreases-selecting::rewrite_answered l = 64 * (l.work.now.counter.limit - l.work.now.counter.used) + 32

abbrev pub decreases-selecting::rewrite_asked_chosen : goal.decreases-selecting::rewrite_asked_chosen
decreases-selecting::rewrite_asked_chosen l = 64 * (l.work.now.counter.limit - l.work.now.counter.used) + 2

abbrev pub decreases-selecting::rewrite_selection : goal.decreases-selecting::rewrite_selection
decreases-selecting::rewrite_selection l = 64 * (l.work.now.counter.limit - l.work.now.counter.used) + 9

abbrev pub decreases-selecting::rewrite_asked_call : goal.decreases-selecting::rewrite_asked_call
decreases-selecting::rewrite_asked_call l = 64 * (l.work.now.counter.limit - l.work.now.counter.used) + 8

abbrev pub decreases-selecting::rewrite_opened_call : goal.decreases-selecting::rewrite_opened_call
decreases-selecting::rewrite_opened_call l = 64 * (l.work.now.counter.limit - l.work.now.counter.used) + 7

abbrev pub decreases-selecting::rewrite_asked_body : goal.decreases-selecting::rewrite_asked_body
decreases-selecting::rewrite_asked_body l = 64 * (l.work.now.counter.limit - l.work.now.counter.used) + 6

abbrev pub decreases-selecting::rewrite_asked_opened : goal.decreases-selecting::rewrite_asked_opened
decreases-selecting::rewrite_asked_opened l = 64 * (l.work.now.counter.limit - l.work.now.counter.used) + 5

-- the call so far is rewritten
abbrev pub invariant-rewriting::rewrite_arguments-loop-place : goal.invariant-rewriting::rewrite_arguments-loop-place
invariant-rewriting::rewrite_arguments-loop-place l =
    record {
      so_far : IsRewritten l.history l.work (terms_at l.fn.work.bank l.assumed) (term_at l.fn.work.bank l.t) l.so_far;
      grows : WorkGrows l.history l.fn.work l.work;
    }

abbrev pub invariant-reducing::try_rules-loop-place : goal.invariant-reducing::try_rules-loop-place
invariant-reducing::try_rules-loop-place l =
    record {
      grows : WorkGrows l.history l.fn.work l.work;
    }

abbrev pub decreases-remaking::rewrite_remade : goal.decreases-remaking::rewrite_remade
decreases-remaking::rewrite_remade l = 64 * (l.work.now.counter.limit - l.work.now.counter.used) + 25

abbrev pub decreases-remaking::rewrite_remade_number : goal.decreases-remaking::rewrite_remade_number
decreases-remaking::rewrite_remade_number l = 64 * (l.work.now.counter.limit - l.work.now.counter.used) + 24

abbrev pub decreases-remaking::rewrite_where : goal.decreases-remaking::rewrite_where
decreases-remaking::rewrite_where l = 64 * (l.work.now.counter.limit - l.work.now.counter.used) + 23

abbrev pub decreases-remaking::rewrite_shown : goal.decreases-remaking::rewrite_shown
decreases-remaking::rewrite_shown l = 64 * (l.work.now.counter.limit - l.work.now.counter.used) + 22
