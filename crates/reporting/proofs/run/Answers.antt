use Rattle.octets.specs.Standard.{rules}
use Rattle.reporting.proofs.Turns.{going_start, going_stops, going_ends, going_turns, turn_least, turn_within, turn_table, turn_vectors}
use Rattle.reporting.proofs.run.Goals as goal

pub loop-at-init : goal.loop-at-init
loop-at-init c = (search rules, search rules, search rules, search rules, search rules, search rules, search (rules, going_start))

pub returns-in_default : goal.returns-in_default
returns-in_default c = search (rules, going_stops)

pub overflow_add-at : goal.overflow_add-at
overflow_add-at c = search (rules, turn_within)

pub slice_bounds-count_one-count : goal.slice_bounds-count_one-count
slice_bounds-count_one-count c = search (rules, turn_within)

pub slice_bounds-count_one-start : goal.slice_bounds-count_one-start
slice_bounds-count_one-start c = search (rules, turn_within)

pub slice_bounds-count_one-end : goal.slice_bounds-count_one-end
slice_bounds-count_one-end c = search (rules, turn_within)

pub overflow_add-at-in-loop-at : goal.overflow_add-at-in-loop-at
overflow_add-at-in-loop-at c = search (rules, turn_within)

pub loop-at-smaller : goal.loop-at-smaller
loop-at-smaller c = search (rules, turn_least, turn_within)

pub loop-at-preserved : goal.loop-at-preserved
loop-at-preserved c = (
  search (rules, turn_within),
  search rules,
  search rules,
  search rules,
  search (rules, turn_table),
  search (rules, turn_vectors),
  going_turns _ _ _ _ _ _ _ _ _ _ _ _ c.loop-at.invariant.6 c.in-Some.ensures.0 c.in-Some.ensures.1 c.loop-at.invariant.0 c.in-Some.ensures.2 c.count_one.ensures,
)

pub returns : goal.returns
returns c = search (rules, going_ends)
