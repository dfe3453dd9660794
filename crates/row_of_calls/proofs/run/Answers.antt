use Rattle.octets.specs.Standard.{length, rules}
use Rattle.reporting.proofs.Turns.{turn_least, turn_within}
use Rattle.row_of_calls.proofs.Turns.{going_start, going_stops, going_full, going_ends, going_turns}
use Rattle.row_of_calls.proofs.Turns.{turn_exact, turn_table, turn_vectors, room_here, room_more}
use Rattle.row_of_calls.proofs.run.Goals as goal

pub loop-at-init : goal.loop-at-init
loop-at-init c = (
  search rules,
  search rules,
  search rules,
  search rules,
  search rules,
  search rules,
  search rules,
  search rules,
  search rules,
  search rules,
  search rules,
  search (rules, going_start),
)

pub returns-in_default : goal.returns-in_default
returns-in_default c = search (rules, going_stops)

pub returns-then-no_room : goal.returns-then-no_room
returns-then-no_room c = search (rules, going_full)

pub overflow_add-at : goal.overflow_add-at
overflow_add-at c = search (rules, turn_within)

pub slice_bounds-serve_at-count : goal.slice_bounds-serve_at-count
slice_bounds-serve_at-count c = search (rules, turn_within)

pub slice_bounds-serve_at-start : goal.slice_bounds-serve_at-start
slice_bounds-serve_at-start c = search (rules, turn_within)

pub slice_bounds-serve_at-end : goal.slice_bounds-serve_at-end
slice_bounds-serve_at-end c = search (rules, turn_within)

pub serve_at-d-requires : goal.serve_at-d-requires
serve_at-d-requires c = let turn = c.loop-at in (
  search rules,
  search rules,
  search rules,
  search rules,
  room_here (length turn.answers) (length turn.words) turn.used turn.served c.no_room.ensures c.if-no_room.false turn.invariant.6,
)

pub overflow_add-at-in-loop-at : goal.overflow_add-at-in-loop-at
overflow_add-at-in-loop-at c = search (rules, turn_within)

pub loop-at-smaller : goal.loop-at-smaller
loop-at-smaller c = search (rules, turn_least, turn_within)

pub loop-at-preserved : goal.loop-at-preserved
loop-at-preserved c = let turn = c.loop-at in (
  search (rules, turn_within),
  search rules,
  search rules,
  search rules,
  search rules,
  search rules,
  search rules,
  room_more (length turn.answers) (length turn.words) turn.used turn.served c.no_room.ensures c.if-no_room.false turn.invariant.7,
  search (rules, turn_table),
  search (rules, turn_vectors),
  search (rules, turn_exact),
  going_turns _ _ _ _ _ _ _ _ _ _ _ _ _ _ _ _ turn.invariant.11 c.in-Some.ensures.0 c.in-Some.ensures.1
      c.no_room.ensures c.if-no_room.false turn.invariant.0 c.in-Some.ensures.2 turn.invariant.5 turn.invariant.6
      c.serve_at-d.ensures,
)

pub returns : goal.returns
returns c = search (rules, going_ends)
