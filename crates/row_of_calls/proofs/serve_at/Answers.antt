use Rattle.row_of_calls.proofs.Places.{serves_at_lem, part_used}
use borrow.Author.Rules.{rules}
use Rattle.row_of_calls.proofs.serve_at.Goals as goal

pub overflow_mul-from : goal.overflow_mul-from
overflow_mul-from c = search rules

pub slice_bounds-serve_one-count : goal.slice_bounds-serve_one-count
slice_bounds-serve_one-count c = search rules

pub slice_bounds-serve_one-start : goal.slice_bounds-serve_one-start
slice_bounds-serve_one-start c = search rules

pub slice_bounds-serve_one-end : goal.slice_bounds-serve_one-end
slice_bounds-serve_one-end c = search rules

pub slice_bounds-serve_one-count-2 : goal.slice_bounds-serve_one-count-2
slice_bounds-serve_one-count-2 c = search rules

pub slice_bounds-serve_one-start-2 : goal.slice_bounds-serve_one-start-2
slice_bounds-serve_one-start-2 c = search rules

pub slice_bounds-serve_one-end-2 : goal.slice_bounds-serve_one-end-2
slice_bounds-serve_one-end-2 c = search rules

pub serve_one-d-requires : goal.serve_one-d-requires
serve_one-d-requires c = search rules

pub past-requires : goal.past-requires
past-requires c = search (rules, part_used)

pub shape_of-t : goal.shape_of-t
shape_of-t c = search rules

pub shape_of-v : goal.shape_of-v
shape_of-v c = search rules

pub shape_of-answers : goal.shape_of-answers
shape_of-answers c = search rules

pub shape_of-words : goal.shape_of-words
shape_of-words c = search rules

pub returns : goal.returns
returns c = search (rules, serves_at_lem)
