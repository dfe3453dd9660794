use Rattle.calling.proofs.Areas.{area_front}
use Rattle.row_of_calls.proofs.Areas.{front_exact, area_rows}
use borrow.Author.Rules.{rules}
use Rattle.row_of_calls.proofs.row.Goals as goal

pub table_length-n-requires : goal.table_length-n-requires
table_length-n-requires c = search rules

pub slice_bounds-row_table-end : goal.slice_bounds-row_table-end
slice_bounds-row_table-end c = search rules

pub slice_bounds-row_table-end-2 : goal.slice_bounds-row_table-end-2
slice_bounds-row_table-end-2 c = search (rules, area_front)

pub row_table-requires : goal.row_table-requires
row_table-requires c = search (rules, front_exact)

pub shape_of-t : goal.shape_of-t
shape_of-t c = search rules

pub shape_of-v : goal.shape_of-v
shape_of-v c = search rules

pub shape_of-answers : goal.shape_of-answers
shape_of-answers c = search rules

pub shape_of-words : goal.shape_of-words
shape_of-words c = search rules

pub returns : goal.returns
returns c = search (rules, area_rows)
