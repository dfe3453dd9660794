use Rattle.row_of_calls.proofs.Serving.{serves}
use borrow.Author.Rules.{rules}
use Rattle.row_of_calls.proofs.serve_one.Goals as goal

pub call_over-came-requires : goal.call_over-came-requires
call_over-came-requires c = search rules

pub put_call-requires : goal.put_call-requires
put_call-requires c = search rules

pub done_of-requires : goal.done_of-requires
done_of-requires c = search rules

pub shape_of-t : goal.shape_of-t
shape_of-t c = search rules

pub shape_of-v : goal.shape_of-v
shape_of-v c = search rules

pub shape_of-answers : goal.shape_of-answers
shape_of-answers c = search rules

pub shape_of-words : goal.shape_of-words
shape_of-words c = search rules

pub returns : goal.returns
returns c = search (rules, serves)
