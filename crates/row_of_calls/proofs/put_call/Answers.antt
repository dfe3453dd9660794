use Rattle.row_of_calls.proofs.Written.{answer_written, refusal_written}
use borrow.Author.Rules.{rules}
use Rattle.row_of_calls.proofs.put_call.Goals as goal

pub enum_known-c : goal.enum_known-c
enum_known-c c = search rules

pub put_word-requires : goal.put_word-requires
put_word-requires c = search rules

pub enum_known-c-in-Err-1 : goal.enum_known-c-in-Err-1
enum_known-c-in-Err-1 c = search rules

pub put_word-requires-in-Err : goal.put_word-requires-in-Err
put_word-requires-in-Err c = search rules

pub shape_of-out-in-Ok : goal.shape_of-out-in-Ok
shape_of-out-in-Ok c = search rules

pub returns-in-Ok : goal.returns-in-Ok
returns-in-Ok c = search (rules, answer_written)

pub shape_of-out-in-Err : goal.shape_of-out-in-Err
shape_of-out-in-Err c = search rules

pub returns-in-Err : goal.returns-in-Err
returns-in-Err c = search (rules, refusal_written)
