use Rattle.row_of_calls.proofs.Serving.{done_answered}
use borrow.Author.Rules.{rules}
use Rattle.row_of_calls.proofs.done_of.Goals as goal

pub enum_known-c : goal.enum_known-c
enum_known-c c = search rules

pub overflow_cast-result : goal.overflow_cast-result
overflow_cast-result c = search rules

pub marks-requires : goal.marks-requires
marks-requires c = search rules

pub enum_told-1 : goal.enum_told-1
enum_told-1 c = search rules

pub returns-in-Ok : goal.returns-in-Ok
returns-in-Ok c = search (rules, done_answered)

pub returns-in-Err : goal.returns-in-Err
returns-in-Err c = cc
