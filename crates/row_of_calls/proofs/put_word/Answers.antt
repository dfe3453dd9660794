use Rattle.row_of_calls.proofs.Written.{word_written}
use borrow.Author.Rules.{rules}
use Rattle.row_of_calls.proofs.put_word.Goals as goal

pub overflow_mul-number : goal.overflow_mul-number
overflow_mul-number c = search rules

pub overflow_add-number : goal.overflow_add-number
overflow_add-number c = search rules

pub put_be32-requires : goal.put_be32-requires
put_be32-requires c = search rules

pub put_be32-requires-2 : goal.put_be32-requires-2
put_be32-requires-2 c = search rules

pub shape_of-out : goal.shape_of-out
shape_of-out c = search rules

pub returns : goal.returns
returns c = search (rules, word_written)
