use Rattle.ndushavire.proofs.Words.{row_promised}
use borrow.Author.Rules.{rules}
use Rattle.ndushavire.proofs.ndushavire_row.Goals as goal

pub row-requires : goal.row-requires
row-requires c = search rules

pub row_word-requires : goal.row_word-requires
row_word-requires c = search rules

pub shape_of-table : goal.shape_of-table
shape_of-table c = search rules

pub shape_of-vectors : goal.shape_of-vectors
shape_of-vectors c = search rules

pub shape_of-answers : goal.shape_of-answers
shape_of-answers c = search rules

pub shape_of-words : goal.shape_of-words
shape_of-words c = search rules

pub returns : goal.returns
returns c = search (rules, row_promised)
