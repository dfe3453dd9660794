use borrow.Author.Rules.{rules}
use Rattle.row_of_calls.proofs.marks.Goals as goal

pub enum_known-res : goal.enum_known-res
enum_known-res c = search rules

pub enum_told-1 : goal.enum_told-1
enum_told-1 c = search rules

pub returns-in-Base : goal.returns-in-Base
returns-in-Base c = cc

pub returns-in-Experimental : goal.returns-in-Experimental
returns-in-Experimental c = search rules
