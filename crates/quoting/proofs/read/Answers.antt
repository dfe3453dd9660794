use Rattle.octets.specs.Standard.{rules, sym, ◌∙◌}
use Rattle.quoting.proofs.Reading.{name_empty, name_unquoted, name_open, name_read, name_size, name_long}
use Rattle.quoting.proofs.read.Goals as goal

pub returns-then-s-eq0 : goal.returns-then-s-eq0
returns-then-s-eq0 c = (search (rules, name_empty), tt)

pub returns-then-s-ne-QUOTE : goal.returns-then-s-ne-QUOTE
returns-then-s-ne-QUOTE c = (search (rules, name_unquoted), tt)

pub returns-in_err-n : goal.returns-in_err-n
returns-in_err-n c =
    rw c.from_residual.ensures (name_open _ _ c.if-s-eq0.false c.if-s-ne-QUOTE.false (sym c.in_err-n.was ∙ c.behind_quote.ensures), tt)

pub returns-then-n-most : goal.returns-then-n-most
returns-then-n-most c = (
  search (rules, name_read),
  name_size _ _ c.if-s-eq0.false c.if-s-ne-QUOTE.false _ (sym c.in_ok-n.was ∙ c.behind_quote.ensures) c.if-n-most.true,
)

pub returns-else-n-most : goal.returns-else-n-most
returns-else-n-most c = (search (rules, name_long), tt)
