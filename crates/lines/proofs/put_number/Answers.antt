use Rattle.octets.specs.Standard.{rules, ◌∙◌, arith}
use Rattle.lines.proofs.Written.{decimal_wrote}
use Rattle.lines.proofs.put_number.Goals as goal

pub returns : goal.returns
returns c = (
  search rules,
  decimal_wrote c.args.n c.as_bytes-text.result.now (omega arith) (c.as_bytes-text.ensures.value ∙ c.format.ensures.text) c.copy.ensures,
)
