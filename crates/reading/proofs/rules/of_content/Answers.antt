use Rattle.reading.proofs.Judging.{content_bad, content_good}
use Rattle.reading.proofs.rules.of_content.Goals as goal

pub returns-in-Ok : goal.returns-in-Ok
returns-in-Ok c = content_good _ _ c.in-Ok.is

pub returns-in-Err : goal.returns-in-Err
returns-in-Err c = content_bad _ _ c.in-Err.is
