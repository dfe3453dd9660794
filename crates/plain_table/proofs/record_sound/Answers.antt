use Rattle.table.specs.Check.{sound_at, stands_at}
use Rattle.plain_table.proofs.record_sound.Goals as goal

pub returns : goal.returns
unfolding sound_at stands_at
returns c = cc
