use Rattle.record.proofs.subscriber.Record.server_sound.Goals as goal

pub returns : goal.returns
returns c = cc
