use Rattle.record.proofs.Sound.{public_within, private_within, server_within, mandatory_within, optional_within, record_bytes_lem, record_refused}
use Rattle.octets.specs.Standard.{rules}
use Rattle.record.proofs.subscriber.sound.Goals as goal

pub rest-requires : goal.rest-requires
rest-requires c = search (rules, public_within, private_within, server_within, mandatory_within, optional_within)

pub returns-then-is_record-set_sound : goal.returns-then-is_record-set_sound
returns-then-is_record-set_sound c = search (rules, record_bytes_lem)

pub returns-else-is_record-set_sound : goal.returns-else-is_record-set_sound
returns-else-is_record-set_sound c = search (rules, record_refused)
