use Rattle.record.proofs.Sound.{host_within, realm_within, header_bytes_lem, header_refused}
use Rattle.octets.specs.Standard.{rules}
use Rattle.record.proofs.header.sound.Goals as goal

pub rest-requires : goal.rest-requires
rest-requires c = search (rules, host_within, realm_within)

pub returns-then-counts-is_header : goal.returns-then-counts-is_header
returns-then-counts-is_header c = search (rules, header_bytes_lem)

pub returns-else-counts-is_header : goal.returns-else-counts-is_header
returns-else-counts-is_header c = search (rules, header_refused)
