use Rattle.ndushavire_sh.proofs.Calls.{unsound_promised, table_sound, answered_promised}
use Rattle.octets.specs.Standard.{rules}
use Rattle.ndushavire_sh.proofs.over_checked.Goals as goal

pub returns-then-number_in-ne0 : goal.returns-then-number_in-ne0
returns-then-number_in-ne0 c = search (rules, unsound_promised)

pub answer_sound-reply-requires : goal.answer_sound-reply-requires
answer_sound-reply-requires c = search (rules, table_sound)

pub returns : goal.returns
returns c = search (rules, answered_promised)
