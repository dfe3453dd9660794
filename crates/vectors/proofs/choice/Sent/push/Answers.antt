use Rattle.vectors.specs.Sendable.{sent_also}
use Rattle.octets.specs.Standard.{refl}
use Rattle.vectors.proofs.choice.Sent.push.Goals as goal

pub returns : goal.returns
unfolding sent_also
returns c = refl
