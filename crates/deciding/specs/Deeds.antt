-- What is to be written, carried out: the table and the vector file afterwards.
use Rattle.std.specs.Prelude.{ℕ, List, [], ◌∷◌}
use Rattle.vectors.specs.Chosen.{sent_of}
use Rattle.vectors.specs.Marked.{spent}
use Rattle.vectors.specs.declared.choice.Sent.{Sent}
use Rattle.rewrite.specs.Change.{after_of, reaches}
use Rattle.rewrite.specs.Renew.{settled, challenged}
use Rattle.reading.specs.Kinds.{server_name}
use Rattle.reading.specs.Rules.{Seen}
use Rattle.requests.specs.Request.{data_seen}
use Rattle.choices.specs.declared.plan.Deed.{Deed}
use Rattle.choices.specs.declared.plan.Deed.TheVariants.{Leave, Settle, Challenge}
use Rattle.choices.specs.declared.plan.Settling.{Settling}
use Rattle.assignment.specs.Assignment.{Assignment, stored_name, planned_records}
use Rattle.deciding.specs.Plans.{assignment_of}

-- "Effects": a row of the table of effects, on each of the records that a SAR means and of their sets
abbrev pub settled_by : List ℕ → ℕ → Assignment → Settling → List ℕ
settled_by t count s w = after_of t count (reaches t (planned_records t count s w.owned)) (settled w.state (stored_name w.named s.server))

-- "The Server-Name is stored if different", in the one record that a MAR names and in those of its set
abbrev pub challenged_by : List ℕ → ℕ → List ℕ → ℕ → List ℕ
challenged_by t count server k = after_of t count (reaches t (k ∷ [])) (challenged server)

unfoldable pub carried_out : List ℕ → List ℕ → ℕ → Seen → Deed → List ℕ
carried_out req t count seen Leave = t
carried_out req t count seen (Settle w) = settled_by t count (assignment_of req t seen) w
carried_out req t count seen (Challenge k) = challenged_by t count (data_seen seen server_name) k

-- "marked used and sent"
unfoldable pub spent_by : List ℕ → Sent → Deed → List ℕ
spent_by v sent Leave = v
spent_by v sent (Settle w) = v
spent_by v sent (Challenge k) = spent v (sent_of sent)
