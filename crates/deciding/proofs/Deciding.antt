-- The plan of each command, and what carrying it out leaves.
use Rattle.octets.specs.Standard.{ℕ, ◌≤◌, List, [], ◌∷◌, Bool, true, false, ◌≡◌, ◌∙◌, arith, length, eqb}
use Rattle.record.specs.Fields.{keep_of}
use Rattle.blocks.specs.Blocks.{block_of}
use Rattle.table.specs.SoundTable.{SoundTable}
use Rattle.table.proofs.Sound.{sound_size}
use Rattle.vectors.specs.Chosen.{sent_of}
use Rattle.vectors.specs.Marked.{spent}
use Rattle.vectors.specs.declared.choice.Sent.{Sent}
use Rattle.rewrite.specs.Change.{after_of, reaches}
use Rattle.rewrite.specs.Renew.{settled}
use Rattle.rewrite.specs.Fitting.{Fitting, change_of, ChangeFits}
use Rattle.rewrite.specs.declared.Change.{Change}
use Rattle.rewrite.specs.declared.Change.TheVariants.{Challenged}
use Rattle.reading.specs.Kinds.{user_name, public_identity, visited_network, server_name, assignment_type, data_available, authorization_type}
use Rattle.reading.specs.Kinds.{number_auth_items}
use Rattle.reading.specs.Rules.{Seen}
use Rattle.diameter.specs.Message.{body_of}
use Rattle.requests.specs.Request.{given, data_seen, value_seen, scheme_of, identities}
use Rattle.choices.specs.Types.{type_of}
use Rattle.choices.specs.Plans.{only}
use Rattle.choices.specs.declared.Given.{Given}
use Rattle.choices.specs.declared.types.AssignmentType.{AssignmentType}
use Rattle.choices.specs.declared.plan.Sar.{Sar}
use Rattle.choices.specs.declared.plan.Settling.{Settling}
use Rattle.choices.specs.declared.plan.Deed.{Deed}
use Rattle.choices.specs.declared.plan.Deed.TheVariants.{Leave, Settle, Challenge}
use Rattle.choices.specs.declared.plan.Plan.{Plan}
use Rattle.questions.specs.Authentication.{authenticate}
use Rattle.questions.specs.Authorization.{authorize}
use Rattle.questions.specs.Location.{locate}
use Rattle.assignment.specs.Assignment.{find_all, numbers_of, owned_up_to, assign, stored_name, planned_records}
use Rattle.assignment.specs.Survey.{sar_of}
use Rattle.deciding.specs.Plans.{numbers_in, assignment_of, uar_plan, sar_plan, lir_plan, mar_plan}
use Rattle.deciding.specs.Deeds.{carried_out, spent_by}
use Rattle.deciding.specs.DeedFits.{DeedFits}

pub numbers_read : (t : List ℕ) (seen : Seen) {n already : ℕ} {kind : AssignmentType} {named keep : Bool} → n ≡ value_seen seen assignment_type → kind ≡ type_of n
    → already ≡ value_seen seen data_available → named ≡ given seen user_name → keep ≡ eqb (keep_of (block_of t 0)) 1
    → record { kind = kind; already = already; named = named; keep = keep } ≡ numbers_in t seen
numbers_read t seen a b c d e = rw (b, a, c, d, e)

-- The plan of each command.
module _ (req t : List ℕ) (count : ℕ) (v : List ℕ) (seen : Seen) {p : Plan} where
  pub uar_planned : {user public network : List ℕ} {kind : ℕ} {g : Given} → user ≡ data_seen seen user_name → public ≡ data_seen seen public_identity
      → network ≡ data_seen seen visited_network → kind ≡ value_seen seen authorization_type → g ≡ authorize t count user public network kind → p ≡ only g
      → p ≡ uar_plan t count seen
  unfolding uar_plan
  uar_planned a b d e g q = q ∙ rw (g, a, b, d, e)

  pub lir_planned : {public : List ℕ} {g : Given} → public ≡ data_seen seen public_identity → g ≡ locate t count public → p ≡ only g
      → p ≡ lir_plan t count seen
  unfolding lir_plan
  lir_planned b g q = q ∙ rw (g, b)

  pub sar_planned : {s : Sar} {server user : List ℕ} → s ≡ numbers_in t seen → server ≡ data_seen seen server_name → user ≡ data_seen seen user_name
      → p ≡ assign t count (sar_of req s server user) → p ≡ sar_plan req t count seen
  unfolding sar_plan assignment_of
  sar_planned a b d q = q ∙ rw (a, b, d)

  pub mar_planned : {user public scheme : List ℕ} {number : ℕ} → user ≡ data_seen seen user_name → public ≡ data_seen seen public_identity
      → scheme ≡ scheme_of seen → number ≡ value_seen seen number_auth_items → p ≡ authenticate t count v user public scheme number → p ≡ mar_plan t count v seen
  unfolding mar_plan
  mar_planned a b d e q = q ∙ rw (a, b, d, e)

-- What is left of the table.
module _ (t : List ℕ) (count : ℕ) (req : List ℕ) (seen : Seen) where
  module _ (w : Settling) where
    pub settled_owned : {name server user y : List ℕ} → name ≡ data_seen seen server_name → server ≡ stored_name w.named name → user ≡ data_seen seen user_name
        → w.owned ≡ true → y ≡ after_of t count (reaches t (owned_up_to t user count)) (settled w.state server)
        → y ≡ carried_out req t count seen (Settle w)
    unfolding carried_out planned_records assignment_of
    settled_owned a b c e f = rw e (f ∙ rw (b, a, c))

    pub settled_named : {name server y : List ℕ} → name ≡ data_seen seen server_name → server ≡ stored_name w.named name → w.owned ≡ false
        → y ≡ after_of t count (reaches t (numbers_of (find_all t count (identities (body_of req))))) (settled w.state server)
        → y ≡ carried_out req t count seen (Settle w)
    unfolding carried_out planned_records assignment_of
    settled_named a b e f = rw e (f ∙ rw (b, a))

  pub challenged_set : (k : ℕ) {c : Change} {name y : List ℕ} → c ≡ Challenged → name ≡ data_seen seen server_name
      → y ≡ after_of t count (reaches t (k ∷ [])) (change_of c name) → y ≡ carried_out req t count seen (Challenge k)
  unfolding carried_out assignment_of change_of
  challenged_set k b e f = f ∙ rw (b, e)

  -- by the deed
  module _ (d : Deed) where
    pub done_leave : d ≡ Leave → t ≡ carried_out req t count seen d
    unfolding carried_out
    done_leave e = rw e

    pub done_settle : (w : Settling) {y : List ℕ} → d ≡ Settle w → y ≡ carried_out req t count seen (Settle w)
        → y ≡ carried_out req t count seen d
    done_settle w e f = rw e f

    pub done_challenge : (k : ℕ) {y : List ℕ} → d ≡ Challenge k → y ≡ carried_out req t count seen (Challenge k)
        → y ≡ carried_out req t count seen d
    done_challenge k e f = rw e f

pub deed_settles : (count : ℕ) (server : List ℕ) (d : Deed) (w : Settling) → d ≡ Settle w → DeedFits count server d
    → Fitting w.state (stored_name w.named server)
deed_settles count server d w e f = rw e at f

pub deed_challenges : (count : ℕ) (server : List ℕ) (d : Deed) (k : ℕ) → d ≡ Challenge k → DeedFits count server d → DeedFits count server (Challenge k)
deed_challenges count server d k e f = rw e at f

pub stored_fits : (seen : Seen) (w : Settling) (name server : List ℕ) → name ≡ data_seen seen server_name → server ≡ stored_name w.named name
    → Fitting w.state (stored_name w.named (data_seen seen server_name)) → Fitting w.state server
stored_fits seen w name server a b f = rw (b, a) f

module _ (count : ℕ) (server : List ℕ) (k : ℕ) where
  pub challenge_from : DeedFits count server (Challenge k) → 1 ≤ k
  challenge_from (a, b, least, most) = a

  pub challenge_to : DeedFits count server (Challenge k) → k ≤ count
  challenge_to (a, b, least, most) = b

  pub challenge_fits : {c : Change} {name : List ℕ} → c ≡ Challenged → name ≡ server → DeedFits count server (Challenge k) → ChangeFits c name
  challenge_fits d e (a, b, least, most) = rw (d, e) (least, most)

pub table_whole : (t : List ℕ) (count : ℕ) → SoundTable t count → 512 ≤ length t
table_whole t count sound = omega (arith, sound_size t count sound)

-- What is left of the vectors.
module _ (v : List ℕ) (sent : Sent) (d : Deed) where
  pub spent_leave : d ≡ Leave → v ≡ spent_by v sent d
  unfolding spent_by
  spent_leave e = rw e

  pub spent_settle : (w : Settling) → d ≡ Settle w → v ≡ spent_by v sent d
  unfolding spent_by
  spent_settle w e = rw e

  pub spent_challenge : (k : ℕ) {y : List ℕ} → d ≡ Challenge k → y ≡ spent v (sent_of sent) → y ≡ spent_by v sent d
  unfolding spent_by
  spent_challenge k e f = rw e f
