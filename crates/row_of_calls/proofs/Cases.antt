-- What a decision does to the vector file: nothing, and it sends nothing; or it is a MAR's success, which marks what it sends.
use Rattle.octets.specs.Standard.{ℕ, ◌-◌, ◌<◌, ◌≤◌, min, List, [], ◌≡◌, refl, ap, ◌≢◌, arith, length, replicate, take-append_seam}
use Rattle.vectors.specs.Chosen.{unused_of, packed, sent_of}
use Rattle.vectors.specs.Marked.{spent}
use Rattle.vectors.specs.declared.choice.Sent.{Sent}
use Rattle.reading.specs.declared.Outcome.{Outcome}
use Rattle.reading.specs.declared.Outcome.TheVariants.{Base}
use Rattle.reading.specs.Kinds.{user_name, number_auth_items}
use Rattle.reading.specs.Rules.{Seen}
use Rattle.reading.specs.Verdicts.{number_of}
use Rattle.reading.specs.declared.Dialect.{Dialect}
use Rattle.requests.specs.Judged.{fine}
use Rattle.requests.specs.Request.{read_in, data_seen, value_seen}
use Rattle.choices.specs.declared.Given.{Given}
use Rattle.choices.specs.declared.plan.Plan.{Plan}
use Rattle.questions.specs.Authentication.{to_send}
use Rattle.deciding.specs.Rules.{in_force}
use Rattle.deciding.specs.Decide.{Decision, performed_by, decide}
use Rattle.deciding.specs.Deeds.{spent_by}
use Rattle.deciding.proofs.Cases.{Comes, tells, settles, challenges}
use Rattle.deciding.proofs.Comes.{decide_by_lem}
use Rattle.deciding.proofs.Read.{fails_most}

-- nothing is sent, and the file is as it was
pub record Still (v : List ℕ) (sent : Sent) (after : List ℕ) : Type 0 where
  pub none : sent_of sent ≡ []
  pub kept : after ≡ v

-- the first unused vectors of a name, at most so many, are sent and marked
pub record Sends (v user : List ℕ) (number : ℕ) (g : Given) (after : List ℕ) : Type 0 where
  pub result : g.verdict.result ≡ Base 2001
  pub sent : sent_of g.sent ≡ unused_of v user (min number 16)
  pub some : 0 < length (sent_of g.sent)
  pub marks : after ≡ spent v (sent_of g.sent)

packed_sent : (ks : List ℕ) → sent_of (packed ks) ≡ ks
unfolding packed
packed_sent ks = take-append_seam ks (replicate (16 - length ks) 0)

other_result : (r : Outcome) → 3000 ≤ number_of r → r ≢ Base 2001
unfolding number_of
other_result r h e = let n : number_of r ≡ 2001 = ap number_of e in omega arith

module _ (dialect : Dialect) (req t : List ℕ) (count : ℕ) (v : List ℕ) (d : Decision) where
  -- a success of a MAR
  pub record Success : Type 0 where
    pub seen : Seen
    pub read : read_in dialect req ≡ fine seen
    pub command : dialect.command ≡ 303
    pub sends : Sends v (data_seen seen user_name) (value_seen seen number_auth_items) d.given d.vectors

  -- another command, or no success
  pub record Other : Type 0 where
    pub still : Still v d.given.sent d.vectors
    pub apart : dialect.command ≡ 303 → d.given.verdict.result ≢ Base 2001

  pub data Cases : Type 0 where
    other : Other → Cases
    success : Success → Cases

pub decide_cases : (dialect : Dialect) (req t : List ℕ) (count : ℕ) (v : List ℕ) → Cases dialect req t count v (decide dialect req t count v)
unfolding performed_by spent_by to_send packed
decide_cases dialect req t count v =
    decide_by_lem dialect req t count v (Cases dialect req t count v)
    (λ f b. other (record { still = record { none = refl; kept = refl }; apart = λ c. other_result f.result (fails_most f.result b) })) go
  where
    go : (seen : Seen) → read_in dialect req ≡ fine seen → (p : Plan) → Comes dialect req t count v seen p
        → Cases dialect req t count v (performed_by in_force req t count v seen p)
    go seen e p (tells g x) =
        other (record {
          still = record { none = rw x.none; kept = refl };
          apart = λ c. other_result g.verdict.result (fails_most g.verdict.result (x.apart c));
        })
    go seen e p (settles g w x) = other (record { still = record { none = rw x.none; kept = refl }; apart = λ c. absurd (omega (arith, x.command)) })
    go seen e p (challenges k x) =
        let ks = unused_of v (data_seen seen user_name) (min (value_seen seen number_auth_items) 16) in
        success (record {
          seen = seen;
          read = e;
          command = x.command;
          sends = record { result = refl; sent = packed_sent ks; some = rw (packed_sent ks) x.some; marks = refl };
        })
