-- One call and the vector file: it sends nothing and leaves the file as it came, or it marks what it sends.
use Rattle.octets.specs.Standard.{ℕ, ◌<◌, min, List, [], Bool, true, false, true≢false, ◌≡◌, refl, sym, ◌∙◌, ◌⊎◌, inl, inr, length}
use Rattle.vectors.specs.Chosen.{unused_of, sent_of}
use Rattle.vectors.specs.Marked.{spent}
use Rattle.vectors.specs.VectorFile.{SoundVectors}
use Rattle.calling.specs.Lent.{Lent, dialect_in}
use Rattle.refusals.specs.Trial.{any_holds}
use Rattle.refusals.specs.Early.{check_value}
use Rattle.calling.specs.Serve.{check_of, trials, refused, answered_by, serve_table, decided}
use Rattle.calling.proofs.Kept.{taken, serve_either, answered_is}
use Rattle.vectors_sent.specs.Sent.{sent_by, Challenges, user_of, asked_by}
use Rattle.row_of_calls.proofs.Cases.{Cases, other, success, decide_cases}

module _ (x : Lent) where
  abbrev v : List ℕ
  v = x.vectors

  pub refused_vectors : any_holds (trials x) ≡ true → (serve_table x).vectors ≡ v
  unfolding refused
  refused_vectors = serve_either x (λ b s. b ≡ true → s.vectors ≡ v) (λ r e. refl) (λ e. absurd (true≢false (sym e)))

  pub answered_sound : any_holds (trials x) ≡ false → SoundVectors v
  answered_sound e = (taken x e).vectors

  -- it leaves the file as it came
  pub record Quiet : Type 0 where
    pub kept : (serve_table x).vectors ≡ v
    pub none : sent_by x ≡ []
    pub apart : Challenges x → ⊥

  -- it is a MAR's success, and marks the first unused vectors of the User-Name
  pub record Sending : Type 0 where
    pub challenges : Challenges x
    pub sound : SoundVectors v
    pub first : sent_by x ≡ unused_of v (user_of x) (min (asked_by x) 16)
    pub some : 0 < length (sent_by x)
    pub marks : (serve_table x).vectors ≡ spent v (sent_by x)

  module _ (none-holds : any_holds (trials x) ≡ false) where
    sent_is : sent_by x ≡ sent_of (decided x).given.sent
    unfolding sent_by
    sent_is = rw none-holds

    vectors_are : (serve_table x).vectors ≡ (decided x).vectors
    unfolding answered_by
    vectors_are = rw (answered_is x none-holds)

    decided_case : Cases (dialect_in x) x.request x.table (check_value (check_of x)) v (decided x) → Quiet ⊎ Sending
    decided_case (other o) =
        inl (record { kept = vectors_are ∙ o.still.kept; none = sent_is ∙ o.still.none; apart = λ c. o.apart c.command c.success })
    decided_case (success s) =
        inr (record {
          challenges = record { taken = none-holds; command = s.command; success = s.sends.result };
          sound = answered_sound none-holds;
          first = sent_is ∙ s.sends.sent ∙ rw s.read;
          some = rw sent_is s.sends.some;
          marks = vectors_are ∙ s.sends.marks ∙ rw sent_is;
        })

  pub call_cases : Quiet ⊎ Sending
  unfolding sent_by
  call_cases = go (any_holds (trials x)) refl
    where
      go : (y : Bool) → any_holds (trials x) ≡ y → Quiet ⊎ Sending
      go true e = inl (record { kept = refused_vectors e; none = rw e; apart = λ c. true≢false (sym e ∙ c.taken) })
      go false e = decided_case e (decide_cases (dialect_in x) x.request x.table (check_value (check_of x)) v)
