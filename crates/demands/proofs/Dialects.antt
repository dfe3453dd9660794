-- Reading in two dialects of one command and application, on whatever other terms: the header and what is missing are the same, and all is if the walk is.
use Rattle.octets.specs.Standard.{ℕ, suc, List, [], ◌∷◌, none, cond, not, ◌&&◌, ◌≡◌, refl, ap, ◌∙◌, get_or, eqb}
use Rattle.diameter.specs.AvpAt.{present}
use Rattle.diameter.specs.Message.{body_of}
use Rattle.reading.specs.Kinds.{known, use_in, is_needed}
use Rattle.reading.specs.Rules.{Seen}
use Rattle.reading.specs.Verdicts.{lack_of}
use Rattle.reading.specs.declared.Dialect.{Dialect}
use Rattle.reading.specs.declared.Kind.{Kind}
use Rattle.requests.specs.Judged.{Judged, bad, fine, nothing, judge}
use Rattle.requests.specs.Request.{header_fault, missing_from, missing, complete, read_walk, read_by, read_in}

abbrev pub spoken : ℕ → ℕ → ℕ → ℕ → Dialect
spoken command app peer features = record { command = command; terms = record { application = app; peer = peer; features = features } }

module _ (command app p q f g : ℕ) where
  abbrev this : Dialect
  this = spoken command app p f

  abbrev that : Dialect
  that = spoken command app q g

  missing_same : (seen : Seen) (ks : List Kind) (n : ℕ) → missing_from this seen ks n ≡ missing_from that seen ks n
  unfolding missing_from use_in
  missing_same seen [] n = refl
  missing_same seen (k ∷ ks) n = ap (cond (is_needed (use_in that k) && not (present (get_or seen n none))) n) (missing_same seen ks (suc n))

  complete_same : (j : Judged) → complete this j ≡ complete that j
  unfolding complete missing
  complete_same (bad v) = refl
  complete_same (fine seen) = ap (λ (n : ℕ). cond (eqb n 0) (fine seen) (bad (lack_of n))) (missing_same seen known 1)

  pub header_same : (req : List ℕ) → header_fault this req ≡ header_fault that req
  unfolding header_fault
  header_same req = refl

  module _ (req : List ℕ) (e : judge this 20 (body_of req) nothing ≡ judge that 20 (body_of req) nothing) where
    pub read_same_by : (fault : ℕ) → read_by fault this req ≡ read_by fault that req
    unfolding read_walk
    read_same_by fault =
        let c : complete this (judge this 20 (body_of req) nothing) ≡ complete that (judge that 20 (body_of req) nothing)
        = ap (complete this) e ∙ complete_same (judge that 20 (body_of req) nothing) in
        rw c

    pub read_same : read_in this req ≡ read_in that req
    unfolding read_in
    read_same = rw (header_same req) (read_same_by (header_fault that req))
