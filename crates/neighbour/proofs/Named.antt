-- The Public-Identity that reading takes is one of those that stand in the request.
use Rattle.octets.specs.Standard.{ℕ, zero, suc, ◌+◌, ◌≡◌, refl, sym, ◌∙◌, ap, ◌≢◌, List, [], ◌∷◌, Option, none, some, none-ne-some, Bool, true, false}
use Rattle.octets.specs.Standard.{cond, true≢false, arith, length, get_or, set, replicate, eqb, eq-eqb, ne_eqb}
use Rattle.diameter.specs.Avp.{padded, data_of}
use Rattle.diameter.specs.Message.{body_of}
use Rattle.diameter.specs.Put.{All}
use Rattle.diameter.specs.Walk.{Walk, ended, faulty, avp}
use Rattle.diameter.specs.AvpAt.{present}
use Rattle.reading.specs.Kinds.{kinds, kind_of, known, row_of, use_in, is_needed, session_id, public_identity}
use Rattle.reading.specs.Rules.{Seen, rule}
use Rattle.reading.specs.Verdicts.{lack_of, fault_of}
use Rattle.reading.specs.declared.Dialect.{Dialect}
use Rattle.reading.specs.declared.Ruled.{Ruled}
use Rattle.reading.specs.declared.Ruled.TheVariants.{Taken, Skipped, Fault}
use Rattle.reading.specs.declared.Use.TheVariants.{Needed}
use Rattle.reading.specs.declared.Verdict.{Verdict}
use Rattle.requests.specs.Judged.{nothing, Judged, bad, fine, on_rule, judge}
use Rattle.requests.specs.Request.{header_fault, first_other, missing, complete, read_walk, read_in, given, data_if, data_seen, identities}
use Rattle.requests.proofs.Kept.{read_needed, read_spoken}

bad_fine : {A : Type 0} (v : Verdict) (seen : Seen) → bad v ≡ fine seen → A
bad_fine v seen e = let z : ◌≡◌ {A = ℕ} 0 1 = cc in absurd (omega arith)

-- a place of a row that something was put into has that, or what it had
put_cases : {P : Type 0} (l : Seen) (i k : ℕ) (a b : List ℕ) → get_or (set l i (some a)) k none ≡ some b → (i ≡ k → a ≡ b → P) → (get_or l k none ≡ some b → P) → P
put_cases [] i k a b e p q = q e
put_cases (y ∷ l) zero zero a b e p q = p refl cc
put_cases (y ∷ l) zero (suc k) a b e p q = q e
put_cases (y ∷ l) (suc i) zero a b e p q = q e
put_cases (y ∷ l) (suc i) (suc k) a b e p q = put_cases l i k a b e (λ z. p (ap suc z)) q

module _ (d : Dialect) (P : List ℕ → Type 0) where
  -- the one that was taken is as those that stand there are
  abbrev TakenIs : Seen → Type 0
  TakenIs seen = (a : List ℕ) → get_or seen public_identity none ≡ some a → P a

  judge_among : (at : ℕ) (w : Walk) (seen out : Seen) → All P (identities w) → TakenIs seen → judge d at w seen ≡ fine out → TakenIs out
  unfolding judge identities
  judge_among at ended seen out all h e = let q : seen ≡ out = cc in rw q at h
  judge_among at (faulty t) seen out all h e = bad_fine _ _ e
  judge_among at (avp a w) seen out all h e =
      go (eqb (kind_of a) public_identity) (rule d seen a) refl all e (judge_among (at + padded (length a)) w)
    where
      later : (x : Bool) → All P (cond x (a ∷ identities w) (identities w)) → All P (identities w)
      later true r = r.1
      later false r = r

      put : (x : Bool) → eqb (kind_of a) public_identity ≡ x → All P (cond x (a ∷ identities w) (identities w)) → TakenIs (set seen (kind_of a) (some a))
      put true f r b g = put_cases seen (kind_of a) public_identity a b g (λ i q. rw q at r.0) (h b)
      put false f r b g = put_cases seen (kind_of a) public_identity a b g (λ i q. absurd (true≢false (sym (eq-eqb (kind_of a) public_identity i) ∙ f))) (h b)

      go : (x : Bool) (r : Ruled) → eqb (kind_of a) public_identity ≡ x → All P (cond x (a ∷ identities w) (identities w))
          → on_rule r seen a at (judge d (at + padded (length a)) w) ≡ fine out
          → ((s o : Seen) → All P (identities w) → TakenIs s → judge d (at + padded (length a)) w s ≡ fine o → TakenIs o) → TakenIs out
      go x Taken f r g next = next (set seen (kind_of a) (some a)) out (later x r) (put x f r) g
      go x Skipped f r g next = next seen out (later x r) h g
      go x (Fault n) f r g next = bad_fine _ _ g

  nothing_taken : TakenIs nothing
  unfolding nothing
  nothing_taken a e = absurd (none-ne-some a (sym (none_there kinds public_identity) ∙ e))
    where
      none_there : (n i : ℕ) → ◌≡◌ {A = Option (List ℕ)} (get_or (replicate n none) i none) none
      none_there zero i = refl
      none_there (suc n) zero = refl
      none_there (suc n) (suc i) = none_there n i

-- a request without fault: its walk
complete_judged : (d : Dialect) (j : Judged) (seen : Seen) → complete d j ≡ fine seen → j ≡ fine seen
unfolding complete
complete_judged d (bad v) seen e = bad_fine v seen e
complete_judged d (fine s) seen e = go (eqb (missing d s) 0) e
  where
    go : (x : Bool) → cond x (fine s) (bad (lack_of (missing d s))) ≡ fine seen → fine s ≡ fine seen
    go true f = f
    go false f = bad_fine _ _ f

read_judged : (d : Dialect) (req : List ℕ) (seen : Seen) → read_in d req ≡ fine seen → judge d 20 (body_of req) nothing ≡ fine seen
unfolding read_in read_walk
read_judged d req seen e = go (eqb (header_fault d req) 0) (first_other (body_of req)) e
  where
    go : (x y : Bool) → cond x (cond y (bad (lack_of session_id)) (complete d (judge d 20 (body_of req) nothing))) (bad (fault_of (header_fault d req))) ≡ fine seen
        → judge d 20 (body_of req) nothing ≡ fine seen
    go true true f = bad_fine _ _ f
    go true false f = complete_judged d (judge d 20 (body_of req) nothing) seen f
    go false y f = bad_fine _ _ f

-- but for a SAR every command needs one
module _ (d : Dialect) (req : List ℕ) (seen : Seen) (read : read_in d req ≡ fine seen) (n : d.command ≢ 301) where
  needed : given seen public_identity ≡ true
  unfolding row_of known use_in
  needed =
      read_needed d req seen public_identity read (omega arith)
      (rw ((read_spoken d req seen read).0, ne_eqb d.command 301 n) (go (eqb d.command 300) (eqb d.command 302)))
    where
      go : (x y : Bool) → is_needed (cond x Needed (cond y Needed Needed)) ≡ true
      go true y = refl
      go false true = refl
      go false false = refl

  pub taken_among : (P : List ℕ → Type 0) → All (λ (a : List ℕ). P (data_of a)) (identities (body_of req)) → P (data_seen seen public_identity)
  taken_among P all = go (get_or seen public_identity none) refl needed
    where
      go : (o : Option (List ℕ)) → get_or seen public_identity none ≡ o → present o ≡ true → P (data_if o)
      go none e f = absurd (true≢false (sym f))
      go (some a) e f =
          judge_among d (λ (b : List ℕ). P (data_of b)) 20 (body_of req) nothing seen all (nothing_taken d (λ (b : List ℕ). P (data_of b)))
          (read_judged d req seen read) a e
