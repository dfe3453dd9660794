-- A request's header, its first AVP, what is missing, and the whole.
use Rattle.std.specs.Prelude.{Some, Result, Ok, Err}
use Rattle.octets.specs.Standard.{ℕ, ◌+◌, ◌/◌, ◌%◌, ◌≤◌, ◌<◌, add-one, ◌≡◌, refl, sym, ap, ◌∙◌, List, [], ◌∷◌, Bool, true, false, not, ◌&&◌, arith}
use Rattle.octets.specs.Standard.{length, get_or, drop, drop_of_length-le, drop-cons, eqb, eq-eqb, ne_eqb}
use Rattle.diameter.specs.Avp.{sound}
use Rattle.diameter.specs.Walk.{Walk, ended, faulty, walk}
use Rattle.diameter.specs.Reader.{read_of, own_of}
use Rattle.diameter.specs.AvpAt.{part_at, present}
use Rattle.diameter.specs.declared.Avp.{Avp}
use Rattle.diameter.proofs.Walks.{walk_nil, walk_faulty}
use Rattle.diameter.proofs.Reading.{own_flags, read_says, read_unsound}
use Rattle.reading.specs.declared.Dialect.{Dialect}
use Rattle.reading.specs.declared.Verdict.{Verdict}
use Rattle.reading.specs.Kinds.{kinds, known, unknown, session_id, kind_of, row_of, use_in, is_needed}
use Rattle.reading.specs.Rules.{Seen}
use Rattle.requests.specs.Judged.{nothing, Judged, bad, fine, judge}
use Rattle.diameter.specs.Message.{application_of, body_of}
use Rattle.reading.specs.Verdicts.{lack_of, fault_of}
use Rattle.requests.specs.Request.{spoken, spoken_sh, header_fault_by, header_fault, header_fault_sh, first_other, missing_from, missing, complete, read_walk}
use Rattle.requests.specs.Request.{read_by, read_in, read_sh, session_of}
use Rattle.reading.specs.Places.{seen_of}
use Rattle.requests.specs.Found.{judged_of, Walked, Headed, Missed}
use Rattle.reading.proofs.Judging.{seen_at}

-- a fault of the header, by its number
headed : (m n : ℕ) {v : Verdict} → 0 < m → v ≡ fault_of m → m ≡ n → Headed (Err v) n
headed m n h d e = (omega arith, d ∙ ap fault_of e)

-- "Header, in order"
module _ (req : List ℕ) (dialect : Dialect) (has : Bool) where
  pub header_version : {v : Verdict} → (get_or req 0 0 ≡ 1 → ⊥) → v ≡ fault_of 5011 → Headed (Err v) (header_fault_by has dialect req)
  header_version h d = headed 5011 (header_fault_by has dialect req) (omega arith) d (rw (ne_eqb _ _ h))

  module _ (first : get_or req 0 0 ≡ 1) where
    pub header_error : {v : Verdict} → get_or req 4 0 / 32 % 2 ≡ 1 → v ≡ fault_of 3008 → Headed (Err v) (header_fault_by has dialect req)
    header_error e d = headed 3008 (header_fault_by has dialect req) (omega arith) d (rw (first, e))

    module _ (asked : get_or req 4 0 / 32 % 2 ≡ 1 → ⊥) where
      pub header_command : {v : Verdict} → not has ≡ true → v ≡ fault_of 3001 → Headed (Err v) (header_fault_by has dialect req)
      header_command t d = headed 3001 (header_fault_by has dialect req) (omega arith) d (rw (first, ne_eqb _ _ asked, t))

      module _ (known : not has ≡ false) (a : ℕ) (ea : a ≡ application_of req) where
        pub header_application : {v : Verdict} → (a ≡ dialect.terms.application → ⊥) → v ≡ fault_of 3007 → Headed (Err v) (header_fault_by has dialect req)
        header_application h d =
            headed 3007 (header_fault_by has dialect req) (omega arith) d (rw (first, ne_eqb _ _ asked, known, ← ea, ne_eqb _ _ h))

        pub header_sound : a ≡ dialect.terms.application → header_fault_by has dialect req ≡ 0
        header_sound e = rw (first, ne_eqb _ _ asked, known, ← ea, eq-eqb _ _ e)

-- where no whole AVP stands, the walk is at its end or at a length fault
pub at_fault : {X : Type 0} (f : Walk → X) (x : X) (t : List ℕ) → sound t ≡ false → f ended ≡ x → f (faulty t) ≡ x → x ≡ f (walk t)
at_fault f x [] e a b = rw walk_nil (sym a)
at_fault f x (y ∷ t) e a b = rw (walk_faulty (y ∷ t) e (omega arith)) (sym b)

-- the first AVP
module _ (s : List ℕ) (r : Result Avp ℕ) (e : r ≡ read_of 20 (drop 20 s)) where
  pub first_none : {p : ℕ} → r ≡ Err p → false ≡ first_other (body_of s)
  first_none d = at_fault first_other false (drop 20 s) (read_unsound s 20 r e d) refl refl

  pub session_none : {p : ℕ} → r ≡ Err p → [] ≡ session_of (body_of s)
  session_none d = at_fault session_of [] (drop 20 s) (read_unsound s 20 r e d) refl refl

  module _ (a : Avp) (k : ℕ) (d : r ≡ Ok a) (ek : k ≡ kind_of (own_of s a)) where
    pub first_is : not (eqb k session_id) ≡ first_other (body_of s)
    first_is = rw ((read_says s 20 r e a d).walked, ← ek)

    pub session_there : (b : List ℕ) → (eqb k session_id && eqb (a.flags % 32) 0) ≡ true → b ≡ own_of s a → b ≡ session_of (body_of s)
    session_there b t eb =
        let says = read_says s 20 r e a d in
        eb ∙ rw (says.walked, ← ek, own_flags s a says.here, t)

    pub session_other : (eqb k session_id && eqb (a.flags % 32) 0) ≡ false → [] ≡ session_of (body_of s)
    session_other t =
        let says = read_says s 20 r e a d in
        rw (says.walked, ← ek, own_flags s a says.here, t)

-- the first missing kind from a number on
pub missing_all : (dialect : Dialect) (seen : Seen) → missing dialect seen ≡ missing_from dialect seen (drop 1 (unknown ∷ known)) 1
unfolding missing
missing_all dialect seen = refl

module _ (s places : List ℕ) (dialect : Dialect) (k whole : ℕ) (left : whole ≡ missing_from dialect (seen_of s places) (drop k (unknown ∷ known)) k) where
  module _ (low : k < kinds) (room : k < length places) (x : Bool)
      (e : x ≡ (is_needed (use_in dialect (row_of k)) && not (present (part_at s (get_or places k 0))))) where
    pub missing_found : 0 < k → x ≡ true → Missed (Some k) whole
    unfolding missing_from known row_of
    missing_found h t =
        let is : k ≡ whole = rw (left, drop-cons (unknown ∷ known) k unknown low, seen_at s places k room, ← e, t) in
        (omega arith, is)

    pub missing_more : x ≡ false → whole ≡ missing_from dialect (seen_of s places) (drop (k + 1) (unknown ∷ known)) (k + 1)
    unfolding missing_from known row_of
    missing_more f = left ∙ rw (add-one k, drop-cons (unknown ∷ known) k unknown low, seen_at s places k room, ← e, f)

  pub missing_none : kinds ≤ k → whole ≡ 0
  unfolding missing_from known
  missing_none h = rw (left, drop_of_length-le (unknown ∷ known) {i = k} h)

-- "After the walk, the first missing AVP in the order below: B5005"
module _ (s places : List ℕ) (dialect : Dialect) where
  pub complete_whole : missing dialect (seen_of s places) ≡ 0 → judged_of s places (Ok tt) ≡ complete dialect (fine (seen_of s places))
  unfolding judged_of complete
  complete_whole z = rw z

  pub complete_lacking : (k : ℕ) (v : Verdict) → Missed (Some k) (missing dialect (seen_of s places)) → v ≡ lack_of k
      → judged_of s places (Err v) ≡ complete dialect (fine (seen_of s places))
  unfolding judged_of complete
  complete_lacking k v m d =
      let h : missing dialect (seen_of s places) ≡ 0 → ⊥ = λ z. omega (arith, m.0) in
      rw (d, m.1, ne_eqb _ _ h)

-- header, first AVP, walk, what is missing
module _ (req places : List ℕ) (dialect : Dialect) (has : Bool) where
  pub request_header : (v : Verdict) → Headed (Err v) (header_fault_by has dialect req)
      → judged_of req places (Err v) ≡ read_by (header_fault_by has dialect req) dialect req
  unfolding judged_of
  request_header v h =
      let z : header_fault_by has dialect req ≡ 0 → ⊥ = λ z. omega (arith, h.0) in
      rw (h.1, ne_eqb _ _ z)

  module _ (z : header_fault_by has dialect req ≡ 0) (x : Bool) (ex : x ≡ first_other (body_of req)) where
    pub request_first : (v : Verdict) → x ≡ true → v ≡ lack_of session_id
        → judged_of req places (Err v) ≡ read_by (header_fault_by has dialect req) dialect req
    unfolding read_walk judged_of
    request_first v t f = rw (f, z, ← ex, t)

    module _ (f : x ≡ false) where
      -- a fault says nothing of the places that were lent
      pub request_walk : (v : Verdict) → judged_of req places (Err v) ≡ judge dialect 20 (body_of req) nothing
          → judged_of req places (Err v) ≡ read_by (header_fault_by has dialect req) dialect req
      unfolding read_walk judged_of complete
      request_walk v ew = rw (z, ← ex, f, ← ew)

      pub request_walked : (r w : Walked) (u : Unit {0}) → w ≡ Ok u → judged_of req places w ≡ judge dialect 20 (body_of req) nothing
          → judged_of req places r ≡ complete dialect (fine (seen_of req places))
          → judged_of req places r ≡ read_by (header_fault_by has dialect req) dialect req
      unfolding read_walk judged_of
      request_walked r w u d ew e = e ∙ rw (z, ← ex, f, ← ew, d)

  pub request_cx : (r : Walked) → has ≡ spoken dialect → judged_of req places r ≡ read_by (header_fault_by has dialect req) dialect req
      → judged_of req places r ≡ read_in dialect req
  unfolding read_in header_fault
  request_cx r e f = f ∙ rw e

  pub request_sh : (r : Walked) → has ≡ spoken_sh dialect → judged_of req places r ≡ read_by (header_fault_by has dialect req) dialect req
      → judged_of req places r ≡ read_sh dialect req
  unfolding read_sh header_fault_sh
  request_sh r e f = f ∙ rw e

-- What a caller may use of a request that was read: the AVPs at its places, or its fault.
module _ (s places : List ℕ) (w : Walked) (j : Judged) (e : judged_of s places w ≡ j) where
  pub judged_fine : (u : Unit {0}) → w ≡ Ok u → j ≡ fine (seen_of s places)
  unfolding judged_of
  judged_fine u t = sym e ∙ rw t

  pub judged_bad : (v : Verdict) → w ≡ Err v → j ≡ bad v
  unfolding judged_of
  judged_bad v f = sym e ∙ rw f
