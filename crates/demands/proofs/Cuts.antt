-- Every request whose length is right and whose first AVP passes (a) is a header, a row of whole AVPs and what is behind them: so demand 3 speaks of any such
-- request.
use Rattle.octets.specs.Standard.{ℕ, zero, suc, ◌+◌, ◌-◌, ◌/◌, ◌%◌, ◌<◌, ◌≤◌, List, [], ◌∷◌, ◌++◌, append_assoc, Bool, true, false, not, ◌||◌}
use Rattle.octets.specs.Standard.{true≢false, ◌≡◌, refl, sym, ap, ◌∙◌, arith, length, get_or, take, drop, length-drop, take-append-drop, set-get_or}
use Rattle.octets.specs.Standard.{get_or-take, take-add, length-take-le, eqb, eqb-true}
use Rattle.octets.specs.Number.{be24_at, put_be24}
use Rattle.octets.proofs.Numbers.{be24_take}
use Rattle.diameter.specs.Avp.{padded, avp_head, avp_len, sound}
use Rattle.diameter.specs.Put.{Piece, bytes_of, Whole, All}
use Rattle.diameter.proofs.Walks.{sound_says, sound_of}
use Rattle.diameter.proofs.Reading.{flags_take}
use Rattle.refusals.specs.Early.{wrong_length}
use Rattle.demands.specs.Insertion.{message, Cut}

-- bytes cut into a row of whole AVPs and what is behind it
pub record Row (t : List ℕ) : Type 0 where
  pub row : List Piece
  pub tail : List ℕ
  pub whole : All Whole row
  pub fours : length tail % 4 ≡ 0
  pub stops : sound tail ≡ false
  pub bytes : t ≡ bytes_of row ++ tail

-- the AVP at the front, with its padding
module _ (t : List ℕ) (s : sound t ≡ true) (fours : length t % 4 ≡ 0) where
  abbrev n : ℕ
  n = avp_len t

  abbrev p : ℕ
  p = padded n

  within : avp_len t ≤ length t
  within = (sound_says t s).within

  padded_within : (p ≤ length t) × (p % 4 ≡ 0) × (n ≤ p)
  unfolding padded
  padded_within = (omega (arith, within), omega arith, omega arith)

  abbrev front : Piece
  front = record { avp = take n t; pad = take (p - n) (drop n t) }

  front_length : length (take n t) ≡ n
  front_length = length-take-le n t within

  front_len : avp_len (take n t) ≡ n
  front_len = let h = sound_says t s in be24_take t n 5 (omega (arith, h.eight, h.least))

  front_head : avp_head (take n t) ≡ avp_head t
  front_head = rw (flags_take t n (sound_says t s).least)

  front_sound : sound (take n t) ≡ true
  front_sound =
      let h = sound_says t s in
      sound_of (take n t) (record {
        eight = rw front_head h.eight;
        least = rw (front_head, front_len) h.least;
        within = rw (front_len, front_length)
            (omega arith);
      })

  front_taken : take n t ++ take (p - n) (drop n t) ≡ take p t
  front_taken = let e : n + (p - n) ≡ p = omega (arith, padded_within.2) in sym (take-add n (p - n) t) ∙ rw e

  front_whole : Whole front
  front_whole =
      record {
        right = front_sound;
        exact = front_len ∙ sym front_length;
        filled = rw (front_taken, front_length) (length-take-le p t padded_within.0);
      }

  front_joined : (row : List Piece) (tail : List ℕ) → drop p t ≡ bytes_of row ++ tail → t ≡ bytes_of (front ∷ row) ++ tail
  unfolding bytes_of
  front_joined row tail e = sym (take-append-drop p t) ∙ rw (append_assoc (take n t ++ take (p - n) (drop n t)) (bytes_of row) tail, front_taken, e)

  rest_fours : length (drop p t) % 4 ≡ 0
  rest_fours = rw length-drop (omega (arith, padded_within.0, padded_within.1))

  rest_shorter : length (drop p t) < length t
  rest_shorter = let h = sound_says t s in rw length-drop (omega (arith, h.eight, h.least, within, padded_within.0, padded_within.2))

abbrev pub Rows : ℕ → Type 0
Rows k = (t : List ℕ) → length t ≤ k → length t % 4 ≡ 0 → Row t

row_none : (t : List ℕ) → length t % 4 ≡ 0 → sound t ≡ false → Row t
unfolding bytes_of
row_none t f s = record { row = []; tail = t; whole = tt; fours = f; stops = s; bytes = refl }

row_step : (k : ℕ) → Rows k → Rows (suc k)
row_step k next t h f = go (sound t) refl
  where
    go : (b : Bool) → sound t ≡ b → Row t
    go false s = row_none t f s
    go true s =
        let r = next (drop (padded (avp_len t)) t) (omega (arith, rest_shorter t s f)) (rest_fours t s f) in
        record {
          row = front t s f ∷ r.row;
          tail = r.tail;
          whole = (front_whole t s f, r.whole);
          fours = r.fours;
          stops = r.stops;
          bytes = front_joined t s f r.row r.tail r.bytes;
        }

row_start : Rows zero
unfolding sound
row_start [] h f = row_none [] f refl
row_start (x ∷ t) h f = absurd (omega arith)

pub row_of : (k : ℕ) → Rows k
row_of zero = row_start
row_of (suc k) = row_step k (row_of k)

-- the header's length field is right already
module _ (req : List ℕ) (bytes : (i : ℕ) → get_or req i 0 < 256) (long : 20 ≤ length req) (field : be24_at req 1 ≡ length req) where
  abbrev h : List ℕ
  h = take 20 req

  head_at : (i : ℕ) → i < 20 → get_or h i 0 ≡ get_or req i 0
  head_at i l = get_or-take 20 req i 0 l

  field_kept : put_be24 h 1 (length req) ≡ h
  unfolding put_be24 be24_at
  field_kept =
      let a : length req / 65536 % 256 ≡ get_or h 1 0 = rw (head_at 1 (omega arith)) (omega (arith, field, bytes 1, bytes 2, bytes 3)) in
      let b : length req / 256 % 256 ≡ get_or h 2 0 = rw (head_at 2 (omega arith)) (omega (arith, field, bytes 1, bytes 2, bytes 3)) in
      let c : length req % 256 ≡ get_or h 3 0 = rw (head_at 3 (omega arith)) (omega (arith, field, bytes 1, bytes 2, bytes 3)) in
      rw (a, b, c, set-get_or h 1 0, set-get_or h 2 0) (set-get_or h 3 0)

  joined_so : (body : List ℕ) → drop 20 req ≡ body → req ≡ message h body
  unfolding message
  joined_so body d =
      let l : 20 + length body ≡ length req = rw (← d, length-drop) (omega arith) in
      rw (l, field_kept, ← d) (sym (take-append-drop 20 req))

  cut_by : sound (drop 20 req) ≡ true → (tail : List ℕ) → length tail % 4 ≡ 0 → sound tail ≡ false → (row : List Piece) → All Whole row
      → drop 20 req ≡ bytes_of row ++ tail → Cut req
  unfolding bytes_of
  cut_by begins tail f s [] w d = absurd (true≢false (sym begins ∙ ap sound d ∙ s))
  cut_by begins tail f s (q ∷ qs) w d =
      record {
        head = h;
        first = q;
        rest = qs;
        tail = tail;
        twenty = length-take-le 20 req long;
        whole = w;
        fours = f;
        stops = s;
        joined = joined_so (bytes_of (q ∷ qs) ++ tail) d;
      }

right_lengths : (a b : Bool) → (not a || not b) ≡ false → (a ≡ true) × (b ≡ true)
right_lengths true true e = (refl, refl)
right_lengths true false e = absurd (true≢false e)
right_lengths false b e = absurd (true≢false e)

pub every_request : (req : List ℕ) → ((i : ℕ) → get_or req i 0 < 256) → wrong_length req ≡ false → sound (drop 20 req) ≡ true → Cut req
unfolding wrong_length
every_request req bytes right begins =
    let e = right_lengths (eqb (be24_at req 1) (length req)) (eqb (length req % 4) 0) right in
    let f : length req % 4 ≡ 0 = eqb-true _ _ e.1 in
    let b = sound_says (drop 20 req) begins in
    let l : 28 ≤ length req = omega (arith, b.eight, b.least, b.within, length-drop 20 req) in
    let r = row_of (length (drop 20 req)) (drop 20 req) (omega arith) (rw length-drop (omega arith)) in
    cut_by req bytes (omega arith) (eqb-true _ _ e.0) begins r.tail r.fours r.stops r.row r.whole r.bytes
