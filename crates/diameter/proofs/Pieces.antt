-- Demand 3 over bytes: a row of whole padded AVPs in front of any bytes is that row in front of their walk.
use Rattle.octets.specs.Standard.{ℕ, ◌%◌, ◌≤◌, ◌<◌, ◌≡◌, refl, ap, ◌∙◌, List, [], ◌∷◌, ◌++◌, append_assoc, true, arith, length, drop, get_or}
use Rattle.octets.specs.Standard.{length-append, get_or-append, take_at, drop_at}
use Rattle.octets.specs.Number.{be24_at}
use Rattle.diameter.specs.Avp.{padded, avp_head, avp_len, sound}
use Rattle.diameter.specs.Walk.{Walk, avp, walk}
use Rattle.diameter.specs.Put.{glue, Piece, bytes_of, avps_of, Whole, All}
use Rattle.diameter.proofs.Walks.{sound_says, sound_of, walk_sound}

-- a header in front is read alike, whatever follows
module _ (a y : List ℕ) (big : 8 ≤ length a) where
  same_at : (i : ℕ) → i < 8 → get_or (a ++ y) i 0 ≡ get_or a i 0
  same_at i h = get_or-append a y 0 i (omega arith)

  pub same_len : avp_len (a ++ y) ≡ avp_len a
  unfolding be24_at
  same_len = rw (same_at 5 (omega arith), same_at 6 (omega arith), same_at 7 (omega arith))

  pub same_head : avp_head (a ++ y) ≡ avp_head a
  same_head = rw (same_at 4 (omega arith))

pub sound_big : (a : List ℕ) → sound a ≡ true → 8 ≤ length a
sound_big a e = let h = sound_says a e in omega (arith, h.eight, h.least, h.within)

pub sound_front : (a y : List ℕ) → sound a ≡ true → sound (a ++ y) ≡ true
sound_front a y e =
    let h = sound_says a e in
    let big = sound_big a e in
    sound_of (a ++ y) (record {
      eight = rw (same_head a y big) h.eight;
      least = rw (same_head a y big, same_len a y big) h.least;
      within = rw (same_len a y big, length-append a y) (omega (arith, h.within));
    })

pub walk_piece : (q : Piece) (t : List ℕ) → Whole q → walk (q.avp ++ q.pad ++ t) ≡ avp q.avp (walk t)
walk_piece q t h =
    let a = q.avp in
    let p = q.pad in
    let e : avp_len (a ++ (p ++ t)) ≡ length a = same_len a (p ++ t) (sound_big a h.right) ∙ h.exact in
    let d : drop (padded (length a)) (a ++ (p ++ t)) ≡ t = rw (← append_assoc a p t) (drop_at (a ++ p) t (padded (length a)) h.filled) in
    rw (append_assoc a p t)
    (walk_sound (a ++ (p ++ t)) (sound_front a (p ++ t) h.right)
    ∙ rw (e, take_at a (p ++ t) (length a) refl, d))

pub walk_pieces : (qs : List Piece) (t : List ℕ) → All Whole qs → walk (bytes_of qs ++ t) ≡ glue (avps_of qs) (walk t)
unfolding bytes_of avps_of glue
walk_pieces [] t h = refl
walk_pieces (q ∷ qs) t h =
    rw (append_assoc (q.avp ++ q.pad) (bytes_of qs) t)
    (walk_piece q (bytes_of qs ++ t) h.0 ∙ ap (avp q.avp) (walk_pieces qs t h.1))

-- a row's length is a multiple of 4, so that what is put in leaves the message's length one
padded_even : (n : ℕ) → padded n % 4 ≡ 0
unfolding padded
padded_even n = omega arith

pub row_even : (qs : List Piece) → All Whole qs → length (bytes_of qs) % 4 ≡ 0
unfolding bytes_of
row_even [] h = refl
row_even (q ∷ qs) h =
    rw (length-append (q.avp ++ q.pad) (bytes_of qs), h.0.filled)
    (omega (arith, padded_even (length q.avp), row_even qs h.1))

-- rows joined
pub glue_glue : (avs us : List (List ℕ)) (w : Walk) → glue (avs ++ us) w ≡ glue avs (glue us w)
unfolding glue
glue_glue [] us w = refl
glue_glue (a ∷ avs) us w = ap (avp a) (glue_glue avs us w)

pub avps_joined : (qs ps : List Piece) → avps_of (qs ++ ps) ≡ avps_of qs ++ avps_of ps
unfolding avps_of
avps_joined [] ps = refl
avps_joined (q ∷ qs) ps = ap (q.avp ∷◌) (avps_joined qs ps)
