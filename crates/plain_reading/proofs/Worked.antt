-- Requests read by their lists, computed.
use Rattle.octets.specs.Standard.{ℕ, ◌≡◌, refl, List, [], ◌∷◌, ◌++◌}
use Rattle.octets.specs.Number.{be24_at, be32_at}
use Rattle.diameter.specs.Avp.{padded, head_of, vendor_of, value_of, sound}
use Rattle.diameter.specs.AvpAt.{avp_of}
use Rattle.diameter.specs.Walk.{walk, walk_from}
use Rattle.reading.specs.Kinds.{known, kind_from, kind_by, row_of, use_in, session_id}
use Rattle.reading.specs.Verdicts.{fault_at, lack_of}
use Rattle.reading.specs.declared.Dialect.{Dialect}
use Rattle.requests.specs.Judged.{Judged, bad}
use Rattle.requests.specs.Request.{under_cx, header_fault, missing_from, missing, complete}
use Rattle.plain_reading.specs.Broken.{kind_at, came, breaks_whole, breaks}
use Rattle.plain_reading.specs.Listed.{places_in, places_of}
use Rattle.plain_reading.specs.Passes.{first_by, earlier, letters, pick_from, picked}
use Rattle.plain_reading.specs.Plain.{last_of, taken_of, each_below, taken, after_passes, plain_body, plain_read}

-- a LIR
abbrev pub lir : Dialect
lir = record { command = 302; terms = under_cx 3588 0 }

abbrev pub header : List ℕ
header = 1 ∷ 0 ∷ 0 ∷ 20 ∷ 192 ∷ 0 ∷ 1 ∷ 46 ∷ 1 ∷ 0 ∷ 0 ∷ 0 ∷ 0 ∷ 0 ∷ 0 ∷ 1 ∷ 0 ∷ 0 ∷ 0 ∷ 2 ∷ []

-- Session-Id; one with a reserved flag besides; Auth-Session-State of 2; an unknown kind with M; an AVP cut off
abbrev pub session : List ℕ
session = 0 ∷ 0 ∷ 1 ∷ 7 ∷ 64 ∷ 0 ∷ 0 ∷ 8 ∷ []

abbrev pub flagged : List ℕ
flagged = 0 ∷ 0 ∷ 1 ∷ 7 ∷ 65 ∷ 0 ∷ 0 ∷ 8 ∷ []

abbrev pub state : List ℕ
state = 0 ∷ 0 ∷ 1 ∷ 21 ∷ 64 ∷ 0 ∷ 0 ∷ 12 ∷ 0 ∷ 0 ∷ 0 ∷ 2 ∷ []

abbrev pub strange : List ℕ
strange = 0 ∷ 0 ∷ 2 ∷ 89 ∷ 64 ∷ 0 ∷ 0 ∷ 8 ∷ []

abbrev pub short : List ℕ
short = 0 ∷ 0 ∷ 1 ∷ 7 ∷ []

abbrev pub read : List ℕ → Judged
read req = plain_read lir req (places_of req)

pub record Worked : Type 0 where
  -- "With no AVPs, Session-Id is missing."
  pub none : read header ≡ bad (lack_of session_id)
  -- the second AVP breaks (c) and (f), the third (a): by position, then by letter
  pub letters_in_order : read (header ++ session ++ flagged ++ short) ≡ bad (fault_at 3009 28)
  -- (h) of the second before (d) of the third and (a) of the fourth
  pub places_in_order : read (header ++ session ++ state ++ strange ++ short) ≡ bad (fault_at 5004 28)
  -- (b) of the first, before its own (d)
  pub first_before : read (header ++ strange ++ session) ≡ bad (lack_of session_id)
  -- (a) of the first, before (b)
  pub cut_before : read (header ++ short) ≡ bad (fault_at 5014 20)
  -- nothing is at fault, and 260 is the first that is missing
  pub missing_then : read (header ++ session) ≡ bad (lack_of 2)

pub worked : Worked
unfolding plain_read plain_body after_passes places_of places_in picked pick_from letters earlier first_by breaks breaks_whole came kind_at last_of taken_of taken
    each_below header_fault missing missing_from complete walk walk_from sound avp_of head_of vendor_of value_of be24_at be32_at padded kind_by kind_from known row_of use_in
worked = record {
  none = refl;
  letters_in_order = refl;
  places_in_order = refl;
  first_before = refl;
  cut_before = refl;
  missing_then = refl;
}
