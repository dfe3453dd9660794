-- 02 [10]: a call by a peer of one or the other edition of the base standard, and the 260 by which alone the two can be told.
use Rattle.std.specs.Prelude.{ℕ, suc, ◌≤◌, true, false, cond, ◌≡◌, ◌≢◌, List, get_or, drop}
use Rattle.std.proofs.Math.Option.{none}
use Rattle.diameter.specs.Avp.{avp_flags, data_of, reserved, sound}
use Rattle.diameter.specs.AvpAt.{present, avp_at}
use Rattle.diameter.specs.Walk.{Walk, ended, faulty, avp, walk}
use Rattle.reading.specs.Groups.{vendor_id, application_members, is_of, members_fitting, gathers, rfc3588, rfc6733}
use Rattle.reading.specs.Kinds.{kind_of, application}
use Rattle.reading.specs.Rules.{Seen}
use Rattle.reading.specs.declared.Dialect.{Dialect}
use Rattle.calling.specs.Lent.{Lent, dialect_in}
use Rattle.calling.specs.Serve.{serve}
use Rattle.demands.specs.Place.{ReadingReaches, blaming}

-- the same call, by a peer that follows an edition
abbrev pub by_peer : Lent → ℕ → Lent
by_peer a peer =
    record {
      request = a.request;
      table = a.table;
      profile = a.profile;
      vectors = a.vectors;
      buffer = a.buffer;
      terms = record { application = a.terms.application; peer = peer; features = a.terms.features };
    }

-- how many Vendor-Ids are in a row of AVPs: of code 266 and without V, whatever they hold
unfoldable pub vendor_ids : Walk → ℕ
vendor_ids ended = 0
vendor_ids (faulty t) = 0
vendor_ids (avp a w) = cond (is_of 266 0 a) (suc (vendor_ids w)) (vendor_ids w)

-- "A message with just one": none of its 260s has two. This is by the bytes alone, be there faults or not.
abbrev pub OneVendor : Walk → Type 0
OneVendor ended = Unit
OneVendor (faulty t) = Unit
OneVendor (avp a w) = (kind_of a ≡ application → vendor_ids (walk (data_of a)) ≤ 1) × OneVendor w

-- a 260 whose "members are otherwise as document 01 wants", for an application, and which has two Vendor-Ids or more
pub record Second (app : ℕ) (a : List ℕ) : Type 0 where
  pub kind : kind_of a ≡ application
  pub right : gathers (application_members app) (walk (data_of a)) ≡ true
  pub two : 2 ≤ members_fitting vendor_id (walk (data_of a))

-- Reading, in a dialect, comes to such a 260 with no fault before it; there is no reserved flag in it, and no 260 before it.
pub record ComesTo (d : Dialect) (req : List ℕ) (place : ℕ) : Type 0 where
  pub seen : Seen
  pub reached : ReadingReaches d req place seen
  pub whole : sound (drop place req) ≡ true
  pub flags : reserved (avp_flags (avp_at req place)) ≡ 0
  pub before : present (get_or seen (kind_of (avp_at req place)) none) ≡ false
  pub second : Second d.terms.application (avp_at req place)

-- "B5009 with the whole 260 as Failed-AVP", and its place; nothing is altered. In the older edition the call comes to something else.
pub record ToldApart (a : Lent) : Type 0 where
  pub place : ℕ
  pub newer : ComesTo (dialect_in (by_peer a rfc6733)) a.request place
  pub older : ComesTo (dialect_in (by_peer a rfc3588)) a.request place
  pub comes : serve (by_peer a rfc6733) ≡ blaming (by_peer a rfc6733) 5009 (avp_at a.request place) place
  pub differ : serve (by_peer a rfc6733) ≢ serve (by_peer a rfc3588)
