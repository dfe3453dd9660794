-- A group is a table of members: "in any order, pass (a) and (c), and no others are there, the last one's padding whole or cut".
use Rattle.std.specs.Prelude.{ℕ, suc, List, [], ◌∷◌, Bool, true, false, cond, not, ◌&&◌, length, get_or, leb, ltb, eqb}
use Rattle.octets.specs.All.{all_below}
use Rattle.diameter.specs.Avp.{avp_code, avp_flags, vendor_of, reserved}
use Rattle.diameter.specs.Walk.{Walk, ended, faulty, avp}
use Rattle.reading.specs.declared.Content.{Content}
use Rattle.reading.specs.declared.Content.TheVariants.{Free, Number}
use Rattle.reading.specs.declared.Dialect.{Dialect}
use Rattle.reading.specs.declared.Member.{Member}
use Rattle.reading.specs.declared.group.Group.{Group}
use Rattle.reading.specs.declared.group.Group.TheVariants.{Application, AuthDataItem, SupportedFeatures, UserIdentity}
use Rattle.reading.specs.Contents.{plain_fault}

-- a member: its code and vendor (0: without V), its content, and whether it may come more than once
abbrev pub member : ℕ → ℕ → Content → Bool → Member
member code vendor content many = record { code = code; vendor = vendor; content = content; many = many }

abbrev pub nobody : Member
nobody = member 0 0 Free false

-- "260 holds, in any order, one or more Vendor-Id 266, each 10415, and one Auth-Application-Id 258 of 16777216, all 4-byte AVPs passing (a) and (c), without V,
-- and no other": of the application that is spoken
abbrev pub vendor_id : Member
vendor_id = member 266 0 (Number 10415 10415) true

unfoldable pub application_members : ℕ → List Member
application_members application = vendor_id ∷ member 258 0 (Number application application) false ∷ []

-- "In a request, 612 holds exactly one 608 and nothing else": a SIP-Authentication-Scheme of any bytes; "the one Public-Identity that 700 must hold"
abbrev pub sole_member : ℕ → List Member
sole_member code = member code 10415 Free false ∷ []

unfoldable pub item_members : List Member
item_members = sole_member 608

unfoldable pub identity_members : List Member
identity_members = sole_member 601

-- "Supported-Features (628: Vendor-Id, Feature-List-ID 629, Feature-List 630)"; "A 628 holds these three 4-byte members once each"
abbrev pub any_number : Content
any_number = Number 0 4294967295

unfoldable pub feature_members : List Member
feature_members = member 266 0 any_number false ∷ member 629 10415 any_number false ∷ member 630 10415 any_number false ∷ []

unfoldable pub members_of : Dialect → Group → List Member
members_of d Application = application_members d.terms.application
members_of d AuthDataItem = item_members
members_of d SupportedFeatures = feature_members
members_of d UserIdentity = identity_members

-- an AVP of such a code and vendor; such a member: it passes (c) and holds what it must
unfoldable pub is_of : ℕ → ℕ → List ℕ → Bool
is_of code vendor a = eqb (avp_code a) code && cond (leb 128 (avp_flags a)) (ltb 0 vendor && eqb (vendor_of a) vendor) (eqb vendor 0)

unfoldable pub fits : Member → List ℕ → Bool
fits m a = eqb (reserved (avp_flags a)) 0 && is_of m.code m.vendor a && eqb (plain_fault m.content a) 0

-- "no others are there": an AVP that is none of the members; a walk on which all pass (a), and each is one of them
unfoldable pub unlike : List Member → List ℕ → ℕ → Bool
unlike ms a k = not (fits (get_or ms k nobody) a)

abbrev pub is_other : List Member → List ℕ → Bool
is_other ms a = all_below (unlike ms a) (length ms)

unfoldable pub only_of : List Member → Walk → Bool
only_of ms ended = true
only_of ms (faulty t) = false
only_of ms (avp a w) = not (is_other ms a) && only_of ms w

-- how many are a member: one, or one or more
unfoldable pub members_fitting : Member → Walk → ℕ
members_fitting m ended = 0
members_fitting m (faulty t) = 0
members_fitting m (avp a w) = cond (fits m a) (suc (members_fitting m w)) (members_fitting m w)

unfoldable pub enough : Member → Walk → Bool
enough m w = cond m.many (leb 1 (members_fitting m w)) (eqb (members_fitting m w) 1)

unfoldable pub enough_at : List Member → Walk → ℕ → Bool
enough_at ms w k = enough (get_or ms k nobody) w

unfoldable pub gathers : List Member → Walk → Bool
gathers ms w = all_below (enough_at ms w) (length ms) && only_of ms w

-- "RFC 6733, where 260 holds exactly one Vendor-Id; RFC 3588 allows several": the two editions, by their numbers, and a group that has more of a member than
-- the peer's allows
abbrev pub rfc3588 : ℕ
rfc3588 = 3588

abbrev pub rfc6733 : ℕ
rfc6733 = 6733

unfoldable pub too_often : Dialect → Group → Walk → Bool
too_often d Application w = eqb d.terms.peer rfc6733 && ltb 1 (members_fitting vendor_id w)
too_often d AuthDataItem w = false
too_often d SupportedFeatures w = false
too_often d UserIdentity w = false

-- "B5009 with the whole 260 as Failed-AVP under RFC 6733 only, when its members are otherwise as document 01 wants": they are judged before they are counted
unfoldable pub group_fault : Dialect → Group → Walk → ℕ
group_fault d g w = cond (gathers (members_of d g) w) (cond (too_often d g w) 5009 0) 5004
