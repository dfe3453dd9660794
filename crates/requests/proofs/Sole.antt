-- A group of one AVP: the 612 of a MAR that was read holds a 608 and nothing else, and the scheme is its data; the 700 of a UDR a 601, and the identity is its
-- data.
use Rattle.octets.specs.Standard.{ℕ, ◌<◌, ◌≡◌, refl, sym, ◌∙◌, List, [], ◌∷◌, Option, none, some, Bool, true, false, cond, true≢false, arith, length}
use Rattle.octets.specs.Standard.{get_or, take}
use Rattle.diameter.specs.Avp.{avp_len, data_of, sound}
use Rattle.diameter.specs.Walk.{Walk, ended, avp, on_sound, walk_from, walk}
use Rattle.diameter.specs.Reader.{between, Spans}
use Rattle.diameter.specs.AvpAt.{present, avp_of, data_at}
use Rattle.diameter.specs.declared.Span.{Span}
use Rattle.diameter.proofs.Parts.{data_there}
use Rattle.reading.specs.declared.Content.TheVariants.{Free}
use Rattle.reading.specs.declared.Dialect.{Dialect}
use Rattle.reading.specs.declared.Member.{Member}
use Rattle.reading.specs.Kinds.{known, row_of, use_in, auth_data_item, user_identity}
use Rattle.reading.specs.Groups.{member, item_members, identity_members, members_of, fits, too_often, group_fault}
use Rattle.reading.specs.Places.{seen_of}
use Rattle.reading.specs.Rules.{Seen, content_fault}
use Rattle.reading.proofs.Alone.{Alone, gathers_alone}
use Rattle.requests.specs.Judged.{fine}
use Rattle.requests.specs.Request.{read_in, read_sh, given, data_if, data_seen, member_seen}
use Rattle.requests.proofs.Placed.{data_in}
use Rattle.requests.proofs.Kept.{read_kept, read_needed, read_spoken, sh_kept, sh_needed, sh_spoken, cx_use, no_fault}

-- what the code reads in the data of the AVP at a group's place
pub member_placed : (s places : List ℕ) (k : ℕ) (p q : Span) (b : List ℕ) → k < length places
    → Spans s (data_at (between s (get_or places k 0) (length s)) 0) p → Spans s (data_at (between s p.from p.end) 0) q
    → b ≡ between s q.from q.end → b ≡ member_seen (seen_of s places) k
member_placed s places k p q b room i j e =
    e ∙ j.holds ∙ rw (data_in s places k room, ← data_there s (get_or places k 0) p (between s p.from p.end) i refl)

-- the first AVP of a walk stands at the front
front_of : (t a : List ℕ) (w : Walk) → walk t ≡ avp a w → avp_of t ≡ some a
unfolding walk walk_from avp_of
front_of [] a w e = let z : ◌≡◌ {A = ℕ} 0 1 = cc in absurd (omega arith)
front_of (x ∷ t) a w e = go (sound (x ∷ t)) _ e
  where
    go : (b : Bool) (v : Walk) → on_sound b (x ∷ t) v ≡ avp a w → cond b (some (take (avp_len (x ∷ t)) (x ∷ t))) none ≡ some a
    go true v d = cc
    go false v d = let z : ◌≡◌ {A = ℕ} 0 1 = cc in absurd (omega arith)

-- what a request has in a group of one AVP of a code, of vendor 10415, whatever it holds
pub record Asks (code k : ℕ) (seen : Seen) : Type 0 where
  pub own : List ℕ
  pub walked : walk (data_seen seen k) ≡ avp own ended
  pub right : fits (member code 10415 Free false) own ≡ true
  pub says : member_seen seen k ≡ data_of own

-- every group of the kind that was taken holds that AVP alone
abbrev AllAlone : ℕ → ℕ → Seen → Type 0
AllAlone code k seen = (a : List ℕ) → get_or seen k none ≡ some a → Alone (member code 10415 Free false) (walk (data_of a))

alone_if : (m : Member) (o : Option (List ℕ)) → present o ≡ true → ((a : List ℕ) → o ≡ some a → Alone m (walk (data_of a))) → Alone m (walk (data_if o))
alone_if m none t f = absurd (true≢false (sym t))
alone_if m (some a) t f = f a refl

asks : (code k : ℕ) (seen : Seen) → given seen k ≡ true → AllAlone code k seen → Asks code k seen
asks code k seen t f =
    let alone = alone_if (member code 10415 Free false) (get_or seen k none) t f in
    record {
      own = alone.own;
      walked = alone.walked;
      right = alone.right;
      says = rw (front_of (data_seen seen k) alone.own ended alone.walked);
    }

-- "In a request, 612 holds exactly one 608 and nothing else"
module _ (dialect : Dialect) (req : List ℕ) (seen : Seen) (e : read_in dialect req ≡ fine seen) (c : dialect.command ≡ 303) where
  item_given : given seen auth_data_item ≡ true
  unfolding row_of known
  item_given = read_needed dialect req seen auth_data_item e (omega arith) (rw (cx_use dialect (row_of auth_data_item) (read_spoken dialect req seen e).0, c))

  item_alone : AllAlone 608 auth_data_item seen
  unfolding content_fault group_fault too_often row_of known members_of item_members
  item_alone a h = gathers_alone (member 608 10415 Free false) (walk (data_of a)) refl (no_fault _ 5003 (read_kept dialect req seen e auth_data_item a h))

  pub read_scheme : Asks 608 auth_data_item seen
  read_scheme = asks 608 auth_data_item seen item_given item_alone

-- "the one Public-Identity that 700 must hold"
module _ (dialect : Dialect) (req : List ℕ) (seen : Seen) (e : read_sh dialect req ≡ fine seen) where
  identity_given : given seen user_identity ≡ true
  unfolding row_of known use_in
  identity_given = sh_needed dialect req seen user_identity e (omega arith) (rw (sh_spoken dialect req seen e).0)

  identity_alone : AllAlone 601 user_identity seen
  unfolding content_fault group_fault too_often row_of known members_of identity_members
  identity_alone a h = gathers_alone (member 601 10415 Free false) (walk (data_of a)) refl (no_fault _ 5003 (sh_kept dialect req seen e user_identity a h))

  pub read_identity : Asks 601 user_identity seen
  read_identity = asks 601 user_identity seen identity_given identity_alone
