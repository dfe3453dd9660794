-- A family: lines of one private identity that share a set, computed. The definitions of 02 [6] are tried here, the theorems about sets have their instances,
-- and three wrong servers fail the promise.
use Rattle.std.specs.Prelude.{Ok, Err}
use Rattle.octets.specs.Standard.{ℕ, ◌≡◌, refl, ap, ◌∙◌, true, false, List, [], ◌∷◌, ◌++◌, arith, get_or, take, set}
use Rattle.octets.specs.Run.{over}
use Rattle.record.specs.Fields.{edition_of}
use Rattle.record.specs.Sets.{same_set, agreeing}
use Rattle.blocks.specs.Blocks.{block_of}
use Rattle.table.specs.Check.{check_table}
use Rattle.vectors.specs.VectorFile.{check_vectors}
use Rattle.pen.specs.Bytes.{avp_bytes, vendor_bytes, number_bytes, vendor_number}
use Rattle.requests.specs.Request.{under_cx}
use Rattle.calling.specs.Lent.{Lent, lent}
use Rattle.calling.specs.Call.{Answered}
use Rattle.calling.specs.Serve.{Served, serve_table_by, serve_table, serve}
use Rattle.calling.proofs.Areas.{serve_sound}
use Rattle.ndushavire.specs.Promise.{DecidePromise}
use Rattle.older_rules.specs.WithoutSets.{before_sets}
use Rattle.older_rules.proofs.Sets.{without_sets, first_edition, members_agree}
use Rattle.older_rules.specs.WithBranch.{with_branch}
use Rattle.older_rules.proofs.Unreachable.{same_for_every_input}
use Rattle.worked_examples.proofs.Computed.{known, come, roomy, no_vectors, registered_sound}
use Rattle.worked_examples.proofs.Sample.{checked, header, subscriber, request, reply, answer, common, assignment, authentication, vector, room, one}
use Rattle.worked_examples.proofs.Sample.{s, z, opened}

-- a header of the second edition; a line of the private identity `p`, or of another, with a set number
unfoldable pub head : ℕ → List ℕ
head count = checked (take 508 (set (header count 0) 1 2))

unfoldable pub line : ℕ → ℕ → ℕ → ℕ → ℕ → ℕ → List ℕ → List ℕ
line k public private number state bits server = checked (take 508 (set (set (subscriber k public private state bits server) 1 2) 407 number))

-- two lines `a` and `b`, of set 1 and of some other number, state, bits and server name
unfoldable pub pair : ℕ → ℕ → ℕ → ℕ → List ℕ → List ℕ
pair private number state bits server = head 2 ++ (line 1 0x61 0x70 1 1 0 s ++ line 2 0x62 private number state bits server)

-- a family: `a` and `b` of set 1, and `c` of no set, all of `p`; `a` with bits of its own
unfoldable pub family : ℕ → ℕ → List ℕ → List ℕ
family bits state server = head 3 ++ (line 1 0x61 0x70 1 state bits server ++ (line 2 0x62 0x70 1 state 0 server ++ line 3 0x63 0x70 0 0 0 []))

-- "all records of a set agree in state, pending and server name, the later block being blamed"
agreed : check_table (pair 0x70 1 1 0 s) 0 ≡ Ok 2
unfolding opened head line pair
agreed = refl

-- barred and unregistered services may differ
differ : check_table (pair 0x70 1 1 6 s) 0 ≡ Ok 2
unfolding opened head line pair
differ = refl

state_apart : check_table (pair 0x70 1 2 0 s) 0 ≡ Err 2
unfolding opened head line pair
state_apart = refl

pending_apart : check_table (pair 0x70 1 1 1 s) 0 ≡ Err 2
unfolding opened head line pair
pending_apart = refl

server_apart : check_table (pair 0x70 1 1 0 z) 0 ≡ Err 2
unfolding opened head line pair
server_apart = refl

-- another number, and the same number in another subscription, are other sets
other_number : check_table (pair 0x70 2 2 0 s) 0 ≡ Ok 2
unfolding opened head line pair
other_number = refl

other_private : check_table (pair 0x71 1 2 0 s) 0 ≡ Ok 2
unfolding opened head line pair
other_private = refl

-- "Every effect of a SAR .. reaches the whole set": registering `a` registers `b`, and not `c`
pub family_sound : check_table (family 0 0 []) 0 ≡ Ok 3
unfolding opened head line family
family_sound = refl

abbrev pub registration : Lent
registration = lent (assignment 1 s) (family 0 0 []) [] [] room (under_cx 3588 0)

pub registered : serve_table registration
    ≡ record {
      call = Answered (record { length = 128; place = 0 });
      table = family 0 1 s;
      vectors = [];
      buffer = over (answer (number_bytes 268 2001) (avp_bytes 1 (0x70 ∷ []))) room;
    }
unfolding opened head line family
registered = come registration roomy family_sound no_vectors refl

-- .. and of "an authentication request": the name is stored and pending is set in both
unfoldable challenged : List ℕ
challenged = head 3 ++ (line 1 0x61 0x70 1 0 1 s ++ (line 2 0x62 0x70 1 0 1 s ++ line 3 0x63 0x70 0 0 0 []))

challenge : Lent
challenge = lent (authentication 1 s) (family 0 0 []) [] (vector 0 0x70 0x20) room (under_cx 3588 0)

card_sound : check_vectors (vector 0 0x70 0x20) ≡ Ok 1
unfolding opened
card_sound = refl

both_challenged : (serve_table challenge).table ≡ challenged
unfolding opened head line family challenged challenge
both_challenged =
    ap (λ (y : Served). y.table) (come challenge {y = known false (Ok 3) (Ok 1) challenge} roomy family_sound card_sound refl)

-- "one with a non-barred identity in its implicit set may go on": a UAR of type 1 for `a`, which is barred, and `b` is not; then both are
unfoldable pub asking : List ℕ
asking = request 300 (common ++ (avp_bytes 1 (0x70 ∷ []) ++ (vendor_bytes 601 (0x61 ∷ []) ++ (vendor_bytes 600 (0x76 ∷ []) ++ vendor_number 623 1))))

abbrev pub admitted : Lent
admitted = lent asking (family 2 1 s) [] [] room (under_cx 3588 0)

pub barred_sound : check_table (family 2 1 s) 0 ≡ Ok 3
unfolding opened head line family
barred_sound = refl

going_on_lem : serve_table admitted
    ≡ record {
      call = Answered (record { length = 132; place = 0 });
      table = family 2 1 s;
      vectors = [];
      buffer = over (reply 300 (number_bytes 268 2001) (vendor_bytes 602 s)) room;
    }
unfolding opened head line family asking
going_on_lem = come admitted roomy barred_sound no_vectors refl

unfoldable pub shut : List ℕ
shut = head 3 ++ (line 1 0x61 0x70 1 1 2 s ++ (line 2 0x62 0x70 1 1 2 s ++ line 3 0x63 0x70 0 0 0 []))

pub shut_sound : check_table shut 0 ≡ Ok 3
unfolding opened head line shut
shut_sound = refl

turned_away_lem : serve_table (lent asking shut [] [] room (under_cx 3588 0))
    ≡ record {
      call = Answered (record { length = 116; place = 0 });
      table = shut;
      vectors = [];
      buffer = over (reply 300 (number_bytes 268 5003) []) room;
    }
unfolding opened head line shut asking
turned_away_lem = come (lent asking shut [] [] room (under_cx 3588 0)) roomy shut_sound no_vectors refl

-- The theorems have instances: the registered family's members agree; a first edition's table is served as it was before sets, and before 02 [7].
one_set : same_set (block_of (serve_table registration).table 1) (block_of (serve_table registration).table 2) ≡ true
unfolding opened head line family
one_set = ap (λ (y : Served). same_set (block_of y.table 1) (block_of y.table 2)) registered

met_agreement : agreeing (block_of (serve_table registration).table 1) (block_of (serve_table registration).table 2) ≡ true
met_agreement = members_agree registration 3 family_sound 1 2 (omega arith) (omega arith) (omega arith) one_set

alone : Lent
alone = lent (assignment 5 s) (one 0 1 s) [] [] room (under_cx 3588 0)

alone_first : edition_of (block_of (one 0 1 s) 0) ≡ 1
unfolding opened
alone_first = refl

met_without_sets : serve_table_by before_sets alone ≡ serve_table alone
unfolding alone
met_without_sets = without_sets alone (first_edition (one 0 1 s) 0 1 registered_sound alone_first)

met_every_input : serve_table_by with_branch admitted ≡ serve_table admitted
met_every_input = same_for_every_input admitted

-- WRONG SERVERS. Each is any function of what is lent; at an input above its outcome does not meet the promise.
record CallLeft : Type 0 where
  word : ℕ
  table : List ℕ
  vectors : List ℕ
  buffer : List ℕ

registered_table : (serve registration).table ≡ family 0 1 s
registered_table = ap (λ (y : Served). y.table) (serve_sound registration 3 family_sound ∙ registered)

admitted_buffer : (serve admitted).buffer ≡ over (reply 300 (number_bytes 268 2001) (vendor_bytes 602 s)) room
admitted_buffer = ap (λ (y : Served). y.buffer) (serve_sound admitted 3 barred_sound ∙ going_on_lem)

abbrev Meets : (Lent → CallLeft) → Lent → Type 0
Meets f x = DecidePromise x (f x).word (f x).table (f x).vectors (f x).buffer

-- 1. "an effect on the named member only": whatever it does to the first record, the second stays as it came
module _ (f : Lent → CallLeft) (only : get_or (f registration).table 1032 0 ≡ get_or registration.table 1032 0) where
  named_only_fails : Meets f registration → ⊥
  unfolding opened head line family
  named_only_fails p =
      let after : get_or (f registration).table 1032 0 ≡ 1 = ap (λ (t : List ℕ). get_or t 1032 0) (p.table_is ∙ registered_table) in
      omega (arith, after, only)

-- 2. "an effect" on a line of the subscription that is in no set
module _ (f : Lent → CallLeft) (more : get_or (f registration).table 1544 0 ≡ 1) where
  all_lines_fails : Meets f registration → ⊥
  unfolding opened head line family
  all_lines_fails p =
      let after : get_or (f registration).table 1544 0 ≡ 0 = ap (λ (t : List ℕ). get_or t 1544 0) (p.table_is ∙ registered_table) in
      omega (arith, after, more)

-- 3. "barred though a member is free": the last byte of 5003 is 139, that of 2001 is 209
module _ (f : Lent → CallLeft) (rejects : get_or (f admitted).buffer 75 0 ≡ 139) where
  rejecting_fails : Meets f admitted → ⊥
  unfolding opened
  rejecting_fails p =
      let right : get_or (f admitted).buffer 75 0 ≡ 209 = ap (λ (o : List ℕ). get_or o 75 0) (p.buffer_is ∙ admitted_buffer) in
      omega (arith, right, rejects)
