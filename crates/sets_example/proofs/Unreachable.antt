-- The theorems of 02 [7] (demands/proofs/Unreachable) have instances: their hypotheses are met by a family, computed, in an area with two bytes behind it.
use Rattle.std.specs.Prelude.{Ok}
use Rattle.octets.specs.Standard.{ℕ, ◌<◌, ◌≡◌, refl, ap, subst, ◌⊎◌, inl, inr, ◌≢◌, List, [], ◌∷◌, ◌++◌, arith, get_or, take, lit≤, lit<}
use Rattle.record.specs.Fields.{server_size}
use Rattle.blocks.specs.Blocks.{block_of}
use Rattle.table.specs.Check.{check_table}
use Rattle.table.specs.Named.{private_at}
use Rattle.vectors.specs.VectorBlock.{vector_of}
use Rattle.diameter.specs.Message.{command_of, body_of}
use Rattle.reading.specs.Rules.{Seen}
use Rattle.reading.specs.declared.Outcome.TheVariants.{Base, Experimental}
use Rattle.requests.specs.Request.{dialect_of, under_cx, read_in, identities}
use Rattle.calling.specs.Lent.{Lent, lent, table_only}
use Rattle.calling.specs.Serve.{decision_by, result_of, serve_by, serve}
use Rattle.older_rules.specs.WithBranch.{with_branch}
use Rattle.demands.specs.Call.{Decides}
use Rattle.demands.specs.Sets.{Stands}
use Rattle.demands.specs.Unable.{AllUsed, StoresOther, NoneToSend}
use Rattle.pen.specs.Bytes.{avp_bytes, vendor_bytes, vendor_number}
use Rattle.worked_examples.proofs.Sample.{room, request, common, assignment, authentication_of, authentication, vector, s, z, opened}
use Rattle.sets_example.proofs.Behind.{within, in_front, sound_front, result_front, seen_in}
use Rattle.sets_example.proofs.Family.{head, line, family, asking, admitted, barred_sound}
use Rattle.sets_example.proofs.Instances.{strangers, strangers_sound, a_another, b_user, a_apart}
use Rattle.demands.proofs.Unreachable as unreachable

met_served : 0 < server_size (block_of (family 2 1 s) 1)
unfolding opened head line family
met_served = unreachable.registered_served (family 2 1 s) 0 3 1 barred_sound (lit≤ tt) (lit≤ tt) (lit< tt)

-- a UAR and a LIR for `a`, which is registered
is_uar : command_of asking ≡ 300
unfolding opened asking
is_uar = refl

unfoldable locating : List ℕ
locating = request 302 (common ++ vendor_bytes 601 (0x61 ∷ []))

abbrev located : Lent
located = lent locating (family 2 1 s) [] [] room (under_cx 3588 0)

is_lir : command_of locating ≡ 302
unfolding opened locating
is_lir = refl

met_never : (decision_by with_branch (table_only (within admitted)) 3).given.verdict.result ≢ Base 5012
met_never = unreachable.never_given (within admitted) 3 (sound_front admitted 3 barred_sound) (inl is_uar)

met_never_lir : (decision_by with_branch (table_only (within located)) 3).given.verdict.result ≢ Base 5012
met_never_lir = unreachable.never_given (within located) 3 (sound_front located 3 barred_sound) (inr is_lir)

met_taken_out : result_of (table_only (within admitted)) ≢ Base 5012
met_taken_out = unreachable.taken_out (within admitted) (inl is_uar)

met_taken_out_lir : result_of (table_only (within located)) ≢ Base 5012
met_taken_out_lir = unreachable.taken_out (within located) (inr is_lir)

-- and what the two come to
uar_result : result_of (table_only (within admitted)) ≡ Base 2001
unfolding opened head line family asking
uar_result = result_front admitted 3 barred_sound (Base 2001) refl

lir_result : result_of (table_only (within located)) ≡ Base 2001
unfolding opened head line family locating
lir_result = result_front located 3 barred_sound (Base 2001) refl

met_every_input : serve_by with_branch (within located) ≡ serve (within located)
met_every_input = unreachable.same_for_every_input (within located)

-- a SAR of type 0 for `a` with another server name, and a MAR for none
abbrev question : Lent
question = lent (assignment 0 z) (family 2 1 s) [] [] room (under_cx 3588 0)

abbrev none_asked : Lent
none_asked = lent (authentication 0 s) (family 2 1 s) [] [] room (under_cx 3588 0)

question_result : result_of (table_only (within question)) ≡ Base 5012
unfolding opened head line family
question_result = result_front question 3 barred_sound (Base 5012) refl

none_result : result_of (table_only (within none_asked)) ≡ Base 5012
unfolding opened head line family
none_result = result_front none_asked 3 barred_sound (Base 5012) refl

met_whose : (command_of (assignment 0 z) ≡ 301) ⊎ (command_of (assignment 0 z) ≡ 303)
met_whose = unreachable.whose_stays (within question) question_result

met_whose_mar : (command_of (authentication 0 s) ≡ 301) ⊎ (command_of (authentication 0 s) ≡ 303)
met_whose_mar = unreachable.whose_stays (within none_asked) none_result

-- THE SAR'S: type 0, `a` named (its AVP, without padding), and its record stores `s`
unfoldable named : List ℕ
named = take 13 (vendor_bytes 601 (0x61 ∷ []))

is_sar : command_of (assignment 0 z) ≡ 301
unfolding opened
is_sar = refl

stores_other : StoresOther question 3
unfolding opened head line family named
stores_other =
    record {
      seen = seen_in (read_in (dialect_of (under_cx 3588 0) (assignment 0 z)) (assignment 0 z));
      read = record { read = refl; inside = refl };
      asks = refl;
      identity = named;
      named = refl;
      block = 1;
      public = record { from = lit≤ tt; to = lit≤ tt; name = refl };
      private = λ e. absurd (let n : ◌≡◌ {A = ℕ} 0 1 = cc in omega arith);
      other = λ e. let n : ◌≡◌ {A = ℕ} 0x73 0x7A = ap (λ (name : List ℕ). get_or name 0 0) e in omega arith;
    }

met_sar_stays : result_of (table_only (within question)) ≡ Base 5012
met_sar_stays =
    unreachable.sar_stays (within question) 3 (sound_front question 3 barred_sound) is_sar (rw (in_front question 3 barred_sound) stores_other)

met_sar_only : StoresOther (table_only (within question)) 3
met_sar_only = unreachable.sar_only (within question) 3 (sound_front question 3 barred_sound) is_sar question_result

-- .. after X5001, over a table of no record; and after X5002, with the User-Name `p`, where `a` is of `q`
abbrev unheard : Lent
unheard = lent (assignment 0 z) (head 0) [] [] room (under_cx 3588 0)

unheard_sound : check_table (head 0) 0 ≡ Ok 0
unfolding opened head
unheard_sound = refl

sar_seen : Seen
sar_seen = seen_in (read_in (dialect_of (under_cx 3588 0) (assignment 0 z)) (assignment 0 z))

sar_read : Decides (dialect_of (under_cx 3588 0) (assignment 0 z)) (assignment 0 z) sar_seen
unfolding opened sar_seen
sar_read = record { read = refl; inside = refl }

sar_names : identities (body_of (assignment 0 z)) ≡ named ∷ []
unfolding opened named
sar_names = refl

met_sar_unknown : result_of (table_only (within unheard)) ≡ Experimental 5001
met_sar_unknown =
    unreachable.sar_unknown (within unheard) 0 (sound_front unheard 0 unheard_sound) is_sar sar_seen sar_read named sar_names
    (inl (λ k p. omega (arith, p.from, p.to)))

unfoldable naming : List ℕ
naming =
    request 301
    (common ++ (avp_bytes 1 (0x70 ∷ []) ++ (vendor_bytes 601 (0x61 ∷ []) ++ (vendor_bytes 602 z ++ (vendor_number 614 0 ++ vendor_number 624 1)))))

abbrev stranger : Lent
stranger = lent naming strangers [] [] room (under_cx 3588 0)

is_naming : command_of naming ≡ 301
unfolding opened naming
is_naming = refl

naming_seen : Seen
naming_seen = seen_in (read_in (dialect_of (under_cx 3588 0) naming) naming)

naming_read : Decides (dialect_of (under_cx 3588 0) naming) naming naming_seen
unfolding opened naming naming_seen
naming_read = record { read = refl; inside = refl }

naming_names : identities (body_of naming) ≡ named ∷ []
unfolding opened naming named
naming_names = refl

met_sar_apart : result_of (table_only (within stranger)) ≡ Experimental 5002
unfolding opened naming naming_seen named
met_sar_apart =
    unreachable.sar_apart (within stranger) 2 (sound_front stranger 2 strangers_sound) is_naming naming_seen naming_read named
    naming_names 1 2 (rw (in_front stranger 2 strangers_sound) a_another) refl (rw (in_front stranger 2 strangers_sound) b_user)
    (rw (in_front stranger 2 strangers_sound) a_apart)

-- THE MAR'S: none asked; and one asked where the one vector of `p` is used
is_mar : (number : ℕ) → command_of (authentication number s) ≡ 303
unfolding opened
is_mar number = refl

none_to_send : NoneToSend none_asked 3
unfolding opened head line family
none_to_send =
    record {
      seen = seen_in (read_in (dialect_of (under_cx 3588 0) (authentication 0 s)) (authentication 0 s));
      read = record { read = refl; inside = refl };
      block = 1;
      public = record { from = lit≤ tt; to = lit≤ tt; name = refl };
      private = refl;
      served = refl;
      none = inl refl;
    }

met_mar_stays : result_of (table_only (within none_asked)) ≡ Base 5012
met_mar_stays =
    unreachable.mar_stays (within none_asked) 3 (sound_front none_asked 3 barred_sound) (is_mar 0) (rw (in_front none_asked 3 barred_sound) none_to_send)

abbrev all_sent : Lent
all_sent = lent (authentication 1 s) (family 2 1 s) [] (vector 1 0x70 1) room (under_cx 3588 0)

all_used : AllUsed (vector 1 0x70 1) (0x70 ∷ [])
unfolding opened
all_used k l e f =
    let q : k ≡ 0 = omega (arith, l) in
    let n : ◌≡◌ {A = ℕ} 1 0 = subst (λ (i : ℕ). (vector_of (block_of (vector 1 0x70 1) i)).used ≡ 0) q f in
    omega arith

none_left : NoneToSend all_sent 3
unfolding opened head line family
none_left =
    record {
      seen = seen_in (read_in (dialect_of (under_cx 3588 0) (authentication 1 s)) (authentication 1 s));
      read = record { read = refl; inside = refl };
      block = 1;
      public = record { from = lit≤ tt; to = lit≤ tt; name = refl };
      private = refl;
      served = refl;
      none = inr all_used;
    }

met_mar_used : result_of (table_only (within all_sent)) ≡ Base 5012
met_mar_used =
    unreachable.mar_stays (within all_sent) 3 (sound_front all_sent 3 barred_sound) (is_mar 1) (rw (in_front all_sent 3 barred_sound) none_left)

met_mar_only : NoneToSend (table_only (within none_asked)) 3
met_mar_only = unreachable.mar_only (within none_asked) 3 (sound_front none_asked 3 barred_sound) (is_mar 0) none_result

-- .. after X5001, X5002 and X5006, though none is asked
mar_seen : Seen
mar_seen = seen_in (read_in (dialect_of (under_cx 3588 0) (authentication 0 s)) (authentication 0 s))

mar_read : Decides (dialect_of (under_cx 3588 0) (authentication 0 s)) (authentication 0 s) mar_seen
unfolding opened mar_seen
mar_read = record { read = refl; inside = refl }

abbrev unheard_mar : Lent
unheard_mar = lent (authentication 0 s) (head 0) [] [] room (under_cx 3588 0)

met_mar_unknown : result_of (table_only (within unheard_mar)) ≡ Experimental 5001
met_mar_unknown =
    unreachable.mar_unknown (within unheard_mar) 0 (sound_front unheard_mar 0 unheard_sound) (is_mar 0) mar_seen mar_read
    (inl (λ k p. omega (arith, p.from, p.to)))

abbrev stranger_mar : Lent
stranger_mar = lent (authentication 0 s) strangers [] [] room (under_cx 3588 0)

met_mar_apart : result_of (table_only (within stranger_mar)) ≡ Experimental 5002
unfolding opened mar_seen
met_mar_apart =
    unreachable.mar_apart (within stranger_mar) 2 (sound_front stranger_mar 2 strangers_sound) (is_mar 0) mar_seen mar_read 1 2
    (rw (in_front stranger_mar 2 strangers_sound) a_another) (rw (in_front stranger_mar 2 strangers_sound) b_user)
    (rw (in_front stranger_mar 2 strangers_sound) a_apart)

unfoldable otherwise : List ℕ
otherwise = authentication_of 0x70 0x61 (vendor_bytes 608 (0x78 ∷ [])) 0 s

abbrev unserved : Lent
unserved = lent otherwise (family 2 1 s) [] [] room (under_cx 3588 0)

is_otherwise : command_of otherwise ≡ 303
unfolding opened otherwise
is_otherwise = refl

otherwise_seen : Seen
otherwise_seen = seen_in (read_in (dialect_of (under_cx 3588 0) otherwise) otherwise)

otherwise_read : Decides (dialect_of (under_cx 3588 0) otherwise) otherwise otherwise_seen
unfolding opened otherwise otherwise_seen
otherwise_read = record { read = refl; inside = refl }

a_stands : Stands (family 2 1 s) 3 1 (0x61 ∷ [])
unfolding opened head line family
a_stands = record { from = lit≤ tt; to = lit≤ tt; name = refl }

a_private : private_at (family 2 1 s) 1 ≡ 0x70 ∷ []
unfolding opened head line family
a_private = refl

met_mar_unserved : result_of (table_only (within unserved)) ≡ Experimental 5006
unfolding opened otherwise otherwise_seen
met_mar_unserved =
    unreachable.mar_unserved (within unserved) 3 (sound_front unserved 3 barred_sound) is_otherwise otherwise_seen otherwise_read 1
    (rw (in_front unserved 3 barred_sound) a_stands) (rw (in_front unserved 3 barred_sound) a_private)
    (λ e. let n : ◌≡◌ {A = ℕ} 0x78 0x44 = ap (λ (name : List ℕ). get_or name 0 0) e in omega arith)
