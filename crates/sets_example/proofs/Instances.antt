-- The theorems of 02 [6] (demands/proofs/Sets) have instances: their hypotheses are met by a family, computed, in an area with two bytes behind it.
use Rattle.std.specs.Prelude.{Ok, Err}
use Rattle.octets.specs.Standard.{ℕ, zero, suc, ◌<◌, ◌≤◌, ◌≡◌, refl, ap, subst, ◌∙◌, Bool, true, false, ◌&&◌, inl, inr, ◌≢◌, List, [], ◌∷◌, ◌++◌, arith}
use Rattle.octets.specs.Standard.{length, get_or, ltb, lit≤, lit<, ltb-true}
use Rattle.octets.proofs.All.{and_left, and_right}
use Rattle.record.specs.Fields.{bits_of, barred}
use Rattle.record.specs.HeaderBlock.{header_of}
use Rattle.blocks.specs.Blocks.{block_of}
use Rattle.table.specs.Area.{size_in, table_in, check_area}
use Rattle.table.specs.Check.{sound_at, check_table}
use Rattle.table.specs.Named.{private_at}
use Rattle.table.proofs.Areas.{read_front}
use Rattle.rewrite.specs.Change.{differ}
use Rattle.diameter.specs.Message.{command_of}
use Rattle.reading.specs.Kinds.{user_name, visited_network, authorization_type}
use Rattle.reading.specs.Rules.{Seen}
use Rattle.reading.specs.declared.Outcome.TheVariants.{Base, Experimental}
use Rattle.requests.specs.Request.{dialect_of, under_cx, read_in, data_seen, value_seen}
use Rattle.choices.specs.Choices.{authorization}
use Rattle.choices.specs.Given.{given_server}
use Rattle.questions.specs.Authorization.{asked_at}
use Rattle.questions.specs.Carried.{carried}
use Rattle.calling.specs.Call.{Refused}
use Rattle.calling.specs.Lent.{Lent, lent, table_only}
use Rattle.refusals.specs.Early.{early_trials, wrong_length}
use Rattle.calling.specs.Serve.{Served, decided, result_of, serve_table, serve}
use Rattle.refusals.specs.Trial.{any_holds}
use Rattle.calling.proofs.Areas.{served_in}
use Rattle.ndushavire.specs.Word.{check_word}
use Rattle.ndushavire.specs.Reads.{ReadsCheck}
use Rattle.demands.specs.Call.{Decides}
use Rattle.demands.specs.Sets.{Shares, Agrees, Disagrees, Stands, Belongs, Barred}
use Rattle.pen.specs.Bytes.{avp_bytes, vendor_bytes, vendor_number}
use Rattle.worked_examples.proofs.Computed.{roomy}
use Rattle.worked_examples.proofs.Sample.{room, request, common, s, opened}
use Rattle.sets_example.proofs.Behind.{piece, within, in_front, only_front, sound_front, result_front, seen_in}
use Rattle.sets_example.proofs.Family.{head, line, pair, family, asking, shut, registration, family_sound, registered, admitted, barred_sound}
use Rattle.sets_example.proofs.Family.{shut_sound}
use Rattle.demands.proofs.Sets as sets

-- `a` and `b` share a set; `b` is not barred
shared : Shares (family 2 1 s) 1 2
unfolding opened head line family
shared = (sets.set_is (family 2 1 s) 1 2).0 refl

a_stands : Stands (family 2 1 s) 3 1 (0x61 ∷ [])
unfolding opened head line family
a_stands = record { from = lit≤ tt; to = lit≤ tt; name = refl }

a_private : private_at (family 2 1 s) 1 ≡ 0x70 ∷ []
unfolding opened head line family
a_private = refl

b_free : barred (bits_of (block_of (family 2 1 s) 2)) ≡ false
unfolding opened head line family
b_free = refl

is_uar : command_of asking ≡ 300
unfolding opened asking
is_uar = refl

asked : Seen
asked = seen_in (read_in (dialect_of (under_cx 3588 0) asking) asking)

asks : Decides (dialect_of (under_cx 3588 0) asking) asking asked
unfolding opened asking asked
asks = record { read = refl; inside = refl }

asked_public : data_seen asked 8 ≡ 0x61 ∷ []
unfolding opened asking asked
asked_public = refl

asked_user : data_seen asked user_name ≡ 0x70 ∷ []
unfolding opened asking asked
asked_user = refl

-- "one with a non-barred identity in its implicit set may go on": `a` is barred, and `b` is not; the answer carries the server name of `a`, with B2001
met_going_on : result_of (table_only (within admitted)) ≢ Base 5003
met_going_on =
    sets.going_on_lem (within admitted) 3 (sound_front admitted 3 barred_sound) is_uar asked asks 1 2
    (rw (in_front admitted 3 barred_sound, asked_public) a_stands) (lit≤ tt) (lit≤ tt)
    (rw (in_front admitted 3 barred_sound) shared) (rw (in_front admitted 3 barred_sound) b_free)

as_free : carried (family 2 1 s) 3 (data_seen asked user_name) 1
    (authorization (asked_at (block_of (family 2 1 s) 0) (block_of (family 2 1 s) 1) true false (data_seen asked user_name) (data_seen asked visited_network))
    (value_seen asked authorization_type))
    ≡ given_server (Base 2001) 1
unfolding opened head line family asking asked
as_free = refl

met_going_on_as_free : (decided (table_only (within admitted))).given ≡ given_server (Base 2001) 1
met_going_on_as_free =
    sets.going_on_as_free (within admitted) 3 (sound_front admitted 3 barred_sound) is_uar asked asks 1 2
    (rw (in_front admitted 3 barred_sound, asked_public) a_stands) (lit≤ tt) (lit≤ tt)
    (rw (in_front admitted 3 barred_sound) shared) (rw (in_front admitted 3 barred_sound) b_free)
    (rw (in_front admitted 3 barred_sound, asked_user) a_private)
    ∙ rw (in_front admitted 3 barred_sound) as_free

-- the set's records agree; of a pair that does not, block 2 is blamed
met_agree : Agrees (family 2 1 s) 1 2
met_agree = sets.sound_agree (family 2 1 s) 0 3 1 2 barred_sound (lit≤ tt) (lit< tt) (lit≤ tt) shared

abbrev apart : List ℕ
apart = pair 0x70 1 2 0 s

first_sound_lem : sound_at apart (header_of (block_of apart 0)) 0 1 ≡ true
unfolding opened head line pair
first_sound_lem = refl

earlier_sound : (i : ℕ) → 1 ≤ i → i < 2 → sound_at apart (header_of (block_of apart 0)) 0 i ≡ true
earlier_sound i a b =
    let q : 1 ≡ i = omega arith in subst (λ (n : ℕ). sound_at apart (header_of (block_of apart 0)) 0 n ≡ true) q first_sound_lem

disagreeing : Disagrees apart 0 1 2
unfolding opened head line pair
disagreeing =
    record {
      header = refl;
      size = refl;
      from = lit≤ tt;
      later = lit< tt;
      to = lit≤ tt;
      before = earlier_sound;
      shares = record { nonzero = lit< tt; number = refl; subscription = refl };
      apart = λ e. let n : ◌≡◌ {A = ℕ} 1 2 = e.state in omega arith;
    }

met_blamed : check_table apart 0 ≡ Err 2
met_blamed = sets.later_blamed apart 0 1 2 disagreeing

apart_size : length apart ≡ size_in apart
unfolding opened head line pair size_in
apart_size = refl

apart_front : table_in (apart ++ piece) ≡ apart
apart_front = read_front apart piece apart_size

met_blamed_check : ReadsCheck 5 (Err 2) (check_word 5 (check_area (apart ++ piece) 0))
met_blamed_check = sets.later_blamed_check (apart ++ piece) [] 1 2 (rw apart_front disagreeing) (record { answer = refl })

none_early : any_holds (early_trials (under_cx 3588 0) asking room) ≡ false
unfolding opened asking any_holds wrong_length
none_early = rw roomy

met_blamed_call : (serve (lent asking (apart ++ piece) [] [] room (under_cx 3588 0))).call ≡ Refused 5 2
met_blamed_call = sets.later_blamed_call (lent asking (apart ++ piece) [] [] room (under_cx 3588 0)) 1 2 none_early (rw apart_front disagreeing)

-- B5003 where both are barred, before X5004: a UAR of type 0 asks for the network, of which the header names none, and with `b` free it comes to that
unfoldable visiting_as : ℕ → List ℕ
visiting_as user = request 300 (common ++ (avp_bytes 1 (user ∷ []) ++ (vendor_bytes 601 (0x61 ∷ []) ++ (vendor_bytes 600 (0x76 ∷ []) ++ vendor_number 623 0))))

abbrev visiting : List ℕ
visiting = visiting_as 0x70

abbrev turned_out : Lent
turned_out = lent visiting shut [] [] room (under_cx 3588 0)

visits : command_of visiting ≡ 300
unfolding opened visiting_as
visits = refl

no_network : result_of (table_only (within (lent visiting (family 2 1 s) [] [] room (under_cx 3588 0)))) ≡ Experimental 5004
unfolding opened head line family visiting_as
no_network = result_front (lent visiting (family 2 1 s) [] [] room (under_cx 3588 0)) 3 barred_sound (Experimental 5004) refl

out_result : result_of (table_only (within turned_out)) ≡ Base 5003
unfolding opened head line shut visiting_as
out_result = result_front turned_out 3 shut_sound (Base 5003) refl

both_barred : Barred (table_only (within turned_out)) 3
both_barred = sets.barred_only (within turned_out) 3 (sound_front turned_out 3 shut_sound) visits out_result

met_given : result_of (table_only (within turned_out)) ≡ Base 5003
met_given = sets.barred_given (within turned_out) 3 (sound_front turned_out 3 shut_sound) visits both_barred

met_before : result_of (table_only (within turned_out)) ≢ Experimental 5004
met_before = sets.barred_before (within turned_out) 3 (sound_front turned_out 3 shut_sound) visits both_barred

-- it is a UAR's
met_uar : command_of visiting ≡ 300
met_uar = sets.barred_uar (within turned_out) out_result

-- .. after X5001, over a table of no record, and over one that bars `a` where the User-Name alone is unknown; and after X5002, where `a` is another's and `b`
-- is of the User-Name
abbrev unheard : Lent
unheard = lent asking (head 0) [] [] room (under_cx 3588 0)

unheard_sound : check_table (head 0) 0 ≡ Ok 0
unfolding opened head
unheard_sound = refl

met_unknown : result_of (table_only (within unheard)) ≡ Experimental 5001
met_unknown =
    sets.barred_unknown (within unheard) 0 (sound_front unheard 0 unheard_sound) is_uar asked asks (inl (λ k p. omega (arith, p.from, p.to)))

unfoldable lonely : List ℕ
lonely = head 1 ++ line 1 0x61 0x70 1 1 2 s

lonely_sound : check_table lonely 0 ≡ Ok 1
unfolding opened head line lonely
lonely_sound = refl

abbrev unnamed : Lent
unnamed = lent (visiting_as 0x71) lonely [] [] room (under_cx 3588 0)

unnamed_uar : command_of (visiting_as 0x71) ≡ 300
unfolding opened visiting_as
unnamed_uar = refl

unnamed_asked : Seen
unnamed_asked = seen_in (read_in (dialect_of (under_cx 3588 0) (visiting_as 0x71)) (visiting_as 0x71))

unnamed_asks : Decides (dialect_of (under_cx 3588 0) (visiting_as 0x71)) (visiting_as 0x71) unnamed_asked
unfolding opened visiting_as unnamed_asked
unnamed_asks = record { read = refl; inside = refl }

no_record : (k : ℕ) → Belongs lonely 1 k (data_seen unnamed_asked user_name) → ⊥
unfolding opened head line lonely visiting_as unnamed_asked
no_record k b =
    let q : k ≡ 1 = omega (arith, b.from, b.to) in
    let e : private_at lonely 1 ≡ 0x71 ∷ [] = subst (λ (i : ℕ). private_at lonely i ≡ 0x71 ∷ []) q b.name in
    let n : ◌≡◌ {A = ℕ} 0x70 0x71 = ap (λ (name : List ℕ). get_or name 0 0) e in
    omega arith

met_unnamed : result_of (table_only (within unnamed)) ≡ Experimental 5001
met_unnamed =
    sets.barred_unknown (within unnamed) 1 (sound_front unnamed 1 lonely_sound) unnamed_uar unnamed_asked unnamed_asks
    (inr (rw (in_front unnamed 1 lonely_sound) no_record))

unfoldable pub strangers : List ℕ
strangers = head 2 ++ (line 1 0x61 0x71 1 1 2 s ++ line 2 0x62 0x70 1 1 2 s)

abbrev stranger : Lent
stranger = lent asking strangers [] [] room (under_cx 3588 0)

pub strangers_sound : check_table strangers 0 ≡ Ok 2
unfolding opened head line strangers
strangers_sound = refl

pub a_another : Stands strangers 2 1 (0x61 ∷ [])
unfolding opened head line strangers
a_another = record { from = lit≤ tt; to = lit≤ tt; name = refl }

pub b_user : Belongs strangers 2 2 (0x70 ∷ [])
unfolding opened head line strangers
b_user = record { from = lit≤ tt; to = lit≤ tt; name = refl }

pub a_apart : private_at strangers 1 ≢ 0x70 ∷ []
unfolding opened head line strangers
a_apart e = let n : ◌≡◌ {A = ℕ} 0x71 0x70 = ap (λ (name : List ℕ). get_or name 0 0) e in omega arith

met_apart : result_of (table_only (within stranger)) ≡ Experimental 5002
met_apart =
    sets.barred_apart (within stranger) 2 (sound_front stranger 2 strangers_sound) is_uar asked asks 1 2
    (rw (in_front stranger 2 strangers_sound, asked_public) a_another) (rw (in_front stranger 2 strangers_sound, asked_user) b_user)
    (rw (in_front stranger 2 strangers_sound, asked_user) a_apart)

-- "Every effect .. reaches the whole set": registering `a` alters both records of the set, which agree then
all_bytes : List ℕ → Bool
all_bytes [] = true
all_bytes (x ∷ l) = ltb x 256 && all_bytes l

are_bytes : (l : List ℕ) → all_bytes l ≡ true → (i : ℕ) → get_or l i 0 < 256
unfolding all_bytes
are_bytes [] e i = lit< tt
are_bytes (x ∷ l) e zero = ltb-true x 256 (and_left (ltb x 256) _ e)
are_bytes (x ∷ l) e (suc i) = are_bytes l (and_right (ltb x 256) _ e) i

family_bytes : (i : ℕ) → get_or (family 0 0 []) i 0 < 256
unfolding opened head line family all_bytes
family_bytes = are_bytes (family 0 0 []) refl

idle_shared : Shares (family 0 0 []) 1 2
unfolding opened head line family
idle_shared = record { nonzero = lit< tt; number = refl; subscription = refl }

-- what the call leaves in the area
registered_front : table_in (serve (within registration)).table ≡ family 0 1 s
registered_front =
    served_in (within registration)
    ∙ ap (λ (y : Lent). (serve_table y).table) (only_front registration 3 family_sound) ∙ ap (λ (y : Served). y.table) registered

met_together : differ (block_of (table_in (family 0 0 [] ++ piece)) 1) (block_of (table_in (serve (within registration)).table) 1)
    ≡ differ (block_of (table_in (family 0 0 [] ++ piece)) 2) (block_of (table_in (serve (within registration)).table) 2)
met_together =
    sets.members_together (within registration) 3 (sound_front registration 3 family_sound) 1 2
    (rw (in_front registration 3 family_sound) idle_shared) (rw (in_front registration 3 family_sound) family_bytes) (lit≤ tt) (lit≤ tt) (lit≤ tt)
    (lit≤ tt)

first_altered : differ (block_of (family 0 0 []) 1) (block_of (table_in (serve (within registration)).table) 1) ≡ 1
unfolding opened head line family differ
first_altered = ap (λ (t : List ℕ). differ (block_of (family 0 0 []) 1) (block_of t 1)) registered_front

met_agreeing : Agrees (table_in (serve (within registration)).table) 1 2
met_agreeing =
    sets.members_agree (within registration) 3 (sound_front registration 3 family_sound) 1 2 (rw (in_front registration 3 family_sound) idle_shared)
    (lit≤ tt) (lit< tt) (lit≤ tt)
