-- Supported-Features: the removal with one, by a server that supports bits 0 and 2; the theorems of its page at it, computed.
use Rattle.std.specs.Prelude.{Ok}
use Rattle.octets.specs.Standard.{ℕ, ◌≤◌, ◌≡◌, refl, sym, ap, ◌∙◌, ◌≢◌, inr, List, [], ◌∷◌, ◌++◌, some, length, set, false, true≢false, arith, lit≤}
use Rattle.octets.specs.Standard.{lit<}
use Rattle.diameter.specs.AvpAt.{avp_at}
use Rattle.diameter.specs.Message.{body_of}
use Rattle.diameter.specs.Put.{Piece}
use Rattle.pen.specs.Bytes.{head_bytes, word_bytes, vendor_head, number_bytes, vendor_number}
use Rattle.pen.specs.Groups.{experimental, own_features}
use Rattle.reading.specs.Kinds.{kind_of, supported_features}
use Rattle.reading.specs.Rules.{Seen, rule_by}
use Rattle.reading.specs.Verdicts.{fault_at}
use Rattle.reading.specs.declared.Outcome.TheVariants.{Base, Experimental}
use Rattle.reading.specs.declared.Use.TheVariants.{Needed}
use Rattle.requests.specs.Judged.{Judged, bad, fine, nothing}
use Rattle.requests.specs.Request.{dialect_of, under_cx, read_in}
use Rattle.calling.specs.Lent.{Lent, lent, table_only}
use Rattle.calling.specs.Serve.{answer_of, decided, result_of, serve_by, serve}
use Rattle.refusals.specs.Trial.{any_holds}
use Rattle.calling.proofs.Areas.{serve_sound}
use Rattle.ndushavire.specs.Reads.{call_place}
use Rattle.older_rules.specs.WithoutFeatures.{NoFeatures, before_features}
use Rattle.worked_examples.proofs.Computed.{known_trials, come, held, roomy, no_vectors}
use Rattle.worked_examples.proofs.Sample.{room, answer, s}
use Rattle.demands.specs.Call.{turned_away}
use Rattle.demands.specs.Features.{with_features, here, later, Beyond, answers_unsupported, Called, own_list, answer_with, AnsweredWith, ComesTo}
use Rattle.demands.specs.Place.{first, past_taken, blaming}
use Rattle.demands.specs.Insertion.{request_of, Quiet, Inserted, keep, put, place_now, placed}
use Rattle.demands.proofs.Demands.{demand_3_unmarked}
use Rattle.demands.proofs.Wanting.{beyond_holds, called_holds}
use Rattle.instances.proofs.Asked.{table, removed, head, session, rest, sar, comes, plain, loud, all, is_whole, all_whole, all_whole_lem, kept, of_area}
use Rattle.instances.proofs.Calls.{sound_table}
use Rattle.demands.proofs.Features as features

-- bit 1 of list 1 of vendor 10415, with M and without it
members : List ℕ
members = number_bytes 266 10415 ++ (vendor_number 629 1 ++ vendor_number 630 2)

want : Piece
want = record { avp = vendor_head 628 56 ++ members; pad = [] }

hope : Piece
hope = record { avp = head_bytes 628 128 56 ++ (word_bytes 10415 ++ members); pad = [] }

-- the removal with AVPs behind its Session-Id
with : List Piece → List ℕ
with qs = request_of head (session ∷ qs ++ rest s 5) []

abbrev asked : List ℕ → Lent
asked req = lent req table [] [] room (under_cx 3588 5)

abbrev seen_in : Judged → Seen
seen_in (bad v) = []
seen_in (fine seen) = seen

let_pass : (req : List ℕ) → any_holds (known_trials false (Ok 2) (Ok 0) (asked req)) ≡ false → turned_away (table_only (asked req)) ≡ false
let_pass req e = of_area (asked req) 2 sound_table (λ y. turned_away y ≡ false) (held (asked req) roomy sound_table no_vectors e)

-- WITH M: X5011
wanting : List ℕ
wanting = with (want ∷ [])

beyond : Beyond (asked wanting)
unfolding all members want with wanting
beyond =
    record {
      seen = seen_in (read_in (dialect_of (under_cx 3588 5) wanting) wanting);
      read = refl;
      one = want.avp;
      among = later want.avp session.avp _ (here want.avp _);
      asks = record { kind = refl; mark = refl; beyond = inr (inr (record { bit = 1; below = lit< tt; asked = refl; lacking = refl })) };
    }

wanting_passes : turned_away (table_only (asked wanting)) ≡ false
unfolding all members want with wanting
wanting_passes = let_pass wanting refl

met_beyond : result_of (table_only (asked wanting)) ≡ Experimental 5011
met_beyond = (features.beyond_exactly (asked wanting)).1 beyond

met_beyond_only : Beyond (asked wanting)
met_beyond_only = (features.beyond_exactly (asked wanting)).0 met_beyond

met_beyond_served : serve (asked wanting) ≡ answers_unsupported (asked wanting)
met_beyond_served = features.beyond_served (asked wanting) beyond wanting_passes

-- the same, byte by byte: Experimental-Result, and the own list right after 296
refused_so : serve (asked wanting) ≡ comes table (answer (experimental 5011) (own_features 5))
unfolding all members want with wanting
refused_so = serve_sound (asked wanting) 2 sound_table ∙ come (asked wanting) roomy sound_table no_vectors refl

-- WITHOUT M: the removal, with the own list
hoping : List ℕ
hoping = with (hope ∷ [])

hoping_passes : turned_away (table_only (asked hoping)) ≡ false
unfolding all members hope with hoping
hoping_passes = let_pass hoping refl

called : Called (asked hoping)
unfolding all members hope with hoping
called = record { header = refl; one = hope.avp; among = here hope.avp _; kind = refl; passes = λ seen. refl }

met_list_carried : AnsweredWith (asked hoping) (answer_with (asked hoping) (own_list 5))
met_list_carried = features.list_carried (asked hoping) called hoping_passes

hoped_so : serve (asked hoping) ≡ comes removed (answer (number_bytes 268 2001) (own_features 5))
unfolding all members hope with hoping
hoped_so = serve_sound (asked hoping) 2 sound_table ∙ come (asked hoping) roomy sound_table no_vectors refl

met_answers_fit : length (answer_of (table_only (asked hoping)) (decided (table_only (asked hoping)))) ≤ 36864
met_answers_fit = features.answers_fit (asked hoping) hoping_passes

-- NONE: no list, and as before, whatever the set
sar_passes : turned_away (table_only (asked (sar s 5))) ≡ false
unfolding all
sar_passes = let_pass (sar s 5) refl

uncalled : Called (asked (sar s 5)) → ⊥
unfolding all
uncalled c = true≢false (sym (called_holds (asked (sar s 5)) c nothing))

met_list_absent : AnsweredWith (asked (sar s 5)) (answer_with (asked (sar s 5)) [])
met_list_absent = features.list_absent (asked (sar s 5)) uncalled sar_passes

none : NoFeatures (body_of (sar s 5))
unfolding all
none = refl

met_without : serve_by before_features (asked (sar s 5)) ≡ serve (asked (sar s 5))
met_without = features.without_features (asked (sar s 5)) none

met_features_unseen : serve (with_features (asked (sar s 5)) 0) ≡ serve (with_features (asked (sar s 5)) 4294967295)
met_features_unseen = features.features_unseen (asked (sar s 5)) none 0 4294967295

-- "AVP UNSUPPORTED" GOES BEFORE X5011: an unknown kind with M behind the 628 that asks for more
loudly : List ℕ
loudly = with (want ∷ loud ∷ [])

loudly_passes : turned_away (table_only (asked loudly)) ≡ false
unfolding all members want with loudly
loudly_passes = let_pass loudly refl

met_reading_first : (result_of (table_only (asked loudly)) ≡ Base 5001) × (call_place (serve (asked loudly)).call ≡ 88) × ((serve (asked loudly)).table ≡ table)
    × ((serve (asked loudly)).vectors ≡ [])
unfolding all members want with loudly
met_reading_first = features.reading_first (asked loudly) (fault_at 5001 88) refl loudly_passes

-- the error answer carries the own list too; none does to a header fault, as where another application is spoken
loudly_called : Called (asked loudly)
unfolding all members want with loudly
loudly_called = record { header = refl; one = want.avp; among = here want.avp _; kind = refl; passes = λ seen. refl }

met_list_fault : AnsweredWith (asked loudly) (answer_with (asked loudly) (own_list 5))
met_list_fault = features.list_carried (asked loudly) loudly_called loudly_passes

elsewhere : Lent
elsewhere = lent wanting table [] [] room (record { application = 7; peer = 3588; features = 5 })

met_list_header : AnsweredWith elsewhere (answer_with elsewhere [])
unfolding all members want with wanting elsewhere
met_list_header =
    features.list_absent elsewhere (λ c. let z : ◌≡◌ {A = ℕ} 3001 0 = c.header in omega arith)
    (of_area elsewhere 2 sound_table (λ y. turned_away y ≡ false) (held elsewhere roomy sound_table no_vectors refl))

-- DEMAND 3: an unknown kind without M before it and behind it; "same to the byte" includes the own list
quiet_plain : Quiet (dialect_of (under_cx 3588 5) head) plain
unfolding all
quiet_plain =
    record { foreign = record { whole = record { right = refl; exact = refl; filled = refl }; plain = refl; stranger = refl }; unmarked = refl }

put_plain : Inserted (Quiet (dialect_of (under_cx 3588 5) head)) (hope ∷ rest s 5) (plain ∷ hope ∷ plain ∷ rest s 5)
put_plain = put plain quiet_plain (keep hope (put plain quiet_plain (kept (rest s 5))))

met_3_features : serve (asked (request_of head (session ∷ plain ∷ hope ∷ plain ∷ rest s 5) [])) ≡ comes removed (answer (number_bytes 268 2001) (own_features 5))
unfolding all is_whole all_whole members hope with hoping
met_3_features =
    demand_3_unmarked head refl session (hope ∷ rest s 5) (plain ∷ hope ∷ plain ∷ rest s 5) (all_whole_lem (session ∷ hope ∷ rest s 5) refl) [] refl (lit≤ tt)
    (asked []) put_plain
    ∙ ap (placed (place_now (keep session put_plain))) hoped_so

-- A 628 WITHOUT ITS FEATURE-LIST: B5004 with the whole of it, and its place; one with all three is not at fault
wrong : Piece
wrong = record { avp = vendor_head 628 40 ++ (number_bytes 266 10415 ++ vendor_number 629 1); pad = [] }

spoilt : List ℕ
spoilt = with (wrong ∷ [])

comes_to_wrong : ComesTo (dialect_of (under_cx 3588 5) spoilt) spoilt 32
unfolding all with wrong spoilt
comes_to_wrong = record { seen = set nothing 1 (some session.avp); reached = past_taken 20 nothing first refl refl; whole = refl; flags = refl; kind = refl }

spoilt_passes : turned_away (table_only (asked spoilt)) ≡ false
unfolding all with wrong spoilt
spoilt_passes = let_pass spoilt refl

met_members_else : serve (asked spoilt) ≡ blaming (asked spoilt) 5004 (avp_at spoilt 32) 32
unfolding all with wrong spoilt
met_members_else = features.members_else (asked spoilt) 32 comes_to_wrong refl refl refl spoilt_passes

comes_to_right : ComesTo (dialect_of (under_cx 3588 5) hoping) hoping 32
unfolding all members hope with hoping
comes_to_right = record { seen = set nothing 1 (some session.avp); reached = past_taken 20 nothing first refl refl; whole = refl; flags = refl; kind = refl }

met_members_pass : call_place (serve (asked hoping)).call ≢ 32
unfolding all members hope with hoping
met_members_pass = features.members_pass (asked hoping) 32 comes_to_right refl

-- WHATEVER THE FEATURES: asked for without M, the removal is the same with none of them and with all
idle_none : Beyond (with_features (asked hoping) 0) → ⊥
unfolding all members hope with hoping
idle_none b = true≢false (sym (beyond_holds (with_features (asked hoping) 0) b))

idle_all : Beyond (with_features (asked hoping) 4294967295) → ⊥
unfolding all members hope with hoping
idle_all b = true≢false (sym (beyond_holds (with_features (asked hoping) 4294967295) b))

met_features_idle : (serve (with_features (asked hoping) 0)).table ≡ (serve (with_features (asked hoping) 4294967295)).table
met_features_idle = (features.features_idle (asked hoping) 0 4294967295 idle_none idle_all).2

-- an AVP that demand 3 puts in is no 628, and M on a Session-Id changes nothing of it
met_features_known : kind_of plain.avp ≢ supported_features
met_features_known = features.features_known (dialect_of (under_cx 3588 5) head) plain quiet_plain.foreign

met_mark_idle : rule_by Needed false 0 0 ≡ rule_by Needed false 64 0
met_mark_idle = features.mark_idle Needed refl false 0 64 0 refl
