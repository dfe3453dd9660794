-- Demand 3: its hypotheses can be met by a SAR and what is put into it, computed.
use Rattle.std.specs.Prelude.{Ok}
use Rattle.octets.specs.Standard.{ℕ, ◌≡◌, refl, ap, ◌∙◌, true, false, List, [], ◌∷◌, ◌++◌, Option, none, ◌⊎◌, lit≤}
use Rattle.octets.proofs.Numbers.{all_bytes, are_bytes}
use Rattle.diameter.specs.Put.{Piece}
use Rattle.pen.specs.Bytes.{word_bytes, head_bytes, vendor_head, number_bytes}
use Rattle.pen.specs.Groups.{failed}
use Rattle.table.specs.Area.{size_in, table_in}
use Rattle.calling.specs.Lent.{Lent, table_only}
use Rattle.calling.specs.Serve.{Served, serve}
use Rattle.refusals.specs.Trial.{any_holds}
use Rattle.calling.proofs.Areas.{serve_sound}
use Rattle.worked_examples.proofs.Computed.{known_trials, come, held, roomy, no_vectors}
use Rattle.worked_examples.proofs.Sample.{room, answer, s}
use Rattle.reading.specs.Kinds.{use_of, is_unknown}
use Rattle.requests.specs.Request.{dialect_of, under_cx}
use Rattle.demands.specs.Call.{turned_away}
use Rattle.demands.specs.Insertion.{request_of, Foreign, Quiet, Inserted, ending, keep, put, put_before, place_now, placed, FirstMarked, Cut, Longer}
use Rattle.demands.specs.Insertion.{Mark, first_mark, newer}
use Rattle.demands.specs.Knowing.{is_among, kinds_of_cx, kinds_of}
use Rattle.demands.proofs.Demands.{demand_3, demand_3_unmarked, demand_3_table, demand_3_marked, demand_3_fault, demand_3_cases, demand_3_any}
use Rattle.demands.proofs.Demands.{demand_3_kinds, demand_3_others}
use Rattle.instances.proofs.Asked.{table, removed, vendor, head_of, head, session, application, common, own, rest, sar, asked, comes_to, comes, blamed}
use Rattle.instances.proofs.Asked.{plain, zero_vendor, loud, all, is_whole, all_whole, all_whole_lem, kept, of_area}
use Rattle.instances.proofs.Calls.{sound_table, removed_so}

foreign_plain : Foreign (dialect_of (under_cx 3588 0) head) plain
unfolding all
foreign_plain = record { whole = record { right = refl; exact = refl; filled = refl }; plain = refl; stranger = refl }

foreign_zero : Foreign (dialect_of (under_cx 3588 0) head) zero_vendor
unfolding all
foreign_zero = record { whole = record { right = refl; exact = refl; filled = refl }; plain = refl; stranger = refl }

foreign_loud : Foreign (dialect_of (under_cx 3588 0) head) loud
unfolding all
foreign_loud = record { whole = record { right = refl; exact = refl; filled = refl }; plain = refl; stranger = refl }

quiet_plain : Quiet (dialect_of (under_cx 3588 0) head) plain
unfolding all
quiet_plain = record { foreign = foreign_plain; unmarked = refl }

quiet_zero : Quiet (dialect_of (under_cx 3588 0) head) zero_vendor
unfolding all
quiet_zero = record { foreign = foreign_zero; unmarked = refl }

-- two unmarked ones between, and one at the end of the SAR that succeeds: the same answer and the same table, and no place
thrice : List Piece
thrice = application ∷ plain ∷ zero_vendor ∷ common ++ (own s 5 ++ (plain ∷ []))

put_thrice : Inserted (Quiet (dialect_of (under_cx 3588 0) head)) (rest s 5) thrice
unfolding all thrice
put_thrice =
    keep _ (put plain quiet_plain (put zero_vendor quiet_zero
    (keep _ (keep _ (keep _ (keep _ (keep _ (keep _ (keep _ (keep _ (put plain quiet_plain ending)))))))))))

met_3_unmarked : serve (asked (request_of head (session ∷ thrice) [])) ≡ comes removed (answer (number_bytes 268 2001) [])
unfolding all is_whole all_whole thrice
met_3_unmarked =
    demand_3_unmarked head refl session (rest s 5) thrice (all_whole_lem (session ∷ rest s 5) refl) [] refl (lit≤ tt) (asked []) put_thrice
    ∙ ap (placed (place_now (keep session put_thrice))) removed_so

-- the same before an AVP that says a length of 4, which is B5014: it stands at 176, and 12 bytes later with one put in
cut : List ℕ
cut = 0 ∷ 0 ∷ 0 ∷ 1 ∷ 0 ∷ 0 ∷ 0 ∷ 4 ∷ []

cut_answered : serve (asked (request_of head (session ∷ rest s 5) cut)) ≡ blamed 176 (answer (number_bytes 268 5014) (failed (head_bytes 1 0 8)))
unfolding all cut
cut_answered =
    serve_sound (asked (request_of head (session ∷ rest s 5) cut)) 2 sound_table
    ∙ come (asked (request_of head (session ∷ rest s 5) cut)) roomy sound_table no_vectors refl

once : List Piece
once = application ∷ plain ∷ common ++ own s 5

put_once : Inserted (Quiet (dialect_of (under_cx 3588 0) head)) (rest s 5) once
unfolding all once
put_once = keep _ (put plain quiet_plain (kept (common ++ own s 5)))

met_3_tail : serve (asked (request_of head (session ∷ once) cut)) ≡ blamed 188 (answer (number_bytes 268 5014) (failed (head_bytes 1 0 8)))
unfolding all is_whole all_whole cut once put_once put_before kept
met_3_tail =
    demand_3_unmarked head refl session (rest s 5) once (all_whole_lem (session ∷ rest s 5) refl) cut refl (lit≤ tt) (asked []) put_once
    ∙ ap (placed (place_now (keep session put_once))) cut_answered

-- one marked M between a front and a back
marked_at : (front back : List Piece) → FirstMarked (dialect_of (under_cx 3588 0) head) (front ++ back) (front ++ (loud ∷ back))
unfolding all
marked_at front back =
    record {
      mark = loud;
      front = front;
      back = back;
      before = front;
      after = back;
      row = refl;
      longer = refl;
      quiet = kept front;
      foreign = foreign_loud;
      marking = refl;
      rest = kept back;
    }

-- these are all cases
met_3_cases : Inserted (Quiet (dialect_of (under_cx 3588 0) head)) common (plain ∷ common) ⊎ FirstMarked (dialect_of (under_cx 3588 0) head) common (plain ∷ common)
met_3_cases = demand_3_cases (dialect_of (under_cx 3588 0) head) common (plain ∷ common) (put plain foreign_plain (kept common))

-- a request that no refusal holds of
let_pass : (req : List ℕ) → any_holds (known_trials false (Ok 2) (Ok 0) (asked req)) ≡ false → turned_away (table_only (asked req)) ≡ false
let_pass req e = of_area (asked req) 2 sound_table (λ y. turned_away y ≡ false) (held (asked req) roomy sound_table no_vectors e)

unsupported_answer : ℕ → Served
unsupported_answer place = blamed place (answer (number_bytes 268 5001) (failed loud.avp))

-- type 12 is bad content, B5004. The marked one before it: B5001, and the table is as it was
met_3_marked : serve (asked (request_of head (session ∷ application ∷ common ++ (loud ∷ own s 12)) [])) ≡ unsupported_answer 112
unfolding all table_in size_in is_whole all_whole unsupported_answer marked_at
met_3_marked =
    demand_3_marked head refl session (rest s 12) (application ∷ common ++ (loud ∷ own s 12)) (all_whole_lem (session ∷ rest s 12) refl) [] refl (lit≤ tt)
    (asked [])
    (marked_at (application ∷ common) (own s 12)) refl (let_pass (sar s 12) refl)

-- the marked one behind it: the answer given without it; and one unmarked before it: it stands 12 bytes later
behind_it : List Piece
behind_it = application ∷ plain ∷ common ++ own s 12

marked_behind : FirstMarked (dialect_of (under_cx 3588 0) head) (rest s 12) (behind_it ++ (loud ∷ []))
unfolding all behind_it
marked_behind =
    record {
      mark = loud;
      front = rest s 12;
      back = [];
      before = behind_it;
      after = [];
      row = refl;
      longer = refl;
      quiet = keep _ (put plain quiet_plain (kept (common ++ own s 12)));
      foreign = foreign_loud;
      marking = refl;
      rest = ending;
    }

wrong_type_lem : serve (asked (sar s 12)) ≡ blamed 144 (answer (number_bytes 268 5004) (failed (vendor_head 614 16 ++ word_bytes 12)))
unfolding all
wrong_type_lem = serve_sound (asked (sar s 12)) 2 sound_table ∙ come (asked (sar s 12)) roomy sound_table no_vectors refl

met_3_fault : serve (asked (request_of head (session ∷ behind_it ++ (loud ∷ [])) []))
    ≡ blamed 156 (answer (number_bytes 268 5004) (failed (vendor_head 614 16 ++ word_bytes 12)))
unfolding all is_whole all_whole behind_it marked_behind put_before kept
met_3_fault =
    demand_3_fault head refl session (rest s 12) (behind_it ++ (loud ∷ [])) (all_whole_lem (session ∷ rest s 12) refl) [] refl (lit≤ tt) (asked [])
    marked_behind refl
    ∙ ap (placed (place_now (keep session marked_behind.quiet))) wrong_type_lem

-- no 624, which after the walk is B5005; two identities in a SAR of type 1, which the decision calls B5009: the marked one goes before both
lacking624 : List Piece
lacking624 = application ∷ common ++ (vendor 601 (0x61 ∷ []) ∷ vendor 602 s ∷ vendor 614 (word_bytes 5) ∷ [])

many : List Piece
many = application ∷ common ++ (vendor 601 (0x62 ∷ []) ∷ own s 1)

met_3_missing : serve (asked (request_of head (session ∷ lacking624 ++ (loud ∷ [])) [])) ≡ unsupported_answer 160
unfolding all table_in size_in is_whole all_whole unsupported_answer marked_at lacking624
met_3_missing =
    demand_3_marked head refl session lacking624 (lacking624 ++ (loud ∷ [])) (all_whole_lem (session ∷ lacking624) refl) [] refl (lit≤ tt) (asked [])
    (marked_at lacking624 []) refl (let_pass (request_of head (session ∷ lacking624) []) refl)

met_3_many : serve (asked (request_of head (session ∷ many ++ (loud ∷ [])) [])) ≡ unsupported_answer 192
unfolding all table_in size_in is_whole all_whole unsupported_answer marked_at many
met_3_many =
    demand_3_marked head refl session many (many ++ (loud ∷ [])) (all_whole_lem (session ∷ many) refl) [] refl (lit≤ tt) (asked []) (marked_at many []) refl
    (let_pass (request_of head (session ∷ many) []) refl)

met_3_table : (serve (asked (request_of head (session ∷ many ++ (loud ∷ [])) []))).table ≡ table
unfolding all is_whole all_whole many
met_3_table = demand_3_table head refl session many (many ++ (loud ∷ [])) (all_whole_lem (session ∷ many) refl) [] refl (lit≤ tt) (asked []) (marked_at many [])

-- the SAR as bytes is such a header and row
met_3_any : Cut (sar s 5)
unfolding all all_bytes
met_3_any = demand_3_any (sar s 5) (λ i. (are_bytes (sar s 5) refl i).fits) refl refl

-- In one sentence: the SAR of type 5 with two unmarked ones put in, and with a marked one behind them.
cut_sar : Cut (sar s 5)
unfolding all is_whole all_whole
cut_sar =
    record {
      head = head;
      first = session;
      rest = rest s 5;
      tail = [];
      twenty = refl;
      whole = all_whole_lem (session ∷ rest s 5) refl;
      fours = refl;
      stops = refl;
      joined = refl;
    }

quietly : List Piece
quietly = application ∷ plain ∷ zero_vendor ∷ common ++ own s 5

loudly : List Piece
loudly = application ∷ plain ∷ loud ∷ common ++ own s 5

longer_quietly : Longer (under_cx 3588 0) (sar s 5) (request_of head (session ∷ quietly) [])
unfolding all quietly cut_sar
longer_quietly =
    record {
      cut = cut_sar;
      row = quietly;
      inserted = keep _ (put plain foreign_plain (put zero_vendor foreign_zero (kept (common ++ own s 5))));
      bytes = refl;
      most = lit≤ tt;
    }

longer_loudly : Longer (under_cx 3588 0) (sar s 5) (request_of head (session ∷ loudly) [])
unfolding all loudly cut_sar
longer_loudly =
    record {
      cut = cut_sar;
      row = loudly;
      inserted = keep _ (put plain foreign_plain (put loud foreign_loud (kept (common ++ own s 5))));
      bytes = refl;
      most = lit≤ tt;
    }

-- none of the two is marked: what comes of the longer one is what comes of the SAR
newer_none : (x : Lent) (longer head : List ℕ) (q : Piece) (now : ℕ → ℕ) (m : Option Mark) → m ≡ none → newer x longer head q now m ≡ placed now (serve x)
unfolding newer
newer_none x longer head q now m e = rw e

quietly_none : first_mark longer_quietly.inserted ≡ none
unfolding all quietly longer_quietly cut_sar first_mark kept
quietly_none = refl

met_3_quietly : serve (asked (request_of head (session ∷ quietly) [])) ≡ comes removed (answer (number_bytes 268 2001) [])
unfolding comes_to comes
met_3_quietly =
    (demand_3 (asked (sar s 5)) (request_of head (session ∷ quietly) []) longer_quietly).comes
    ∙ newer_none (asked (sar s 5)) (request_of head (session ∷ quietly) []) longer_quietly.cut.head longer_quietly.cut.first _
    (first_mark longer_quietly.inserted) quietly_none
    ∙ ap (placed _) removed_so

met_3_loudly : serve (asked (request_of head (session ∷ loudly) [])) ≡ unsupported_answer 76
unfolding all table_in size_in room loudly longer_loudly cut_sar first_mark newer kept unsupported_answer
met_3_loudly = (demand_3 (asked (sar s 5)) (request_of head (session ∷ loudly) []) longer_loudly).comes

met_3_left : (serve (asked (request_of head (session ∷ loudly) []))).table ≡ table
unfolding all loudly longer_loudly cut_sar first_mark kept
met_3_left = (demand_3 (asked (sar s 5)) (request_of head (session ∷ loudly) []) longer_loudly).table _ refl

-- The kinds that are known: the same under a command that is the Sh server's, so that its 700 is unknown here.
other_command : Lent
other_command = asked (request_of (head_of 0x32) (session ∷ rest s 5) [])

met_3_kinds : kinds_of (record { command = 306; terms = under_cx 3588 0 }) ≡ kinds_of_cx
unfolding all other_command
met_3_kinds = demand_3_kinds other_command refl

met_3_others : is_unknown (use_of (record { command = 306; terms = under_cx 3588 0 }) (vendor 700 (0x61 ∷ [])).avp) ≡ true
unfolding all other_command is_among
met_3_others = demand_3_others other_command refl (vendor 700 (0x61 ∷ [])).avp refl
