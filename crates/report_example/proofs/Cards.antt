-- A month of cards: two MARs of one private identity, each for one vector, over a file of one. The first is sent it and stores the server name, and for the
-- second none is left: table and vectors are carried along.
use Rattle.std.specs.Prelude.{Ok}
use Rattle.octets.specs.Standard.{ℕ, ◌≡◌, refl, ap, ◌∙◌, List, [], ◌∷◌, false, arith, lit≤}
use Rattle.requests.specs.Request.{under_cx}
use Rattle.octets.specs.Run.{over}
use Rattle.table.specs.Check.{check_table}
use Rattle.vectors.specs.VectorFile.{check_vectors}
use Rattle.diameter.specs.Put.{All}
use Rattle.pen.specs.Bytes.{number_bytes}
use Rattle.reading.specs.declared.Outcome.TheVariants.{Base}
use Rattle.counting.specs.Event.{Event}
use Rattle.calling.specs.Lent.{Lent, lent, table_only}
use Rattle.calling.proofs.Areas.{only_sound}
use Rattle.refusals.specs.Early.{small_buffer}
use Rattle.calling.specs.Serve.{serve_table}
use Rattle.reporting.specs.Row.{event_of, next, row, left}
use Rattle.reporting.specs.Report.{Reported, requests_of, ran, reported}
use Rattle.reporting.proofs.Areas.{reported_sound}
use Rattle.report_numbers.specs.Area.{word_in}
use Rattle.report_numbers.specs.File.{OneRequest, end_to_end}
use Rattle.report_numbers.specs.Turns.{events_of}
use Rattle.report_numbers.proofs.Ends.{area_long}
use Rattle.report_numbers.proofs.Numbers.{report_0_whole, report_over, report_word}
use Rattle.worked_examples.proofs.Computed.{come, roomy, unregistered_sound}
use Rattle.worked_examples.proofs.Sample.{room, reply, authentication, challenges, item, vector, one, waiting, s}
use Rattle.report_example.proofs.Calls.{leaves, stays, counts, counted_from, all}
use Rattle.report_example.proofs.Month.{area, enough, counting}

unfoldable pub mar : List ℕ
mar = authentication 1 s

abbrev pub marks : List (List ℕ)
marks = mar ∷ mar ∷ []

-- the vector file and the table before the first MAR and after it; the buffer, as each answer leaves it
unfoldable pub fresh : List ℕ
fresh = vector 0 0x70 1

unfoldable pub used : List ℕ
used = vector 1 0x70 1

unfoldable pub idle : List ℕ
idle = one 0 0 []

unfoldable pub named : List ℕ
named = waiting 0 s

unfoldable pub sent : List ℕ
sent = over (challenges 1 (item 1 1)) room

unfoldable pub denied : List ℕ
denied = over (reply 303 (number_bytes 268 5012) []) sent

unfoldable pub cards : Lent
cards = lent (end_to_end marks) idle [] fresh room (under_cx 3588 0)

unfoldable cards_all : ℕ
unfolding all mar fresh used idle named sent denied
cards_all = 0

pub idle_sound : check_table idle 0 ≡ Ok 1
unfolding idle
idle_sound = unregistered_sound

pub named_sound : check_table named 0 ≡ Ok 1
unfolding cards_all
named_sound = refl

fresh_sound : check_vectors fresh ≡ Ok 1
unfolding cards_all
fresh_sound = refl

used_sound : check_vectors used ≡ Ok 1
unfolding cards_all
used_sound = refl

-- what each call comes to, and how it is counted
pub sent_comes : serve_table (lent mar idle [] fresh room (under_cx 3588 0)) ≡ leaves 336 named used sent
unfolding cards_all
sent_comes = come (lent mar idle [] fresh room (under_cx 3588 0)) roomy idle_sound fresh_sound refl

sent_roomy : small_buffer sent ≡ false
sent_roomy = stays (lent mar idle [] fresh room (under_cx 3588 0)) 336 named used sent sent_comes idle_sound roomy

denied_comes : serve_table (lent mar named [] used sent (under_cx 3588 0)) ≡ leaves 116 named used denied
unfolding cards_all
denied_comes = come (lent mar named [] used sent (under_cx 3588 0)) sent_roomy named_sound used_sound refl

pub sent_counts : event_of (lent mar idle [] fresh room (under_cx 3588 0)) ≡ counts 303 (Base 2001) 336 1
unfolding cards_all
sent_counts = counted_from (lent mar idle [] fresh room (under_cx 3588 0)) 336 named used sent sent_comes idle_sound

denied_counts : event_of (lent mar named [] used sent (under_cx 3588 0)) ≡ counts 303 (Base 5012) 116 0
unfolding cards_all
denied_counts = counted_from (lent mar named [] used sent (under_cx 3588 0)) 116 named used denied denied_comes named_sound

-- the second MAR over the vectors as they came would be sent the same vector again
again_comes : serve_table (lent mar named [] fresh sent (under_cx 3588 0)) ≡ leaves 336 named used (over (challenges 1 (item 1 1)) sent)
unfolding cards_all
again_comes = come (lent mar named [] fresh sent (under_cx 3588 0)) sent_roomy named_sound fresh_sound refl

pub again_counts : event_of (lent mar named [] fresh sent (under_cx 3588 0)) ≡ counts 303 (Base 2001) 336 0
unfolding cards_all
again_counts = counted_from (lent mar named [] fresh sent (under_cx 3588 0)) 336 named used (over (challenges 1 (item 1 1)) sent) again_comes named_sound

-- the report: it ends by 0
each_mar : All OneRequest marks
unfolding cards_all
each_mar = (record { own = refl; least = lit≤ tt }, (record { own = refl; least = lit≤ tt }, tt))

cards_only : table_only cards ≡ cards
unfolding cards
cards_only = only_sound cards 1 idle_sound

cards_long : reported cards area ≡ ran cards area
unfolding cards
cards_long = reported_sound cards area 1 idle_sound ∙ area_long cards area enough

cards_read : (requests_of cards ≡ marks) × ((reported cards area).number ≡ 0)
unfolding cards
cards_read = report_0_whole cards area enough marks each_mar refl

pub cards_requests : requests_of cards ≡ marks
cards_requests = cards_read.0

after_sent : next cards mar ≡ lent (end_to_end marks) named [] used sent (under_cx 3588 0)
unfolding cards next
after_sent = rw sent_comes

after_denied : next (lent (end_to_end marks) named [] used sent (under_cx 3588 0)) mar ≡ lent (end_to_end marks) named [] used denied (under_cx 3588 0)
unfolding next
after_denied = rw denied_comes

abbrev pub dealt : List Event
dealt = counts 303 (Base 2001) 336 1 ∷ counts 303 (Base 5012) 116 0 ∷ []

cards_row : row cards (requests_of cards) ≡ dealt
unfolding row cards
cards_row = ap (row cards) cards_requests ∙ rw (after_sent, sent_counts, denied_counts)

pub cards_events : events_of cards ≡ dealt
cards_events = report_over cards (requests_of cards) ∙ ap (λ (y : Lent). row y (requests_of cards)) cards_only ∙ cards_row

cards_left : left cards (requests_of cards) ≡ lent (end_to_end marks) named [] used denied (under_cx 3588 0)
unfolding left
cards_left = ap (left cards) cards_requests ∙ rw (after_sent, after_denied)

pub cards_vectors : (reported cards area).vectors ≡ used
unfolding ran
cards_vectors = ap (λ (r : Reported). r.vectors) cards_long ∙ ap (λ (y : Lent). y.vectors) cards_left

-- one statement: 2 requests, 1 record altered, the largest answer of 336 bytes, a B2001 and a B5012 of the row 303; the table and the vectors afterwards
record Cards : Type 0 where
  number : (reported cards area).number ≡ 0
  table : (reported cards area).table ≡ named
  vectors : (reported cards area).vectors ≡ used
  buffer : (reported cards area).buffer ≡ denied
  requests : word_in (reported cards area).area 0 ≡ 2
  altered : word_in (reported cards area).area 2 ≡ 1
  largest : word_in (reported cards area).area 3 ≡ 336
  sends : word_in (reported cards area).area 95 ≡ 1
  denies : word_in (reported cards area).area 106 ≡ 1

reported_cards : Cards
unfolding ran counting
reported_cards =
    record {
      number = cards_read.1;
      table = ap (λ (r : Reported). r.table) cards_long ∙ ap (λ (y : Lent). y.table) cards_left;
      vectors = cards_vectors;
      buffer = ap (λ (r : Reported). r.buffer) cards_long ∙ ap (λ (y : Lent). y.buffer) cards_left;
      requests = report_word cards area enough 0 (omega arith) (omega arith) ∙ rw cards_events;
      altered = report_word cards area enough 2 (omega arith) (omega arith) ∙ rw cards_events;
      largest = report_word cards area enough 3 (omega arith) (omega arith) ∙ rw cards_events;
      sends = report_word cards area enough 95 (omega arith) (omega arith) ∙ rw cards_events;
      denies = report_word cards area enough 106 (omega arith) (omega arith) ∙ rw cards_events;
    }
