-- A row of cards: two MARs of one private identity, each for one vector, over a file of one. The first is sent it and stores the server name, and for the
-- second none is left: table and vectors are carried along within the row.
use Rattle.std.specs.Prelude.{Ok}
use Rattle.octets.specs.Standard.{ℕ, ◌≤◌, List, [], ◌∷◌, true, false, ◌≡◌, refl, sym, ap, ◌∙◌, arith, length, drop, length-drop, le-ltb, lit≤}
use Rattle.octets.specs.Run.{over}
use Rattle.vectors.specs.VectorFile.{check_vectors}
use Rattle.diameter.specs.Put.{All}
use Rattle.pen.specs.Bytes.{number_bytes}
use Rattle.refusals.specs.Early.{small_buffer}
use Rattle.requests.specs.Request.{under_cx}
use Rattle.calling.specs.Lent.{Lent, lent}
use Rattle.calling.specs.Serve.{serve}
use Rattle.calling.proofs.Areas.{serve_sound}
use Rattle.reporting.specs.Pieces.{pieces}
use Rattle.reporting.specs.Report.{ended}
use Rattle.report_numbers.specs.File.{OneRequest, end_to_end}
use Rattle.report_numbers.proofs.Numbers.{report_0_whole}
use Rattle.row_of_calls.specs.Row.{Rowed, alters, marks, ends, row_from, rowed}
use Rattle.worked_examples.proofs.Computed.{come}
use Rattle.worked_examples.proofs.Sample.{reply, challenges, item}
use Rattle.report_example.proofs.Calls.{leaves, all}
use Rattle.report_example.proofs.Cards.{mar, fresh, used, idle, named, idle_sound, named_sound}
use Rattle.row_laws.proofs.Ends.{area_room, ended_report}
use Rattle.row_laws.proofs.Ends as ends_of
use Rattle.row_example.proofs.Small.{area, words, area_long, words_long}
use Rattle.row_example.proofs.Steps.{roomed, after, answered_step, altered_from, marked_from}

unfoldable pub sent : List ℕ
sent = challenges 1 (item 1 1)

unfoldable pub denied : List ℕ
denied = reply 303 (number_bytes 268 5012) []

unfoldable pub dealing : ℕ
unfolding all mar fresh used idle named sent denied
dealing = 0

abbrev pub both : List (List ℕ)
both = mar ∷ mar ∷ []

abbrev pub cards : List ℕ → Lent
cards b = lent (end_to_end both) idle [] fresh b (under_cx 3588 0)

each : All OneRequest both
unfolding dealing
each = (record { own = refl; least = lit≤ tt }, (record { own = refl; least = lit≤ tt }, tt))

pub cards_pieces : pieces (end_to_end both) ≡ both
cards_pieces = (report_0_whole (cards []) (ends_of.area (cards [])) (area_room (cards [])) both each refl).0

cards_ended : ended (end_to_end both) ≡ 0
cards_ended = sym (ended_report (cards [])) ∙ (report_0_whole (cards []) (ends_of.area (cards [])) (area_room (cards [])) both each refl).1

fresh_sound : check_vectors fresh ≡ Ok 1
unfolding dealing
fresh_sound = refl

used_sound : check_vectors used ≡ Ok 1
unfolding dealing
used_sound = refl

module _ (b : List ℕ) (room : 36864 ≤ length b) where
  roomy : small_buffer b ≡ false
  roomy = le-ltb (length b) 36864 room

  abbrev first : Lent
  first = lent mar idle [] fresh b (under_cx 3588 0)

  abbrev second : Lent
  second = lent mar named [] used b (under_cx 3588 0)

  pub sent_served : serve first ≡ leaves 336 named used (over sent b)
  unfolding dealing
  sent_served = serve_sound first 1 idle_sound ∙ come first roomy idle_sound fresh_sound refl

  denied_served : serve second ≡ leaves 116 named used (over denied b)
  unfolding dealing
  denied_served = serve_sound second 1 named_sound ∙ come second roomy named_sound used_sound refl

  sent_alters : alters first ≡ true
  unfolding dealing
  sent_alters = altered_from first (leaves 336 named used (over sent b)) sent_served idle_sound

  denied_alters : alters second ≡ false
  unfolding dealing
  denied_alters = altered_from second (leaves 116 named used (over denied b)) denied_served named_sound

  pub sent_marks : marks first ≡ true
  unfolding dealing
  sent_marks = marked_from first (leaves 336 named used (over sent b)) sent_served

  denied_marks : marks second ≡ false
  unfolding dealing
  denied_marks = marked_from second (leaves 116 named used (over denied b)) denied_served

sent_long : length sent ≡ 336
unfolding dealing
sent_long = refl

denied_long : length denied ≡ 116
unfolding dealing
denied_long = refl

module _ (b w : List ℕ) where
  abbrev pub dealt : Rowed
  dealt =
      after sent 336 true true (after denied 116 false false
      (ends 0 (lent (end_to_end both) named [] used (drop 116 (drop 336 b)) (under_cx 3588 0)) (drop 8 (drop 8 w))))

  pub dealt_is : 37200 ≤ length b → 16 ≤ length w → rowed (cards b) w ≡ dealt
  unfolding row_from
  dealt_is room space =
      let y : Lent = lent (end_to_end both) named [] used (drop 336 b) (under_cx 3588 0) in
      let a₁ = length-drop 336 b in
      let c₁ = length-drop 8 w in
      rw (cards_pieces, cards_ended)
      (answered_step 0 (cards b) w 4294967295 mar (mar ∷ []) (roomed (length b) (length w) 4294967295 (omega arith) (omega arith) (omega arith)) sent 336
      named used true true sent_long (sent_served b (omega arith)) (sent_alters b (omega arith)) (sent_marks b (omega arith))
      ∙ ap (after sent 336 true true)
      (answered_step 0 y (drop 8 w) 4294967294 mar []
      (roomed (length (drop 336 b)) (length (drop 8 w)) 4294967294 (omega (arith, a₁)) (omega (arith, c₁)) (omega arith)) denied 116 named used false false
      denied_long (denied_served (drop 336 b) (omega (arith, a₁))) (denied_alters (drop 336 b) (omega (arith, a₁)))
      (denied_marks (drop 336 b) (omega (arith, a₁)))))

pub cards_is : rowed (cards area) words ≡ dealt area words
cards_is = dealt_is area words (omega (arith, area_long)) (omega (arith, words_long))
