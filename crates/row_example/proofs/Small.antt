-- Small rows. The requests of report_example's month: where is `a`, its removal, where is it now, an answer that strayed into the file, and 3 bytes. And two
-- MARs of one private identity over a file of one vector.
use Rattle.octets.specs.Standard.{ℕ, ◌-◌, ◌≤◌, ◌<◌, List, [], ◌∷◌, true, false, ◌≡◌, refl, ap, ◌∙◌, arith, length, take, drop, length-drop}
use Rattle.octets.specs.Standard.{le-ltb, lt-ltb, replicate, length-replicate}
use Rattle.octets.specs.Run.{over}
use Rattle.pen.specs.Bytes.{vendor_bytes, number_bytes}
use Rattle.pen.specs.Groups.{experimental}
use Rattle.refusals.specs.Early.{small_buffer}
use Rattle.requests.specs.Request.{under_cx}
use Rattle.calling.specs.Call.{Refused}
use Rattle.calling.specs.Lent.{Lent, lent}
use Rattle.calling.specs.Serve.{serve}
use Rattle.calling.proofs.Areas.{serve_sound}
use Rattle.reporting.specs.Pieces.{pieces}
use Rattle.reporting.specs.Report.{requests_of, ended}
use Rattle.report_numbers.specs.File.{end_to_end}
use Rattle.row_of_calls.specs.Row.{Rowed, alters, marks, ends, row_from, rowed}
use Rattle.row_of_calls.specs.Word.{word}
use Rattle.row_laws.specs.Turns.{served_of}
use Rattle.worked_examples.proofs.Computed.{come, no_vectors}
use Rattle.worked_examples.proofs.Sample.{room, reply, answer, s}
use Rattle.report_example.proofs.Calls.{lir, removal, strayed, messages, file, here, gone, all, sound_here, sound_gone, lending, comes}
use Rattle.report_example.proofs.Month.{month_requests, month_stop}
use Rattle.report_example.proofs.Calls as sample
use Rattle.row_example.proofs.Steps.{roomed, after, answered_step, refused_step, full_step, altered_from, marked_from}

-- the answers
unfoldable pub found : List ℕ
found = reply 302 (number_bytes 268 2001) (vendor_bytes 602 s)

unfoldable pub removed : List ℕ
removed = answer (number_bytes 268 2001) []

unfoldable pub unknown : List ℕ
unknown = reply 302 (experimental 5003) []

unfoldable pub opens : ℕ
unfolding all found removed unknown
opens = 0

-- the four calls over any area of answers that has room
module _ (b : List ℕ) (room : 36864 ≤ length b) where
  roomy : small_buffer b ≡ false
  roomy = le-ltb (length b) 36864 room

  pub found_served : serve (lending lir here b) ≡ comes 132 here (over found b)
  unfolding opens
  found_served = serve_sound (lending lir here b) 1 sound_here ∙ come (lending lir here b) roomy sound_here no_vectors refl

  pub removed_served : serve (lending removal here b) ≡ comes 116 gone (over removed b)
  unfolding opens
  removed_served = serve_sound (lending removal here b) 1 sound_here ∙ come (lending removal here b) roomy sound_here no_vectors refl

  pub unknown_served : serve (lending lir gone b) ≡ comes 136 gone (over unknown b)
  unfolding opens
  unknown_served = serve_sound (lending lir gone b) 1 sound_gone ∙ come (lending lir gone b) roomy sound_gone no_vectors refl

  pub strayed_served : serve (lending strayed gone b) ≡ record { call = Refused 4 0; table = gone; vectors = []; buffer = b }
  unfolding opens
  strayed_served = serve_sound (lending strayed gone b) 1 sound_gone ∙ come (lending strayed gone b) roomy sound_gone no_vectors refl

  pub found_alters : alters (lending lir here b) ≡ false
  unfolding opens
  found_alters = altered_from (lending lir here b) (comes 132 here (over found b)) found_served sound_here

  pub removed_alters : alters (lending removal here b) ≡ true
  unfolding opens
  removed_alters = altered_from (lending removal here b) (comes 116 gone (over removed b)) removed_served sound_here

  unknown_alters : alters (lending lir gone b) ≡ false
  unfolding opens
  unknown_alters = altered_from (lending lir gone b) (comes 136 gone (over unknown b)) unknown_served sound_gone

  strayed_alters : alters (lending strayed gone b) ≡ false
  unfolding opens
  strayed_alters = altered_from (lending strayed gone b) _ strayed_served sound_gone

  pub found_marks : marks (lending lir here b) ≡ false
  unfolding opens
  found_marks = marked_from (lending lir here b) (comes 132 here (over found b)) found_served

  removed_marks : marks (lending removal here b) ≡ false
  unfolding opens
  removed_marks = marked_from (lending removal here b) (comes 116 gone (over removed b)) removed_served

  unknown_marks : marks (lending lir gone b) ≡ false
  unfolding opens
  unknown_marks = marked_from (lending lir gone b) (comes 136 gone (over unknown b)) unknown_served

  strayed_marks : marks (lending strayed gone b) ≡ false
  unfolding opens
  strayed_marks = marked_from (lending strayed gone b) _ strayed_served

-- the bytes of the answers
pub found_long : length found ≡ 132
unfolding opens
found_long = refl

pub removed_long : length removed ≡ 116
unfolding opens
removed_long = refl

pub unknown_long : length unknown ≡ 136
unfolding opens
unknown_long = refl

-- A request behind others, over any file that they are of.
module _ (f b w : List ℕ) (most : ℕ) (end : ℕ) (ps : List (List ℕ)) (room : 36864 ≤ length b) (space : 8 ≤ length w) (some : 1 ≤ most) where
  abbrev over_here : Lent
  over_here = lent f here [] [] b (under_cx 3588 0)

  abbrev over_gone : Lent
  over_gone = lent f gone [] [] b (under_cx 3588 0)

  pub find : row_from end over_here w most (lir ∷ ps)
      ≡ after found 132 false false (row_from end (lent f here [] [] (drop 132 b) (under_cx 3588 0)) (drop 8 w) (most - 1) ps)
  find =
      answered_step end over_here w most lir ps (roomed (length b) (length w) most room space some) found 132 here [] false false found_long
      (found_served b room) (found_alters b room) (found_marks b room)

  pub remove : row_from end over_here w most (removal ∷ ps)
      ≡ after removed 116 true false (row_from end (lent f gone [] [] (drop 116 b) (under_cx 3588 0)) (drop 8 w) (most - 1) ps)
  remove =
      answered_step end over_here w most removal ps (roomed (length b) (length w) most room space some) removed 116 gone [] true false removed_long
      (removed_served b room) (removed_alters b room) (removed_marks b room)

  pub miss : row_from end over_gone w most (lir ∷ ps)
      ≡ after unknown 136 false false (row_from end (lent f gone [] [] (drop 136 b) (under_cx 3588 0)) (drop 8 w) (most - 1) ps)
  miss =
      answered_step end over_gone w most lir ps (roomed (length b) (length w) most room space some) unknown 136 gone [] false false unknown_long
      (unknown_served b room) (unknown_alters b room) (unknown_marks b room)

  pub refuse : row_from end over_gone w most (strayed ∷ ps) ≡ after [] (word 4 0 0) false false (row_from end over_gone (drop 8 w) (most - 1) ps)
  refuse =
      refused_step end over_gone w most strayed ps (roomed (length b) (length w) most room space some) 4 false false
      (strayed_served b room) (strayed_alters b room) (strayed_marks b room)

-- THE MONTH AS A ROW: by 7, four words, three answers end to end, the record altered. `b` is the area of answers, `w` that of words.
abbrev pub lending_row : List ℕ → Lent
lending_row b = lent file here [] [] b (under_cx 3588 0)

pub file_pieces : pieces file ≡ messages
unfolding sample.month
file_pieces = month_requests

pub file_ended : ended file ≡ 7
unfolding ended all file end_to_end
file_ended = rw month_stop

module _ (b w : List ℕ) where
  abbrev pub small : Rowed
  small =
      after found 132 false false (after removed 116 true false (after unknown 136 false false (after [] (word 4 0 0) false false
      (ends 7 (lent file gone [] [] (drop 136 (drop 116 (drop 132 b))) (under_cx 3588 0)) (drop 8 (drop 8 (drop 8 (drop 8 w))))))))

  module _ (room : 37248 ≤ length b) (space : 32 ≤ length w) where
    pub small_is : rowed (lending_row b) w ≡ small
    unfolding row_from
    small_is =
        let b₁ : List ℕ = drop 132 b in
        let b₂ : List ℕ = drop 116 b₁ in
        let w₁ : List ℕ = drop 8 w in
        let w₂ : List ℕ = drop 8 w₁ in
        let a₁ = length-drop 132 b in
        let a₂ = length-drop 116 b₁ in
        let a₃ = length-drop 136 b₂ in
        let c₁ = length-drop 8 w in
        let c₂ = length-drop 8 w₁ in
        let c₃ = length-drop 8 w₂ in
        rw (file_pieces, file_ended)
        (find file b w 4294967295 7 (removal ∷ lir ∷ strayed ∷ []) (omega arith) (omega arith) (omega arith)
        ∙ ap (after found 132 false false)
        (remove file b₁ w₁ 4294967294 7 (lir ∷ strayed ∷ []) (omega (arith, a₁)) (omega (arith, c₁)) (omega arith)
        ∙ ap (after removed 116 true false)
        (miss file b₂ w₂ 4294967293 7 (strayed ∷ []) (omega (arith, a₁, a₂)) (omega (arith, c₁, c₂)) (omega arith)
        ∙ ap (after unknown 136 false false)
        (refuse file (drop 136 b₂) (drop 8 w₂) 4294967292 7 [] (omega (arith, a₁, a₂, a₃)) (omega (arith, c₁, c₂, c₃)) (omega arith)))))

  -- with room for two answers alone it ends by 15 before the third
  module _ (room : 36996 ≤ length b) (short : length b < 37112) (space : 16 ≤ length w) where
    abbrev pub full : Rowed
    full =
        after found 132 false false (after removed 116 true false
        (ends 15 (lent file gone [] [] (drop 116 (drop 132 b)) (under_cx 3588 0)) (drop 8 (drop 8 w))))

    pub full_is : rowed (lending_row b) w ≡ full
    full_is =
        let b₁ : List ℕ = drop 132 b in
        let w₁ : List ℕ = drop 8 w in
        let a₁ = length-drop 132 b in
        let a₂ = length-drop 116 b₁ in
        let c₁ = length-drop 8 w in
        rw (file_pieces, file_ended)
        (find file b w 4294967295 7 (removal ∷ lir ∷ strayed ∷ []) (omega arith) (omega arith) (omega arith)
        ∙ ap (after found 132 false false)
        (remove file b₁ w₁ 4294967294 7 (lir ∷ strayed ∷ []) (omega (arith, a₁)) (omega (arith, c₁)) (omega arith)
        ∙ ap (after removed 116 true false)
        (full_step 7 (lent file gone [] [] (drop 116 b₁) (under_cx 3588 0)) (drop 8 w₁) 4294967293 lir (strayed ∷ [])
        (lt-ltb (length (drop 116 b₁)) 36864 (omega (arith, a₁, a₂))))))

-- THE AREAS: bytes of 9, so that what is not written is told apart.
unfoldable pub area : List ℕ
area = replicate 40000 9

unfoldable pub words : List ℕ
words = replicate 40 9

pub area_long : length area ≡ 40000
unfolding area
area_long = length-replicate {A = ℕ} 40000 9

pub words_long : length words ≡ 40
unfolding words
words_long = length-replicate {A = ℕ} 40 9

abbrev pub month : Lent
month = lending_row area

pub month_is : rowed month words ≡ small area words
month_is = small_is area words (omega (arith, area_long)) (omega (arith, words_long))

pub served_four : served_of month words ≡ messages
served_four = ap (λ (r : Rowed). take r.served (requests_of month)) month_is ∙ ap (take 4) file_pieces

pub big : 36864 ≤ length area
big = omega (arith, area_long)

-- one LIR, and one with room for no more
abbrev pub alone : Lent
alone = lending lir here area

abbrev pub tight : Lent
tight = lending lir here room

pub room_most : length room ≡ 36864
unfolding room
room_most = length-replicate {A = ℕ} 36864 0

pub room_long : 36864 ≤ length room
room_long = omega (arith, room_most)
