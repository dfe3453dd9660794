-- The word of a move is read back, and no answer shows a move: the hypotheses can be met by the table in both editions and the removal, computed.
use Rattle.std.specs.Prelude.{Ok, Err}
use Rattle.octets.specs.Standard.{ℕ, ◌≡◌, refl, sym, ap, ◌∙◌, List, [], ◌++◌, take, set, lit<}
use Rattle.octets.specs.Run.{over}
use Rattle.table.specs.Check.{check_table}
use Rattle.pen.specs.Bytes.{number_bytes}
use Rattle.moving.specs.Moves.{moved, moved_all, no_set, first_set}
use Rattle.moving.specs.Outcomes.{AfterMove, came, refusing, forward_sound, back_past, back_sound, forward_checked, back_checked, forward, back}
use Rattle.moving.specs.Outcomes.{Move, refused}
use Rattle.calling.specs.Call.{Answered}
use Rattle.calling.specs.Lent.{Lent, holding}
use Rattle.calling.specs.Serve.{Served, SameCall, serve_table, serve}
use Rattle.calling.proofs.Areas.{serve_sound}
use Rattle.ndushavire.specs.Word.{word, move_word}
use Rattle.ndushavire.specs.Reads.{ReadsMove}
use Rattle.demands.proofs.Demands.{moved_forward, moved_back}
use Rattle.seen_alike.proofs.Moved.{forward_answers, back_answers}
use Rattle.worked_examples.proofs.Computed.{come, roomy, no_vectors}
use Rattle.worked_examples.proofs.Sample.{checked, header, person, room, answer, s}
use Rattle.instances.proofs.Asked.{table, sar, asked, comes, all}
use Rattle.instances.proofs.Calls.{sound_table, removal}
use Rattle.sets_example.proofs.Family as family

-- the table in edition 2, of issue number 7, block by block, and it after `a` was removed
unfoldable later : List ℕ → List ℕ
later b = checked (take 508 (set (set b 1 2) 411 7))

unfoldable second : List ℕ
second = later (header 2 0) ++ (later (person 1 0x61 0x70 1 s) ++ later (person 2 0x62 0x71 1 s))

unfoldable remaining : List ℕ
remaining = later (header 2 0) ++ (later (person 1 0x61 0x70 0 []) ++ later (person 2 0x62 0x71 1 s))

-- the moves, computed
there : forward table 0 7 ≡ came (Ok 2) second
unfolding all later second moved moved_all forward_sound forward_checked forward
there = ap (forward_checked table 7) sound_table

sound_second : check_table second 0 ≡ Ok 2
unfolding all later second
sound_second = refl

again : back second 0 ≡ came (Ok 2) table
unfolding all later second moved moved_all no_set first_set back_past back_sound back_checked back
again = ap (back_checked second) sound_second

-- out of the word of each the caller reads 2 records; the move back from a family with a set is refusal 8, block 1
reads_forward : (m : Move) → (forward table 0 7).move ≡ m → ReadsMove m (move_word m)
reads_forward m e = rw e at (moved_forward table [] 7 {t' = (forward table 0 7).table} (record { word_is = refl; table_is = refl }))

reads_back : (t : List ℕ) (m : Move) → (back t 0).move ≡ m → ReadsMove m (move_word m)
reads_back t m e = rw e at (moved_back t [] {t' = (back t 0).table} (record { word_is = refl; table_is = refl }))

met_moved_forward : ReadsMove (Ok 2) 2
met_moved_forward = reads_forward (Ok 2) (ap (λ (o : AfterMove). o.move) there)

met_moved_back : ReadsMove (Ok 2) 2
met_moved_back = reads_back second (Ok 2) (ap (λ (o : AfterMove). o.move) again)

with_set : back (family.family 0 0 []) 0 ≡ refusing (family.family 0 0 []) 8 1
unfolding all family.head family.line family.family no_set first_set back_past back_sound back_checked back
with_set = ap (back_checked (family.family 0 0 [])) family.family_sound

met_moved_refused : ReadsMove (refused 8 1) (word 8 0 1)
met_moved_refused = reads_back (family.family 0 0 []) (refused 8 1) (ap (λ (o : AfterMove). o.move) with_set)

-- refusal 5: the other edition's table, block 0; and an unsound one, its bad block
met_moved_other : ReadsMove (refused 5 0) (word 5 0 0)
unfolding all back_sound back_checked back
met_moved_other = reads_back table (refused 5 0) (ap (λ (o : AfterMove). o.move) (ap (back_checked table) sound_table))

abbrev apart : List ℕ
apart = family.pair 0x70 1 2 0 s

bad_apart : check_table apart 0 ≡ Err 2
unfolding all family.head family.line family.pair
bad_apart = refl

met_moved_unsound : ReadsMove (refused 5 2) (word 5 0 2)
unfolding back_checked back
met_moved_unsound = reads_back apart (refused 5 2) (ap (λ (o : AfterMove). o.move) (ap (back_checked apart) bad_apart))

-- the removal, and the same over edition 2: its answer, computed, and the table afterwards, which keeps edition and issue number
abbrev x : Lent
x = asked (sar s 5)

abbrev y : Lent
y = holding x second

computed : serve_table y ≡ comes remaining (answer (number_bytes 268 2001) [])
unfolding all later second remaining
computed = come y roomy sound_second no_vectors refl

-- both are sound, so that a call over each as an area is one over the table
serve_x : serve x ≡ serve_table x
unfolding all
serve_x = serve_sound x 2 sound_table

serve_y : serve y ≡ serve_table y
serve_y = serve_sound y 2 sound_second

-- The theorems at them: over edition 2 it is answered as over edition 1, and over edition 1 as over edition 2.
met_forward_answers : SameCall (serve x) (serve y)
met_forward_answers = rw (← ap (λ (o : AfterMove). o.table) there) (forward_answers x 7 2 (lit< tt) (ap (λ (o : AfterMove). o.move) there))

met_back_answers : SameCall (serve y) (serve x)
met_back_answers = rw (← ap (λ (o : AfterMove). o.table) again) (back_answers y 2 (ap (λ (o : AfterMove). o.move) again))

-- and the one is read off the other: 116 bytes, and which
forward_call : (serve y).call ≡ Answered (record { length = 116; place = 0 })
unfolding all
forward_call = sym met_forward_answers.call ∙ ap (λ (r : Served). r.call) (serve_x ∙ removal)

forward_buffer : (serve y).buffer ≡ over (answer (number_bytes 268 2001) []) room
unfolding all
forward_buffer = sym met_forward_answers.buffer ∙ ap (λ (r : Served). r.buffer) (serve_x ∙ removal)

back_call : (serve x).call ≡ Answered (record { length = 116; place = 0 })
unfolding all second remaining
back_call = sym met_back_answers.call ∙ ap (λ (r : Served). r.call) (serve_y ∙ computed)
