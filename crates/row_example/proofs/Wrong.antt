-- Wrong rows: each is a function here, and at a small row its outcome does not meet the promise; nor does that of any function which does the same there,
-- whatever else it does.
use Rattle.octets.specs.Standard.{ℕ, ◌+◌, ◌-◌, ◌*◌, ◌/◌, ◌%◌, ◌≤◌, List, [], ◌∷◌, ◌++◌, Bool, true, false, cond, true≢false, ◌≡◌, refl, sym, ap, ◌∙◌, arith}
use Rattle.octets.specs.Standard.{length, get_or, take, drop, length-take-le, length-drop, eqb, ltb, lt-ltb}
use Rattle.octets.specs.Run.{over}
use Rattle.counting.specs.Words.{long_bytes, words_bytes}
use Rattle.requests.specs.Request.{under_cx}
use Rattle.calling.specs.Lent.{Lent, lent, asking}
use Rattle.calling.specs.Serve.{Served, serve}
use Rattle.ndushavire.specs.Word.{row_word}
use Rattle.ndushavire.specs.Reads.{number_in, value_in}
use Rattle.ndushavire.specs.Promise.{RowPromise}
use Rattle.reporting.specs.Report.{requests_of}
use Rattle.report_numbers.proofs.Cut.{one_piece}
use Rattle.row_of_calls.specs.Row.{Rowed, answer_length, marks, no_room, next, rowed}
use Rattle.row_of_calls.specs.Word.{word, call_word}
use Rattle.worked_examples.proofs.Sample.{room}
use Rattle.report_example.proofs.Calls.{lir, removal, strayed, file, here, gone, each, lending, leaves, comes}
use Rattle.report_example.proofs.Cards.{fresh}
use Rattle.row_laws.specs.Reads.{altered_in}
use Rattle.row_laws.specs.Turns.{served_of, lent_after, words_by}
use Rattle.row_laws.proofs.Rows.{row_said, row_one}
use Rattle.row_example.proofs.Steps.{over_rest, next_from}
use Rattle.row_example.proofs.Small.{found, removed, unknown, opens, found_long, removed_long, unknown_long, found_served, removed_served}
use Rattle.row_example.proofs.Small.{unknown_served, strayed_served, found_alters, found_marks, area, words, area_long, words_long, month, month_is}
use Rattle.row_example.proofs.Small.{served_four, big, alone, tight, room_long, room_most}
use Rattle.row_example.proofs.Dealt.{dealing, cards, cards_is}

-- what a row leaves
record Left : Type 0 where
  word : ℕ
  table : List ℕ
  vectors : List ℕ
  answers : List ℕ
  words : List ℕ

abbrev Row : Type 0
Row = Lent → List ℕ → Left

abbrev Meets : Row → Lent → List ℕ → Type 0
Meets f x w = RowPromise x w (f x w).word (f x w).table (f x w).vectors (f x w).answers (f x w).words

-- The true one, which shows that the rows are no trap.
truly : Row
truly x w = let r = rowed x w in record { word = row_word r; table = r.table; vectors = r.vectors; answers = r.answers; words = r.words }

truly_meets : (x : Lent) (w : List ℕ) → Meets truly x w
unfolding truly
truly_meets x w = record { word_is = refl; table_is = refl; vectors_is = refl; answers_is = refl; words_is = refl }

-- One that is right in all but its word, or in all but the words.
word_as : ℕ → Row
word_as n x w = record { word = n; table = (truly x w).table; vectors = (truly x w).vectors; answers = (truly x w).answers; words = (truly x w).words }

words_as : List ℕ → Row
words_as ws x w = record { word = (truly x w).word; table = (truly x w).table; vectors = (truly x w).vectors; answers = (truly x w).answers; words = ws }

-- 1. one that stores a word the lowest byte first
low_bytes : ℕ → List ℕ
low_bytes n =
    (n % 256) ∷ (n / 256 % 256) ∷ (n / 65536 % 256) ∷ (n / 16777216 % 256) ∷ (n / 4294967296 % 256) ∷ (n / 1099511627776 % 256)
    ∷ (n / 281474976710656 % 256) ∷ (n / 72057594037927936 % 256) ∷ []

lowest_fails : (f : Row) → take 8 (f month words).words ≡ low_bytes 132 → Meets f month words → ⊥
unfolding low_bytes long_bytes
lowest_fails f e p =
    let true-one : take 8 (f month words).words ≡ long_bytes 132 = ap (take 8) (p.words_is ∙ ap (λ (r : Rowed). r.words) month_is) in
    let n : ◌≡◌ {A = ℕ} 132 0 = ap (λ (b : List ℕ). get_or b 0 0) (sym e ∙ true-one) in
    omega arith

low_words : List ℕ → List ℕ
low_words [] = []
low_words (n ∷ ns) = low_bytes n ++ low_words ns

lowest : Row
lowest x w = words_as (low_words (words_by x (served_of x w)) ++ drop (8 * (rowed x w).served) w) x w

lowest_does : take 8 (lowest month words).words ≡ low_bytes 132
unfolding lowest words_as low_words low_bytes words_by
lowest_does =
    let rest : List ℕ = drop (8 * (rowed month words).served) words in
    let more : List ℕ = low_words (words_by (next month lir) (removal ∷ lir ∷ strayed ∷ [])) in
    ap (λ (ps : List (List ℕ)). take 8 (low_words (words_by month ps) ++ rest)) served_four
    ∙ ap (λ (s : Served). take 8 ((low_bytes (call_word s.call) ++ more) ++ rest)) (found_served area big)

-- 2. one that does not count a refused request, so that three of the month's four have a word
uncounting_fails : (f : Row) → value_in (f month words).word ≡ 3 → Meets f month words → ⊥
uncounting_fails f e p =
    let n : value_in (f month words).word ≡ 4 = (row_said month words p).value ∙ ap (λ (r : Rowed). r.served) month_is in
    omega (arith, e, n)

-- the month's words
words_step : (x : Lent) (p : List ℕ) (ps : List (List ℕ)) (s : Served) (y : Lent) → serve (asking x p) ≡ s → next x p ≡ y
    → words_by x (p ∷ ps) ≡ call_word s.call ∷ words_by y ps
unfolding words_by
words_step x p ps s y e f =
    ap (λ (z : Served). call_word z.call ∷ words_by (next x p) ps) e ∙ ap (λ (z : Lent). call_word s.call ∷ words_by z ps) f

abbrev lent_on : List ℕ → List ℕ → Lent
lent_on t b = lent file t [] [] b (under_cx 3588 0)

abbrev b₁ : List ℕ
b₁ = drop 132 area

abbrev b₂ : List ℕ
b₂ = drop 116 b₁

abbrev b₃ : List ℕ
b₃ = drop 136 b₂

big₁ : 36864 ≤ length b₁
big₁ = omega (arith, area_long, length-drop 132 area)

big₂ : 36864 ≤ length b₂
big₂ = omega (arith, area_long, length-drop 132 area, length-drop 116 b₁)

big₃ : 36864 ≤ length b₃
big₃ = omega (arith, area_long, length-drop 132 area, length-drop 116 b₁, length-drop 136 b₂)

month_words : words_by month (lir ∷ removal ∷ lir ∷ strayed ∷ []) ≡ 132 ∷ 116 ∷ 136 ∷ word 4 0 0 ∷ []
unfolding words_by
month_words =
    words_step month lir (removal ∷ lir ∷ strayed ∷ []) (comes 132 here (over found area)) (lent_on here b₁) (found_served area big)
    (next_from month lir found 132 here [] found_long (found_served area big))
    ∙ ap (λ (ns : List ℕ). 132 ∷ ns)
    (words_step (lent_on here b₁) removal (lir ∷ strayed ∷ []) (comes 116 gone (over removed b₁)) (lent_on gone b₂) (removed_served b₁ big₁)
    (next_from (lent_on here b₁) removal removed 116 gone [] removed_long (removed_served b₁ big₁))
    ∙ ap (λ (ns : List ℕ). 116 ∷ ns)
    (words_step (lent_on gone b₂) lir (strayed ∷ []) (comes 136 gone (over unknown b₂)) (lent_on gone b₃) (unknown_served b₂ big₂)
    (next_from (lent_on gone b₂) lir unknown 136 gone [] unknown_long (unknown_served b₂ big₂))
    ∙ ap (λ (ns : List ℕ). 136 ∷ ns) (ap (λ (s : Served). call_word s.call ∷ []) (strayed_served b₃ big₃))))

answers_in : List ℕ → ℕ
answers_in [] = 0
answers_in (n ∷ ns) = cond (eqb (number_in n) 0) 1 0 + answers_in ns

uncounting : Row
uncounting x w = word_as (word (rowed x w).number (cond (rowed x w).altered 1 0 + cond (rowed x w).marked 2 0) (answers_in (words_by x (served_of x w)))) x w

uncounting_does : value_in (uncounting month words).word ≡ 3
unfolding uncounting word_as answers_in
uncounting_does =
    ap (λ (r : Rowed). value_in (word r.number (cond r.altered 1 0 + cond r.marked 2 0) (answers_in (words_by month (served_of month words))))) month_is
    ∙ ap (λ (ps : List (List ℕ)). value_in (word 7 1 (answers_in (words_by month ps)))) served_four
    ∙ ap (λ (ns : List ℕ). value_in (word 7 1 (answers_in ns))) month_words

-- 3. one that leaves a gap behind the first answer: its byte there is as it came
gap_fails : (f : Row) → get_or (f month words).answers 132 0 ≡ 9 → Meets f month words → ⊥
unfolding opens
gap_fails f e p =
    let n : get_or (f month words).answers 132 0 ≡ 1 =
    ap (λ (b : List ℕ). get_or b 132 0) (p.answers_is ∙ ap (λ (r : Rowed). r.answers) month_is) in
    omega (arith, e, n)

-- .. as where each answer has 36,864 bytes to itself
gap_from : Lent → List (List ℕ) → List ℕ
gap_from x [] = x.buffer
gap_from x (p ∷ ps) =
    let s : Served = serve (asking x p) in
    take 36864 s.buffer ++ gap_from (lent x.request s.table x.profile s.vectors (drop 36864 s.buffer) x.terms) ps

gapped : Row
gapped x w =
    record { word = (truly x w).word; table = (truly x w).table; vectors = (truly x w).vectors; answers = gap_from x (served_of x w); words = (truly x w).words }

gapped_does : get_or (gapped month words).answers 132 0 ≡ 9
unfolding gapped gap_from opens area
gapped_does =
    ap (λ (ps : List (List ℕ)). get_or (gap_from month ps) 132 0) served_four
    ∙ ap (λ (s : Served).
    get_or (take 36864 s.buffer
    ++ gap_from (lent file s.table [] s.vectors (drop 36864 s.buffer) (under_cx 3588 0)) (removal ∷ lir ∷ strayed ∷ [])) 132 0)
    (found_served area big)

-- 4. one that always says that a record was altered: one LIR alters none
marking_fails : (f : Row) → altered_in (f alone words).word ≡ true → Meets f alone words → ⊥
marking_fails f e p =
    let none : (rowed alone words).altered ≡ false =
    ap (λ (r : Rowed). r.altered) (row_one alone each.0 words (omega (arith, area_long)) (omega (arith, words_long)))
    ∙ found_alters area (omega (arith, area_long)) in
    true≢false (sym e ∙ (row_said alone words p).altered ∙ none)

always : Row
always x w = word_as (word (rowed x w).number (1 + cond (rowed x w).marked 2 0) (rowed x w).served) x w

always_does : altered_in (always alone words).word ≡ true
unfolding always word_as
always_does =
    ap (λ (r : Rowed). altered_in (word r.number (1 + cond r.marked 2 0) r.served))
    (row_one alone each.0 words big (omega (arith, words_long)))
    ∙ ap (λ (m : Bool). altered_in (word 0 (1 + cond m 2 0) 1)) (found_marks area big)

-- 5. one that ends by 15 before it looks for the file's end: behind the LIR there is no room for one more, and none is to come
hasty_fails : (f : Row) → number_in (f tight (take 8 words)).word ≡ 15 → Meets f tight (take 8 words) → ⊥
hasty_fails f e p =
    let n : (rowed tight (take 8 words)).number ≡ 0 =
    ap (λ (r : Rowed). r.number)
    (row_one tight each.0 (take 8 words) room_long (omega (arith, length-take-le 8 words (omega (arith, words_long))))) in
    omega (arith, e, (row_said tight (take 8 words) p).number, n)

hasty : Row
hasty x w =
    let left : ℕ = length (lent_after x (served_of x w)).buffer in
    let full : Bool = no_room left (length (drop (8 * (rowed x w).served) w)) (4294967295 - (rowed x w).served) in
    word_as (word (cond full 15 (rowed x w).number) (cond (rowed x w).altered 1 0 + cond (rowed x w).marked 2 0) (rowed x w).served) x w

hasty_does : number_in (hasty tight (take 8 words)).word ≡ 15
unfolding hasty word_as lent_after
hasty_does =
    let w : List ℕ = take 8 words in
    let l : length w ≡ 8 = length-take-le 8 words (omega (arith, words_long)) in
    let one : served_of tight w ≡ lir ∷ [] =
    ap (λ (r : Rowed). take r.served (requests_of tight)) (row_one tight each.0 w room_long (omega (arith, l))) ∙ ap (take 1) (one_piece lir each.0) in
    let left : lent_after tight (served_of tight w) ≡ lending lir here (drop 132 room) =
    ap (lent_after tight) one ∙ next_from tight lir found 132 here [] found_long (found_served room room_long) in
    let few : ltb (length (lent_after tight (served_of tight w)).buffer) 36864 ≡ true =
    ap (λ (y : Lent). ltb (length y.buffer) 36864) left ∙ lt-ltb (length (drop 132 room)) 36864 (omega (arith, length-drop 132 room, room_most)) in
    rw few
    (ap (λ (r : Rowed). number_in (word 15 (cond r.altered 1 0 + cond r.marked 2 0) r.served))
    (row_one tight each.0 w room_long (omega (arith, l)))
    ∙ ap (λ (a : Bool). number_in (word 15 (cond a 1 0 + cond (marks tight) 2 0) 1)) (found_alters room room_long)
    ∙ ap (λ (m : Bool). number_in (word 15 (cond false 1 0 + cond m 2 0) 1)) (found_marks room room_long))

-- 6. one that lends the first table to each request: the LIR after the removal would be answered as the one before it, in 132 bytes
apart_words : Lent → List (List ℕ) → List ℕ
apart_words x [] = []
apart_words x (p ∷ ps) =
    let s : Served = serve (asking x p) in
    call_word s.call
    ∷ apart_words (lent x.request x.table x.profile s.vectors (drop (answer_length s.call) s.buffer) x.terms) ps

forgetting : Row
forgetting x w = words_as (words_bytes (apart_words x (served_of x w)) ++ drop (8 * (rowed x w).served) w) x w

apart_step : (x : Lent) (p : List ℕ) (ps : List (List ℕ)) (bytes : List ℕ) (n : ℕ) (t v : List ℕ) → length bytes ≡ n
    → serve (asking x p) ≡ leaves n t v (over bytes x.buffer)
    → apart_words x (p ∷ ps) ≡ word 0 0 n ∷ apart_words (lent x.request x.table x.profile v (drop n x.buffer) x.terms) ps
unfolding apart_words
apart_step x p ps bytes n t v l e =
    ap (λ (s : Served).
    call_word s.call
    ∷ apart_words (lent x.request x.table x.profile s.vectors (drop (answer_length s.call) s.buffer) x.terms) ps) e
    ∙ ap (λ (b : List ℕ). word 0 0 n ∷ apart_words (lent x.request x.table x.profile v b x.terms) ps) (over_rest bytes x.buffer n l)

forgetting_does : take 8 (drop 16 (forgetting month words).words) ≡ long_bytes 132
unfolding forgetting words_as words_bytes long_bytes
forgetting_does =
    let rest : List ℕ = drop (8 * (rowed month words).served) words in
    let at : List ℕ → List ℕ = λ ns. take 8 (drop 16 (words_bytes ns ++ rest)) in
    ap (λ (ps : List (List ℕ)). at (apart_words month ps)) served_four
    ∙ ap at
    (apart_step month lir (removal ∷ lir ∷ strayed ∷ []) found 132 here [] found_long (found_served area big)
    ∙ ap (λ (ns : List ℕ). 132 ∷ ns)
    (apart_step (lent_on here b₁) removal (lir ∷ strayed ∷ []) removed 116 gone [] removed_long (removed_served b₁ big₁)
    ∙ ap (λ (ns : List ℕ). 116 ∷ ns) (apart_step (lent_on here b₂) lir (strayed ∷ []) found 132 here [] found_long (found_served b₂ big₂))))

forgetting_fails : (f : Row) → take 8 (drop 16 (f month words).words) ≡ long_bytes 132 → Meets f month words → ⊥
unfolding long_bytes
forgetting_fails f e p =
    let true-one : take 8 (drop 16 (f month words).words) ≡ long_bytes 136 =
    ap (λ (b : List ℕ). take 8 (drop 16 b)) (p.words_is ∙ ap (λ (r : Rowed). r.words) month_is) in
    let n : ◌≡◌ {A = ℕ} 132 136 = ap (λ (b : List ℕ). get_or b 7 0) (sym e ∙ true-one) in
    omega arith

-- nor does one that lends the first vectors to each: the second MAR would be sent the vector again, in 336 bytes
sparing_fails : (f : Row) → take 8 (drop 8 (f (cards area) words).words) ≡ long_bytes 336 → Meets f (cards area) words → ⊥
unfolding long_bytes
sparing_fails f e p =
    let true-one : take 8 (drop 8 (f (cards area) words).words) ≡ long_bytes 116 =
    ap (λ (b : List ℕ). take 8 (drop 8 b)) (p.words_is ∙ ap (λ (r : Rowed). r.words) cards_is) in
    let n : ◌≡◌ {A = ℕ} 80 116 = ap (λ (b : List ℕ). get_or b 7 0) (sym e ∙ true-one) in
    omega arith

-- nor one that leaves the table, or the vectors, as they came
unwriting_fails : (f : Row) → (f month words).table ≡ here → Meets f month words → ⊥
unfolding opens
unwriting_fails f e p =
    let n : ◌≡◌ {A = ℕ} 1 0 = ap (λ (t : List ℕ). get_or t 520 0) (sym e ∙ p.table_is ∙ ap (λ (r : Rowed). r.table) month_is) in
    omega arith

unspending_fails : (f : Row) → (f (cards area) words).vectors ≡ fresh → Meets f (cards area) words → ⊥
unfolding dealing
unspending_fails f e p =
    let n : ◌≡◌ {A = ℕ} 0 1 = ap (λ (v : List ℕ). get_or v 1 0) (sym e ∙ p.vectors_is ∙ ap (λ (r : Rowed). r.vectors) cards_is) in
    omega arith

-- 7. one that ends by 0 though bytes are left
ending_fails : (f : Row) → number_in (f month words).word ≡ 0 → Meets f month words → ⊥
ending_fails f e p =
    let n : number_in (f month words).word ≡ 7 = (row_said month words p).number ∙ ap (λ (r : Rowed). r.number) month_is in
    omega (arith, e, n)

-- 8. one that writes past its words: the month's four have 32 bytes, and the 33rd is as it came
past_fails : (f : Row) → get_or (f month words).words 32 0 ≡ 0 → Meets f month words → ⊥
unfolding long_bytes words
past_fails f e p =
    let n : get_or (f month words).words 32 0 ≡ 9 = ap (λ (b : List ℕ). get_or b 32 0) (p.words_is ∙ ap (λ (r : Rowed). r.words) month_is) in
    omega (arith, e, n)

-- The six functions above, none of which is a row.
wrong_rows : (Meets lowest month words → ⊥) × (Meets uncounting month words → ⊥) × (Meets gapped month words → ⊥) × (Meets always alone words → ⊥)
    × (Meets hasty tight (take 8 words) → ⊥) × (Meets forgetting month words → ⊥)
wrong_rows = (
  lowest_fails lowest lowest_does,
  uncounting_fails uncounting uncounting_does,
  gap_fails gapped gapped_does,
  marking_fails always always_does,
  hasty_fails hasty hasty_does,
  forgetting_fails forgetting forgetting_does,
)
