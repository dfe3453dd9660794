-- Wrong reporters: each is a function here, and over the small month, or over that of the cards, its outcome does not meet the promise.
use Rattle.std.specs.Prelude.{Ok}
use Rattle.octets.specs.Standard.{ℕ, ◌^◌, ◌≤◌, ◌<◌, ◌≡◌, refl, sym, ap, ◌∙◌, ◌≢◌, false, List, [], ◌∷◌, ◌++◌, arith, length, get_or, set, length-set}
use Rattle.octets.specs.Standard.{get_or-set_other}
use Rattle.octets.specs.Run.{over}
use Rattle.diameter.specs.Message.{command_of}
use Rattle.pen.specs.Bytes.{number_bytes}
use Rattle.reading.specs.declared.Outcome.{Outcome}
use Rattle.reading.specs.declared.Outcome.TheVariants.{Base}
use Rattle.counting.specs.Counted.{word_at, counts_of}
use Rattle.counting.specs.Words.{words_bytes}
use Rattle.counting.specs.Event.{Event}
use Rattle.counting.proofs.Counts.{counts_length, counts_at}
use Rattle.requests.specs.Request.{under_cx}
use Rattle.calling.specs.Lent.{Lent, asking, lent, table_only}
use Rattle.calling.specs.Serve.{Served, serve}
use Rattle.calling.proofs.Areas.{only_sound, serve_sound}
use Rattle.ndushavire.specs.Word.{word}
use Rattle.ndushavire.specs.Reads.{number_in}
use Rattle.ndushavire.specs.Promise.{ReportPromise}
use Rattle.reporting.specs.Pieces.{stop_of}
use Rattle.reporting.specs.Row.{event_by, event_of, row}
use Rattle.reporting.specs.Report.{Reported, requests_of, reported}
use Rattle.report_numbers.specs.Area.{word_in}
use Rattle.report_numbers.specs.Turns.{events_of}
use Rattle.report_numbers.proofs.Numbers.{report_meant, report_word}
use Rattle.report_numbers.proofs.Words.{area_word}
use Rattle.worked_examples.proofs.Computed.{known, come, roomy, no_vectors}
use Rattle.worked_examples.proofs.Sample.{answer, room}
use Rattle.report_example.proofs.Calls.{lir, removal, strayed, here, gone, month, sound_here, lending, counts, counted_from, located_counts, all}
use Rattle.report_example.proofs.Cards.{mar, fresh, used, idle, named, sent, cards, idle_sound, named_sound}
use Rattle.report_example.proofs.Cards.{cards_requests, cards_events, cards_vectors, sent_comes, sent_counts, again_counts}
use Rattle.report_example.proofs.Month.{area, enough, month_requests, month_events, month_number, month_table, month_only, counting}
use Rattle.std.specs.Prelude.{Err}

-- what a report leaves
record Left : Type 0 where
  word : ℕ
  table : List ℕ
  vectors : List ℕ
  buffer : List ℕ
  area : List ℕ

abbrev Reporter : Type 0
Reporter = Lent → List ℕ → Left

abbrev Meets : Reporter → Lent → List ℕ → Type 0
Meets f x a = ReportPromise x a (f x a).word (f x a).table (f x a).vectors (f x a).buffer (f x a).area

-- The true one, which shows that the month is no trap.
truly : Reporter
truly x a =
    let r = reported x a in
    record { word = word r.number 0 0; table = r.table; vectors = r.vectors; buffer = r.buffer; area = r.area }

truly_meets : (x : Lent) (a : List ℕ) → Meets truly x a
unfolding truly
truly_meets x a = record { word_is = refl; table_is = refl; vectors_is = refl; buffer_is = refl; area_is = refl }

-- One that counts another row of outcomes, and is right in all else.
writes : (Lent → List Event) → Lent → List ℕ → List ℕ
writes row x a = over (words_bytes (set (counts_of (row x)) 1 (stop_of x.request))) a

counting_by : (Lent → List Event) → Reporter
counting_by row x a =
    record { word = (truly x a).word; table = (truly x a).table; vectors = (truly x a).vectors; buffer = (truly x a).buffer; area = writes row x a }

-- It is wrong where one of its counts is not that of the definitions.
module _ (row : Lent → List Event) (i n : ℕ) (small : i < 145) (other : i ≢ 1) (short : n < 2 ^ 64) where
  word_of : (x : Lent) (a : List ℕ) → 1160 ≤ length a → word_at (row x) i ≡ n → word_in (writes row x a) i ≡ n
  unfolding writes
  word_of x a space e =
      let ws = set (counts_of (row x)) 1 (stop_of x.request) in
      let l : length ws ≡ 145 = length-set (counts_of (row x)) 1 (stop_of x.request) ∙ counts_length (row x) in
      let there : get_or ws i 0 ≡ n = get_or-set_other (counts_of (row x)) 1 i (stop_of x.request) 0 other ∙ counts_at (row x) i small ∙ e in
      area_word ws a l space i small (rw there short) ∙ there

  other_fails : (x : Lent) (a : List ℕ) → 1160 ≤ length a → word_at (row x) i ≡ n → word_at (events_of x) i ≢ n
      → Meets (counting_by row) x a → ⊥
  unfolding counting_by truly
  other_fails x a space e differs p =
      differs (sym (report_word x a space i small other) ∙ ap (λ (b : List ℕ). word_in b i) (sym p.area_is) ∙ word_of x a space e)

-- 1. one that does not carry the table along: each request is decided over the table as it came
apart : Lent → List (List ℕ) → List Event
apart x [] = []
apart x (p ∷ ps) = event_of (table_only (asking x p)) ∷ apart x ps

forgetting : Reporter
forgetting = counting_by (λ (x : Lent). apart x (requests_of x))

-- the LIR after the removal would find the line again: B2001 twice, where the definitions have it once
removed_apart : event_of (lending removal here room) ≡ counts 301 (Base 2001) 116 1
unfolding all
removed_apart =
    counted_from (lending removal here room) 116 gone [] (over (answer (number_bytes 268 2001) []) room)
    (come (lending removal here room) roomy sound_here no_vectors refl) sound_here

strayed_apart : event_of (lending strayed here room) ≡ Err 4
unfolding all event_of
strayed_apart =
    let x = lending strayed here room in
    ap (λ (y : Served). event_by x y.call) (come x {y = known false (Ok 1) (Ok 0) x} roomy sound_here no_vectors refl)

apart_month : apart month (requests_of month)
    ≡ counts 302 (Base 2001) 132 0 ∷ counts 301 (Base 2001) 116 1 ∷ counts 302 (Base 2001) 132 0 ∷ Err 4 ∷ []
unfolding apart month
apart_month =
    ap (apart month) month_requests
    ∙ ap (λ (y : Lent). event_of (asking y lir) ∷ event_of (asking y removal) ∷ event_of (asking y lir) ∷ event_of (asking y strayed) ∷ []) month_only
    ∙ rw (located_counts, removed_apart, strayed_apart)

true_70 : word_at (events_of month) 70 ≡ 1
unfolding counting
true_70 = rw month_events

forgetting_fails : Meets forgetting month area → ⊥
unfolding forgetting counting
forgetting_fails =
    other_fails (λ (x : Lent). apart x (requests_of x)) 70 2 (omega arith) (omega arith) (omega arith) month area enough (rw apart_month)
    (λ e. omega (arith, true_70, e))

-- nor does one that leaves the table as it came, whatever else it does
unwriting_fails : (f : Reporter) → (f month area).table ≡ here → Meets f month area → ⊥
unfolding all
unwriting_fails f e p =
    let n : ◌≡◌ {A = ℕ} 1 0 = ap (λ (t : List ℕ). get_or t 520 0) (sym e ∙ p.table_is ∙ month_table) in
    omega arith

-- nor one that does not carry the vectors along: each request is decided over the vector file as it came
unspent : Lent → List (List ℕ) → List Event
unspent x [] = []
unspent x (p ∷ ps) =
    let s = serve (asking x p) in
    event_of (table_only (asking x p)) ∷ unspent (lent x.request s.table x.profile x.vectors s.buffer x.terms) ps

sparing : Reporter
sparing = counting_by (λ (x : Lent). unspent x (requests_of x))

-- the second MAR would be sent the vector again: B2001 twice, where the definitions have it once
unspent_cards : unspent cards (requests_of cards) ≡ counts 303 (Base 2001) 336 1 ∷ counts 303 (Base 2001) 336 0 ∷ []
unfolding unspent cards
unspent_cards =
    let x = lent mar idle [] fresh room (under_cx 3588 0) in
    ap (unspent cards) cards_requests
    ∙ ap (λ (y : Lent). event_of y ∷ event_of (table_only (lent mar (serve x).table [] fresh (serve x).buffer (under_cx 3588 0))) ∷ [])
    (only_sound x 1 idle_sound)
    ∙ ap (λ (s : Served). event_of x ∷ event_of (table_only (lent mar s.table [] fresh s.buffer (under_cx 3588 0))) ∷ [])
    (serve_sound x 1 idle_sound ∙ sent_comes)
    ∙ ap (λ (y : Lent). event_of x ∷ event_of y ∷ []) (only_sound (lent mar named [] fresh sent (under_cx 3588 0)) 1 named_sound)
    ∙ rw (sent_counts, again_counts)

true_95 : word_at (events_of cards) 95 ≡ 1
unfolding counting
true_95 = rw cards_events

sparing_fails : Meets sparing cards area → ⊥
unfolding sparing counting
sparing_fails =
    other_fails (λ (x : Lent). unspent x (requests_of x)) 95 2 (omega arith) (omega arith) (omega arith) cards area enough (rw unspent_cards)
    (λ e. omega (arith, true_95, e))

-- nor does one that leaves the vectors as they came, whatever else it does
unspending_fails : (f : Reporter) → (f cards area).vectors ≡ fresh → Meets f cards area → ⊥
unfolding all fresh used
unspending_fails f e p =
    let v : (f cards area).vectors ≡ used = p.vectors_is ∙ cards_vectors in
    let n : ◌≡◌ {A = ℕ} 0 1 = ap (λ (v : List ℕ). get_or v 1 0) (sym e ∙ v) in
    omega arith

-- 2. one that counts a refused request under its command, as if it were answered by some result
under : Outcome → List ℕ → Event → Event
under o p (Ok e) = Ok e
under o p (Err n) = Ok (record { command = command_of p; result = o; length = 0; altered = 0 })

under_all : Outcome → List (List ℕ) → List Event → List Event
under_all o [] es = []
under_all o (p ∷ ps) [] = []
under_all o (p ∷ ps) (e ∷ es) = under o p e ∷ under_all o ps es

naming : Outcome → Reporter
naming o = counting_by (λ (x : Lent). under_all o (requests_of x) (events_of x))

-- the message with the R bit clear would be a fourth answer
true_4 : word_at (events_of month) 4 ≡ 3
unfolding counting
true_4 = rw month_events

naming_fails : (o : Outcome) → Meets (naming o) month area → ⊥
unfolding naming under under_all counting
naming_fails o =
    other_fails (λ (x : Lent). under_all o (requests_of x) (events_of x)) 4 4 (omega arith) (omega arith) (omega arith) month area enough
    (rw (month_events, month_requests))
    (λ e. omega (arith, true_4, e))

-- 3. one that counts the broken piece too, in any way
scraping : (Lent → Event) → Reporter
scraping last = counting_by (λ (x : Lent). events_of x ++ (last x ∷ []))

true_0 : word_at (events_of month) 0 ≡ 4
unfolding counting
true_0 = rw month_events

scraping_fails : (last : Lent → Event) → Meets (scraping last) month area → ⊥
unfolding scraping counting
scraping_fails last =
    other_fails (λ (x : Lent). events_of x ++ (last x ∷ [])) 0 5 (omega arith) (omega arith) (omega arith) month area enough (rw month_events)
    (λ e. omega (arith, true_0, e))

-- 4. one that ends by 0 though bytes are left, whatever else it does
ending_fails : (f : Reporter) → number_in (f month area).word ≡ 0 → Meets f month area → ⊥
ending_fails f e p =
    let n : number_in (f month area).word ≡ 7 = sym (ap (λ (r : Reported). r.number) (report_meant month area p).0) ∙ month_number in
    omega (arith, e, n)
