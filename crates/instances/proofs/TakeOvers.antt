-- Requests before, between and after a take-over: the theorems can be met by a removal over an area of two records and a new table of three, computed.
use Rattle.std.specs.Prelude.{Ok}
use Rattle.octets.specs.Standard.{ℕ, true, false, ◌≡◌, refl, ap, ◌∙◌, List, [], arith, eqb, ltb, ne_eqb, lt-ltb, lit<, lit≤}
use Rattle.record.specs.Fields.{count_of}
use Rattle.blocks.specs.Blocks.{block_of}
use Rattle.table.specs.Area.{check_area}
use Rattle.taking.specs.TakeOver.{take_over}
use Rattle.taking.specs.Torn.{lower_block}
use Rattle.taking.specs.Written.{cut_after, torn_after}
use Rattle.taking.specs.TakeOver.{Taken, refused}
use Rattle.requests.specs.Request.{under_cx}
use Rattle.calling.specs.Call.{Answered}
use Rattle.calling.specs.Lent.{Lent, lent, holding}
use Rattle.refusals.specs.Early.{early_trials}
use Rattle.calling.specs.Serve.{Served, serve_table, serve}
use Rattle.refusals.specs.Trial.{any_holds}
use Rattle.calling.proofs.Areas.{serve_sound}
use Rattle.ndushavire.specs.Word.{word, take_word}
use Rattle.ndushavire.specs.Reads.{ReadsTake}
use Rattle.demands.proofs.Demands.{taken_over}
use Rattle.demands.specs.TakingOver.{refusing, SameServed}
use Rattle.demands.proofs.TakingOver.{refused_so, after, between, torn_missing, torn_within, torn_all, torn_past}
use Rattle.taking_example.proofs.Sample.{none, one, two, three, roomy, opened}
use Rattle.taking_example.proofs.Worked.{old_sound, three_sound, roomy_table, roomy_reads, ten_next, answer, three_taken, only_one, two_counted}
use Rattle.worked_examples.proofs.Computed as computed
use Rattle.worked_examples.proofs.Sample.{room, s}
use Rattle.instances.proofs.Asked.{sar, all}

-- the SAR of type 5 over an area; the old one, two records of issue 5 with a block and a last piece behind them
abbrev over : List ℕ → Lent
over area = lent (sar s 5) area [] [] room (under_cx 3588 0)

passes : any_holds (early_trials (under_cx 3588 0) (sar s 5) room) ≡ false
unfolding all room
passes = refl

-- over the new table alone it is answered; so it is over the old area
new_call : (serve (over (three 6))).call ≡ Answered (record { length = 112; place = 0 })
unfolding all opened
new_call =
    ap (λ (y : Served). y.call)
    (serve_sound (over (three 6)) 3 three_sound
    ∙ computed.come (over (three 6)) {y = computed.known false (Ok 3) (Ok 0) (over (three 6))} computed.roomy three_sound computed.no_vectors refl)

old_call : (serve (over roomy)).call ≡ Answered (record { length = 112; place = 0 })
unfolding all opened
old_call =
    ap (λ (x : Lent). (serve_table x).call) (ap (holding (over roomy)) roomy_table)
    ∙ ap (λ (y : Served). y.call)
    (computed.come (over (two 5)) {y = computed.known false (Ok 2) (Ok 0) (over (two 5))} computed.roomy old_sound computed.no_vectors refl)

-- out of the word of the take-over the caller reads 3 records; one of an issue number that is not greater is refusal 10
reads_take : (area fresh : List ℕ) (m : Taken) → (take_over area fresh 0).taken ≡ m → ReadsTake m (take_word m)
reads_take area fresh m e = rw e at (taken_over area fresh [] {area' = (take_over area fresh 0).area} (record { word_is = refl; area_is = refl }))

met_taken_over : ReadsTake (Ok 3) 3
met_taken_over = reads_take roomy (three 6) (Ok 3) three_taken

met_taken_refused : ReadsTake (refused 10) (word 10 0 0)
met_taken_refused = reads_take (none 2 6) (one 6) (refused 10) (answer ten_next)

-- AFTER: as over the new table alone
met_after : SameServed (over (take_over roomy (three 6) 0).area) (over (three 6))
met_after = after (over roomy) (three 6) 3 three_taken

after_call : (serve (over (take_over roomy (three 6) 0).area)).call ≡ Answered (record { length = 112; place = 0 })
after_call = met_after.same.call ∙ new_call

-- BETWEEN, after two of the four blocks: refused by 5 with block 2, and everything stays
met_between : serve (over (cut_after roomy (three 6) 2)) ≡ refusing (over (cut_after roomy (three 6) 2)) 2
met_between = between (over roomy) (three 6) 3 three_taken passes 2 (lit< tt) (lit≤ tt)

-- In another order: the header alone is new; block 1 alone; block 3 alone, which nobody reads
met_torn_missing : serve (over (torn_after roomy (three 6) (λ (j : ℕ). ltb j 1))) ≡ refusing (over (torn_after roomy (three 6) (λ (j : ℕ). ltb j 1))) 1
met_torn_missing =
    torn_missing (over roomy) (three 6) 3 three_taken passes (λ (j : ℕ). ltb j 1) 1
    (record { from = lit< tt; to = lit≤ tt; here = refl; before = λ j l. lt-ltb j 1 l })

one_lower : lower_block 1 (check_area roomy 0) ≡ 1
one_lower = ap (lower_block 1) roomy_reads

met_torn_within : serve (over (torn_after roomy (three 6) (eqb 1))) ≡ refusing (over (torn_after roomy (three 6) (eqb 1))) 1
met_torn_within =
    torn_within (over roomy) (three 6) 3 three_taken passes (eqb 1) 1
    (record { from = lit< tt; to = lit≤ tt; within = two_counted; here = refl; before = only_one })
    ∙ ap (refusing (over (torn_after roomy (three 6) (eqb 1)))) one_lower

met_torn_all : SameServed (over (torn_after roomy (three 6) (λ (j : ℕ). true))) (over (three 6))
met_torn_all = torn_all (over roomy) (three 6) 3 three_taken (λ (j : ℕ). true) (λ j l. refl)

two_there : count_of (block_of roomy 0) ≡ 2
unfolding opened
two_there = refl

met_torn_past : SameServed (over (torn_after roomy (three 6) (eqb 3))) (over roomy)
met_torn_past = torn_past (over roomy) (three 6) 3 three_taken (eqb 3) (λ j l m. ne_eqb 3 j (omega (arith, m, two_there)))

past_call : (serve (over (torn_after roomy (three 6) (eqb 3)))).call ≡ Answered (record { length = 112; place = 0 })
past_call = met_torn_past.same.call ∙ old_call

-- "or is refused": whatever area checks so
met_refused_so : serve (over (torn_after roomy (three 6) (eqb 1))) ≡ refusing (over (torn_after roomy (three 6) (eqb 1))) 1
unfolding opened
met_refused_so = refused_so (over (torn_after roomy (three 6) (eqb 1))) 1 passes refl
