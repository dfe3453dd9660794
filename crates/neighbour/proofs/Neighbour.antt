-- 02 [9], "The neighbour's line", as theorems about `serve`, for anything lent: another subscriber's doings show in no answer. What the words mean is in
-- specs/Seen and specs/Mine.
use Rattle.std.specs.Prelude.{Ok}
use Rattle.octets.specs.Standard.{ℕ, ◌≡◌, sym, ◌∙◌, ap, ◌≢◌, List, arith, length}
use Rattle.record.specs.Fields.{private_of}
use Rattle.blocks.specs.Blocks.{block_of}
use Rattle.table.specs.Area.{table_in, check_area}
use Rattle.diameter.specs.Message.{command_of}
use Rattle.calling.specs.Call.{Answer, Answered}
use Rattle.calling.specs.Lent.{Lent}
use Rattle.refusals.specs.Early.{check_value}
use Rattle.calling.specs.Serve.{serve}
use Rattle.neighbour.specs.Seen.{header_apart, SameApart, records_of, SameHaving, SameSeen, bytes_of, SameAnswer}
use Rattle.neighbour.specs.Mine.{AboutMine, OtherLines, Turn, after_turns, AboutOthers}
use Rattle.neighbour.proofs.Records.{records_roomy}
use Rattle.neighbour.proofs.Calls.{same_answer, is_sound_lem}
use Rattle.neighbour.proofs.Others.{table_sound, mine_seen, lines_mine}
use Rattle.neighbour.proofs.Before.{row_answered, row_sound, row_seen}

-- THE THEOREM. "Take two sound tables with equal headers apart from count, issue and check word. Let them hold the same records .. Then the same UAR, SAR or
-- LIR gets the same answer bytes", of the same length, and the same place of the AVP at fault. The vector files, the buffers, the areas past the count, the
-- profile files apart from the bytes shown, and all other records may differ. It speaks of answers alone: the tables that the two calls leave may differ
-- where they differed before.
-- Two of these conditions could be left out, and are the document's: that the tables are sound follows from both calls being answered (`answered_sound`), and
-- no answer shows the edition (as `seen_alike/proofs/Moved` says of a move). Within the others some bytes show in no answer: a record's pending bit, and the
-- profile bytes of a record that is mine and is not asked about. The order is that of the names in every sound table.
pub neighbours_line : (x y : Lent) (count many : ℕ) → check_area x.table (length x.profile) ≡ Ok count
    → check_area y.table (length y.profile) ≡ Ok many → SameSeen x y count many → command_of x.request ≢ 303
    → (a b : Answer) → (serve x).call ≡ Answered a → (serve y).call ≡ Answered b → SameAnswer (serve x) (serve y) a b
neighbours_line = same_answer

pub answered_sound : (x : Lent) (a : Answer) → (serve x).call ≡ Answered a
    → check_area x.table (length x.profile) ≡ Ok (check_value (check_area x.table (length x.profile)))
answered_sound = is_sound_lem

-- IN A SUBSCRIBER'S WORDS. The same request about my subscription, on the same terms, over two tables with equal headers ..
module _ (x y : Lent) (count many : ℕ) (first : check_area x.table (length x.profile) ≡ Ok count)
    (second : check_area y.table (length y.profile) ≡ Ok many) (request : x.request ≡ y.request) (terms : x.terms ≡ y.terms)
    (header : SameApart header_apart (block_of (table_in x.table) 0) (block_of (table_in y.table) 0)) (mine : List ℕ) (here : AboutMine x count mine)
    (there : AboutMine y many mine) (apart : command_of x.request ≢ 303) (a b : Answer) (answer : (serve x).call ≡ Answered a)
    (other : (serve y).call ≡ Answered b) where
  -- .. gets the same answer if my records are the same in the same order, whatever stands before, between and behind them
  pub between_mine : SameHaving x y count many private_of mine → SameAnswer (serve x) (serve y) a b
  between_mine lines =
      same_answer x y count many first second
      (mine_seen x y count many (table_sound x count first) (table_sound y many second) mine request terms header here there lines) apart a b answer other

  -- .. and so it does if lines of other subscriptions are added, taken away or changed in whatever they say: states, names, barring, profile, sets
  pub other_lines : OtherLines x.profile y.profile mine (records_of x count) (records_of y many) → SameAnswer (serve x) (serve y) a b
  other_lines lines =
      between_mine
      (lines_mine x.profile y.profile mine lines (records_roomy (table_in x.table) count (table_sound x count first) count (omega arith))
      (records_roomy (table_in y.table) many (table_sound y many second) many (omega arith)))

-- Nor does any row of calls about others, made before mine, show in my answer, with whatever commands and on whatever terms: mine is answered as it was.
-- (A MAR is left aside here as it is above.)
pub calls_before : (x : Lent) (count : ℕ) → check_area x.table (length x.profile) ≡ Ok count → (mine : List ℕ) → AboutMine x count mine
    → (cs : List Turn) → AboutOthers mine count x cs → command_of x.request ≢ 303
    → (a : Answer) → (serve x).call ≡ Answered a
    → ((serve (after_turns x cs)).call ≡ Answered a) × (bytes_of (serve (after_turns x cs)) a ≡ bytes_of (serve x) a)
calls_before x count sound mine asked cs others apart a e =
    let f = row_answered mine count x cs asked sound others a e in
    let s : SameAnswer (serve x) (serve (after_turns x cs)) a f.0 =
    same_answer x (after_turns x cs) count count sound (row_sound mine count x cs asked sound others) (row_seen mine count x cs asked sound others) apart a
    f.0 e f.1 in
    (f.1 ∙ ap Answered (sym s.told), ap (bytes_of (serve (after_turns x cs))) s.told ∙ sym s.bytes)
