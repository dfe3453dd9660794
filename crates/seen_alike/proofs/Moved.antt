-- A move between editions shows in no answer: what it writes no request can see. A table that was moved has its exact length, and a call over it as an area is
-- one over the table.
use Rattle.std.specs.Prelude.{Ok}
use Rattle.octets.specs.Standard.{ℕ, zero, suc, ◌^◌, ◌<◌, ◌≤◌, ◌≡◌, sym, false, List, arith, length, ne_eqb, lt-leb}
use Rattle.blocks.specs.Blocks.{block_of}
use Rattle.table.specs.Check.{check_table}
use Rattle.table.specs.SoundTable.{SoundTable}
use Rattle.blocks.proofs.Blocks.{block_length}
use Rattle.table.proofs.Sound.{sound_block}
use Rattle.moving.specs.Carried.{movable, Carried}
use Rattle.moving.specs.Outcomes.{forward, back}
use Rattle.moving.specs.Conditions.{TableMoved}
use Rattle.moving.proofs.Moving.{forward_sound_lem, forward_keeps, forward_moved, back_sound_lem, back_keeps, back_moved}
use Rattle.calling.specs.Lent.{Lent, holding}
use Rattle.calling.specs.Serve.{SameCall, check_of, serve}
use Rattle.calling.proofs.Areas.{serve_sound}
use Rattle.seen_alike.specs.Alike.{AlikeTables}
use Rattle.seen_alike.proofs.Likeness.{serve_alike}

-- the bytes that a request can see are none that a move may write
still : (i : ℕ) → 2 ≤ i → i < 408 → movable i ≡ false
still i a b = rw (ne_eqb i 1 (omega arith), lt-leb 408 i (omega arith), lt-leb 508 i (omega arith))

module _ (x : Lent) (y : List ℕ) (count edition issue : ℕ) (first : check_of x ≡ Ok count) (second : check_table y (length x.profile) ≡ Ok count)
    (same : TableMoved x.table y count edition issue) where
  carried : (k : ℕ) → k ≤ count → Carried (block_of x.table k) (block_of y k)
  carried zero h = same.header.bytes
  carried (suc k) h = (same.records (suc k) (omega arith) h).bytes

  was : SoundTable x.table count
  was = record { file = length x.profile; checked = first }

  is : SoundTable y count
  is = record { file = length x.profile; checked = second }

  alike : AlikeTables x.table y count
  alike = record {
    blocks =
        λ k h.
        record {
          whole = block_length x.table k (sound_block x.table count was k h);
          other_whole = block_length y k (sound_block y count is k h);
          bytes = λ i a b. sym ((carried k h).bytes i (omega arith) (still i a b));
        };
  }

  answers_same : SameCall (serve x) (serve (holding x y))
  answers_same = rw (serve_sound x count first, serve_sound (holding x y) count second) (serve_alike x y count first second alike)

-- "no answer depends on edition or issue": a request gets the same answer before and after a move
pub forward_answers : (x : Lent) (issue count : ℕ) → issue < 2 ^ 32 → (forward x.table (length x.profile) issue).move ≡ Ok count
    → SameCall (serve x) (serve (holding x (forward x.table (length x.profile) issue).table))
forward_answers x issue count small e =
    answers_same x (forward x.table (length x.profile) issue).table count 2 issue
    (forward_moved x.table (length x.profile) issue count e).checked
    (forward_sound_lem x.table (length x.profile) issue count small e)
    (forward_keeps x.table (length x.profile) issue count small e)

pub back_answers : (x : Lent) (count : ℕ) → (back x.table (length x.profile)).move ≡ Ok count
    → SameCall (serve x) (serve (holding x (back x.table (length x.profile)).table))
back_answers x count e =
    answers_same x (back x.table (length x.profile)).table count 1 0 (back_moved x.table (length x.profile) count e).checked
    (back_sound_lem x.table (length x.profile) count e) (back_keeps x.table (length x.profile) count e)
