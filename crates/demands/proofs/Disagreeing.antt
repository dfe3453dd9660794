-- "all records of a set agree in state, pending and server name, the later block being blamed": what the check answers.
use Rattle.std.specs.Prelude.{Ok, Err}
use Rattle.octets.specs.Standard.{ℕ, ◌+◌, ◌*◌, ◌<◌, ◌≤◌, Bool, true, false, ◌≡◌, refl, List, arith, length, eq-eqb, le-leb}
use Rattle.octets.proofs.All.{and_right}
use Rattle.record.specs.HeaderBlock.{header_of}
use Rattle.record.specs.Sets.{agreeing}
use Rattle.record.specs.declared.header.Header.{Header}
use Rattle.record.proofs.OneSet.{Agree, agree_says}
use Rattle.blocks.specs.Blocks.{block_of}
use Rattle.blocks.proofs.First.{FirstNot, bad_holds}
use Rattle.table.specs.Check.{stands_at, sound_at, check_records, check_table}
use Rattle.table.proofs.Agreement.{agrees_says}
use Rattle.table.proofs.Sound.{sound_agrees}
use Rattle.demands.specs.Sets.{Shares, Agrees, Disagrees}
use Rattle.demands.proofs.Barring.{shares_holds}

module _ (t : List ℕ) (j k : ℕ) where
  agrees : agreeing (block_of t j) (block_of t k) ≡ true → Agrees t j k
  agrees e = let a : Agree (block_of t j) (block_of t k) = agree_says _ _ e in record { state = a.state; pending = a.pending; server = a.server }

  -- in a sound table
  pub sound_agree : (file count : ℕ) → check_table t file ≡ Ok count → 1 ≤ j → j < k → k ≤ count → Shares t j k → Agrees t j k
  sound_agree file count e a b c s = agrees (sound_agrees t count (record { file = file; checked = e }) j k a b c (shares_holds t j k s))

  -- and in one where they do not, under a sound header and after sound records
  module _ (file : ℕ) (d : Disagrees t file j k) where
    abbrev h : Header
    h = header_of (block_of t 0)

    here : sound_at t h file k ≡ false
    unfolding sound_at
    here = go (sound_at t h file k) refl
      where
        go : (x : Bool) → sound_at t h file k ≡ x → x ≡ false
        go true e = absurd (d.apart (agrees (agrees_says t k (and_right (stands_at t h file k) _ e) j d.from d.later (shares_holds t j k d.shares))))
        go false e = refl

    first : FirstNot (sound_at t h file) h.count 1 k
    first = record { from = omega (arith, d.from, d.later); to = omega (arith, d.to); here = here; before = d.before }

    pub disagree_blamed : check_table t file ≡ Err k
    unfolding check_table check_records
    disagree_blamed =
        rw (d.header, le-leb 512 (length t) (omega (arith, d.size)), eq-eqb (length t) (512 * (h.count + 1)) d.size)
        (bad_holds (sound_at t h file) h.count h.count 1 k first)
