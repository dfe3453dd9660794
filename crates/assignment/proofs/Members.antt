-- What a SAR asks of a record it asks alike of every record of its set: they are of one subscription, and agree in state and server name.
use Rattle.octets.specs.Standard.{ℕ, ◌≤◌, true, ◌≡◌, sym, ap, ◌∙◌, List, arith, length, length-take, length-drop}
use Rattle.record.specs.Fields.{server_size, server_of}
use Rattle.record.specs.RecordBlock.{record_of}
use Rattle.record.specs.Sets.{same_set}
use Rattle.record.proofs.OneSet.{set_says, Agree, agree_says}
use Rattle.blocks.specs.Blocks.{block_of}
use Rattle.blocks.proofs.Blocks.{block_length}
use Rattle.table.specs.Named.{private_at}
use Rattle.table.specs.SoundTable.{SoundTable}
use Rattle.table.proofs.Sound.{sound_block, sound_limits_lem}
use Rattle.rewrite.proofs.Together.{members_agree}
use Rattle.choices.specs.declared.types.AssignmentType.{AssignmentType}
use Rattle.assignment.specs.Assignment.{own_at, stores_at, fits_at, right_at}

module _ (t : List ℕ) (count : ℕ) (table : SoundTable t count) (j k : ℕ) (a : 1 ≤ j) (b : j ≤ count) (c : 1 ≤ k) (d : k ≤ count)
    (one : same_set (block_of t j) (block_of t k) ≡ true) where
  agree : Agree (block_of t j) (block_of t k)
  agree = agree_says (block_of t j) (block_of t k) (members_agree t count table j k a b c d one)

  size_is : (i : ℕ) → 1 ≤ i → i ≤ count → length (server_of (block_of t i)) ≡ server_size (block_of t i)
  unfolding server_of record_of
  size_is i u v =
      let w : length (block_of t i) ≡ 512 = block_length t i (sound_block t count table i v) in
      simp (length-take, length-drop) (omega (arith, w, (sound_limits_lem t count table i u v).server))

  sizes : server_size (block_of t j) ≡ server_size (block_of t k)
  sizes = sym (size_is j a b) ∙ ap length agree.server ∙ size_is k c d

  pub own_same : (owner : List ℕ) → own_at t owner j ≡ own_at t owner k
  unfolding own_at private_at
  own_same owner = rw (set_says (block_of t j) (block_of t k) one).private

  pub stores_same : (server : List ℕ) → stores_at t server j ≡ stores_at t server k
  unfolding stores_at
  stores_same server = rw agree.server

  pub fits_same : (server : List ℕ) → fits_at t server j ≡ fits_at t server k
  unfolding fits_at
  fits_same server = rw (agree.server, sizes)

  pub right_same : (kind : AssignmentType) → right_at t kind j ≡ right_at t kind k
  unfolding right_at
  right_same kind = rw agree.state
