-- A call alters as many records of the one table as of the other: whether a block is already as it would be renewed, its own bytes 2 to 407 say.
use Rattle.octets.specs.Standard.{ℕ, zero, suc, ◌+◌, ◌≤◌, Bool, true, false, ◌&&◌, cond, not, ◌||◌, ◌≡◌, refl, sym, ◌∙◌, List, [], ◌∷◌, arith, eqb}
use Rattle.octets.specs.Standard.{length, get_or}
use Rattle.octets.specs.Name.{same}
use Rattle.octets.specs.Run.{zero_between}
use Rattle.octets.specs.Sum.{sum_words}
use Rattle.octets.proofs.Names.{same_refl}
use Rattle.octets.proofs.Numbers.{Bytes}
use Rattle.octets.proofs.Runs.{zero_alike}
use Rattle.record.specs.Fields.{state_of, bits_of, server_size, server_of, cleared, pending_set}
use Rattle.record.specs.RecordBlock.{record_of}
use Rattle.record.proofs.Tests.{record_says}
use Rattle.blocks.specs.Blocks.{block_of}
use Rattle.blocks.proofs.Blocks.{block_bytes}
use Rattle.table.specs.SoundTable.{SoundTable}
use Rattle.table.proofs.Sound.{sound_size, sound_record_lem, sound_limits_lem}
use Rattle.blocks.specs.Changed.{changed_at}
use Rattle.rewrite.specs.Change.{after_of, reaches, differ, altered_up_to}
use Rattle.rewrite.specs.Keeps.{Keeps}
use Rattle.rewrite.specs.Renew.{renewed, settled, challenged}
use Rattle.rewrite.proofs.Challenged.{challenged_keeps}
use Rattle.rewrite.proofs.Counts.{altered_none}
use Rattle.rewrite.proofs.Settled.{settled_keeps}
use Rattle.rewrite.proofs.Tables.{after_block}
use Rattle.rewrite.proofs.Unchanged.{held_all}
use Rattle.reading.specs.Kinds.{server_name}
use Rattle.reading.specs.Rules.{Seen}
use Rattle.reading.specs.declared.Dialect.{Dialect}
use Rattle.requests.specs.Features.{beyond_set}
use Rattle.requests.specs.Judged.{Judged, bad, fine}
use Rattle.requests.specs.Request.{read_in, data_seen}
use Rattle.choices.specs.declared.plan.Deed.{Deed}
use Rattle.choices.specs.declared.plan.Deed.TheVariants.{Leave, Settle, Challenge}
use Rattle.assignment.specs.Assignment.{planned_records}
use Rattle.deciding.specs.Plans.{assignment_of, plan_read}
use Rattle.deciding.specs.Rules.{in_force}
use Rattle.deciding.specs.Decide.{Decision, performed_by, judged_by, decide_by, decide}
use Rattle.deciding.proofs.Tests.{each}
use Rattle.deciding.specs.Deeds.{carried_out}
use Rattle.deciding.specs.DeedFits.{DeedFits}
use Rattle.deciding.proofs.Deeds.{plan_fits}
use Rattle.seen_alike.specs.Alike.{Alike, AlikeTables}
use Rattle.seen_alike.proofs.Fields.{server_alike}
use Rattle.seen_alike.proofs.Effects.{reaches_same}
use Rattle.seen_alike.proofs.Together.{planned_same, planned_ranged, numbers_alike, plan_same}

-- Of two sound blocks both or neither get other bytes.
module _ (b c : List ℕ) (alike : Alike b c) (bytes : Bytes b) (other-bytes : Bytes c) (zeros : sum_words b 128 ≡ 0) (other_zeros : sum_words c 128 ≡ 0)
    (room : server_size b ≤ 96) (name : List ℕ) (most : length name ≤ 96) where
  abbrev held : List ℕ → ℕ → ℕ → Bool
  held x state bits =
      eqb (get_or x 8 0) state && eqb (get_or x 9 0) bits && same (server_of x) name && zero_between x (272 + length name) 368 && eqb (sum_words x 128) 0

  held_same : (state bits : ℕ) → held b state bits ≡ held c state bits
  held_same state bits =
      rw (
        alike.bytes 8 (omega arith) (omega arith),
        alike.bytes 9 (omega arith) (omega arith),
        server_alike b c alike room,
        zero_alike b c (272 + length name) 368 (λ i u v. alike.bytes i (omega arith) (omega arith)),
        zeros,
        other_zeros,
      )

  renewed_same : (state bits : ℕ) → same b (renewed b state bits name) ≡ same c (renewed c state bits name)
  renewed_same state bits =
      sym (held_all b state bits name bytes alike.whole most refl refl refl refl) ∙ held_same state bits
      ∙ held_all c state bits name other-bytes alike.other_whole most refl refl refl refl

  settled_differ : (state : ℕ) → differ b (settled state name b) ≡ differ c (settled state name c)
  unfolding settled differ
  settled_differ state = rw (← alike.bytes 9 (omega arith) (omega arith), renewed_same state (cleared (bits_of b)))

  challenged_differ : differ b (challenged name b) ≡ differ c (challenged name c)
  unfolding challenged differ
  challenged_differ =
      rw (← alike.bytes 8 (omega arith) (omega arith), ← alike.bytes 9 (omega arith) (omega arith), ← server_alike b c alike room)
      (go (eqb (state_of b) 0 || not (same (server_of b) name)))
    where
      bits : ℕ
      bits = pending_set (bits_of b)

      go : (z : Bool) → differ b (cond z (renewed b (state_of b) bits name) b) ≡ differ c (cond z (renewed c (state_of b) bits name) c)
      go true = rw (renewed_same (state_of b) bits)
      go false = rw (same_refl b, same_refl c)

module _ (t u : List ℕ) (count : ℕ) (sound : SoundTable t count) (other : SoundTable u count) (alike : AlikeTables t u count) (bytes : Bytes t)
    (other-bytes : Bytes u) where
  -- the same change of the same records
  after_altered : (chosen picked : ℕ → Bool) (change : List ℕ → List ℕ) → Keeps change → ((k : ℕ) → k ≤ count → chosen k ≡ picked k)
      → ((k : ℕ) → 1 ≤ k → k ≤ count → differ (block_of t k) (change (block_of t k)) ≡ differ (block_of u k) (change (block_of u k)))
      → (n : ℕ) → n ≤ count → altered_up_to t (after_of t count chosen change) n ≡ altered_up_to u (after_of u count picked change) n
  unfolding altered_up_to changed_at differ
  after_altered chosen picked change keeps same each zero h = refl
  after_altered chosen picked change keeps same each (suc n) h =
      rw (
        after_altered chosen picked change keeps same each n (omega arith),
        after_block t count change (sound_size t count sound) chosen keeps (suc n) h,
        after_block u count change (sound_size u count other) picked keeps (suc n) h,
        ← same (suc n) h,
        go (chosen (suc n)),
      )
    where
      go : (z : Bool) → differ (block_of t (suc n)) (cond z (change (block_of t (suc n))) (block_of t (suc n)))
          ≡ differ (block_of u (suc n)) (cond z (change (block_of u (suc n))) (block_of u (suc n)))
      go true = each (suc n) (omega arith) h
      go false = rw (same_refl (block_of t (suc n)), same_refl (block_of u (suc n)))

  -- what its laws ask of a block
  module _ (k : ℕ) (a : 1 ≤ k) (b : k ≤ count) where
    zeros : sum_words (block_of t k) 128 ≡ 0
    zeros = (record_says (block_of t k) k _ _ (sound_record_lem t count sound k a b)).sum

    other_zeros : sum_words (block_of u k) 128 ≡ 0
    other_zeros = (record_says (block_of u k) k _ _ (sound_record_lem u count other k a b)).sum

    room : server_size (block_of t k) ≤ 96
    unfolding record_of
    room = (sound_limits_lem t count sound k a b).server

    settled_at : (name : List ℕ) → length name ≤ 96 → (state : ℕ)
        → differ (block_of t k) (settled state name (block_of t k)) ≡ differ (block_of u k) (settled state name (block_of u k))
    settled_at name most state =
        settled_differ (block_of t k) (block_of u k) (alike.blocks k b) (block_bytes t bytes k) (block_bytes u other-bytes k) zeros other_zeros room name most
        state

    challenged_at : (name : List ℕ) → length name ≤ 96
        → differ (block_of t k) (challenged name (block_of t k)) ≡ differ (block_of u k) (challenged name (block_of u k))
    challenged_at name most =
        challenged_differ (block_of t k) (block_of u k) (alike.blocks k b) (block_bytes t bytes k) (block_bytes u other-bytes k) zeros other_zeros room name most

  deed_altered : (dialect : Dialect) (req v : List ℕ) (seen : Seen) (d : Deed) → DeedFits count (data_seen seen server_name) d
      → altered_up_to t (carried_out req t count seen d) count ≡ altered_up_to u (carried_out req u count seen d) count
  unfolding carried_out assignment_of
  deed_altered dialect req v seen Leave f = altered_none t count ∙ sym (altered_none u count)
  deed_altered dialect req v seen (Settle w) f =
      let s = assignment_of req t seen in
      let ks = planned_records t count s w.owned in
      rw (← numbers_alike t u count sound alike dialect req v seen, ← planned_same t u count sound alike s w.owned)
      (after_altered (reaches t ks) (reaches u ks) _ (settled_keeps _ _ f)
      (reaches_same t u count sound other alike ks (planned_ranged t u count sound alike s w.owned))
      (λ k a b. settled_at k a b _ f.most w.state) count (omega arith))
  deed_altered dialect req v seen (Challenge k) (a, b, least, most) =
      let server = data_seen seen server_name in
      after_altered (reaches t (k ∷ [])) (reaches u (k ∷ [])) _ (challenged_keeps server least most)
      (reaches_same t u count sound other alike (k ∷ []) ((a, b), tt))
      (λ j l h. challenged_at j l h server most) count (omega arith)

  pub altered_same : (dialect : Dialect) (req v : List ℕ) → altered_up_to t (decide dialect req t count v).table count
      ≡ altered_up_to u (decide dialect req u count v).table count
  unfolding decide_by judged_by performed_by
  altered_same dialect req v = go (read_in dialect req) refl
    where
      go : (j : Judged) → read_in dialect req ≡ j
          → altered_up_to t (judged_by in_force dialect req t count v j).table count ≡ altered_up_to u (judged_by in_force dialect req u count v j).table count
      go (bad f) e = altered_none t count ∙ sym (altered_none u count)
      go (fine seen) e =
          each (λ (d b : Decision). altered_up_to t d.table count ≡ altered_up_to u b.table count) (beyond_set dialect.terms req)
          (altered_none t count ∙ sym (altered_none u count))
          (rw (← plan_same t u count sound alike dialect req v seen e)
          (deed_altered dialect req v seen (plan_read dialect req t count v seen).deed (plan_fits dialect req t count v seen e)))
