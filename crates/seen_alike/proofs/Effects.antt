-- What a call writes, it writes into blocks that are alike alike: the tables afterwards are alike again.
use Rattle.octets.specs.Standard.{ℕ, zero, suc, ◌+◌, ◌-◌, ◌<◌, ◌≤◌, Bool, true, false, cond, not, ◌||◌, true≢false, ◌≡◌, refl, sym, ◌∙◌, List, []}
use Rattle.octets.specs.Standard.{◌∷◌, arith, eqb, leb, ltb, get_or, eqb-true, ne_eqb, leb-true, ltb-true, lt-leb}
use Rattle.octets.specs.Name.{same}
use Rattle.record.specs.Fields.{state_of, bits_of, server_size, server_of, pending_set}
use Rattle.record.specs.RecordBlock.{record_of}
use Rattle.blocks.specs.Blocks.{block_of}
use Rattle.table.specs.SoundTable.{SoundTable}
use Rattle.table.proofs.Sound.{sound_size, sound_limits_lem}
use Rattle.blocks.specs.Changed.{is_one, changed_at}
use Rattle.rewrite.specs.Change.{after_of, reaches}
use Rattle.rewrite.specs.Keeps.{alterable, Keeps}
use Rattle.rewrite.specs.Renew.{renewed, settled, challenged}
use Rattle.rewrite.proofs.Bytes.{renewed_length, renewed_other, renewed_state, renewed_bits, renewed_server, renewed_name}
use Rattle.rewrite.proofs.Challenged.{challenged_keeps}
use Rattle.rewrite.proofs.Reaching.{reaches_zero}
use Rattle.rewrite.proofs.Settled.{settled_keeps}
use Rattle.rewrite.proofs.Tables.{after_block}
use Rattle.diameter.specs.Put.{All}
use Rattle.reading.specs.Kinds.{server_name}
use Rattle.reading.specs.Rules.{Seen}
use Rattle.reading.specs.declared.Dialect.{Dialect}
use Rattle.requests.specs.Features.{beyond_set}
use Rattle.requests.specs.Judged.{Judged, bad, fine}
use Rattle.requests.specs.Request.{read_in, data_seen}
use Rattle.choices.specs.declared.plan.Deed.{Deed}
use Rattle.choices.specs.declared.plan.Deed.TheVariants.{Leave, Settle, Challenge}
use Rattle.assignment.specs.Assignment.{planned_records}
use Rattle.deciding.specs.Plans.{assignment_of, plan_read}
use Rattle.deciding.specs.Rules.{in_force}
use Rattle.deciding.specs.Decide.{Decision, performed_by, judged_by, decide_by, decide}
use Rattle.deciding.proofs.Tests.{each}
use Rattle.deciding.specs.Deeds.{carried_out}
use Rattle.deciding.specs.DeedFits.{DeedFits}
use Rattle.deciding.proofs.Deeds.{plan_fits}
use Rattle.seen_alike.specs.Alike.{Alike, AlikeTables}
use Rattle.seen_alike.proofs.Fields.{server_alike}
use Rattle.seen_alike.proofs.Together.{Ranged, set_same, planned_same, planned_ranged, numbers_alike, plan_same}

module _ (b c : List ℕ) (alike : Alike b c) (name : List ℕ) where
  -- the same state, bits and name written into both
  module _ (state bits : ℕ) where
    abbrev x : List ℕ
    x = renewed b state bits name

    abbrev y : List ℕ
    y = renewed c state bits name

    byte_alike : (i : ℕ) → 2 ≤ i → i < 408 → get_or x i 0 ≡ get_or y i 0
    byte_alike i l h = go (eqb i 8) (eqb i 9) (eqb i 15) (leb 272 i) (ltb i 368) refl refl refl refl refl
      where
        other : alterable i ≡ false → get_or x i 0 ≡ get_or y i 0
        other e = renewed_other b state bits name i e ∙ alike.bytes i l h ∙ sym (renewed_other c state bits name i e)

        go : (p q r s z : Bool) → eqb i 8 ≡ p → eqb i 9 ≡ q → eqb i 15 ≡ r → leb 272 i ≡ s → ltb i 368 ≡ z → get_or x i 0 ≡ get_or y i 0
        go true q r s z e f g m n =
            rw (eqb-true i 8 e) (renewed_state b state bits name alike.whole ∙ sym (renewed_state c state bits name alike.other_whole))
        go false true r s z e f g m n =
            rw (eqb-true i 9 f) (renewed_bits b state bits name alike.whole ∙ sym (renewed_bits c state bits name alike.other_whole))
        go false false true s z e f g m n =
            rw (eqb-true i 15 g) (renewed_server b state bits name alike.whole ∙ sym (renewed_server c state bits name alike.other_whole))
        go false false false true true e f g m n =
            let j : i ≡ 272 + (i - 272) = omega (arith, leb-true 272 i m) in
            let k : i - 272 < 96 = omega (arith, ltb-true i 368 n) in
            rw j (renewed_name b state bits name alike.whole (i - 272) k ∙ sym (renewed_name c state bits name alike.other_whole (i - 272) k))
        go false false false true false e f g m n = other (rw (e, f, g, m, n) (lt-leb 508 i (omega arith)))
        go false false false false z e f g m n = other (rw (e, f, g, m) (lt-leb 508 i (omega arith)))

    renewed_alike : Alike x y
    renewed_alike =
        record {
          whole = renewed_length b state bits name ∙ alike.whole;
          other_whole = renewed_length c state bits name ∙ alike.other_whole;
          bytes = byte_alike;
        }

  settled_alike : (state : ℕ) → Alike (settled state name b) (settled state name c)
  unfolding settled
  settled_alike state = rw (← alike.bytes 9 (omega arith) (omega arith)) (renewed_alike state _)

  challenged_alike : server_size b ≤ 96 → Alike (challenged name b) (challenged name c)
  unfolding challenged
  challenged_alike h =
      rw (← alike.bytes 8 (omega arith) (omega arith), ← alike.bytes 9 (omega arith) (omega arith), ← server_alike b c alike h)
      (go (eqb (state_of b) 0 || not (same (server_of b) name)))
    where
      go : (z : Bool) → Alike (cond z (renewed b (state_of b) (pending_set (bits_of b)) name) b) (cond z (renewed c (state_of b) (pending_set (bits_of b)) name) c)
      go true = renewed_alike (state_of b) (pending_set (bits_of b))
      go false = alike

module _ (t u : List ℕ) (count : ℕ) (sound : SoundTable t count) (other : SoundTable u count) (alike : AlikeTables t u count) where
  -- the same change of the same records
  after_alike : (chosen picked : ℕ → Bool) (change : List ℕ → List ℕ) → Keeps change → chosen 0 ≡ false
      → ((k : ℕ) → k ≤ count → chosen k ≡ picked k)
      → ((k : ℕ) → 1 ≤ k → k ≤ count → Alike (change (block_of t k)) (change (block_of u k)))
      → AlikeTables (after_of t count chosen change) (after_of u count picked change) count
  unfolding changed_at
  after_alike chosen picked change keeps none same each =
      record {
        blocks =
            λ k h.
            rw (
              after_block t count change (sound_size t count sound) chosen keeps k h,
              after_block u count change (sound_size u count other) picked keeps k h,
              ← same k h,
            )
            (go k h (chosen k) refl);
      }
    where
      go : (k : ℕ) → k ≤ count → (z : Bool) → chosen k ≡ z
          → Alike (cond z (change (block_of t k)) (block_of t k)) (cond z (change (block_of u k)) (block_of u k))
      go zero h true e = absurd (true≢false (sym e ∙ none))
      go (suc k) h true e = each (suc k) (omega arith) h
      go k h false e = alike.blocks k h

  -- an effect reaches the same records, and no header
  none_first : (ks : List ℕ) → All (Ranged count) ks → is_one ks 0 ≡ false
  unfolding is_one
  none_first [] all = refl
  none_first (k ∷ ks) all = rw (ne_eqb 0 k (omega (arith, all.0.0)), none_first ks all.1)

  pub reaches_none : (ks : List ℕ) → All (Ranged count) ks → reaches t ks 0 ≡ false
  reaches_none ks all = reaches_zero t count sound ks ∙ none_first ks all

  record_reached : (ks : List ℕ) → All (Ranged count) ks → (j : ℕ) → 1 ≤ j → j ≤ count → reaches t ks j ≡ reaches u ks j
  unfolding reaches
  record_reached [] all j a b = refl
  record_reached (k ∷ ks) all j a b = rw (set_same t u count sound alike k j all.0.0 all.0.1 a b, record_reached ks all.1 j a b)

  pub reaches_same : (ks : List ℕ) → All (Ranged count) ks → (j : ℕ) → j ≤ count → reaches t ks j ≡ reaches u ks j
  reaches_same ks all zero h = reaches_none ks all ∙ sym (reaches_zero u count other ks ∙ none_first ks all)
  reaches_same ks all (suc j) h = record_reached ks all (suc j) (omega arith) h

  room : (k : ℕ) → 1 ≤ k → k ≤ count → server_size (block_of t k) ≤ 96
  unfolding record_of
  room k a b = (sound_limits_lem t count sound k a b).server

  deed_alike : (dialect : Dialect) (req v : List ℕ) (seen : Seen) (d : Deed) → DeedFits count (data_seen seen server_name) d
      → AlikeTables (carried_out req t count seen d) (carried_out req u count seen d) count
  unfolding carried_out assignment_of
  deed_alike dialect req v seen Leave f = alike
  deed_alike dialect req v seen (Settle w) f =
      let s = assignment_of req t seen in
      let ks = planned_records t count s w.owned in
      let all : All (Ranged count) ks = planned_ranged t u count sound alike s w.owned in
      rw (← numbers_alike t u count sound alike dialect req v seen, ← planned_same t u count sound alike s w.owned)
      (after_alike (reaches t ks) (reaches u ks) _ (settled_keeps _ _ f) (reaches_none ks all) (reaches_same ks all)
      (λ k a h. settled_alike (block_of t k) (block_of u k) (alike.blocks k h) _ w.state))
  deed_alike dialect req v seen (Challenge k) (a, b, least, most) =
      let server = data_seen seen server_name in
      after_alike (reaches t (k ∷ [])) (reaches u (k ∷ [])) _ (challenged_keeps server least most) (reaches_none (k ∷ []) ((a, b), tt))
      (reaches_same (k ∷ []) ((a, b), tt))
      (λ j l h. challenged_alike (block_of t j) (block_of u j) (alike.blocks j h) server (room j l h))

  pub tables_alike : (dialect : Dialect) (req v : List ℕ) → AlikeTables (decide dialect req t count v).table (decide dialect req u count v).table count
  unfolding decide_by judged_by performed_by
  tables_alike dialect req v = go (read_in dialect req) refl
    where
      go : (j : Judged) → read_in dialect req ≡ j → AlikeTables (judged_by in_force dialect req t count v j).table
          (judged_by in_force dialect req u count v j).table count
      go (bad f) e = alike
      go (fine seen) e =
          each (λ (d b : Decision). AlikeTables d.table b.table count) (beyond_set dialect.terms req) alike
          (rw (← plan_same t u count sound alike dialect req v seen e)
          (deed_alike dialect req v seen (plan_read dialect req t count v seen).deed (plan_fits dialect req t count v seen e)))
