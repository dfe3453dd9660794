-- A challenge stores a name and sets pending: a change of a record's block that keeps what every effect keeps.
use Rattle.octets.specs.Standard.{ℕ, ◌%◌, ◌≤◌, Bool, true, false, cond, not, ◌||◌, or-true, ◌≡◌, refl, ◌∙◌, ap, List, arith, eqb, ltb, eq-eqb, ne_eqb}
use Rattle.octets.specs.Standard.{lt-ltb, length}
use Rattle.octets.specs.Name.{same}
use Rattle.octets.proofs.Names.{same_yes}
use Rattle.record.specs.Fields.{state_of, bits_of, server_of, pending_set}
use Rattle.record.specs.RecordBlock.{record_of, server_fits, sound_record}
use Rattle.record.specs.Sets.{agreeing}
use Rattle.record.specs.declared.header.Header.{Header}
use Rattle.record.proofs.OneSet.{Agree, agree_says}
use Rattle.record.proofs.Tests.{record_says, limits_say}
use Rattle.rewrite.specs.Keeps.{Kept, Keeps}
use Rattle.rewrite.specs.Renew.{renewed, challenged}
use Rattle.rewrite.proofs.Bytes.{renewed_length, renewed_other, renewed_state, renewed_bits, renewed_stores, renewed_alike}
use Rattle.rewrite.proofs.Settled.{renewed_sound, renewed_agree}
use Rattle.rewrite.proofs.Tables.{kept_same}

module _ (name : List ℕ) (least : 1 ≤ length name) (most : length name ≤ 96) where
  module _ (b : List ℕ) (whole : length b ≡ 512) where
    abbrev new : List ℕ
    new = renewed b (state_of b) (pending_set (bits_of b)) name

    served : server_fits (length name) (state_of b) (pending_set (bits_of b)) ≡ true
    served =
        rw (ne_eqb (length name) 0 (omega arith), lt-ltb 0 (length name) (omega arith), eq-eqb (pending_set (bits_of b) % 2) 1 (omega arith))
        (or-true (ltb 0 (state_of b)))

    two : (k : ℕ) (h : Header) (file : ℕ) → sound_record b k h file ≡ true → state_of b ≤ 2
    unfolding record_of
    two k h file s = (limits_say (record_of b) (record_says b k h file s).limits).state

    new_kept : Kept b new
    new_kept =
        record {
          size = renewed_length b (state_of b) (pending_set (bits_of b)) name;
          others = λ i l e. renewed_other b (state_of b) (pending_set (bits_of b)) name i e;
          bits = rw (renewed_bits b (state_of b) (pending_set (bits_of b)) name whole) (omega arith);
          sound =
              λ k h file s.
              renewed_sound b (state_of b) (pending_set (bits_of b)) name whole (two k h file s) (omega arith) most served k h file s;
        }

    challenged_kept : Kept b (challenged name b)
    unfolding challenged
    challenged_kept = go (eqb (state_of b) 0 || not (same (server_of b) name))
      where
        go : (x : Bool) → Kept b (cond x new b)
        go true = new_kept
        go false = kept_same b b refl

    -- the name is stored then, so that a second challenge writes the same
    again : challenged name new ≡ new
    unfolding challenged
    again =
        let s : state_of new ≡ state_of b = renewed_state b (state_of b) (pending_set (bits_of b)) name whole in
        let n : same (server_of new) name ≡ true = same_yes _ _ (renewed_stores b (state_of b) (pending_set (bits_of b)) name whole most) in
        let e : pending_set (bits_of new) ≡ pending_set (bits_of b) = rw (renewed_bits b (state_of b) (pending_set (bits_of b)) name whole) (omega arith) in
        rw (n, s) (go e (eqb (state_of b) 0))
      where
        go : pending_set (bits_of new) ≡ pending_set (bits_of b) → (x : Bool) → cond (x || false) (renewed new (state_of b) (pending_set (bits_of new)) name) new ≡ new
        go e true =
            ap (λ (z : ℕ). renewed new (state_of b) z name) e
            ∙ renewed_alike new b (state_of b) (pending_set (bits_of b)) name (renewed_length b (state_of b) (pending_set (bits_of b)) name ∙ whole) whole
            (λ i l f. renewed_other b (state_of b) (pending_set (bits_of b)) name i f)
        go e false = refl

    challenged_twice : challenged name (challenged name b) ≡ challenged name b
    unfolding challenged
    challenged_twice = go (eqb (state_of b) 0 || not (same (server_of b) name)) refl
      where
        go : (x : Bool) → (eqb (state_of b) 0 || not (same (server_of b) name)) ≡ x → challenged name (challenged name b) ≡ challenged name b
        go true e = let q : challenged name b ≡ new = rw e in rw q again
        go false e = let q : challenged name b ≡ b = rw e in rw q q

  -- two that agree are both written or both left
  challenged_agree : (a b : List ℕ) → length a ≡ 512 → length b ≡ 512 → agreeing a b ≡ true → agreeing (challenged name a) (challenged name b) ≡ true
  unfolding challenged
  challenged_agree a b k l e = rw (← s.state, ← s.server) (go (eqb (state_of a) 0 || not (same (server_of a) name)))
    where
      s : Agree a b
      s = agree_says a b e

      go : (x : Bool) → agreeing (cond x (renewed a (state_of a) (pending_set (bits_of a)) name) a) (cond x (renewed b (state_of a) (pending_set (bits_of b)) name) b)
          ≡ true
      go true = renewed_agree a b (state_of a) (pending_set (bits_of a)) (pending_set (bits_of b)) name k l most (omega arith)
      go false = e

  pub challenged_keeps : Keeps (challenged name)
  challenged_keeps = record { each = challenged_kept; agree = challenged_agree; twice = challenged_twice }
