-- An example of a missing kind: zero data, of four bytes or of none.
use Rattle.octets.specs.Standard.{ℕ, zero, suc, ◌+◌, ◌≤◌, ◌≡◌, refl, sym, ap, ◌∙◌, Bool, true, false, cond, List, [], ◌∷◌, arith, eqb, length, take}
use Rattle.octets.specs.Standard.{replicate, length-replicate, length-take, length-drop, length-append, eq-eqb, ne_eqb}
use Rattle.octets.specs.Run.{Wrote}
use Rattle.octets.proofs.Writes.{lent, back, named, then_front}
use Rattle.pen.specs.Bytes.{padding, head_bytes, vendor_head, copied, avp_bytes, avp_size, vendor_bytes, vendor_size, group}
use Rattle.pen.specs.Groups.{failed}
use Rattle.pen.proofs.Groups.{failed_length}
use Rattle.pen.proofs.Sizes.{avp_length, vendor_length, group_length}
use Rattle.reading.specs.Kinds.{row_of}
use Rattle.reading.specs.declared.Kind.{Kind}
use Rattle.failed.specs.Failing.{is_four, example_size, sample, example_of, example}

abbrev zeros : List ℕ
zeros = 0 ∷ 0 ∷ 0 ∷ 0 ∷ []

taken : (n : ℕ) → n ≤ 4 → take n zeros ≡ replicate n 0
taken zero h = refl
taken (suc zero) h = refl
taken (suc (suc zero)) h = refl
taken (suc (suc (suc zero))) h = refl
taken (suc (suc (suc (suc zero)))) h = refl
taken (suc (suc (suc (suc (suc n))))) h = absurd (omega arith)

-- an example is 8 to 16 bytes long, a multiple of 4: nothing pads it
sample_copied : (code vendor : ℕ) (four : Bool) → copied (sample code vendor four) ≡ sample code vendor four
unfolding sample copied padding avp_bytes vendor_bytes vendor_head
sample_copied code vendor four = go (eqb vendor 0) four
  where
    go : (base f : Bool) → copied (cond base (avp_bytes code (replicate (example_size f) 0)) (vendor_bytes code (replicate (example_size f) 0)))
        ≡ cond base (avp_bytes code (replicate (example_size f) 0)) (vendor_bytes code (replicate (example_size f) 0))
    go true true = refl
    go true false = refl
    go false true = refl
    go false false = refl

module _ (n : ℕ) (few : n ≤ 4) where
  size : length (take n zeros) ≡ n
  size = ap length (taken n few) ∙ length-replicate n 0

  pub zeros_counted : n ≡ length (take n zeros)
  zeros_counted = sym size

  pub zeros_most : {r : ℕ} → r ≡ avp_size (length (take n zeros)) → r ≤ 16
  zeros_most e = rw (e, size) (omega arith)

  pub vendor_most : {r : ℕ} → r ≡ vendor_size (length (take n zeros)) → r ≤ 16
  vendor_most e = rw (e, size) (omega arith)

  data_is : (four : Bool) → n ≡ example_size four → take n zeros ≡ replicate (example_size four) 0
  data_is four en = taken n few ∙ rw en

  module _ (code vendor : ℕ) (four : Bool) (en : n ≡ example_size four) where
    base_is : vendor ≡ 0 → avp_bytes code (take n zeros) ≡ sample code vendor four
    unfolding sample
    base_is h = rw (eq-eqb vendor 0 h, data_is four en)

    vendor_is : (vendor ≡ 0 → ⊥) → vendor_bytes code (take n zeros) ≡ sample code vendor four
    unfolding sample
    vendor_is h = rw (ne_eqb vendor 0 h, data_is four en)

    pub zeros_room : {m : ℕ} → vendor ≡ 0 → length (sample code vendor four) ≤ m → avp_size (length (take n zeros)) ≤ m
    zeros_room h r = rw (← base_is h, avp_length) at r

    pub vendor_room : {m : ℕ} → (vendor ≡ 0 → ⊥) → length (sample code vendor four) ≤ m → vendor_size (length (take n zeros)) ≤ m
    vendor_room h r = rw (← vendor_is h, vendor_length) at r

    pub wrote_base : {b xs : List ℕ} {r : ℕ} → vendor ≡ 0 → Wrote (avp_bytes code (take n zeros)) b xs r → Wrote (sample code vendor four) b xs r
    wrote_base h w = named (base_is h) refl w

    pub wrote_vendors : {b xs : List ℕ} {r : ℕ} → (vendor ≡ 0 → ⊥) → Wrote (vendor_bytes code (take n zeros)) b xs r → Wrote (sample code vendor four) b xs r
    wrote_vendors h w = named (vendor_is h) refl w

-- in Failed-AVP
pub group_room : (a : List ℕ) {m : ℕ} → length (failed a) ≤ m → 8 ≤ m
group_room a r = let l = rw failed_length at r in omega arith

pub head_left_lem : (a b ys : List ℕ) → length (failed a) ≤ length b → 8 ≤ length (back 8 b ys)
head_left_lem a b ys r = let k = group_room a r in simp (length-append, length-take) (omega arith)

module _ (k : ℕ) (row : Kind) (four : Bool) (er : row ≡ row_of k) (ef : four ≡ is_four row.content) where
  is_example : sample row.code row.vendor four ≡ example k
  unfolding example_of
  is_example = rw (ef, er)

  failed_is : failed (example k) ≡ group 279 (sample row.code row.vendor four)
  unfolding failed
  failed_is = rw (← is_example, sample_copied)

  pub example_room : (b : List ℕ) → length (failed (example k)) ≤ length b → length (sample row.code row.vendor four) ≤ length (lent 8 b)
  example_room b r =
      let l = rw (failed_is, group_length) at r in
      simp (length-take, length-drop) (omega arith)

  pub wrote_example : {b ys zs : List ℕ} {r : ℕ} → length (failed (example k)) ≤ length b → Wrote (sample row.code row.vendor four) (lent 8 b) ys r
      → Wrote (head_bytes 279 64 (8 + r)) (back 8 b ys) zs 8 → Wrote (failed (example k)) b zs (8 + r)
  unfolding group
  wrote_example room p q =
      let l = rw (failed_is, group_length) at room in
      named (rw (failed_is, p.count)) refl (then_front (omega arith) p q)
