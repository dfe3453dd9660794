-- The table that a list says, written: the header block, and the records behind it.
use Rattle.octets.specs.Standard.{ℕ, zero, suc, ◌+◌, ◌-◌, ◌*◌, ◌≤◌, ◌≡◌, refl, sym, ◌∙◌, ap, arith, add-one}
use Rattle.octets.specs.Standard.{List, ◌++◌, append_assoc, append-nil, length, length-append, mid_of, put_mid}
use Rattle.octets.specs.Run.{over, Wrote}
use Rattle.octets.proofs.Writes.{then, named}
use Rattle.record.specs.Fields.{count_of}
use Rattle.blocks.specs.Blocks.{table_of}
use Rattle.importing.specs.Said.{said_at, table_said}
use Rattle.saying.specs.Records.{records_said}
use Rattle.saying.proofs.Reading.{said_whole}

records_next : (list header : List ℕ) (n : ℕ) → records_said list header (n + 1) ≡ records_said list header n ++ said_at list header (n + 1)
unfolding records_said
records_next list header n = rw (add-one n)

table_records : (list header : List ℕ) (n : ℕ) → header ++ records_said list header n ≡ table_of (said_at list header) (suc n)
unfolding records_said table_of said_at
table_records list header zero = append-nil header
table_records list header (suc n) =
    sym (append_assoc header (records_said list header n) (said_at list header (suc n)))
    ∙ ap (λ (l : List ℕ). l ++ said_at list header (suc n)) (table_records list header n)

module _ (list header : List ℕ) (whole : length header ≡ 512) where
  records_size : (n : ℕ) → length (records_said list header n) ≡ 512 * n
  unfolding records_said
  records_size zero = omega arith
  records_size (suc n) =
      omega (arith, length-append (records_said list header n) (said_at list header (suc n)), records_size n, said_whole list header (suc n) whole)

  module _ (o : List ℕ) where
    pub records_none : Wrote (records_said list header 0) o o (512 * 0)
    unfolding records_said over
    records_none = record { count = omega arith; bytes = refl }

    module _ (n : ℕ) (xs : List ℕ) (w : Wrote (records_said list header n) o xs (512 * n)) where
      pub records_more : {b ys : List ℕ} → b ≡ said_at list header (n + 1) → Wrote b (mid_of (512 * n) (length xs - 512 * n) xs) ys (length b)
          → Wrote (records_said list header (n + 1)) o (put_mid (512 * n) (length xs - 512 * n) xs ys) (512 * (n + 1))
      records_more {b = b} e v =
          let l : length b ≡ 512 = ap length e ∙ said_whole list header (n + 1) whole in
          named (ap (λ (s : List ℕ). records_said list header n ++ s) e ∙ sym (records_next list header n)) (omega arith) (then w v)

      pub records_all : (count : ℕ) → n ≤ count → count ≤ n → Wrote (records_said list header count) o xs (512 * count)
      records_all count a b = let q : n ≡ count = omega arith in rw (← q) w

    pub wrote_table : (count : ℕ) {xs ys : List ℕ} → count ≡ count_of header → Wrote header o xs (length header)
        → Wrote (records_said list header count) (mid_of 512 (length xs - 512) xs) ys (512 * count)
        → Wrote (table_said list header) o (put_mid 512 (length xs - 512) xs ys) (512 * (count + 1))
    unfolding table_said
    wrote_table count e w v =
        let h : Wrote header o _ 512 = named refl whole w in
        named (table_records list header count ∙ ap (λ (c : ℕ). table_of (said_at list header) (suc c)) e) (omega arith) (then h v)
