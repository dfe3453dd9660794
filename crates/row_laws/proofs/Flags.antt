-- What a row's word says of records and vectors: some request altered one, or none did and the files are as they came. And rows that alter nothing.
use Rattle.std.specs.Prelude.{Result, Ok, Err}
use Rattle.octets.specs.Standard.{ℕ, zero, suc, ◌*◌, ◌≤◌, ◌<◌, List, [], ◌∷◌, ◌++◌, Bool, true, false, cond, not, ◌||◌, or-true, true≢false, ◌≡◌, refl}
use Rattle.octets.specs.Standard.{sym, ap, ◌∙◌, arith, length, eqb, eqb-true, eqb-false, ltb-false}
use Rattle.octets.specs.Name.{same}
use Rattle.octets.proofs.Names.{same_eq}
use Rattle.blocks.specs.Blocks.{block_of}
use Rattle.blocks.proofs.Blocks.{table_same, table_is}
use Rattle.table.specs.Area.{check_area}
use Rattle.table.proofs.Sound.{table_says}
use Rattle.vectors.specs.VectorFile.{check_vectors}
use Rattle.rewrite.specs.Change.{differ, altered_up_to}
use Rattle.refusals.proofs.Passing.{neither}
use Rattle.calling.specs.Lent.{Lent, asking, table_only}
use Rattle.calling.specs.Serve.{check_of, serve_table, serve}
use Rattle.calling.proofs.Areas.{served_large, check_in_lem}
use Rattle.demands.specs.Call.{turned_away}
use Rattle.demands.proofs.Areas.{area_stays}
use Rattle.demands.proofs.Demands.{demand_1_kept}
use Rattle.demands.proofs.Frame.{header_kept}
use Rattle.demands.proofs.Refusals.{refused_kept}
use Rattle.reporting.specs.Row.{records_altered}
use Rattle.report_numbers.specs.Turns.{InTurn}
use Rattle.report_numbers.proofs.Kept.{table_refused, vectors_refused}
use Rattle.row_of_calls.specs.Row.{alters, marks, next}
use Rattle.row_laws.specs.Turns.{lent_after, lent_to, some_call}
use Rattle.row_laws.proofs.Calls.{carried}

-- ONE OF THE CALLS.
module _ (test : Lent → Bool) where
  pub some_one : (x : Lent) (ps : List (List ℕ)) → some_call test x ps ≡ true → (p : InTurn ps) × (test (lent_to x p) ≡ true)
  unfolding some_call lent_after
  some_one x [] e = absurd (true≢false (sym e))
  some_one x (p ∷ ps) e = go (test (asking x p)) refl e (some_one (next x p) ps)
    where
      later : (q : InTurn ps) × (test (lent_to (next x p) q) ≡ true) → (q : InTurn (p ∷ ps)) × (test (lent_to x q) ≡ true)
      later (q, f) = (
        record { before = p ∷ q.before; request = q.request; after = q.after; is = ap (λ (qs : List (List ℕ)). p ∷ qs) q.is },
        f,
      )

      go : (b : Bool) → test (asking x p) ≡ b → (b || some_call test (next x p) ps) ≡ true
          → (some_call test (next x p) ps ≡ true → (q : InTurn ps) × (test (lent_to (next x p) q) ≡ true)) → (q : InTurn (p ∷ ps)) × (test (lent_to x q) ≡ true)
      go true f g more = (record { before = []; request = p; after = ps; is = refl }, f)
      go false f g more = later (more g)

  one_there : (x : Lent) (ps : List (List ℕ)) (q : List ℕ) (qs : List (List ℕ)) → test (asking (lent_after x ps) q) ≡ true
      → some_call test x (ps ++ (q ∷ qs)) ≡ true
  unfolding some_call lent_after
  one_there x [] q qs e = rw e
  one_there x (p ∷ ps) q qs e = rw (one_there (next x p) ps q qs e) (or-true (test (asking x p)))

  pub one_some : (x : Lent) (ps : List (List ℕ)) (p : InTurn ps) → test (lent_to x p) ≡ true → some_call test x ps ≡ true
  one_some x ps p e = ap (some_call test x) p.is ∙ one_there x p.before p.request p.after e

  -- none
  pub none_same : (part : Lent → List ℕ) → ((y : Lent) (p : List ℕ) → test (asking y p) ≡ false → part (next y p) ≡ part y) → (x : Lent) (ps : List (List ℕ))
      → some_call test x ps ≡ false → part (lent_after x ps) ≡ part x
  unfolding some_call lent_after
  none_same part step x [] e = refl
  none_same part step x (p ∷ ps) e =
      let n = neither (test (asking x p)) (some_call test (next x p) ps) e in
      none_same part step (next x p) ps n.1 ∙ step x p n.0

-- A CALL THAT MARKS NO VECTOR, OR ALTERS NO RECORD: the file is as it came.
pub unmarked_same : (y : Lent) (p : List ℕ) → marks (asking y p) ≡ false → (next y p).vectors ≡ y.vectors
unfolding next
unmarked_same y p e = go (same y.vectors (serve (asking y p)).vectors) refl e
  where
    go : (b : Bool) → same y.vectors (serve (asking y p)).vectors ≡ b → not b ≡ false → (serve (asking y p)).vectors ≡ y.vectors
    go true f g = sym (same_eq y.vectors (serve (asking y p)).vectors f)
    go false f g = absurd (true≢false g)

differ_none : (x y : List ℕ) → differ x y ≤ 0 → x ≡ y
unfolding differ
differ_none x y h = go (same x y) refl h
  where
    go : (b : Bool) → same x y ≡ b → cond b 0 1 ≤ 0 → x ≡ y
    go true e l = same_eq x y e
    go false e l = absurd (omega (arith, l))

blocks_same : (x y : List ℕ) (n : ℕ) → altered_up_to x y n ≤ 0 → (k : ℕ) → k < n → block_of x (suc k) ≡ block_of y (suc k)
unfolding altered_up_to
blocks_same x y zero h k l = absurd (omega (arith, l))
blocks_same x y (suc n) h k l = go (eqb k n) refl (blocks_same x y n (omega (arith, h)) k)
  where
    last : block_of x (suc n) ≡ block_of y (suc n)
    last = differ_none (block_of x (suc n)) (block_of y (suc n)) (omega (arith, h))

    go : (b : Bool) → eqb k n ≡ b → (k < n → block_of x (suc k) ≡ block_of y (suc k)) → block_of x (suc k) ≡ block_of y (suc k)
    go true e more = let q : k ≡ n = eqb-true k n e in rw q last
    go false e more = let q : k ≡ n → ⊥ = eqb-false k n e in more (omega (arith, l))

module _ (x : Lent) (none : records_altered x ≤ 0) where
  table_stays : (serve_table x).table ≡ x.table
  table_stays = go (check_of x) refl
    where
      each : (count : ℕ) → check_of x ≡ Ok count → (k : ℕ) → k < suc count → block_of (serve_table x).table k ≡ block_of x.table k
      each count e zero l = header_kept x count e
      each count e (suc k) l =
          let n : altered_up_to x.table (serve_table x).table count ≤ 0 = rw e at none in
          sym (blocks_same x.table (serve_table x).table count n k (omega (arith, l)))

      go : (c : Result ℕ ℕ) → check_of x ≡ c → (serve_table x).table ≡ x.table
      go (Err k) e = (refused_kept x (table_refused x k e x.request)).0
      go (Ok count) e =
          let size : length x.table ≡ 512 * suc count = (table_says x.table (length x.profile) count e).size ∙ omega arith in
          table_is (serve_table x).table (suc count) ((served_large x).bytes ∙ size)
          ∙ table_same (block_of (serve_table x).table) (block_of x.table) (suc count) (each count e)
          ∙ sym (table_is x.table (suc count) size)

pub unaltered_same : (y : Lent) (p : List ℕ) → alters (asking y p) ≡ false → (next y p).table ≡ y.table
unfolding next
unaltered_same y p e =
    area_stays (asking y p) (table_stays (table_only (asking y p)) (ltb-false 0 (records_altered (table_only (asking y p))) e))

-- WHERE EVERY REQUEST IS REFUSED, nothing is altered.
pub record Unmoved (x y : Lent) : Type 0 where
  pub table : y.table ≡ x.table
  pub vectors : y.vectors ≡ x.vectors
  pub profile : y.profile ≡ x.profile

unmoved : (x : Lent) → ((y : Lent) (p : List ℕ) → Unmoved x y → turned_away (table_only (asking y p)) ≡ true) → (ps : List (List ℕ)) → Unmoved x (lent_after x ps)
unfolding next
unmoved x away ps =
    carried (Unmoved x)
    (λ y p u.
    let k = demand_1_kept (asking y p) (away y p u) in
    record { table = k.0 ∙ u.table; vectors = k.1 ∙ u.vectors; profile = u.profile })
    x ps (record { table = refl; vectors = refl; profile = refl })

pub unsound_unmoved : (x : Lent) (ps : List (List ℕ)) (k : ℕ) → check_area x.table (length x.profile) ≡ Err k → Unmoved x (lent_after x ps)
unsound_unmoved x ps k e =
    unmoved x (λ y p u. table_refused (table_only y) k (sym (check_in_lem y) ∙ rw (u.table, u.profile) e) p) ps

pub spoilt_unmoved : (x : Lent) (ps : List (List ℕ)) (k : ℕ) → check_vectors x.vectors ≡ Err k → Unmoved x (lent_after x ps)
spoilt_unmoved x ps k e = unmoved x (λ y p u. vectors_refused (table_only y) k (rw u.vectors e) p) ps
