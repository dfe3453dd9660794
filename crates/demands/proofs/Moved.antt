-- Demand 3, of the AVP at fault: where AVPs are put in before it, it stands later by their length, and Failed-AVP holds the same.
use Rattle.octets.specs.Standard.{ℕ, ◌+◌, ◌%◌, ◌≤◌, ◌<◌, add-zero, List, [], ◌∷◌, ◌++◌, append_assoc, some, Bool, true, false, cond, ◌≡◌, refl, sym}
use Rattle.octets.specs.Standard.{ap, ◌∙◌, arith, length, drop, set, length-append, drop-drop, drop_at, ltb, lt-ltb, le-ltb}
use Rattle.diameter.specs.Avp.{padded, sound}
use Rattle.diameter.specs.Walk.{Walk, ended, walk}
use Rattle.diameter.specs.Put.{glue, Piece, bytes_of, avps_of, Whole, All}
use Rattle.diameter.proofs.Walks.{sound_says, padded_least, walk_nil, walk_faulty}
use Rattle.diameter.proofs.Pieces.{walk_pieces}
use Rattle.reading.specs.declared.Dialect.{Dialect}
use Rattle.reading.specs.declared.Ruled.{Ruled}
use Rattle.reading.specs.declared.Ruled.TheVariants.{Taken, Skipped, Fault}
use Rattle.reading.specs.declared.Verdict.{Verdict}
use Rattle.reading.specs.Kinds.{kind_of}
use Rattle.reading.specs.Rules.{Seen, rule}
use Rattle.reading.specs.Verdicts.{fault_at, number_of}
use Rattle.requests.specs.Judged.{Judged, bad, fine, on_rule, judge}
use Rattle.requests.proofs.Insert.{judge_unmarked, past}
use Rattle.failed.specs.Failing.{failed_of, failed_by}
use Rattle.failed.proofs.Fronts.{failed_piece}
use Rattle.demands.specs.Insertion.{Quiet, Inserted, ending, keep, put, size_of, put_before}
use Rattle.demands.proofs.Cuts.{Row, row_of}

-- a verdict on the longer message beside the one on the shorter: its place, at or after another, is later by so many bytes
pub record Later (long short : List ℕ) (from : ℕ) (more : ℕ → ℕ) (v w : Verdict) : Type 0 where
  pub result : v.result ≡ w.result
  pub lacks : v.lacks ≡ w.lacks
  pub reached : from ≤ w.place
  pub place : v.place ≡ w.place + more w.place
  pub failed : failed_by long v ≡ failed_by short w

pub data Moved (long short : List ℕ) (from : ℕ) (more : ℕ → ℕ) : Judged → Judged → Type 0 where
  faults : (v w : Verdict) → Later long short from more v w → Moved long short from more (bad v) (bad w)
  same : (seen : Seen) → Moved long short from more (fine seen) (fine seen)

pub moved_as : {long short : List ℕ} {from first : ℕ} {more less : ℕ → ℕ} {j k : Judged} → from ≤ first → ((p : ℕ) → first ≤ p → less p ≡ more p)
    → Moved long short first less j k → Moved long short from more j k
moved_as h f (faults v w l) =
    faults v w (record {
      result = l.result;
      lacks = l.lacks;
      reached = omega (arith, l.reached);
      place = l.place ∙ rw (f w.place l.reached);
      failed = l.failed;
    })
moved_as h f (same seen) = same seen

-- at the place of the verdict
pub moved_by : {long short : List ℕ} {from : ℕ} {more less : ℕ → ℕ} {j k : Judged} → ((w : Verdict) → k ≡ bad w → less w.place ≡ more w.place)
    → Moved long short from less j k → Moved long short from more j k
moved_by f (faults v w l) =
    faults v w (record { result = l.result; lacks = l.lacks; reached = l.reached; place = l.place ∙ rw (f w refl); failed = l.failed })
moved_by f (same seen) = same seen

-- a row's first AVP passed over
whole_size : (q : Piece) → Whole q → 0 < size_of q
whole_size q h = let s = sound_says q.avp h.right in omega (arith, s.eight, s.least, h.exact, padded_least (length q.avp))

drop_piece : (s : List ℕ) (at : ℕ) (q : Piece) (t : List ℕ) → Whole q → drop at s ≡ q.avp ++ q.pad ++ t → drop (at + size_of q) s ≡ t
drop_piece s at q t h e = sym (drop-drop (size_of q) at s) ∙ rw e (drop_at (q.avp ++ q.pad) t (size_of q) h.filled)

drop_row : (s : List ℕ) (at : ℕ) (q : Piece) (qs : List Piece) (t : List ℕ) → Whole q → drop at s ≡ bytes_of (q ∷ qs) ++ t
    → drop (at + size_of q) s ≡ bytes_of qs ++ t
unfolding bytes_of
drop_row s at q qs t h e = drop_piece s at q (bytes_of qs ++ t) h (e ∙ append_assoc (q.avp ++ q.pad) (bytes_of qs) t)

-- the place behind a row
pub past_later : (at : ℕ) (avs : List (List ℕ)) → at ≤ past at avs
unfolding past
past_later at [] = omega arith
past_later at (a ∷ avs) = omega (arith, past_later (at + padded (length a)) avs)

pub past_drop : (s : List ℕ) (at : ℕ) (qs : List Piece) (t : List ℕ) → All Whole qs → drop at s ≡ bytes_of qs ++ t → drop (past at (avps_of qs)) s ≡ t
unfolding past avps_of bytes_of
past_drop s at [] t h e = e
past_drop s at (q ∷ qs) t h e = past_drop s (at + size_of q) qs t h.1 (drop_row s at q qs t h.0 e)

pub past_bytes : (at : ℕ) (qs : List Piece) → All Whole qs → past at (avps_of qs) ≡ at + length (bytes_of qs)
unfolding past avps_of bytes_of
past_bytes at [] h = omega arith
past_bytes at (q ∷ qs) h =
    past_bytes (at + size_of q) qs h.1
    ∙ (let l = length-append (q.avp ++ q.pad) (bytes_of qs) in omega (arith, l, h.0.filled))

-- a fault of a row stands within it
pub record Amid (from to : ℕ) (v : Verdict) : Type 0 where
  pub least : from ≤ v.place
  pub most : v.place < to

pub judge_amid : (dialect : Dialect) (at : ℕ) (qs : List Piece) → All Whole qs → (seen : Seen) (v : Verdict)
    → judge dialect at (glue (avps_of qs) ended) seen ≡ bad v → Amid at (past at (avps_of qs)) v
unfolding judge glue avps_of past
judge_amid dialect at [] h seen v e = let z : ◌≡◌ {A = ℕ} 0 1 = cc in absurd (omega arith)
judge_amid dialect at (q ∷ qs) h seen v e = go (rule dialect seen q.avp) e (λ σ. judge_amid dialect (at + size_of q) qs h.1 σ v)
  where
    go : (r : Ruled) → on_rule r seen q.avp at (judge dialect (at + size_of q) (glue (avps_of qs) ended)) ≡ bad v
        → ((σ : Seen) → judge dialect (at + size_of q) (glue (avps_of qs) ended) σ ≡ bad v → Amid (at + size_of q) (past (at + size_of q) (avps_of qs)) v)
        → Amid at (past (at + size_of q) (avps_of qs)) v
    go Taken f further = let a = further _ f in record { least = omega (arith, a.least); most = a.most }
    go Skipped f further = let a = further seen f in record { least = omega (arith, a.least); most = a.most }
    go (Fault k) f further =
        let p : v.place ≡ at = cc in
        record { least = omega arith; most = omega (arith, whole_size q h.0, past_later (at + size_of q) (avps_of qs)) }

-- Failed-AVP of an AVP at a place, by what stands there
pub failed_there : (s : List ℕ) (n at : ℕ) → 0 < at → failed_by s (fault_at n at) ≡ some (failed_of n (drop at s))
unfolding failed_by number_of
failed_there s n at h = rw (lt-ltb 0 at h)

module _ (dialect : Dialect) (long short : List ℕ) where
  fault_moved : (n at more : ℕ) → 0 < at → failed_of n (drop (at + more) long) ≡ failed_of n (drop at short)
      → Later long short at (λ p. more) (fault_at n (at + more)) (fault_at n at)
  fault_moved n at more h e =
      record {
        result = refl;
        lacks = refl;
        reached = omega arith;
        place = refl;
        failed = failed_there long n (at + more) (omega arith) ∙ rw e (sym (failed_there short n at h));
      }

  -- two walks that end, where the messages end, in verdicts that are moved
  abbrev Ends : List ℕ → List ℕ → Walk → Walk → Type 0
  Ends t' t w' w =
      (at more : ℕ) → 0 < at → drop (at + more) long ≡ t' → drop at short ≡ t → (seen : Seen)
      → Moved long short at (λ p. more) (judge dialect (at + more) w' seen) (judge dialect at w seen)

  pub ends_none : (t' t : List ℕ) → Ends t' t ended ended
  unfolding judge
  ends_none t' t at more h e d seen = same seen

  ends_stopped : (t : List ℕ) → sound t ≡ false → Ends t t (walk t) (walk t)
  unfolding judge
  ends_stopped [] s at more h e d seen = rw walk_nil (same seen)
  ends_stopped (x ∷ t) s at more h e d seen = rw (walk_faulty (x ∷ t) s (omega arith)) (faults _ _ (fault_moved 5014 at more h (rw (e, d))))

  -- a row with others put in, and what is behind it
  module _ (t' t : List ℕ) (w' w : Walk) (ends : Ends t' t w' w) where
    unfoldable pub RowMoved : {qs rs : List Piece} → Inserted (Quiet dialect) qs rs → Type 0
    RowMoved {qs} {rs} i =
        All Whole qs → (at more : ℕ) → 0 < at → drop (at + more) long ≡ bytes_of rs ++ t' → drop at short ≡ bytes_of qs ++ t → (seen : Seen)
        → Moved long short at (λ p. more + put_before i at p) (judge dialect (at + more) (glue (avps_of rs) w') seen) (judge dialect at (glue (avps_of qs) w) seen)

    row_ending : RowMoved ending
    unfolding RowMoved put_before avps_of glue bytes_of
    row_ending h at more k e d seen = moved_as (omega arith) (λ p l. sym (add-zero more)) (ends at more k e d seen)

    row_keep : (q : Piece) {qs rs : List Piece} (i : Inserted (Quiet dialect) qs rs) → RowMoved i → RowMoved (keep q i)
    unfolding RowMoved put_before avps_of bytes_of glue judge
    row_keep q {qs} {rs} i next h at more k e d seen = go (rule dialect seen q.avp)
      where
        later : (p : ℕ) → at + size_of q ≤ p → more + put_before i (at + size_of q) p ≡ more + cond (ltb p (at + size_of q)) 0 (put_before i (at + size_of q) p)
        later p l = rw (le-ltb p (at + size_of q) l)

        here : more + cond (ltb at (at + size_of q)) 0 (put_before i (at + size_of q) at) ≡ more
        here = rw (lt-ltb at (at + size_of q) (omega (arith, whole_size q h.0))) (add-zero more)

        swap : at + more + size_of q ≡ at + size_of q + more
        swap = omega arith

        further : (σ : Seen) → Moved long short at (λ p. more + cond (ltb p (at + size_of q)) 0 (put_before i (at + size_of q) p))
            (judge dialect (at + more + size_of q) (glue (avps_of rs) w') σ) (judge dialect (at + size_of q) (glue (avps_of qs) w) σ)
        further σ =
            rw swap
            (moved_as (omega arith) later
            (next h.1 (at + size_of q) more (omega arith) (rw swap at (drop_row long (at + more) q rs t' h.0 e)) (drop_row short at q qs t h.0 d) σ))

        alike : (m : ℕ) → failed_of m (drop (at + more) long) ≡ failed_of m (drop at short)
        alike m =
            rw (e, d, append_assoc (q.avp ++ q.pad) (bytes_of rs) t', append_assoc (q.avp ++ q.pad) (bytes_of qs) t)
            (failed_piece q (bytes_of rs ++ t') m h.0 ∙ sym (failed_piece q (bytes_of qs ++ t) m h.0))

        fault : (m : ℕ)
            → Later long short at (λ p. more + cond (ltb p (at + size_of q)) 0 (put_before i (at + size_of q) p)) (fault_at m (at + more)) (fault_at m at)
        fault m =
            let l = fault_moved m at more k (alike m) in
            record { result = refl; lacks = refl; reached = omega arith; place = rw here; failed = l.failed }

        go : (x : Ruled) → Moved long short at (λ p. more + cond (ltb p (at + size_of q)) 0 (put_before i (at + size_of q) p))
            (on_rule x seen q.avp (at + more) (judge dialect (at + more + size_of q) (glue (avps_of rs) w')))
            (on_rule x seen q.avp at (judge dialect (at + size_of q) (glue (avps_of qs) w)))
        go Taken = further (set seen (kind_of q.avp) (some q.avp))
        go Skipped = further seen
        go (Fault m) = faults _ _ (fault m)

    row_put : (u : Piece) (p : Quiet dialect u) {qs rs : List Piece} (i : Inserted (Quiet dialect) qs rs) → RowMoved i → RowMoved (put u p i)
    unfolding RowMoved put_before avps_of glue
    row_put u p {qs} {rs} i next h at more k e d seen =
        let n = size_of u in
        let f = p.foreign in
        let swap : at + more + n ≡ at + (more + n) = omega arith in
        rw (judge_unmarked dialect (at + more) u.avp (glue (avps_of rs) w') seen f.plain f.stranger p.unmarked, swap)
        (moved_as (omega arith) (λ q l. omega arith)
        (next h at (more + n) k (rw swap at (drop_row long (at + more) u rs t' f.whole e)) d seen))

    pub row_moved : {qs rs : List Piece} (i : Inserted (Quiet dialect) qs rs) → RowMoved i
    row_moved ending = row_ending
    row_moved (keep q i) = row_keep q i (row_moved i)
    row_moved (put u p i) = row_put u p i (row_moved i)

  -- any bytes of a right length, which stand in both messages
  kept : (qs : List Piece) → Inserted (Quiet dialect) qs qs
  kept [] = ending
  kept (q ∷ qs) = keep q (kept qs)

  kept_none : (qs : List Piece) (at p : ℕ) → put_before (kept qs) at p ≡ 0
  unfolding put_before kept
  kept_none [] at p = refl
  kept_none (q ∷ qs) at p = go (ltb p (at + size_of q)) (kept_none qs (at + size_of q) p)
    where
      go : (b : Bool) {m : ℕ} → m ≡ 0 → cond b 0 m ≡ 0
      go true e = refl
      go false e = e

  ends_row : (t : List ℕ) (r : Row t) → Ends t t (walk t) (walk t)
  unfolding RowMoved
  ends_row t r at more h e d seen =
      let w : walk t ≡ glue (avps_of r.row) (walk r.tail) = ap walk r.bytes ∙ walk_pieces r.row r.tail r.whole in
      let i = kept r.row in
      rw w
      (moved_as (omega arith) (λ p l. rw (kept_none r.row at p) (add-zero more))
      (row_moved r.tail r.tail (walk r.tail) (walk r.tail) (ends_stopped r.tail r.stops) i r.whole at more h (e ∙ r.bytes)
      (d ∙ r.bytes) seen))

  pub ends_same : (t : List ℕ) → length t % 4 ≡ 0 → Ends t t (walk t) (walk t)
  ends_same t f = ends_row t (row_of (length t) t (omega arith) f)
