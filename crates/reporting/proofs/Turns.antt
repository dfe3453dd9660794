-- The turns of a report: what is behind and what is to come make the whole.
use Rattle.std.specs.Prelude.{Result}
use Rattle.octets.specs.Standard.{ℕ, ◌+◌, ◌-◌, ◌≤◌, List, [], ◌∷◌, ◌≡◌, refl, sym, ◌∙◌, add-sub_cancel_left, arith, length, take, drop, length-take}
use Rattle.octets.specs.Standard.{length-drop, drop-drop, take_all}
use Rattle.table.specs.Check.{check_table}
use Rattle.vectors.specs.VectorFile.{check_vectors}
use Rattle.reading.specs.declared.Terms.{Terms}
use Rattle.counting.specs.Counting.{counted_all}
use Rattle.calling.specs.Lent.{Lent, lent}
use Rattle.calling.proofs.Kept.{table_checked, vectors_checked}
use Rattle.reporting.specs.Pieces.{pieces, total_of, stop_of}
use Rattle.reporting.specs.Run.{first_length}
use Rattle.reporting.specs.Row.{next, row, left}
use Rattle.reporting.specs.Report.{requests_of}
use Rattle.reporting.specs.Counts.{Counts, Runs}
use Rattle.reporting.proofs.Cutting.{first_least, first_cut, first_none, past_none}

-- at a byte of the file, with the counts, the table, the vectors and the buffer so far
pub record Going (x : Lent) (c₀ c t v o : List ℕ) (at : ℕ) : Type 0 where
  pub stop : stop_of x.request ≡ at + stop_of (drop at x.request)
  pub counts : counted_all c₀ (row x (requests_of x)) ≡ counted_all c (row (lent x.request t x.profile v o x.terms) (pieces (drop at x.request)))
  pub lefts : left x (requests_of x) ≡ left (lent x.request t x.profile v o x.terms) (pieces (drop at x.request))

-- a slice up to the end; one of so many bytes
rest_is : (s : List ℕ) (at : ℕ) → take (length s - at) (drop at s) ≡ drop at s
rest_is s at = take_all (length s - at) (drop at s) (rw length-drop (omega arith))

module _ (s : List ℕ) (at : ℕ) {n : ℕ} (e : n ≡ first_length (take (length s - at) (drop at s))) where
  pub here : n ≡ first_length (drop at s)
  here = rw (rest_is s at) at e

  pub piece_is : take (at + n - at) (drop at s) ≡ take n (drop at s)
  piece_is = rw add-sub_cancel_left

  pub turn_least : (n ≡ 0 → ⊥) → 20 ≤ n
  turn_least z = first_least (drop at s) here z

  module _ (start : at ≤ length s) (most : n ≤ length (take (length s - at) (drop at s))) where
    pub turn_within : at + n ≤ length s
    turn_within = omega (arith, simp (length-take, length-drop) at most)

module _ (req t₀ file v₀ o₀ : List ℕ) (terms : Terms) (c₀ : List ℕ) where
  abbrev x : Lent
  x = lent req t₀ file v₀ o₀ terms

  pub going_start : Going x c₀ c₀ t₀ v₀ o₀ 0
  going_start = record { stop = omega arith; counts = refl; lefts = refl }

  module _ (c t v o : List ℕ) (at : ℕ) (g : Going x c₀ c t v o at) where
    -- nothing more stands here
    none_more : pieces (drop at req) ≡ [] → Runs x c₀ c t v o at
    unfolding row left counted_all total_of
    none_more e =
        let stays : left x (requests_of x) ≡ lent req t file v o terms = rw e at g.lefts in
        let stop : stop_of req ≡ at + 0 = rw e at g.stop in
        record {
          stop_is = omega (arith, stop);
          counts_is = sym (rw e at g.counts);
          table_is = rw stays;
          vectors_is = rw stays;
          buffer_is = rw stays;
        }

    pub going_stops : first_length (take (length req - at) (drop at req)) ≡ 0 → Runs x c₀ c t v o at
    going_stops z = none_more (first_none (drop at req) (here req at refl) z)

    pub going_ends : length req ≤ at → Runs x c₀ c t v o at
    going_ends h = none_more (past_none (drop at req) (rw length-drop (omega arith)))

    -- one request more
    module _ {n : ℕ} (e : n ≡ first_length (take (length req - at) (drop at req))) (z : n ≡ 0 → ⊥) (start : at ≤ length req)
        (most : n ≤ length (take (length req - at) (drop at req))) {c' t' v' o' : List ℕ}
        (s : Counts (lent (take (at + n - at) (drop at req)) t file v o terms) c c' t' v' o') where
      pub going_turns : Going x c₀ c' t' v' o' (at + n)
      unfolding row left counted_all total_of next
      going_turns =
          let q : Counts (lent (take n (drop at req)) t file v o terms) c c' t' v' o' = rw (piece_is req at e) at s in
          let cut : pieces (drop at req) ≡ take n (drop at req) ∷ pieces (drop n (drop at req)) = first_cut (drop at req) (here req at e) z in
          let on : drop n (drop at req) ≡ drop (at + n) req = drop-drop n at req in
          let l : length (take n (drop at req)) ≡ n = simp (length-take, length-drop) (omega (arith, turn_within req at e start most)) in
          let stop : stop_of req ≡ at + (n + stop_of (drop (at + n) req)) = g.stop ∙ rw (cut, on, l) in
          record {
            stop = omega (arith, stop);
            counts = g.counts ∙ rw (cut, on, q.counts_is, q.table_is, q.vectors_is, q.buffer_is);
            lefts = g.lefts ∙ rw (cut, on, q.table_is, q.vectors_is, q.buffer_is);
          }

-- what was checked before a request is so after it
module _ (req t file v o : List ℕ) (terms : Terms) {counts counts' t' v' o' : List ℕ} (s : Counts (lent req t file v o terms) counts counts' t' v' o') where
  pub turn_table : {c : Result ℕ ℕ} → c ≡ check_table t (length file) → c ≡ check_table t' (length file)
  turn_table e = e ∙ sym (table_checked (lent req t file v o terms)) ∙ rw s.table_is

  pub turn_vectors : {d : Result ℕ ℕ} → d ≡ check_vectors v → d ≡ check_vectors v'
  turn_vectors e = e ∙ sym (vectors_checked (lent req t file v o terms)) ∙ rw s.vectors_is
