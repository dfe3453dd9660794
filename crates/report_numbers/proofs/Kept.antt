-- Demand 2 over a row of calls: what stays sound, and what stays as it came.
use Rattle.std.specs.Prelude.{Ok, Err}
use Rattle.octets.specs.Standard.{ℕ, ◌+◌, ◌≤◌, ◌<◌, List, [], ◌∷◌, Bool, true, false, not, ◌||◌, ◌&&◌, or-true, true≢false, ◌≡◌, refl, sym, ap, ◌∙◌, arith}
use Rattle.octets.specs.Standard.{length, get_or, eqb, ltb, eqb-false, lt-ltb, ltb-true, ltb-false}
use Rattle.blocks.specs.Blocks.{block_of}
use Rattle.table.specs.Check.{check_table}
use Rattle.vectors.specs.VectorFile.{check_vectors}
use Rattle.rewrite.specs.Keeps.{alterable}
use Rattle.diameter.specs.Message.{command_of}
use Rattle.refusals.proofs.Passing.{neither}
use Rattle.counting.specs.Counted.{how_many}
use Rattle.counting.specs.Event.{Event}
use Rattle.calling.specs.Lent.{Lent, asking}
use Rattle.refusals.specs.Trial.{any_holds}
use Rattle.refusals.specs.Early.{unknown_peer, small_buffer, check_value}
use Rattle.calling.specs.Serve.{check_of, answered_by, result_of, serve_table}
use Rattle.calling.proofs.Kept.{table_checked, vectors_checked, taken}
use Rattle.demands.specs.Call.{turned_away}
use Rattle.demands.specs.Frame.{succeeds}
use Rattle.demands.proofs.Refusals.{refused_kept, answered_is}
use Rattle.demands.proofs.PeerCalls.{peer_call}
use Rattle.demands.proofs.Frame.{failure_kept, question_kept, bytes_kept}
use Rattle.reporting.specs.Row.{event_of, next, row, left}
use Rattle.reporting.specs.Report.{requests_of, ran, reported_table}
use Rattle.report_numbers.specs.Turns.{refused_by, idle, all_idle}
use Rattle.report_numbers.proofs.Table.{table_altered}
use Rattle.report_numbers.proofs.Calls.{same_altered}
use Rattle.report_numbers.proofs.Ends.{area_short, area_long}

-- what the checks say stays
pub left_table : (x : Lent) (ps : List (List ℕ)) → check_table (left x ps).table (length x.profile) ≡ check_of x
unfolding left next
left_table x [] = refl
left_table x (p ∷ ps) = left_table (next x p) ps ∙ table_checked (asking x p)

pub left_vectors : (x : Lent) (ps : List (List ℕ)) → check_vectors (left x ps).vectors ≡ check_vectors x.vectors
unfolding left next
left_vectors x [] = refl
left_vectors x (p ∷ ps) = left_vectors (next x p) ps ∙ vectors_checked (asking x p)

-- and so do the bytes of a sound table that no call writes
pub left_bytes : (x : Lent) (ps : List (List ℕ)) (count : ℕ) → check_of x ≡ Ok count → (k i : ℕ) → k ≤ count → i < 512 → alterable i ≡ false
    → get_or (block_of (left x ps).table k) i 0 ≡ get_or (block_of x.table k) i 0
unfolding left next
left_bytes x [] count sound k i h l e = refl
left_bytes x (p ∷ ps) count sound k i h l e =
    left_bytes (next x p) ps count (table_checked (asking x p) ∙ sound) k i h l e ∙ bytes_kept (asking x p) count sound k i h l e

-- Where every request is refused, nothing is altered.
pub left_refused : (x : Lent) → ((p : List ℕ) → turned_away (asking x p) ≡ true) → (ps : List (List ℕ)) → left x ps ≡ x
unfolding left next
left_refused x h [] = refl
left_refused x h (p ∷ ps) =
    let k = refused_kept (asking x p) (h p) in
    rw (k.0, k.1, k.2) (left_refused x h ps)

module _ (x : Lent) where
  pub peer_refused : unknown_peer x.terms ≡ true → (p : List ℕ) → turned_away (asking x p) ≡ true
  unfolding any_holds
  peer_refused e p = rw e

  small_refused : small_buffer x.buffer ≡ true → (p : List ℕ) → turned_away (asking x p) ≡ true
  unfolding any_holds
  small_refused e p = simp (e, or-true)

  pub short_refused : length x.buffer < 36864 → (p : List ℕ) → turned_away (asking x p) ≡ true
  short_refused h = small_refused (lt-ltb (length x.buffer) 36864 h)

  pub table_refused : (k : ℕ) → check_of x ≡ Err k → (p : List ℕ) → turned_away (asking x p) ≡ true
  unfolding any_holds
  table_refused k e p = simp (e, or-true)

  pub vectors_refused : (k : ℕ) → check_vectors x.vectors ≡ Err k → (p : List ℕ) → turned_away (asking x p) ≡ true
  unfolding any_holds
  vectors_refused k e p = simp (e, or-true)

-- by a peer of another edition than the two every request is counted under 12
pub peer_counts : (x : Lent) → unknown_peer x.terms ≡ true → (ps : List (List ℕ)) → how_many (refused_by 12) (row x ps) ≡ length ps
unfolding row next how_many event_of
peer_counts x e [] = refl
peer_counts x e (p ∷ ps) = rw (peer_call (asking x p) e) (ap (λ (n : ℕ). 1 + n) (peer_counts (next x p) e ps) ∙ omega arith)

-- What alters nothing: a call that is refused, or answered by an error, or neither a SAR nor a MAR.
abbrev Left : Lent → Type 0
Left x = ((serve_table x).table ≡ x.table) × ((serve_table x).vectors ≡ x.vectors)

idle_kept : (x : Lent) → idle (event_of x) ≡ true → Left x
unfolding event_of answered_by
idle_kept x q = go (turned_away x) refl
  where
    count : ℕ
    count = check_value (check_of x)

    quiet : (y z : Bool) → succeeds (result_of x) ≡ y → (eqb (command_of x.request) 301 || eqb (command_of x.request) 303) ≡ z → check_of x ≡ Ok count
        → (not y || not z) ≡ true → Left x
    quiet false z e f s h = failure_kept x count s e
    quiet true false e f s h =
        let n = neither (eqb (command_of x.request) 301) (eqb (command_of x.request) 303) f in
        question_kept x (eqb-false (command_of x.request) 301 n.0) (eqb-false (command_of x.request) 303 n.1)
    quiet true true e f s h = absurd (true≢false (sym h))

    said : turned_away x ≡ false → check_of x ≡ Ok count
        → (not (succeeds (result_of x)) || not (eqb (command_of x.request) 301 || eqb (command_of x.request) 303)) ≡ true
    said e s = rw (answered_is x count s e) at q

    go : (y : Bool) → turned_away x ≡ y → Left x
    go true e = let k = refused_kept x e in (k.0, k.1)
    go false e = let s = (taken x e).table in quiet _ _ refl refl s (said e s)

idle_first : (e : Event) (es : List Event) → all_idle (e ∷ es) ≡ true → (idle e ≡ true) × (all_idle es ≡ true)
unfolding all_idle
idle_first e es q = go (idle e) refl q
  where
    go : (b : Bool) → idle e ≡ b → (b && all_idle es) ≡ true → (idle e ≡ true) × (all_idle es ≡ true)
    go true f g = (f, g)
    go false f g = absurd (true≢false (sym g))

pub idle_left : (x : Lent) (ps : List (List ℕ)) → all_idle (row x ps) ≡ true → ((left x ps).table ≡ x.table) × ((left x ps).vectors ≡ x.vectors)
unfolding row left next
idle_left x [] q = (refl, refl)
idle_left x (p ∷ ps) q =
    let both = idle_first (event_of (asking x p)) (row (next x p) ps) q in
    let one = idle_kept (asking x p) both.0 in
    let more = idle_left (next x p) ps both.1 in
    (more.0 ∙ one.0, more.1 ∙ one.1)

pub idle_altered : (x : Lent) (ps : List (List ℕ)) → all_idle (row x ps) ≡ true → table_altered x ps ≡ 0
unfolding row table_altered
idle_altered x [] q = refl
idle_altered x (p ∷ ps) q =
    let both = idle_first (event_of (asking x p)) (row (next x p) ps) q in
    omega (arith, same_altered (asking x p) (idle_kept (asking x p) both.0).0, idle_altered (next x p) ps both.1)

-- So is it of a report: what holds where nothing is run, and of what the calls leave, holds of what it leaves.
module _ (x : Lent) (area : List ℕ) where
  report_by : (P : List ℕ → List ℕ → List ℕ → Type 0) → P x.table x.vectors x.buffer
      → P (left x (requests_of x)).table (left x (requests_of x)).vectors (left x (requests_of x)).buffer
      → P (reported_table x area).table (reported_table x area).vectors (reported_table x area).buffer
  unfolding ran
  report_by P came ran = go (ltb (length area) 1160) refl
    where
      go : (b : Bool) → ltb (length area) 1160 ≡ b → P (reported_table x area).table (reported_table x area).vectors (reported_table x area).buffer
      go true e = rw (area_short x area (ltb-true (length area) 1160 e)) came
      go false e = rw (area_long x area (ltb-false (length area) 1160 e)) ran

  pub report_table : check_table (reported_table x area).table (length x.profile) ≡ check_of x
  report_table = report_by (λ t v o. check_table t (length x.profile) ≡ check_of x) refl (left_table x (requests_of x))

  pub report_vectors : check_vectors (reported_table x area).vectors ≡ check_vectors x.vectors
  report_vectors = report_by (λ t v o. check_vectors v ≡ check_vectors x.vectors) refl (left_vectors x (requests_of x))

  pub report_bytes : (count : ℕ) → check_of x ≡ Ok count → (k i : ℕ) → k ≤ count → i < 512 → alterable i ≡ false
      → get_or (block_of (reported_table x area).table k) i 0 ≡ get_or (block_of x.table k) i 0
  report_bytes count sound k i h l e =
      report_by (λ t v o. get_or (block_of t k) i 0 ≡ get_or (block_of x.table k) i 0) refl (left_bytes x (requests_of x) count sound k i h l e)

  pub report_refused : ((p : List ℕ) → turned_away (asking x p) ≡ true)
      → ((reported_table x area).table ≡ x.table) × ((reported_table x area).vectors ≡ x.vectors) × ((reported_table x area).buffer ≡ x.buffer)
  report_refused h =
      let e = left_refused x h (requests_of x) in
      report_by (λ t v o. (t ≡ x.table) × (v ≡ x.vectors) × (o ≡ x.buffer)) (refl, refl, refl)
      (ap (λ (y : Lent). y.table) e, ap (λ (y : Lent). y.vectors) e, ap (λ (y : Lent). y.buffer) e)

  pub report_idle : all_idle (row x (requests_of x)) ≡ true
      → ((reported_table x area).table ≡ x.table) × ((reported_table x area).vectors ≡ x.vectors) × (table_altered x (requests_of x) ≡ 0)
  report_idle q =
      let l = idle_left x (requests_of x) q in
      let both = report_by (λ t v o. (t ≡ x.table) × (v ≡ x.vectors)) (refl, refl) (l.0, l.1) in
      (both.0, both.1, idle_altered x (requests_of x) q)
