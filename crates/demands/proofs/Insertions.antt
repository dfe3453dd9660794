-- Demand 3: AVPs of unknown kinds put into a request after its first AVP. Without M nothing changes; the first with M is B5001, unless a fault before it
-- decides. What reading makes of them is proofs/Rows'.
use Rattle.octets.specs.Standard.{ℕ, ◌%◌, ◌≤◌, ◌<◌, List, ◌∷◌, ◌++◌, Bool, true, false, not, ◌||◌, true≢false, ◌≡◌}
use Rattle.octets.specs.Standard.{refl, sym, ap, ◌∙◌, length, eqb}
use Rattle.diameter.specs.Walk.{Walk, avp, walk, some_avp}
use Rattle.diameter.specs.Put.{glue, Piece, bytes_of, avps_of, Whole, All}
use Rattle.reading.specs.declared.Dialect.{Dialect}
use Rattle.reading.specs.Features.{is_features, asks_beyond, calls_list}
use Rattle.reading.specs.Kinds.{sh, public_identity, supported_features}
use Rattle.reading.specs.Rules.{Seen}
use Rattle.reading.specs.Verdicts.{fault_at}
use Rattle.requests.specs.Judged.{Judged, bad, judge}
use Rattle.requests.specs.Request.{dialect_of, header_fault, complete, read_in, identities}
use Rattle.requests.proofs.Insert.{stranger_kind, identity_known, features_known, and_then}
use Rattle.deciding.specs.Rules.{in_force}
use Rattle.deciding.specs.Decide.{faulted, judged_by, decide_by, decide}
use Rattle.calling.specs.Lent.{Lent, asking}
use Rattle.refusals.specs.Early.{check_value}
use Rattle.calling.specs.Serve.{check_of, answered, answered_by, decision, serve_table}
use Rattle.calling.proofs.Kept.{taken}
use Rattle.demands.specs.Call.{turned_away}
use Rattle.demands.specs.Insertion.{message, request_of, Foreign, Quiet, Inserted, keep, FirstMarked, is_fault, fault_in}
use Rattle.demands.specs.Insertion.{put_before, later, place_now, placed, behind_row}
use Rattle.demands.proofs.Refusals.{refused_kept, answered_is}
use Rattle.demands.proofs.Blaming.{blaming_table, fault_answered}
use Rattle.demands.proofs.Moved.{Moved, faults, same, past_bytes}
use Rattle.demands.proofs.Messages.{message_dialect, message_read, read_body, Fit, turned_same, refused_same, Alike, served_same}
use Rattle.demands.proofs.Rows.{inserted_same, foreign_proxies, foreign_some, read_from, front_other, front_judged, place_behind, long_fit, short_fit}
use Rattle.demands.proofs.Rows.{unmarked_moved, marked_inserted, before_whole, front_moved, long_read_lem, fault_moved, mark_judges, mark_failed}
use Rattle.demands.proofs.Rows as rows
use Rattle.demands.proofs.Rows.{quiet_foreign, none_before}

-- the folds that pass over unknown kinds: the identities, which every command of Cx knows, and the copies
foreign_identities : (dialect : Dialect) → (dialect.terms.application ≡ sh → ⊥) → {qs rs : List Piece} → Inserted (Foreign dialect) qs rs → (w : Walk)
    → identities (glue (avps_of rs) w) ≡ identities (glue (avps_of qs) w)
unfolding identities
foreign_identities dialect other =
    inserted_same identities (λ a v w e. rw e) (λ u w p. rw (stranger_kind dialect u.avp public_identity p.stranger (identity_known dialect other)))

-- and what is asked of Supported-Features alone
called_features : (a : List ℕ) → is_features a ≡ false → calls_list a ≡ false
unfolding calls_list
called_features a e = rw e

beyond_features : (set : ℕ) (a : List ℕ) → is_features a ≡ false → asks_beyond set a ≡ false
unfolding asks_beyond
beyond_features set a e = rw e

foreign_features : {dialect : Dialect} (p : List ℕ → Bool) → ((a : List ℕ) → is_features a ≡ false → p a ≡ false) → {qs rs : List Piece}
    → Inserted (Foreign dialect) qs rs → (w : Walk) → some_avp p (glue (avps_of rs) w) ≡ some_avp p (glue (avps_of qs) w)
foreign_features {dialect} p less = foreign_some supported_features (features_known dialect) p less

-- a fault alters nothing
module _ {long short : List ℕ} {more : ℕ → ℕ} where
  fault_keeps : (n : ℕ) (d : Dialect) (h f : Bool) {from : ℕ} {i j : Judged} (k : Seen → Judged) → Moved long short from more i j
      → (not h || f || is_fault j) ≡ true
      → (req t : List ℕ) (count : ℕ) (v : List ℕ)
      → ((judged_by in_force d req t count v (read_from n d h f i k)).table ≡ t) × ((judged_by in_force d req t count v (read_from n d h f i k)).vectors ≡ v)
  unfolding read_from and_then complete judged_by
  fault_keeps n d false f k m e req t count v = (refl, refl)
  fault_keeps n d true true k m e req t count v = (refl, refl)
  fault_keeps n d true false k (faults x y m) e req t count v = (refl, refl)
  fault_keeps n d true false k (same seen) e req t count v = absurd (true≢false (sym e))

-- A request, the row of its AVPs after the first, the longer row, and what is behind it.
module _ (head : List ℕ) (twenty : length head ≡ 20) (q : Piece) (qs rs : List Piece) (whole : All Whole (q ∷ qs)) (tail : List ℕ) (fours : length tail % 4 ≡ 0)
    (most : length (request_of head (q ∷ rs) tail) ≤ 16384) (x : Lent) where
  abbrev short : List ℕ
  short = bytes_of (q ∷ qs) ++ tail

  abbrev long : List ℕ
  long = bytes_of (q ∷ rs) ++ tail

  abbrev spoken : Dialect
  spoken = dialect_of x.terms head

  module _ (i : Inserted (Foreign spoken) qs rs) where
    long_walk : walk long ≡ avp q.avp (glue (avps_of rs) (walk tail))
    long_walk = rows.long_walk head twenty q qs rs whole tail fours most spoken i

    short_walk : walk short ≡ avp q.avp (glue (avps_of qs) (walk tail))
    short_walk = rows.short_walk head twenty q qs rs whole tail fours most spoken

    fit_long : Fit long
    fit_long = long_fit head twenty q qs rs whole tail fours most spoken i

    fit_short : Fit short
    fit_short = short_fit head twenty q qs rs whole tail fours most spoken i

    both_alike : Alike (walk long) (walk short)
    unfolding avps_of glue
    both_alike =
        rw (long_walk, short_walk)
        (record {
          session = refl;
          copies = foreign_proxies (keep q i) (walk tail);
          called = foreign_features calls_list (λ a e. called_features a e) i (walk tail);
          beyond = λ set. foreign_features (asks_beyond set) (λ a e. beyond_features set a e) (keep q i) (walk tail);
        })

    both_named : (x.terms.application ≡ sh → ⊥) → identities (walk long) ≡ identities (walk short)
    unfolding avps_of glue
    both_named other = rw (long_walk, short_walk) (foreign_identities spoken other (keep q i) (walk tail))

    both_served : {from : ℕ} {more : ℕ → ℕ} → more 0 ≡ 0
        → Moved (message head long) (message head short) from more (read_body spoken head (walk long))
        (read_body spoken head (walk short))
        → serve_table (asking x (message head long)) ≡ placed (later more) (serve_table (asking x (message head short)))
    both_served z e = served_same x head twenty long short both_alike z e both_named fit_long fit_short

    turned : turned_away (asking x (message head long)) ≡ turned_away (asking x (message head short))
    turned = turned_same head twenty long short fit_long fit_short x

    pub both_refused : (f : ℕ → ℕ) → turned_away (asking x (message head short)) ≡ true
        → serve_table (asking x (message head long)) ≡ placed f (serve_table (asking x (message head short)))
    both_refused f e = refused_same head twenty long short fit_long fit_short x f e

  pub unmarked_same : (j : Inserted (Quiet spoken) qs rs)
      → serve_table (asking x (message head long)) ≡ placed (place_now (keep q j)) (serve_table (asking x (message head short)))
  unfolding read_body
  unmarked_same j =
      both_served (quiet_foreign j) (none_before q j) (unmarked_moved head twenty q qs rs whole tail fours most spoken (header_fault spoken head) j)

-- Some are marked: the row before the first marked one decides, or that one does.
module _ (head : List ℕ) (twenty : length head ≡ 20) (q : Piece) (qs rs : List Piece) (whole : All Whole (q ∷ qs)) (tail : List ℕ) (fours : length tail % 4 ≡ 0)
    (most : length (request_of head (q ∷ rs) tail) ≤ 16384) (x : Lent) (m : FirstMarked (dialect_of x.terms head) qs rs) where
  abbrev dialect : Dialect
  dialect = dialect_of x.terms head

  abbrev i : Inserted (Foreign dialect) qs rs
  i = marked_inserted m

  abbrev longer : List ℕ
  longer = request_of head (q ∷ rs) tail

  abbrev shorter : List ℕ
  shorter = request_of head (q ∷ qs) tail

  abbrev headed : Bool
  headed = eqb (header_fault dialect head) 0

  abbrev frontal : Inserted (Quiet dialect) (q ∷ m.front) (q ∷ m.before)
  frontal = keep q m.quiet

  abbrev mark_place : ℕ
  mark_place = place_behind q m.before

  abbrev behind : ℕ → List Piece → Seen → Judged
  behind at ps = judge dialect at (glue (avps_of ps) (walk tail))

  -- a fault before the first marked one decides
  module _ (more : ℕ → ℕ) (none : more 0 ≡ 0) (so : (p : ℕ) → 20 ≤ p → p < place_behind q m.front → put_before frontal 20 p ≡ more p) where
    pub fault_more : fault_in dialect head (q ∷ m.front) ≡ true → serve_table (asking x longer) ≡ placed (later more) (serve_table (asking x shorter))
    unfolding read_body fault_in
    fault_more e =
        both_served head twenty q qs rs whole tail fours most x i none
        (fault_moved head twenty q qs rs whole tail fours most dialect (header_fault dialect head) m more none so e)

  pub fault_first : fault_in dialect head (q ∷ m.front) ≡ true → serve_table (asking x longer) ≡ placed (place_now frontal) (serve_table (asking x shorter))
  fault_first = fault_more (put_before frontal 20) (none_before q m.quiet) (λ p l h. refl)

  -- else the marked one does: its place is where it stands
  pub mark_read : fault_in dialect head (q ∷ m.front) ≡ false → read_in (dialect_of x.terms longer) longer ≡ bad (fault_at 5001 mark_place)
  unfolding fault_in read_body
  mark_read e =
      ap (λ (d : Dialect). read_in d longer) (message_dialect head twenty (bytes_of (q ∷ rs) ++ tail) x.terms)
      ∙ message_read dialect head twenty (bytes_of (q ∷ rs) ++ tail)
      ∙ mark_judges head twenty q qs rs whole tail fours most dialect (header_fault dialect head) m e

  mark_decides : fault_in dialect head (q ∷ m.front) ≡ false → (t : List ℕ) (count : ℕ) (v : List ℕ)
      → decide (dialect_of x.terms longer) longer t count v ≡ faulted t v (fault_at 5001 mark_place)
  unfolding decide_by judged_by
  mark_decides e t count v = rw (mark_read e)

  pub mark_answered : fault_in dialect head (q ∷ m.front) ≡ false → turned_away (asking x shorter) ≡ false
      → serve_table (asking x longer) ≡ blaming_table (asking x longer) 5001 m.mark.avp (behind_row (q ∷ m.before))
  mark_answered e away =
      let f : turned_away (asking x longer) ≡ false = turned head twenty q qs rs whole tail fours most x i ∙ away in
      fault_answered (asking x longer) 5001 mark_place m.mark.avp
      (mark_failed head twenty q qs rs whole tail fours most dialect (header_fault dialect head) m) (mark_read e) f
      ∙ ap (blaming_table (asking x longer) 5001 m.mark.avp)
      (past_bytes 20 (q ∷ m.before) (before_whole head twenty q qs rs whole tail fours most dialect (header_fault dialect head) m))

  long_decides : (t : List ℕ) (count : ℕ) (v : List ℕ) → decide (dialect_of x.terms longer) longer t count v
      ≡ judged_by in_force dialect longer t count v
      (read_from (header_fault dialect head) dialect headed (front_other q m.front) (front_judged dialect q m.before) (behind mark_place (m.mark ∷ m.after)))
  unfolding decide_by read_body
  long_decides t count v =
      rw (
        message_dialect head twenty (bytes_of (q ∷ rs) ++ tail) x.terms,
        message_read dialect head twenty (bytes_of (q ∷ rs) ++ tail),
        long_read_lem head twenty q qs rs whole tail fours most dialect (header_fault dialect head) m,
      )

  pub marked_kept : ((serve_table (asking x longer)).table ≡ x.table) × ((serve_table (asking x longer)).vectors ≡ x.vectors)
  unfolding answered_by fault_in
  marked_kept = go (turned_away (asking x longer)) refl (fault_in dialect head (q ∷ m.front)) refl
    where
      count : ℕ
      count = check_value (check_of x)

      answers : turned_away (asking x longer) ≡ false → serve_table (asking x longer) ≡ answered (asking x longer) (decision (asking x longer) count)
      answers e = answered_is (asking x longer) count (taken (asking x longer) e).table e

      go : (y : Bool) → turned_away (asking x longer) ≡ y → (z : Bool) → fault_in dialect head (q ∷ m.front) ≡ z
          → ((serve_table (asking x longer)).table ≡ x.table) × ((serve_table (asking x longer)).vectors ≡ x.vectors)
      go true e z f = let k = refused_kept (asking x longer) e in (k.0, k.1)
      go false e true f =
          rw (answers e, long_decides x.table count x.vectors)
          (fault_keeps (header_fault dialect head) dialect headed (front_other q m.front)
          (behind mark_place (m.mark ∷ m.after)) (front_moved head twenty q qs rs whole tail fours most dialect (header_fault dialect head) m) f longer
          x.table
          count x.vectors)
      go false e false f = rw (answers e, mark_decides f x.table count x.vectors) (refl, refl)
