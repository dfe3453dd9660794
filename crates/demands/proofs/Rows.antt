-- What reading makes of a request into whose row AVPs of unknown kinds were put after its first AVP, whatever its dialect and its header's fault: at each
-- server.
use Rattle.octets.specs.Standard.{ℕ, ◌+◌, ◌%◌, ◌≤◌, ◌<◌, List, [], ◌∷◌, ◌++◌, append_assoc, some, Bool, true, false, not, cond, ◌||◌, true≢false, ◌≡◌}
use Rattle.octets.specs.Standard.{refl, sym, ap, ◌∙◌, arith, zero-add, length, drop, length-append, eqb, lt-ltb}
use Rattle.pen.specs.Bytes.{if_there}
use Rattle.diameter.specs.Avp.{padded}
use Rattle.diameter.specs.Walk.{Walk, ended, avp, walk, some_avp}
use Rattle.diameter.specs.Put.{glue, Piece, bytes_of, avps_of, Whole, All}
use Rattle.diameter.proofs.Pieces.{walk_pieces, row_even, avps_joined, glue_glue}
use Rattle.reading.specs.declared.Dialect.{Dialect}
use Rattle.reading.specs.declared.Verdict.{Verdict}
use Rattle.reading.specs.Kinds.{kind_of, row_of, use_in, is_unknown, session_id, proxy_info}
use Rattle.reading.specs.Rules.{Seen}
use Rattle.reading.specs.Verdicts.{fault_at, lack_of, fault_of}
use Rattle.requests.specs.Judged.{Judged, bad, fine, nothing, judge}
use Rattle.requests.specs.Request.{first_other, missing, complete, read_walk}
use Rattle.requests.proofs.Insert.{stranger_kind, proxy_known, judge_marked, and_then, judge_glue, past}
use Rattle.failed.specs.Failing.{failed_by}
use Rattle.failed.proofs.Fronts.{failed_piece, failed_whole}
use Rattle.envelope.specs.End.{proxy, proxies}
use Rattle.demands.specs.Insertion.{message, request_of, Foreign, is_marked, Quiet, Inserted, ending, keep, put, FirstMarked, is_fault, fault_by}
use Rattle.demands.specs.Insertion.{put_before}
use Rattle.demands.proofs.Moved.{Moved, faults, same, moved_as, moved_by, judge_amid, past_later, past_drop, failed_there}
use Rattle.demands.proofs.Moved.{RowMoved, row_moved, ends_none, ends_same}
use Rattle.demands.proofs.Messages.{message_length, message_drop, read_body_by, Fit}

-- what a fold that passes over those put in makes of the longer row
pub inserted_same : {X : Type 0} {P : Piece → Type 0} (f : Walk → X) → ((a : List ℕ) (v w : Walk) → f v ≡ f w → f (avp a v) ≡ f (avp a w))
    → ((u : Piece) (w : Walk) → P u → f (avp u.avp w) ≡ f w)
    → {qs rs : List Piece} → Inserted P qs rs → (w : Walk) → f (glue (avps_of rs) w) ≡ f (glue (avps_of qs) w)
unfolding glue avps_of
inserted_same f goes skips ending w = refl
inserted_same f goes skips (keep q {qs} {rs} i) w = goes q.avp (glue (avps_of rs) w) (glue (avps_of qs) w) (inserted_same f goes skips i w)
inserted_same f goes skips (put u {qs} {rs} p i) w = skips u (glue (avps_of rs) w) p ∙ inserted_same f goes skips i w

pub inserted_whole : {P : Piece → Type 0} → ((u : Piece) → P u → Whole u) → {qs rs : List Piece} → Inserted P qs rs → All Whole qs → All Whole rs
inserted_whole f ending h = h
inserted_whole f (keep q i) h = (h.0, inserted_whole f i h.1)
inserted_whole f (put u p i) h = (f u p, inserted_whole f i h)

pub inserted_longer : {P : Piece → Type 0} {qs rs : List Piece} → Inserted P qs rs → length (bytes_of qs) ≤ length (bytes_of rs)
unfolding bytes_of
inserted_longer ending = omega arith
inserted_longer (keep q {qs} {rs} i) = simp length-append (omega (arith, inserted_longer i))
inserted_longer (put u {qs} {rs} p i) = simp length-append (omega (arith, inserted_longer i))

pub inserted_as : {P R : Piece → Type 0} → ((u : Piece) → P u → R u) → {qs rs : List Piece} → Inserted P qs rs → Inserted R qs rs
inserted_as f ending = ending
inserted_as f (keep q i) = keep q (inserted_as f i)
inserted_as f (put u p i) = put u (f u p) (inserted_as f i)

pub inserted_joined : {P : Piece → Type 0} {qs rs ps ss : List Piece} → Inserted P qs rs → Inserted P ps ss → Inserted P (qs ++ ps) (rs ++ ss)
inserted_joined ending j = j
inserted_joined (keep q i) j = keep q (inserted_joined i j)
inserted_joined (put u p i) j = put u p (inserted_joined i j)

-- the folds that pass over unknown kinds: the copies, and a test that no AVP but of a known kind passes
pub foreign_proxies : {dialect : Dialect} {qs rs : List Piece} → Inserted (Foreign dialect) qs rs → (w : Walk)
    → proxies (glue (avps_of rs) w) ≡ proxies (glue (avps_of qs) w)
unfolding proxies proxy if_there
foreign_proxies {dialect} = inserted_same proxies (λ a v w e. rw e) (λ u w p. rw (stranger_kind dialect u.avp proxy_info p.stranger (proxy_known dialect)))

pub foreign_some : {dialect : Dialect} (k : ℕ) → is_unknown (use_in dialect (row_of k)) ≡ false → (p : List ℕ → Bool)
    → ((a : List ℕ) → eqb (kind_of a) k ≡ false → p a ≡ false) → {qs rs : List Piece}
    → Inserted (Foreign dialect) qs rs → (w : Walk) → some_avp p (glue (avps_of rs) w) ≡ some_avp p (glue (avps_of qs) w)
unfolding some_avp
foreign_some {dialect} k known p less =
    inserted_same (some_avp p) (λ a v w e. rw e) (λ u w f. rw (less u.avp (stranger_kind dialect u.avp k f.stranger known)))

pub quiet_foreign : {dialect : Dialect} {qs rs : List Piece} → Inserted (Quiet dialect) qs rs → Inserted (Foreign dialect) qs rs
quiet_foreign = inserted_as (λ u p. p.foreign)

-- What reading a request comes to, by the header's fault, by rule (b), by what the AVPs in front come to, and by those behind.
unfoldable pub read_from : ℕ → Dialect → Bool → Bool → Judged → (Seen → Judged) → Judged
read_from n d h f j next =
    cond h (cond f (bad (lack_of session_id)) (complete d (and_then j next))) (bad (fault_of n))

abbrev pub front_other : Piece → List Piece → Bool
front_other q ps = first_other (glue (avps_of (q ∷ ps)) ended)

abbrev pub front_judged : Dialect → Piece → List Piece → Judged
front_judged d q ps = judge d 20 (glue (avps_of (q ∷ ps)) ended) nothing

abbrev pub place_behind : Piece → List Piece → ℕ
place_behind q ps = past 20 (avps_of (q ∷ ps))

pub read_behind : (n : ℕ) (d : Dialect) (q : Piece) (ps : List Piece) (w : Walk)
    → read_body_by n d (glue (avps_of (q ∷ ps)) w)
    ≡ read_from n d (eqb n 0) (front_other q ps) (front_judged d q ps) (judge d (place_behind q ps) w)
unfolding read_from read_body_by read_walk avps_of glue
read_behind n d q ps w = rw (judge_glue d 20 (avps_of (q ∷ ps)) w nothing)

-- no place is blamed, and no AVP of the request is in Failed-AVP
module _ {long short : List ℕ} {more : ℕ → ℕ} (none : more 0 ≡ 0) where
  fault_of_lem : (n : ℕ) → Moved long short 0 more (bad (fault_of n)) (bad (fault_of n))
  unfolding failed_by
  fault_of_lem n = faults (fault_of n) (fault_of n) (record { result = refl; lacks = refl; reached = omega arith; place = rw none; failed = refl })

  lacking_of : (k : ℕ) → Moved long short 0 more (bad (lack_of k)) (bad (lack_of k))
  unfolding failed_by
  lacking_of k = faults (lack_of k) (lack_of k) (record { result = refl; lacks = refl; reached = omega arith; place = rw none; failed = refl })

  complete_moved : (dialect : Dialect) {from : ℕ} {j k : Judged} → Moved long short from more j k
      → Moved long short 0 more (complete dialect j) (complete dialect k)
  unfolding complete
  complete_moved dialect (faults v w l) = moved_as (omega arith) (λ p h. refl) (faults v w l)
  complete_moved dialect (same seen) = go (eqb (missing dialect seen) 0)
    where
      go : (x : Bool)
          → Moved long short 0 more (cond x (fine seen) (bad (lack_of (missing dialect seen)))) (cond x (fine seen) (bad (lack_of (missing dialect seen))))
      go true = same seen
      go false = lacking_of (missing dialect seen)

  -- the AVPs and what is behind them
  pub walk_moved : (n : ℕ) (d : Dialect) (v w : Walk) → first_other v ≡ first_other w
      → Moved long short 20 more (judge d 20 v nothing) (judge d 20 w nothing)
      → Moved long short 0 more (read_body_by n d v) (read_body_by n d w)
  unfolding read_body_by read_walk
  walk_moved n d v w o m = rw o (go (eqb n 0) (first_other w))
    where
      go : (h f : Bool)
          → Moved long short 0 more
          (cond h (cond f (bad (lack_of session_id)) (complete d (judge d 20 v nothing)))
          (bad (fault_of n)))
          (cond h (cond f (bad (lack_of session_id)) (complete d (judge d 20 w nothing)))
          (bad (fault_of n)))
      go false f = fault_of_lem n
      go true true = lacking_of session_id
      go true false = complete_moved d m

  -- a fault in front decides, whatever is behind
  pub fault_decides : (n : ℕ) (d : Dialect) (h f : Bool) {from : ℕ} {i j : Judged} (k l : Seen → Judged) → Moved long short from more i j
      → (not h || f || is_fault j) ≡ true
      → Moved long short 0 more (read_from n d h f i k) (read_from n d h f j l)
  unfolding read_from and_then complete
  fault_decides n d false f k l m e = fault_of_lem n
  fault_decides n d true true k l m e = lacking_of session_id
  fault_decides n d true false k l (faults x y m) e = moved_as (omega arith) (λ p h. refl) (faults x y m)
  fault_decides n d true false k l (same seen) e = absurd (true≢false (sym e))

  pub none_decides : (n : ℕ) (d : Dialect) (h f : Bool) {from : ℕ} {i j : Judged} (k : Seen → Judged) (v : Verdict) → Moved long short from more i j
      → (not h || f || is_fault j) ≡ false
      → ((seen : Seen) → k seen ≡ bad v) → read_from n d h f i k ≡ bad v
  unfolding read_from and_then complete
  none_decides n d false f k v m e g = absurd (true≢false e)
  none_decides n d true true k v m e g = absurd (true≢false e)
  none_decides n d true false k v (faults x y m) e g = absurd (true≢false e)
  none_decides n d true false k v (same seen) e g = rw (g seen)

pub mark_judged : (dialect : Dialect) (at : ℕ) (m : Piece) (w : Walk) (seen : Seen) → Foreign dialect m → is_marked m ≡ true
    → judge dialect at (avp m.avp w) seen ≡ bad (fault_at 5001 at)
mark_judged dialect at m w seen f e = judge_marked dialect at m.avp w seen f.plain f.stranger e

-- before the first AVP nothing was put in
pub none_before : {P : Piece → Type 0} (q : Piece) {qs rs : List Piece} (i : Inserted P qs rs) → put_before (keep q i) 20 0 ≡ 0
unfolding put_before
none_before q i = rw (lt-ltb 0 (20 + padded (length q.avp)) (omega arith))

-- A request, the row of its AVPs after the first, the longer row, and what is behind it.
module _ (head : List ℕ) (twenty : length head ≡ 20) (q : Piece) (qs rs : List Piece) (whole : All Whole (q ∷ qs)) (tail : List ℕ) (fours : length tail % 4 ≡ 0)
    (most : length (request_of head (q ∷ rs) tail) ≤ 16384) (dialect : Dialect) where
  abbrev short : List ℕ
  short = bytes_of (q ∷ qs) ++ tail

  abbrev long : List ℕ
  long = bytes_of (q ∷ rs) ++ tail

  pub short_walk : walk short ≡ avp q.avp (glue (avps_of qs) (walk tail))
  unfolding avps_of glue
  short_walk = walk_pieces (q ∷ qs) tail whole

  pub even : (ps : List Piece) → All Whole ps → length (bytes_of ps ++ tail) % 4 ≡ 0
  even ps w = rw (length-append (bytes_of ps) tail) (omega (arith, row_even ps w, fours))

  module _ (i : Inserted (Foreign dialect) qs rs) where
    pub long_whole : All Whole (q ∷ rs)
    long_whole = (whole.0, inserted_whole (λ u p. p.whole) i whole.1)

    pub long_fit : Fit long
    long_fit = record { most = rw (← message_length head twenty long) most; fours = even (q ∷ rs) long_whole }

    pub short_fit : Fit short
    short_fit =
        record {
          most = omega (arith, long_fit.most, inserted_longer (keep q i), length-append (bytes_of (q ∷ qs)) tail, length-append (bytes_of (q ∷ rs)) tail);
          fours = even (q ∷ qs) whole;
        }

    pub long_walk : walk long ≡ avp q.avp (glue (avps_of rs) (walk tail))
    unfolding avps_of glue
    long_walk = walk_pieces (q ∷ rs) tail long_whole

  -- the verdict of reading: the place of the AVP at fault moves by what was put in before it
  pub unmarked_moved : (n : ℕ) (j : Inserted (Quiet dialect) qs rs)
      → Moved (message head long) (message head short) 0 (put_before (keep q j) 20) (read_body_by n dialect (walk long))
      (read_body_by n dialect (walk short))
  unfolding RowMoved avps_of glue
  unmarked_moved n j =
      let s = message head short in
      let l = message head long in
      let w = walk tail in
      let ends = ends_same dialect l s tail fours in
      let m = row_moved dialect l s tail tail w w ends (keep q j) whole 20 0 (omega arith) (message_drop head twenty long)
      (message_drop head twenty short) nothing in
      rw (long_walk (quiet_foreign j), short_walk)
      (walk_moved (none_before q j) n dialect (avp q.avp (glue (avps_of rs) w)) (avp q.avp (glue (avps_of qs) w)) refl
      (moved_as (omega arith) (λ p h. zero-add (put_before (keep q j) 20 p)) m))

-- Some are marked: the row before the first marked one decides, or that one does.
pub marked_inserted : {dialect : Dialect} {qs rs : List Piece} → FirstMarked dialect qs rs → Inserted (Foreign dialect) qs rs
marked_inserted m = rw (m.row, m.longer) (inserted_joined (quiet_foreign m.quiet) (put m.mark m.foreign m.rest))

-- rows joined
pub bytes_joined : (qs ps : List Piece) → bytes_of (qs ++ ps) ≡ bytes_of qs ++ bytes_of ps
unfolding bytes_of
bytes_joined [] ps = refl
bytes_joined (q ∷ qs) ps = rw (bytes_joined qs ps) (sym (append_assoc (q.avp ++ q.pad) (bytes_of qs) (bytes_of ps)))

pub whole_front : (qs ps : List Piece) → All Whole (qs ++ ps) → All Whole qs
whole_front [] ps h = tt
whole_front (q ∷ qs) ps h = (h.0, whole_front qs ps h.1)

pub row_joined : (q : Piece) (ps ss : List Piece) (w : Walk) → glue (avps_of (q ∷ ps ++ ss)) w ≡ glue (avps_of (q ∷ ps)) (glue (avps_of ss) w)
row_joined q ps ss w = rw (avps_joined (q ∷ ps) ss) (glue_glue (avps_of (q ∷ ps)) (avps_of ss) w)

module _ (head : List ℕ) (twenty : length head ≡ 20) (q : Piece) (qs rs : List Piece) (whole : All Whole (q ∷ qs)) (tail : List ℕ) (fours : length tail % 4 ≡ 0)
    (most : length (request_of head (q ∷ rs) tail) ≤ 16384) (dialect : Dialect) (n : ℕ) (m : FirstMarked dialect qs rs) where
  abbrev i : Inserted (Foreign dialect) qs rs
  i = marked_inserted m

  abbrev longer : List ℕ
  longer = request_of head (q ∷ rs) tail

  abbrev shorter : List ℕ
  shorter = request_of head (q ∷ qs) tail

  abbrev headed : Bool
  headed = eqb n 0

  -- the bytes of both, with the row in front apart
  long_bytes_lem : bytes_of (q ∷ rs) ++ tail ≡ bytes_of (q ∷ m.before) ++ (bytes_of (m.mark ∷ m.after) ++ tail)
  long_bytes_lem =
      rw m.longer (rw (bytes_joined (q ∷ m.before) (m.mark ∷ m.after)) (append_assoc (bytes_of (q ∷ m.before)) (bytes_of (m.mark ∷ m.after)) tail))

  short_bytes : bytes_of (q ∷ qs) ++ tail ≡ bytes_of (q ∷ m.front) ++ (bytes_of m.back ++ tail)
  short_bytes = rw m.row (rw (bytes_joined (q ∷ m.front) m.back) (append_assoc (bytes_of (q ∷ m.front)) (bytes_of m.back) tail))

  front_whole : All Whole (q ∷ m.front)
  front_whole = whole_front (q ∷ m.front) m.back (rw m.row at whole)

  pub before_whole : All Whole (q ∷ m.before)
  before_whole = (whole.0, inserted_whole (λ u p. p.foreign.whole) m.quiet front_whole.1)

  abbrev rest : List ℕ
  rest = bytes_of (m.mark ∷ m.after) ++ tail

  abbrev frontal : Inserted (Quiet dialect) (q ∷ m.front) (q ∷ m.before)
  frontal = keep q m.quiet

  -- those in front, in both messages
  pub front_moved : Moved longer shorter 20 (put_before frontal 20) (front_judged dialect q m.before) (front_judged dialect q m.front)
  unfolding RowMoved
  front_moved =
      moved_as (omega arith) (λ p h. zero-add (put_before frontal 20 p))
      (row_moved dialect longer shorter rest (bytes_of m.back ++ tail) ended ended
      (ends_none dialect longer shorter rest (bytes_of m.back ++ tail)) frontal
      front_whole 20 0 (omega arith) (message_drop head twenty (bytes_of (q ∷ rs) ++ tail) ∙ long_bytes_lem)
      (message_drop head twenty (bytes_of (q ∷ qs) ++ tail) ∙ short_bytes) nothing)

  other_same : front_other q m.before ≡ front_other q m.front
  unfolding avps_of glue
  other_same = refl

  -- the place of the first that is marked
  abbrev mark_place : ℕ
  mark_place = place_behind q m.before

  abbrev behind : ℕ → List Piece → Seen → Judged
  behind at ps = judge dialect at (glue (avps_of ps) (walk tail))

  abbrev long_read : Judged
  long_read = read_from n dialect headed (front_other q m.front) (front_judged dialect q m.before) (behind mark_place (m.mark ∷ m.after))

  pub long_read_lem : read_body_by n dialect (walk (bytes_of (q ∷ rs) ++ tail)) ≡ long_read
  long_read_lem =
      ap (read_body_by n dialect)
      (walk_pieces (q ∷ rs) tail (long_whole head twenty q qs rs whole tail fours most dialect i)
      ∙ ap (λ (l : List Piece). glue (avps_of (q ∷ l)) (walk tail)) m.longer
      ∙ row_joined q m.before (m.mark ∷ m.after) (walk tail))
      ∙ read_behind n dialect q m.before (glue (avps_of (m.mark ∷ m.after)) (walk tail))
      ∙ rw other_same

  short_read : read_body_by n dialect (walk (bytes_of (q ∷ qs) ++ tail))
      ≡ read_from n dialect headed (front_other q m.front) (front_judged dialect q m.front) (behind (place_behind q m.front) m.back)
  short_read =
      ap (read_body_by n dialect)
      (walk_pieces (q ∷ qs) tail whole ∙ ap (λ (l : List Piece). glue (avps_of (q ∷ l)) (walk tail)) m.row ∙ row_joined q m.front m.back (walk tail))
      ∙ read_behind n dialect q m.front (glue (avps_of m.back) (walk tail))

  -- a fault before the first marked one decides: the same verdict, its place moved by what was put in before it
  module _ (more : ℕ → ℕ) (none : more 0 ≡ 0) (so : (p : ℕ) → 20 ≤ p → p < place_behind q m.front → put_before frontal 20 p ≡ more p) where
    front_more : Moved longer shorter 20 more (front_judged dialect q m.before) (front_judged dialect q m.front)
    front_more =
        moved_by (λ w e. let a = judge_amid dialect 20 (q ∷ m.front) front_whole nothing w e in so w.place a.least a.most) front_moved

    pub fault_moved : fault_by n dialect (q ∷ m.front) ≡ true
        → Moved longer shorter 0 more (read_body_by n dialect (walk (bytes_of (q ∷ rs) ++ tail))) (read_body_by n dialect (walk (bytes_of (q ∷ qs) ++ tail)))
    fault_moved e = rw (long_read_lem, short_read) (fault_decides none n dialect headed (front_other q m.front) _ _ front_more e)

  -- else the marked one does: its place is where it stands
  pub mark_judges : fault_by n dialect (q ∷ m.front) ≡ false → read_body_by n dialect (walk (bytes_of (q ∷ rs) ++ tail)) ≡ bad (fault_at 5001 mark_place)
  unfolding avps_of glue
  mark_judges e =
      long_read_lem
      ∙ none_decides (none_before q m.quiet) n dialect headed (front_other q m.front) (behind mark_place (m.mark ∷ m.after))
      (fault_at 5001 mark_place) front_moved e
      (λ seen. mark_judged dialect mark_place m.mark (glue (avps_of m.after) (walk tail)) seen m.foreign m.marking)

  pub mark_there : drop mark_place longer ≡ rest
  mark_there = past_drop longer 20 (q ∷ m.before) rest before_whole (message_drop head twenty (bytes_of (q ∷ rs) ++ tail) ∙ long_bytes_lem)

  pub mark_failed : failed_by longer (fault_at 5001 mark_place) ≡ some m.mark.avp
  unfolding bytes_of
  mark_failed =
      failed_there longer 5001 mark_place (omega (arith, past_later 20 (avps_of (q ∷ m.before))))
      ∙ rw (
        mark_there,
        append_assoc (m.mark.avp ++ m.mark.pad) (bytes_of m.after) tail,
        failed_piece m.mark (bytes_of m.after ++ tail) 5001
            m.foreign.whole,
      )
      (ap some (failed_whole m.mark 5001 m.foreign.whole refl))
