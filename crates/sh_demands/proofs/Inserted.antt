-- Demand 3 for the Sh server: AVPs of kinds that it does not know put into a request after its first AVP.
use Rattle.octets.specs.Standard.{ℕ, zero, suc, ◌+◌, ◌%◌, ◌≤◌, ◌<◌, List, [], ◌∷◌, ◌++◌, Bool, true, false, cond, ◌≡◌, refl, sym, ◌∙◌, arith}
use Rattle.octets.specs.Standard.{eqb, zero-add, ne_eqb, length}
use Rattle.table.specs.Area.{table_in, check_area}
use Rattle.diameter.specs.Put.{glue, Piece, bytes_of, avps_of, Whole, All}
use Rattle.diameter.specs.Walk.{Walk, avp, walk}
use Rattle.reading.specs.Kinds.{known, kind_of, row_of, use_in, is_unknown, sh, data_reference}
use Rattle.reading.specs.Rules.{Seen}
use Rattle.reading.specs.Verdicts.{fault_at}
use Rattle.reading.specs.declared.Dialect.{Dialect}
use Rattle.reading.specs.declared.Terms.{Terms}
use Rattle.reading.specs.declared.Verdict.{Verdict}
use Rattle.requests.specs.Judged.{Judged, fine}
use Rattle.requests.specs.Request.{dialect_of, spoken_sh, header_fault_sh, read_sh, session_of}
use Rattle.failed.specs.Failing.{failed_by}
use Rattle.refusals.specs.Early.{check_value, wrong_size, wrong_length, no_request}
use Rattle.refusals.specs.Trial.{Trial, tried}
use Rattle.refusals.proofs.Trials.{tried_alike}
use Rattle.envelope.specs.End.{proxies, end_bytes}
use Rattle.envelope.specs.Header.{header_bytes}
use Rattle.sh.specs.Answer.{told_bytes, sh_body, sh_answer}
use Rattle.sh.specs.Referring.{refers, refers_other, references_of}
use Rattle.sh.specs.Tell.{Telling, tell_none, tell_read, tell_judged, tell}
use Rattle.sh.proofs.Tellings.{read_clear}
use Rattle.ndushavire_sh.specs.Lent.{Lent, terms_in, dialect_in}
use Rattle.ndushavire_sh.specs.Serve.{trials_of, refused, told_of, answered, serve_checked, sh_serve}
use Rattle.demands.specs.Insertion.{message, request_of, Foreign, Quiet, Inserted, keep, FirstMarked, fault_by, put_before, later, place_now, behind_row}
use Rattle.demands.proofs.Messages.{message_dialect, message_fault_by, message_flags_lem, message_rest, message_body, read_body_by, Fit, size_right, length_right}
use Rattle.demands.proofs.Moved.{Moved, faults, same, past_bytes}
use Rattle.demands.proofs.Rows.{foreign_proxies, foreign_some, quiet_foreign, none_before, place_behind, long_walk, short_walk, long_fit, short_fit}
use Rattle.demands.proofs.Rows.{unmarked_moved, marked_inserted, before_whole, fault_moved, mark_judges, mark_failed}
use Rattle.sh_demands.specs.Call.{turned_away}
use Rattle.sh_demands.specs.Insertion.{asking, placed, fault_bytes, blaming}
use Rattle.sh_demands.proofs.Blaming.{fault_bytes_are}
use Rattle.sh_demands.proofs.Refusing.{answer_is}

-- What every refusal keeps goes through the trials to the answer.
tried_through : {X : Type 0} (f : X → X) (give : Trial → X) (o p : X) → ((r : Trial) → f (give r) ≡ give r) → o ≡ f p → (rs : List Trial)
    → tried give o rs ≡ f (tried give p rs)
unfolding tried
tried_through f give o p keeps e [] = e
tried_through f give o p keeps e (r ∷ rs) = go r.holds (tried_through f give o p keeps e rs)
  where
    go : (x : Bool) → tried give o rs ≡ f (tried give p rs) → cond x (give r) (tried give o rs) ≡ f (cond x (give r) (tried give p rs))
    go true h = sym (keeps r)
    go false h = h

-- Two messages with one header: what is answered, of tellings with one result, Failed-AVP and 702.
record SameAnswered (long short t : List ℕ) (g h : Telling) : Type 0 where
  result : g.verdict.result ≡ h.verdict.result
  failed : failed_by long g.verdict ≡ failed_by short h.verdict
  told : told_bytes t g ≡ told_bytes t h

module _ (terms : Terms) (head : List ℕ) (twenty : length head ≡ 20) (b c : List ℕ) (session : session_of (walk b) ≡ session_of (walk c))
    (copies : proxies (walk b) ≡ proxies (walk c)) (t : List ℕ) (g h : Telling) (s : SameAnswered (message head b) (message head c) t g h) where
  body_same : sh_body terms (message head b) t g ≡ sh_body terms (message head c) t h
  unfolding sh_body end_bytes
  body_same = rw (s.told, s.failed, message_body head twenty b, message_body head twenty c, session, copies, s.result)

  answer_same : sh_answer terms (message head b) t g ≡ sh_answer terms (message head c) t h
  unfolding sh_answer header_bytes
  answer_same =
      rw (
        body_same,
        s.result,
        message_flags_lem head twenty b,
        message_flags_lem head twenty c,
        message_rest head twenty b,
        message_rest head twenty c,
      )

-- reading a message at the Sh server
message_reads : (d : Dialect) (head : List ℕ) → length head ≡ 20 → (body : List ℕ)
    → read_sh d (message head body) ≡ read_body_by (header_fault_sh d head) d (walk body)
unfolding read_sh header_fault_sh read_body_by
message_reads d head twenty body = rw (message_fault_by head twenty body (spoken_sh d) d, message_body head twenty body)

-- a verdict's place, by what was put in before it
later_is : (more : ℕ → ℕ) → more 0 ≡ 0 → (p : ℕ) → p + more p ≡ later more p
later_is more start zero = zero-add (more 0) ∙ start
later_is more start (suc p) = rw (ne_eqb (suc p) 0 (omega arith))

-- no AVP is at fault and none is missing: nothing of the request stands in Failed-AVP
clear_failed : (long short : List ℕ) (v : Verdict) → v.place ≡ 0 → v.lacks ≡ 0 → failed_by long v ≡ failed_by short v
unfolding failed_by
clear_failed long short v p l = rw (p, l)

-- What is told of both, by what reading came to.
module _ (head : List ℕ) (twenty : length head ≡ 20) (b c : List ℕ) (x : Lent) where
  abbrev d : Dialect
  d = dialect_of (terms_in x) head

  abbrev long : List ℕ
  long = message head b

  abbrev short : List ℕ
  short = message head c

  module _ (refs : references_of (walk b) ≡ references_of (walk c)) (t : List ℕ) (count : ℕ) where
    read_same : (seen : Seen) → read_sh d short ≡ fine seen → tell_read long t count seen ≡ tell_read short t count seen
    unfolding tell_read
    read_same seen is = rw (message_body head twenty b, message_body head twenty c, refs)

    judged_same : {from : ℕ} {more : ℕ → ℕ} → more 0 ≡ 0 → {j k : Judged} → read_sh d short ≡ k → Moved long short from more j k
        → SameAnswered long short t (tell_judged long t count j) (tell_judged short t count k)
        × ((tell_judged long t count j).verdict.place ≡ later more (tell_judged short t count k).verdict.place)
    unfolding tell_judged told_bytes
    judged_same {from} {more} start is (faults v w l) =
        (record { result = l.result; failed = l.failed; told = refl }, l.place ∙ later_is more start w.place)
    judged_same {from} {more} start is (same seen) =
        let e = read_same seen is in
        let q = read_clear short t count seen in
        rw e
        (record { result = refl; failed = clear_failed long short (tell_read short t count seen).verdict q.0 q.1; told = refl }, rw q.0)

    told_same : {from : ℕ} {more : ℕ → ℕ} → more 0 ≡ 0
        → Moved long short from more (read_body_by (header_fault_sh d head) d (walk b)) (read_body_by (header_fault_sh d head) d (walk c))
        → SameAnswered long short t (tell (dialect_in (asking x long)) long t count) (tell (dialect_in (asking x short)) short t count)
        × ((tell (dialect_in (asking x long)) long t count).verdict.place ≡ later more (tell (dialect_in (asking x short)) short t count).verdict.place)
    unfolding tell
    told_same start m =
        rw (
          message_dialect head twenty b (terms_in x),
          message_dialect head twenty c (terms_in x),
          message_reads d head twenty b,
          message_reads d head twenty c,
        )
        (judged_same start (message_reads d head twenty c) m)

-- Calls with two requests that the trials say the same of.
module _ (x : Lent) (req other : List ℕ) (size : wrong_size req ≡ wrong_size other) (long : wrong_length req ≡ wrong_length other)
    (asks : no_request req ≡ no_request other) where
  through : (f : ℕ → ℕ) → ((k : ℕ) → answered (asking x req) k ≡ placed f (answered (asking x other) k))
      → sh_serve (asking x req) ≡ placed f (sh_serve (asking x other))
  unfolding serve_checked refused
  through f e =
      let c = check_area x.table (length x.profile) in
      rw (size, long, asks)
      (tried_through (placed f) (refused (asking x other)) (answered (asking x req) (check_value c)) (answered (asking x other) (check_value c)) (λ r. refl)
      (e (check_value c)) (trials_of (asking x other) c))

  turned_same : turned_away (asking x req) ≡ turned_away (asking x other)
  turned_same = rw (size, long, asks)

  -- where one of them holds, the answer does not matter, and there is no place to move
  refused_through : (f : ℕ → ℕ) → turned_away (asking x other) ≡ true → sh_serve (asking x req) ≡ placed f (sh_serve (asking x other))
  unfolding serve_checked refused
  refused_through f e =
      let c = check_area x.table (length x.profile) in
      let here = answered (asking x req) (check_value c) in
      let there = answered (asking x other) (check_value c) in
      rw (size, long, asks)
      (tried_alike (refused (asking x other)) here (placed f there) (trials_of (asking x other) c) e
      ∙ tried_through (placed f) (refused (asking x other)) (placed f there) there (λ r. refl) refl (trials_of (asking x other) c))

-- Data-References are known to Sh, so no AVP of an unknown kind is one.
refers_less : (n : ℕ) (a : List ℕ) → eqb (kind_of a) data_reference ≡ false → refers n a ≡ false
unfolding refers
refers_less n a e = rw e

other_less : (a : List ℕ) → eqb (kind_of a) data_reference ≡ false → refers_other a ≡ false
unfolding refers_other
other_less a e = rw e

reference_known : (d : Dialect) → d.terms.application ≡ sh → is_unknown (use_in d (row_of data_reference)) ≡ false
unfolding use_in row_of known
reference_known d e = rw e

foreign_references : (d : Dialect) → d.terms.application ≡ sh → {qs rs : List Piece} → Inserted (Foreign d) qs rs → (w : Walk)
    → references_of (glue (avps_of rs) w) ≡ references_of (glue (avps_of qs) w)
unfolding references_of
foreign_references d e i w =
    rw (
      foreign_some data_reference (reference_known d e) (refers 11) (refers_less 11) i w,
      foreign_some data_reference (reference_known d e) (refers 12) (refers_less 12) i w,
      foreign_some data_reference (reference_known d e) refers_other other_less i w,
    )

-- A request, the row of its AVPs after the first, the longer row, and what is behind it.
module _ (head : List ℕ) (twenty : length head ≡ 20) (q : Piece) (qs rs : List Piece) (whole : All Whole (q ∷ qs)) (tail : List ℕ) (fours : length tail % 4 ≡ 0)
    (most : length (request_of head (q ∷ rs) tail) ≤ 16384) (x : Lent) where
  abbrev dialect : Dialect
  dialect = dialect_of (terms_in x) head

  abbrev b : List ℕ
  b = bytes_of (q ∷ rs) ++ tail

  abbrev c : List ℕ
  c = bytes_of (q ∷ qs) ++ tail

  abbrev fault : ℕ
  fault = header_fault_sh dialect head

  module _ (i : Inserted (Foreign dialect) qs rs) where
    walks : (walk b ≡ avp q.avp (glue (avps_of rs) (walk tail))) × (walk c ≡ avp q.avp (glue (avps_of qs) (walk tail)))
    walks = (long_walk head twenty q qs rs whole tail fours most dialect i, short_walk head twenty q qs rs whole tail fours most dialect)

    session_same : session_of (walk b) ≡ session_of (walk c)
    session_same = rw (walks.0, walks.1)

    copies_same : proxies (walk b) ≡ proxies (walk c)
    unfolding avps_of glue
    copies_same = rw (walks.0, walks.1) (foreign_proxies (keep q i) (walk tail))

    refs_same : references_of (walk b) ≡ references_of (walk c)
    unfolding avps_of glue
    refs_same = rw (walks.0, walks.1) (foreign_references dialect refl (keep q i) (walk tail))

    fits : Fit b × Fit c
    fits = (long_fit head twenty q qs rs whole tail fours most dialect i, short_fit head twenty q qs rs whole tail fours most dialect i)

    size_same : wrong_size (message head b) ≡ wrong_size (message head c)
    size_same = size_right head twenty b fits.0 ∙ sym (size_right head twenty c fits.1)

    length_same : wrong_length (message head b) ≡ wrong_length (message head c)
    length_same = length_right head twenty b fits.0 ∙ sym (length_right head twenty c fits.1)

    asks_same : no_request (message head b) ≡ no_request (message head c)
    asks_same = rw (message_flags_lem head twenty b, message_flags_lem head twenty c)

    both_served : {from : ℕ} {more : ℕ → ℕ} → more 0 ≡ 0
        → Moved (message head b) (message head c) from more (read_body_by fault dialect (walk b)) (read_body_by fault dialect (walk c))
        → sh_serve (asking x (message head b)) ≡ placed (later more) (sh_serve (asking x (message head c)))
    unfolding answered
    both_served {from} {more} start m =
        through x (message head b) (message head c) size_same length_same asks_same (later more)
        (λ k.
        let t = table_in x.table in
        let s = told_same head twenty b c x refs_same t k start m in
        let e = answer_same (terms_in x) head twenty b c session_same copies_same t (told_of (asking x (message head b)) k) (told_of (asking x (message head c)) k)
        s.0 in
        rw (e, s.1))

    pub both_refused : (f : ℕ → ℕ) → turned_away (asking x (message head c)) ≡ true
        → sh_serve (asking x (message head b)) ≡ placed f (sh_serve (asking x (message head c)))
    both_refused = refused_through x (message head b) (message head c) size_same length_same asks_same

    both_turned : turned_away (asking x (message head b)) ≡ turned_away (asking x (message head c))
    both_turned = turned_same x (message head b) (message head c) size_same length_same asks_same

  -- none is marked
  pub unmarked_same : (i : Inserted (Quiet dialect) qs rs)
      → sh_serve (asking x (message head b)) ≡ placed (place_now (keep q i)) (sh_serve (asking x (message head c)))
  unmarked_same i =
      both_served (quiet_foreign i) (none_before q i) (unmarked_moved head twenty q qs rs whole tail fours most dialect fault i)

  -- one is the first that is marked: a fault before it decides, or it does
  module _ (m : FirstMarked dialect qs rs) where
    pub fault_more : (more : ℕ → ℕ) → more 0 ≡ 0
        → ((p : ℕ) → 20 ≤ p → p < place_behind q m.front → put_before (keep q m.quiet) 20 p ≡ more p)
        → fault_by fault dialect (q ∷ m.front) ≡ true → sh_serve (asking x (message head b)) ≡ placed (later more) (sh_serve (asking x (message head c)))
    fault_more more start before e =
        both_served (marked_inserted m) start (fault_moved head twenty q qs rs whole tail fours most dialect fault m more start before e)

    pub fault_first : fault_by fault dialect (q ∷ m.front) ≡ true
        → sh_serve (asking x (message head b)) ≡ placed (place_now (keep q m.quiet)) (sh_serve (asking x (message head c)))
    fault_first = fault_more (put_before (keep q m.quiet) 20) (none_before q m.quiet) (λ p l h. refl)

    abbrev place : ℕ
    place = place_behind q m.before

    mark_told : fault_by fault dialect (q ∷ m.front) ≡ false → (k : ℕ) → told_of (asking x (message head b)) k ≡ tell_none (fault_at 5001 place)
    unfolding tell tell_judged
    mark_told e k =
        rw (
          message_dialect head twenty b (terms_in x),
          message_reads dialect head twenty b,
          mark_judges head twenty q qs rs whole tail fours most dialect fault m e,
        )

    mark_bytes : (t : List ℕ)
        → sh_answer (terms_in x) (message head b) t (tell_none (fault_at 5001 place)) ≡ fault_bytes (terms_in x) (message head b) t 5001 m.mark.avp
    mark_bytes t =
        fault_bytes_are (terms_in x) (message head b) t 5001 place m.mark.avp (mark_failed head twenty q qs rs whole tail fours most dialect fault m)

    pub mark_answered : fault_by fault dialect (q ∷ m.front) ≡ false → turned_away (asking x (message head c)) ≡ false
        → sh_serve (asking x (message head b)) ≡ blaming (asking x (message head b)) 5001 m.mark.avp (behind_row (q ∷ m.before))
    unfolding answered
    mark_answered e away =
        let k = check_value (check_area x.table (length x.profile)) in
        answer_is (asking x (message head b)) (both_turned (marked_inserted m) ∙ away)
        ∙ rw (
          mark_told e k,
          mark_bytes (table_in x.table),
          past_bytes 20 (q ∷ m.before) (before_whole head twenty q qs rs whole tail fours most dialect fault m),
        )
