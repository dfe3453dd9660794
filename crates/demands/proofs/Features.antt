-- 02 [11], "Features.", as theorems about `serve`, which is what the exported call is promised to return and to leave (`promised` in proofs/Demands), for
-- anything lent. What the words below mean is in specs/Features.
use Rattle.octets.specs.Standard.{ℕ, ◌≤◌, List, [], Bool, true, false, true≢false, ◌≡◌, refl, sym, ap, ◌∙◌, ◌↔◌, ◌≢◌, arith, length}
use Rattle.octets.specs.Run.{over}
use Rattle.diameter.specs.Avp.{reserved}
use Rattle.diameter.specs.AvpAt.{avp_at}
use Rattle.diameter.specs.Message.{body_of}
use Rattle.diameter.specs.Put.{Piece}
use Rattle.pen.specs.Bytes.{number_bytes, plain_head, plain_number, if_there}
use Rattle.pen.specs.Groups.{capabilities, own_features}
use Rattle.items.specs.Items.{sent_bytes}
use Rattle.reading.specs.Kinds.{kind_of, supported_features, is_unknown}
use Rattle.reading.specs.Rules.{rule_by, rule}
use Rattle.reading.specs.declared.Dialect.{Dialect}
use Rattle.reading.specs.declared.Outcome.TheVariants.{Experimental}
use Rattle.reading.specs.declared.Ruled.TheVariants.{Taken, Fault}
use Rattle.reading.specs.declared.Terms.{Terms}
use Rattle.reading.specs.declared.Use.{Use}
use Rattle.reading.specs.declared.Use.TheVariants.{Unknown, Unnamed, Needed, Optional, Repeated, Several}
use Rattle.reading.specs.declared.Verdict.{Verdict}
use Rattle.requests.specs.Features.{list_called}
use Rattle.requests.specs.Judged.{bad, nothing}
use Rattle.requests.specs.Request.{header_fault, first_other, read_in}
use Rattle.requests.proofs.Featured.{rule_is}
use Rattle.choices.specs.Given.{given_fault}
use Rattle.failed.specs.Failing.{failed_by, failed_of}
use Rattle.reply.specs.Pieces.{identity_bytes, name_bytes, data_bytes, given_bytes, list_bytes, top_bytes}
use Rattle.envelope.specs.End.{end_bytes}
use Rattle.answering.specs.Answer.{rest_bytes, body_bytes, answer_bytes}
use Rattle.deciding.specs.Decide.{Decision, faulted, feature_unsupported, judged_by, decide_by, decide}
use Rattle.calling.specs.Call.{Answered}
use Rattle.calling.specs.Lent.{Lent, table_only, dialect_in}
use Rattle.refusals.specs.Early.{check_value}
use Rattle.calling.specs.Serve.{Served, check_of, answer_of, answered, answered_by, decided, result_of, serve_table, over_area, serve_by, serve}
use Rattle.calling.proofs.Areas.{put_same}
use Rattle.calling.proofs.Kept.{taken}
use Rattle.ndushavire.specs.Reads.{call_place}
use Rattle.older_rules.specs.WithoutFeatures.{NoFeatures, before_features}
use Rattle.demands.specs.Call.{turned_away}
use Rattle.demands.specs.Features.{with_features, Beyond, unsupported_body, unsupported_bytes, answers_unsupported, Called, own_list, answer_with}
use Rattle.demands.specs.Features.{AnsweredWith, ComesTo, holds_members}
use Rattle.demands.specs.Insertion.{Foreign}
use Rattle.demands.specs.Place.{rule_fault, Blames, blaming}
use Rattle.demands.proofs.Blaming.{base_experimental, blames_result}
use Rattle.demands.proofs.Faults.{avp_own, reaches_least}
use Rattle.demands.proofs.Faults as faults
use Rattle.demands.proofs.Fitting.{fits}
use Rattle.demands.proofs.Place.{place_answer, place_blames}
use Rattle.demands.proofs.Refusals.{answer_is}
use Rattle.demands.proofs.Undecided.{Unsupported, unsupported_only, unsupported_decides}
use Rattle.demands.proofs.Wanting.{beyond_says, beyond_holds, never_unknown, of_cx_lem, called_says, called_holds}
use Rattle.older_rules.proofs.Features as older
use Rattle.demands.proofs.AnyFeatures as any

-- the answer of X5011: nothing is given but the verdict, and there is no Failed-AVP
module _ (terms : Terms) (req t file v : List ℕ) where
  unsupported_body_lem : body_bytes terms req t file v (given_fault feature_unsupported) ≡ unsupported_body terms req t
  unfolding body_bytes rest_bytes given_bytes name_bytes identity_bytes sent_bytes data_bytes end_bytes capabilities if_there failed_by
  unsupported_body_lem = refl

  unsupported_whole : answer_bytes terms req t file v (given_fault feature_unsupported) ≡ unsupported_bytes terms req t
  unfolding answer_bytes
  unsupported_whole = rw unsupported_body_lem

-- what reading blames is decided so
read_decides : (d : Dialect) (req t : List ℕ) (count : ℕ) (v : List ℕ) (f : Verdict) → read_in d req ≡ bad f → decide d req t count v ≡ faulted t v f
unfolding decide_by judged_by
read_decides d req t count v f e = rw e

-- over a table of its exact length
refused_table : (x : Lent) → Unsupported (dialect_in x) x.request → turned_away x ≡ false
    → serve_table x ≡ record {
      call = Answered (record { length = length (unsupported_bytes x.terms x.request x.table); place = 0 });
      table = x.table;
      vectors = x.vectors;
      buffer = over (unsupported_bytes x.terms x.request x.table) x.buffer;
    }
unfolding answered_by
refused_table x u away =
    answer_is x away
    ∙ ap (answered x) (unsupported_decides (dialect_in x) x.request x.table (check_value (check_of x)) x.vectors u)
    ∙ rw (unsupported_whole x.terms x.request x.table x.profile x.vectors)

module _ (a : Lent) where
  abbrev x : Lent
  x = table_only a

  -- "WITH M SET, A REQUEST THAT ASKS FOR A BIT OUTSIDE THE SET, OR FOR ANOTHER LIST OR VENDOR, GETS X5011." The result that a call has, if it is not refused,
  -- is this one exactly then: reading finds no fault, nothing is missing, and some 628 with M asks for it.
  pub beyond_exactly : (result_of x ≡ Experimental 5011) ↔ Beyond a
  beyond_exactly = (only, given)
    where
      only : result_of x ≡ Experimental 5011 → Beyond a
      only e =
          let u = unsupported_only (dialect_in x) x.request x.table (check_value (check_of x)) x.vectors e in
          beyond_says a u.seen u.read u.beyond

      given : Beyond a → result_of x ≡ Experimental 5011
      given b =
          ap (λ (d : Decision). d.given.verdict.result)
          (unsupported_decides (dialect_in x) x.request x.table (check_value (check_of x)) x.vectors
          (record { seen = b.seen; read = b.read; beyond = beyond_holds a b }))

  -- "BEFORE ALL DECISIONS": whatever the table holds, the call comes to that answer, which has no Failed-AVP and tells no place. It alters no byte of the area
  -- and uses no vector.
  pub beyond_served : Beyond a → turned_away x ≡ false → serve a ≡ answers_unsupported a
  beyond_served b away =
      ap (over_area a.table) (refused_table x (record { seen = b.seen; read = b.read; beyond = beyond_holds a b }) away) ∙ rw (put_same a.table)

  -- "AFTER THE MISSING-AVP CHECK"; "it is no reading rule, so in demand 3 "AVP unsupported" goes before it": where reading finds a fault, an unknown kind with
  -- M among them, or misses an AVP, result and place are reading's, and nothing is altered.
  pub reading_first : (v : Verdict) → read_in (dialect_in a) a.request ≡ bad v → turned_away x ≡ false
      → (result_of x ≡ v.result) × (call_place (serve a).call ≡ v.place) × ((serve a).table ≡ a.table) × ((serve a).vectors ≡ a.vectors)
  unfolding answered_by
  reading_first v e away =
      let d = read_decides (dialect_in x) x.request x.table (check_value (check_of x)) x.vectors v e in
      let s = ap (over_area a.table) (answer_is x away ∙ ap (answered x) d) in (
        ap (λ (d : Decision). d.given.verdict.result) d,
        ap (λ (r : Served). call_place r.call) s,
        ap (λ (r : Served). r.table) s ∙ put_same a.table,
        ap (λ (r : Served). r.vectors) s,
      )

  pub fault_first : (place : ℕ) → Blames x place → result_of x ≢ Experimental 5011
  fault_first place b e = base_experimental (sym (blames_result x place b) ∙ e)

  -- "EVERY ANSWER TO A REQUEST WITH NO HEADER FAULT THAT HAD, BEFORE ANY LENGTH FAULT, A 628 PASSING (a) TO (h) CARRIES THE SERVER'S OWN LIST ONCE, RIGHT AFTER
  -- 296", be the answer a success, a fault of another AVP, or X5011; and no other answer carries it.
  answer_with_lem : (list : List ℕ) → list_bytes a.terms a.request ≡ list → answer_of x (decided x) ≡ answer_with a list
  unfolding answer_bytes body_bytes top_bytes
  answer_with_lem list e = rw e

  answers : (list : List ℕ) → list_bytes a.terms a.request ≡ list → turned_away x ≡ false → AnsweredWith a (answer_with a list)
  unfolding answered_by
  answers list e away =
      let s = answer_is x away in
      let w = answer_with_lem list e in
      record {
        call = ap (λ (r : Served). r.call) s ∙ ap (λ (b : List ℕ). Answered (record { length = length b; place = (decided x).place })) w;
        buffer = ap (λ (r : Served). r.buffer) s ∙ ap (λ (b : List ℕ). over b a.buffer) w;
      }

  own_is : (set : ℕ) → own_features set ≡ own_list set
  unfolding own_features plain_head plain_number number_bytes
  own_is set = refl

  called_list : Called a → list_bytes a.terms a.request ≡ own_list a.terms.features
  unfolding list_bytes if_there
  called_list c = rw (called_holds a c nothing) (own_is a.terms.features)

  uncalled_list : (Called a → ⊥) → list_bytes a.terms a.request ≡ []
  unfolding list_bytes if_there
  uncalled_list n = go (list_called a.terms a.request) refl
    where
      go : (x : Bool) → list_called a.terms a.request ≡ x → if_there x (own_features a.terms.features) ≡ []
      go true e = absurd (n (called_says a e))
      go false e = refl

  pub list_carried : Called a → turned_away x ≡ false → AnsweredWith a (answer_with a (own_list a.terms.features))
  list_carried c = answers (own_list a.terms.features) (called_list c)

  pub list_absent : (Called a → ⊥) → turned_away x ≡ false → AnsweredWith a (answer_with a [])
  list_absent n = answers [] (uncalled_list n)

  -- Every answer still fits into the smallest buffer that is taken.
  pub answers_fit : turned_away x ≡ false → length (answer_of x (decided x)) ≤ 36864
  answers_fit away = let k = taken x away in fits x k.size k.lengths (check_value (check_of x)) k.table k.vectors

  -- A request without 628 is served as before the request landed, whatever the features.
  pub without_features : NoFeatures (body_of a.request) → serve_by before_features a ≡ serve a
  without_features n = ap (over_area a.table) (older.without_features x n)

  -- So is it with all features alike. They show in X5011 and in the own list alone: reading finds the same, and where nothing is asked for beyond either of
  -- two, result and place are the same, and the same is left of area and vectors.
  pub features_unseen : NoFeatures (body_of a.request) → (features other : ℕ) → serve (with_features a features) ≡ serve (with_features a other)
  features_unseen n features other = ap (over_area a.table) (any.served_any x n features other)

  pub features_unread : (features other : ℕ)
      → read_in (dialect_in (with_features a features)) a.request ≡ read_in (dialect_in (with_features a other)) a.request
  features_unread = any.reading_any a

  pub features_idle : (features other : ℕ) → (Beyond (with_features a features) → ⊥) → (Beyond (with_features a other) → ⊥)
      → (result_of (table_only (with_features a features)) ≡ result_of (table_only (with_features a other)))
      × (call_place (serve (with_features a features)).call ≡ call_place (serve (with_features a other)).call)
      × ((serve (with_features a features)).table ≡ (serve (with_features a other)).table)
      × ((serve (with_features a features)).vectors ≡ (serve (with_features a other)).vectors)
  unfolding answered_by
  features_idle features other n m = (
    ap (λ (d : Decision). d.given.verdict.result) (any.decided_any x features other l r (check_value (check_of x))),
    any.part_any x features other l r (λ (s : Served). call_place s.call) (λ d. refl),
    any.part_any x features other l r (λ (s : Served). (over_area a.table s).table) (λ d. refl),
    any.part_any x features other l r (λ (s : Served). s.vectors) (λ d. refl),
  )
    where
      l : Beyond (with_features x features) → ⊥
      l b = n (record { seen = b.seen; read = b.read; one = b.one; among = b.among; asks = b.asks })

      r : Beyond (with_features x other) → ⊥
      r b = m (record { seen = b.seen; read = b.read; one = b.one; among = b.among; asks = b.asks })

  -- "A 628 HOLDS THESE THREE 4-BYTE MEMBERS ONCE EACH, ELSE B5004", with the whole 628 in Failed-AVP, and its place: in any command, however often one
  -- came before.
  pub members_else : (place : ℕ) → ComesTo (dialect_in a) a.request place → holds_members (avp_at a.request place) ≡ false
      → header_fault (dialect_in a) a.request ≡ 0 → first_other (body_of a.request) ≡ false → turned_away x ≡ false
      → serve a ≡ blaming a 5004 (avp_at a.request place) place
  unfolding failed_of
  members_else place c m h f away =
      let r : rule (dialect_in a) c.seen (avp_at a.request place) ≡ Fault 5004 =
      rule_is (dialect_in a) (avp_at a.request place) c.kind (of_cx_lem (dialect_in a) a.request h) c.seen ∙ rw (c.flags, m) in
      let b : Blames x place =
      record {
        taken = away;
        result = 5004;
        fault = record { header = h; session = f; seen = c.seen; reached = c.reached; breaks = rule_fault 5004 c.whole r };
      } in
      rw (avp_own a.request place c.whole) (place_answer a place b)

  -- .. and one that does is at fault in no command, however often one came before: no call is answered with its place.
  pub members_pass : (place : ℕ) → ComesTo (dialect_in a) a.request place → holds_members (avp_at a.request place) ≡ true
      → call_place (serve a).call ≢ place
  members_pass place c m e =
      let l = reaches_least (dialect_in a) a.request c.reached in
      let b = place_blames a (λ z. omega (arith, e, z, l.0)) in
      let r : rule (dialect_in a) c.seen (avp_at a.request place) ≡ Taken =
      rule_is (dialect_in a) (avp_at a.request place) c.kind (of_cx_lem (dialect_in a) a.request b.fault.header) c.seen ∙ rw (c.flags, m) in
      faults.taken_passes (dialect_in a) a.request place c.seen c.reached c.whole r b.result (call_place (serve a).call) b.fault e

-- "DEMAND 3'S UNKNOWN KINDS NO LONGER INCLUDE 628": no AVP that it puts into a request is one.
pub features_known : (d : Dialect) (u : Piece) → Foreign d u → kind_of u.avp ≢ supported_features
features_known d u f k = true≢false (sym (ap is_unknown f.stranger) ∙ never_unknown d u.avp k)

-- "HERE ALONE M ON A KNOWN KIND COUNTS": of a kind that is known, no rule looks at M; what a 628 with M asks for is asked by `Beyond` alone.
pub mark_idle : (u : Use) → is_unknown u ≡ false → (again : Bool) (flags other content : ℕ) → reserved flags ≡ reserved other
    → rule_by u again flags content ≡ rule_by u again other content
unfolding rule_by
mark_idle Unknown h again flags other content e = absurd (true≢false h)
mark_idle Unnamed h again flags other content e = rw e
mark_idle Needed h again flags other content e = rw e
mark_idle Optional h again flags other content e = rw e
mark_idle Repeated h again flags other content e = rw e
mark_idle Several h again flags other content e = rw e
