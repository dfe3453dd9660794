-- "a removal naming two members of one set is like naming one": the call with one identity fewer.
use Rattle.std.specs.Prelude.{Ok}
use Rattle.octets.specs.Standard.{ℕ, ◌≤◌, List, [], ◌∷◌, ◌++◌, map, append-nil, Bool, true, false, none, ◌≡◌, refl, sym, ap, subst, ◌∙◌, arith}
use Rattle.octets.specs.Standard.{length, get_or, length-append}
use Rattle.table.specs.SoundTable.{SoundTable}
use Rattle.diameter.specs.Walk.{Walk, ended, avp, walk, some_avp}
use Rattle.diameter.specs.Put.{glue, Piece, Whole, All, bytes_of, avps_of}
use Rattle.diameter.specs.Message.{body_of}
use Rattle.diameter.specs.AvpAt.{avp_at}
use Rattle.diameter.proofs.Pieces.{walk_pieces, row_even, glue_glue, avps_joined}
use Rattle.diameter.proofs.Walks.{walk_nil}
use Rattle.reading.specs.Features.{asks_beyond, calls_list}
use Rattle.reading.specs.Kinds.{kind_of, public_identity, user_name, server_name, assignment_type, data_available}
use Rattle.reading.specs.Rules.{Seen}
use Rattle.requests.specs.Features.{beyond_set, called_in}
use Rattle.requests.specs.Judged.{fine}
use Rattle.requests.specs.Request.{dialect_of, cx, identities, session_of, data_seen}
use Rattle.requests.specs.Identity.{places_from}
use Rattle.requests.proofs.Kept.{read_spoken}
use Rattle.requests.proofs.Naming.{identities_at}
use Rattle.assignment.specs.Assignment.{Assignment, assign}
use Rattle.deciding.specs.Plans.{numbers_in, assignment_of, sar_plan, plan_read}
use Rattle.deciding.specs.Rules.{in_force}
use Rattle.deciding.specs.Decide.{Decision, performed_by, judged_by, decide_by, decide}
use Rattle.reading.specs.declared.Dialect.{Dialect}
use Rattle.deciding.proofs.Cases.{Blameless}
use Rattle.deciding.proofs.Comes.{plan_blameless}
use Rattle.calling.specs.Lent.{Lent, asking, dialect_in}
use Rattle.refusals.specs.Early.{check_value}
use Rattle.calling.specs.Serve.{check_of, answered, answered_by, decision, serve_table}
use Rattle.demands.specs.Call.{turned_away, Decides}
use Rattle.demands.specs.Insertion.{message}
use Rattle.demands.specs.Sets.{Removes, OneFewer, Member}
use Rattle.demands.proofs.Alike.{SameDecision, blameless_same}
use Rattle.demands.proofs.Barring.{shares_holds, stands_found}
use Rattle.demands.proofs.LeftOut.{beside_at, Follows, read_left, read_first, copies_left, identities_left, identities_glue}
use Rattle.demands.proofs.Members.{assign_is, named_twice}
use Rattle.demands.proofs.Messages.{read_body, message_length, message_dialect, message_body, message_read, Fit, turned_same, refused_same}
use Rattle.demands.proofs.Messages.{Alike, answered_same}
use Rattle.demands.proofs.Refusals.{refused_placed, answer_is}

-- A row of AVPs, and the same without one.
whole_left : (qs : List Piece) (one : Piece) (ps : List Piece) → All Whole (qs ++ (one ∷ ps)) → All Whole (qs ++ ps)
whole_left [] one ps h = h.1
whole_left (q ∷ qs) one ps h = (h.0, whole_left qs one ps h.1)

bytes_left : (qs : List Piece) (one : Piece) (ps : List Piece) → length (bytes_of (qs ++ ps)) ≤ length (bytes_of (qs ++ (one ∷ ps)))
unfolding bytes_of
bytes_left [] one ps = simp length-append (omega arith)
bytes_left (q ∷ qs) one ps = simp length-append (omega (arith, bytes_left qs one ps))

row_walk : (qs : List Piece) → All Whole qs → walk (bytes_of qs) ≡ glue (avps_of qs) ended
row_walk qs h = ap walk (sym (append-nil (bytes_of qs))) ∙ walk_pieces qs [] h ∙ rw walk_nil

-- a SAR that is decided upon
decide_sar : (d : Dialect) (req t : List ℕ) (count : ℕ) (v : List ℕ) (seen : Seen) → Decides d req seen → d.command ≡ 301
    → decide d req t count v ≡ performed_by in_force req t count v seen (assign t count (assignment_of req t seen))
unfolding decide_by judged_by plan_read sar_plan
decide_sar d req t count v seen read sar = rw (read.read, read.inside, sar)

-- as many places as identities
places_some : (req : List ℕ) (xs ys : List (List ℕ)) (y : List ℕ) → identities (body_of req) ≡ xs ++ (y ∷ ys) → length (places_from 20 (body_of req)) ≡ 0 → ⊥
places_some req xs ys y e = go (places_from 20 (body_of req)) (identities_at req 20 ∙ e)
  where
    go : (ps : List ℕ) → map (avp_at req) ps ≡ xs ++ (y ∷ ys) → length ps ≡ 0 → ⊥
    go [] f z = omega (arith, ap length f, length-append xs (y ∷ ys))
    go (p ∷ ps) f z = omega arith

module _ (head : List ℕ) (twenty : length head ≡ 20) (before : List Piece) (one : Piece) (after : List Piece) (whole : All Whole (before ++ (one ∷ after)))
    (identity : kind_of one.avp ≡ public_identity) where
  abbrev long : List ℕ
  long = bytes_of (before ++ (one ∷ after))

  abbrev short : List ℕ
  short = bytes_of (before ++ after)

  abbrev rest : Walk
  rest = glue (avps_of after) ended

  long_walk : walk long ≡ glue (avps_of before) (avp one.avp rest)
  unfolding avps_of glue
  long_walk = row_walk (before ++ (one ∷ after)) whole ∙ rw (avps_joined before (one ∷ after)) (glue_glue (avps_of before) (one.avp ∷ avps_of after) ended)

  short_walk : walk short ≡ glue (avps_of before) rest
  short_walk =
      row_walk (before ++ after) (whole_left before one after whole) ∙ rw (avps_joined before after) (glue_glue (avps_of before) (avps_of after) ended)

  -- the identities of a row
  abbrev named : List Piece → List (List ℕ)
  named qs = identities (glue (avps_of qs) ended)

  long_named : identities (walk long) ≡ named before ++ (one.avp ∷ named after)
  long_named = ap identities long_walk ∙ identities_left one.avp identity rest (avps_of before)

  short_named : identities (walk short) ≡ named before ++ named after
  short_named = ap identities short_walk ∙ identities_glue (avps_of before) rest

  -- (b) does not take a Public-Identity for the first AVP
  abbrev Begun : Type 0
  Begun = (length before ≡ 0 → ⊥)

  -- it is no 628
  called_other : calls_list one.avp ≡ false
  unfolding calls_list
  called_other = rw identity

  beyond_other : (set : ℕ) → asks_beyond set one.avp ≡ false
  unfolding asks_beyond
  beyond_other set = rw identity

  some_left : (p : List ℕ → Bool) → p one.avp ≡ false → (qs : List (List ℕ)) → some_avp p (glue qs (avp one.avp rest)) ≡ some_avp p (glue qs rest)
  unfolding some_avp glue
  some_left p e [] = rw e
  some_left p e (q ∷ qs) = rw (some_left p e qs)

  copied : Begun → Alike (walk long) (walk short)
  unfolding avps_of glue
  copied n =
      record {
        session = rw (long_walk, short_walk) (go before n);
        copies = rw (long_walk, short_walk) (copies_left one.avp identity rest (avps_of before));
        called = rw (long_walk, short_walk) (later before n);
        beyond = λ set. rw (long_walk, short_walk) (some_left (asks_beyond set) (beyond_other set) (avps_of before));
      }
    where
      later : (qs : List Piece) → (length qs ≡ 0 → ⊥) → called_in (glue (avps_of qs) (avp one.avp rest)) ≡ called_in (glue (avps_of qs) rest)
      later [] n = absurd (n refl)
      later (q ∷ qs) n = some_left calls_list called_other (avps_of qs)

      go : (qs : List Piece) → (length qs ≡ 0 → ⊥) → session_of (glue (avps_of qs) (avp one.avp rest)) ≡ session_of (glue (avps_of qs) rest)
      go [] n = absurd (n refl)
      go (q ∷ qs) n = refl

  module _ (d : Dialect) (removes : Removes d (message head long)) where
    sar : d.command ≡ 301
    sar = removes.sar

    on : d.terms.application ≡ cx
    on = (read_spoken d (message head long) removes.seen removes.read.read).0

    read_long : read_body d head (glue (avps_of before) (avp one.avp rest)) ≡ fine removes.seen
    read_long = ap (read_body d head) (sym long_walk) ∙ sym (message_read d head twenty long) ∙ removes.read.read

    begun : Begun
    unfolding avps_of glue
    begun z = go before refl z read_long
      where
        go : (qs : List Piece) → before ≡ qs → length qs ≡ 0 → read_body d head (glue (avps_of qs) (avp one.avp rest)) ≡ fine removes.seen → ⊥
        go [] e z r = read_first d on sar head one.avp identity rest removes.seen r
        go (q ∷ qs) e z r = omega arith

    read_short : Follows (read_body d head (glue (avps_of before) rest)) removes.seen
    unfolding avps_of
    read_short = go before begun read_long
      where
        go : (qs : List Piece) → (length qs ≡ 0 → ⊥) → read_body d head (glue (avps_of qs) (avp one.avp rest)) ≡ fine removes.seen
            → Follows (read_body d head (glue (avps_of qs) rest)) removes.seen
        go [] n r = absurd (n refl)
        go (q ∷ qs) n r = read_left d on sar head one.avp identity rest q.avp (avps_of qs) removes.seen r

    read_fewer : Decides d (message head short) read_short.seen
    unfolding beyond_set
    read_fewer =
        record {
          read = message_read d head twenty short ∙ ap (read_body d head) short_walk ∙ read_short.is;
          inside =
              ap (some_avp (asks_beyond d.terms.features)) (message_body head twenty short) ∙ sym ((copied begun).beyond d.terms.features)
              ∙ ap (some_avp (asks_beyond d.terms.features)) (sym (message_body head twenty long))
              ∙ removes.read.inside;
        }

    module _ (t : List ℕ) (count : ℕ) (sound : SoundTable t count) (m : Member t count (before ++ after) one) (v : List ℕ) where
      still : named before ++ named after ≡ named m.front ++ (m.other.avp ∷ named m.back)
      unfolding avps_of glue
      still =
          sym (identities_glue (avps_of before) rest)
          ∙ ap identities (sym (glue_glue (avps_of before) (avps_of after) ended))
          ∙ ap (λ (l : List (List ℕ)). identities (glue l ended))
          (sym (avps_joined before after) ∙ ap avps_of m.rest_is ∙ avps_joined m.front (m.other ∷ m.back))
          ∙ ap identities (glue_glue (avps_of m.front) (m.other.avp ∷ avps_of m.back) ended)
          ∙ identities_left m.other.avp m.identity (glue (avps_of m.back) ended) (avps_of m.front)

      abbrev naming : Assignment
      naming = assignment_of (message head long) t removes.seen

      abbrev leaving : Assignment
      leaving = assignment_of (message head short) t read_short.seen

      decide_long : decide d (message head long) t count v ≡ performed_by in_force (message head long) t count v removes.seen (assign t count naming)
      decide_long = decide_sar d (message head long) t count v removes.seen removes.read removes.sar

      decide_short : decide d (message head short) t count v ≡ performed_by in_force (message head short) t count v read_short.seen (assign t count leaving)
      decide_short = decide_sar d (message head short) t count v read_short.seen read_fewer sar

      kept : (k : ℕ) → (k ≡ public_identity → ⊥) → get_or read_short.seen k none ≡ get_or removes.seen k none
      kept k n = sym (beside_at removes.seen read_short.seen read_short.beside k n)

      abbrev says : List (List ℕ) → List ℕ → Assignment
      says ids places =
          record {
            numbers = numbers_in t removes.seen;
            server = data_seen removes.seen server_name;
            user = data_seen removes.seen user_name;
            identities = ids;
            places = places;
          }

      naming_says : naming ≡ says (named before ++ (one.avp ∷ named after)) (places_from 20 (body_of (message head long)))
      unfolding assignment_of
      naming_says = rw (ap identities (message_body head twenty long) ∙ long_named)

      leaving_says : leaving ≡ says (named before ++ named after) (places_from 20 (body_of (message head short)))
      unfolding assignment_of
      leaving_says =
          rw (
            ap identities (message_body head twenty short) ∙ short_named,
            kept user_name (omega arith),
            kept server_name (omega arith),
            kept assignment_type (omega arith),
            kept data_available (omega arith),
          )

      long_some : length (places_from 20 (body_of (message head long))) ≡ 0 → ⊥
      long_some = places_some (message head long) (named before) (named after) one.avp (ap identities (message_body head twenty long) ∙ long_named)

      short_some : length (places_from 20 (body_of (message head short))) ≡ 0 → ⊥
      short_some =
          places_some (message head short) (named m.front) (named m.back) m.other.avp
          (ap identities (message_body head twenty short) ∙ short_named ∙ still)

      decided_same : decide d (message head long) t count v ≡ decide d (message head short) t count v
      decided_same =
          decide_long
          ∙ rw (naming_says, leaving_says)
          (named_twice t count sound m.other_block m.one_block m.other_stands.from m.other_stands.to m.one_stands.from m.one_stands.to
          (shares_holds t m.other_block m.one_block m.shares) (numbers_in t removes.seen) removes.removal _ _
          (named before) (named after) (named m.front) (named m.back) one.avp m.other.avp still
          (stands_found t count sound m.one_block _ m.one_stands) (stands_found t count sound m.other_block _ m.other_stands)
          _ _ long_some short_some (message head long) (message head short) removes.seen read_short.seen naming_says leaving_says v)
          ∙ sym decide_short

      blameless : Blameless (decide d (message head long) t count v).given
      unfolding performed_by assignment_of
      blameless = rw (decide_long, assign_is t count naming removes.removal long_some) (plan_blameless _ _ _ _)

      same_decision : SameDecision (message head long) (message head short) (decide d (message head long) t count v) (decide d (message head short) t count v)
      same_decision = rw (← decided_same) (record { given = blameless_same _ _ _ blameless; table = refl; vectors = refl })

    module _ (most : length (message head long) ≤ 16384) (x : Lent) (count : ℕ) (sound : check_of x ≡ Ok count)
        (m : Member x.table count (before ++ after) one) (is : dialect_of x.terms head ≡ d) where
      fit_long : Fit long
      fit_long = record { most = omega (arith, most, message_length head twenty long); fours = row_even (before ++ (one ∷ after)) whole }

      fit_short : Fit short
      fit_short =
          record {
            most = omega (arith, most, message_length head twenty long, bytes_left before one after);
            fours = row_even (before ++ after) (whole_left before one after whole);
          }

      answers_at : (n : ℕ) → n ≡ count → answered (asking x (message head long)) (decision (asking x (message head long)) n)
          ≡ answered (asking x (message head short)) (decision (asking x (message head short)) n)
      unfolding answered_by
      answers_at n e =
          let table : SoundTable x.table count = record { file = length x.profile; checked = sound } in
          rw (e, message_dialect head twenty long x.terms, message_dialect head twenty short x.terms, is)
          (answered_same x head twenty long short (copied begun) (λ (p : ℕ). p) _ _ (same_decision x.table count table m x.vectors)
          (ap (λ (d : Decision). d.place) (decided_same x.table count table m x.vectors)))

      pub served_twice : serve_table (asking x (message head long)) ≡ serve_table (asking x (message head short))
      served_twice = go (turned_away (asking x (message head short))) refl
        where
          go : (y : Bool) → turned_away (asking x (message head short)) ≡ y → serve_table (asking x (message head long))
              ≡ serve_table (asking x (message head short))
          go true e =
              refused_same head twenty long short fit_long fit_short x (λ (p : ℕ). p) e ∙ refused_placed (asking x (message head short)) (λ (p : ℕ). p) e
          go false e =
              answer_is (asking x (message head long)) (turned_same head twenty long short fit_long fit_short x ∙ e)
              ∙ answers_at (check_value (check_of x)) (ap check_value sound)
              ∙ sym (answer_is (asking x (message head short)) e)

-- The same of any call and of the call with the request that names one fewer.
pub twice_once : (x : Lent) (fewer : List ℕ) (count : ℕ) → check_of x ≡ Ok count → length x.request ≤ 16384 → Removes (dialect_in x) x.request
    → (f : OneFewer x.request fewer) → Member x.table count (f.before ++ f.after) f.one → serve_table x ≡ serve_table (asking x fewer)
twice_once x fewer count sound most removes f m =
    ap (λ (req : List ℕ). serve_table (asking x req)) f.bytes
    ∙ served_twice f.head f.twenty f.before f.one f.after f.whole f.identity _
    (subst (λ (req : List ℕ). Removes (dialect_of x.terms req) req) f.bytes removes)
    (rw f.bytes at most) x count sound m (sym (message_dialect f.head f.twenty _ x.terms))
    ∙ ap (λ (req : List ℕ). serve_table (asking x req)) (sym f.shorter)
