-- The plain reading is the walk's.
use Rattle.octets.specs.Standard.{ℕ, suc, ◌+◌, ◌-◌, ◌≤◌, ◌<◌, ◌≡◌, refl, ap, ◌∙◌, List, [], Option, none, some, Bool, true, false, cond, not}
use Rattle.octets.specs.Standard.{arith, length, get_or, drop, eqb, ne_eqb, lt-ltb, le-ltb}
use Rattle.diameter.specs.Avp.{padded}
use Rattle.diameter.specs.Message.{body_of}
use Rattle.diameter.specs.Walk.{Walk, ended, faulty, avp}
use Rattle.reading.specs.declared.Dialect.{Dialect}
use Rattle.reading.specs.Kinds.{kind_of, use_of, session_id}
use Rattle.reading.specs.Places.{seen_of}
use Rattle.reading.specs.Rules.{Seen}
use Rattle.reading.specs.Verdicts.{lack_of}
use Rattle.requests.specs.Judged.{Judged, bad, fine, nothing, judge}
use Rattle.requests.specs.Request.{complete, read_walk, read_in}
use Rattle.plain_reading.specs.declared.Letter.{Letter}
use Rattle.plain_reading.specs.declared.Letter.TheVariants.{A, B}
use Rattle.plain_reading.specs.Broken.{is_named, breaks_whole, breaks_of, breaks}
use Rattle.plain_reading.specs.Listed.{places_in, places_of}
use Rattle.plain_reading.specs.Passes.{letters, picked}
use Rattle.plain_reading.specs.Plain.{blamed, taken, after_passes, plain_body, plain_read}
use Rattle.plain_reading.proofs.Each.{Cut, cut, cut_none}
use Rattle.plain_reading.proofs.Listing.{listed, listed_at}
use Rattle.plain_reading.proofs.Picking.{found, first_letter, picked_from, pick_turn, pick_end}
use Rattle.plain_reading.proofs.Ruling.{on_chosen, rule_letter}
use Rattle.plain_reading.proofs.Taking.{Came, came_none, came_more, taken_none, taken_named, taken_skipped, sole_came}

module _ (d : Dialect) (places : List ℕ) (avps : Seen) where
  -- what the AVPs from number i on come to
  abbrev left : ℕ → Judged
  left i = after_passes d places avps (picked_from d avps (length avps - i) i)

  module _ (i : ℕ) (low : i < length avps) where
    left_turn : left i ≡ after_passes d places avps (found (first_letter d avps i) i (picked_from d avps (length avps - suc i) (suc i)))
    left_turn = let n : length avps - i ≡ suc (length avps - suc i) = omega arith in rw (n, pick_turn d avps (length avps - suc i) i)

    left_broken : (l : Letter) → first_letter d avps i ≡ some l → left i ≡ bad (blamed l (get_or places i 0))
    unfolding after_passes
    left_broken l e = left_turn ∙ rw (e, lt-ltb i (length avps) low)

  left_end : (i : ℕ) → i ≤ length avps → length avps ≤ i → left i ≡ complete d (fine (taken d avps i))
  unfolding after_passes
  left_end i h k =
      let n : length avps - i ≡ 0 = omega arith in
      let m : length avps ≡ i = omega arith in
      rw (n, pick_end d avps i, le-ltb i (length avps) k, m)

  cut_letter : (i : ℕ) → get_or avps i none ≡ none → first_letter d avps i ≡ some A
  unfolding letters breaks
  cut_letter i e = rw e

  -- (b) is broken by the first AVP alone
  behind_first_lem : (i : ℕ) → breaks d avps B (suc i) ≡ false
  unfolding breaks breaks_whole
  behind_first_lem i = go (get_or avps (suc i) none)
    where
      go : (o : Option (List ℕ)) → breaks_of d avps (suc i) o B ≡ false
      go none = refl
      go (some a) = rw (ne_eqb (suc i) 0 (λ e. omega arith))

  -- one AVP, at fault, taken or skipped
  module _ (a : List ℕ) (w : Walk) (i at : ℕ) (k : Cut avps i none (some a) (listed w)) (q : Cut places i 0 at (places_in (at + padded (length a)) w))
      (later : left (suc i) ≡ complete d (judge d (at + padded (length a)) w (taken d avps (suc i)))) where
    left_chosen : (o : Option Letter) (named : Bool) → first_letter d avps i ≡ o → is_named (use_of d a) ≡ named
        → left i ≡ complete d (on_chosen o named (taken d avps i) a at (judge d (at + padded (length a)) w))
    unfolding complete
    left_chosen (some l) named e f = left_broken i k.low l e ∙ rw q.head
    left_chosen none true e f = left_turn i k.low ∙ rw (e, taken_named d avps i a k.head f) later
    left_chosen none false e f = left_turn i k.low ∙ rw (e, taken_skipped d avps i a k.head f) later

    left_avp : breaks d avps B i ≡ false → Came avps i → left i ≡ complete d (judge d at (avp a w) (taken d avps i))
    unfolding judge breaks
    left_avp b c =
        left_chosen (first_letter d avps i) (is_named (use_of d a)) refl refl
        ∙ rw (rule_letter (taken d avps i) a at (judge d (at + padded (length a)) w) d avps i k.head (rw k.head at b) (sole_came d avps i a c))

  -- the AVPs that are left are those of the walk that is left
  left_walk : (w : Walk) (i at : ℕ) → i ≤ length avps → drop i avps ≡ listed w → drop i places ≡ places_in at w → breaks d avps B i ≡ false
      → Came avps i → left i ≡ complete d (judge d at w (taken d avps i))
  unfolding listed places_in judge complete
  left_walk ended i at h l p b c = left_end i h (cut_none avps i none l)
  left_walk (faulty t) i at h l p b c =
      let k = cut avps i none none [] l in
      left_broken i k.low A (cut_letter i k.head) ∙ rw (cut places i 0 at [] p).head
  left_walk (avp a w) i at h l p b c =
      let k = cut avps i none (some a) (listed w) l in
      let q = cut places i 0 at (places_in (at + padded (length a)) w) p in
      left_avp a w i at k q
      (left_walk w (suc i) (at + padded (length a)) k.low k.tail q.tail (behind_first_lem i) (came_more d avps i a k.head c)) b c

  -- from the first AVP on: (b) before the others
  first_walk : (w : Walk) → avps ≡ listed w → places ≡ places_in 20 w → breaks d avps B 0 ≡ false → left 0 ≡ complete d (judge d 20 w nothing)
  first_walk w l p b = left_walk w 0 20 (omega arith) l p b (came_none avps) ∙ rw (taken_none d avps)

  whole_walk : (w : Walk) → avps ≡ listed w → places ≡ places_in 20 w → left 0 ≡ read_walk d w
  unfolding read_walk listed breaks breaks_whole letters
  whole_walk ended l p = first_walk ended l p (rw l)
  whole_walk (faulty t) l p = first_walk (faulty t) l p (rw l)
  whole_walk (avp a w) l p = go (eqb (kind_of a) session_id) refl
    where
      go : (x : Bool) → eqb (kind_of a) session_id ≡ x
          → left 0 ≡ cond (not x) (bad (lack_of session_id)) (complete d (judge d 20 (avp a w) nothing))
      go true e = first_walk (avp a w) l p (rw (l, e))
      go false e = left_broken 0 (rw l (omega arith)) B (rw (l, e))

-- Every request, its list being what it is, is read as the walk reads it.
pub plain_body_lem : (d : Dialect) (req : List ℕ) → plain_body d req (places_of req) ≡ read_walk d (body_of req)
unfolding plain_body picked places_of
plain_body_lem d req =
    let avps = seen_of req (places_of req) in
    let n : length avps ≡ length avps - 0 = omega arith in
    ap (λ (k : ℕ). after_passes d (places_of req) avps (picked_from d avps k 0)) n
    ∙ whole_walk d (places_of req) avps (body_of req) (listed_at req 20) refl

pub plain_reads : (d : Dialect) (req : List ℕ) → plain_read d req (places_of req) ≡ read_in d req
unfolding plain_read read_in
plain_reads d req = rw (plain_body_lem d req)
