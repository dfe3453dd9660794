-- From what the code has to what the definitions say: the list, one AVP of it, the loops over it.
use Rattle.std.specs.Prelude.{Option, Some, None, Result, Ok, Err}
use Rattle.octets.specs.Standard.{ℕ, zero, suc, ◌+◌, ◌-◌, ◌*◌, ◌/◌, ◌%◌, ◌≤◌, ◌<◌, add-one, ◌≡◌, refl, sym, ap, ◌∙◌, List, [], ◌∷◌, ◌++◌, map, none, some}
use Rattle.octets.specs.Standard.{append_assoc, append-nil, Bool, true, false, cond, not, ◌&&◌, ◌||◌, arith, length, get_or, take, drop, set, take-length, eqb}
use Rattle.octets.specs.Standard.{eqb-true, eqb-false, or-true, true≢false, drop-cons, drop_of_length-le, eq-eqb, ne_eqb, lt-ltb, le-ltb}
use lib.Seq.{take-suc-set}
use Rattle.octets.specs.Number.{be32_at}
use Rattle.diameter.specs.Avp.{vendor_of}
use Rattle.diameter.specs.AvpAt.{part_at, present}
use Rattle.diameter.specs.Reader.{read_of, own_of, Here}
use Rattle.diameter.specs.Walk.{walk}
use Rattle.diameter.specs.declared.Avp.{Avp}
use Rattle.diameter.proofs.Reading.{own_flags, read_says, read_none, read_fault_says, walk_past, none_past}
use Rattle.reading.specs.declared.Dialect.{Dialect}
use Rattle.reading.specs.declared.Kind.{Kind}
use Rattle.reading.specs.declared.Use.{Use}
use Rattle.reading.specs.declared.Verdict.{Verdict}
use Rattle.reading.specs.Kinds.{kinds, known, unknown, kind_from, kind_by, kind_of, row_of, use_in, is_unknown, is_needed, session_id}
use Rattle.reading.specs.Places.{seen_of}
use Rattle.reading.specs.Rules.{Seen}
use Rattle.reading.specs.Verdicts.{lack_of}
use Rattle.reading.proofs.Judging.{seen_at}
use Rattle.requests.specs.Found.{Headed, Missed}
use Rattle.requests.specs.Judged.{Judged, bad, fine}
use Rattle.requests.specs.Request.{header_fault, missing_from, missing, complete}
use Rattle.requests.proofs.Requests.{missing_all, missing_found, missing_more, missing_none}
use Rattle.plain_reading.specs.declared.Broken.{Broken}
use Rattle.plain_reading.specs.declared.Letter.{Letter}
use Rattle.plain_reading.specs.declared.Letter.TheVariants.{A, B, C, D, F, G, H, Newer}
use Rattle.plain_reading.specs.Broken.{is_named, is_sole, is_a, kind_at, came, other_length, bad_content, several_in, breaks_whole, breaks}
use Rattle.plain_reading.specs.Listed.{places_in, places_of, most}
use Rattle.plain_reading.specs.Passes.{first_by, pass_of, earlier, letters, pick_from, picked}
use Rattle.plain_reading.specs.Plain.{blamed, last_of, taken_of, each_below, taken, after_passes, plain_body, plain_read}
use Rattle.plain_reading.proofs.Listing.{places_avp, next_far}

-- The list: what stands in it, and what is left of the message.
pub list_start : (s places : List ℕ) → take 0 places ++ places_in 20 (walk (drop 20 s)) ≡ places_of s
unfolding places_of
list_start s places = refl

module _ (s places : List ℕ) (n at : ℕ) (left : take n places ++ places_in at (walk (drop at s)) ≡ places_of s) where
  pub list_end : length s ≤ at → take n places ≡ places_of s
  unfolding places_in
  list_end h = sym (append-nil (take n places)) ∙ rw (walk_past s at h) at left

  module _ (far : 20 + 8 * n ≤ at) (h : at < length s) (short : length s ≤ 16384) (sized : length places ≡ most) (r : Result Avp ℕ)
      (e : r ≡ read_of at (drop at s)) where
    room : n < length places
    room = omega arith

    pub list_cut : {p : ℕ} → r ≡ Err p → take (n + 1) (set places n at) ≡ places_of s
    unfolding places_in
    list_cut d = rw (add-one, take-suc-set places n at room) (rw (read_fault_says s at r e d h) at left)

    module _ (a : Avp) (d : r ≡ Ok a) where
      pub list_more : take (n + 1) (set places n at) ++ places_in a.next (walk (drop a.next s)) ≡ places_of s
      list_more =
          rw (add-one, take-suc-set places n at room, append_assoc (take n places) (at ∷ []) (places_in a.next (walk (drop a.next s))))
          (rw (places_avp s at a (read_says s at r e a d)) at left)

      pub list_far : 20 + 8 * (n + 1) ≤ a.next
      list_far = omega (arith, next_far s at a (read_says s at r e a d))

-- One AVP of the list, by the reader's answer at its place.
kind_nothing : kind_of [] ≡ 0
unfolding kind_by kind_from known vendor_of be32_at
kind_nothing = refl

module _ (s list : List ℕ) (i : ℕ) (low : i < length list) (r : Result Avp ℕ) (e : r ≡ read_of (get_or list i 0) (drop (get_or list i 0) s)) where
  pub part_cut : {p : ℕ} → r ≡ Err p → get_or (seen_of s list) i none ≡ none
  part_cut d = rw (seen_at s list i low) (read_none s (get_or list i 0) r e d)

  pub part_whole : (a : Avp) → r ≡ Ok a → get_or (seen_of s list) i none ≡ some (own_of s a)
  part_whole a d = rw (seen_at s list i low) (read_says s (get_or list i 0) r e a d).part

  pub kind_cut : {p : ℕ} → r ≡ Err p → 0 ≡ kind_at (seen_of s list) i
  unfolding kind_at
  kind_cut d = rw (part_cut d) (sym kind_nothing)

  pub kind_whole : (a : Avp) (k : ℕ) → r ≡ Ok a → k ≡ kind_of (own_of s a) → k ≡ kind_at (seen_of s list) i
  unfolding kind_at
  kind_whole a k d ek = rw (part_whole a d) ek

  module _ (d : Dialect) (l : Letter) (x : Bool) where
    pub broken_cut : {p : ℕ} → r ≡ Err p → x ≡ is_a l → x ≡ breaks d (seen_of s list) l i
    unfolding breaks
    broken_cut f ex = rw (part_cut f) ex

    pub broken_whole : (a : Avp) → r ≡ Ok a → x ≡ breaks_whole d (seen_of s list) i (own_of s a) l → x ≡ breaks d (seen_of s list) l i
    unfolding breaks
    broken_whole a f ex = rw (part_whole a f) ex

-- Whether a kind came.
module _ (avps : Seen) (k : ℕ) where
  came_yes : (n i : ℕ) → i < n → kind_at avps i ≡ k → came avps k n ≡ true
  unfolding came
  came_yes zero i h e = absurd (omega arith)
  came_yes (suc n) i h e = go (eqb i n) refl (λ l. came_yes n i l e)
    where
      go : (x : Bool) → eqb i n ≡ x → (i < n → came avps k n ≡ true) → (came avps k n || eqb (kind_at avps n) k) ≡ true
      go true f r = let m : i ≡ n = eqb-true i n f in rw (← m, eq-eqb (kind_at avps i) k e, or-true)
      go false f r = rw (r (omega (arith, eqb-false i n f)))

  came_no : (n : ℕ) → ((i : ℕ) → i < n → kind_at avps i ≡ k → ⊥) → came avps k n ≡ false
  unfolding came
  came_no zero h = refl
  came_no (suc n) h = rw (came_no n (λ i l. h i (omega arith)), ne_eqb (kind_at avps n) k (h n (omega arith)))

  -- a number shows as a place in a list: there the library's laws of ranges take it
  pub came_is : (list : List ℕ) (n : ℕ) {x : Bool} → (x ≡ true → (i : ℕ) × (i < n) × (kind_at avps i ≡ k))
      → ((i : ℕ) → get_or list i 0 ≡ get_or list i 0 → i < n → kind_at avps i ≡ k → x ≡ true) → x ≡ came avps k n
  came_is list n {x} f g = go x f (λ i. g i refl)
    where
      go : (x : Bool) → (x ≡ true → (i : ℕ) × (i < n) × (kind_at avps i ≡ k)) → ((i : ℕ) → i < n → kind_at avps i ≡ k → x ≡ true) → x ≡ came avps k n
      go true f g = let h = f refl in sym (came_yes n h.0 h.1 h.2)
      go false f g = sym (came_no n (λ i l e. true≢false (sym (g i l e))))

-- The rules, each by its letter.
module _ (d : Dialect) (s list : List ℕ) (i : ℕ) (a : Avp) (h : Here s a) (k : ℕ) (ek : k ≡ kind_of (own_of s a)) (row : Kind) (er : row ≡ row_of k) (u : Use)
    (eu : u ≡ use_in d row) (l : Letter) where
  pub whole_a : l ≡ A → false ≡ breaks_whole d (seen_of s list) i (own_of s a) l
  unfolding breaks_whole
  whole_a e = rw e

  pub whole_b : l ≡ B → (eqb i 0 && not (eqb k session_id)) ≡ breaks_whole d (seen_of s list) i (own_of s a) l
  unfolding breaks_whole
  whole_b e = rw (e, ek)

  pub whole_c : l ≡ C → not (eqb (a.flags % 32) 0) ≡ breaks_whole d (seen_of s list) i (own_of s a) l
  unfolding breaks_whole
  whole_c e = rw (e, own_flags s a h)

  module _ (x : Bool) where
    pub whole_d : l ≡ D → x ≡ is_unknown u → (x && eqb (a.flags / 64 % 2) 1) ≡ breaks_whole d (seen_of s list) i (own_of s a) l
    unfolding breaks_whole
    whole_d e ex = rw (e, ex, eu, er, ek, ← own_flags s a h)

    pub whole_f : l ≡ F → x ≡ (is_sole u && came (seen_of s list) k i) → x ≡ breaks_whole d (seen_of s list) i (own_of s a) l
    unfolding breaks_whole
    whole_f e ex = ex ∙ rw (e, eu, er, ek)

    module _ (ex : x ≡ is_named u) (y : Bool) where
      pub whole_g : l ≡ G → y ≡ other_length row.content (own_of s a) → (x && y) ≡ breaks_whole d (seen_of s list) i (own_of s a) l
      unfolding breaks_whole
      whole_g e ey = rw (e, ex, ey, eu, er, ek)

      pub whole_h : l ≡ H → y ≡ bad_content d row.content (own_of s a) → (x && y) ≡ breaks_whole d (seen_of s list) i (own_of s a) l
      unfolding breaks_whole
      whole_h e ey = rw (e, ex, ey, eu, er, ek)

      pub whole_newer : l ≡ Newer → y ≡ several_in d row.content (own_of s a) → (x && y) ≡ breaks_whole d (seen_of s list) i (own_of s a) l
      unfolding breaks_whole
      whole_newer e ey = rw (e, ex, ey, eu, er, ek)

-- A pass.
pub seen_length : (s list : List ℕ) → length (seen_of s list) ≡ length list
seen_length s [] = refl
seen_length s (p ∷ list) = ap suc (seen_length s list)

pub pass_start : (p : ℕ → Bool) (n : ℕ) → first_by p n 0 ≡ first_by p (n - 0) 0
pass_start p n = let m : n - 0 ≡ n = omega arith in rw m

module _ (d : Dialect) (s list : List ℕ) (l : Letter) (i : ℕ)
    (left : first_by (breaks d (seen_of s list) l) (length list) 0 ≡ first_by (breaks d (seen_of s list) l) (length list - i) i) where
  pub pass_none : i ≤ length list → length list ≤ i → record { at = i; letter = l } ≡ pass_of d (seen_of s list) l
  unfolding first_by
  pass_none h k = let n : length list - i ≡ 0 = omega arith in rw (seen_length s list, left, n)

  module _ (low : i < length list) (x : Bool) (e : x ≡ breaks d (seen_of s list) l i) where
    abbrev more : length list - i ≡ suc (length list - (i + 1))
    more = omega arith

    pub pass_here : x ≡ true → record { at = i; letter = l } ≡ pass_of d (seen_of s list) l
    unfolding first_by
    pass_here t = rw (seen_length s list, left, more, ← e, t)

    pub pass_more : x ≡ false
        → first_by (breaks d (seen_of s list) l) (length list) 0 ≡ first_by (breaks d (seen_of s list) l) (length list - (i + 1)) (i + 1)
    unfolding first_by
    pass_more f = left ∙ rw (more, ← e, f, add-one i)

-- The fault that comes first.
module _ (x y : Broken) where
  pub earlier_second : y.at < x.at → y ≡ earlier x y
  unfolding earlier
  earlier_second h = rw (lt-ltb y.at x.at h)

  pub earlier_first : x.at ≤ y.at → x ≡ earlier x y
  unfolding earlier
  earlier_first h = rw (le-ltb y.at x.at h)

-- A further rule.
pub picked_start : (d : Dialect) (avps : Seen) {x : Broken} → x ≡ pass_of d avps A → picked d avps ≡ pick_from d avps (length avps) 0 x letters
unfolding picked
picked_start d avps e = rw e

module _ (d : Dialect) (avps : Seen) (i : ℕ) (x : Broken) (left : picked d avps ≡ pick_from d avps (length avps) 0 x (drop i letters)) where
  pub picked_turn : (l : Letter) {y z : Broken} → i < length letters → l ≡ get_or letters i A → y ≡ pass_of d avps l → z ≡ earlier x y
      → picked d avps ≡ pick_from d avps (length avps) 0 z (drop (i + 1) letters)
  unfolding pick_from
  picked_turn l h e f g = left ∙ rw (drop-cons letters i A h, ← e, add-one i, g, f)

  pub picked_end : length letters ≤ i → x ≡ picked d avps
  unfolding pick_from
  picked_end h = sym (left ∙ rw (drop_of_length-le letters h))

-- The place of a kind's last AVP, looked for from the last one down.
module _ (s list : List ℕ) (k i : ℕ) (whole : last_of (seen_of s list) k (length list) ≡ last_of (seen_of s list) k i) where
  pub last_none : i ≤ 0 → part_at s (length s) ≡ last_of (seen_of s list) k (length list)
  unfolding last_of
  last_none h = let z : i ≡ 0 = omega arith in none_past s (length s) (omega arith) ∙ sym (whole ∙ rw z)

  module _ (m : ℕ) (more : 0 < i) (room : i ≤ length list) (e : m ≡ kind_at (seen_of s list) (i - 1)) where
    last_turn : last_of (seen_of s list) k (length list) ≡ cond (eqb m k) (part_at s (get_or list (i - 1) 0)) (last_of (seen_of s list) k (i - 1))
    unfolding last_of
    last_turn =
        let n : i ≡ suc (i - 1) = omega arith in
        let low : i - 1 < length list = omega arith in
        whole ∙ ap (last_of (seen_of s list) k) n ∙ rw (seen_at s list (i - 1) low, e)

    pub last_here : (p : ℕ) → m ≡ k → p ≡ get_or list (i - 1) 0 → part_at s p ≡ last_of (seen_of s list) k (length list)
    last_here p z ep = sym (last_turn ∙ rw (eq-eqb m k z, ep))

    pub last_other : (m ≡ k → ⊥) → last_of (seen_of s list) k (length list) ≡ last_of (seen_of s list) k (i - 1)
    last_other z = last_turn ∙ rw (ne_eqb m k z)

module _ (d : Dialect) (s list : List ℕ) (k n place : ℕ) (row : Kind) (er : row ≡ row_of k) (u : Use) (eu : u ≡ use_in d row)
    (x : Bool) (ex : x ≡ is_named u) where
  pub place_taken : x ≡ true → part_at s place ≡ last_of (seen_of s list) k n → part_at s place ≡ taken_of d (seen_of s list) n k
  unfolding taken_of
  place_taken t e = e ∙ rw (← er, ← eu, ← ex, t)

  pub place_skipped : x ≡ false → part_at s (length s) ≡ taken_of d (seen_of s list) n k
  unfolding taken_of
  place_skipped f = none_past s (length s) (omega arith) ∙ rw (← er, ← eu, ← ex, f)

-- The places of all kinds.
map-set : {X Y : Type 0} (f : X → Y) (l : List X) (i : ℕ) (x : X) → map f (set l i x) ≡ set (map f l) i (f x)
map-set f [] i x = refl
map-set f (y ∷ l) zero x = refl
map-set f (y ∷ l) (suc i) x = ap (f y ∷◌) (map-set f l i x)

module _ (d : Dialect) (s list places : List ℕ) (k n : ℕ) (sized : length places ≡ kinds)
    (left : take k (seen_of s places) ≡ each_below (taken_of d (seen_of s list) n) k) where
  pub fill_more : (p : ℕ) → k < kinds → part_at s p ≡ taken_of d (seen_of s list) n k
      → take (k + 1) (seen_of s (set places k p)) ≡ each_below (taken_of d (seen_of s list) n) (k + 1)
  unfolding each_below
  fill_more p low e =
      rw (add-one k, map-set (part_at s) places k p, take-suc-set (seen_of s places) k (part_at s p) (omega (arith, seen_length s places)), left, e)

  pub fill_all : k ≤ kinds → kinds ≤ k → seen_of s places ≡ taken d (seen_of s list) n
  unfolding taken
  fill_all a b =
      let m : k ≡ length (seen_of s places) = omega (arith, seen_length s places) in
      let c : k ≡ kinds = omega arith in
      sym (take-length (seen_of s places)) ∙ rw (← m) (left ∙ rw c)

pub fill_none : (d : Dialect) (s list places : List ℕ) (n : ℕ) → take 0 (seen_of s places) ≡ each_below (taken_of d (seen_of s list) n) 0
unfolding each_below
fill_none d s list places n = refl

-- The whole.
module _ (d : Dialect) (s list : List ℕ) (x : Broken) (ex : x ≡ picked d (seen_of s list)) where
  pub body_fault : {v : Verdict} → x.at < length list → v ≡ blamed x.letter (get_or list x.at 0) → bad v ≡ plain_body d s list
  unfolding plain_body after_passes
  body_fault h ew = rw (ew, ← ex, seen_length s list, lt-ltb x.at (length list) h)

  module _ (places : List ℕ) (h : length list ≤ x.at) (filled : seen_of s places ≡ taken d (seen_of s list) (length list)) where
    pub body_lacks : {v : Verdict} (k : ℕ) → Missed (Some k) (missing d (seen_of s places)) → v ≡ lack_of k → bad v ≡ plain_body d s list
    unfolding plain_body after_passes complete
    body_lacks k m ew =
        let z : missing d (seen_of s places) ≡ 0 → ⊥ = λ z. omega (arith, m.0) in
        rw (ew, ← ex, seen_length s list, le-ltb x.at (length list) h, ← filled, m.1, ne_eqb _ _ z)

    pub body_read : Missed None (missing d (seen_of s places)) → fine (seen_of s places) ≡ plain_body d s list
    unfolding plain_body after_passes complete
    body_read z = rw (← ex, seen_length s list, le-ltb x.at (length list) h, ← filled, z)

module _ (d : Dialect) (s list : List ℕ) where
  pub read_header : (v : Verdict) → Headed (Err v) (header_fault d s) → bad v ≡ plain_read d s list
  unfolding plain_read
  read_header v h = let z : header_fault d s ≡ 0 → ⊥ = λ z. omega (arith, h.0) in rw (h.1, ne_eqb _ _ z)

  pub read_rest : {j : Judged} → Headed (Ok tt) (header_fault d s) → j ≡ plain_body d s list → j ≡ plain_read d s list
  unfolding plain_read
  read_rest h e = e ∙ rw h

-- The first missing kind, by the search for it.
module _ (s places : List ℕ) (d : Dialect) (sized : length places ≡ kinds) where
  abbrev pub lacking_at : ℕ → Bool
  lacking_at k = is_needed (use_in d (row_of k)) && not (present (part_at s (get_or places k 0)))

  missing_down : (n : ℕ) → n ≤ kinds - 1 → ((j : ℕ) → 1 ≤ j → j < n + 1 → lacking_at j ≡ false)
      → missing d (seen_of s places) ≡ missing_from d (seen_of s places) (drop (n + 1) (unknown ∷ known)) (n + 1)
  missing_down zero h f = missing_all d (seen_of s places)
  missing_down (suc n) h f =
      let g : missing d (seen_of s places) ≡ missing_from d (seen_of s places) (drop (n + 1) (unknown ∷ known)) (n + 1)
      = missing_down n (omega arith) (λ j l m. f j l (omega arith)) in
      let e : suc n + 1 ≡ n + 1 + 1 = omega arith in
      rw e (missing_more s places d (n + 1) _ g (omega arith) (omega arith) false (sym (f (n + 1) (omega arith) (omega arith))) refl)

  pub missing_is : (r : Option ℕ)
      → (r ≡ None → (j : ℕ) → get_or places j 0 ≡ get_or places j 0 → 1 ≤ j → j < kinds → lacking_at j ≡ false)
      → ((k : ℕ) → r ≡ Some k → (1 ≤ k) × (k < kinds) × (lacking_at k ≡ true)
      × ((j : ℕ) → get_or places j 0 ≡ get_or places j 0 → 1 ≤ j → j < k → lacking_at j ≡ false))
      → Missed r (missing d (seen_of s places))
  missing_is None f g = missing_none s places d kinds _ (missing_down (kinds - 1) (omega arith) (λ j l m. f refl j refl l m)) (omega arith)
  missing_is (Some zero) f g = absurd (omega (arith, (g 0 refl).0))
  missing_is (Some (suc k)) f g =
      let h = g (suc k) refl in
      let m : missing d (seen_of s places) ≡ missing_from d (seen_of s places) (drop (k + 1) (unknown ∷ known)) (k + 1)
      = missing_down k (omega (arith, h.1)) (λ j l n. h.3 j refl l (omega (arith, n))) in
      let e : suc k ≡ k + 1 = omega arith in
      let t : true ≡ lacking_at (k + 1) = rw (← e) (sym h.2) in
      let low : k + 1 < kinds = omega (arith, h.1) in
      rw e (missing_found s places d (k + 1) _ m low (omega arith) true t (omega arith) refl)
