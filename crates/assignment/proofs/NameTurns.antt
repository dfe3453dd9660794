-- The turns of the loops over a SAR's identities, and what there are of them.
use Rattle.std.specs.Prelude.{Option, Some, None, Ok, Err}
use Rattle.octets.specs.Standard.{ℕ, ◌+◌, ◌*◌, ◌≤◌, List, [], ◌∷◌, ◌++◌, Bool, true, false, ◌&&◌, ◌||◌, ◌≡◌, refl, sym, ap, ◌∙◌, arith, length, drop}
use Rattle.octets.specs.Standard.{ne_eqb}
use Rattle.table.specs.SoundTable.{SoundTable}
use Rattle.table.proofs.Sound.{sound_size, sound_few}
use Rattle.lookup.specs.Find.{first_from, public_is, find_public}
use Rattle.lookup.proofs.First.{FirstAt, first_stands}
use Rattle.blocks.specs.Changed.{is_one}
use Rattle.lookup.proofs.Halves.{find_alike}
use Rattle.rewrite.specs.Change.{after_of, reaches, altered_up_to}
use Rattle.rewrite.specs.Keeps.{Keeps}
use Rattle.rewrite.specs.Renew.{settled}
use Rattle.rewrite.specs.Fitting.{Fitting, change_of, ChangeFits}
use Rattle.rewrite.specs.declared.Change.{Change}
use Rattle.rewrite.specs.declared.Change.TheVariants.{Settled}
use Rattle.rewrite.proofs.Counts.{altered_most, altered_none, both_counts, sum_few}
use Rattle.rewrite.proofs.Reaching.{reaches_closed, reaches_append, reaches_zero, reaches_kept}
use Rattle.rewrite.proofs.Settled.{settled_keeps}
use Rattle.rewrite.proofs.Sound.{keeping_says, keeping_public}
use Rattle.rewrite.proofs.Tables.{Keeping, after_choice, after_none, after_keeping, after_both}
use Rattle.diameter.specs.Avp.{data_of}
use Rattle.diameter.specs.Walk.{walk}
use Rattle.diameter.specs.AvpAt.{data_at}
use Rattle.diameter.proofs.Reading.{walk_past}
use Rattle.reading.specs.Kinds.{public_identity}
use Rattle.reading.specs.Verdicts.{fault_at, lack_of}
use Rattle.reading.specs.declared.Verdict.{Verdict}
use Rattle.diameter.specs.Message.{body_of}
use Rattle.requests.specs.Request.{identities}
use Rattle.requests.specs.Identity.{places_from}
use Rattle.requests.specs.declared.identities.Identity.{Identity}
use Rattle.requests.proofs.Naming.{no_place, first_place, named_none, named_first}
use Rattle.choices.specs.declared.types.AssignmentType.{AssignmentType}
use Rattle.choices.specs.declared.plan.Survey.{Survey}
use Rattle.assignment.specs.Assignment.{meant_by, find_all, numbers_of}
use Rattle.assignment.specs.Survey.{clean, both, look_found, found_survey}
use Rattle.assignment.specs.declared.Meant.TheVariants.{Owned, Listed}
use Rattle.assignment.proofs.Surveys.{survey_cons, both_assoc, both_clean}
use Rattle.requests.specs.NextIdentity as identity

-- the identities from a place on
unfoldable pub rest_of : List ℕ → ℕ → List (List ℕ)
rest_of s at = identities (walk (drop at s))

pub rest_past : (s : List ℕ) (at : ℕ) → length s ≤ at → rest_of s at ≡ []
unfolding rest_of identities
rest_past s at h = rw (walk_past s at h)

-- A survey of what is left, joined to what was seen, is the survey of all.
module _ (t owner server : List ℕ) (kind : AssignmentType) (count : ℕ) (s : List ℕ) where
  pub survey_start : {seen : Survey} → seen ≡ clean → both seen (found_survey t owner server kind (find_all t count (rest_of s 20)))
      ≡ found_survey t owner server kind (find_all t count (identities (body_of s)))
  unfolding rest_of
  survey_start e = rw e

  module _ (at : ℕ) (seen whole : Survey) (left : both seen (found_survey t owner server kind (find_all t count (rest_of s at))) ≡ whole) where
    module _ (r : Option Identity) (n : identity.Named s at r) where
      pub survey_none : r ≡ None → seen ≡ whole
      unfolding find_all rest_of
      survey_none d = sym (both_clean t owner server kind seen) ∙ rw (named_none s at r n d) at left

      pub survey_turn : (i : Identity) {name : List ℕ} {f : Option ℕ} {look seen' : Survey} → r ≡ Some i → name ≡ data_at s i.place
          → f ≡ find_public t count name
          → look ≡ look_found t f owner server kind → seen' ≡ both seen look
          → both seen' (found_survey t owner server kind (find_all t count (rest_of s i.past))) ≡ whole
      unfolding find_all rest_of
      survey_turn i {name} {f} {look} {seen'} d en ef el es =
          rw (es, el, ef, en)
          (both_assoc seen (look_found t (find_public t count (data_at s i.place)) owner server kind)
          (found_survey t owner server kind (find_all t count (rest_of s i.past)))
          ∙ ap (both seen) (sym (survey_cons t owner server kind (find_public t count (data_at s i.place)) (find_all t count (rest_of s i.past))))
          ∙ (rw (named_first s at r n i d) at left))

-- What is found in a table with a found record changed is what was found.
find_kept : (x y : List ℕ) (count : ℕ) → SoundTable x count → Keeping x y count → (avps : List (List ℕ)) → find_all y count avps ≡ find_all x count avps
unfolding find_all
find_kept x y count sound keeping [] = refl
find_kept x y count sound keeping (a ∷ avps) =
    rw (find_alike y x count (data_of a) (keeping_public x y count keeping sound), find_kept x y count sound keeping avps)

-- One that was found is reached with its set, and no header.
found_later : (p : ℕ → Bool) (count : ℕ) (f : Option ℕ) → first_from p count 1 ≡ f → is_one (numbers_of (f ∷ [])) 0 ≡ false
unfolding numbers_of is_one
found_later p count (Some k) e = let s : FirstAt p count 1 k = first_stands p count 1 k e in rw (ne_eqb 0 k (omega (arith, s.from)))
found_later p count None e = refl

numbers_cons : (f : Option ℕ) (fs : List (Option ℕ)) → numbers_of (f ∷ fs) ≡ numbers_of (f ∷ []) ++ numbers_of fs
unfolding numbers_of
numbers_cons (Some k) fs = refl
numbers_cons None fs = refl

none_reached : (change : List ℕ → List ℕ) (x : List ℕ) (count : ℕ) → SoundTable x count → x ≡ after_of x count (reaches x []) change
unfolding reaches
none_reached change x count sound = after_none x count change (sound_size x count sound) (reaches x []) (λ j l. refl)

-- The effect of what is left, on the table as it is now, is the effect of all on the table as it came: the set of the next identity's record is changed.
module _ (change : List ℕ → List ℕ) (keeps : Keeps change) (x : List ℕ) (count : ℕ) (sound : SoundTable x count) where
  size : length x ≡ 512 * (count + 1)
  size = sound_size x count sound

  abbrev next_table : Option ℕ → List ℕ
  next_table f = after_of x count (reaches x (numbers_of (f ∷ []))) change

  found_keeping : (p : ℕ → Bool) (f : Option ℕ) → first_from p count 1 ≡ f → Keeping x (next_table f) count
  found_keeping p f e =
      after_keeping x count change size (reaches x (numbers_of (f ∷ []))) keeps (reaches_zero x count sound (numbers_of (f ∷ [])) ∙ found_later p count f e)
      (reaches_closed x (numbers_of (f ∷ [])))

  found_turn : (p : ℕ → Bool) (f : Option ℕ) → first_from p count 1 ≡ f → (fs : List (Option ℕ))
      → after_of (next_table f) count (reaches (next_table f) (numbers_of fs)) change ≡ after_of x count (reaches x (numbers_of (f ∷ fs))) change
  found_turn p f e fs =
      after_choice (next_table f) count (reaches (next_table f) (numbers_of fs)) (reaches x (numbers_of fs)) change
      (λ j l. reaches_kept x (next_table f) count (found_keeping p f e) sound (numbers_of fs) j)
      ∙ after_both x count change size keeps (reaches x (numbers_of (f ∷ []))) (reaches x (numbers_of fs))
      ∙ after_choice x count (λ (j : ℕ). reaches x (numbers_of (f ∷ [])) j || reaches x (numbers_of fs) j) (reaches x (numbers_of (f ∷ fs))) change
      (λ j l. rw (numbers_cons f fs) (sym (reaches_append x (numbers_of (f ∷ [])) (numbers_of fs) j)))

  module _ (s : List ℕ) (at : ℕ) {whole : List ℕ} (left : after_of x count (reaches x (numbers_of (find_all x count (rest_of s at)))) change ≡ whole) where
    ended : length s ≤ at → x ≡ whole
    unfolding find_all numbers_of
    ended h = none_reached change x count sound ∙ rw (rest_past s at h) at left

    module _ (r : Option Identity) (n : identity.Named s at r) where
      none_left : r ≡ None → x ≡ whole
      unfolding find_all numbers_of rest_of
      none_left d = none_reached change x count sound ∙ rw (named_none s at r n d) at left

      module _ (i : Identity) {m : List ℕ} {f : Option ℕ} {y : List ℕ} (d : r ≡ Some i) (em : m ≡ data_at s i.place) (ef : f ≡ find_public x count m)
          (ey : y ≡ next_table f) where
        stood : first_from (public_is x m) count 1 ≡ f
        unfolding find_public
        stood = sym ef

        keeping : Keeping x (next_table f) count
        keeping = found_keeping (public_is x m) f stood

        turned : after_of y count (reaches y (numbers_of (find_all y count (rest_of s i.past)))) change ≡ whole
        unfolding find_all rest_of
        turned =
            rw (ey, find_kept x (next_table f) count sound keeping (rest_of s i.past))
            (found_turn (public_is x m) f stood (find_all x count (rest_of s i.past)) ∙ rw (ef, em) ((rw (named_first s at r n i d) at left)))

        turned_sound : SoundTable y count
        turned_sound = rw ey (keeping_says x (next_table f) count keeping sound)

        turned_counts : altered_up_to x whole count ≡ altered_up_to x y count + altered_up_to y whole count
        turned_counts =
            rw (← turned, ey)
            (both_counts change keeps x count size (reaches x (numbers_of (f ∷ [])))
            (reaches (next_table f) (numbers_of (find_all (next_table f) count (rest_of s i.past)))) count (omega arith))

-- The same of settling, as the loop has it.
module _ (x : List ℕ) (count : ℕ) (sound : SoundTable x count) (state : ℕ) (name : List ℕ) (fits : Fitting state name) (s : List ℕ) (at : ℕ) {whole : List ℕ}
    (left : after_of x count (reaches x (numbers_of (find_all x count (rest_of s at)))) (settled state name) ≡ whole) where
  keeps : Keeps (settled state name)
  keeps = settled_keeps state name fits

  pub settle_end : length s ≤ at → x ≡ whole
  settle_end = ended (settled state name) keeps x count sound s at left

  module _ (r : Option Identity) (n : identity.Named s at r) where
    pub settle_none : r ≡ None → x ≡ whole
    settle_none = none_left (settled state name) keeps x count sound s at left r n

    module _ (i : Identity) {m : List ℕ} {f : Option ℕ} {y : List ℕ} (d : r ≡ Some i) (em : m ≡ data_at s i.place) (ef : f ≡ find_public x count m)
        (ey : y ≡ after_of x count (reaches x (numbers_of (f ∷ []))) (settled state name)) where
      pub settle_turn : after_of y count (reaches y (numbers_of (find_all y count (rest_of s i.past)))) (settled state name) ≡ whole
      settle_turn = turned (settled state name) keeps x count sound s at left r n i d em ef ey

      pub settle_sound : SoundTable y count
      settle_sound = turned_sound (settled state name) keeps x count sound s at left r n i d em ef ey

      pub settle_counts : (c : ℕ) {e w : ℕ} → e ≡ altered_up_to x y count → c + altered_up_to x whole count ≡ w → c + e + altered_up_to y whole count ≡ w
      settle_counts c {e} h sum = omega (arith, h, sum, turned_counts (settled state name) keeps x count sound s at left r n i d em ef ey)

      pub settle_few : (c : ℕ) {e : ℕ} (t : List ℕ) → e ≡ altered_up_to x y count → c + altered_up_to x whole count ≡ altered_up_to t whole count → c + e ≤ 4096
      settle_few c {e} t h sum = sum_few t y whole count (c + e) (settle_counts c h sum) (sound_few x count sound)

-- Whom the identities mean.
module _ (s : List ℕ) (removal named : Bool) (r : Option Identity) (n : identity.Named s 20 r) where
  pub means_owned : r ≡ None → (removal && named) ≡ true → Ok Owned ≡ meant_by removal named (places_from 20 (body_of s))
  unfolding meant_by
  means_owned d e = rw (no_place s 20 r n d, e)

  pub means_none : {v : Verdict} → r ≡ None → (removal && named) ≡ false → v ≡ lack_of public_identity
      → Err v ≡ meant_by removal named (places_from 20 (body_of s))
  unfolding meant_by
  means_none d e f = rw (no_place s 20 r n d, e, f)

  module _ (i : Identity) (d : r ≡ Some i) where
    pub means_removal : removal ≡ true → Ok (Listed i.place) ≡ meant_by removal named (places_from 20 (body_of s))
    unfolding meant_by
    means_removal e = rw (first_place s 20 r n i d, e) (go (places_from i.past (walk (drop i.past s))))
      where
        go : (others : List ℕ) → Ok (Listed i.place) ≡ meant_by true named (i.place ∷ others)
        go [] = refl
        go (q ∷ others) = refl

    module _ (q : Option Identity) (m : identity.Named s i.past q) where
      pub means_one : q ≡ None → Ok (Listed i.place) ≡ meant_by removal named (places_from 20 (body_of s))
      unfolding meant_by
      means_one g = rw (first_place s 20 r n i d, no_place s i.past q m g)

      pub means_second : (second : Identity) {v : Verdict} → q ≡ Some second → removal ≡ false → v ≡ fault_at 5009 second.place
          → Err v ≡ meant_by removal named (places_from 20 (body_of s))
      unfolding meant_by
      means_second second g e f = rw (first_place s 20 r n i d, first_place s i.past q m second g, e, f)

pub settle_start : (t : List ℕ) (count : ℕ) (s : List ℕ) (state : ℕ) (name : List ℕ)
    → after_of t count (reaches t (numbers_of (find_all t count (rest_of s 20)))) (settled state name)
    ≡ after_of t count (reaches t (numbers_of (find_all t count (identities (body_of s))))) (settled state name)
unfolding rest_of
settle_start t count s state name = refl

-- One record, found or not.
pub change_fits : (state : ℕ) (name : List ℕ) {c : Change} → c ≡ Settled state → Fitting state name → ChangeFits c name
change_fits state name e f = rw e f

module _ (t : List ℕ) (count : ℕ) (f : Option ℕ) (state : ℕ) (name : List ℕ) where
  pub found_settled : (k : ℕ) {c : Change} {y : List ℕ} → f ≡ Some k → c ≡ Settled state → y ≡ after_of t count (reaches t (k ∷ [])) (change_of c name)
      → y ≡ after_of t count (reaches t (numbers_of (f ∷ []))) (settled state name)
  unfolding numbers_of change_of
  found_settled k e g h = rw e (h ∙ rw g)

  pub found_none : SoundTable t count → f ≡ None → t ≡ after_of t count (reaches t (numbers_of (f ∷ []))) (settled state name)
  unfolding numbers_of
  found_none sound e = rw e (none_reached (settled state name) t count sound)

pub none_altered : (t : List ℕ) (count : ℕ) → 0 ≡ altered_up_to t t count
none_altered t count = sym (altered_none t count)

pub few_altered : (t y : List ℕ) (count : ℕ) {r : ℕ} → SoundTable t count → r ≡ altered_up_to t y count → r ≤ 4096
few_altered t y count sound e = omega (arith, e, altered_most t y count, sound_few t count sound)
