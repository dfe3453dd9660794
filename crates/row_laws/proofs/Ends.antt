-- How a row ends, and how many of its requests have a word.
use Rattle.octets.specs.Standard.{ℕ, ◌+◌, ◌-◌, ◌*◌, ◌≤◌, ◌<◌, List, ◌∷◌, ◌++◌, Bool, true, false, cond, ◌||◌, true≢false, ◌≡◌, refl, sym, ◌∙◌}
use Rattle.octets.specs.Standard.{◌⊎◌, inl, inr, arith, length, drop, take_all, length-take-le, length-drop, length-replicate, replicate, eqb, ltb}
use Rattle.octets.specs.Standard.{eqb-true, ltb-true, ltb-false, eq-eqb, ne_eqb}
use Rattle.calling.specs.Lent.{Lent, table_only}
use Rattle.reporting.specs.Pieces.{stop_of}
use Rattle.reporting.specs.Report.{requests_of, ended, ran, reported}
use Rattle.report_numbers.specs.File.{end_to_end, BrokenOff}
use Rattle.report_numbers.specs.Turns.{InTurn}
use Rattle.report_numbers.proofs.Ends.{area_long}
use Rattle.report_numbers.proofs.Numbers.{report_0_file, report_7_breaks}
use Rattle.row_of_calls.specs.Row.{Rowed, no_room, ends, rowed}
use Rattle.row_laws.specs.Turns.{served_of, lent_after, lent_to, written, behind}
use Rattle.row_laws.proofs.Calls.{after_buffer}
use Rattle.row_laws.proofs.Folds.{Room, Roomy, row_closed, served_few, served_most, all_ends, left_ends, served_roomy, roomy_at}

-- THE FILE'S END, by a report over the file: it ends by 0 or 7.
ended_is : (s : List ℕ) → (ended s ≡ 0) ⊎ (ended s ≡ 7)
unfolding ended
ended_is s = go (eqb (stop_of s) (length s))
  where
    go : (b : Bool) → (◌≡◌ {A = ℕ} (cond b 0 7) 0) ⊎ (◌≡◌ {A = ℕ} (cond b 0 7) 7)
    go true = inl refl
    go false = inr refl

module _ (x : Lent) where
  abbrev pub area : List ℕ
  area = replicate 1160 0

  pub area_room : 1160 ≤ length area
  area_room = let e : length area ≡ 1160 = length-replicate {A = ℕ} 1160 0 in omega (arith, e)

  pub ended_report : (reported x area).number ≡ ended x.request
  unfolding ran
  ended_report = rw (area_long (table_only x) area area_room)

  pub zero_file : ended x.request ≡ 0 → end_to_end (requests_of x) ≡ x.request
  zero_file e = report_0_file x area area_room (ended_report ∙ e)

  pub seven_breaks : ended x.request ≡ 7 → BrokenOff (drop (stop_of x.request) x.request)
  seven_breaks e = report_7_breaks x area area_room (ended_report ∙ e)

module _ (x : Lent) (words : List ℕ) where
  abbrev limit : ℕ
  limit = 4294967295

  abbrev out : Rowed
  out = rowed x words

  -- HOW MANY
  pub row_few : out.served ≤ length (requests_of x)
  row_few = served_few (ended x.request) x words limit (requests_of x)

  pub row_limit : out.served ≤ 4294967295
  row_limit = served_most (ended x.request) x words limit (requests_of x)

  pub served_count : length (served_of x words) ≡ out.served
  served_count = length-take-le out.served (requests_of x) row_few

  -- WHAT IT COMES TO
  pub row_is : out ≡ behind x (served_of x words) (ends out.number (lent_after x (served_of x words)) (drop (8 * out.served) words))
  row_is = row_closed (ended x.request) x words limit (requests_of x)

  pub row_roomy : Roomy x words limit (served_of x words)
  row_roomy = served_roomy (ended x.request) x words limit (requests_of x)

  pub turn_room : (p : InTurn (served_of x words))
      → Room (length (lent_to x p).buffer) (length (drop (8 * length p.before) words)) (limit - length p.before)
  turn_room p =
      let r : Roomy x words limit (p.before ++ (p.request ∷ p.after)) = rw (← p.is) row_roomy in
      roomy_at x words limit p.before p.request p.after r

  -- HOW IT ENDS
  pub whole_ends : out.served ≡ length (requests_of x) → out.number ≡ ended x.request
  whole_ends = all_ends (ended x.request) x words limit (requests_of x)

  abbrev Lacks : Type 0
  Lacks = (length (lent_after x (served_of x words)).buffer < 36864) ⊎ ((length words < 8 * out.served + 8) ⊎ (out.served ≡ 4294967295))

  lacks : (a w m : ℕ) → no_room a w m ≡ true → (a < 36864) ⊎ ((w < 8) ⊎ (m ≡ 0))
  lacks a w m = go (ltb a 36864) (ltb w 8) (eqb m 0) refl refl refl
    where
      go : (b c d : Bool) → ltb a 36864 ≡ b → ltb w 8 ≡ c → eqb m 0 ≡ d → (b || (c || d)) ≡ true → (a < 36864) ⊎ ((w < 8) ⊎ (m ≡ 0))
      go true c d e f g h = inl (ltb-true a 36864 e)
      go false true d e f g h = inr (inl (ltb-true w 8 f))
      go false false true e f g h = inr (inr (eqb-true m 0 g))
      go false false false e f g h = absurd (true≢false (sym h))

  pub rest_ends : out.served < length (requests_of x) → (out.number ≡ 15) × Lacks
  rest_ends h =
      let l = left_ends (ended x.request) x words limit (requests_of x) h in
      (l.0, go (lacks (length (lent_after x (served_of x words)).buffer) (length (drop (8 * out.served) words)) (limit - out.served) l.1))
    where
      n : ℕ
      n = out.served

      go : (length (lent_after x (served_of x words)).buffer < 36864) ⊎ ((length (drop (8 * n) words) < 8) ⊎ (limit - n ≡ 0)) → Lacks
      go (inl a) = inl a
      go (inr (inl w)) = inr (inl (omega (arith, w, length-drop (8 * n) words)))
      go (inr (inr m)) = inr (inr (omega (arith, m, row_limit)))

  -- 15 exactly if some are left; 0 and 7 if none are
  pub row_fifteen : eqb out.number 15 ≡ ltb out.served (length (requests_of x))
  row_fifteen = go (ltb out.served (length (requests_of x))) refl
    where
      whole : ltb out.served (length (requests_of x)) ≡ false → eqb out.number 15 ≡ false
      whole e =
          let n : out.number ≡ ended x.request = whole_ends (omega (arith, row_few, ltb-false out.served (length (requests_of x)) e)) in
          rw n (other (ended_is x.request))
        where
          other : (ended x.request ≡ 0) ⊎ (ended x.request ≡ 7) → eqb (ended x.request) 15 ≡ false
          other (inl f) = rw f
          other (inr f) = rw f

      go : (b : Bool) → ltb out.served (length (requests_of x)) ≡ b → eqb out.number 15 ≡ b
      go true e = eq-eqb out.number 15 (rest_ends (ltb-true out.served (length (requests_of x)) e)).0
      go false e = whole e

  -- where it does not end by 15, all have a word
  pub ended_whole : (n : ℕ) → n < 15 → out.number ≡ n → (out.served ≡ length (requests_of x)) × (ended x.request ≡ n)
  ended_whole n h e =
      let b : ltb out.served (length (requests_of x)) ≡ false = sym row_fifteen ∙ ne_eqb out.number 15 (λ f. omega (arith, e, f, h)) in
      let w : out.served ≡ length (requests_of x) = omega (arith, row_few, ltb-false out.served (length (requests_of x)) b) in
      (w, sym (whole_ends w) ∙ e)

  pub three_numbers : (out.number ≡ 0) ⊎ ((out.number ≡ 7) ⊎ (out.number ≡ 15))
  three_numbers = go (ltb out.served (length (requests_of x))) refl
    where
      whole : (ended x.request ≡ 0) ⊎ (ended x.request ≡ 7) → out.number ≡ ended x.request
          → (out.number ≡ 0) ⊎ ((out.number ≡ 7) ⊎ (out.number ≡ 15))
      whole (inl e) n = inl (n ∙ e)
      whole (inr e) n = inr (inl (n ∙ e))

      go : (b : Bool) → ltb out.served (length (requests_of x)) ≡ b → (out.number ≡ 0) ⊎ ((out.number ≡ 7) ⊎ (out.number ≡ 15))
      go true e = inr (inr (rest_ends (ltb-true out.served (length (requests_of x)) e)).0)
      go false e = whole (ended_is x.request) (whole_ends (omega (arith, row_few, ltb-false out.served (length (requests_of x)) e)))

  -- what a row that ends by 15 lacks
  pub fifteen_lacks : out.number ≡ 15
      → (length (drop (written x words) x.buffer) < 36864) ⊎ ((length words < 8 * out.served + 8) ⊎ (out.served ≡ 4294967295))
  fifteen_lacks e =
      let h : out.served < length (requests_of x) = ltb-true _ _ (sym row_fifteen ∙ eq-eqb out.number 15 e) in
      rw (← after_buffer x (served_of x words)) (rest_ends h).1

  pub all_served : out.served ≡ length (requests_of x) → served_of x words ≡ requests_of x
  all_served e = take_all out.served (requests_of x) (omega (arith, e))
