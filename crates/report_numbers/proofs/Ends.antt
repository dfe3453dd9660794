-- How a report ends: by 0, 7 or 15.
use Rattle.octets.specs.Standard.{ℕ, ◌+◌, ◌≤◌, ◌<◌, List, [], ◌++◌, append-nil, Bool, true, false, cond, ◌≡◌, refl, sym, ap, ◌∙◌, arith, length, drop}
use Rattle.octets.specs.Standard.{length-append, take_all, eqb, ltb, lt-ltb, le-ltb, eq-eqb, eqb-true, eqb-false, ltb-true}
use Rattle.diameter.specs.Put.{All}
use Rattle.calling.specs.Lent.{Lent}
use Rattle.reporting.specs.Pieces.{broken, pieces, stop_of}
use Rattle.reporting.specs.Report.{requests_of, ended, ran, reported_table}
use Rattle.report_numbers.specs.File.{OneRequest, end_to_end, BrokenOff}
use Rattle.report_numbers.proofs.Cut.{empty_broken, pieces_end, total_joined, stop_broken, stop_within, rest_length, broken_by, breaks_broken}
use Rattle.report_numbers.proofs.Cut.{cut_pieces, cut_stop}

module _ (x : Lent) (area : List ℕ) where
  pub area_short : length area < 1160
      → reported_table x area ≡ record { number = 15; table = x.table; vectors = x.vectors; buffer = x.buffer; area = area }
  unfolding reported_table
  area_short h = rw (lt-ltb (length area) 1160 h)

  pub area_long : 1160 ≤ length area → reported_table x area ≡ ran x area
  unfolding reported_table
  area_long h = rw (le-ltb (length area) 1160 h)

-- each number exactly under its condition
module _ (x : Lent) (area : List ℕ) where
  abbrev s : List ℕ
  s = x.request

  number_is : (reported_table x area).number ≡ cond (ltb (length area) 1160) 15 (cond (eqb (stop_of s) (length s)) 0 7)
  unfolding reported_table ran ended
  number_is = go (ltb (length area) 1160)
    where
      go : (b : Bool)
          → (cond b (record { number = 15; table = x.table; vectors = x.vectors; buffer = x.buffer; area = area }) (ran x area)).number
          ≡ cond b 15 (cond (eqb (stop_of s) (length s)) 0 7)
      go true = refl
      go false = refl

  pub fifteen : eqb (reported_table x area).number 15 ≡ ltb (length area) 1160
  fifteen = rw number_is (go (ltb (length area) 1160) (eqb (stop_of s) (length s)))
    where
      go : (b c : Bool) → eqb (cond b 15 (cond c 0 7)) 15 ≡ b
      go true c = refl
      go false true = refl
      go false false = refl

  module _ (room : 1160 ≤ length area) where
    pub zero_exactly : eqb (reported_table x area).number 0 ≡ eqb (stop_of s) (length s)
    zero_exactly = rw (number_is, le-ltb (length area) 1160 room) (go (eqb (stop_of s) (length s)))
      where
        go : (c : Bool) → eqb (cond c 0 7) 0 ≡ c
        go true = refl
        go false = refl

    pub seven_exactly : eqb (reported_table x area).number 7 ≡ ltb (stop_of s) (length s)
    seven_exactly = rw (number_is, le-ltb (length area) 1160 room) (go (eqb (stop_of s) (length s)) refl)
      where
        go : (c : Bool) → eqb (stop_of s) (length s) ≡ c → eqb (cond c 0 7) 7 ≡ ltb (stop_of s) (length s)
        go true e = sym (le-ltb (stop_of s) (length s) (omega (arith, eqb-true (stop_of s) (length s) e)))
        go false e =
            let n : stop_of s ≡ length s → ⊥ = eqb-false (stop_of s) (length s) e in
            sym (lt-ltb (stop_of s) (length s) (omega (arith, stop_within s)))

    pub zero_stop : (reported_table x area).number ≡ 0 → stop_of s ≡ length s
    zero_stop e = eqb-true (stop_of s) (length s) (sym zero_exactly ∙ eq-eqb (reported_table x area).number 0 e)

    pub stop_zero : stop_of s ≡ length s → (reported_table x area).number ≡ 0
    stop_zero e = eqb-true (reported_table x area).number 0 (zero_exactly ∙ eq-eqb (stop_of s) (length s) e)

    -- 0: the requests are the whole file
    pub zero_file : (reported_table x area).number ≡ 0 → end_to_end (requests_of x) ≡ s
    zero_file e = pieces_end s ∙ take_all (stop_of s) s (omega (arith, zero_stop e))

    pub file_zero : end_to_end (requests_of x) ≡ s → (reported_table x area).number ≡ 0
    file_zero e = stop_zero (sym (total_joined (pieces s)) ∙ ap length e)

    -- 7: what is left breaks
    pub seven_breaks : (reported_table x area).number ≡ 7 → BrokenOff (drop (stop_of s) s)
    seven_breaks e =
        let l : stop_of s < length s = ltb-true (stop_of s) (length s) (sym seven_exactly ∙ eq-eqb (reported_table x area).number 7 e) in
        broken_by (drop (stop_of s) s) (omega (arith, rest_length s, l)) (stop_broken s)

    pub left_seven : stop_of s < length s → (reported_table x area).number ≡ 7
    left_seven l = eqb-true (reported_table x area).number 7 (seven_exactly ∙ lt-ltb (stop_of s) (length s) l)

    -- requests laid end to end, and then what breaks; or nothing more
    module _ (ps : List (List ℕ)) (all : All OneRequest ps) (rest : List ℕ) (is : s ≡ end_to_end ps ++ rest) where
      pub breaks_seven : BrokenOff rest → (requests_of x ≡ ps) × (stop_of s ≡ length (end_to_end ps)) × ((reported_table x area).number ≡ 7)
      breaks_seven b =
          let e = breaks_broken rest b in
          let c : stop_of s ≡ length (end_to_end ps) = ap stop_of is ∙ cut_stop ps all rest e in
          let l : length s ≡ length (end_to_end ps) + length rest = ap length is ∙ length-append (end_to_end ps) rest in
          (ap pieces is ∙ cut_pieces ps all rest e, c, left_seven (omega (arith, c, l, b.some)))

    pub requests_zero : (ps : List (List ℕ)) → All OneRequest ps → s ≡ end_to_end ps → (requests_of x ≡ ps) × ((reported_table x area).number ≡ 0)
    requests_zero ps all is =
        let e : broken [] ≡ true = empty_broken [] (omega arith) in
        let f : s ≡ end_to_end ps ++ [] = is ∙ sym (append-nil (end_to_end ps)) in
        (ap pieces f ∙ cut_pieces ps all [] e, stop_zero (ap stop_of f ∙ cut_stop ps all [] e ∙ ap length (sym is)))
