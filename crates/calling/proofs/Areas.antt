-- A call over an area: the table in it afterwards is the one that the call over the table leaves, what is behind it stays, and does not matter.
use Rattle.std.specs.Prelude.{Ok, Err, Result}
use Rattle.refusals.specs.declared.Refusal.{Refusal}
use Rattle.deciding.specs.declared.Told.{Told}
use Rattle.octets.specs.Standard.{ℕ, ◌+◌, ◌≤◌, Bool, true, false, ◌≡◌, refl, sym, ◌∙◌, ap, List, [], ◌++◌, append-nil, arith, leb, length, take, drop}
use Rattle.octets.specs.Standard.{length-append, length-take-le, drop_of_length-le, drop_at, leb-true, leb-false}
use Rattle.table.specs.Area.{size_in, table_in, check_area}
use Rattle.table.specs.Check.{check_table}
use Rattle.table.proofs.Areas.{in_first, in_length, in_rest, in_all, read_alike, read_front, sound_size_in}
use Rattle.table.proofs.Sound.{TableTests, table_says}
use Rattle.vectors.specs.VectorFile.{check_vectors}
use Rattle.reading.specs.declared.Terms.{Terms}
use Rattle.calling.specs.Call.{Refused}
use Rattle.calling.specs.Lent.{Lent, lent, holding, table_only, put_back}
use Rattle.refusals.specs.Early.{early_trials, check_value}
use Rattle.calling.specs.Serve.{Served, SameCall, file_trials, refused, answered, answered_by, check_of, decided}
use Rattle.calling.specs.Serve.{serve_found, serve_table_by, serve_table, over_area, serve}
use Rattle.refusals.specs.Trial.{tried, any_holds}
use Rattle.calling.specs.Leaves.{Leaves, Comes}
use Rattle.calling.proofs.Kept.{serve_by_lem, table_checked}
use Rattle.refusals.proofs.Trials.{tried_past}

-- A TABLE PUT BACK. It is as large as the one that was there: as many bytes, and as many by its count.
pub record AsLarge (t u : List ℕ) : Type 0 where
  pub bytes : length u ≡ length t
  pub counts : size_in u ≡ size_in t

module _ (area : List ℕ) where
  in_size : size_in (table_in area) ≡ size_in area
  unfolding size_in
  in_size = rw (in_first area)

  -- nothing is behind the table of an area that is no longer than it
  none_behind : length area ≤ size_in area → drop (length (table_in area)) area ≡ []
  none_behind h = rw (in_all area h) (drop_of_length-le area {i = length area} (omega arith))

  pub put_exact : (t : List ℕ) → length area ≤ size_in area → put_back area t ≡ t
  put_exact t h = ap (λ (s : List ℕ). t ++ s) (none_behind h) ∙ append-nil t

  pub put_same : put_back area (table_in area) ≡ area
  put_same = go (leb (size_in area) (length area)) refl
    where
      go : (b : Bool) → leb (size_in area) (length area) ≡ b → put_back area (table_in area) ≡ area
      go true e =
          ap (λ (n : ℕ). table_in area ++ drop n area) (in_length area (leb-true (size_in area) (length area) e)) ∙ in_rest area
      go false e =
          let h : length area ≤ size_in area = omega (arith, leb-false (size_in area) (length area) e) in
          put_exact (table_in area) h ∙ in_all area h

  module _ (t : List ℕ) (l : AsLarge (table_in area) t) where
    pub put_length : length (put_back area t) ≡ length area
    put_length =
        length-append t (drop (length (table_in area)) area) ∙ ap (λ (n : ℕ). n + length (drop (length (table_in area)) area)) l.bytes
        ∙ sym (length-append (table_in area) (drop (length (table_in area)) area)) ∙ ap length put_same

    pub put_rest : drop (length (table_in area)) (put_back area t) ≡ drop (length (table_in area)) area
    put_rest = drop_at t (drop (length (table_in area)) area) (length (table_in area)) l.bytes

    pub put_in : table_in (put_back area t) ≡ t
    put_in = go (leb (size_in area) (length area)) refl
      where
        same : size_in t ≡ size_in area
        same = l.counts ∙ in_size

        go : (b : Bool) → leb (size_in area) (length area) ≡ b → table_in (put_back area t) ≡ t
        go true e =
            read_front t (drop (length (table_in area)) area) (l.bytes ∙ in_length area (leb-true (size_in area) (length area) e) ∙ sym same)
        go false e =
            let h : length area ≤ size_in area = omega (arith, leb-false (size_in area) (length area) e) in
            let n : length (table_in area) ≡ length area = ap length (in_all area h) in
            ap table_in (put_exact t h) ∙ in_all t (omega (arith, l.bytes, n, same, h))

-- Two sound tables of so many records are as large.
sound_large : (t u : List ℕ) (file count : ℕ) → check_table t file ≡ Ok count → check_table u file ≡ Ok count → AsLarge t u
sound_large t u file count e f =
    let a : TableTests t file count = table_says t file count e in
    let b : TableTests u file count = table_says u file count f in
    let l : length u ≡ length t = omega (arith, a.size, b.size) in
    record { bytes = l; counts = sym (sound_size_in u file count f) ∙ l ∙ sound_size_in t file count e }

-- A CALL OVER A TABLE leaves one as large.
pub served_large : (x : Lent) → AsLarge x.table (serve_table x).table
unfolding refused answered_by
served_large x =
    serve_by_lem x (λ (s : Served). check_table s.table (length x.profile) ≡ check_of x → AsLarge x.table s.table)
    (λ r a b e. record { bytes = refl; counts = refl })
    (λ k e. sound_large x.table _ (length x.profile) (check_value (check_of x)) k.table (e ∙ k.table)) (table_checked x)

-- A CALL OVER AN AREA.
module _ (x : Lent) where
  large : AsLarge (table_in x.table) (serve_table (table_only x)).table
  large = served_large (table_only x)

  -- the table in the area afterwards, the area's length, and what is behind the table
  pub served_in : table_in (serve x).table ≡ (serve_table (table_only x)).table
  served_in = put_in x.table (serve_table (table_only x)).table large

  pub served_length : length (serve x).table ≡ length x.table
  served_length = put_length x.table (serve_table (table_only x)).table large

  pub served_rest : drop (length (table_in x.table)) (serve x).table ≡ drop (length (table_in x.table)) x.table
  served_rest = put_rest x.table (serve_table (table_only x)).table large

  pub served_stays : table_in (serve x).table ≡ table_in x.table → (serve x).table ≡ x.table
  served_stays e = ap (put_back x.table) (sym served_in ∙ e) ∙ put_same x.table

  -- what may be put behind another table of this area may be put behind any
  pub served_again : (t : List ℕ) → put_back (serve x).table t ≡ put_back x.table t
  served_again t =
      let n : length (table_in (serve x).table) ≡ length (table_in x.table) = ap length served_in ∙ large.bytes in
      ap (λ (s : List ℕ). t ++ s) (ap (λ (m : ℕ). drop m (serve x).table) n ∙ served_rest)

  -- one in which nothing is behind the table, as in one of the exact length, and in a sound table
  pub serve_exact : length x.table ≤ size_in x.table → serve x ≡ serve_table x
  serve_exact h =
      ap (λ (y : Lent). over_area x.table (serve_table y)) (ap (holding x) (in_all x.table h))
      ∙ ap (λ (t : List ℕ). record { call = (serve_table x).call; table = t; vectors = (serve_table x).vectors; buffer = (serve_table x).buffer })
      (put_exact x.table (serve_table x).table h)

  module _ (count : ℕ) (sound : check_of x ≡ Ok count) where
    pub sound_long : length x.table ≤ size_in x.table
    sound_long = omega (arith, sound_size_in x.table (length x.profile) count sound)

    pub only_sound : table_only x ≡ x
    only_sound = ap (holding x) (in_all x.table sound_long)

    pub serve_sound : serve x ≡ serve_table x
    serve_sound = serve_exact sound_long

  -- one that agrees up to the count: the same call, vectors and buffer, and the same table in it afterwards
  module _ (area : List ℕ) (same : take (size_in x.table) area ≡ take (size_in x.table) x.table) where
    only_alike : table_only (holding x area) ≡ table_only x
    only_alike = ap (holding x) (read_alike x.table area same)

    pub alike_call : SameCall (serve (holding x area)) (serve x)
    alike_call = record {
      call = ap (λ (y : Lent). (serve_table y).call) only_alike;
      vectors = ap (λ (y : Lent). (serve_table y).vectors) only_alike;
      buffer = ap (λ (y : Lent). (serve_table y).buffer) only_alike;
    }

  pub check_in_lem : check_area x.table (length x.profile) ≡ check_of (table_only x)
  unfolding check_area
  check_in_lem = refl

pub alike_table : (x : Lent) (area : List ℕ) → take (size_in x.table) area ≡ take (size_in x.table) x.table
    → table_in (serve (holding x area)).table ≡ table_in (serve x).table
alike_table x area same =
    served_in (holding x area) ∙ ap (λ (y : Lent). (serve_table y).table) (only_alike x area same) ∙ sym (served_in x)

-- A request that the first five refusals let pass over an area whose check answers a bad block: refusal 5 with that block, and everything as it came.
bad_table : (x : Lent) (k : ℕ) → any_holds (early_trials x.terms x.request x.buffer) ≡ false → check_of x ≡ Err k
    → serve_table x ≡ record { call = Refused 5 k; table = x.table; vectors = x.vectors; buffer = x.buffer }
unfolding serve_table_by serve_found tried refused
bad_table x k e f =
    tried_past (refused x) (answered x (decided x)) (early_trials x.terms x.request x.buffer)
    (file_trials (check_of x) (check_vectors x.vectors)) e ∙ rw f

pub bad_refused : (x : Lent) (k : ℕ) → any_holds (early_trials x.terms x.request x.buffer) ≡ false → check_area x.table (length x.profile) ≡ Err k
    → serve x ≡ record { call = Refused 5 k; table = x.table; vectors = x.vectors; buffer = x.buffer }
unfolding check_area
bad_refused x k e f = ap (over_area x.table) (bad_table (table_only x) k e f) ∙ rw (put_same x.table)

-- What the function that cuts the area leaves.
pub area_front : (n : ℕ) (area : List ℕ) → n ≤ length area → n ≡ length (take n area)
area_front n area h = sym (length-take-le n area h)

module _ (req area file v o : List ℕ) (terms : Terms) where
  abbrev x : Lent
  x = lent req area file v o terms

  pub area_serves : (n : ℕ) {count : ℕ} {r : Result Told Refusal} {t' v' o' : List ℕ} → take n area ≡ table_in area → n ≤ length area
      → Leaves (lent req (take n area) file v o terms) (serve_table (lent req (take n area) file v o terms)) count r t' v' o'
      → Comes (serve x) r (t' ++ drop n area) v' o'
  area_serves n {count} {r} {t'} {v'} {o'} e h l =
      let s : Leaves (table_only x) (serve_table (table_only x)) count r t' v' o' = rw e at l in
      let k : n ≡ length (table_in area) = sym (length-take-le n area h) ∙ ap length e in
      record {
        call_is = s.call_is;
        table_is = ap (λ (t : List ℕ). t ++ drop n area) s.table_is ∙ ap (λ (m : ℕ). (serve_table (table_only x)).table ++ drop m area) k;
        vectors_is = s.vectors_is;
        buffer_is = s.buffer_is;
      }
