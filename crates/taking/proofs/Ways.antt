-- What the functions find and what each way through them leaves.
use Rattle.std.specs.Prelude.{Result, Ok, Err}
use Rattle.octets.specs.Standard.{ℕ, ◌+◌, ◌*◌, ◌/◌, ◌<◌, ◌≤◌, Bool, true, false, ◌||◌, not, true≢false, ◌≡◌, refl, sym, ◌∙◌, ap, List, arith, eqb}
use Rattle.octets.specs.Standard.{ltb, length, get_or, lt-ltb, le-ltb}
use Rattle.octets.specs.All.{all_below}
use Rattle.octets.proofs.All.{all_more, all_at}
use Rattle.octets.specs.Number.{be32_at}
use Rattle.octets.specs.Run.{over}
use Rattle.record.specs.HeaderBlock.{header_of}
use Rattle.record.specs.declared.header.Header.{Header}
use Rattle.blocks.specs.Blocks.{block_of}
use Rattle.table.specs.Check.{check_table}
use Rattle.table.proofs.Sound.{TableTests, table_says}
use Rattle.taking.specs.Found.{greater_at, greater_than_all}
use Rattle.taking.specs.TakeOver.{is_sound, unfit, not_greater, too_short, came, take_over}
use Rattle.taking.specs.TakeOver.{refused}
use Rattle.taking.proofs.Conditions.{not_true, not_false}

-- The issue of a block; the end of the loop over all whole blocks.
pub greater_here : (area : List ℕ) (issue k : ℕ) {b : List ℕ} {n : ℕ} → b ≡ block_of area k → n ≡ be32_at b 408
    → (not (eqb (get_or b 0 0) 1 || eqb (get_or b 0 0) 2) || ltb n issue) ≡ greater_at area issue k
unfolding greater_at
greater_here area issue k e f = rw (f, e)

pub greater_more : (area : List ℕ) (issue k : ℕ) {x : Bool} → true ≡ all_below (greater_at area issue) k → x ≡ greater_at area issue k → x ≡ true
    → true ≡ all_below (greater_at area issue) (k + 1)
greater_more area issue k a e f = sym f ∙ all_more (greater_at area issue) k a e

pub greater_stop : (area : List ℕ) (issue k blocks : ℕ) {x : Bool} → blocks ≡ length area / 512 → k < blocks → x ≡ greater_at area issue k → x ≡ false
    → false ≡ greater_than_all area issue
unfolding greater_than_all
greater_stop area issue k blocks e h f g = go (all_below (greater_at area issue) (length area / 512)) refl
  where
    go : (y : Bool) → all_below (greater_at area issue) (length area / 512) ≡ y → false ≡ all_below (greater_at area issue) (length area / 512)
    go true i = absurd (true≢false (sym (all_at (greater_at area issue) (length area / 512) i k (omega arith)) ∙ sym f ∙ g))
    go false i = sym i

pub greater_end : (area : List ℕ) (issue k blocks : ℕ) {x : Bool} → blocks ≡ length area / 512 → k ≤ blocks → x ≡ all_below (greater_at area issue) k
    → blocks ≤ k → x ≡ greater_than_all area issue
unfolding greater_than_all
greater_end area issue k blocks e a f b = let q : k ≡ length area / 512 = omega arith in f ∙ ap (all_below (greater_at area issue)) q

-- The new table, by what its check said.
module _ (fresh : List ℕ) (file : ℕ) {c : Result ℕ ℕ} (e : c ≡ check_table fresh file) where
  pub checked_first : (n : ℕ) → c ≡ Ok n → 512 * 0 + 512 ≤ length fresh
  checked_first n f = omega (arith, (table_says fresh file n (sym e ∙ f)).size)

  pub unfit_sound : (n : ℕ) {b : List ℕ} {h : Header} → c ≡ Ok n → b ≡ block_of fresh 0 → h ≡ header_of b → eqb h.edition 1 ≡ unfit fresh file
  unfolding unfit header_of
  unfit_sound n f at is = let s : check_table fresh file ≡ Ok n = sym e ∙ f in rw (s, is, at)

  pub unfit_bad : (k : ℕ) → c ≡ Err k → true ≡ unfit fresh file
  unfolding unfit
  unfit_bad k f = let s : check_table fresh file ≡ Err k = sym e ∙ f in rw s

-- A new table that is fit was found sound.
module _ (fresh : List ℕ) (file : ℕ) (fit : unfit fresh file ≡ false) where
  pub fit_tests : TableTests fresh file (header_of (block_of fresh 0)).count
  unfolding unfit
  fit_tests = go (check_table fresh file) refl fit
    where
      go : (c : Result ℕ ℕ) → check_table fresh file ≡ c → (not (is_sound c) || eqb (get_or (block_of fresh 0) 1 0) 1) ≡ false
          → TableTests fresh file (header_of (block_of fresh 0)).count
      go (Ok n) f g = let s : TableTests fresh file n = table_says fresh file n f in rw s.counted s
      go (Err k) f g = absurd (true≢false g)

module _ (fresh : List ℕ) (file : ℕ) {x : Bool} (e : x ≡ unfit fresh file) (no : x ≡ false) where
  pub fit_first : 512 * 0 + 512 ≤ length fresh
  fit_first = omega (arith, (fit_tests fresh file (sym e ∙ no)).size)

  pub fit_size : {b : List ℕ} {h : Header} → b ≡ block_of fresh 0 → h ≡ header_of b → length fresh ≡ 512 * (h.count + 1)
  fit_size at is = rw (is, at) (fit_tests fresh file (sym e ∙ no)).size

  -- what is tried after it
  module _ (area b : List ℕ) {h : Header} {y : Bool} (at : b ≡ block_of fresh 0) (is : h ≡ header_of b) (g : y ≡ greater_than_all area h.issue) where
    issue_is : greater_than_all area (header_of (block_of fresh 0)).issue ≡ y
    issue_is = sym (ap (λ (z : Header). greater_than_all area z.issue) (is ∙ ap header_of at)) ∙ sym g

    pub over_not : not y ≡ true → came (refused 10) area ≡ take_over area fresh file
    unfolding take_over not_greater header_of
    over_not f =
        let u : unfit fresh file ≡ false = sym e ∙ no in
        let v : greater_than_all area (header_of (block_of fresh 0)).issue ≡ false = issue_is ∙ not_true y f in
        rw (u, v)

    pub over_short : not y ≡ false → length area < length fresh → came (refused 11) area ≡ take_over area fresh file
    unfolding take_over not_greater too_short header_of
    over_short f l =
        let u : unfit fresh file ≡ false = sym e ∙ no in
        let v : greater_than_all area (header_of (block_of fresh 0)).issue ≡ true = issue_is ∙ not_false y f in
        rw (u, v, lt-ltb (length area) (length fresh) l)

    pub over_done : {z : List ℕ} → not y ≡ false → length fresh ≤ length area → z ≡ over fresh area → came (Ok h.count) z ≡ take_over area fresh file
    unfolding take_over not_greater too_short header_of
    over_done f l w =
        let u : unfit fresh file ≡ false = sym e ∙ no in
        let v : greater_than_all area (header_of (block_of fresh 0)).issue ≡ true = issue_is ∙ not_false y f in
        rw (u, v, le-ltb (length area) (length fresh) l, w, is, at)

pub over_unfit : (area fresh : List ℕ) (file : ℕ) {x : Bool} → x ≡ unfit fresh file → x ≡ true → came (refused 9) area ≡ take_over area fresh file
unfolding take_over
over_unfit area fresh file e f = let u : unfit fresh file ≡ true = sym e ∙ f in rw u
