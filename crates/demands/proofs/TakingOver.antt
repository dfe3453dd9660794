-- 02 [8], "Taking over a new table, radio or no radio.", over the calls: what a request gets before, between and after. What is written, and how the area then
-- checks, is in taking/proofs/Taking. A request that refusals 12 and 1 to 4 do not let pass is refused by them as ever.
use Rattle.std.specs.Prelude.{Ok, Err}
use Rattle.octets.specs.Standard.{ℕ, ◌<◌, ◌≤◌, Bool, false, ◌≡◌, sym, ap, ◌∙◌, subst, List, arith, length}
use Rattle.table.specs.Area.{size_in, table_in, check_area}
use Rattle.table.proofs.Areas.{in_all, sound_size_in}
use Rattle.calling.specs.Lent.{Lent, holding, table_only}
use Rattle.refusals.specs.Early.{early_trials}
use Rattle.calling.specs.Serve.{serve_table, serve}
use Rattle.refusals.specs.Trial.{any_holds}
use Rattle.calling.proofs.Areas.{bad_refused, served_in}
use Rattle.taking.specs.TakeOver.{take_over}
use Rattle.taking.specs.Torn.{AllChosen, FirstMissing, NoneWithin, FirstWithin, lower_block}
use Rattle.taking.specs.Written.{cut_after, torn_after}
use Rattle.demands.specs.TakingOver.{refusing, SameServed}
use Rattle.taking.proofs.Taking as taking

-- "or is refused": a request over an area whose check answers a bad block
pub refused_so : (x : Lent) (k : ℕ) → any_holds (early_trials x.terms x.request x.buffer) ≡ false → check_area x.table (length x.profile) ≡ Err k
    → serve x ≡ refusing x k
refused_so = bad_refused

-- two areas with the same table at the front
same_served : (x : Lent) (area other : List ℕ) → table_in area ≡ table_in other → SameServed (holding x area) (holding x other)
same_served x area other e =
    let q : table_only (holding x area) ≡ table_only (holding x other) = ap (holding x) e in
    record {
      same = record {
        call = ap (λ (y : Lent). (serve_table y).call) q;
        vectors = ap (λ (y : Lent). (serve_table y).vectors) q;
        buffer = ap (λ (y : Lent). (serve_table y).buffer) q;
      };
      table = served_in (holding x area) ∙ ap (λ (y : Lent). (serve_table y).table) q ∙ sym (served_in (holding x other));
    }

-- where a new table is taken over the area that is lent, beside the profile file that is lent; of the old area nothing is supposed
module _ (x : Lent) (fresh : List ℕ) (count : ℕ) (e : (take_over x.table fresh (length x.profile)).taken ≡ Ok count) where
  -- AFTER SUCCESS every request gets what it gets over the new table alone.
  pub after : SameServed (holding x (take_over x.table fresh (length x.profile)).area) (holding x fresh)
  after =
      same_served x (take_over x.table fresh (length x.profile)).area fresh
      (taking.reads_new x.table fresh (length x.profile) count e ∙ sym (in_all fresh (omega (arith, exact))))
    where
      exact : length fresh ≡ size_in fresh
      exact = sound_size_in fresh (length x.profile) count (taking.only_takes x.table fresh (length x.profile) count e).fit.checked

  module _ (passes : any_holds (early_trials x.terms x.request x.buffer) ≡ false) where
    -- IN BETWEEN, after the first k blocks, it is refused by 5 with block k, and leaves everything.
    pub between : (k : ℕ) → 0 < k → k ≤ count
        → serve (holding x (cut_after x.table fresh k)) ≡ refusing (holding x (cut_after x.table fresh k)) k
    between k a b =
        bad_refused (holding x (cut_after x.table fresh k)) k passes (taking.cut_between x.table fresh (length x.profile) count e k a b)

    -- And where a disk wrote the blocks in another order: block 0 is new, and the lowest that is not is the one answered;
    pub torn_missing : (chosen : ℕ → Bool) (k : ℕ) → FirstMissing chosen count k
        → serve (holding x (torn_after x.table fresh chosen)) ≡ refusing (holding x (torn_after x.table fresh chosen)) k
    torn_missing chosen k m =
        bad_refused (holding x (torn_after x.table fresh chosen)) k passes
        (taking.torn_missing x.table fresh (length x.profile) count e chosen k m)

    -- block 0 is old, and some block within its count is new: the lower of the lowest such and of the block that was bad before, if any, is answered.
    pub torn_within : (chosen : ℕ → Bool) (k : ℕ) → FirstWithin x.table chosen count k
        → serve (holding x (torn_after x.table fresh chosen))
        ≡ refusing (holding x (torn_after x.table fresh chosen)) (lower_block k (check_area x.table (length x.profile)))
    torn_within chosen k m =
        bad_refused (holding x (torn_after x.table fresh chosen)) (lower_block k (check_area x.table (length x.profile))) passes
        (taking.torn_within x.table fresh (length x.profile) count e chosen k m)

  -- All blocks are new, in whatever order they came: every request gets what it gets over the new table alone.
  pub torn_all : (chosen : ℕ → Bool) → AllChosen chosen count → SameServed (holding x (torn_after x.table fresh chosen)) (holding x fresh)
  torn_all chosen h =
      subst (λ (area : List ℕ). SameServed (holding x area) (holding x fresh))
      (sym (taking.torn_all x.table fresh (length x.profile) count e chosen h)) after

  -- Block 0 is old, and no block within its count is new: every request gets what it got before.
  pub torn_past : (chosen : ℕ → Bool) → NoneWithin x.table chosen count → SameServed (holding x (torn_after x.table fresh chosen)) x
  torn_past chosen h =
      same_served x (torn_after x.table fresh chosen) x.table (taking.torn_past x.table fresh (length x.profile) count e chosen h)
