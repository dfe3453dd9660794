-- The records of a table as rows: their block numbers, and what is left of a row by a name.
use Rattle.octets.specs.Standard.{ℕ, zero, suc, ◌≤◌, Bool, true, false, cond, ◌≡◌, refl, List, [], ◌∷◌, ◌++◌, map, arith, length}
use Rattle.octets.specs.Name.{same}
use Rattle.record.specs.RecordBlock.{record_of}
use Rattle.record.proofs.Tests.{Limits}
use Rattle.blocks.specs.Blocks.{block_of}
use Rattle.blocks.proofs.Blocks.{block_length}
use Rattle.table.specs.SoundTable.{SoundTable}
use Rattle.table.proofs.Sound.{sound_block, sound_limits_lem}
use Rattle.diameter.specs.Put.{All}
use Rattle.seen_alike.specs.Shown.{numbers_up_to, Each}
use Rattle.neighbour.specs.Seen.{records, having}

-- rows joined
pub all_join : {X : Type 0} (P : X → Type 0) (xs ys : List X) → All P xs → All P ys → All P (xs ++ ys)
all_join P [] ys a b = b
all_join P (x ∷ xs) ys a b = (a.0, all_join P xs ys a.1 b)

pub each_join : {X : Type 0} (R : X → X → Type 0) (xs ys us vs : List X) → Each R xs ys → Each R us vs → Each R (xs ++ us) (ys ++ vs)
each_join R [] [] us vs e f = f
each_join R [] (y ∷ ys) us vs e f = absurd e
each_join R (x ∷ xs) [] us vs e f = absurd e
each_join R (x ∷ xs) (y ∷ ys) us vs e f = (e.0, each_join R xs ys us vs e.1 f)

module _ (field : List ℕ → List ℕ) (name : List ℕ) where
  having_join : (bs cs : List (List ℕ)) → having field name (bs ++ cs) ≡ having field name bs ++ having field name cs
  unfolding having
  having_join [] cs = refl
  having_join (b ∷ bs) cs = rw (having_join bs cs) (go (same (field b) name))
    where
      go : (x : Bool) → cond x (b ∷ (having field name bs ++ having field name cs)) (having field name bs ++ having field name cs)
          ≡ cond x (b ∷ having field name bs) (having field name bs) ++ having field name cs
      go true = refl
      go false = refl

  map_join : (t : List ℕ) (js ks : List ℕ) → map (block_of t) (js ++ ks) ≡ map (block_of t) js ++ map (block_of t) ks
  map_join t [] ks = refl
  map_join t (j ∷ js) ks = rw (map_join t js ks)

  -- those with a name in a field, by their block numbers
  pub having_numbers : (t : List ℕ) (n : ℕ) → having field name (records t n) ≡ map (block_of t) (numbers_up_to (λ k. same (field (block_of t k)) name) n)
  unfolding having records numbers_up_to
  having_numbers t zero = refl
  having_numbers t (suc n) =
      rw (
        having_join (records t n) (block_of t (suc n) ∷ []),
        having_numbers t n,
        map_join t (numbers_up_to (λ k. same (field (block_of t k)) name) n) (cond (same (field (block_of t (suc n))) name) (suc n ∷ []) []),
      )
      (go (same (field (block_of t (suc n))) name))
    where
      go : (x : Bool) → map (block_of t) (numbers_up_to (λ k. same (field (block_of t k)) name) n) ++ cond x (block_of t (suc n) ∷ []) []
          ≡ map (block_of t) (numbers_up_to (λ k. same (field (block_of t k)) name) n) ++ map (block_of t) (cond x (suc n ∷ []) [])
      go true = refl
      go false = refl

  -- what holds of all holds of those
  pub having_all : (P : List ℕ → Type 0) (bs : List (List ℕ)) → All P bs → All P (having field name bs)
  unfolding having
  having_all P [] a = tt
  having_all P (b ∷ bs) a = go (same (field b) name) (having_all P bs a.1)
    where
      go : (x : Bool) → All P (having field name bs) → All P (cond x (b ∷ having field name bs) (having field name bs))
      go true next = (a.0, next)
      go false next = next

-- a sound record: its block is whole, and its names have room
pub record Roomy (b : List ℕ) : Type 0 where
  pub whole : length b ≡ 512
  pub limits : Limits (record_of b)

pub records_roomy : (t : List ℕ) (count : ℕ) → SoundTable t count → (n : ℕ) → n ≤ count → All Roomy (records t n)
unfolding records
records_roomy t count sound zero h = tt
records_roomy t count sound (suc n) h =
    all_join Roomy (records t n) (block_of t (suc n) ∷ []) (records_roomy t count sound n (omega arith))
    (record { whole = block_length t (suc n) (sound_block t count sound (suc n) h); limits = sound_limits_lem t count sound (suc n) (omega arith) h }, tt)
