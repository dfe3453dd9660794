-- What a request sees of a table, by the names of the fields; and when it sees the same of two tables, which may hold their records in other blocks and others
-- besides.
use Rattle.std.specs.Prelude.{ℕ, zero, suc, ◌<◌, ◌≤◌, ◌≡◌, Bool, cond, List, [], ◌∷◌, ◌++◌, ◌⊎◌, Option, Some, None}
use Rattle.record.specs.Fields.{keep_of, host_of, realm_of, networks_of, state_of, bits_of, roaming_of, server_size, public_of, private_of, server_of, mandatory_of}
use Rattle.record.specs.Fields.{optional_of, profile_of, set_of}
use Rattle.record.specs.Networks.{network_of}
use Rattle.blocks.specs.Blocks.{block_of}
use Rattle.table.specs.Named.{private_at}
use Rattle.lookup.specs.Find.{find_public, private_is}

-- two header blocks show the same
pub record SameHeader (b c : List ℕ) : Type 0 where
  pub keep : keep_of b ≡ keep_of c
  pub host : host_of b ≡ host_of c
  pub realm : realm_of b ≡ realm_of c
  pub networks : networks_of b ≡ networks_of c
  pub names : (i : ℕ) → i < networks_of b → network_of b i ≡ network_of c i

-- two record blocks do, each beside its profile file
pub record SameRecord (file other b c : List ℕ) : Type 0 where
  pub state : state_of b ≡ state_of c
  pub bits : bits_of b ≡ bits_of c
  pub roaming : roaming_of b ≡ roaming_of c
  pub size : server_size b ≡ server_size c
  pub public : public_of b ≡ public_of c
  pub private : private_of b ≡ private_of c
  pub server : server_of b ≡ server_of c
  pub mandatory : mandatory_of b ≡ mandatory_of c
  pub optional : optional_of b ≡ optional_of c
  pub profile : profile_of b file ≡ profile_of c other
  pub set : set_of b ≡ set_of c

-- the block numbers up to n that a test holds of, in table order
unfoldable pub numbers_up_to : (ℕ → Bool) → ℕ → List ℕ
numbers_up_to p zero = []
numbers_up_to p (suc n) = numbers_up_to p n ++ cond (p (suc n)) (suc n ∷ []) []

-- two rows are like each other one by one
abbrev pub Each : {X : Type 0} → (X → X → Type 0) → List X → List X → Type 0
Each Like [] [] = Unit
Each Like [] (y ∷ ys) = ⊥
Each Like (x ∷ xs) [] = ⊥
Each Like (x ∷ xs) (y ∷ ys) = Like x y × Each Like xs ys

-- two look-ups find nothing, or records that are like each other
abbrev pub FoundAlike : (ℕ → ℕ → Type 0) → Option ℕ → Option ℕ → Type 0
FoundAlike Like (Some j) (Some k) = Like j k
FoundAlike Like (Some j) None = ⊥
FoundAlike Like None (Some k) = ⊥
FoundAlike Like None None = Unit

-- two block numbers are 0, which is no record, or those of such records
abbrev pub BlockAlike : (ℕ → ℕ → Type 0) → ℕ → ℕ → Type 0
BlockAlike Like j k = ((j ≡ 0) × (k ≡ 0)) ⊎ Like j k

-- Who asks for these public and private identities sees the same of the tables t and u of so many records: the header, the record of each public identity or
-- that there is none, and the records of each private identity in table order; the owners of records that are found are among those asked for. `Like j k` says
-- that record j of t and record k of u are to be seen as one.
pub record SameSight (file other t u : List ℕ) (count many : ℕ) (Like : ℕ → ℕ → Type 0) (Public Private : List ℕ → Type 0) : Type 0 where
  pub header : SameHeader (block_of t 0) (block_of u 0)
  pub shown : (j k : ℕ) → Like j k → SameRecord file other (block_of t j) (block_of u k)
  pub first : (j k : ℕ) → Like j k → 1 ≤ j
  pub second : (j k : ℕ) → Like j k → 1 ≤ k
  pub found : (name : List ℕ) → Public name → FoundAlike Like (find_public t count name) (find_public u many name)
  pub owned : (name : List ℕ) → Private name → Each Like (numbers_up_to (private_is t name) count) (numbers_up_to (private_is u name) many)
  pub owner : (name : List ℕ) → Public name → (k : ℕ) → find_public t count name ≡ Some k → Private (private_at t k)
