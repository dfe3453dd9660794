-- Two calls that have in common what 02 [9] asks see the same of their tables.
use Rattle.std.specs.Prelude.{Some}
use Rattle.octets.specs.Standard.{ℕ, true, ◌≡◌, List, [], ◌∷◌, map}
use Rattle.octets.specs.Name.{same}
use Rattle.record.specs.Fields.{public_of, private_of}
use Rattle.blocks.specs.Blocks.{block_of}
use Rattle.table.specs.Area.{table_in}
use Rattle.table.specs.Named.{public_at, private_at}
use Rattle.table.specs.SoundTable.{SoundTable}
use Rattle.lookup.specs.Find.{public_is, find_public, private_is}
use Rattle.diameter.specs.Avp.{data_of}
use Rattle.diameter.specs.Message.{body_of}
use Rattle.diameter.specs.Put.{All}
use Rattle.reading.specs.Kinds.{user_name}
use Rattle.reading.specs.Rules.{Seen}
use Rattle.reading.specs.declared.Dialect.{Dialect}
use Rattle.requests.specs.Judged.{fine}
use Rattle.requests.specs.Request.{read_in, given, data_seen, identities}
use Rattle.calling.specs.Lent.{Lent, dialect_in}
use Rattle.seen_alike.specs.Shown.{SameSight, numbers_up_to, Each, FoundAlike}
use Rattle.seen_alike.proofs.Rows.{first_each, first_all}
use Rattle.seen_alike.proofs.Plans.{Asks}
use Rattle.neighbour.specs.Seen.{having, records_of, users_in, SameHaving, SameSeen}
use Rattle.neighbour.proofs.Records.{having_numbers}
use Rattle.neighbour.proofs.Lines.{LineAt, line_rows, line_roomy, line_shows, header_shows}
use Rattle.neighbour.proofs.Named.{taken_among}

module _ (x y : Lent) (count many : ℕ) (first : SoundTable (table_in x.table) count) (second : SoundTable (table_in y.table) many) where
  abbrev t : List ℕ
  t = table_in x.table

  abbrev u : List ℕ
  u = table_in y.table

  -- two records are the same line
  abbrev pub Like : ℕ → ℕ → Type 0
  Like = LineAt t u x.profile y.profile count many

  -- the records with a name in a field, by their numbers
  same_rows : (field : List ℕ → List ℕ) (name : List ℕ) → SameHaving x y count many field name
      → Each Like (numbers_up_to (λ k. same (field (block_of t k)) name) count) (numbers_up_to (λ k. same (field (block_of u k)) name) many)
  same_rows = line_rows t u x.profile y.profile count many

  -- what is asked for
  abbrev Private : List ℕ → Type 0
  Private name = Each Like (numbers_up_to (private_is t name) count) (numbers_up_to (private_is u name) many)

  abbrev Public : List ℕ → Type 0
  Public name = FoundAlike Like (find_public t count name) (find_public u many name) × ((k : ℕ) → find_public t count name ≡ Some k → Private (private_at t k))

  is_private : (name : List ℕ) → SameHaving x y count many private_of name → Private name
  unfolding private_is private_at
  is_private name e = same_rows private_of name e

  all_blocks : (P : List ℕ → Type 0) (ks : List ℕ) → All P (map (block_of t) ks) → All (λ (k : ℕ). P (block_of t k)) ks
  all_blocks P [] a = tt
  all_blocks P (k ∷ ks) a = (a.0, all_blocks P ks a.1)

  -- the owners of the records of a public identity
  abbrev Owners : List ℕ → Type 0
  Owners name = All (λ (b : List ℕ). SameHaving x y count many private_of (private_of b)) (having public_of name (records_of x count))

  is_public : (name : List ℕ) → SameHaving x y count many public_of name → Owners name → Public name
  unfolding find_public public_is public_at private_at
  is_public name e own = (
    first_each Like (public_is t name) (public_is u name) count many (same_rows public_of name e),
    λ k f.
        is_private (private_at t k)
        (first_all (λ (j : ℕ). SameHaving x y count many private_of (private_of (block_of t j))) (public_is t name) count k
        (all_blocks (λ (b : List ℕ). SameHaving x y count many private_of (private_of b)) (numbers_up_to (public_is t name) count)
        (rw (having_numbers public_of name t count) at own))
        f),
  )

  are_public : (avps : List (List ℕ)) → All (SameHaving x y count many public_of) (map data_of avps) → All Owners (map data_of avps)
      → All (λ (a : List ℕ). Public (data_of a)) avps
  are_public [] p o = tt
  are_public (a ∷ avps) p o = (is_public (data_of a) p.0 o.0, are_public avps p.1 o.1)

  module _ (same : SameSeen x y count many) where
    pub same_sight : SameSight x.profile y.profile t u count many Like Public Private
    same_sight =
        record {
          header = header_shows t u count many first second same.header;
          shown =
              λ j k l.
              line_shows x.profile y.profile (block_of t j) (block_of u k) l.2 (line_roomy t count first j l.0) (line_roomy u many second k l.1);
          first = λ j k l. l.0.0;
          second = λ j k l. l.1.0;
          found = λ name p. p.0;
          owned = λ name p. p;
          owner = λ name p. p.1;
        }

    -- what the request asks for is what they have in common
    pub same_asks : (seen : Seen) → read_in (dialect_in x) x.request ≡ fine seen → Asks (dialect_in x) x.request seen Public Private
    same_asks seen e = record { one = λ n. taken_among d x.request seen e n Public publics; all = λ c. publics; user = user }
      where
        d : Dialect
        d = dialect_in x

        publics : All (λ (a : List ℕ). Public (data_of a)) (identities (body_of x.request))
        publics = are_public (identities (body_of x.request)) (rw e at same.publics) (rw e at same.owners)

        users : All (SameHaving x y count many private_of) (users_in (fine seen))
        users = rw e at same.users

        user : given seen user_name ≡ true → Private (data_seen seen user_name)
        user g = is_private (data_seen seen user_name) (rw g at users).0
