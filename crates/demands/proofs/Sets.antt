-- 02 [6], "Registering one registers the set, and the barring rule was wrong.", sentence by sentence: the statements alone, each by the law that has its
-- proof. What the words below mean is in specs/Sets; what the rules were before is in older_rules/specs/WithoutSets. A call is over an area, `a`, and goes by
-- the table at its front (`promised` in proofs/Demands): `table_in a.table`, or all that is lent with it alone, `table_only a`.
use Rattle.std.specs.Prelude.{Ok, Err}
use Rattle.octets.specs.Standard.{ℕ, ◌<◌, ◌≤◌, true, false, true≢false, ◌≡◌, sym, ap, ◌∙◌, ◌⊎◌, ◌≢◌, ◌↔◌, List, ◌++◌, length, get_or}
use Rattle.record.specs.Fields.{edition_of, bits_of, barred}
use Rattle.record.specs.Sets.{same_set}
use Rattle.blocks.specs.Blocks.{block_of}
use Rattle.table.specs.Named.{private_at}
use Rattle.table.specs.Area.{table_in, check_area}
use Rattle.table.specs.Check.{check_table}
use Rattle.rewrite.specs.Change.{differ}
use Rattle.diameter.specs.Message.{command_of}
use Rattle.reading.specs.Kinds.{user_name, public_identity, visited_network, authorization_type}
use Rattle.reading.specs.Rules.{Seen}
use Rattle.reading.specs.declared.Outcome.TheVariants.{Base, Experimental}
use Rattle.requests.specs.Request.{data_seen, value_seen}
use Rattle.choices.specs.Choices.{authorization}
use Rattle.questions.specs.Authorization.{asked_at}
use Rattle.questions.specs.Carried.{carried}
use Rattle.calling.specs.Call.{Refused}
use Rattle.calling.specs.Lent.{Lent, asking, table_only, dialect_in}
use Rattle.refusals.specs.Early.{check_value, early_trials}
use Rattle.calling.specs.Serve.{check_of, decided, result_of, over_area, serve_by, serve}
use Rattle.refusals.specs.Trial.{any_holds}
use Rattle.calling.proofs.Areas.{served_in}
use Rattle.calling.proofs.Kept.{table_checked}
use Rattle.ndushavire.specs.Reads.{ReadsCheck}
use Rattle.ndushavire.specs.Promise.{CheckPromise}
use Rattle.older_rules.specs.WithoutSets.{NoSets, before_sets}
use Rattle.demands.specs.Call.{Decides}
use Rattle.demands.specs.Sets.{Shares, Agrees, Disagrees, Stands, Belongs, Barred, Removes, OneFewer, Member}
use Rattle.demands.proofs.Blaming.{base_experimental}
use Rattle.demands.proofs.Demands.{checked}
use Rattle.demands.proofs.Frame.{sets_kept}
use Rattle.demands.proofs.Refusals.{unsound_refused}
use Rattle.older_rules.proofs.Sets as older
use Rattle.demands.proofs.Barring as barring
use Rattle.demands.proofs.Disagreeing as disagreeing
use Rattle.demands.proofs.NamedTwice as named
use Rattle.demands.proofs.Together as together
use Rattle.demands.proofs.Unable as unable

-- A result here (`result_of`) is that of the decision which `serve` answers with where it does not refuse: proofs/Demands, `demand_2`.
-- "Document 01 rejects every barred identity in a UAR. The trade's rule is softer: one with a non-barred identity in its implicit set may go on.": it is not
-- rejected, and where the User-Name is its record's, the answer carries what it does for an identity that is known (`true`) and not barred (`false`)
module _ (a : Lent) (count : ℕ) (sound : check_of (table_only a) ≡ Ok count) (uar : command_of a.request ≡ 300) (seen : Seen)
    (read : Decides (dialect_in a) a.request seen) (k j : ℕ) (stands : Stands (table_in a.table) count k (data_seen seen public_identity))
    (from : 1 ≤ j) (to : j ≤ count) (shares : Shares (table_in a.table) k j) (free : barred (bits_of (block_of (table_in a.table) j)) ≡ false) where
  pub going_on_lem : result_of (table_only a) ≢ Base 5003
  going_on_lem e =
      let x = table_only a in
      true≢false (sym (barring.free_goes x count sound uar (barring.barred_only x count sound uar e) seen read k j stands from to shares) ∙ free)

  pub going_on_as_free : private_at (table_in a.table) k ≡ data_seen seen user_name
      → (decided (table_only a)).given
      ≡ carried (table_in a.table) count (data_seen seen user_name) k
      (authorization
      (asked_at (block_of (table_in a.table) 0) (block_of (table_in a.table) k) true false (data_seen seen user_name) (data_seen seen visited_network))
      (value_seen seen authorization_type))
  going_on_as_free = barring.free_given (table_only a) count sound uar seen read k j stands from to shares free

-- "A set is the records of one subscription with the same nonzero number;"
pub set_is : (t : List ℕ) (k j : ℕ) → (same_set (block_of t k) (block_of t j) ≡ true) ↔ Shares t k j
set_is t k j = (barring.shares_says t k j, barring.shares_holds t k j)

-- "from now on a table is sound only if all records of a set agree in state, pending and server name,"
pub sound_agree : (t : List ℕ) (file count j k : ℕ) → check_table t file ≡ Ok count → 1 ≤ j → j < k → k ≤ count → Shares t j k → Agrees t j k
sound_agree t file count j k = disagreeing.sound_agree t j k file count

-- "the later block being blamed." So says the entry that checks a table, and so does refusal 5 of a call.
pub later_blamed : (t : List ℕ) (file j k : ℕ) → Disagrees t file j k → check_table t file ≡ Err k
later_blamed t file j k = disagreeing.disagree_blamed t j k file

pub later_blamed_check : (area profile : List ℕ) (j k : ℕ) {r : ℕ} → Disagrees (table_in area) (length profile) j k → CheckPromise area profile r
    → ReadsCheck 5 (Err k) r
unfolding check_area
later_blamed_check area profile j k d p =
    let q : check_area area (length profile) ≡ Err k = later_blamed (table_in area) (length profile) j k d in rw q at (checked area profile p)

pub later_blamed_call : (a : Lent) (j k : ℕ) → any_holds (early_trials a.terms a.request a.buffer) ≡ false
    → Disagrees (table_in a.table) (length a.profile) j k → (serve a).call ≡ Refused 5 k
later_blamed_call a j k none d = unsound_refused (table_only a) k none (later_blamed (table_in a.table) (length a.profile) j k d)

-- "Every effect of a SAR or an authentication request reaches the whole set,": of two records of one set both have other bytes after a call, or neither; and
-- they agree after it.
module _ (a : Lent) (count : ℕ) (sound : check_of (table_only a) ≡ Ok count) (j k : ℕ) (shares : Shares (table_in a.table) j k) where
  pub members_together : ((i : ℕ) → get_or (table_in a.table) i 0 < 256) → 1 ≤ j → j ≤ count → 1 ≤ k → k ≤ count
      → differ (block_of (table_in a.table) j) (block_of (table_in (serve a).table) j)
      ≡ differ (block_of (table_in a.table) k) (block_of (table_in (serve a).table) k)
  members_together bytes b c d e =
      rw (served_in a)
      (together.members_together (table_only a) count sound (λ i. record { fits = bytes i }) j k b c d e (barring.shares_holds (table_in a.table) j k shares))

  pub members_agree : 1 ≤ j → j < k → k ≤ count → Agrees (table_in (serve a).table) j k
  members_agree b c d =
      let x = table_only a in
      rw (served_in a)
      (sound_agree _ (length a.profile) count j k (table_checked x ∙ sound) b c d
      (barring.shares_says _ j k (sets_kept x count sound j k ∙ barring.shares_holds x.table j k shares)))

-- "and a removal naming two members of one set is like naming one.": without one of two it comes to the same call, and leaves the same area, vectors and
-- buffer.
pub like_naming_one : (a : Lent) (fewer : List ℕ) (count : ℕ) → check_of (table_only a) ≡ Ok count → length a.request ≤ 16384
    → Removes (dialect_in a) a.request → (f : OneFewer a.request fewer) → Member (table_in a.table) count (f.before ++ f.after) f.one
    → serve a ≡ serve (asking a fewer)
like_naming_one a fewer count sound most removes f m = ap (over_area a.table) (named.twice_once (table_only a) fewer count sound most removes f m)

-- "Demand 2 stands.": proofs/Demands has it as it was.

-- "Refusals: B5003 now exactly when the identity is barred and no non-barred one shares its nonzero set;"
module _ (a : Lent) (count : ℕ) (sound : check_of (table_only a) ≡ Ok count) (uar : command_of a.request ≡ 300) where
  pub barred_only : result_of (table_only a) ≡ Base 5003 → Barred (table_only a) count
  barred_only = barring.barred_only (table_only a) count sound uar

  pub barred_given : Barred (table_only a) count → result_of (table_only a) ≡ Base 5003
  barred_given = barring.barred_given (table_only a) count sound uar

  -- "its place is the same.": after X5001 and X5002, and before X5004, whatever network is visited
  pub barred_unknown : (seen : Seen) → Decides (dialect_in a) a.request seen
      → ((k : ℕ) → Stands (table_in a.table) count k (data_seen seen public_identity) → ⊥)
      ⊎ ((k : ℕ) → Belongs (table_in a.table) count k (data_seen seen user_name) → ⊥)
      → result_of (table_only a) ≡ Experimental 5001
  barred_unknown = barring.barred_unknown (table_only a) count sound uar

  pub barred_apart : (seen : Seen) → Decides (dialect_in a) a.request seen → (k j : ℕ)
      → Stands (table_in a.table) count k (data_seen seen public_identity) → Belongs (table_in a.table) count j (data_seen seen user_name)
      → private_at (table_in a.table) k ≢ data_seen seen user_name → result_of (table_only a) ≡ Experimental 5002
  barred_apart = barring.barred_apart (table_only a) count sound uar

  pub barred_before : Barred (table_only a) count → result_of (table_only a) ≢ Experimental 5004
  barred_before b e = base_experimental (sym (barred_given b) ∙ e)

-- no SAR, LIR or MAR comes to it, over any table
pub barred_uar : (a : Lent) → result_of (table_only a) ≡ Base 5003 → command_of a.request ≡ 300
barred_uar a = unable.barred_whose (dialect_in a) a.request (table_in a.table) (check_value (check_of (table_only a))) a.vectors

-- Over a table without sets every call comes to what it came to before; one of edition 1 has none.
pub without_sets : (a : Lent) → NoSets (table_in a.table) → serve_by before_sets a ≡ serve a
without_sets a none = ap (over_area a.table) (older.without_sets (table_only a) none)

pub first_edition : (t : List ℕ) (file count : ℕ) → check_table t file ≡ Ok count → edition_of (block_of t 0) ≡ 1 → NoSets t
first_edition = older.first_edition
