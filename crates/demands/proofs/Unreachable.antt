-- 02 [7], "A branch nobody can reach.", sentence by sentence: the statements alone, each by the law that has its proof. The branch as it was stands in
-- older_rules/specs/WithBranch; what the words below mean is in specs/Unable. A call is over an area, `a`, and goes by the table at its front: `table_in
-- a.table`, or all that is lent with it alone, `table_only a`.
use Rattle.std.specs.Prelude.{Ok}
use Rattle.octets.specs.Standard.{ℕ, ◌<◌, ◌≤◌, true, ◌≡◌, ap, ◌⊎◌, ◌≢◌, List, [], ◌∷◌}
use Rattle.record.specs.Fields.{state_of, server_size}
use Rattle.blocks.specs.Blocks.{block_of}
use Rattle.table.specs.Area.{table_in}
use Rattle.table.specs.Check.{check_table}
use Rattle.table.specs.Named.{private_at}
use Rattle.table.proofs.Sound.{sound_served}
use Rattle.vectors.specs.Scheme.{scheme}
use Rattle.diameter.specs.Avp.{data_of}
use Rattle.diameter.specs.Message.{command_of, body_of}
use Rattle.reading.specs.Kinds.{user_name, public_identity}
use Rattle.reading.specs.Rules.{Seen}
use Rattle.reading.specs.declared.Outcome.TheVariants.{Base, Experimental}
use Rattle.requests.specs.Request.{given, data_seen, scheme_of, identities}
use Rattle.calling.specs.Lent.{Lent, table_only, dialect_in}
use Rattle.refusals.specs.Early.{check_value}
use Rattle.calling.specs.Serve.{check_of, decision_by, result_of, over_area, serve_by, serve}
use Rattle.older_rules.specs.WithBranch.{with_branch}
use Rattle.demands.specs.Call.{Decides}
use Rattle.demands.specs.Sets.{Stands, Belongs}
use Rattle.demands.specs.Unable.{StoresOther, NoneToSend}
use Rattle.older_rules.proofs.Unreachable as older
use Rattle.demands.proofs.Unable as unable
use Rattle.demands.proofs.UnableMar as mars
use Rattle.demands.proofs.UnableSar as sars

-- "A reader of the code asked how a registered line can lack a server name. It can't."
pub registered_served : (t : List ℕ) (file count k : ℕ) → check_table t file ≡ Ok count → 1 ≤ k → k ≤ count → 0 < state_of (block_of t k)
    → 0 < server_size (block_of t k)
registered_served t file count k e = sound_served t count (record { file = file; checked = e }) k

-- "Show that the B5012 of UAR and LIR is never given over a sound table,": with the branch in the decisions
pub never_given : (a : Lent) (count : ℕ) → check_of (table_only a) ≡ Ok count → (command_of a.request ≡ 300) ⊎ (command_of a.request ≡ 302)
    → (decision_by with_branch (table_only a) count).given.verdict.result ≢ Base 5012
never_given a = unable.branch_never (table_only a)

-- "then take it out of the tables and the code.": no UAR and no LIR comes to it, for anything lent
pub taken_out : (a : Lent) → (command_of a.request ≡ 300) ⊎ (command_of a.request ≡ 302) → result_of (table_only a) ≢ Base 5012
taken_out a = unable.unable_never (dialect_in a) a.request (table_in a.table) (check_value (check_of (table_only a))) a.vectors

-- "The SAR's B5012 for type 0 stays, and the authentication request's.": it is given to no other ..
pub whose_stays : (a : Lent) → result_of (table_only a) ≡ Base 5012 → (command_of a.request ≡ 301) ⊎ (command_of a.request ≡ 303)
whose_stays a = unable.unable_whose (dialect_in a) a.request (table_in a.table) (check_value (check_of (table_only a))) a.vectors

-- .. to a SAR exactly of type 0, where its record stores another name than the request's, for which another type would get X5005; after X5001 and X5002 ..
module _ (a : Lent) (count : ℕ) (sound : check_of (table_only a) ≡ Ok count) (sar : command_of a.request ≡ 301) where
  pub sar_stays : StoresOther (table_only a) count → result_of (table_only a) ≡ Base 5012
  sar_stays = sars.stored_given (table_only a) count sound sar

  pub sar_only : result_of (table_only a) ≡ Base 5012 → StoresOther (table_only a) count
  sar_only = sars.stored_only (table_only a) count sound sar

  pub sar_unknown : (seen : Seen) → Decides (dialect_in a) a.request seen → (identity : List ℕ) → identities (body_of a.request) ≡ identity ∷ []
      → ((k : ℕ) → Stands (table_in a.table) count k (data_of identity) → ⊥)
      ⊎ ((given seen user_name ≡ true) × ((k : ℕ) → Belongs (table_in a.table) count k (data_seen seen user_name) → ⊥))
      → result_of (table_only a) ≡ Experimental 5001
  sar_unknown = sars.stored_unknown (table_only a) count sound sar

  pub sar_apart : (seen : Seen) → Decides (dialect_in a) a.request seen → (identity : List ℕ) → identities (body_of a.request) ≡ identity ∷ []
      → (k j : ℕ) → Stands (table_in a.table) count k (data_of identity) → given seen user_name ≡ true
      → Belongs (table_in a.table) count j (data_seen seen user_name) → private_at (table_in a.table) k ≢ data_seen seen user_name
      → result_of (table_only a) ≡ Experimental 5002
  sar_apart = sars.stored_apart (table_only a) count sound sar

-- .. and to a MAR exactly where none is asked, or no vector of that name is unused; after X5001, X5002 and X5006
module _ (a : Lent) (count : ℕ) (sound : check_of (table_only a) ≡ Ok count) (mar : command_of a.request ≡ 303) where
  pub mar_stays : NoneToSend (table_only a) count → result_of (table_only a) ≡ Base 5012
  mar_stays = mars.challenge_given (table_only a) count sound mar

  pub mar_only : result_of (table_only a) ≡ Base 5012 → NoneToSend (table_only a) count
  mar_only = mars.challenge_only (table_only a) count sound mar

  pub mar_unknown : (seen : Seen) → Decides (dialect_in a) a.request seen
      → ((k : ℕ) → Stands (table_in a.table) count k (data_seen seen public_identity) → ⊥)
      ⊎ ((k : ℕ) → Belongs (table_in a.table) count k (data_seen seen user_name) → ⊥)
      → result_of (table_only a) ≡ Experimental 5001
  mar_unknown = mars.challenge_unknown (table_only a) count sound mar

  pub mar_apart : (seen : Seen) → Decides (dialect_in a) a.request seen → (k j : ℕ)
      → Stands (table_in a.table) count k (data_seen seen public_identity) → Belongs (table_in a.table) count j (data_seen seen user_name)
      → private_at (table_in a.table) k ≢ data_seen seen user_name → result_of (table_only a) ≡ Experimental 5002
  mar_apart = mars.challenge_apart (table_only a) count sound mar

  pub mar_unserved : (seen : Seen) → Decides (dialect_in a) a.request seen → (k : ℕ)
      → Stands (table_in a.table) count k (data_seen seen public_identity) → private_at (table_in a.table) k ≡ data_seen seen user_name
      → scheme_of seen ≢ scheme → result_of (table_only a) ≡ Experimental 5006
  mar_unserved = mars.challenge_unserved (table_only a) count sound mar

-- "Answers are the same for every input."
pub same_for_every_input : (a : Lent) → serve_by with_branch a ≡ serve a
same_for_every_input a = ap (over_area a.table) (older.same_for_every_input (table_only a))
