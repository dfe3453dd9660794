-- A call over an area that is longer than its table, which is at the front: the instances are over such areas.
use Rattle.std.specs.Prelude.{Result, Ok}
use Rattle.octets.specs.Standard.{ℕ, ◌≡◌, ap, ◌∙◌, List, [], ◌∷◌, ◌++◌, length}
use Rattle.table.specs.Area.{table_in}
use Rattle.table.proofs.Areas.{read_front, sound_size_in}
use Rattle.reading.specs.Rules.{Seen}
use Rattle.reading.specs.declared.Outcome.{Outcome}
use Rattle.requests.specs.Judged.{Judged, bad, fine}
use Rattle.calling.specs.Lent.{Lent, holding, table_only}
use Rattle.refusals.specs.Early.{check_value}
use Rattle.calling.specs.Serve.{check_of, decision, result_of}

-- two bytes behind the table
unfoldable pub piece : List ℕ
piece = 0x07 ∷ 0x08 ∷ []

abbrev pub within : Lent → Lent
within x = holding x (x.table ++ piece)

module _ (x : Lent) (count : ℕ) (sound : check_of x ≡ Ok count) where
  pub in_front : table_in (x.table ++ piece) ≡ x.table
  in_front = read_front x.table piece (sound_size_in x.table (length x.profile) count sound)

  pub only_front : table_only (within x) ≡ x
  only_front = ap (holding x) in_front

  pub sound_front : check_of (table_only (within x)) ≡ Ok count
  sound_front = ap check_of only_front ∙ sound

  -- its result, computed over the table
  pub result_front : (r : Outcome) → (decision x count).given.verdict.result ≡ r → result_of (table_only (within x)) ≡ r
  result_front r f = ap result_of only_front ∙ ap (λ (c : Result ℕ ℕ). (decision x (check_value c)).given.verdict.result) sound ∙ f

-- what a request that is read holds
abbrev pub seen_in : Judged → Seen
seen_in (bad v) = []
seen_in (fine seen) = seen
