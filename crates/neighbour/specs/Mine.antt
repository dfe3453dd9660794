-- 02 [9] in a subscriber's words: which requests are about my subscription, and what may become of the others.
use Rattle.std.specs.Prelude.{ℕ, List, [], ◌∷◌, ◌⊎◌, ◌≢◌, ◌≡◌}
use Rattle.std.proofs.Math.Option.{some}
use Rattle.record.specs.Fields.{public_of, private_of}
use Rattle.table.specs.Area.{table_in}
use Rattle.diameter.specs.Put.{All}
use Rattle.reading.specs.declared.Terms.{Terms}
use Rattle.calling.specs.Lent.{Lent, lent, dialect_in}
use Rattle.calling.specs.Serve.{serve}
use Rattle.demands.specs.Frame.{subscription_of}
use Rattle.neighbour.specs.Seen.{SameLine, having, records_of, publics_of, users_of}

-- A request is about mine: each Public-Identity that it names is in records of my private identity alone, or in none; its User-Name is mine, or in no record.
pub record AboutMine (x : Lent) (count : ℕ) (mine : List ℕ) : Type 0 where
  pub publics : All (λ (name : List ℕ). All (λ (b : List ℕ). private_of b ≡ mine) (having public_of name (records_of x count))) (publics_of x)
  pub users : All (λ (name : List ℕ). (name ≡ mine) ⊎ (having private_of name (records_of x count) ≡ [])) (users_of x)

-- Lines of other subscriptions added, taken away and changed, as many as one likes and wherever they stand; every other line stays, apart from block number,
-- issue, check word and profile start.
pub data OtherLines (file other mine : List ℕ) : List (List ℕ) → List (List ℕ) → Type 0 where
  none : OtherLines file other mine [] []
  stays : (b c : List ℕ) {bs cs : List (List ℕ)} → SameLine file other b c → OtherLines file other mine bs cs → OtherLines file other mine (b ∷ bs) (c ∷ cs)
  added : (c : List ℕ) {bs cs : List (List ℕ)} → private_of c ≢ mine → OtherLines file other mine bs cs → OtherLines file other mine bs (c ∷ cs)
  taken_away : (b : List ℕ) {bs cs : List (List ℕ)} → private_of b ≢ mine → OtherLines file other mine bs cs → OtherLines file other mine (b ∷ bs) cs
  changed : (b c : List ℕ) {bs cs : List (List ℕ)} → private_of b ≢ mine → private_of c ≢ mine → OtherLines file other mine bs cs
      → OtherLines file other mine (b ∷ bs) (c ∷ cs)

-- Calls before mine, each with a request, a buffer and terms of its own: they find the table and the vectors as the call before left them, and I find them as
-- the last one left them.
pub record Turn : Type 0 where
  pub request : List ℕ
  pub buffer : List ℕ
  pub terms : Terms

abbrev pub turn_over : Lent → Turn → Lent
turn_over x c = lent c.request x.table x.profile x.vectors c.buffer c.terms

abbrev pub after_turn : Lent → Turn → Lent
after_turn x c = lent x.request (serve (turn_over x c)).table x.profile (serve (turn_over x c)).vectors x.buffer x.terms

unfoldable pub after_turns : Lent → List Turn → Lent
after_turns x [] = x
after_turns x (c ∷ cs) = after_turns (after_turn x c) cs

-- they are about others: none of them asks about my subscription, as the table then is. One with a fault asks about nobody, and one that names a line of mine
-- beside another's User-Name asks about the other
abbrev pub AboutOthers : List ℕ → ℕ → Lent → List Turn → Type 0
AboutOthers mine count x [] = Unit
AboutOthers mine count x (c ∷ cs) =
    (subscription_of (dialect_in (turn_over x c)) c.request (table_in x.table) count ≢ some mine) × AboutOthers mine count (after_turn x c) cs
