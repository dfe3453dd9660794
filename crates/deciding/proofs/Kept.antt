-- A decision keeps a sound table sound, with as many records, and a sound vector file sound: whoever checked them need not check again.
use Rattle.octets.specs.Standard.{ℕ, List, ◌≡◌, refl, ◌∙◌}
use Rattle.table.specs.SoundTable.{SoundTable}
use Rattle.table.proofs.Sound.{sound_size}
use Rattle.vectors.specs.VectorFile.{check_vectors, SoundVectors}
use Rattle.vectors.proofs.Spent.{spent_sound}
use Rattle.rewrite.specs.Change.{reaches}
use Rattle.rewrite.proofs.Reaching.{reaches_zero, reaches_closed}
use Rattle.rewrite.proofs.Tables.{Keeping, keeping_same, after_keeping}
use Rattle.reading.specs.Rules.{Seen}
use Rattle.reading.specs.declared.Dialect.{Dialect}
use Rattle.choices.specs.declared.plan.Plan.{Plan}
use Rattle.deciding.specs.Decide.{performed_by, decide}
use Rattle.deciding.specs.Deeds.{carried_out, spent_by}
use Rattle.deciding.proofs.Cases.{Writes, Comes, tells, settles, challenges}
use Rattle.deciding.proofs.Comes.{decide_by_lem}

-- what is written keeps what every effect keeps
writes_keeping : (dialect : Dialect) (req t : List ℕ) (count : ℕ) (v : List ℕ) (seen : Seen) → SoundTable t count → {y : List ℕ}
    → Writes dialect req t count v seen y → Keeping t y count
writes_keeping dialect req t count v seen sound w =
    rw w.table
    (after_keeping t count w.change (sound_size t count sound) (reaches t w.records) w.keeps (reaches_zero t count sound w.records ∙ w.later)
    (reaches_closed t w.records))

pub decide_keeping : (dialect : Dialect) (req t : List ℕ) (count : ℕ) (v : List ℕ) → SoundTable t count → Keeping t (decide dialect req t count v).table count
unfolding performed_by carried_out
decide_keeping dialect req t count v sound =
    decide_by_lem dialect req t count v (λ d. Keeping t d.table count) (λ f b. keeping_same t count) (λ seen e p c. go seen p c)
  where
    go : (seen : Seen) (p : Plan) → Comes dialect req t count v seen p → Keeping t (carried_out req t count seen p.deed) count
    go seen p (tells g x) = keeping_same t count
    go seen p (settles g w x) = writes_keeping dialect req t count v seen sound x.writes
    go seen p (challenges k x) = writes_keeping dialect req t count v seen sound x.writes

pub decide_vectors : (dialect : Dialect) (req t : List ℕ) (count : ℕ) (v : List ℕ) → SoundVectors v
    → check_vectors (decide dialect req t count v).vectors ≡ check_vectors v
unfolding performed_by spent_by
decide_vectors dialect req t count v s =
    decide_by_lem dialect req t count v (λ d. check_vectors d.vectors ≡ check_vectors v) (λ f b. refl) (λ seen e p c. go seen p c)
  where
    go : (seen : Seen) (p : Plan) → Comes dialect req t count v seen p → check_vectors (spent_by v p.given.sent p.deed) ≡ check_vectors v
    go seen p (tells g x) = refl
    go seen p (settles g w x) = refl
    go seen p (challenges k x) = spent_sound v s _
