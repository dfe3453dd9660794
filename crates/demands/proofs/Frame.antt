-- Demand 2: what a call leaves alone, and that a sound table stays sound.
use Rattle.std.specs.Prelude.{Ok}
use Rattle.octets.specs.Standard.{ℕ, zero, suc, ◌+◌, ◌*◌, ◌/◌, ◌≤◌, ◌<◌, List, [], ◌∷◌, Option, some, Bool, true, false, ◌||◌, true≢false, or-true}
use Rattle.octets.specs.Standard.{◌≡◌, refl, sym, ◌∙◌, ◌⊎◌, inl, inr, ◌≢◌, arith, eqb, length, get_or, eqb-true, eq-eqb}
use Rattle.record.specs.Sets.{same_set}
use Rattle.rewrite.proofs.Sound.{keeping_sets}
use Rattle.record.proofs.OneSet.{OneSet, set_says}
use Rattle.blocks.specs.Blocks.{block_of}
use Rattle.table.specs.Named.{private_at}
use Rattle.table.specs.Check.{check_table}
use Rattle.table.specs.SoundTable.{SoundTable}
use Rattle.table.proofs.Sound.{sound_size}
use Rattle.rewrite.specs.Change.{reaches}
use Rattle.rewrite.specs.Keeps.{alterable, Kept}
use Rattle.rewrite.proofs.Tables.{Keeping, keeping_same, kept_same, after_frame}
use Rattle.diameter.specs.Message.{command_of}
use Rattle.blocks.specs.Changed.{is_one}
use Rattle.deciding.specs.Decide.{Decision}
use Rattle.calling.specs.Lent.{Lent, dialect_in}
use Rattle.refusals.specs.Early.{check_value}
use Rattle.calling.specs.Serve.{check_of, answered_by, decision, serve_table}
use Rattle.demands.specs.Call.{turned_away}
use Rattle.demands.specs.Frame.{succeeds, subscription_of}
use Rattle.calling.proofs.Kept.{taken, table_checked}
use Rattle.demands.proofs.Refusals.{refused_kept, answered_is}
use Rattle.deciding.proofs.Kept.{decide_keeping}
use Rattle.demands.proofs.Effects.{Altered, Does, decide_does}

-- The records of a set are of one subscription, so that an effect on records of a subscription reaches no record of another.
reached_owned : (t : List ℕ) (subscription : Option (List ℕ)) (ks : List ℕ) → ((k : ℕ) → is_one ks k ≡ true → some (private_at t k) ≡ subscription)
    → (j : ℕ) → reaches t ks j ≡ true → some (private_at t j) ≡ subscription
unfolding reaches is_one private_at
reached_owned t subscription [] own j e = absurd (true≢false (sym e))
reached_owned t subscription (k ∷ ks) own j e =
    go (eqb j k) (same_set (block_of t k) (block_of t j)) refl refl e (reached_owned t subscription ks (λ i f. own i (rw f (or-true (eqb i k)))) j)
  where
    first : is_one (k ∷ ks) k ≡ true
    first = rw (eq-eqb k k refl)

    go : (x y : Bool) → eqb j k ≡ x → same_set (block_of t k) (block_of t j) ≡ y → (x || y || reaches t ks j) ≡ true
        → (reaches t ks j ≡ true → some (private_at t j) ≡ subscription) → some (private_at t j) ≡ subscription
    go true y f g i next = let q : j ≡ k = eqb-true j k f in rw q (own k first)
    go false true f g i next =
        let s : OneSet (block_of t k) (block_of t j) = set_says (block_of t k) (block_of t j) g in
        rw (← s.private) (own k first)
    go false false f g i next = next i

-- What an effect leaves: the blocks of another subscription.
module _ (command : ℕ) (t : List ℕ) (count : ℕ) (v : List ℕ) (subscription : Option (List ℕ)) (d : Decision) (sound : SoundTable t count)
    (a : Altered command t count v subscription d) where
  size : length t ≡ 512 * (count + 1)
  size = sound_size t count sound

  altered_others : (k : ℕ) → k ≤ count → some (private_at t k) ≢ subscription → block_of d.table k ≡ block_of t k
  altered_others k h n = go (reaches t a.records k) refl
    where
      go : (x : Bool) → reaches t a.records k ≡ x → block_of d.table k ≡ block_of t k
      go true e = absurd (n (reached_owned t subscription a.records a.owned k e))
      go false e = rw a.table (after_frame t count a.change size (reaches t a.records) a.keeps k h e)

-- What holds of the table and the vectors as they came, and of those that an effect leaves, holds after every call.
module _ (x : Lent) (count : ℕ) (sound : check_of x ≡ Ok count) where
  abbrev t : List ℕ
  t = x.table

  abbrev v : List ℕ
  v = x.vectors

  abbrev asked : Option (List ℕ)
  asked = subscription_of (dialect_in x) x.request t count

  abbrev Wrote : Type 0
  Wrote = Altered (command_of x.request) t count v asked (decision x count)

  after_call : (P : List ℕ → List ℕ → Type 0) → P t v → (Wrote → P (decision x count).table (decision x count).vectors)
      → P (serve_table x).table (serve_table x).vectors
  unfolding answered_by
  after_call P p q = go (turned_away x) refl
    where
      decided : Does (dialect_in x) x.request t count v (decision x count) → P (decision x count).table (decision x count).vectors
      decided (inl (e, f)) = rw (e, f) p
      decided (inr a) = q a

      go : (y : Bool) → turned_away x ≡ y → P (serve_table x).table (serve_table x).vectors
      go true e = rw ((refused_kept x e).0, (refused_kept x e).1) p
      go false e = rw (answered_is x count sound e) (decided (decide_does (dialect_in x) x.request t count v))

  -- where none is made, both are as they came
  abbrev Left : Type 0
  Left = ((serve_table x).table ≡ t) × ((serve_table x).vectors ≡ v)

  none_wrote : (Wrote → ⊥) → Left
  none_wrote n = after_call (λ y z. (y ≡ t) × (z ≡ v)) (refl, refl) (λ a. absurd (n a))

  pub failure_kept : succeeds (decision x count).given.verdict.result ≡ false → Left
  failure_kept e = none_wrote (λ a. true≢false (sym a.good ∙ e))

  question_left : command_of x.request ≢ 301 → command_of x.request ≢ 303 → Left
  question_left m n = none_wrote (λ a. go a.by)
    where
      go : ((command_of x.request ≡ 301) × ((decision x count).vectors ≡ v)) ⊎ (command_of x.request ≡ 303) → ⊥
      go (inl (e, f)) = m e
      go (inr e) = n e

  vectors_left : command_of x.request ≢ 303 → (serve_table x).vectors ≡ v
  vectors_left n = after_call (λ y z. z ≡ v) refl (λ a. go a.by)
    where
      go : ((command_of x.request ≡ 301) × ((decision x count).vectors ≡ v)) ⊎ (command_of x.request ≡ 303) → (decision x count).vectors ≡ v
      go (inl (e, f)) = f
      go (inr e) = absurd (n e)

  abbrev says : SoundTable t count
  says = record { file = length x.profile; checked = sound }

  pub others_kept : (k : ℕ) → k ≤ count → some (private_at t k) ≢ asked → block_of (serve_table x).table k ≡ block_of t k
  others_kept k h n =
      after_call (λ y z. block_of y k ≡ block_of t k) refl (λ a. altered_others (command_of x.request) t count v asked (decision x count) says a k h n)

  -- what every effect keeps is kept by every call
  call_keeping : Keeping t (serve_table x).table count
  call_keeping =
      after_call (λ y z. Keeping t y count) (keeping_same t count) (λ a. decide_keeping (dialect_in x) x.request t count v says)

  pub sets_kept : (j k : ℕ) → same_set (block_of (serve_table x).table j) (block_of (serve_table x).table k) ≡ same_set (block_of t j) (block_of t k)
  sets_kept = keeping_sets t (serve_table x).table count call_keeping says

  pub header_kept : block_of (serve_table x).table 0 ≡ block_of t 0
  header_kept = call_keeping.header

  block_kept : (k : ℕ) → k ≤ count → Kept (block_of t k) (block_of (serve_table x).table k)
  block_kept zero h = kept_same _ _ header_kept
  block_kept (suc k) h = call_keeping.each (suc k) (omega arith) h

  pub bytes_kept : (k i : ℕ) → k ≤ count → i < 512 → alterable i ≡ false → get_or (block_of (serve_table x).table k) i 0 ≡ get_or (block_of t k) i 0
  bytes_kept k i h l e = (block_kept k h).others i l e

  pub bits_kept : (k : ℕ) → k ≤ count → get_or (block_of (serve_table x).table k) 9 0 / 2 ≡ get_or (block_of t k) 9 0 / 2
  bits_kept k h = (block_kept k h).bits

  pub size_kept : length (serve_table x).table ≡ length t
  size_kept = call_keeping.size

  pub sound_kept : check_table (serve_table x).table (length x.profile) ≡ Ok count
  sound_kept = table_checked x ∙ sound

-- whatever the table: a question alters nothing, and none but a MAR alters the vectors
module _ (x : Lent) where
  pub question_kept : command_of x.request ≢ 301 → command_of x.request ≢ 303 → ((serve_table x).table ≡ x.table) × ((serve_table x).vectors ≡ x.vectors)
  question_kept m n = go (turned_away x) refl
    where
      go : (y : Bool) → turned_away x ≡ y → ((serve_table x).table ≡ x.table) × ((serve_table x).vectors ≡ x.vectors)
      go true e = ((refused_kept x e).0, (refused_kept x e).1)
      go false e = question_left x (check_value (check_of x)) (taken x e).table m n

  pub vectors_kept : command_of x.request ≢ 303 → (serve_table x).vectors ≡ x.vectors
  vectors_kept n = go (turned_away x) refl
    where
      go : (y : Bool) → turned_away x ≡ y → (serve_table x).vectors ≡ x.vectors
      go true e = (refused_kept x e).1
      go false e = vectors_left x (check_value (check_of x)) (taken x e).table n
