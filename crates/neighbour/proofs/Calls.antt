-- What a call that is answered says and writes; two such calls over tables of which the request sees the same.
use Rattle.std.specs.Prelude.{Ok}
use Rattle.octets.specs.Standard.{ℕ, Bool, false, ◌≡◌, refl, sym, ◌∙◌, ap, ◌≢◌, List, arith, length, drop, take_at}
use Rattle.octets.specs.Run.{over}
use Rattle.table.specs.Area.{table_in, check_area}
use Rattle.table.specs.SoundTable.{SoundTable}
use Rattle.diameter.specs.Message.{command_of}
use Rattle.calling.specs.Call.{Answer, Answered}
use Rattle.calling.specs.Lent.{Lent, table_only, dialect_in}
use Rattle.refusals.specs.Early.{check_value}
use Rattle.calling.specs.Serve.{Served, check_of, answer_of, decision, refused, answered_by, serve_table, serve}
use Rattle.vectors.specs.VectorFile.{check_vectors}
use Rattle.calling.proofs.Kept.{serve_by_lem, serve_either}
use Rattle.demands.specs.Call.{turned_away}
use Rattle.demands.proofs.Refusals.{answered_is}
use Rattle.seen_alike.proofs.Plans.{place_same}
use Rattle.seen_alike.proofs.Answers.{bytes_same}
use Rattle.neighbour.specs.Seen.{SameSeen, bytes_of, SameAnswer}
use Rattle.neighbour.proofs.Sights.{same_sight, same_asks}

-- it is the answer of the decision
pub record Told (z : Lent) (count : ℕ) (s : Served) (a : Answer) : Type 0 where
  pub told : a ≡ record { length = length (answer_of z (decision z count)); place = (decision z count).place }
  pub bytes : bytes_of s a ≡ answer_of z (decision z count)

told : (z : Lent) (count : ℕ) → check_of z ≡ Ok count → (a : Answer) → (serve_table z).call ≡ Answered a → Told z count (serve_table z) a
unfolding refused answered_by over
told z count sound a =
    serve_by_lem z (λ (s : Served). s.call ≡ Answered a → Told z count s a) (λ r f g e. let n : ◌≡◌ {A = ℕ} 0 1 = cc in absurd (omega arith))
    (λ k. rw sound (λ e.
    let w : List ℕ = answer_of z (decision z count) in
    let q : record { length = length w; place = (decision z count).place } ≡ a = cc in
    record { told = sym q; bytes = rw (← q) (take_at w (drop (length w) z.buffer) (length w) refl) }))

module _ (x y : Lent) (count many : ℕ) (first : check_area x.table (length x.profile) ≡ Ok count)
    (second : check_area y.table (length y.profile) ≡ Ok many) (same : SameSeen x y count many) (apart : command_of x.request ≢ 303) where
  one : check_of (table_only x) ≡ Ok count
  unfolding check_area
  one = first

  two : check_of (table_only y) ≡ Ok many
  unfolding check_area
  two = second

  sound : SoundTable (table_in x.table) count
  sound = record { file = length x.profile; checked = one }

  other : SoundTable (table_in y.table) many
  other = record { file = length y.profile; checked = two }

  bytes : answer_of (table_only x) (decision (table_only x) count) ≡ answer_of (table_only y) (decision (table_only y) many)
  bytes =
      rw (← same.request, ← same.terms)
      (bytes_same (same_sight x y count many sound other same) (dialect_in x) x.request x.vectors y.vectors (λ e. absurd (apart e))
      (same_asks x y count many sound other same))

  place : (decision (table_only x) count).place ≡ (decision (table_only y) many).place
  place =
      rw (← same.request, ← same.terms)
      (place_same (table_in x.table) (table_in y.table) count many (dialect_in x) x.request x.vectors y.vectors)

  pub same_answer : (a b : Answer) → (serve x).call ≡ Answered a → (serve y).call ≡ Answered b → SameAnswer (serve x) (serve y) a b
  same_answer a b e f =
      let l : Told (table_only x) count (serve_table (table_only x)) a = told (table_only x) count one a e in
      let r : Told (table_only y) many (serve_table (table_only y)) b = told (table_only y) many two b f in
      record {
        told =
            l.told ∙ (λ i. record { length = length (bytes i); place = place i }) ∙ sym r.told;
        bytes = l.bytes ∙ bytes ∙ sym r.bytes;
      }

-- Where the same is asked on the same terms into the same buffer, and the checks of tables and vector files say the same, one is answered if the other is.
turned_none : (z : Lent) (a : Answer) → (serve_table z).call ≡ Answered a → turned_away z ≡ false
unfolding refused
turned_none z a =
    serve_either z (λ (b : Bool) (s : Served). s.call ≡ Answered a → b ≡ false) (λ r e. let n : ◌≡◌ {A = ℕ} 0 1 = cc in absurd (omega arith)) (λ e. refl)

module _ (x y : Lent) (count : ℕ) (first : check_area x.table (length x.profile) ≡ Ok count)
    (second : check_area y.table (length y.profile) ≡ Ok count) (request : x.request ≡ y.request) (terms : x.terms ≡ y.terms)
    (buffer : x.buffer ≡ y.buffer) (vectors : check_vectors x.vectors ≡ check_vectors y.vectors) where
  here : check_of (table_only x) ≡ Ok count
  unfolding check_area
  here = first

  there : check_of (table_only y) ≡ Ok count
  unfolding check_area
  there = second

  turned_alike : turned_away (table_only x) ≡ turned_away (table_only y)
  turned_alike = rw (here, there, request, terms, buffer, vectors)

  pub also_answered : (a : Answer) → (serve x).call ≡ Answered a → (b : Answer) × ((serve y).call ≡ Answered b)
  unfolding answered_by
  also_answered a e = (
    record { length = length (answer_of (table_only y) (decision (table_only y) count)); place = (decision (table_only y) count).place },
    ap (λ (s : Served). s.call) (answered_is (table_only y) count there (sym turned_alike ∙ turned_none (table_only x) a e)),
  )

-- a table that is answered for is sound
pub is_sound_lem : (x : Lent) (a : Answer) → (serve x).call ≡ Answered a
    → check_area x.table (length x.profile) ≡ Ok (check_value (check_area x.table (length x.profile)))
unfolding refused check_area
is_sound_lem x a =
    serve_by_lem (table_only x) (λ (s : Served). s.call ≡ Answered a → check_of (table_only x) ≡ Ok (check_value (check_of (table_only x))))
    (λ r f g e. let n : ◌≡◌ {A = ℕ} 0 1 = cc in absurd (omega arith)) (λ k e. k.table)
