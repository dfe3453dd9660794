-- The order of two public identities by their whole fields, and that a record that stands has zeros past its name.
use Rattle.octets.specs.Standard.{ℕ, ◌+◌, ◌-◌, ◌<◌, ◌≤◌, Bool, true, false, cond, ◌≡◌, refl, sym, ◌∙◌, List, arith, ltb, length, get_or, take, drop}
use Rattle.octets.specs.Standard.{length-take, length-drop, get_or-eq_default, get_or-drop, get_or-take, take-take, ltb-true, ltb-false}
use Rattle.octets.specs.Name.{order_of, by_length}
use Rattle.std.specs.declared.cmp.Ordering.{Ordering}
use Rattle.std.specs.declared.cmp.Ordering.TheVariants.{Less, Equal, Greater}
use Rattle.octets.proofs.All.{and_left}
use Rattle.octets.proofs.Padded.{by_field, padded_order}
use Rattle.octets.proofs.Runs.{zero_at}
use Rattle.record.specs.Fields.{public_of, public_field, public_size}
use Rattle.record.specs.RecordBlock.{record_of, sound_record}
use Rattle.record.specs.declared.header.Header.{Header}
use Rattle.record.proofs.Tests.{record_says, limits_say, rest_says}
use Rattle.blocks.specs.Blocks.{block_of}
use Rattle.table.specs.Check.{is_less, rises_at, stands_at}
use Rattle.table.specs.Padded.{Padded, Before}

field_length : (b : List ℕ) → length b ≡ 512 → length (public_field b) ≡ 128
unfolding public_field
field_length b h = simp (length-take, length-drop) (omega arith)

name_in_lem : (b : List ℕ) → Padded b → take (public_size b) (public_field b) ≡ public_of b
unfolding public_field public_of
name_in_lem b p = take-take (public_size b) 128 (drop 16 b) p.size

past_name : (b : List ℕ) → length b ≡ 512 → Padded b → (i : ℕ) → public_size b ≤ i → get_or (public_field b) i 0 ≡ 0
unfolding public_field
past_name b h p i l = go (ltb i 128) refl
  where
    go : (x : Bool) → ltb i 128 ≡ x → get_or (public_field b) i 0 ≡ 0
    go true e =
        let m : i < 128 = ltb-true i 128 e in
        get_or-take 128 (drop 16 b) i 0 m ∙ rw get_or-drop (zero_at b (16 + public_size b) 144 p.past (16 + i) (omega arith) (omega arith))
    go false e = get_or-eq_default (public_field b) 0 (omega (arith, field_length b h, ltb-false i 128 e))

by_length_less : (m n : ℕ) → is_less (by_length m n) ≡ ltb m n
by_length_less m n = go (ltb m n) (ltb n m)
  where
    go : (x y : Bool) → is_less (cond x Less (cond y Greater Equal)) ≡ x
    go true y = refl
    go false true = refl
    go false false = refl

module _ (a b : List ℕ) (la : length a ≡ 512) (lb : length b ≡ 512) (pa : Padded a) (pb : Padded b) where
  fields_order : order_of (public_of a) (public_of b) ≡ by_field (order_of (public_field a) (public_field b)) (by_length (public_size a) (public_size b))
  fields_order =
      rw (← name_in_lem a pa, ← name_in_lem b pb)
      (padded_order (public_field a) (public_field b) (public_size a) (public_size b) (omega (arith, field_length a la, field_length b lb))
      (omega (arith, field_length a la, pa.size)) (omega (arith, field_length b lb, pb.size)) (past_name a la pa) (past_name b lb pb))

  module _ (s t : List ℕ) {o : Ordering} (es : s ≡ public_field a) (et : t ≡ public_field b) (eo : o ≡ order_of s t) where
    fields_say : is_less (order_of (public_of a) (public_of b)) ≡ is_less (by_field o (by_length (public_size a) (public_size b)))
    fields_say = rw (eo, es, et, fields_order)

    pub field_less : o ≡ Less → true ≡ is_less (order_of (public_of a) (public_of b))
    field_less e = rw (fields_say, e)

    pub field_equal : o ≡ Equal → ltb (public_size a) (public_size b) ≡ is_less (order_of (public_of a) (public_of b))
    field_equal e = rw (fields_say, e) (sym (by_length_less (public_size a) (public_size b)))

    pub field_greater : o ≡ Greater → false ≡ is_less (order_of (public_of a) (public_of b))
    field_greater e = rw (fields_say, e)

-- A sound record, and one that stands in its place.
pub padded_sound : (b : List ℕ) (k : ℕ) (h : Header) (file : ℕ) {x : Bool} → x ≡ sound_record b k h file → x ≡ true → Padded b
unfolding record_of
padded_sound b k h file e f =
    let r = record_says b k h file (sym e ∙ f) in
    record { size = (limits_say (record_of b) r.limits).public; past = (rest_says b (record_of b) r.rest).public }

module _ (t : List ℕ) (k : ℕ) (h : Header) (file : ℕ) {b : List ℕ} {x : Bool} (is : b ≡ block_of t k) (sound : x ≡ sound_record b k h file) where
  pub padded_here : x ≡ true → Padded (block_of t k)
  padded_here f = rw (← is) (padded_sound b k h file sound f)

  pub stands_here : {y : Bool} → x ≡ true → y ≡ rises_at t k → y ≡ stands_at t h file k
  unfolding stands_at
  stands_here f g = rw (← is, ← sound, f) g

  pub stands_not : x ≡ false → x ≡ stands_at t h file k
  unfolding stands_at
  stands_not f = rw (← is, ← sound, f)

pub padded_lent : (t : List ℕ) (k : ℕ) {b : List ℕ} → b ≡ block_of t k → Padded (block_of t k) → Padded b
padded_lent t k e p = rw e p

pub padded_before : (t : List ℕ) (k : ℕ) {b : List ℕ} → Before t k → 1 < k → b ≡ block_of t (k - 1) → Padded b
padded_before t k p h e = rw e (p.padded h)

pub before_first : (t : List ℕ) → Before t (0 + 1)
before_first t = record { padded = λ h. absurd (omega arith) }

pub before_next : (t : List ℕ) (h : Header) (file m : ℕ) {x : Bool} → x ≡ stands_at t h file (m + 1) → x ≡ true → Before t (m + 1 + 1)
unfolding stands_at
before_next t h file m e f =
    record {
      padded = λ l.
          let k : m + 1 + 1 - 1 ≡ m + 1 = omega arith in
          rw k (padded_sound (block_of t (m + 1)) (m + 1) h file refl (and_left (sound_record (block_of t (m + 1)) (m + 1) h file) _ (sym e ∙ f)));
    }
