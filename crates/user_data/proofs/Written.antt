-- 702 is written by the writers of its parts, one after the other.
use Rattle.octets.specs.Standard.{ℕ, ◌+◌, ◌-◌, ◌≤◌, Bool, true, false, ◌&&◌, ◌≡◌, refl, List, [], ◌∷◌, ◌++◌, append_assoc, arith, ltb, length, replicate}
use Rattle.octets.specs.Standard.{length-replicate, ne_eqb}
use Rattle.octets.specs.Number.{in_fours}
use Rattle.octets.specs.Run.{over, Wrote}
use Rattle.octets.proofs.Writes.{lent, back, then, named, then_front}
use Rattle.markup.specs.Escapes.{escaped}
use Rattle.pen.specs.Bytes.{padding, copied, vendor_head, vendor_bytes, vendor_size, if_there}
use Rattle.user_data.specs.UserData.{opening, name_start, name_end, state_start, state_end, closing, user_state, name_text, state_text, name_element}
use Rattle.user_data.specs.UserData.{state_element}
use Rattle.user_data.specs.UserData.{sh_text, user_data_bytes}
use Rattle.user_data.specs.declared.References.{References}

-- The state that is told.
module _ (state : ℕ) (pending : Bool) where
  pub state_one : state ≡ 1 → 1 ≡ user_state state pending
  unfolding user_state
  state_one e = rw e

  module _ (a : state ≡ 1 → ⊥) where
    pub state_two : state ≡ 2 → 2 ≡ user_state state pending
    unfolding user_state
    state_two e = rw e

    module _ (b : state ≡ 2 → ⊥) where
      pub state_pending : pending ≡ true → 3 ≡ user_state state pending
      unfolding user_state
      state_pending e = rw (ne_eqb state 1 a, ne_eqb state 2 b, e)

      pub state_none : pending ≡ false → 0 ≡ user_state state pending
      unfolding user_state
      state_none e = rw (ne_eqb state 1 a, ne_eqb state 2 b, e)

-- The elements.
pub wrote_name : (name : List ℕ) {b xs ys zs : List ℕ} {n r t : ℕ} → Wrote name_start b xs n → Wrote (escaped name) (lent n xs) ys r
    → Wrote name_end (lent (n + r) (back n xs ys)) zs t
    → Wrote (name_text name) b (back (n + r) (back n xs ys) zs) (n + r + t)
unfolding name_text
wrote_name name p q u = named (append_assoc name_start (escaped name) name_end) refl (then (then p q) u)

pub wrote_state : (s : ℕ) {b xs ys zs : List ℕ} {n r t : ℕ} → Wrote state_start b xs n → Wrote ((0x30 + s) ∷ []) (lent n xs) ys r
    → Wrote state_end (lent (n + r) (back n xs ys)) zs t
    → Wrote (state_text s) b (back (n + r) (back n xs ys) zs) (n + r + t)
unfolding state_text
wrote_state s p q u = then (then p q) u

-- An element that is there; one that is not.
wrote_there : (x : Bool) (w : List ℕ) {b xs : List ℕ} {r : ℕ} → x ≡ true → Wrote w b xs r → Wrote (if_there x w) b xs r
unfolding if_there
wrote_there x w e p = rw e p

wrote_none : (x : Bool) (w b : List ℕ) → x ≡ false → Wrote (if_there x w) b b 0
unfolding if_there over
wrote_none x w b e = rw e (record { count = refl; bytes = refl })

module _ (r : References) (name : List ℕ) {b : List ℕ} where
  pub wrote_name_there : {xs : List ℕ} {n : ℕ} → (r.name && ltb 0 (length name)) ≡ true → Wrote (name_text name) b xs n → Wrote (name_element r name) b xs n
  unfolding name_element
  wrote_name_there e p = wrote_there _ (name_text name) e p

  pub wrote_no_name : (r.name && ltb 0 (length name)) ≡ false → Wrote (name_element r name) b b 0
  unfolding name_element
  wrote_no_name e = wrote_none _ (name_text name) b e

module _ (r : References) (n : ℕ) {b : List ℕ} where
  pub wrote_state_there : {xs : List ℕ} {k : ℕ} → r.state ≡ true → Wrote (state_text n) b xs k → Wrote (state_element r n) b xs k
  unfolding state_element
  wrote_state_there e p = wrote_there _ (state_text n) e p

  pub wrote_no_state : r.state ≡ false → Wrote (state_element r n) b b 0
  unfolding state_element
  wrote_no_state e = wrote_none _ (state_text n) b e

pub wrote_elements : (r : References) (n : ℕ) (name : List ℕ) {b xs ys : List ℕ} {a k : ℕ} → Wrote (name_element r name) b xs a
    → Wrote (state_element r n) (lent a xs) ys k
    → Wrote (name_element r name ++ state_element r n) b (back a xs ys) (a + k)
wrote_elements r n name p q = then p q

-- The data, with their padding, with the header.
module _ (r : References) (n : ℕ) (name : List ℕ) {b xs ys : List ℕ} where
  pub wrote_text : {zs : List ℕ} {a k t : ℕ} → Wrote opening b xs a → Wrote (name_element r name ++ state_element r n) (lent a xs) ys k
      → Wrote closing (lent (a + k) (back a xs ys)) zs t
      → Wrote (sh_text r n name) b (back (a + k) (back a xs ys) zs) (a + k + t)
  unfolding sh_text
  wrote_text p q u = named (simp append_assoc) refl (then (then p q) u)

  pub wrote_padded : {len k : ℕ} → Wrote (sh_text r n name) b xs len → Wrote (replicate (in_fours len - len) 0) (lent len xs) ys k
      → Wrote (copied (sh_text r n name)) b (back len xs ys) (in_fours len)
  unfolding copied padding
  wrote_padded {len} p q = named (rw p.count) (omega (arith, q.count, length-replicate {A = ℕ} (in_fours len - len) 0)) (then p q)

  pub wrote_told : {len : ℕ} → vendor_size (length (sh_text r n name)) ≤ length b → len ≡ length (sh_text r n name)
      → Wrote (copied (sh_text r n name)) (lent 12 b) xs (in_fours len)
      → Wrote (vendor_head 702 (12 + len)) (back 12 b xs) ys 12
      → Wrote (vendor_bytes 702 (sh_text r n name)) b ys (12 + in_fours len)
  unfolding vendor_bytes
  wrote_told h e p q = named (rw e) refl (then_front (omega arith) p q)

pub wrote_user_data : (r : References) (state : ℕ) (pending : Bool) (name : List ℕ) (n : ℕ) {b xs : List ℕ} {k : ℕ} → n ≡ user_state state pending
    → Wrote (vendor_bytes 702 (sh_text r n name)) b xs k
    → Wrote (user_data_bytes r state pending name) b xs k
unfolding user_data_bytes
wrote_user_data r state pending name n is p = rw is at p
