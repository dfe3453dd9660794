-- How long the bytes of 702 are.
use Rattle.octets.specs.Standard.{ℕ, ◌+◌, ◌≤◌, Bool, true, ◌&&◌, ◌≡◌, refl, List, arith, ltb, length, length-append}
use Rattle.markup.specs.Escapes.{escaped}
use Rattle.markup.proofs.Escaping.{escaped_most}
use Rattle.pen.specs.Bytes.{copied_size, vendor_size, if_there}
use Rattle.pen.proofs.Sizes.{there_length, vendor_length}
use Rattle.user_data.specs.UserData.{name_end, user_state, name_text, state_text, name_element, state_element, sh_text, sh_data}
use Rattle.user_data.specs.UserData.{user_data_bytes}
use Rattle.user_data.specs.declared.References.{References}

name_length : (name : List ℕ) → length (name_text name) ≡ 23 + length (escaped name)
unfolding name_text
name_length name = omega (arith, length-append (escaped name) name_end)

state_length : (n : ℕ) → length (state_text n) ≡ 30
unfolding state_text
state_length n = refl

-- room for an element that is there
there_all : (x : Bool) (w : List ℕ) {m : ℕ} → x ≡ true → length (if_there x w) ≤ m → length w ≤ m
unfolding if_there
there_all x w e h = rw e at h

pub name_room : (r : References) (name : List ℕ) {m : ℕ} → (r.name && ltb 0 (length name)) ≡ true → length (name_element r name) ≤ m
    → 23 + length (escaped name) ≤ m
unfolding name_element
name_room r name e h = omega (arith, there_all _ (name_text name) e h, name_length name)

pub state_room : (r : References) (n : ℕ) {m : ℕ} → r.state ≡ true → length (state_element r n) ≤ m → 30 ≤ m
unfolding state_element
state_room r n e h = omega (arith, there_all _ (state_text n) e h, state_length n)

pub state_within : (r : References) (n : ℕ) {m k : ℕ} → r.state ≡ true → k ≡ 30 → length (state_element r n) ≤ m → k ≤ m
state_within r n e q h = omega (arith, state_room r n e h)

module _ (r : References) (n : ℕ) (name : List ℕ) where
  text_length : length (sh_text r n name) ≡ 84 + (length (name_element r name) + length (state_element r n))
  unfolding sh_text
  text_length = simp length-append (omega arith)

  -- room for the data and their padding
  pub text_room : {m : ℕ} → copied_size (length (sh_text r n name)) ≤ m → 84 + (length (name_element r name) + length (state_element r n)) ≤ m
  text_room h = omega (arith, text_length)

  -- "at most 713 bytes of data" of a name that a record can store
  pub text_most : length name ≤ 96 → length (sh_text r n name) ≤ 713
  unfolding name_element state_element
  text_most h =
      omega (
        arith,
        text_length,
        there_length (r.name && ltb 0 (length name)) (name_text name),
        name_length name,
        escaped_most name,
        there_length r.state (state_text n),
        state_length n,
      )

-- the whole of 702, "728 with header and padding"
module _ (r : References) (state : ℕ) (pending : Bool) (name : List ℕ) where
  user_data_length : length (user_data_bytes r state pending name) ≡ vendor_size (length (sh_data r state pending name))
  unfolding user_data_bytes
  user_data_length = vendor_length 702 (sh_data r state pending name)

  pub user_data_most : length name ≤ 96 → length (user_data_bytes r state pending name) ≤ 728
  user_data_most h = omega (arith, user_data_length, text_most r (user_state state pending) name h)

  -- the number that is told is the record's
  module _ (n : ℕ) (is : n ≡ user_state state pending) where
    pub user_data_room : {m : ℕ} → length (user_data_bytes r state pending name) ≤ m → vendor_size (length (sh_text r n name)) ≤ m
    user_data_room h = rw is (omega (arith, user_data_length))

    pub user_data_within : {m k : ℕ} → k ≡ vendor_size (length (sh_text r n name)) → length (user_data_bytes r state pending name) ≤ m → k ≤ m
    user_data_within e h = omega (arith, user_data_room h)
