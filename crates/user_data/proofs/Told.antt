-- What 702 says of the server name and the state is what it was given.
use Rattle.octets.specs.Standard.{ℕ, ◌+◌, ◌≤◌, Bool, true, false, cond, ◌&&◌, ◌≡◌, refl, sym, ap, ◌∙◌, List, [], ◌∷◌, ◌++◌, append_assoc, arith, eqb, ltb}
use Rattle.octets.specs.Standard.{length, ne_eqb, append-nil, none, some, none-ne-some}
use Rattle.markup.specs.Escapes.{escapes, escape_by, escape_of, escaped, begins, none_bare}
use Rattle.markup.proofs.Escaping.{each_byte, escape_other, unescaped_escaped, none_bare_lem}
use Rattle.pen.specs.Bytes.{if_there}
use Rattle.user_data.specs.UserData.{opening, name_start, name_end, state_start, closing, user_state, name_text, state_text, name_element, state_element}
use Rattle.user_data.specs.UserData.{sh_text, sh_data}
use Rattle.user_data.specs.Elements.{behind, up_to, inside, unescaped_if, name_told, state_told}
use Rattle.user_data.specs.declared.References.{References}

-- No tag begins in an escaped name, since `<` is none of its bytes.
module _ (tag : List ℕ) (t : List ℕ) where
  behind_escape : (x : ℕ) → behind (0x3C ∷ tag) (escape_of x ++ t) ≡ behind (0x3C ∷ tag) t
  unfolding escape_of escape_by escapes behind begins
  behind_escape x =
      each_byte (λ (y : ℕ). behind (0x3C ∷ tag) (escape_of y ++ t) ≡ behind (0x3C ∷ tag) t) refl refl refl refl refl (λ y o. rw (escape_other y o, o.less)) x

  up_to_escape : (x : ℕ) → up_to (0x3C ∷ tag) (escape_of x ++ t) ≡ escape_of x ++ up_to (0x3C ∷ tag) t
  unfolding escape_of escape_by escapes up_to begins
  up_to_escape x =
      each_byte (λ (y : ℕ). up_to (0x3C ∷ tag) (escape_of y ++ t) ≡ escape_of y ++ up_to (0x3C ∷ tag) t) refl refl refl refl refl
      (λ y o. rw (escape_other y o, o.less))
      x

module _ (tag t : List ℕ) where
  behind_escaped : (name : List ℕ) → behind (0x3C ∷ tag) (escaped name ++ t) ≡ behind (0x3C ∷ tag) t
  unfolding escaped
  behind_escaped [] = refl
  behind_escaped (x ∷ name) =
      rw (append_assoc (escape_of x) (escaped name) t, behind_escape tag (escaped name ++ t) x) (behind_escaped name)

  up_to_escaped : (name : List ℕ) → up_to (0x3C ∷ tag) (escaped name ++ t) ≡ escaped name ++ up_to (0x3C ∷ tag) t
  unfolding escaped
  up_to_escaped [] = refl
  up_to_escaped (x ∷ name) =
      rw (append_assoc (escape_of x) (escaped name) t, up_to_escape tag (escaped name ++ t) x, up_to_escaped name, append_assoc (escape_of x) (escaped name))

name_ends : (name t : List ℕ) → up_to name_end ((escaped name ++ name_end) ++ t) ≡ escaped name
unfolding up_to begins
name_ends name t = rw (append_assoc (escaped name) name_end t, up_to_escaped _ (name_end ++ t) name, append-nil)

name_passed : (name t : List ℕ) → behind state_start ((escaped name ++ name_end) ++ t) ≡ behind state_start t
unfolding behind begins
name_passed name t = rw (append_assoc (escaped name) name_end t, behind_escaped _ (name_end ++ t) name)

-- Each element is found where it is, and not where it is not; a digit is no tag's beginning.
module _ (n : ℕ) (h : n ≤ 3) where
  digit : eqb (0x30 + n) 0x3C ≡ false
  digit = ne_eqb (0x30 + n) 0x3C (λ e. omega arith)

  name_in_lem : (x y : Bool) (name : List ℕ)
      → inside name_start name_end (opening ++ (if_there x (name_text name) ++ (if_there y (state_text n) ++ closing))) ≡ cond x (some (escaped name)) none
  unfolding behind begins if_there name_text state_text
  name_in_lem true y name = rw (name_ends name (if_there y (state_text n) ++ closing))
  name_in_lem false true name = rw digit
  name_in_lem false false name = refl

  state_in : (x y : Bool) (name : List ℕ)
      → state_told (opening ++ (if_there x (name_text name) ++ (if_there y (state_text n) ++ closing))) ≡ cond y (some ((0x30 + n) ∷ [])) none
  unfolding state_told behind up_to begins if_there name_text state_text
  state_in true true name = rw (name_passed name (state_text n ++ closing), digit)
  state_in true false name = rw (name_passed name closing)
  state_in false true name = rw digit
  state_in false false name = refl

state_few : (state : ℕ) (pending : Bool) → user_state state pending ≤ 3
unfolding user_state
state_few state pending = go (eqb state 1) (eqb state 2) pending
  where
    go : (a b c : Bool) → cond a 1 (cond b 2 (cond c 3 0)) ≤ 3
    go true b c = omega arith
    go false true c = omega arith
    go false false true = omega arith
    go false false false = omega arith

-- "what 702 says of state and server name is what the table's record says": the name as it is stored, and the state's digit, each if it was asked for
module _ (r : References) (state : ℕ) (pending : Bool) (name : List ℕ) where
  pub shows_name : inside name_start name_end (sh_data r state pending name) ≡ cond (r.name && ltb 0 (length name)) (some (escaped name)) none
  unfolding sh_text name_element state_element
  shows_name = name_in_lem (user_state state pending) (state_few state pending) (r.name && ltb 0 (length name)) r.state name

  pub tells_name : name_told (sh_data r state pending name) ≡ cond (r.name && ltb 0 (length name)) (some name) none
  unfolding name_told
  tells_name = ap unescaped_if shows_name ∙ go (r.name && ltb 0 (length name))
    where
      go : (x : Bool) → unescaped_if (cond x (some (escaped name)) none) ≡ cond x (some name) none
      go true = rw (unescaped_escaped name)
      go false = refl

  -- no markup character stands bare in it
  pub shows_clean : (n : List ℕ) → inside name_start name_end (sh_data r state pending name) ≡ some n → none_bare n ≡ true
  shows_clean n e = go (r.name && ltb 0 (length name)) (sym shows_name ∙ e)
    where
      go : (x : Bool) → cond x (some (escaped name)) none ≡ some n → none_bare n ≡ true
      go true f = let q : escaped name ≡ n = cc in rw (← q) (none_bare_lem name)
      go false f = absurd (none-ne-some n f)

  pub tells_state : state_told (sh_data r state pending name) ≡ cond r.state (some ((0x30 + user_state state pending) ∷ [])) none
  unfolding sh_text name_element state_element
  tells_state = state_in (user_state state pending) (state_few state pending) (r.name && ltb 0 (length name)) r.state name
