-- A block that is already as it would be renewed.
use Rattle.octets.specs.Standard.{ℕ, zero, suc, ◌+◌, ◌-◌, ◌<◌, ◌≤◌, Bool, true, false, ◌&&◌, true≢false, ◌≡◌, refl, sym, ◌∙◌, ap, List, [], ◌∷◌}
use Rattle.octets.specs.Standard.{arith, eqb, ltb, length, get_or, take, drop, length-take, length-drop, set-get_or, get_or-take, get_or-drop, eqb-true}
use Rattle.octets.specs.Standard.{eq-eqb, ltb-true, ltb-false}
use Rattle.octets.specs.Name.{same}
use Rattle.octets.specs.Run.{put_name, zero_between}
use Rattle.octets.specs.Sum.{sum_words}
use Rattle.octets.proofs.Chains.{chain_says, ◌also◌}
use Rattle.octets.proofs.Names.{same_eq, same_yes}
use Rattle.octets.proofs.Numbers.{Bytes}
use Rattle.octets.proofs.Runs.{zero_at, at_zero, past_zero}
use Rattle.record.specs.Fields.{server_of, server_size}
use Rattle.blocks.specs.Sealed.{sealed}
use Rattle.blocks.proofs.Sealed.{sealed_zero, sealed_held}
use Rattle.rewrite.specs.Change.{differ}
use Rattle.rewrite.specs.Renew.{renewed}
use Rattle.rewrite.proofs.Bytes.{drafted, drafted_length, renewed_state, renewed_bits, renewed_name, renewed_stores}

-- A name that is put where it stands.
name_held : (s : List ℕ) (at : ℕ) (name : List ℕ) (n : ℕ) → ((j : ℕ) → j < n → get_or name j 0 ≡ get_or s (at + j) 0) → put_name s at name n ≡ s
unfolding put_name
name_held s at name zero h = refl
name_held s at name (suc n) h = rw (name_held s at name n (λ j l. h j (omega arith)), h n (omega arith)) (set-get_or s (at + n) 0)

module _ (b : List ℕ) (state bits : ℕ) (name : List ℕ) (bytes : Bytes b) (whole : length b ≡ 512) (most : length name ≤ 96) where
  pub server_size_lem : server_of b ≡ name → length name ≡ get_or b 15 0
  unfolding server_of
  server_size_lem e =
      let l : length (take (server_size b) (drop 272 b)) ≡ length name = ap length e in
      omega (arith, simp (length-take, length-drop) at l)

  field_held : server_of b ≡ name → zero_between b (272 + length name) 368 ≡ true → (j : ℕ) → j < 96 → get_or name j 0 ≡ get_or b (272 + j) 0
  unfolding server_of
  field_held e z j h = go (ltb j (length name)) refl
    where
      go : (x : Bool) → ltb j (length name) ≡ x → get_or name j 0 ≡ get_or b (272 + j) 0
      go true f =
          let l : j < server_size b = omega (arith, server_size_lem e, ltb-true j (length name) f) in
          ap (λ (v : List ℕ). get_or v j 0) (sym e) ∙ get_or-take (server_size b) (drop 272 b) j 0 l ∙ get_or-drop 272 b j 0
      go false f =
          let l : length name ≤ j = ltb-false j (length name) f in
          sym (past_zero name j l) ∙ sym (zero_at b (272 + length name) 368 z (272 + j) (omega arith) (omega arith))

  drafted_held : get_or b 8 0 ≡ state → get_or b 9 0 ≡ bits → server_of b ≡ name → zero_between b (272 + length name) 368 ≡ true → drafted b state bits name ≡ b
  drafted_held u v e z =
      rw (← u, ← v, server_size_lem e, set-get_or b 8 0, set-get_or b 9 0, set-get_or b 15 0) (name_held b 272 name 96 (field_held e z))

  renewed_held : get_or b 8 0 ≡ state → get_or b 9 0 ≡ bits → server_of b ≡ name → zero_between b (272 + length name) 368 ≡ true → sum_words b 128 ≡ 0
      → renewed b state bits name ≡ b
  unfolding renewed
  renewed_held u v e z s = ap sealed (drafted_held u v e z) ∙ sealed_held b bytes s

  -- The tests, all of them.
  abbrev tests : Bool
  tests = eqb (get_or b 8 0) state && eqb (get_or b 9 0) bits && same (server_of b) name && zero_between b (272 + length name) 368 && eqb (sum_words b 128) 0

  tests_hold : tests ≡ true → renewed b state bits name ≡ b
  tests_hold e =
      let s = chain_says _ (_ ∷ _ ∷ _ ∷ _ ∷ []) e in
      renewed_held (eqb-true _ _ (s 0)) (eqb-true _ _ (s 1)) (same_eq _ _ (s 2)) (s 3) (eqb-true _ _ (s 4))

  renewed_zero : sum_words (renewed b state bits name) 128 ≡ 0
  unfolding renewed
  renewed_zero = sealed_zero (drafted b state bits name) (drafted_length b state bits name ∙ whole)

  tests_say : renewed b state bits name ≡ b → tests ≡ true
  tests_say e =
      let u : get_or b 8 0 ≡ state = ap (λ (v : List ℕ). get_or v 8 0) (sym e) ∙ renewed_state b state bits name whole in
      let v : get_or b 9 0 ≡ bits = ap (λ (v : List ℕ). get_or v 9 0) (sym e) ∙ renewed_bits b state bits name whole in
      let n : server_of b ≡ name = ap server_of (sym e) ∙ renewed_stores b state bits name whole most in
      let s : sum_words b 128 ≡ 0 = ap (λ (v : List ℕ). sum_words v 128) (sym e) ∙ renewed_zero in
      eq-eqb _ _ u also eq-eqb _ _ v also same_yes _ _ n also at_zero b (272 + length name) 368 zeros also eq-eqb _ _ s
    where
      past : (j : ℕ) → length name ≤ j → j < 96 → get_or b (272 + j) 0 ≡ 0
      past j h l = ap (λ (v : List ℕ). get_or v (272 + j) 0) (sym e) ∙ renewed_name b state bits name whole j l ∙ sym (past_zero name j h)

      zeros : (i : ℕ) → 272 + length name ≤ i → i < 368 → get_or b i 0 ≡ 0
      zeros i h l = let k : i ≡ 272 + (i - 272) = omega arith in rw k (past (i - 272) (omega arith) (omega arith))

  pub held_all : {v : List ℕ} {x y : Bool} {s : ℕ} → v ≡ server_of b → x ≡ same v name → y ≡ zero_between b (272 + length name) 368 → s ≡ sum_words b 128
      → (eqb (get_or b 8 0) state && eqb (get_or b 9 0) bits && x && y && eqb s 0) ≡ same b (renewed b state bits name)
  held_all ev ex ey es = rw (es, ey, ex, ev) (go tests (same b (renewed b state bits name)) refl refl)
    where
      go : (p q : Bool) → tests ≡ p → same b (renewed b state bits name) ≡ q → tests ≡ same b (renewed b state bits name)
      go true q e f = e ∙ sym (same_yes _ _ (sym (tests_hold e)))
      go false true e f = absurd (true≢false (sym (tests_say (sym (same_eq _ _ f))) ∙ e))
      go false false e f = e ∙ sym f

-- The block that is renewed, or left.
pub left_renewed : (b : List ℕ) (state bits : ℕ) (name : List ℕ) {x : Bool} → x ≡ same b (renewed b state bits name) → x ≡ true → b ≡ renewed b state bits name
left_renewed b state bits name e f = same_eq _ _ (sym e ∙ f)

pub renewed_differs : (b : List ℕ) (state bits : ℕ) (name : List ℕ) {x : Bool} {y : List ℕ} → x ≡ same b (renewed b state bits name) → x ≡ false
    → y ≡ renewed b state bits name → 1 ≡ differ b y
unfolding differ
renewed_differs b state bits name e f g = rw (g, ← e, f)
