-- The reader's answer: from the numbers that the code has, and what it says of the bytes to a caller.
use Rattle.std.specs.Prelude.{Result, Ok, Err}
use Rattle.octets.specs.Standard.{ℕ, ◌+◌, ◌-◌, ◌≤◌, ◌<◌, ◌≡◌, refl, sym, ◌∙◌, subst, List, none, some, Bool, true, false, cond, arith, length, take}
use Rattle.octets.specs.Standard.{drop, get_or, length-take, length-drop, drop_of_length-le, get_or-drop, get_or-take, drop-drop, length-take-le}
use Rattle.octets.specs.Standard.{take-length, leb}
use Rattle.octets.specs.Number.{be24_at, be32_at}
use Rattle.octets.proofs.Numbers.{be24_drop, be24_take, be32_take}
use Rattle.diameter.specs.Avp.{padded, head_of, avp_code, avp_flags, avp_head, avp_len, vendor_of, sound}
use Rattle.diameter.specs.Walk.{ended, faulty, avp, walk}
use Rattle.diameter.specs.Reader.{between, avp_here, read_of, begins_at, own_of, Here}
use Rattle.diameter.specs.AvpAt.{avp_of, part_at}
use Rattle.diameter.specs.declared.Avp.{Avp}
use Rattle.diameter.proofs.Walks.{Sound, sound_says, sound_of, not_sound, walk_sound, walk_faulty, walk_nil, padded_least, head_least}
use Rattle.diameter.proofs.Walks.{head_most}

-- the header at a place, by places of the message, of which only what stands before an end is looked at
pub record SoundAt (s : List ℕ) (at end : ℕ) : Type 0 where
  pub eight : 8 ≤ head_of (get_or s (at + 4) 0)
  pub least : head_of (get_or s (at + 4) 0) ≤ be24_at s (at + 5)
  pub within : be24_at s (at + 5) ≤ end - at

module _ (s : List ℕ) (at end : ℕ) where
  left_most : length (drop at (take end s)) ≤ end - at
  left_most = simp (length-drop, length-take) (omega arith)

  module _ (room : at + 8 ≤ end) where
    flags_at : avp_flags (drop at (take end s)) ≡ get_or s (at + 4) 0
    flags_at = rw (get_or-drop at (take end s) 4 0, get_or-take end s (at + 4) 0 (omega arith))

    len_at : avp_len (drop at (take end s)) ≡ be24_at s (at + 5)
    len_at = rw (be24_drop (take end s) at 5, be24_take s end (at + 5) (omega arith))

  sound_at_lem : Sound (drop at (take end s)) → SoundAt s at end
  sound_at_lem h =
      let room : at + 8 ≤ end = omega (arith, left_most, h.eight, h.least, h.within) in
      record {
        eight = head_least _;
        least = rw (flags_at room, len_at room) at h.least;
        within = rw (← len_at room) (omega (arith, left_most, h.within));
      }

  pub read_fault : (SoundAt s at end → ⊥) → Err at ≡ read_of at (between s at end)
  unfolding read_of between
  read_fault never = rw (not_sound (drop at (take end s)) (λ w. never (sound_at_lem w)))

  module _ (fits : end ≤ length s) where
    at_sound : SoundAt s at end → sound (drop at (take end s)) ≡ true
    at_sound h =
        let room : at + 8 ≤ end = omega (arith, h.eight, h.least, h.within) in
        sound_of (drop at (take end s)) (record {
          eight = head_least _;
          least = rw (flags_at room, len_at room) h.least;
          within = rw (len_at room, length-drop, length-take-le end s fits) h.within;
        })

    pub read_whole : (len pad head flags : ℕ) → flags ≡ get_or s (at + 4) 0 → head ≡ head_of flags → len ≡ be24_at s (at + 5) → head ≤ len → len ≤ end - at
        → pad ≡ padded len
        → Ok (record { at = at; len = len; next = at + pad; head = head; flags = flags }) ≡ read_of at (between s at end)
    unfolding read_of avp_here between
    read_whole len pad head flags ef eh el p q en =
        let w : SoundAt s at end =
        record { eight = head_least _; least = subst (λ (f : ℕ). head_of f ≤ be24_at s (at + 5)) ef (omega arith); within = omega arith } in
        let room : at + 8 ≤ end = omega (arith, w.eight, w.least, w.within) in
        rw (at_sound w, len_at room, flags_at room, ← ef, ← eh, ← el, ← en)

-- up to the message's end
pub read_all : (s : List ℕ) (at : ℕ) (r : Result Avp ℕ) → r ≡ read_of at (between s at (length s)) → r ≡ read_of at (drop at s)
unfolding between
read_all s at r e = rw (take-length s) at e

avp_means : (b : Bool) (at : ℕ) (a x : Avp) → Ok a ≡ cond b (Ok x) (Err at) → (b ≡ true) × (a ≡ x)
avp_means true at a x e = (refl, cc)
avp_means false at a x e = let z : ◌≡◌ {A = ℕ} 0 1 = cc in absurd (omega arith)

fault_means : (b : Bool) (at p : ℕ) (x : Avp) → Err p ≡ cond b (Ok x) (Err at) → b ≡ false
fault_means true at p x e = let z : ◌≡◌ {A = ℕ} 0 1 = cc in absurd (omega arith)
fault_means false at p x e = refl

-- an AVP's header is in its own bytes
module _ (t : List ℕ) (n : ℕ) (h : avp_head t ≤ n) where
  pub flags_take : avp_flags (take n t) ≡ avp_flags t
  flags_take = get_or-take n t 4 0 (omega (arith, head_least (avp_flags t)))

  pub code_take : avp_code (take n t) ≡ avp_code t
  code_take = be32_take t n 0 (omega (arith, head_least (avp_flags t)))

  pub vendor_take : vendor_of (take n t) ≡ vendor_of t
  unfolding vendor_of head_of
  vendor_take = rw flags_take (go (leb 128 (avp_flags t)) h)
    where
      go : (b : Bool) → cond b 12 8 ≤ n → cond b (be32_at (take n t) 8) 0 ≡ cond b (be32_at t 8) 0
      go true p = be32_take t n 8 (omega arith)
      go false p = refl

-- an AVP that stands where it says: what its header has is in its own bytes
module _ (s : List ℕ) (a : Avp) (h : Here s a) where
  own_head : avp_head (drop a.at s) ≤ a.len
  own_head = rw (← h.headed) h.least

  pub own_flags : avp_flags (own_of s a) ≡ a.flags
  own_flags = flags_take (drop a.at s) a.len own_head ∙ sym h.flagged

  pub own_avp_head : avp_head (own_of s a) ≡ a.head
  own_avp_head = rw (flags_take (drop a.at s) a.len own_head) (sym h.headed)

  pub own_code : avp_code (own_of s a) ≡ avp_code (drop a.at s)
  own_code = code_take (drop a.at s) a.len own_head

  pub own_vendor : vendor_of (own_of s a) ≡ vendor_of (drop a.at s)
  own_vendor = vendor_take (drop a.at s) a.len own_head

-- whatever was looked at: the reader says the byte that it was asked of, of a whole AVP and of a fault; the next place is a later one
module _ (at : ℕ) (t : List ℕ) (r : Result Avp ℕ) (e : r ≡ read_of at t) where
  pub read_begins : begins_at r ≡ at
  unfolding read_of begins_at avp_here
  read_begins = rw e (go (sound t))
    where
      go : (b : Bool) → begins_at (cond b (Ok (avp_here at t)) (Err at)) ≡ at
      go true = refl
      go false = refl

  pub read_later : (a : Avp) → r ≡ Ok a → at < a.next
  unfolding read_of avp_here
  read_later a d =
      let m = avp_means (sound t) at a (avp_here at t) (sym d ∙ e) in
      let h = sound_says t m.0 in
      rw m.1 (omega (arith, padded_least (avp_len t), h.eight, h.least))

pub begins_whole : (r : Result Avp ℕ) (a : Avp) → r ≡ Ok a → a.at ≡ begins_at r
unfolding begins_at
begins_whole r a d = rw d

pub begins_fault : (r : Result Avp ℕ) (at : ℕ) → r ≡ Err at → at ≡ begins_at r
unfolding begins_at
begins_fault r at d = rw d

-- all that a whole AVP's answer says
pub record Says (s : List ℕ) (at : ℕ) (a : Avp) : Type 0 where
  pub placed : a.at ≡ at
  pub stepped : a.next ≡ at + padded a.len
  pub sounds : sound (drop at s) ≡ true
  pub here : Here s a
  pub walked : walk (drop at s) ≡ avp (own_of s a) (walk (drop a.next s))
  pub part : part_at s at ≡ some (own_of s a)
  pub later : at < a.next

module _ (s : List ℕ) (at : ℕ) (good : sound (drop at s) ≡ true) where
  avp_says : Says s at (avp_here at (drop at s))
  unfolding avp_here avp_of
  avp_says =
      let t = drop at s in
      let h = sound_says t good in
      let w : avp_len t ≤ length s - at = rw length-drop at h.within in
      record {
        placed = refl;
        stepped = refl;
        sounds = good;
        here =
            record {
              headed = refl;
              flagged = refl;
              eight = head_least _;
              twelve = head_most _;
              least = h.least;
              room = omega (arith, w, h.eight, h.least);
            };
        walked = walk_sound t good ∙ rw (drop-drop (padded (avp_len t)) at s);
        part = rw good;
        later = omega (arith, padded_least (avp_len t), h.eight, h.least);
      }

module _ (s : List ℕ) (at : ℕ) (r : Result Avp ℕ) (e : r ≡ read_of at (drop at s)) where
  pub read_says : (a : Avp) → r ≡ Ok a → Says s at a
  unfolding read_of
  read_says a d =
      let m = avp_means (sound (drop at s)) at a (avp_here at (drop at s)) (sym d ∙ e) in
      rw m.1 (avp_says s at m.0)

  pub read_here : (a : Avp) → r ≡ Ok a → Here s a
  read_here a d = (read_says a d).here

  module _ {p : ℕ} (d : r ≡ Err p) where
    pub read_unsound : sound (drop at s) ≡ false
    unfolding read_of
    read_unsound = fault_means (sound (drop at s)) at p (avp_here at (drop at s)) (sym d ∙ e)

    pub read_fault_says : at < length s → walk (drop at s) ≡ faulty (drop at s)
    read_fault_says h = walk_faulty (drop at s) read_unsound (rw length-drop (omega arith))

    pub read_none : part_at s at ≡ none
    unfolding avp_of
    read_none = rw read_unsound

-- at the end of the bytes there is nothing
pub walk_past : (s : List ℕ) (at : ℕ) → length s ≤ at → walk (drop at s) ≡ ended
walk_past s at h = rw (drop_of_length-le s h) walk_nil

pub none_past : (s : List ℕ) (at : ℕ) → length s ≤ at → part_at s at ≡ none
unfolding avp_of sound
none_past s at h = rw (drop_of_length-le s h)
