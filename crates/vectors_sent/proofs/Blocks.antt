-- The blocks of the vector file after one call: each that was sent is marked, and every other is as it was.
use Rattle.octets.specs.Standard.{ℕ, ◌*◌, ◌/◌, ◌%◌, ◌<◌, ◌≤◌, min, List, [], Bool, true, false, true≢false, ◌≡◌, refl, sym, ap, ◌∙◌, ◌⊎◌, inl, inr}
use Rattle.octets.specs.Standard.{◌≢◌, arith, length, get_or, drop_of_length-le, eqb, ltb, eqb-true, ltb-true, ltb-false}
use Rattle.octets.specs.Name.{same}
use Rattle.octets.proofs.All.{and_left, and_right}
use Rattle.octets.proofs.Names.{same_eq}
use Rattle.blocks.specs.Blocks.{block_of}
use Rattle.blocks.proofs.Blocks.{block_length}
use Rattle.vectors.specs.Chosen.{unused_here, unused_at, unused_of}
use Rattle.vectors.specs.Sendable.{Rising}
use Rattle.blocks.specs.Changed.{is_one}
use Rattle.vectors.specs.Marked.{marked_used, spent}
use Rattle.vectors.specs.VectorBlock.{vector_of, card_of}
use Rattle.vectors.specs.VectorFile.{check_vectors}
use Rattle.vectors.proofs.Marks.{marked_other, marked_used_lem, spent_length}
use Rattle.vectors.proofs.Sound.{whole_blocks, block_fits}
use Rattle.vectors.proofs.Spent.{spent_kept, spent_marked, spent_sound}
use Rattle.vectors.proofs.Unused.{ones_many, ones_rise, ones_hold, ones_first}
use Rattle.calling.specs.Lent.{Lent}
use Rattle.calling.specs.Serve.{serve_table}
use Rattle.vectors_sent.specs.Sent.{sent_by, Challenges, user_of, asked_by, used_at, remaining}
use Rattle.vectors_sent.proofs.Calls.{Quiet, Sending, call_cases}

-- an unused vector of a name: what the test says
module _ (t name : List ℕ) (k : ℕ) (e : unused_at t name k ≡ true) where
  pub unused_byte : used_at t k ≡ 0
  unfolding unused_at unused_here vector_of
  unused_byte = eqb-true (used_at t k) 0 (and_left _ (same (card_of (block_of t k)) name) e)

  pub unused_name : card_of (block_of t k) ≡ name
  unfolding unused_at unused_here vector_of
  unused_name = same_eq (card_of (block_of t k)) name (and_right (eqb (used_at t k) 0) _ e)

-- past the end of files of one length, in whole blocks, there is nothing
past : (t u : List ℕ) (k : ℕ) → length u ≡ length t → length t % 512 ≡ 0 → length t / 512 ≤ k → block_of u k ≡ block_of t k
unfolding block_of
past t u k e w h = rw (drop_of_length-le t {i = 512 * k} (omega arith), drop_of_length-le u {i = 512 * k} (omega arith))

none_listed : (ks : List ℕ) (k : ℕ) → ks ≡ [] → is_one ks k ≡ true → ⊥
unfolding is_one
none_listed ks k e f = true≢false (sym f ∙ rw e)

module _ (x : Lent) where
  abbrev v : List ℕ
  v = x.vectors

  abbrev after : List ℕ
  after = (serve_table x).vectors

  abbrev count : ℕ
  count = length v / 512

  -- what is sent
  record Sent (k : ℕ) : Type 0 where
    within : k < count
    unused : unused_at v (user_of x) k ≡ true
    marks : block_of after k ≡ marked_used (block_of v k)

  module _ (s : Sending x) where
    listed_sent : (k : ℕ) → is_one (sent_by x) k ≡ true → Sent k
    unfolding unused_of
    listed_sent k e =
        let h = ones_hold (unused_at v (user_of x)) count 0 (min (asked_by x) 16) k (rw s.first at e) in
        let l : k < count = omega (arith, h.1) in
        record { within = l; unused = h.2; marks = rw s.marks (spent_marked v (whole_blocks v s.sound) (sent_by x) k l e) }

    unlisted_kept : (k : ℕ) → is_one (sent_by x) k ≡ false → block_of after k ≡ block_of v k
    unlisted_kept k e = rw s.marks (go (ltb k count) refl)
      where
        w : length v % 512 ≡ 0
        w = whole_blocks v s.sound

        go : (y : Bool) → ltb k count ≡ y → block_of (spent v (sent_by x)) k ≡ block_of v k
        go true f = spent_kept v w (sent_by x) k (ltb-true k count f) e
        go false f = past v (spent v (sent_by x)) k (spent_length v w (sent_by x)) w (ltb-false k count f)

  sent_case : (k : ℕ) → is_one (sent_by x) k ≡ true → Sent k
  sent_case k e = go (call_cases x)
    where
      go : Quiet x ⊎ Sending x → Sent k
      go (inl q) = absurd (none_listed (sent_by x) k q.none e)
      go (inr s) = listed_sent s k e

  -- a block that is not sent stays
  pub unsent_kept : (k : ℕ) → is_one (sent_by x) k ≡ false → block_of after k ≡ block_of v k
  unsent_kept k e = go (call_cases x)
    where
      go : Quiet x ⊎ Sending x → block_of after k ≡ block_of v k
      go (inl q) = rw q.kept
      go (inr s) = unlisted_kept s k e

  -- one that is sent is a block of the file, of the User-Name, unused before and used afterwards
  module _ (k : ℕ) (e : is_one (sent_by x) k ≡ true) where
    pub sent_within : k < count
    sent_within = (sent_case k e).within

    sent_whole : length (block_of v k) ≡ 512
    sent_whole = block_length v k (block_fits v k sent_within)

    pub sent_name : card_of (block_of v k) ≡ user_of x
    sent_name = unused_name v (user_of x) k (sent_case k e).unused

    pub sent_unused : used_at v k ≡ 0
    sent_unused = unused_byte v (user_of x) k (sent_case k e).unused

    pub sent_used : used_at after k ≡ 1
    sent_used = rw (sent_case k e).marks (marked_used_lem (block_of v k) sent_whole)

    pub sent_byte : (i : ℕ) → i ≢ 1 → i < 508 → get_or (block_of after k) i 0 ≡ get_or (block_of v k) i 0
    sent_byte i n h = rw (sent_case k e).marks (marked_other (block_of v k) i n h)

  -- of another name: it is none of those sent
  pub other_kept : (k : ℕ) → card_of (block_of v k) ≢ user_of x → block_of after k ≡ block_of v k
  other_kept k n = go (is_one (sent_by x) k) refl
    where
      go : (y : Bool) → is_one (sent_by x) k ≡ y → block_of after k ≡ block_of v k
      go true e = absurd (n (sent_name k e))
      go false e = unsent_kept k e

  -- the whole file
  pub length_kept : length after ≡ length v
  length_kept = go (call_cases x)
    where
      go : Quiet x ⊎ Sending x → length after ≡ length v
      go (inl q) = rw q.kept
      go (inr s) = rw s.marks (spent_length v (whole_blocks v s.sound) (sent_by x))

  pub check_kept : check_vectors after ≡ check_vectors v
  check_kept = go (call_cases x)
    where
      go : Quiet x ⊎ Sending x → check_vectors after ≡ check_vectors v
      go (inl q) = rw q.kept
      go (inr s) = rw s.marks (spent_sound v s.sound (sent_by x))

  -- each block once, in file order
  pub rising : Rising 0 (sent_by x)
  unfolding unused_of
  rising = go (call_cases x)
    where
      go : Quiet x ⊎ Sending x → Rising 0 (sent_by x)
      go (inl q) = rw q.none tt
      go (inr s) = rw s.first (ones_rise (unused_at v (user_of x)) count 0 (min (asked_by x) 16))

  -- A success: how many, and that none is passed over.
  module _ (c : Challenges x) where
    pub success_sends : Sending x
    success_sends = go (call_cases x)
      where
        go : Quiet x ⊎ Sending x → Sending x
        go (inl q) = absurd (q.apart c)
        go (inr s) = s

    pub success_number : length (sent_by x) ≡ min (asked_by x) (min (remaining v (user_of x)) 16)
    unfolding remaining unused_of
    success_number = ap length success_sends.first ∙ ones_many (unused_at v (user_of x)) count 0 (min (asked_by x) 16) ∙ omega arith

    pub success_first : (j k : ℕ) → k < count → unused_at v (user_of x) k ≡ true → is_one (sent_by x) k ≡ false → is_one (sent_by x) j ≡ true → j < k
    unfolding unused_of
    success_first j k h u e f =
        let first = success_sends.first in
        ones_first (unused_at v (user_of x)) count 0 (min (asked_by x) 16) k j (omega arith) (omega arith) u (rw first at e) (rw first at f)
