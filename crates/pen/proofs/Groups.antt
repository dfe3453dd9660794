-- Groups: how long they are, and how their members are written.
use Rattle.octets.specs.Standard.{ℕ, zero, suc, ◌+◌, ◌*◌, ◌≤◌, ◌<◌, ◌/◌, add-one, arith, ◌≡◌, refl, ◌∙◌, List, [], ◌++◌}
use Rattle.octets.specs.Standard.{append_assoc, append-nil, ltb, length, take, drop, length-append, length-take, length-drop, get_or, drop-drop, ap}
use Rattle.std.specs.Simd.{first_chunks}
use Rattle.octets.specs.Run.{over, Wrote}
use Rattle.octets.proofs.Writes.{lent, back, then, named}
use Rattle.pen.specs.Bytes.{padding, word_bytes, head_bytes, vendor_head, copied, vendor_bytes, number_bytes, plain_head, plain_number, group, vendor_group}
use Rattle.pen.specs.Groups.{vendor_application, experimental, failed, failed_size, vendor_numbers, words, capabilities, capabilities_size, own_features}
use Rattle.pen.proofs.Sizes.{there_length, there_room, copied_length, vendor_head_length, group_length, vendor_group_length}
use Rattle.pen.proofs.Writers.{wrote_there, wrote_none}

pub application_length : (application : ℕ) → length (vendor_application application) ≡ 32
unfolding vendor_application group number_bytes
application_length application = refl

pub experimental_length : (n : ℕ) → length (experimental n) ≡ 32
unfolding experimental group number_bytes
experimental_length n = refl

pub failed_length : (a : List ℕ) → length (failed a) ≡ failed_size (length a)
unfolding failed
failed_length a = group_length 279 (copied a) ∙ rw copied_length

-- the group's length is 8 and two numbers of 12
pub wrote_pair : (code c m d n : ℕ) {b xs ys zs : List ℕ} {r t : ℕ} → Wrote (head_bytes code 64 32) b xs 8 → Wrote (number_bytes c m) (lent 8 xs) ys r
    → Wrote (number_bytes d n) (lent (8 + r) (back 8 xs ys)) zs t
    → Wrote (group code (number_bytes c m ++ number_bytes d n)) b (back (8 + r) (back 8 xs ys) zs) (8 + r + t)
unfolding group number_bytes
wrote_pair code c m d n p q s = then (then p q) s

pub wrote_failed : (d : List ℕ) {b xs ys : List ℕ} {r : ℕ} → Wrote (head_bytes 279 64 (failed_size (length d))) b xs 8 → Wrote (copied d) (lent 8 xs) ys r
    → Wrote (failed d) b (back 8 xs ys) (8 + r)
unfolding failed group
wrote_failed d p q = named (rw copied_length) refl (then p q)

-- 4 bytes of data have no padding
four_bytes : (code : ℕ) (d : List ℕ) → length d ≡ 4 → vendor_bytes code d ≡ vendor_head code 16 ++ d
unfolding vendor_bytes copied padding
four_bytes code d e = rw (e, append-nil)

word_length : (s : List ℕ) (i : ℕ) → 4 * i + 4 ≤ length s → length (take 4 (drop (4 * i) s)) ≡ 4
word_length s i h = simp (length-take, length-drop) (omega arith)

pub numbers_length : (code : ℕ) (s : List ℕ) (n : ℕ) → 4 * n ≤ length s → length (vendor_numbers code s n) ≡ 16 * n
unfolding vendor_numbers
numbers_length code s zero h = refl
numbers_length code s (suc n) h =
    simp (length-append, vendor_head_length) (omega (arith, numbers_length code s n (omega arith), word_length s n (omega arith)))

-- The turns of the loop that writes numbers.
pub wrote_no_number : (code : ℕ) (s b : List ℕ) → Wrote (vendor_numbers code s 0) b b 0
unfolding vendor_numbers over
wrote_no_number code s b = record { count = refl; bytes = refl }

-- word i, as the loop meets it
chunk_is : (s : List ℕ) (n i : ℕ) → i < n → get_or (first_chunks 4 n s) i [] ≡ take 4 (drop (4 * i) s)
chunk_is s zero i h = absurd (omega arith)
chunk_is s (suc n) zero h = refl
chunk_is s (suc n) (suc i) h =
    let e : 4 + 4 * i ≡ 4 * suc i = omega arith in
    chunk_is (drop 4 s) n i (omega arith) ∙ ap (take 4) (drop-drop (4 * i) 4 s ∙ ap (λ (m : ℕ). drop m s) e)

module _ (s : List ℕ) {ns : List (List ℕ)} (are : ns ≡ first_chunks 4 (length s / 4) s) (many : length ns ≡ length s / 4) (i : ℕ) (h : i < length ns) where
  pub number_is : get_or ns i [] ≡ take 4 (drop (4 * i) s)
  number_is = rw are (chunk_is s (length s / 4) i (omega arith))

  pub number_long : length (get_or ns i []) ≡ 4
  number_long = rw number_is (word_length s i (omega arith))

  pub wrote_next_number : (code : ℕ) {b xs ys : List ℕ} {n r : ℕ} → Wrote (vendor_numbers code s i) b xs n
      → Wrote (vendor_bytes code (get_or ns i [])) (lent n xs) ys r → Wrote (vendor_numbers code s (i + 1)) b (back n xs ys) (n + r)
  unfolding vendor_numbers
  wrote_next_number code p q =
      let w : List ℕ = take 4 (drop (4 * i) s) in
      rw (add-one i) (then p (named (rw number_is (four_bytes code w (word_length s i (omega arith)))) refl q))

pub wrote_all_numbers : (code : ℕ) (s : List ℕ) (i : ℕ) {b xs : List ℕ} {n : ℕ} → i ≡ words s → Wrote (vendor_numbers code s i) b xs n
    → Wrote (vendor_numbers code s (words s)) b xs n
wrote_all_numbers code s i e p = rw e at p

members_length : (m o : List ℕ) → length (vendor_numbers 604 m (words m) ++ vendor_numbers 605 o (words o)) ≡ 16 * words m + 16 * words o
members_length m o =
    simp length-append
    (omega (arith, numbers_length 604 m (words m) (omega arith), numbers_length 605 o (words o) (omega arith)))

pub capabilities_length : (m o : List ℕ) → length (capabilities m o) ≤ capabilities_size (words m) (words o)
unfolding capabilities
capabilities_length m o =
    let w : List ℕ = vendor_numbers 604 m (words m) ++ vendor_numbers 605 o (words o) in
    omega (arith, there_length (ltb 0 (words m + words o)) (vendor_group 603 w), vendor_group_length 603 w, members_length m o)

-- room for them where there are some
pub capabilities_room : (m o : List ℕ) {n : ℕ} → (words m + words o ≡ 0 → ⊥) → length (capabilities m o) ≤ n → capabilities_size (words m) (words o) ≤ n
unfolding capabilities
capabilities_room m o h r =
    let w : List ℕ = vendor_numbers 604 m (words m) ++ vendor_numbers 605 o (words o) in
    omega (arith, there_room (words m + words o) (vendor_group 603 w) (omega arith) r, vendor_group_length 603 w, members_length m o)

pub wrote_no_capabilities : (m o b : List ℕ) → words m + words o ≡ 0 → Wrote (capabilities m o) b b 0
unfolding capabilities
wrote_no_capabilities m o b h = wrote_none (words m + words o) _ b (omega arith)

pub wrote_capabilities : (m o : List ℕ) {b xs ys zs : List ℕ} {r t : ℕ} → (words m + words o ≡ 0 → ⊥)
    → Wrote (vendor_head 603 (capabilities_size (words m) (words o))) b xs 12
    → Wrote (vendor_numbers 604 m (words m)) (lent 12 xs) ys r
    → Wrote (vendor_numbers 605 o (words o)) (lent (12 + r) (back 12 xs ys)) zs t
    → Wrote (capabilities m o) b (back (12 + r) (back 12 xs ys) zs) (12 + r + t)
unfolding capabilities vendor_group
wrote_capabilities m o h p q s =
    let k : ℕ = capabilities_size (words m) (words o) in
    let l : 12 + length (vendor_numbers 604 m (words m) ++ vendor_numbers 605 o (words o)) ≡ k = omega (arith, members_length m o) in
    wrote_there (words m + words o) _ (omega arith) (named (append_assoc (vendor_head 603 k) _ _ ∙ rw l) refl (then (then p q) s))

-- the server's own list: a header of 12 bytes, a number of 12 and two of 16
pub features_length : (set : ℕ) → length (own_features set) ≡ 56
unfolding own_features plain_head plain_number number_bytes
features_length set = refl

pub wrote_features : (set : ℕ) {b xs ys zs us : List ℕ} {r s t : ℕ} → Wrote (head_bytes 628 128 56 ++ word_bytes 10415) b xs 12 → Wrote (number_bytes 266 10415) (lent 12 xs) ys r
    → Wrote (head_bytes 629 128 16 ++ word_bytes 10415 ++ word_bytes 1) (lent (12 + r) (back 12 xs ys)) zs s
    → Wrote (head_bytes 630 128 16 ++ word_bytes 10415 ++ word_bytes set) (lent (12 + r + s) (back (12 + r) (back 12 xs ys) zs)) us t
    → Wrote (own_features set) b (back (12 + r + s) (back (12 + r) (back 12 xs ys) zs) us) (12 + r + s + t)
unfolding own_features plain_head plain_number number_bytes
wrote_features set p q s t = then (then (then p q) s) t
