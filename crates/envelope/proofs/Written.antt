-- How every answer begins, and its header, each written by the writers of its parts.
use Rattle.octets.specs.Standard.{ℕ, ◌+◌, ◌*◌, ◌/◌, ◌%◌, ◌≤◌, ◌≡◌, refl, sym, ◌∙◌, List, arith, length, get_or, take, drop, length-append}
use Rattle.octets.specs.Standard.{length-drop, eq-eqb, ne_eqb}
use Rattle.octets.specs.Run.{Wrote}
use Rattle.octets.proofs.Writes.{lent, back, then, named}
use Rattle.record.specs.Fields.{host_of, realm_of}
use Rattle.pen.specs.Bytes.{copied_size, avp_bytes, avp_size, number_bytes}
use Rattle.pen.specs.Groups.{experimental}
use Rattle.pen.proofs.Sizes.{copied_length, avp_length, number_length}
use Rattle.pen.proofs.Groups.{application_length, experimental_length}
use Rattle.reading.specs.Verdicts.{number_of}
use Rattle.diameter.specs.Message.{body_of}
use Rattle.requests.specs.Request.{session_of}
use Rattle.reading.specs.declared.Outcome.{Outcome}
use Rattle.reading.specs.declared.Terms.{Terms}
use Rattle.reading.specs.declared.Outcome.TheVariants.{Base, Experimental}
use Rattle.envelope.specs.Front.{result_bytes, front_bytes, origin_bytes}
use Rattle.envelope.specs.Header.{flags_of, start_bytes, header_bytes}
use Rattle.envelope.proofs.Rooms.{room_left, room_right, wrote_most, wrote_within}
use Rattle.std.specs.Int.{to_be_bytes}
use Rattle.std.proofs.Common.{w64}
use Rattle.octets.proofs.Writes.{over_snoc}
use Rattle.octets.specs.Run.{over}
use Rattle.pen.proofs.Writers.{wrote_part}
use Rattle.octets.specs.Standard.{set, put_mid, length-take-le, length-drop, [], ◌∷◌, ◌/◌, ◌%◌, take, drop}

-- The result.
module _ (o : Outcome) (n : ℕ) where
  pub base_room : {m : ℕ} → o ≡ Base n → length (result_bytes o) ≤ m → 12 ≤ m
  unfolding result_bytes
  base_room e h = let k = rw e at h in omega (arith, number_length 268 n)

  pub experimental_room : {m : ℕ} → o ≡ Experimental n → length (result_bytes o) ≤ m → 32 ≤ m
  unfolding result_bytes
  experimental_room e h = let k = rw e at h in omega (arith, experimental_length n)

  pub base_count : {r : ℕ} → o ≡ Base n → r ≡ 12 → r ≡ length (result_bytes o)
  unfolding result_bytes
  base_count e h = rw e (h ∙ sym (number_length 268 n))

  pub experimental_count : {r : ℕ} → o ≡ Experimental n → r ≡ 32 → r ≡ length (result_bytes o)
  unfolding result_bytes
  experimental_count e h = rw e (h ∙ sym (experimental_length n))

  module _ {b xs : List ℕ} {r : ℕ} where
    pub wrote_base : o ≡ Base n → Wrote (number_bytes 268 n) b xs r → Wrote (result_bytes o) b xs r
    unfolding result_bytes
    wrote_base e w = rw e w

    pub wrote_experimental : o ≡ Experimental n → Wrote (experimental n) b xs r → Wrote (result_bytes o) b xs r
    unfolding result_bytes
    wrote_experimental e w = rw e w

-- Session-Id is the request's.
module _ (terms : Terms) (req session : List ℕ) (o : Outcome) (is : session ≡ session_of (body_of req)) where
  pub session_room : {m : ℕ} → length (front_bytes terms (session_of (body_of req)) o) ≤ m → copied_size (length session) + 32 + length (result_bytes o) + 12 ≤ m
  unfolding front_bytes
  session_room h =
      let k = simp length-append at (rw (← is) at h) in
      omega (arith, copied_length session, application_length terms.application, number_length 277 1)

  pub wrote_session : {b xs : List ℕ} {r : ℕ} → Wrote (front_bytes terms session o) b xs r → Wrote (front_bytes terms (session_of (body_of req)) o) b xs r
  wrote_session w = rw is at w

-- Origin-Host and Origin-Realm.
pub host_most : (h x : List ℕ) {b xs : List ℕ} {n : ℕ} → x ≡ host_of h → length (origin_bytes h) ≤ length b → Wrote (avp_bytes 264 x) b xs n → n ≤ length xs
unfolding origin_bytes
host_most h x {b} {xs} e r p =
    let k = room_left (avp_bytes 264 (host_of h)) (avp_bytes 296 (realm_of h)) r in
    let q = rw e at p in
    wrote_within q k

module _ (h x y : List ℕ) (ex : x ≡ host_of h) where
  pub host_room : {m : ℕ} → length (origin_bytes h) ≤ m → avp_size (length x) ≤ m
  unfolding origin_bytes
  host_room r = let k = room_left (avp_bytes 264 (host_of h)) (avp_bytes 296 (realm_of h)) r in rw ex (omega (arith, avp_length 264 (host_of h)))

  module _ (ey : y ≡ realm_of h) {b xs : List ℕ} {n : ℕ} (p : Wrote (avp_bytes 264 x) b xs n) where
    pub realm_room : length (origin_bytes h) ≤ length b → avp_size (length y) ≤ length (lent n xs)
    unfolding origin_bytes
    realm_room r =
        let q = rw ex at p in
        let k = room_right (avp_bytes 264 (host_of h)) (avp_bytes 296 (realm_of h)) q r in
        rw ey (omega (arith, avp_length 296 (realm_of h)))

    pub wrote_origin : {ys : List ℕ} {r : ℕ} → Wrote (avp_bytes 296 y) (lent n xs) ys r → Wrote (origin_bytes h) b (back n xs ys) (n + r)
    unfolding origin_bytes
    wrote_origin q = named (rw (ex, ey)) refl (then p q)

    pub origin_most : {ys : List ℕ} {r : ℕ} → length (origin_bytes h) ≤ length b → Wrote (avp_bytes 296 y) (lent n xs) ys r → n + r ≤ length b
    origin_most h q = wrote_most (wrote_origin q) h

-- The flags, and the header: five bytes, then fifteen of the request's.
module _ (flags n : ℕ) (result : Outcome) (is : n ≡ number_of result) where
  pub flags_error : n / 1000 ≡ 3 → flags / 64 % 2 * 64 + 32 ≡ flags_of flags result
  unfolding flags_of
  flags_error h = rw (← is, eq-eqb (n / 1000) 3 h)

  pub flags_plain : (n / 1000 ≡ 3 → ⊥) → flags / 64 % 2 * 64 ≡ flags_of flags result
  unfolding flags_of
  flags_plain h = rw (← is, ne_eqb (n / 1000) 3 h) (omega arith)

pub wrote_start : (n flags : ℕ) {b ys zs : List ℕ} → 5 ≤ length b → zs ≡ to_be_bytes w64 n → ys ≡ take 3 (drop 5 zs)
    → Wrote (start_bytes n flags) b (set (put_mid 1 3 (set b 0 1) ys) 4 flags) 5
unfolding over
wrote_start n flags {b} {ys} room e f =
    let three : List ℕ = n / 65536 % 256 ∷ n / 256 % 256 ∷ n % 256 ∷ [] in
    let one : Wrote (1 ∷ []) b (set b 0 1) 1 = record { count = refl; bytes = over_snoc [] b 0 1 refl (omega arith) } in
    let four : Wrote (1 ∷ three) b (put_mid 1 3 (set b 0 1) ys) 4 = wrote_part 1 3 one (rw e at f) refl in
    record { count = refl; bytes = rw four.bytes (over_snoc (1 ∷ three) b 4 flags refl (omega arith)) }

pub wrote_header : (req : List ℕ) (result : Outcome) (n flags : ℕ) {b xs ys : List ℕ} → 20 ≤ length req → flags ≡ flags_of (get_or req 4 0) result
    → Wrote (start_bytes n flags) b xs 5 → ys ≡ take 15 (drop 5 req) → Wrote (header_bytes req result n) b (put_mid 5 15 xs ys) 20
unfolding header_bytes
wrote_header req result n flags room e p f =
    named (rw e) refl (wrote_part 5 15 p f (length-take-le 15 (drop 5 req) (omega (arith, length-drop 5 req))))
