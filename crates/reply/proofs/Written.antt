-- The pieces of an answer, each written by the writers of its AVPs, one after the other.
use Rattle.octets.specs.Standard.{ℕ, ◌+◌, ◌≤◌, ◌≡◌, refl, List, ◌++◌, Bool, true, false, arith, length}
use Rattle.octets.specs.Run.{over, Wrote}
use Rattle.octets.proofs.Writes.{lent, back, then, named}
use Rattle.record.specs.Fields.{private_of, public_of, server_of, mandatory_of, optional_of}
use Rattle.blocks.specs.Blocks.{block_of, of_block}
use Rattle.pen.specs.Bytes.{if_there}
use Rattle.pen.specs.Groups.{capabilities, own_features}
use Rattle.pen.proofs.Groups.{features_length}
use Rattle.diameter.specs.Message.{body_of}
use Rattle.requests.specs.Features.{list_called}
use Rattle.requests.specs.Request.{session_of}
use Rattle.reading.specs.declared.Outcome.{Outcome}
use Rattle.reading.specs.declared.Terms.{Terms}
use Rattle.choices.specs.declared.Given.{Given}
use Rattle.items.specs.Items.{sent_bytes}
use Rattle.parts.specs.Profile.{profile_at}
use Rattle.envelope.specs.Front.{front_bytes, origin_bytes}
use Rattle.envelope.proofs.Rooms.{room_left, room_right}
use Rattle.reply.specs.Pieces.{named_bytes, vendor_named, list_bytes, top_bytes, identity_bytes, name_bytes, data_bytes, given_bytes}

-- Two AVPs of what was found in the table.
module _ (t x y : List ℕ) (g : Given) (ex : x ≡ of_block private_of t g.user) where
  pub user_room : {m : ℕ} → length (identity_bytes t g) ≤ m → length (named_bytes 1 x) ≤ m
  unfolding identity_bytes
  user_room r = rw ex (room_left (named_bytes 1 (of_block private_of t g.user)) (vendor_named 601 (of_block public_of t g.public)) r)

  module _ (ey : y ≡ of_block public_of t g.public) {b xs : List ℕ} {n : ℕ} (p : Wrote (named_bytes 1 x) b xs n) where
    pub public_room : length (identity_bytes t g) ≤ length b → length (vendor_named 601 y) ≤ length (lent n xs)
    unfolding identity_bytes
    public_room r = let q = rw ex at p in rw ey
        (room_right (named_bytes 1 (of_block private_of t g.user)) (vendor_named 601 (of_block public_of t g.public)) q r)

    pub wrote_identities : {ys : List ℕ} {r : ℕ} → Wrote (vendor_named 601 y) (lent n xs) ys r → Wrote (identity_bytes t g) b (back n xs ys) (n + r)
    unfolding identity_bytes
    wrote_identities q = named (rw (ex, ey)) refl (then p q)

module _ (t y : List ℕ) (g : Given) where
  pub identities_room : {m : ℕ} → length (name_bytes t g) ≤ m → length (identity_bytes t g) ≤ m
  unfolding name_bytes
  identities_room r = room_left (identity_bytes t g) (vendor_named 602 (of_block server_of t g.server)) r

  module _ (ey : y ≡ of_block server_of t g.server) {b xs : List ℕ} {n : ℕ} (p : Wrote (identity_bytes t g) b xs n) where
    pub server_room : length (name_bytes t g) ≤ length b → length (vendor_named 602 y) ≤ length (lent n xs)
    unfolding name_bytes
    server_room r = rw ey (room_right (identity_bytes t g) (vendor_named 602 (of_block server_of t g.server)) p r)

    pub wrote_names : {ys : List ℕ} {r : ℕ} → Wrote (vendor_named 602 y) (lent n xs) ys r → Wrote (name_bytes t g) b (back n xs ys) (n + r)
    unfolding name_bytes
    wrote_names q = named (rw ey) refl (then p q)

module _ (t file m o d : List ℕ) (g : Given) (em : m ≡ of_block mandatory_of t g.capable) (eo : o ≡ of_block optional_of t g.capable) where
  pub capable_room : {k : ℕ} → length (data_bytes t file g) ≤ k → length (capabilities m o) ≤ k
  unfolding data_bytes
  capable_room r =
      rw (em, eo) (room_left (capabilities (of_block mandatory_of t g.capable) (of_block optional_of t g.capable))
      (vendor_named 606 (profile_at t file g.profile)) r)

  module _ (ed : d ≡ profile_at t file g.profile) {b xs : List ℕ} {n : ℕ} (p : Wrote (capabilities m o) b xs n) where
    pub data_room : length (data_bytes t file g) ≤ length b → length (vendor_named 606 d) ≤ length (lent n xs)
    unfolding data_bytes
    data_room r =
        let q = rw (em, eo) at p in
        rw ed (room_right (capabilities (of_block mandatory_of t g.capable) (of_block optional_of t g.capable))
        (vendor_named 606 (profile_at t file g.profile)) q r)

    pub wrote_data : {ys : List ℕ} {r : ℕ} → Wrote (vendor_named 606 d) (lent n xs) ys r → Wrote (data_bytes t file g) b (back n xs ys) (n + r)
    unfolding data_bytes
    wrote_data q = named (rw (em, eo, ed)) refl (then p q)

-- The own list, where it is called for.
module _ (terms : Terms) (req : List ℕ) {listed : Bool} (is : listed ≡ list_called terms req) where
  pub list_room : {m : ℕ} → listed ≡ true → length (list_bytes terms req) ≤ m → 56 ≤ m
  unfolding list_bytes if_there
  list_room e h = let k = rw (← is, e, features_length terms.features) at h in k

  pub list_most : {m r : ℕ} → r ≡ 56 → listed ≡ true → length (list_bytes terms req) ≤ m → r ≤ m
  list_most z e h = omega (arith, z, list_room e h)

  pub wrote_list : {b xs : List ℕ} {r : ℕ} → listed ≡ true → Wrote (own_features terms.features) b xs r → Wrote (list_bytes terms req) b xs r
  unfolding list_bytes if_there
  wrote_list e w = rw (← is, e) w

  pub wrote_no_list : (b : List ℕ) → listed ≡ false → Wrote (list_bytes terms req) b b 0
  unfolding list_bytes if_there over
  wrote_no_list b e = rw (← is, e) (record { count = refl; bytes = refl })

-- One piece after another.
module _ (terms : Terms) (req t : List ℕ) where
  abbrev server : List ℕ
  server = origin_bytes (block_of t 0) ++ list_bytes terms req

  pub origin_first : {m : ℕ} → length server ≤ m → length (origin_bytes (block_of t 0)) ≤ m
  origin_first r = room_left (origin_bytes (block_of t 0)) (list_bytes terms req) r

  module _ {b xs : List ℕ} {n : ℕ} (p : Wrote (origin_bytes (block_of t 0)) b xs n) where
    pub called_room : length server ≤ length b → length (list_bytes terms req) ≤ length (lent n xs)
    called_room r = room_right (origin_bytes (block_of t 0)) (list_bytes terms req) p r

    pub wrote_server : {ys : List ℕ} {r : ℕ} → Wrote (list_bytes terms req) (lent n xs) ys r → Wrote server b (back n xs ys) (n + r)
    wrote_server q = then p q

  module _ (o : Outcome) where
    pub front_room : {m : ℕ} → length (top_bytes terms req t o) ≤ m → length (front_bytes terms (session_of (body_of req)) o) ≤ m
    unfolding top_bytes
    front_room r = room_left (front_bytes terms (session_of (body_of req)) o) server r

    module _ {b xs : List ℕ} {n : ℕ} (p : Wrote (front_bytes terms (session_of (body_of req)) o) b xs n) where
      pub origin_room : length (top_bytes terms req t o) ≤ length b → length server ≤ length (lent n xs)
      unfolding top_bytes
      origin_room r = room_right (front_bytes terms (session_of (body_of req)) o) server p r

      pub wrote_top : {ys : List ℕ} {r : ℕ} → Wrote server (lent n xs) ys r → Wrote (top_bytes terms req t o) b (back n xs ys) (n + r)
      unfolding top_bytes
      wrote_top q = then p q

module _ (t file v : List ℕ) (g : Given) where
  pub names_room : {m : ℕ} → length (given_bytes t file v g) ≤ m → length (name_bytes t g) ≤ m
  unfolding given_bytes
  names_room r = room_left (name_bytes t g) (sent_bytes v g.sent ++ data_bytes t file g) r

  module _ {b xs : List ℕ} {n : ℕ} (p : Wrote (name_bytes t g) b xs n) where
    pub contents_room : length (given_bytes t file v g) ≤ length b → length (sent_bytes v g.sent ++ data_bytes t file g) ≤ length (lent n xs)
    unfolding given_bytes
    contents_room r = room_right _ _ p r

    pub wrote_given : {ys : List ℕ} {r : ℕ} → Wrote (sent_bytes v g.sent ++ data_bytes t file g) (lent n xs) ys r
        → Wrote (given_bytes t file v g) b (back n xs ys) (n + r)
    unfolding given_bytes
    wrote_given q = then p q
