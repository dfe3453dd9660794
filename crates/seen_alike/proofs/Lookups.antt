-- Tables of which a request sees the same give like answers to its look-ups.
use Rattle.octets.specs.Standard.{ℕ, zero, suc, ◌+◌, ◌<◌, ◌≤◌, Bool, true, false, ◌&&◌, not, true≢false, ◌≡◌, refl, sym, ◌∙◌, ap, List, arith, eqb, ltb}
use Rattle.octets.specs.Name.{same}
use Rattle.octets.proofs.Names.{same_eq, same_yes, same_no}
use Rattle.record.specs.Fields.{networks_of, bits_of, private_of, server_size, set_of, barred}
use Rattle.record.specs.Sets.{same_set}
use Rattle.blocks.specs.Blocks.{block_of}
use Rattle.table.specs.Named.{private_at}
use Rattle.lookup.specs.Find.{is_at, private_is, find_private, server_here, serves_at, find_server, free_here, free_at, find_free, barred_alone}
use Rattle.lookup.specs.Network.{network_is, seek, network_number, may_roam}
use Rattle.seen_alike.specs.Shown.{SameHeader, SameRecord, SameSight, numbers_up_to, Each, FoundAlike}
use Rattle.seen_alike.proofs.Rows.{numbers_same, numbers_each, first_each, at_each}

-- Visited networks.
seek_same : (p q : ℕ → Bool) (n i : ℕ) → ((j : ℕ) → i ≤ j → j < i + n → p j ≡ q j) → seek p n i ≡ seek q n i
unfolding seek
seek_same p q zero i h = refl
seek_same p q (suc n) i h = rw (h i (omega arith) (omega arith), seek_same p q n (suc i) (λ j a b. h j (omega arith) (omega arith)))

number_same : (h g name : List ℕ) → SameHeader h g → network_number h (networks_of h) name ≡ network_number g (networks_of g) name
unfolding network_number network_is
number_same h g name like =
    rw (← like.networks)
    (seek_same (network_is h name) (network_is g name) (networks_of h) 0 (λ j a b. ap (λ (l : List ℕ). same l name) (like.names j (omega arith))))

pub roam_same : (file other h g b c name : List ℕ) → SameHeader h g → SameRecord file other b c → may_roam h b name ≡ may_roam g c name
unfolding may_roam
roam_same file other h g b c name header like = rw (number_same h g name header, header.networks, like.roaming)

-- The set of a record is in its subscription: the others of it that are not barred, among the records of its private identity.
same_turned : (s t : List ℕ) → same s t ≡ same t s
same_turned s t = go (same s t) refl
  where
    go : (x : Bool) → same s t ≡ x → x ≡ same t s
    go true e = sym (same_yes t s (sym (same_eq s t e)))
    go false e = sym (same_no t s (λ q. true≢false (sym (same_yes s t (sym q)) ∙ e)))

abbrev free_of : List ℕ → List ℕ → Bool
free_of b c = ltb 0 (set_of b) && eqb (set_of b) (set_of c) && not (barred (bits_of c))

and_turned : (a b s n : Bool) → (a && b && s && n) ≡ (a && b && n && s)
and_turned false b s n = refl
and_turned true false s n = refl
and_turned true true true true = refl
and_turned true true true false = refl
and_turned true true false true = refl
and_turned true true false false = refl

free_here_lem : (t b : List ℕ) (k : ℕ) → free_at t b k ≡ (free_of b (block_of t k) && private_is t (private_of b) k)
unfolding free_at free_here same_set private_is private_at
free_here_lem t b k =
    rw (same_turned (private_of (block_of t k)) (private_of b))
    (and_turned (ltb 0 (set_of b)) (eqb (set_of b) (set_of (block_of t k))) (same (private_of b) (private_of (block_of t k))) (not (barred (bits_of (block_of t k)))))

module _ {file other t u : List ℕ} {count many : ℕ} {Like : ℕ → ℕ → Type 0} {Public Private : List ℕ → Type 0}
    (sight : SameSight file other t u count many Like Public Private) where
  pub private_alike : (name : List ℕ) → Private name → FoundAlike Like (find_private t count name) (find_private u many name)
  unfolding find_private
  private_alike name a = first_each Like (private_is t name) (private_is u name) count many (sight.owned name a)

  pub private_known : (name : List ℕ) → Private name → is_at (find_private t count name) ≡ is_at (find_private u many name)
  private_known name a = at_each Like (find_private t count name) (find_private u many name) (private_alike name a)

  abbrev named : List ℕ → ℕ → Bool
  named x k = ltb 0 (server_size (block_of x k))

  pub server_alike : (name : List ℕ) → Private name → FoundAlike Like (find_server t count name) (find_server u many name)
  unfolding find_server serves_at server_here private_is private_at
  server_alike name a =
      first_each Like (serves_at t name) (serves_at u name) count many
      (numbers_each Like (named t) (named u) (private_is t name) (private_is u name) count many (λ j k l. ap (ltb 0) (sight.shown j k l).size)
      (sight.owned name a))

  -- sets
  pub set_alike : (j k m n : ℕ) → Like j m → Like k n → same_set (block_of t j) (block_of t k) ≡ same_set (block_of u m) (block_of u n)
  unfolding same_set
  set_alike j k m n l r =
      let x : SameRecord file other (block_of t j) (block_of u m) = sight.shown j m l in
      let y : SameRecord file other (block_of t k) (block_of u n) = sight.shown k n r in
      rw (x.set, x.private, y.set, y.private)

  free_alike : (b c : List ℕ) → SameRecord file other b c → Private (private_of b) → is_at (find_free t count b) ≡ is_at (find_free u many c)
  unfolding find_free
  free_alike b c s a = at_each Like (find_free t count b) (find_free u many c) (first_each Like (free_at t b) (free_at u c) count many row)
    where
      row : Each Like (numbers_up_to (free_at t b) count) (numbers_up_to (free_at u c) many)
      row =
          rw (
            numbers_same (free_at t b) (λ k. free_of b (block_of t k) && private_is t (private_of b) k) count (λ k x y. free_here_lem t b k),
            numbers_same (free_at u c) (λ k. free_of c (block_of u k) && private_is u (private_of c) k) many (λ k x y. free_here_lem u c k),
            ← s.private,
          )
          (numbers_each Like (λ k. free_of b (block_of t k)) (λ k. free_of c (block_of u k)) (private_is t (private_of b)) (private_is u (private_of b)) count many
          (λ j k l. rw (s.set, (sight.shown j k l).set, (sight.shown j k l).bits)) (sight.owned (private_of b) a))

  pub barred_alike : (b c : List ℕ) → SameRecord file other b c → Private (private_of b) → barred_alone t count b ≡ barred_alone u many c
  unfolding barred_alone
  barred_alike b c s a = rw (free_alike b c s a, s.bits)
