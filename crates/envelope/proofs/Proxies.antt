-- Every Proxy-Info, copied: one AVP, and the turns of the loop over the walk.
use Rattle.std.specs.Prelude.{Result, Ok, Err}
use Rattle.octets.specs.Standard.{ℕ, ◌+◌, ◌-◌, ◌≤◌, ◌<◌, ◌≡◌, refl, ap, List, ◌++◌, arith, length, drop, length-append, length-take, length-drop}
use Rattle.octets.specs.Standard.{eq-eqb, ne_eqb, mid_of, put_mid}
use Rattle.octets.specs.Run.{over, Wrote}
use Rattle.octets.proofs.Writes.{Going, going_more, going_end}
use Rattle.diameter.specs.Walk.{walk}
use Rattle.diameter.specs.Reader.{read_of, own_of}
use Rattle.diameter.specs.declared.Avp.{Avp}
use Rattle.diameter.proofs.Reading.{read_says, read_fault_says, walk_past}
use Rattle.pen.specs.Bytes.{copied, copied_size, if_there}
use Rattle.pen.proofs.Sizes.{copied_length}
use Rattle.reading.specs.Kinds.{kind_of, proxy_info}
use Rattle.envelope.specs.End.{proxy, proxies}

-- what was written fits where it stands
pub wrote_fits : {w b xs : List ℕ} {n : ℕ} → Wrote w b xs n → length xs ≡ length b → n ≤ length b
unfolding over
wrote_fits {w} {b} p e =
    let l : length (w ++ drop (length w) b) ≡ length b = rw (← p.bytes) e in
    omega (arith, p.count, simp (length-append, length-drop) at l)

module _ (a d : List ℕ) (k : ℕ) (kind : k ≡ kind_of d) where
  pub proxy_room : {m : ℕ} → k ≡ proxy_info → a ≡ d → length (proxy d) ≤ m → copied_size (length a) ≤ m
  unfolding proxy if_there
  proxy_room h e r = rw e (rw (← kind, eq-eqb k proxy_info h, copied_length d) at r)

  pub wrote_proxy : {b xs : List ℕ} {n : ℕ} → k ≡ proxy_info → a ≡ d → Wrote (copied a) b xs n → Wrote (proxy d) b xs n
  unfolding proxy if_there
  wrote_proxy h e w = rw (← kind, eq-eqb k proxy_info h, ← e) w

pub wrote_other : (d b : List ℕ) (k : ℕ) → k ≡ kind_of d → (k ≡ proxy_info → ⊥) → Wrote (proxy d) b b 0
unfolding proxy if_there over
wrote_other d b k kind h = rw (← kind, ne_eqb k proxy_info h) (record { count = refl; bytes = refl })

-- The loop's turns.
module _ (s : List ℕ) (at : ℕ) {b xs all : List ℕ} {n : ℕ} where
  pub proxies_end : length s ≤ at → Going b xs n (proxies (walk (drop at s))) all → Wrote all b xs n
  unfolding proxies
  proxies_end h g = going_end (rw (walk_past s at h) at g)

  module _ (r : Result Avp ℕ) (e : r ≡ read_of at (drop at s)) where
    pub proxies_fault : {p : ℕ} → at < length s → r ≡ Err p → Going b xs n (proxies (walk (drop at s))) all → Wrote all b xs n
    unfolding proxies
    proxies_fault h d g = going_end (rw (read_fault_says s at r e d h) at g)

    module _ (a : Avp) (d : r ≡ Ok a) (g : Going b xs n (proxies (walk (drop at s))) all) where
      step : Going b xs n (proxy (own_of s a) ++ proxies (walk (drop a.next s))) all
      unfolding proxies proxy
      step = rw (read_says s at r e a d).walked at g

      pub turn_room : length all ≤ length b → length xs ≡ length b → length (proxy (own_of s a)) ≤ length (mid_of n (length xs - n) xs)
      turn_room h k =
          let t = step in
          let w : length (t.done ++ (proxy (own_of s a) ++ proxies (walk (drop a.next s)))) ≡ length all = ap length t.whole in
          let c : n ≡ length t.done = t.wrote.count in
          simp (length-take, length-drop) (omega (arith, simp length-append at w))

      pub turn_more : {ys : List ℕ} {k : ℕ} → Wrote (proxy (own_of s a)) (mid_of n (length xs - n) xs) ys k
          → Going b (put_mid n (length xs - n) xs ys) (n + k) (proxies (walk (drop a.next s))) all
      turn_more w = going_more step w
