-- What the AVP reader answers at a place, in terms of the bytes from there on.
use Rattle.std.specs.Prelude.{ℕ, ◌+◌, ◌≤◌, ◌≡◌, List, cond, length, take, drop, Result, Ok, Err}
use Rattle.diameter.specs.Avp.{padded, avp_flags, avp_head, avp_len, sound}
use Rattle.diameter.specs.declared.Avp.{Avp}
use Rattle.diameter.specs.declared.Span.{Span}

-- the bytes of a message from a place on, up to an end
unfoldable pub between : List ℕ → ℕ → ℕ → List ℕ
between s at end = drop at (take end s)

-- the AVP at the front of t, which stands at a place of a message
unfoldable pub avp_here : ℕ → List ℕ → Avp
avp_here at t = record { at = at; len = avp_len t; next = at + padded (avp_len t); head = avp_head t; flags = avp_flags t }

unfoldable pub read_of : ℕ → List ℕ → Result Avp ℕ
read_of at t = cond (sound t) (Ok (avp_here at t)) (Err at)

-- "at which byte of the message an AVP begins", one with a faulty length too
unfoldable pub begins_at : Result Avp ℕ → ℕ
begins_at (Ok a) = a.at
begins_at (Err at) = at

-- the bytes of an AVP that was read
abbrev pub own_of : List ℕ → Avp → List ℕ
own_of s a = take a.len (drop a.at s)

-- a whole AVP stands where it says
pub record Here (s : List ℕ) (a : Avp) : Type 0 where
  pub headed : a.head ≡ avp_head (drop a.at s)
  pub flagged : a.flags ≡ avp_flags (drop a.at s)
  pub eight : 8 ≤ a.head
  pub twelve : a.head ≤ 12
  pub least : a.head ≤ a.len
  pub room : a.at + a.len ≤ length s

-- such bytes stand there
pub record Spans (s d : List ℕ) (p : Span) : Type 0 where
  pub ordered : p.from ≤ p.end
  pub inside : p.end ≤ length s
  pub holds : between s p.from p.end ≡ d
