-- 02 [9], "The neighbour's line", for the Sh server, as theorems about `sh_serve`: another subscriber's doings show in no answer to a User-Data-Request.
use Rattle.std.specs.Prelude.{Ok, Option, Some, None}
use Rattle.octets.specs.Standard.{ℕ, ◌≤◌, List, false, ◌≡◌, refl, sym, ap, ◌∙◌, length, take, take_at, drop, le-ltb}
use Rattle.octets.specs.Run.{over}
use Rattle.record.specs.Fields.{public_of, pending}
use Rattle.blocks.specs.Blocks.{block_of}
use Rattle.table.specs.Area.{table_in, check_area}
use Rattle.table.specs.Named.{public_at}
use Rattle.table.specs.SoundTable.{SoundTable}
use Rattle.lookup.specs.Find.{public_is, find_public}
use Rattle.requests.specs.Request.{identity_of}
use Rattle.seen_alike.specs.Shown.{FoundAlike}
use Rattle.seen_alike.proofs.Rows.{first_each}
use Rattle.neighbour.proofs.Lines.{LineAt, line_rows, line_shows, line_roomy, header_shows}
use Rattle.refusals.specs.Early.{unknown_peer, small_buffer, wrong_size, wrong_length, no_request}
use Rattle.refusals.specs.Trial.{tried, any_holds}
use Rattle.refusals.proofs.Passing.{neither}
use Rattle.calling.specs.Call.{Answer, Answered}
use Rattle.ndushavire.specs.Reads.{call_value}
use Rattle.ndushavire_sh.specs.Lent.{Lent, terms_in}
use Rattle.ndushavire_sh.specs.Serve.{told_of, answer_of, refused, answered, serve_checked, sh_serve}
use Rattle.sh_demands.specs.Call.{turned_away}
use Rattle.sh_demands.specs.Shown.{SameFound, SameSight}
use Rattle.sh_demands.proofs.Demands.{sh_demand_2, sh_neighbours_line}
use Rattle.sh_demands.proofs.Refusing.{answered_taken}
use Rattle.sh_neighbour.specs.Asked.{SameAsked}

-- The front of the buffer that an answered call leaves is the answer.
bytes_left : (z : Lent) (n : ℕ) → check_area z.table (length z.profile) ≡ Ok n → turned_away z ≡ false
    → take (length (answer_of z n)) (sh_serve z).buffer ≡ answer_of z n
unfolding over
bytes_left z n s e =
    ap (take (length (answer_of z n))) (sh_demand_2 z n s e).1 ∙ take_at (answer_of z n) (drop (length (answer_of z n)) z.buffer) (length (answer_of z n)) refl

module _ (x y : Lent) (count many : ℕ) (first : check_area x.table (length x.profile) ≡ Ok count)
    (second : check_area y.table (length y.profile) ≡ Ok many) (asked : SameAsked x y count many) where
  abbrev t : List ℕ
  t = table_in x.table

  abbrev u : List ℕ
  u = table_in y.table

  -- the check of an area is that of the table at its front
  here : SoundTable t count
  unfolding check_area
  here = record { file = length x.profile; checked = first }

  there : SoundTable u many
  unfolding check_area
  there = record { file = length y.profile; checked = second }

  abbrev Like : ℕ → ℕ → Type 0
  Like = LineAt t u x.profile y.profile count many

  -- records that are the same line show the same of it
  found_shown : (f g : Option ℕ) → FoundAlike Like f g → SameFound t u f g
  found_shown (Some j) (Some k) l =
      let s = line_shows x.profile y.profile (block_of t j) (block_of u k) l.2 (line_roomy t count here j l.0) (line_roomy u many there k l.1) in
      record { state = s.state; pends = ap pending s.bits; server = s.server }
  found_shown (Some j) None l = absurd l
  found_shown None (Some k) l = absurd l
  found_shown None None l = tt

  same_sight : SameSight x.request x.peer t u count many
  unfolding find_public public_is public_at
  same_sight =
      let h = header_shows t u count many here there asked.header in
      record {
        host = h.host;
        realm = h.realm;
        found =
            λ seen e.
            found_shown (find_public t count (identity_of seen)) (find_public u many (identity_of seen))
            (first_each Like (public_is t (identity_of seen)) (public_is u (identity_of seen)) count many
            (line_rows t u x.profile y.profile count many public_of (identity_of seen) (asked.lines seen e)));
      }

  -- The same answer bytes, and the same place of the AVP at fault.
  same_answer : (answer_of x count ≡ answer_of y many) × ((told_of x count).verdict.place ≡ (told_of y many).verdict.place)
  same_answer =
      let s = sh_neighbours_line x.request x.peer x.table x.profile x.buffer y.table y.profile y.buffer count many same_sight in
      rw (← asked.request, ← asked.peer) s

  -- a buffer large enough is all that the second call needs to be answered too
  taken_too : turned_away x ≡ false → 36864 ≤ length y.buffer → turned_away y ≡ false
  unfolding any_holds
  taken_too e room =
      let a = neither (unknown_peer (terms_in x)) _ e in
      let b = neither (small_buffer x.buffer) _ a.1 in
      let c = neither (wrong_size x.request) _ b.1 in
      let d = neither (wrong_length x.request) _ c.1 in
      let f = neither (no_request x.request) _ d.1 in
      rw (second, ← asked.request, ← asked.peer, a.0, le-ltb (length y.buffer) 36864 room, c.0, d.0, f.0)

  -- THE THEOREM. Whatever other records the tables hold, the same request comes to the same: where the one call is answered, so is the other over any buffer
  -- that is large enough, with the same length and the same place, and it leaves the same answer bytes in its buffer.
  pub sh_neighbour : (a : Answer) → (sh_serve x).call ≡ Answered a → 36864 ≤ length y.buffer
      → ((sh_serve y).call ≡ Answered a) × (take a.length (sh_serve y).buffer ≡ take a.length (sh_serve x).buffer)
  sh_neighbour a e room =
      let p : turned_away x ≡ false = answered_taken x a e in
      let q : turned_away y ≡ false = taken_too p room in
      let l = sh_demand_2 x count first p in
      let r = sh_demand_2 y many second q in
      let same = same_answer in
      let long : a.length ≡ length (answer_of x count) = ap call_value (sym e ∙ l.0) in
      let call : (sh_serve y).call ≡ (sh_serve x).call = r.0 ∙ rw (← same.0, ← same.1) (sym l.0) in (
        call ∙ e,
        ap (λ (n : ℕ). take n (sh_serve y).buffer) (long ∙ ap length same.0)
            ∙ bytes_left y many second q
            ∙ sym same.0
            ∙ sym (bytes_left x count first p)
            ∙ ap (λ (n : ℕ). take n (sh_serve x).buffer) (sym long),
      )

  answered_alike : x.buffer ≡ y.buffer → answered x count ≡ answered y many
  unfolding answered
  answered_alike e = let same = same_answer in rw (same.0, same.1, e)

  -- Over buffers that are alike the two calls are the same, refusals too.
  pub sh_neighbour_same : x.buffer ≡ y.buffer → sh_serve x ≡ sh_serve y
  unfolding serve_checked tried refused
  sh_neighbour_same e = rw (first, second, answered_alike e, asked.request, asked.peer, e)
