-- A small month: where is `a`, its removal, where is it now, an answer that strayed into the file, and 3 bytes. The calls, computed one by one.
use Rattle.std.specs.Prelude.{Result, Ok}
use Rattle.octets.specs.Standard.{ℕ, ◌≡◌, refl, sym, ap, ◌∙◌, List, [], ◌∷◌, ◌++◌, false, length, set, ltb, lit≤}
use Rattle.octets.specs.Run.{over}
use Rattle.table.specs.Check.{check_table}
use Rattle.rewrite.specs.Change.{differ, altered_up_to}
use Rattle.diameter.specs.Put.{All}
use Rattle.diameter.specs.Message.{command_of}
use Rattle.pen.specs.Bytes.{vendor_bytes, number_bytes}
use Rattle.pen.specs.Groups.{experimental}
use Rattle.reading.specs.declared.Outcome.{Outcome}
use Rattle.reading.specs.declared.Outcome.TheVariants.{Base, Experimental}
use Rattle.counting.specs.Event.{Event}
use Rattle.requests.specs.Request.{under_cx}
use Rattle.calling.specs.Call.{Answered, Refused}
use Rattle.calling.specs.Lent.{Lent, lent}
use Rattle.refusals.specs.Early.{small_buffer, check_value}
use Rattle.calling.specs.Serve.{Served, check_of, decision, result_of, serve_table}
use Rattle.calling.proofs.Areas.{serve_sound}
use Rattle.reporting.specs.Row.{event_by, event_of}
use Rattle.report_numbers.specs.File.{OneRequest, end_to_end}
use Rattle.demands.proofs.Demands.{demand_2_room}
use Rattle.worked_examples.proofs.Computed.{come, roomy, no_vectors, registered_sound, unregistered_sound}
use Rattle.worked_examples.proofs.Sample.{room, request, reply, answer, common, assignment, one, s, opened}
use Rattle.std.specs.Prelude.{Err}

-- a LIR and a SAR of type 5 for `a`; a message with the R bit clear
unfoldable pub lir : List ℕ
lir = request 302 (common ++ vendor_bytes 601 (0x61 ∷ []))

unfoldable pub removal : List ℕ
removal = assignment 5 s

unfoldable pub strayed : List ℕ
strayed = set (request 302 []) 4 0x40

abbrev pub messages : List (List ℕ)
messages = lir ∷ removal ∷ lir ∷ strayed ∷ []

abbrev pub scrap : List ℕ
scrap = 0x01 ∷ 0x00 ∷ 0x00 ∷ []

unfoldable pub file : List ℕ
file = end_to_end messages ++ scrap

-- the table: `a` registered at `s`, and not registered; the buffer, as each answer leaves it
unfoldable pub here : List ℕ
here = one 0 1 s

unfoldable pub gone : List ℕ
gone = one 0 0 []

unfoldable pub located : List ℕ
located = over (reply 302 (number_bytes 268 2001) (vendor_bytes 602 s)) room

unfoldable pub removed : List ℕ
removed = over (answer (number_bytes 268 2001) []) located

unfoldable pub sought : List ℕ
sought = over (reply 302 (experimental 5003) []) removed

unfoldable pub month : Lent
month = lent file here [] [] room (under_cx 3588 0)

-- what is lent to each call
abbrev pub lending : List ℕ → List ℕ → List ℕ → Lent
lending message table buffer = lent message table [] [] buffer (under_cx 3588 0)

-- all that a call opens
unfoldable pub all : ℕ
unfolding opened lir removal strayed here gone located removed sought altered_up_to differ
all = 0

pub sound_here : check_table here 0 ≡ Ok 1
unfolding here
sound_here = registered_sound

pub sound_gone : check_table gone 0 ≡ Ok 1
unfolding gone
sound_gone = unregistered_sound

-- each message is one request by its length
pub each : All OneRequest messages
unfolding all
each = (
  record { own = refl; least = lit≤ tt },
  (
    record { own = refl; least = lit≤ tt },
    (record { own = refl; least = lit≤ tt }, (record { own = refl; least = lit≤ tt }, tt)),
  ),
)

-- what each call comes to
abbrev pub leaves : ℕ → List ℕ → List ℕ → List ℕ → Served
leaves length table vectors buffer = record { call = Answered (record { length = length; place = 0 }); table = table; vectors = vectors; buffer = buffer }

abbrev pub comes : ℕ → List ℕ → List ℕ → Served
comes length table buffer = leaves length table [] buffer

-- a call leaves a buffer of the least room as long as it was
pub stays : (x : Lent) (length : ℕ) (table vectors buffer : List ℕ) → serve_table x ≡ leaves length table vectors buffer → check_of x ≡ Ok 1
    → small_buffer x.buffer ≡ false → small_buffer buffer ≡ false
stays x length table vectors buffer e sound h =
    ap (λ (y : Served). small_buffer y.buffer) (sym (serve_sound x 1 sound ∙ e)) ∙ ap (λ (n : ℕ). ltb n 36864) (demand_2_room x) ∙ h

pub located_comes : serve_table (lending lir here room) ≡ comes 132 here located
unfolding all
located_comes = come (lending lir here room) roomy sound_here no_vectors refl

located_roomy : small_buffer located ≡ false
located_roomy = stays (lending lir here room) 132 here [] located located_comes sound_here roomy

pub removed_comes : serve_table (lending removal here located) ≡ comes 116 gone removed
unfolding all
removed_comes = come (lending removal here located) located_roomy sound_here no_vectors refl

removed_roomy : small_buffer removed ≡ false
removed_roomy = stays (lending removal here located) 116 gone [] removed removed_comes sound_here located_roomy

pub sought_comes : serve_table (lending lir gone removed) ≡ comes 136 gone sought
unfolding all
sought_comes = come (lending lir gone removed) removed_roomy sound_gone no_vectors refl

sought_roomy : small_buffer sought ≡ false
sought_roomy = stays (lending lir gone removed) 136 gone [] sought sought_comes sound_gone removed_roomy

pub strayed_comes : serve_table (lending strayed gone sought) ≡ record { call = Refused 4 0; table = gone; vectors = []; buffer = sought }
unfolding all
strayed_comes = come (lending strayed gone sought) sought_roomy sound_gone no_vectors refl

-- and how each is counted
abbrev pub counts : ℕ → Outcome → ℕ → ℕ → Event
counts command result length altered = Ok (record { command = command; result = result; length = length; altered = altered })

-- from what the call comes to, so that it is not computed again
pub counted_from : (x : Lent) (length : ℕ) (table vectors buffer : List ℕ) → serve_table x ≡ leaves length table vectors buffer → check_of x ≡ Ok 1
    → event_of x ≡ counts (command_of x.request) (decision x 1).given.verdict.result length (altered_up_to x.table table 1)
unfolding event_of
counted_from x length table vectors buffer e f =
    ap (λ (y : Served). event_by x y.call) e
    ∙ ap (λ (n : ℕ). counts (command_of x.request) (result_of x) length n)
    (ap (λ (y : Served). altered_up_to x.table y.table (check_value (check_of x))) e)
    ∙ ap (λ (c : Result ℕ ℕ). counts (command_of x.request) (decision x (check_value c)).given.verdict.result length
    (altered_up_to x.table table (check_value c))) f

pub located_counts : event_of (lending lir here room) ≡ counts 302 (Base 2001) 132 0
unfolding all
located_counts = counted_from (lending lir here room) 132 here [] located located_comes sound_here

pub removed_counts : event_of (lending removal here located) ≡ counts 301 (Base 2001) 116 1
unfolding all
removed_counts = counted_from (lending removal here located) 116 gone [] removed removed_comes sound_here

pub sought_counts : event_of (lending lir gone removed) ≡ counts 302 (Experimental 5003) 136 0
unfolding all
sought_counts = counted_from (lending lir gone removed) 136 gone [] sought sought_comes sound_gone

pub strayed_counts : event_of (lending strayed gone sought) ≡ Err 4
unfolding event_of
strayed_counts = rw strayed_comes
