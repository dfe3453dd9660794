-- Wrong servers of the Sh interface, and calls that are computed: at an input whose outcome is known, what a wrong server gives does not meet the promise,
-- whatever else it gives.
use Rattle.std.specs.Prelude.{Err}
use Rattle.octets.specs.Standard.{ℕ, ◌≡◌, refl, sym, ap, ◌∙◌, ◌≢◌, List, [], ◌∷◌, ◌++◌, false, get_or, take, drop, set, replicate, arith}
use Rattle.octets.specs.Run.{over}
use Rattle.table.specs.Area.{table_in, check_area}
use Rattle.pen.specs.Bytes.{vendor_bytes, vendor_head, number_bytes}
use Rattle.pen.specs.Groups.{vendor_application, experimental, failed}
use Rattle.requests.specs.Request.{cx, sh}
use Rattle.user_data.specs.UserData.{opening, name_start, name_end, state_start, state_end, closing}
use Rattle.calling.specs.Call.{Refused}
use Rattle.ndushavire.specs.Word.{word, call_word}
use Rattle.ndushavire_sh.specs.Lent.{Lent, lent}
use Rattle.ndushavire_sh.specs.Promise.{ShDecidePromise}
use Rattle.ndushavire_sh.specs.Serve.{Served, sh_serve}
use Rattle.sh_example.proofs.Computed.{known, come, room, roomy, area, asking, served, leaves}
use Rattle.sh_example.proofs.Sample.{quotes, marks, request, common, udr, identity, outside, state, name, other, ask, reply, opened}

-- what a call leaves
record CallLeft : Type 0 where
  word : ℕ
  buffer : List ℕ

abbrev Server : Type 0
Server = Lent → CallLeft

-- the call meets the promise, given x
abbrev Meets : Server → Lent → Type 0
Meets f x = ShDecidePromise x (f x).word (f x).buffer

-- The true server, which shows that the inputs below are no trap.
truly : Server
truly x = record { word = call_word (sh_serve x).call; buffer = (sh_serve x).buffer }

truly_meets : (x : Lent) → Meets truly x
unfolding truly
truly_meets x = record { word_is = refl; buffer_is = refl }

-- What the promise leaves of a call whose outcome is known.
module _ (f : Server) where
  word_given : {x : Lent} {y : Served} → sh_serve x ≡ y → Meets f x → (f x).word ≡ call_word y.call
  word_given e p = p.word_is ∙ ap (λ (y : Served). call_word y.call) e

  buffer_given : {x : Lent} {y : Served} → sh_serve x ≡ y → Meets f x → (f x).buffer ≡ y.buffer
  buffer_given e p = p.buffer_is ∙ ap (λ (y : Served). y.buffer) e

-- the AVP of the result, 12 bytes or, if it is experimental, 32
verdict : ℕ → List ℕ → List ℕ
verdict size o = take size (drop 64 o)

-- One that is right but for one byte of its answers.
changed : ℕ → ℕ → Server
changed i v x = record { word = (truly x).word; buffer = set (truly x).buffer i v }

changed_fails : (i v : ℕ) (x : Lent) {y : Served} → sh_serve x ≡ y → get_or (set y.buffer i v) i 0 ≢ get_or y.buffer i 0 → Meets (changed i v) x → ⊥
unfolding changed truly
changed_fails i v x e h p =
    h (ap (λ (o : List ℕ). get_or o i 0) (sym (ap (λ (y : Served). set y.buffer i v) e) ∙ buffer_given (changed i v) e p))

-- 1. One that does not escape a quote: `d` is at `>"'`, and the name told must be `&gt;&quot;&apos;`.
name_in : List ℕ → List ℕ
name_in o = take 16 (drop 195 o)

quote_served : sh_serve (asking (ask 0x64 name))
    ≡ leaves 248 0 (reply (number_bytes 268 2001) (vendor_bytes 702 (opening ++ (name_start ++ (marks ++ (name_end ++ closing))))))
unfolding opened
quote_served = served (ask 0x64 name) refl

quote_fails : (f : Server) → name_in (f (asking (ask 0x64 name))).buffer ≢ marks → Meets f (asking (ask 0x64 name)) → ⊥
unfolding opened name_in
quote_fails f h p = h (ap name_in (buffer_given f quote_served p))

unescaping : Server
unescaping x =
    let text = opening ++ (name_start ++ (quotes ++ (name_end ++ closing))) in
    record { word = 236; buffer = over (reply (number_bytes 268 2001) (vendor_bytes 702 text)) x.buffer }

unescaping_fails : Meets unescaping (asking (ask 0x64 name)) → ⊥
unfolding opened unescaping name_in
unescaping_fails = quote_fails unescaping (λ e. omega (arith, ap (λ (o : List ℕ). get_or o 0 0) e))

-- 2. One that tells state 0 pending as 0: the digit of `c` must be 3.
abbrev pub state_data : ℕ → List ℕ
state_data digit = vendor_bytes 702 (opening ++ (state_start ++ (digit ∷ (state_end ++ closing))))

digit_in : List ℕ → ℕ
digit_in o = get_or o 198 0

pub pending_served : sh_serve (asking (ask 0x63 state)) ≡ leaves 240 0 (reply (number_bytes 268 2001) (state_data 0x33))
unfolding opened
pending_served = served (ask 0x63 state) refl

pending_fails : (f : Server) → digit_in (f (asking (ask 0x63 state))).buffer ≢ 0x33 → Meets f (asking (ask 0x63 state)) → ⊥
unfolding opened digit_in
pending_fails f h p = h (ap digit_in (buffer_given f pending_served p))

not_pending_fails : Meets (changed 198 0x30) (asking (ask 0x63 state)) → ⊥
unfolding opened
not_pending_fails = changed_fails 198 0x30 (asking (ask 0x63 state)) pending_served (λ e. omega (arith, e))

-- 3. One that answers with the Cx application, or any but Sh's, in 260.
application_in : List ℕ → List ℕ
application_in o = take 32 (drop 32 o)

application_fails : (f : Server) → application_in (f (asking (ask 0x63 state))).buffer ≢ vendor_application sh → Meets f (asking (ask 0x63 state)) → ⊥
unfolding opened application_in
application_fails f h p = h (ap application_in (buffer_given f pending_served p))

of_cx_fails : Meets (changed 63 0) (asking (ask 0x63 state)) → ⊥
unfolding opened
of_cx_fails = changed_fails 63 0 (asking (ask 0x63 state)) pending_served (λ e. omega (arith, e))

-- .. or that takes a request with the Cx application in its 260: B5004
foreign : Lent
foreign = asking (request 306 1 (common cx ++ (identity 0x61 ++ state)))

foreign_served : sh_serve foreign ≡ leaves 152 32 (reply (number_bytes 268 5004) (failed (vendor_application cx)))
unfolding opened foreign
foreign_served = served (request 306 1 (common cx ++ (identity 0x61 ++ state))) refl

foreign_fails : (f : Server) → verdict 12 (f foreign).buffer ≢ number_bytes 268 5004 → Meets f foreign → ⊥
unfolding opened verdict
foreign_fails f h p = h (ap (verdict 12) (buffer_given f foreign_served p))

-- 4. One that takes a 601 at the top level: `b` is there, and `a`, in the 700, must be told, whose digit is 1.
beside : Lent
beside = asking (udr (outside 128 0x62 ++ (identity 0x61 ++ state)))

beside_served : sh_serve beside ≡ leaves 240 0 (reply (number_bytes 268 2001) (state_data 0x31))
unfolding opened beside
beside_served = served (udr (outside 128 0x62 ++ (identity 0x61 ++ state))) refl

beside_fails : (f : Server) → digit_in (f beside).buffer ≢ 0x31 → Meets f beside → ⊥
unfolding opened digit_in
beside_fails f h p = h (ap digit_in (buffer_given f beside_served p))

of_b_fails : Meets (changed 198 0x30) beside → ⊥
unfolding opened
of_b_fails = changed_fails 198 0x30 beside beside_served (λ e. omega (arith, e))

-- .. alone, or with M
lone : Lent
lone = asking (udr (outside 128 0x61 ++ state))

lone_served : sh_serve lone ≡ leaves 132 0 (reply (number_bytes 268 5005) (failed (vendor_bytes 700 [])))
unfolding opened lone
lone_served = served (udr (outside 128 0x61 ++ state)) refl

lone_fails : (f : Server) → verdict 12 (f lone).buffer ≢ number_bytes 268 5005 → Meets f lone → ⊥
unfolding opened verdict
lone_fails f h p = h (ap (verdict 12) (buffer_given f lone_served p))

marked : Lent
marked = asking (udr (outside 192 0x62 ++ (identity 0x61 ++ state)))

marked_served : sh_serve marked ≡ leaves 136 112 (reply (number_bytes 268 5001) (failed (vendor_head 601 13 ++ (0x62 ∷ []))))
unfolding opened marked
marked_served = served (udr (outside 192 0x62 ++ (identity 0x61 ++ state))) refl

marked_fails : (f : Server) → verdict 12 (f marked).buffer ≢ number_bytes 268 5001 → Meets f marked → ⊥
unfolding opened verdict
marked_fails f h p = h (ap (verdict 12) (buffer_given f marked_served p))

-- 5. One that gives X5100, or anything else, before X5001: the identity is unknown, and the data reference is another.
pub neither_served : sh_serve (asking (ask 0x65 other)) ≡ leaves 132 0 (reply (experimental 5001) [])
unfolding opened
neither_served = served (ask 0x65 other) refl

order_fails : (f : Server) → verdict 32 (f (asking (ask 0x65 other))).buffer ≢ experimental 5001 → Meets f (asking (ask 0x65 other)) → ⊥
unfolding opened verdict
order_fails f h p = h (ap (verdict 32) (buffer_given f neither_served p))

reference_first_fails : Meets (changed 95 0xEC) (asking (ask 0x65 other)) → ⊥
unfolding opened
reference_first_fails = changed_fails 95 0xEC (asking (ask 0x65 other)) neither_served (λ e. omega (arith, e))

-- 6. One that writes past its answer.
past_fails : (f : Server) → drop 132 (f (asking (ask 0x65 other))).buffer ≢ drop 132 room → Meets f (asking (ask 0x65 other)) → ⊥
unfolding opened
past_fails f h p = h (ap (drop 132) (buffer_given f neither_served p))

-- .. or that looks past the count in its area, and refuses it by 5 or returns anything but the answer's length
longer_fails : (f : Server) → (f (asking (ask 0x65 other))).word ≢ word 0 0 132 → Meets f (asking (ask 0x65 other)) → ⊥
longer_fails f h p = h (word_given f neither_served p)

-- 7. One that says another place, or another length: a 703 of five bytes stands at 140.
unfoldable pub wide : Lent
wide = asking (ask 0x61 (vendor_bytes 703 (0 ∷ 0 ∷ 0 ∷ 0 ∷ 11 ∷ [])))

pub wide_served : sh_serve wide ≡ leaves 132 140 (reply (number_bytes 268 5014) (failed (vendor_head 703 12)))
unfolding opened wide
wide_served = served (ask 0x61 (vendor_bytes 703 (0 ∷ 0 ∷ 0 ∷ 0 ∷ 11 ∷ []))) refl

place_fails : (f : Server) → (f wide).word ≢ word 0 140 132 → Meets f wide → ⊥
place_fails f h p = h (word_given f wide_served p)

-- The refusals in their order: where one is given, all later ones hold too.
abbrev pub turned : ℕ → ℕ → Lent → Served
turned number besides x = record { call = Refused number besides; buffer = x.buffer }

-- a request of one byte, and nothing besides
unfoldable pub nothing : ℕ → Lent
nothing peer = lent (1 ∷ []) [] [] [] peer

-- over an area of no bytes
bare : List ℕ → Lent
bare req = lent req [] [] room 3588

bare_bad : check_area [] 0 ≡ Err 0
unfolding opened
bare_bad = refl

bare_table : table_in [] ≡ []
unfolding opened
bare_table = refl

bare_served : (req : List ℕ) {y : Served} → known false (Err 0) [] (bare req) ≡ y → sh_serve (bare req) ≡ y
unfolding bare
bare_served req e = come (bare req) roomy bare_bad bare_table e

pub peer_served : sh_serve (nothing 0) ≡ turned 12 0 (nothing 0)
unfolding opened nothing
peer_served = refl

refusals : (sh_serve (nothing 3588) ≡ turned 1 0 (nothing 3588))
    × (sh_serve (bare (1 ∷ [])) ≡ turned 2 0 (bare (1 ∷ [])))
    × (sh_serve (bare (replicate 20 0)) ≡ turned 3 0 (bare (replicate 20 0)))
    × (sh_serve (bare (set (ask 0x61 state) 4 0x40)) ≡ turned 4 0 (bare (set (ask 0x61 state) 4 0x40)))
    × (sh_serve (bare (ask 0x61 state)) ≡ turned 5 0 (bare (ask 0x61 state)))
unfolding opened nothing bare
refusals =
    (refl, bare_served (1 ∷ []) refl, bare_served (replicate 20 0) refl, bare_served (set (ask 0x61 state) 4 0x40) refl, bare_served (ask 0x61 state) refl)

-- 8. One that tries another refusal before 12, or does not try it.
peer_fails : (f : Server) → (f (nothing 0)).word ≢ word 12 0 0 → Meets f (nothing 0) → ⊥
peer_fails f h p = h (word_given f peer_served p)

-- 9. One that answers over an unsound table, or names another block than the first bad one, here block 2, or writes into the buffer.
unfoldable pub broken : Lent
broken = lent (ask 0x61 state) (set area 1024 9) [] room 3588

pub broken_bad : check_area (set area 1024 9) 0 ≡ Err 2
unfolding opened area
broken_bad = refl

pub broken_served : sh_serve broken ≡ turned 5 2 broken
unfolding opened broken
broken_served = come broken roomy broken_bad refl refl

block_fails : (f : Server) → (f broken).word ≢ word 5 0 2 → Meets f broken → ⊥
block_fails f h p = h (word_given f broken_served p)

untouched_fails : (f : Server) → (f broken).buffer ≢ broken.buffer → Meets f broken → ⊥
untouched_fails f h p = h (buffer_given f broken_served p)
