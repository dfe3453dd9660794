-- What the Sh server says: an identity that no record has, another data reference, and a record's name and state, told and read back; each both ways.
use Rattle.std.specs.Prelude.{Result}
use Rattle.octets.specs.Standard.{ℕ, zero, suc, ◌≤◌, ◌≡◌, refl, sym, ap, ◌∙◌, ◌≢◌, List, [], ◌∷◌, ◌++◌, none, some, true, false, arith, get_or, lit≤}
use Rattle.blocks.specs.Blocks.{block_of}
use Rattle.table.specs.Area.{table_in}
use Rattle.table.specs.Named.{public_at}
use Rattle.diameter.specs.Avp.{data_of}
use Rattle.pen.specs.Groups.{experimental}
use Rattle.reading.specs.Kinds.{user_identity}
use Rattle.reading.specs.Rules.{Seen}
use Rattle.reading.specs.declared.Outcome.{Outcome}
use Rattle.reading.specs.declared.Outcome.TheVariants.{Base, Experimental}
use Rattle.requests.specs.Judged.{Judged, bad, fine, nothing}
use Rattle.requests.specs.Request.{dialect_of, under_sh, read_sh, identity_of}
use Rattle.requests.proofs.Sole.{Asks}
use Rattle.refusals.specs.Early.{check_value}
use Rattle.refusals.specs.Trial.{any_holds}
use Rattle.markup.specs.Escapes.{none_bare}
use Rattle.user_data.specs.Elements.{inside, name_told, state_told}
use Rattle.user_data.specs.UserData.{name_start, name_end}
use Rattle.sh.specs.Tell.{tell}
use Rattle.ndushavire_sh.specs.Serve.{told_of, sh_serve}
use Rattle.sh_example.proofs.Computed.{held, roomy, area, area_sound, area_table, asking, leaves}
use Rattle.sh_example.proofs.Sample.{table, marks, state, name, other, ask, reply, opened}
use Rattle.sh_demands.specs.Call.{turned_away}
use Rattle.sh_demands.specs.Place.{result_of}
use Rattle.sh_demands.specs.Saying.{Holds, Known, Says}
use Rattle.sh_demands.proofs.Demands.{sh_unknown, sh_unknown_only, sh_other, sh_other_only, sh_says, sh_says_only, sh_identity}

-- what was seen of a request that was read
abbrev pub seen_in : Judged → Seen
seen_in (bad v) = nothing
seen_in (fine seen) = seen

abbrev pub seen_of : List ℕ → Seen
seen_of req = seen_in (read_sh (dialect_of (under_sh 3588) req) req)

-- Requests that were read: about `e`, which no record has, `a` with another reference besides, `d` for both, and `b` for both, which stores no name.
unfoldable pub unknown : List ℕ
unknown = ask 0x65 other

unfoldable another : List ℕ
another = ask 0x61 (state ++ other)

unfoldable both : List ℕ
both = ask 0x64 (state ++ name)

unfoldable unnamed : List ℕ
unnamed = ask 0x62 (state ++ name)

abbrev Read : List ℕ → Type 0
Read req = read_sh (dialect_of (under_sh 3588) req) req ≡ fine (seen_of req)

pub read_unknown : Read unknown
unfolding opened unknown
read_unknown = refl

read_another : Read another
unfolding opened another
read_another = refl

read_both : Read both
unfolding opened both
read_both = refl

read_unnamed : Read unnamed
unfolding opened unnamed
read_unnamed = refl

-- none of them is refused
abbrev Taken : List ℕ → Type 0
Taken req = turned_away (asking req) ≡ false

taken_unknown : Taken unknown
unfolding opened any_holds unknown
taken_unknown = held (asking unknown) roomy area_sound refl

taken_another : Taken another
unfolding opened any_holds another
taken_another = held (asking another) roomy area_sound refl

taken_both : Taken both
unfolding opened any_holds both
taken_both = held (asking both) roomy area_sound refl

taken_unnamed : Taken unnamed
unfolding opened any_holds unnamed
taken_unnamed = held (asking unnamed) roomy area_sound refl

-- the result over the area
pub result_so : (req : List ℕ) {r : Outcome} → (tell (dialect_of (under_sh 3588) req) req table 4).verdict.result ≡ r → result_of (asking req) ≡ r
result_so req e =
    ap (λ (c : Result ℕ ℕ). (told_of (asking req) (check_value c)).verdict.result) area_sound
    ∙ ap (λ (t : List ℕ). (tell (dialect_of (under_sh 3588) req) req t 4).verdict.result) area_table
    ∙ e

-- "THE ONE PUBLIC-IDENTITY": that of the 700 is `d`, its 601's data
named_both : identity_of (seen_of both) ≡ 0x64 ∷ []
unfolding opened both
named_both = refl

asks_both : Asks 601 user_identity (seen_of both)
asks_both = sh_identity (asking both) (seen_of both) read_both

met_identity : data_of asks_both.own ≡ 0x64 ∷ []
met_identity = sym asks_both.says ∙ named_both

-- X5001: no record has `e`. Each has a name of its own.
named_unknown : identity_of (seen_of unknown) ≡ 0x65 ∷ []
unfolding opened unknown
named_unknown = refl

other_name : (t : List ℕ) (k c : ℕ) → public_at t k ≡ c ∷ [] → c ≢ 0x65 → public_at t k ≢ (0x65 ∷ [])
other_name t k c e n f = n (ap (λ (l : List ℕ). get_or l 0 0) (sym e ∙ f))

absent : (k : ℕ) → 1 ≤ k → k ≤ 4 → public_at table k ≢ (0x65 ∷ [])
unfolding opened
absent zero f t = absurd (omega (arith, f))
absent (suc zero) f t = other_name table 1 0x61 refl (λ e. omega (arith, e))
absent (suc (suc zero)) f t = other_name table 2 0x62 refl (λ e. omega (arith, e))
absent (suc (suc (suc zero))) f t = other_name table 3 0x63 refl (λ e. omega (arith, e))
absent (suc (suc (suc (suc zero)))) f t = other_name table 4 0x64 refl (λ e. omega (arith, e))
absent (suc (suc (suc (suc (suc k))))) f t = absurd (omega (arith, t))

none_has : (k : ℕ) → Holds (asking unknown) 4 (identity_of (seen_of unknown)) k → ⊥
none_has k h = absent k h.from h.to (ap (λ (t : List ℕ). public_at t k) (sym area_table) ∙ h.named ∙ named_unknown)

met_unknown : sh_serve (asking unknown) ≡ leaves 132 0 (reply (experimental 5001) [])
unfolding opened unknown area
met_unknown = sh_unknown (asking unknown) 4 area_sound (seen_of unknown) read_unknown taken_unknown none_has

told_unknown : result_of (asking unknown) ≡ Experimental 5001
unfolding opened unknown
told_unknown = result_so unknown refl

met_unknown_only : (k : ℕ) → Holds (asking unknown) 4 (identity_of (seen_of unknown)) k → ⊥
met_unknown_only = sh_unknown_only (asking unknown) 4 area_sound (seen_of unknown) read_unknown told_unknown

-- X5100: record 1 has `a`, and one reference is 10.
has_a : Holds (asking another) 4 (identity_of (seen_of another)) 1
unfolding opened another area
has_a = record { from = lit≤ tt; to = lit≤ tt; named = refl }

met_other : sh_serve (asking another) ≡ leaves 132 0 (reply (experimental 5100) [])
unfolding opened another area
met_other = sh_other (asking another) 4 area_sound (seen_of another) read_another taken_another 1 has_a refl

told_another : result_of (asking another) ≡ Experimental 5100
unfolding opened another
told_another = result_so another refl

met_other_only : Known (asking another) 4 (identity_of (seen_of another)) true
met_other_only = sh_other_only (asking another) 4 area_sound (seen_of another) read_another told_another

-- B2001: record 4 has `d`, unregistered at `>"'`; and record 2 has `b`, not registered, at no server.
has_d : Holds (asking both) 4 (identity_of (seen_of both)) 4
unfolding opened both area
has_d = record { from = lit≤ tt; to = lit≤ tt; named = refl }

says_d : Says (asking both) (block_of (table_in area) 4) (sh_serve (asking both))
unfolding opened both
says_d = sh_says (asking both) 4 area_sound (seen_of both) read_both taken_both 4 has_d refl

met_says_name : name_told says_d.text ≡ some (0x3E ∷ 0x22 ∷ 0x27 ∷ [])
unfolding opened both area
met_says_name = says_d.name

-- between the tags `&gt;&quot;&apos;`, in which nothing is bare
met_says_shown : inside name_start name_end says_d.text ≡ some marks
unfolding opened both area
met_says_shown = says_d.shown

met_says_clean : none_bare marks ≡ true
met_says_clean = says_d.clean marks met_says_shown

met_says_state : state_told says_d.text ≡ some (0x32 ∷ [])
unfolding opened both area
met_says_state = says_d.state

has_b : Holds (asking unnamed) 4 (identity_of (seen_of unnamed)) 2
unfolding opened unnamed area
has_b = record { from = lit≤ tt; to = lit≤ tt; named = refl }

says_b : Says (asking unnamed) (block_of (table_in area) 2) (sh_serve (asking unnamed))
unfolding opened unnamed
says_b = sh_says (asking unnamed) 4 area_sound (seen_of unnamed) read_unnamed taken_unnamed 2 has_b refl

met_says_none : name_told says_b.text ≡ none
unfolding opened unnamed area
met_says_none = says_b.name

met_says_zero : state_told says_b.text ≡ some (0x30 ∷ [])
unfolding opened unnamed area
met_says_zero = says_b.state

told_both : result_of (asking both) ≡ Base 2001
unfolding opened both
told_both = result_so both refl

met_says_only : Known (asking both) 4 (identity_of (seen_of both)) false
met_says_only = sh_says_only (asking both) 4 area_sound (seen_of both) read_both told_both
