-- Demand 3 of the Sh server: its hypotheses can be met by a User-Data-Request and what is put into it, a 601 without M and a 602 with M, both unknown here.
use Rattle.octets.specs.Standard.{ℕ, ◌≡◌, refl, ap, ◌∙◌, Bool, true, false, ◌≤◌, List, [], ◌∷◌, ◌++◌, Option, none, some, length, set, lit≤}
use Rattle.diameter.specs.Put.{Piece, glue, bytes_of, avps_of}
use Rattle.pen.specs.Bytes.{word_bytes, head_bytes, vendor_head, vendor_bytes, number_bytes}
use Rattle.pen.specs.Groups.{failed}
use Rattle.reading.specs.Kinds.{use_of, is_unknown}
use Rattle.reading.specs.Rules.{rule}
use Rattle.reading.specs.declared.Dialect.{Dialect}
use Rattle.reading.specs.declared.Ruled.TheVariants.{Skipped}
use Rattle.requests.specs.Judged.{nothing}
use Rattle.requests.specs.Request.{sh, dialect_of, under_sh, header_fault_sh}
use Rattle.refusals.specs.Trial.{any_holds}
use Rattle.ndushavire_sh.specs.Lent.{Lent, terms_in}
use Rattle.ndushavire_sh.specs.Serve.{Served, sh_serve}
use Rattle.demands.specs.Insertion.{message, request_of, Foreign, Quiet, Inserted, ending, keep, put, put_before, place_now, FirstMarked, Cut, Longer}
use Rattle.demands.specs.Insertion.{fault_by, behind_row, Mark, first_mark}
use Rattle.demands.specs.Knowing.{is_among, kinds_of}
use Rattle.instances.proofs.Asked.{base, vendor, session, common, is_whole, all_whole, all_whole_lem, kept}
use Rattle.sh_example.proofs.Computed.{held, roomy, area, area_sound, asking, served, leaves}
use Rattle.sh_example.proofs.Sample.{reply, opened}
use Rattle.sh_example.proofs.Servers.{state_data}
use Rattle.sh_demands.specs.Call.{turned_away}
use Rattle.sh_demands.specs.Insertion as insertion
use Rattle.sh_demands.specs.Insertion.{placed, blaming, newer}
use Rattle.sh_demands.specs.Knowing.{kinds_of_sh}
use Rattle.sh_demands.proofs.Demands.{sh_kinds, sh_others, sh_features, sh_demand_3, sh_demand_3_unmarked, sh_demand_3_marked, sh_demand_3_fault}

-- A request for the state of `a`, with a 703 of some bytes: a header by the command's last byte, Session-Id and the row behind it.
unfoldable head_of : ℕ → List ℕ
head_of command =
    0x01 ∷ 0x00 ∷ 0x00 ∷ 0x00 ∷ 0xC0 ∷ 0x00 ∷ 0x01 ∷ command ∷ 0x01 ∷ 0x00 ∷ 0x00 ∷ 0x01 ∷ 0x00 ∷ 0x00 ∷ 0x00 ∷ 0x01
    ∷ 0x00 ∷ 0x00 ∷ 0x00 ∷ 0x02 ∷ []

unfoldable head : List ℕ
head = head_of 0x32

unfoldable other_head : List ℕ
other_head = head_of 0x2C

unfoldable application : Piece
application = base 260 (number_bytes 266 10415 ++ number_bytes 258 sh)

unfoldable own : List ℕ → List Piece
own reference = vendor 700 (vendor_bytes 601 (0x61 ∷ [])) ∷ vendor 703 reference ∷ []

unfoldable rest : List ℕ → List Piece
rest reference = application ∷ common ++ own reference

unfoldable right : List ℕ
right = word_bytes 11

unfoldable wide : List ℕ
wide = 0 ∷ 0 ∷ 0 ∷ 0 ∷ 11 ∷ []

abbrev asks : List ℕ → List Piece → List ℕ
asks top row = request_of top (session ∷ row) []

-- what is put in: a 601 of `b` without M, its padding no zeros; a 602 with M
unfoldable quiet : Piece
quiet = record { avp = head_bytes 601 128 13 ++ (word_bytes 10415 ++ (0x62 ∷ [])); pad = 1 ∷ 2 ∷ 3 ∷ [] }

unfoldable loud : Piece
loud = vendor 602 (0x73 ∷ [])

unfoldable all : ℕ
unfolding opened base vendor session common message glue bytes_of avps_of any_holds head_of head other_head application own rest right wide quiet loud
all = 0

-- THE KINDS: under 306 and under 300 the same thirteen.
met_kinds : kinds_of (record { command = 306; terms = under_sh 3588 }) ≡ kinds_of_sh
unfolding all
met_kinds = sh_kinds (asking (asks head (rest right)))

met_kinds_other : kinds_of (record { command = 300; terms = under_sh 3588 }) ≡ kinds_of_sh
unfolding all
met_kinds_other = sh_kinds (asking (asks other_head (rest right)))

-- a 601 and a 602 are none of these, so unknown; a 628 with M is skipped whatever it holds, here a byte
met_others : (is_unknown (use_of (dialect_of (under_sh 3588) head) quiet.avp) ≡ true) × (is_unknown (use_of (dialect_of (under_sh 3588) head) loud.avp) ≡ true)
unfolding all is_among
met_others = (sh_others (asking head) quiet.avp refl, sh_others (asking head) loud.avp refl)

met_features : rule (dialect_of (under_sh 3588) head) nothing (vendor 628 (0x61 ∷ [])).avp ≡ Skipped
unfolding all
met_features = sh_features (asking head) nothing (vendor 628 (0x61 ∷ [])).avp refl refl

-- so both can be put in, under any header
module _ (top : List ℕ) where
  abbrev dialect : Dialect
  dialect = dialect_of (under_sh 3588) top

  foreign_quiet : Foreign dialect quiet
  unfolding all
  foreign_quiet = record { whole = record { right = refl; exact = refl; filled = refl }; plain = refl; stranger = refl }

  foreign_loud : Foreign dialect loud
  unfolding all
  foreign_loud = record { whole = record { right = refl; exact = refl; filled = refl }; plain = refl; stranger = refl }

  is_quiet : Quiet dialect quiet
  unfolding all
  is_quiet = record { foreign = foreign_quiet; unmarked = refl }

  -- the 602 between a front and a back
  marked_at : (front back : List Piece) → FirstMarked dialect (front ++ back) (front ++ (loud ∷ back))
  unfolding all
  marked_at front back =
      record {
        mark = loud;
        front = front;
        back = back;
        before = front;
        after = back;
        row = refl;
        longer = refl;
        quiet = kept front;
        foreign = foreign_loud;
        marking = refl;
        rest = kept back;
      }

-- THE CALLS without them: the state of `a`; B5014 at 140; B3001, with the E bit and the header's command.
right_served : sh_serve (asking (asks head (rest right))) ≡ leaves 240 0 (reply (number_bytes 268 2001) (state_data 0x31))
unfolding all
right_served = served (asks head (rest right)) refl

wide_served : sh_serve (asking (asks head (rest wide))) ≡ leaves 132 140 (reply (number_bytes 268 5014) (failed (vendor_head 703 12)))
unfolding all
wide_served = served (asks head (rest wide)) refl

abbrev unspoken : Served
unspoken = leaves 112 0 (set (set (reply (number_bytes 268 3001) []) 4 0x60) 7 0x2C)

unspoken_served : sh_serve (asking (asks other_head (rest right))) ≡ unspoken
unfolding all
unspoken_served = served (asks other_head (rest right)) refl

-- UNMARKED: a 601 before the 700. The same answer; the 703 of five bytes then stands 16 bytes later; and under command 300 B3001 as before.
with_quiet : List ℕ → List Piece
with_quiet reference = application ∷ common ++ (quiet ∷ own reference)

put_quiet : (top reference : List ℕ) → Inserted (Quiet (dialect_of (under_sh 3588) top)) (rest reference) (with_quiet reference)
unfolding all with_quiet
put_quiet top reference = keep _ (keep _ (keep _ (keep _ (keep _ (put quiet (is_quiet top) (kept (own reference)))))))

met_3_unmarked : sh_serve (asking (asks head (with_quiet right))) ≡ leaves 240 0 (reply (number_bytes 268 2001) (state_data 0x31))
unfolding all is_whole all_whole with_quiet
met_3_unmarked =
    sh_demand_3_unmarked head refl session (rest right) (with_quiet right) (all_whole_lem (session ∷ rest right) refl) [] refl (lit≤ tt) (asking [])
    (put_quiet head right)
    ∙ ap (placed (place_now (keep session (put_quiet head right)))) right_served

met_3_moved : sh_serve (asking (asks head (with_quiet wide))) ≡ leaves 132 156 (reply (number_bytes 268 5014) (failed (vendor_head 703 12)))
unfolding all is_whole all_whole with_quiet put_quiet put_before kept
met_3_moved =
    sh_demand_3_unmarked head refl session (rest wide) (with_quiet wide) (all_whole_lem (session ∷ rest wide) refl) [] refl (lit≤ tt) (asking [])
    (put_quiet head wide)
    ∙ ap (placed (place_now (keep session (put_quiet head wide)))) wide_served

met_3_unspoken : sh_serve (asking (asks other_head (with_quiet right))) ≡ unspoken
unfolding all is_whole all_whole with_quiet
met_3_unspoken =
    sh_demand_3_unmarked other_head refl session (rest right) (with_quiet right) (all_whole_lem (session ∷ rest right) refl) [] refl (lit≤ tt) (asking [])
    (put_quiet other_head right)
    ∙ ap (placed (place_now (keep session (put_quiet other_head right)))) unspoken_served

-- MARKED: a 602 before the 700, and the 703 of five bytes behind it: B5001 for the 602, at 112.
unsupported : ℕ → Served
unsupported place = leaves 136 place (reply (number_bytes 268 5001) (failed (vendor_head 602 13 ++ (0x73 ∷ []))))

let_pass : turned_away (asking (asks head (rest wide))) ≡ false
unfolding all
let_pass = held (asking (asks head (rest wide))) roomy area_sound refl

met_3_marked : sh_serve (asking (asks head (application ∷ common ++ (loud ∷ own wide)))) ≡ unsupported 112
unfolding all is_whole all_whole unsupported marked_at area
met_3_marked =
    sh_demand_3_marked head refl session (rest wide) (application ∷ common ++ (loud ∷ own wide)) (all_whole_lem (session ∷ rest wide) refl) [] refl (lit≤ tt)
    (asking [])
    (marked_at head (application ∷ common) (own wide)) refl let_pass

-- A FAULT BEFORE IT: the 602 at the end, behind the 703 of five bytes, and a 601 before that: B5014, 16 bytes later.
marked_behind : FirstMarked (dialect_of (under_sh 3588) head) (rest wide) (with_quiet wide ++ (loud ∷ []))
unfolding all with_quiet
marked_behind =
    record {
      mark = loud;
      front = rest wide;
      back = [];
      before = with_quiet wide;
      after = [];
      row = refl;
      longer = refl;
      quiet = put_quiet head wide;
      foreign = foreign_loud head;
      marking = refl;
      rest = ending;
    }

met_3_fault : sh_serve (asking (asks head (with_quiet wide ++ (loud ∷ []))))
    ≡ leaves 132 156 (reply (number_bytes 268 5014) (failed (vendor_head 703 12)))
unfolding all is_whole all_whole with_quiet marked_behind put_quiet put_before kept
met_3_fault =
    sh_demand_3_fault head refl session (rest wide) (with_quiet wide ++ (loud ∷ [])) (all_whole_lem (session ∷ rest wide) refl) [] refl (lit≤ tt) (asking [])
    marked_behind refl
    ∙ ap (placed (place_now (keep session marked_behind.quiet))) wide_served

-- .. and the header's: under command 300 the 602 is as unknown, but B3001 is given
met_3_header : sh_serve (asking (asks other_head (application ∷ common ++ (loud ∷ own right)))) ≡ unspoken
unfolding all is_whole all_whole marked_at
met_3_header =
    sh_demand_3_fault other_head refl session (rest right) (application ∷ common ++ (loud ∷ own right)) (all_whole_lem (session ∷ rest right) refl) [] refl
    (lit≤ tt) (asking []) (marked_at other_head (application ∷ common) (own right)) refl
    ∙ ap (placed (place_now (keep session (kept (application ∷ common))))) unspoken_served

-- IN ONE SENTENCE, of two requests as bytes: with the 601, with the 602 behind it, and with both under command 300.
abbrev row : List Piece
row = with_quiet right

abbrev row_loud : List Piece
row_loud = application ∷ common ++ (quiet ∷ loud ∷ own right)

module _ (top : List ℕ) (twenty : length top ≡ 20) where
  cut : Cut (asks top (rest right))
  unfolding all is_whole all_whole
  cut =
      record {
        head = top;
        first = session;
        rest = rest right;
        tail = [];
        twenty = twenty;
        whole = all_whole_lem (session ∷ rest right) refl;
        fours = refl;
        stops = refl;
        joined = refl;
      }

  -- each longer one within the limit
  longer_quiet : length (asks top row) ≤ 16384 → Longer (under_sh 3588) (asks top (rest right)) (asks top row)
  unfolding all with_quiet cut
  longer_quiet most =
      record {
        cut = cut;
        row = row;
        inserted = keep _ (keep _ (keep _ (keep _ (keep _ (put quiet (foreign_quiet top) (kept (own right)))))));
        bytes = refl;
        most = most;
      }

  longer_loud : length (asks top row_loud) ≤ 16384 → Longer (under_sh 3588) (asks top (rest right)) (asks top row_loud)
  unfolding all cut
  longer_loud most =
      record {
        cut = cut;
        row = row_loud;
        inserted = keep _ (keep _ (keep _ (keep _ (keep _ (put quiet (foreign_quiet top) (put loud (foreign_loud top) (kept (own right))))))));
        bytes = refl;
        most = most;
      }

-- what comes of the longer one where none is marked; where one is and nothing before it is at fault; where something is
module _ (x : Lent) (longer top : List ℕ) (q : Piece) (now : ℕ → ℕ) (o : Option Mark) where
  newer_none : o ≡ none → newer x longer top q now o ≡ placed now (sh_serve x)
  unfolding newer
  newer_none e = rw e

  abbrev Faulty : Mark → Bool → Type 0
  Faulty m b = fault_by (header_fault_sh (dialect_of (terms_in x) top) top) (dialect_of (terms_in x) top) (q ∷ m.front) ≡ b

  newer_marked : (m : Mark) → o ≡ some m → turned_away x ≡ false → Faulty m false
      → newer x longer top q now o ≡ blaming (insertion.asking x longer) 5001 m.mark.avp (behind_row (q ∷ m.before))
  unfolding newer
  newer_marked m e t f = rw (e, t, f)

  newer_faulty : (m : Mark) → o ≡ some m → turned_away x ≡ false → Faulty m true → newer x longer top q now o ≡ placed now (sh_serve x)
  unfolding newer
  newer_faulty m e t f = rw (e, t, f)

quietly : Longer (under_sh 3588) (asks head (rest right)) (asks head row)
unfolding all with_quiet
quietly = longer_quiet head refl (lit≤ tt)

quietly_none : first_mark quietly.inserted ≡ none
unfolding all quietly longer_quiet first_mark kept
quietly_none = refl

met_3_quietly : sh_serve (asking (asks head row)) ≡ leaves 240 0 (reply (number_bytes 268 2001) (state_data 0x31))
met_3_quietly =
    let x : Lent = asking (asks head (rest right)) in
    sh_demand_3 x (asks head row) quietly
    ∙ newer_none x (asks head row) quietly.cut.head quietly.cut.first _ (first_mark quietly.inserted) quietly_none
    ∙ ap (placed _) right_served

abbrev mark : Mark
mark = record { front = application ∷ common; before = application ∷ common ++ (quiet ∷ []); mark = loud }

loudly : Longer (under_sh 3588) (asks head (rest right)) (asks head row_loud)
unfolding all
loudly = longer_loud head refl (lit≤ tt)

loudly_first : first_mark loudly.inserted ≡ some mark
unfolding all loudly longer_loud first_mark kept
loudly_first = refl

let_right : turned_away (asking (asks head (rest right))) ≡ false
unfolding all
let_right = held (asking (asks head (rest right))) roomy area_sound refl

met_3_loudly : sh_serve (asking (asks head row_loud)) ≡ unsupported 128
unfolding all loudly longer_loud cut unsupported area
met_3_loudly =
    let x : Lent = asking (asks head (rest right)) in
    sh_demand_3 x (asks head row_loud) loudly
    ∙ newer_marked x (asks head row_loud) head session _ (first_mark loudly.inserted) mark loudly_first let_right refl

unheard : Longer (under_sh 3588) (asks other_head (rest right)) (asks other_head row_loud)
unfolding all
unheard = longer_loud other_head refl (lit≤ tt)

unheard_first : first_mark unheard.inserted ≡ some mark
unfolding all unheard longer_loud first_mark kept
unheard_first = refl

let_other : turned_away (asking (asks other_head (rest right))) ≡ false
unfolding all
let_other = held (asking (asks other_head (rest right))) roomy area_sound refl

met_3_unheard : sh_serve (asking (asks other_head row_loud)) ≡ unspoken
unfolding all unheard longer_loud cut
met_3_unheard =
    let x : Lent = asking (asks other_head (rest right)) in
    sh_demand_3 x (asks other_head row_loud) unheard
    ∙ newer_faulty x (asks other_head row_loud) other_head session _ (first_mark unheard.inserted) mark unheard_first let_other refl
    ∙ ap (placed _) unspoken_served
