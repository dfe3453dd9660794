-- "a removal naming two members of one set is like naming one" can be met: `a` and `c` share a set, `b` between them has none, and a removal names all three.
use Rattle.std.specs.Prelude.{Ok}
use Rattle.octets.specs.Standard.{ℕ, ◌≤◌, ◌≡◌, refl, ap, ◌∙◌, List, [], ◌∷◌, ◌++◌, length, lit≤, lit<}
use Rattle.table.specs.Area.{table_in}
use Rattle.table.specs.Check.{check_table}
use Rattle.diameter.specs.Put.{Piece, bytes_of}
use Rattle.pen.specs.Bytes.{word_bytes, number_bytes}
use Rattle.reading.specs.Rules.{Seen}
use Rattle.requests.specs.Judged.{Judged, bad, fine}
use Rattle.requests.specs.Request.{dialect_of, under_cx, read_in}
use Rattle.calling.specs.Lent.{Lent, lent, table_only}
use Rattle.calling.specs.Serve.{check_of, serve_table, serve}
use Rattle.calling.proofs.Areas.{only_sound, serve_sound}
use Rattle.demands.specs.Insertion.{message}
use Rattle.demands.specs.Sets.{Removes, OneFewer, Member}
use Rattle.demands.proofs.Sets.{like_naming_one}
use Rattle.worked_examples.proofs.Computed.{come, roomy, no_vectors}
use Rattle.worked_examples.proofs.Sample.{room, answer, s}
use Rattle.instances.proofs.Asked.{vendor, head, session, application, common, comes, all, is_whole, all_whole, all_whole_lem}
use Rattle.sets_example.proofs.Behind.{within, in_front, sound_front}
use Rattle.sets_example.proofs.Family as family

-- the three lines in a state, at a server
unfoldable lines : ℕ → List ℕ → List ℕ
lines state server =
    family.head 3
    ++ (family.line 1 0x61 0x70 1 state 0 server ++ (family.line 2 0x62 0x70 0 state 0 server ++ family.line 3 0x63 0x70 1 state 0 server))

-- a SAR of type 5 for the identities of a row
unfoldable named : ℕ → Piece
named name = vendor 601 (name ∷ [])

unfoldable front : List Piece
front = session ∷ application ∷ common

unfoldable own : List Piece
own = vendor 602 s ∷ vendor 614 (word_bytes 5) ∷ vendor 624 (word_bytes 1) ∷ []

unfoldable removing : List Piece → List ℕ
removing names = message head (bytes_of (front ++ (names ++ own)))

abbrev three : List Piece
three = named 0x61 ∷ named 0x62 ∷ named 0x63 ∷ []

abbrev asked : List ℕ → Lent
asked req = lent req (lines 1 s) [] [] room (under_cx 3588 0)

lines_sound : check_table (lines 1 s) 0 ≡ Ok 3
unfolding all family.head family.line lines
lines_sound = refl

abbrev seen_in : Judged → Seen
seen_in (bad v) = []
seen_in (fine seen) = seen

removes : Removes (dialect_of (under_cx 3588 0) (removing three)) (removing three)
unfolding all named front own removing
removes =
    record {
      sar = refl;
      seen = seen_in (read_in (dialect_of (under_cx 3588 0) (removing three)) (removing three));
      read = record { read = refl; inside = refl };
      removal = refl;
    }

short : length (removing three) ≤ 16384
unfolding all named front own removing
short = lit≤ tt

-- without `c`, which comes last, and without `a`, which comes first
without_c : OneFewer (removing three) (removing (named 0x61 ∷ named 0x62 ∷ []))
unfolding all is_whole all_whole named front own removing
without_c =
    record {
      head = head;
      before = front ++ (named 0x61 ∷ named 0x62 ∷ []);
      one = named 0x63;
      after = own;
      twenty = refl;
      whole = all_whole_lem (front ++ (three ++ own)) refl;
      identity = refl;
      bytes = refl;
      shorter = refl;
    }

c_member : Member (lines 1 s) 3 (without_c.before ++ without_c.after) without_c.one
unfolding all family.head family.line lines named front own without_c
c_member =
    record {
      front = front;
      other = named 0x61;
      back = named 0x62 ∷ own;
      rest_is = refl;
      identity = refl;
      other_block = 1;
      one_block = 3;
      other_stands = record { from = lit≤ tt; to = lit≤ tt; name = refl };
      one_stands = record { from = lit≤ tt; to = lit≤ tt; name = refl };
      shares = record { nonzero = lit< tt; number = refl; subscription = refl };
    }

-- the table is the area
only_lines : (req : List ℕ) → table_only (asked req) ≡ asked req
only_lines req = only_sound (asked req) 3 lines_sound

sound_lines : (req : List ℕ) → check_of (table_only (asked req)) ≡ Ok 3
sound_lines req = ap check_of (only_lines req) ∙ lines_sound

in_lines : table_in (lines 1 s) ≡ lines 1 s
in_lines = ap (λ (x : Lent). x.table) (only_lines [])

two_comes : serve_table (asked (removing (named 0x61 ∷ named 0x62 ∷ []))) ≡ comes (lines 0 []) (answer (number_bytes 268 2001) [])
unfolding all family.head family.line lines named front own removing
two_comes = come (asked (removing (named 0x61 ∷ named 0x62 ∷ []))) roomy lines_sound no_vectors refl

met_last : serve (asked (removing three)) ≡ comes (lines 0 []) (answer (number_bytes 268 2001) [])
met_last =
    like_naming_one (asked (removing three)) (removing (named 0x61 ∷ named 0x62 ∷ [])) 3 (sound_lines (removing three)) short removes without_c
    (rw in_lines c_member)
    ∙ serve_sound (asked (removing (named 0x61 ∷ named 0x62 ∷ []))) 3 lines_sound ∙ two_comes

without_a : OneFewer (removing three) (removing (named 0x62 ∷ named 0x63 ∷ []))
unfolding all is_whole all_whole named front own removing
without_a =
    record {
      head = head;
      before = front;
      one = named 0x61;
      after = named 0x62 ∷ named 0x63 ∷ own;
      twenty = refl;
      whole = all_whole_lem (front ++ (three ++ own)) refl;
      identity = refl;
      bytes = refl;
      shorter = refl;
    }

a_member : Member (lines 1 s) 3 (without_a.before ++ without_a.after) without_a.one
unfolding all family.head family.line lines named front own without_a
a_member =
    record {
      front = front ++ (named 0x62 ∷ []);
      other = named 0x63;
      back = own;
      rest_is = refl;
      identity = refl;
      other_block = 3;
      one_block = 1;
      other_stands = record { from = lit≤ tt; to = lit≤ tt; name = refl };
      one_stands = record { from = lit≤ tt; to = lit≤ tt; name = refl };
      shares = record { nonzero = lit< tt; number = refl; subscription = refl };
    }

-- in an area with two bytes behind the table
met_first : serve (within (asked (removing three))) ≡ serve (within (asked (removing (named 0x62 ∷ named 0x63 ∷ []))))
met_first =
    like_naming_one (within (asked (removing three))) (removing (named 0x62 ∷ named 0x63 ∷ [])) 3 (sound_front (asked (removing three)) 3 lines_sound)
    short removes without_a (rw (in_front (asked (removing three)) 3 lines_sound) a_member)
