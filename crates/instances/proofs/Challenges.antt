-- Demands 2 and 3 over the vectors: their hypotheses can be met by a MAR, computed.
use Rattle.std.specs.Prelude.{Ok}
use Rattle.octets.specs.Standard.{ℕ, ◌≡◌, refl, ap, ◌∙◌, List, [], ◌∷◌, ◌++◌, false, some, some-injective, inr, ◌≢◌, arith, get_or, lit≤, lit<}
use Rattle.blocks.specs.Blocks.{block_of}
use Rattle.table.specs.Area.{size_in, table_in, check_area}
use Rattle.table.specs.Named.{private_at}
use Rattle.diameter.specs.Put.{Piece}
use Rattle.pen.specs.Bytes.{number_bytes}
use Rattle.pen.specs.Groups.{failed}
use Rattle.calling.specs.Lent.{table_only, dialect_in}
use Rattle.calling.specs.Serve.{decision, serve}
use Rattle.calling.proofs.Areas.{serve_sound}
use Rattle.worked_examples.proofs.Computed.{come, held, roomy}
use Rattle.worked_examples.proofs.Sample.{header, subscriber, person, vector, reply, item, challenges, s, z}
use Rattle.requests.specs.Request.{dialect_of, under_cx}
use Rattle.demands.specs.Call.{turned_away}
use Rattle.demands.specs.Frame.{succeeds, subscription_of}
use Rattle.demands.specs.Insertion.{request_of, Foreign, Quiet, Inserted, ending, keep, put, place_now, placed, FirstMarked, Longer, first_mark}
use Rattle.demands.proofs.Demands.{demand_2, demand_2_failure, demand_2_others, demand_2_bytes, demand_2_sound, demand_2_vectors, demand_3}
use Rattle.demands.proofs.Demands.{demand_3_unmarked, demand_3_vectors, demand_3_marked}
use Rattle.instances.proofs.Asked.{table, vectors, mar_head, session, application, common, sar, mar_own, mar_rest, mar, carded, comes_to, plain}
use Rattle.instances.proofs.Asked.{loud, all, is_whole, all_whole, all_whole_lem, kept, of_area}
use Rattle.instances.proofs.Calls.{sound_table, sound_vectors, sound_area}

-- The MAR for two vectors at the server `z` is a success: record 1 has that name and pending then, in the state that it had, and the one vector of that
-- subscription is marked used and sent.
challenged_table : List ℕ
challenged_table = header 2 0 ++ (subscriber 1 0x61 0x70 1 1 z ++ person 2 0x62 0x71 1 (0x73 ∷ []))

spent_vectors : List ℕ
spent_vectors = vector 0 0x71 5 ++ vector 1 0x70 1

challenge : serve (carded (mar z 2)) ≡ comes_to 0 challenged_table spent_vectors (challenges 1 (item 1 1))
unfolding all challenged_table spent_vectors
challenge = serve_sound (carded (mar z 2)) 2 sound_table ∙ come (carded (mar z 2)) roomy sound_table sound_vectors refl

taken : turned_away (table_only (carded (mar z 2))) ≡ false
unfolding all
taken =
    of_area (carded (mar z 2)) 2 sound_table (λ y. turned_away y ≡ false) (held (carded (mar z 2)) roomy sound_table sound_vectors refl)

met_2_spent : (serve (carded (mar z 2))).vectors ≡ (decision (table_only (carded (mar z 2))) 2).vectors
met_2_spent = (demand_2 (carded (mar z 2)) 2 sound_area taken).2

other_owner : some (private_at table 2) ≢ subscription_of (dialect_of (under_cx 3588 0) (mar z 2)) (mar z 2) table 2
unfolding all
other_owner e =
    let d : ◌≡◌ {A = List ℕ} (0x71 ∷ []) (0x70 ∷ []) = some-injective _ _ e in
    let c : ◌≡◌ {A = ℕ} 0x71 0x70 = ap (λ (l : List ℕ). get_or l 0 0) d in omega arith

met_2_neighbour : block_of (serve (carded (mar z 2))).table 2 ≡ block_of table 2
met_2_neighbour =
    demand_2_others (carded (mar z 2)) 2 sound_area 2
    (inr (of_area (carded (mar z 2)) 2 sound_table
    (λ y. some (private_at table 2) ≢ subscription_of (dialect_in y) y.request y.table 2) other_owner))

met_2_identity : get_or (block_of (serve (carded (mar z 2))).table 1) 144 0 ≡ get_or (block_of table 1) 144 0
met_2_identity = demand_2_bytes (carded (mar z 2)) 2 sound_area 1 144 (lit< tt) refl

met_2_challenged : check_area (serve (carded (mar z 2))).table 0 ≡ Ok 2
met_2_challenged = demand_2_sound (carded (mar z 2)) 2 sound_area

-- none asked is B5012, which marks no vector; nor does the SAR
met_2_unmarked : (serve (carded (mar z 0))).vectors ≡ vectors
unfolding all
met_2_unmarked =
    (demand_2_failure (carded (mar z 0)) 2 sound_area
    (of_area (carded (mar z 0)) 2 sound_table (λ y. succeeds (decision y 2).given.verdict.result ≡ false) refl)).1

met_2_vectors : (serve (carded (sar s 5))).vectors ≡ vectors
unfolding all
met_2_vectors = demand_2_vectors (carded (sar s 5)) (λ e. let d : ◌≡◌ {A = ℕ} 301 303 = e in omega arith)

-- What is put into a SAR is of unknown kinds in a MAR too.
foreign_plain_mar : Foreign (dialect_of (under_cx 3588 0) mar_head) plain
unfolding all
foreign_plain_mar = record { whole = record { right = refl; exact = refl; filled = refl }; plain = refl; stranger = refl }

foreign_loud_mar : Foreign (dialect_of (under_cx 3588 0) mar_head) loud
unfolding all
foreign_loud_mar = record { whole = record { right = refl; exact = refl; filled = refl }; plain = refl; stranger = refl }

quiet_plain_mar : Quiet (dialect_of (under_cx 3588 0) mar_head) plain
unfolding all
quiet_plain_mar = record { foreign = foreign_plain_mar; unmarked = refl }

-- The MAR with one unmarked put in sends the same vector; with one marked M it is B5001, and no vector is used.
quietly : List Piece
quietly = application ∷ plain ∷ common ++ mar_own z 2

put_quietly : Inserted (Quiet (dialect_of (under_cx 3588 0) mar_head)) (mar_rest z 2) quietly
unfolding all quietly
put_quietly = keep _ (put plain quiet_plain_mar (kept (common ++ mar_own z 2)))

met_3_spent : serve (carded (request_of mar_head (session ∷ quietly) [])) ≡ comes_to 0 challenged_table spent_vectors (challenges 1 (item 1 1))
unfolding all is_whole all_whole quietly
met_3_spent =
    demand_3_unmarked mar_head refl session (mar_rest z 2) quietly (all_whole_lem (session ∷ mar_rest z 2) refl) [] refl (lit≤ tt) (carded []) put_quietly
    ∙ ap (placed (place_now (keep session put_quietly))) challenge

loudly : List Piece
loudly = mar_rest z 2 ++ (loud ∷ [])

marked_mar : FirstMarked (dialect_of (under_cx 3588 0) mar_head) (mar_rest z 2) loudly
unfolding all loudly
marked_mar =
    record {
      mark = loud;
      front = mar_rest z 2;
      back = [];
      before = mar_rest z 2;
      after = [];
      row = refl;
      longer = refl;
      quiet = kept (mar_rest z 2);
      foreign = foreign_loud_mar;
      marking = refl;
      rest = ending;
    }

met_3_vectors : (serve (carded (request_of mar_head (session ∷ loudly) []))).vectors ≡ vectors
unfolding all is_whole all_whole loudly
met_3_vectors =
    demand_3_vectors mar_head refl session (mar_rest z 2) loudly (all_whole_lem (session ∷ mar_rest z 2) refl) [] refl (lit≤ tt) (carded []) marked_mar

met_3_unsent : serve (carded (request_of mar_head (session ∷ loudly) [])) ≡ comes_to 212 table vectors (reply 303 (number_bytes 268 5001) (failed loud.avp))
unfolding all table_in size_in is_whole all_whole loudly marked_mar
met_3_unsent =
    demand_3_marked mar_head refl session (mar_rest z 2) loudly (all_whole_lem (session ∷ mar_rest z 2) refl) [] refl (lit≤ tt) (carded []) marked_mar
    refl taken

longer_mar : Longer (under_cx 3588 0) (mar z 2) (request_of mar_head (session ∷ loudly) [])
unfolding all is_whole all_whole loudly
longer_mar =
    record {
      cut =
          record {
            head = mar_head;
            first = session;
            rest = mar_rest z 2;
            tail = [];
            twenty = refl;
            whole = all_whole_lem (session ∷ mar_rest z 2) refl;
            fours = refl;
            stops = refl;
            joined = refl;
          };
      row = loudly;
      inserted = keep _ (keep _ (keep _ (keep _ (keep _ (keep _ (keep _ (keep _ (keep _ (keep _ (put loud foreign_loud_mar ending))))))))));
      bytes = refl;
      most = lit≤ tt;
    }

met_3_unused : (serve (carded (request_of mar_head (session ∷ loudly) []))).vectors ≡ vectors
unfolding all loudly longer_mar first_mark kept
met_3_unused = (demand_3 (carded (mar z 2)) (request_of mar_head (session ∷ loudly) []) longer_mar).vectors _ refl
