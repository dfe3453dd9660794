-- The vectors that a call sends: which, and how its answer says them.
use Rattle.std.specs.Prelude.{ℕ, suc, ◌+◌, ◌/◌, List, [], ◌∷◌, ◌++◌, false, cond, ◌≡◌, length, get_or, ltb}
use Rattle.blocks.specs.Blocks.{block_of}
use Rattle.vectors.specs.Chosen.{sent_of, unused_at}
use Rattle.vectors.specs.Sendable.{count_from}
use Rattle.reading.specs.Kinds.{user_name, number_auth_items}
use Rattle.reading.specs.declared.Outcome.TheVariants.{Base}
use Rattle.diameter.specs.Message.{command_of}
use Rattle.requests.specs.Judged.{Judged, bad, fine}
use Rattle.requests.specs.Request.{read_in, data_seen, value_seen}
use Rattle.pen.specs.Bytes.{vendor_number, if_there}
use Rattle.items.specs.Items.{item_bytes}
use Rattle.choices.specs.declared.Given.{Given}
use Rattle.envelope.specs.Header.{header_bytes}
use Rattle.reply.specs.Pieces.{top_bytes, name_bytes, data_bytes}
use Rattle.envelope.specs.End.{end_bytes}
use Rattle.calling.specs.Lent.{Lent, dialect_in}
use Rattle.refusals.specs.Trial.{any_holds}
use Rattle.calling.specs.Serve.{trials, decided, result_of}

-- the numbers of the blocks that a call sends: of its decision's, and none where it is refused
unfoldable pub sent_by : Lent → List ℕ
sent_by x = cond (any_holds (trials x)) [] (sent_of (decided x).given.sent)

-- a MAR that is not refused and succeeds
pub record Challenges (x : Lent) : Type 0 where
  pub taken : any_holds (trials x) ≡ false
  pub command : command_of x.request ≡ 303
  pub success : result_of x ≡ Base 2001

-- what a request that can be read asks: for whom, its User-Name; how many, its 607
abbrev pub user_in : Judged → List ℕ
user_in (bad v) = []
user_in (fine seen) = data_seen seen user_name

abbrev pub items_asked : Judged → ℕ
items_asked (bad v) = 0
items_asked (fine seen) = value_seen seen number_auth_items

abbrev pub user_of : Lent → List ℕ
user_of x = user_in (read_in (dialect_in x) x.request)

abbrev pub asked_by : Lent → ℕ
asked_by x = items_asked (read_in (dialect_in x) x.request)

-- byte 1 of block k, "used (0 or 1)"; how many unused vectors of a name there are
abbrev pub used_at : List ℕ → ℕ → ℕ
used_at v k = get_or (block_of v k) 1 0

unfoldable pub remaining : List ℕ → List ℕ → ℕ
remaining v name = count_from (unused_at v name) (length v / 512) 0

-- "the number sent, and the items", of these blocks of a file in this order; nothing of none
unfoldable pub items_from : List ℕ → ℕ → List ℕ → List ℕ
items_from v i [] = []
items_from v i (k ∷ ks) = item_bytes i (block_of v k) ++ items_from v (suc i) ks

unfoldable pub said_of : List ℕ → List ℕ → List ℕ
said_of v ks = if_there (ltb 0 (length ks)) (vendor_number 607 (length ks) ++ items_from v 1 ks)

-- an answer with these bytes between its names and its data: nothing else of it is taken from the vector file
abbrev pub body_with : Lent → Given → List ℕ → List ℕ
body_with x g said =
    top_bytes x.terms x.request x.table g.verdict.result
    ++ ((name_bytes x.table g ++ (said ++ data_bytes x.table x.profile g)) ++ end_bytes x.request g.verdict)

abbrev pub answer_with : Lent → Given → List ℕ → List ℕ
answer_with x g said = header_bytes x.request g.verdict.result (20 + length (body_with x g said)) ++ body_with x g said
