-- What becomes of the vector file, as theorems about `serve`, which is what the exported call is promised to leave (`vectors_promised`), for anything lent. It
-- goes by the table at the front of the area: `table_only a`. What the words below mean is in specs/Sent (one call) and specs/Row (a row of calls).
use Rattle.octets.specs.Standard.{ℕ, ◌/◌, ◌<◌, min, List, [], ◌∷◌, ◌++◌, true, false, true≢false, ◌≡◌, sym, ap, ◌∙◌, ◌⊎◌, inl, inr, ◌≢◌, length, get_or}
use Rattle.octets.specs.Standard.{lt-ltb}
use Rattle.octets.specs.Run.{over}
use Rattle.blocks.specs.Blocks.{block_of}
use Rattle.vectors.specs.Chosen.{unused_at}
use Rattle.vectors.specs.Sendable.{Rising}
use Rattle.blocks.specs.Changed.{is_one}
use Rattle.vectors.specs.VectorBlock.{card_of}
use Rattle.vectors.specs.VectorFile.{check_vectors}
use Rattle.pen.specs.Bytes.{vendor_number, if_there}
use Rattle.reading.specs.declared.Outcome.TheVariants.{Base}
use Rattle.diameter.specs.Message.{command_of}
use Rattle.calling.specs.Call.{Answered}
use Rattle.calling.specs.Lent.{Lent, table_only, dialect_in}
use Rattle.refusals.specs.Trial.{any_holds}
use Rattle.refusals.specs.Early.{check_value}
use Rattle.calling.specs.Serve.{check_of, trials, serve, decided, result_of}
use Rattle.ndushavire.specs.Reads.{call_place}
use Rattle.ndushavire.specs.Promise.{DecidePromise}
use Rattle.vectors_sent.specs.Sent.{sent_by, Challenges, user_of, asked_by, used_at, remaining, items_from, said_of, answer_with}
use Rattle.vectors_sent.specs.Row.{Turn, lending, left_by, sent_over, Once}
use Rattle.vectors_sent.proofs.Calls.{Quiet, Sending, call_cases}
use Rattle.vectors_sent.proofs.Said.{answer_says, success_nowhere}
use Rattle.vectors_sent.proofs.Blocks as blocks
use Rattle.vectors_sent.proofs.Rows as rows

pub vectors_promised : (a : Lent) {r : ℕ} {t' v' o' : List ℕ} → DecidePromise a r t' v' o' → v' ≡ (serve a).vectors
vectors_promised a p = p.vectors_is

module _ (a : Lent) where
  -- the call over the table alone
  abbrev x : Lent
  x = table_only a

  -- ONLY A MAR THAT SUCCEEDS alters the vector file, or sends a vector: what else is called leaves it as it came, and sends none.
  abbrev Leaves : Type 0
  Leaves = ((serve a).vectors ≡ a.vectors) × (sent_by x ≡ [])

  unless_success : (Challenges x → ⊥) → Leaves
  unless_success n = go (call_cases x)
    where
      go : Quiet x ⊎ Sending x → Leaves
      go (inl q) = (q.kept, q.none)
      go (inr s) = absurd (n s.challenges)

  -- A call that is refused, by any of the seven.
  pub refusal_leaves : any_holds (trials x) ≡ true → ((serve a).vectors ≡ a.vectors) × (sent_by x ≡ [])
  refusal_leaves e = unless_success (λ c. true≢false (sym e ∙ c.taken))

  -- A request of another command.
  pub command_leaves : command_of a.request ≢ 303 → ((serve a).vectors ≡ a.vectors) × (sent_by x ≡ [])
  command_leaves n = unless_success (λ c. n c.command)

  -- An error: no vector is marked.
  pub failure_leaves : result_of x ≢ Base 2001 → ((serve a).vectors ≡ a.vectors) × (sent_by x ≡ [])
  failure_leaves n = unless_success (λ c. n c.success)

  -- So where the file is another afterwards, it was a MAR that succeeded.
  pub only_success : (serve a).vectors ≢ a.vectors → Challenges x
  only_success n = go (call_cases x)
    where
      go : Quiet x ⊎ Sending x → Challenges x
      go (inl q) = absurd (n q.kept)
      go (inr s) = s.challenges

  -- WHAT IS ALTERED. A vector of another private identity than the User-Name stays as it was.
  pub others_stay : (k : ℕ) → card_of (block_of a.vectors k) ≢ user_of x → block_of (serve a).vectors k ≡ block_of a.vectors k
  others_stay = blocks.other_kept x

  -- So does every one that is not sent.
  pub unsent_stay : (k : ℕ) → is_one (sent_by x) k ≡ false → block_of (serve a).vectors k ≡ block_of a.vectors k
  unsent_stay = blocks.unsent_kept x

  -- One that is sent is one of the file's, is of the User-Name, was unused, and is used afterwards ..
  pub sent_mark : (k : ℕ) → is_one (sent_by x) k ≡ true
      → (k < length a.vectors / 512) × (card_of (block_of a.vectors k) ≡ user_of x) × (used_at a.vectors k ≡ 0) × (used_at (serve a).vectors k ≡ 1)
  sent_mark k e = (blocks.sent_within x k e, blocks.sent_name x k e, blocks.sent_unused x k e, blocks.sent_used x k e)

  -- .. and of its bytes only byte 1 and the check word, 508 to 511, are others.
  pub sent_bytes_lem : (k : ℕ) → is_one (sent_by x) k ≡ true → (i : ℕ) → i ≢ 1 → i < 508
      → get_or (block_of (serve a).vectors k) i 0 ≡ get_or (block_of a.vectors k) i 0
  sent_bytes_lem = blocks.sent_byte x

  -- The file has as many bytes as it had, and its check says what it said: a sound file stays sound, with as many blocks.
  pub length_stays : length (serve a).vectors ≡ length a.vectors
  length_stays = blocks.length_kept x

  pub check_stays : check_vectors (serve a).vectors ≡ check_vectors a.vectors
  check_stays = blocks.check_kept x

  -- WHAT IS SENT. The blocks are in file order, each once.
  pub sent_rise : Rising 0 (sent_by x)
  sent_rise = blocks.rising x

  -- A success sends the least of what is asked, of what remains unused of that name, and of 16; and that is at least one ..
  pub sent_number : Challenges x → length (sent_by x) ≡ min (asked_by x) (min (remaining a.vectors (user_of x)) 16)
  sent_number = blocks.success_number x

  pub sent_some : Challenges x → 0 < length (sent_by x)
  sent_some c = (blocks.success_sends x c).some

  -- .. and they are the first: an unused one of that name that is not sent stands behind each that is.
  pub sent_first : Challenges x → (j k : ℕ) → k < length a.vectors / 512 → unused_at a.vectors (user_of x) k ≡ true → is_one (sent_by x) k ≡ false
      → is_one (sent_by x) j ≡ true → j < k
  sent_first = blocks.success_first x

  -- THE ANSWER of a call that is not refused says these vectors, from the file as it came, and no others.
  pub answer_sends : any_holds (trials x) ≡ false
      → ((serve a).call
      ≡ Answered (record { length = length (answer_with x (decided x).given (said_of a.vectors (sent_by x))); place = (decided x).place }))
      × ((serve a).buffer ≡ over (answer_with x (decided x).given (said_of a.vectors (sent_by x))) a.buffer)
  answer_sends = answer_says x

  -- Of a success the place is 0, for no AVP is at fault ..
  pub success_place : Challenges x → call_place (serve a).call ≡ 0
  success_place c =
      ap call_place (answer_sends c.taken).0 ∙ success_nowhere (dialect_in x) a.request x.table (check_value (check_of x)) a.vectors c.success

  -- .. and this is the number sent in 607, and so many items.
  pub success_says : Challenges x
      → said_of a.vectors (sent_by x)
      ≡ vendor_number 607 (min (asked_by x) (min (remaining a.vectors (user_of x)) 16)) ++ items_from a.vectors 1 (sent_by x)
  unfolding said_of if_there
  success_says c = rw (lt-ltb 0 (length (sent_by x)) (sent_some c), sent_number c)

-- A ROW OF CALLS, of any requests over any areas, the vector file carried along: no block is sent twice.
module _ (v : List ℕ) where
  pub sent_once : (cs : List Turn) → Once (sent_over v cs)
  sent_once = rows.row_once v

  -- A block that is sent, by any of them, was unused in the file as it came, and is used in the file as they left it.
  pub sent_over_lem : (cs : List Turn) (k : ℕ) → is_one (sent_over v cs) k ≡ true → (used_at v k ≡ 0) × (used_at (left_by v cs) k ≡ 1)
  sent_over_lem cs k e = (rows.row_sent_unused v cs k e, rows.row_sent_used v cs k e)

  -- The call `c` after `cs`: a block that it sends is unused when it comes, ..
  pub sent_before : (cs : List Turn) (c : Turn) (k : ℕ) → is_one (sent_by (table_only (lending (left_by v cs) c))) k ≡ true → used_at (left_by v cs) k ≡ 0
  sent_before cs c k e = blocks.sent_unused (table_only (lending (left_by v cs) c)) k e

  -- .. used after it and ever after, whatever calls `ds` follow, ..
  pub sent_after : (cs : List Turn) (c : Turn) (ds : List Turn) (k : ℕ) → is_one (sent_by (table_only (lending (left_by v cs) c))) k ≡ true
      → used_at (left_by v (cs ++ (c ∷ ds))) k ≡ 1
  unfolding left_by
  sent_after cs c ds k e = rw (rows.left_join v cs (c ∷ ds)) (rows.row_used _ ds k (blocks.sent_used (table_only (lending (left_by v cs) c)) k e))

  -- .. and sent by none of them.
  pub sent_never : (cs : List Turn) (c : Turn) (ds : List Turn) (k : ℕ) → is_one (sent_by (table_only (lending (left_by v cs) c))) k ≡ true
      → is_one (sent_over (left_by v (cs ++ (c ∷ []))) ds) k ≡ false
  sent_never cs c ds k e = rows.row_never (left_by v (cs ++ (c ∷ []))) ds k (sent_after cs c [] k e)

  -- The file has as many bytes as at first, and is sound if it was, with as many blocks.
  pub row_length : (cs : List Turn) → length (left_by v cs) ≡ length v
  row_length = rows.row_length v

  pub row_check : (cs : List Turn) → check_vectors (left_by v cs) ≡ check_vectors v
  row_check = rows.row_check v
