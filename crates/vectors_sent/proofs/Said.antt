-- What an answer says of the vectors that are sent: their number, and of each its item, in this order.
use Rattle.octets.specs.Standard.{ℕ, zero, suc, ◌+◌, ◌≤◌, List, [], ◌∷◌, ◌++◌, append-nil, append_assoc, false, ◌≡◌, refl, sym, ap, arith, length}
use Rattle.octets.specs.Standard.{get_or, take, take-suc, length-take-le}
use Rattle.octets.specs.Run.{over}
use Rattle.blocks.specs.Blocks.{block_of}
use Rattle.vectors.specs.Chosen.{sent_of}
use Rattle.vectors.specs.Sendable.{Sendable}
use Rattle.vectors.specs.declared.choice.Sent.{Sent}
use Rattle.items.specs.Items.{item_bytes, items_bytes, numbered_bytes, sent_bytes}
use Rattle.reading.specs.declared.Dialect.{Dialect}
use Rattle.reply.specs.Pieces.{given_bytes}
use Rattle.answering.specs.Answer.{rest_bytes, body_bytes, answer_bytes}
use Rattle.reading.specs.Verdicts.{number_of}
use Rattle.reading.specs.declared.Outcome.TheVariants.{Base}
use Rattle.deciding.specs.Decide.{performed_by, decide}
use Rattle.deciding.proofs.Comes.{decide_by_lem}
use Rattle.deciding.proofs.Deeds.{decide_sendable}
use Rattle.deciding.proofs.Read.{fails_most}
use Rattle.calling.specs.Call.{Answered}
use Rattle.calling.specs.Lent.{Lent, dialect_in}
use Rattle.refusals.specs.Trial.{any_holds}
use Rattle.refusals.specs.Early.{check_value}
use Rattle.calling.specs.Serve.{check_of, trials, answer_of, answered_by, serve_table, decided}
use Rattle.vectors_sent.specs.Sent.{sent_by, items_from, said_of, answer_with}
use Rattle.calling.proofs.Kept.{answered_is}
use Rattle.vectors_sent.proofs.Calls.{answered_sound}

module _ (v : List ℕ) where
  -- one item more
  items_more : (i : ℕ) (ks : List ℕ) (k : ℕ) → items_from v i (ks ++ (k ∷ [])) ≡ items_from v i ks ++ item_bytes (i + length ks) (block_of v k)
  unfolding items_from
  items_more i [] k = let n : i + 0 ≡ i = omega arith in rw (n, append-nil)
  items_more i (j ∷ ks) k =
      let n : suc i + length ks ≡ i + suc (length ks) = omega arith in
      rw (items_more (suc i) ks k, n) (sym (append_assoc (item_bytes i (block_of v j)) (items_from v (suc i) ks) _))

  items_are : (blocks : List ℕ) (n : ℕ) → n ≤ length blocks → items_bytes v blocks n ≡ items_from v 1 (take n blocks)
  unfolding items_bytes items_from
  items_are blocks zero h = refl
  items_are blocks (suc n) h =
      let m : length (take n blocks) ≡ n = length-take-le n blocks (omega arith) in
      let q : 1 + n ≡ suc n = omega arith in
      rw (items_are blocks n (omega arith), take-suc blocks n 0 (omega arith), items_more 1 (take n blocks) (get_or blocks n 0), m, q)

  said_is : (s : Sent) → s.count ≤ length s.blocks → sent_bytes v s ≡ said_of v (sent_of s)
  unfolding sent_bytes numbered_bytes said_of
  said_is s h = let m : length (take s.count s.blocks) ≡ s.count = length-take-le s.count s.blocks h in rw (m, items_are s.blocks s.count h)

module _ (x : Lent) (taken : any_holds (trials x) ≡ false) where
  sendable : Sendable x.vectors (decided x).given.sent
  sendable = decide_sendable (dialect_in x) x.request x.table (check_value (check_of x)) x.vectors (answered_sound x taken)

  answer_is : answer_of x (decided x) ≡ answer_with x (decided x).given (said_of x.vectors (sent_by x))
  unfolding answer_bytes body_bytes rest_bytes given_bytes sent_by
  answer_is = rw (taken, said_is x.vectors (decided x).given.sent (omega (arith, sendable.few, sendable.room)))

  pub answer_says : ((serve_table x).call
      ≡ Answered (record { length = length (answer_with x (decided x).given (said_of x.vectors (sent_by x))); place = (decided x).place }))
      × ((serve_table x).buffer ≡ over (answer_with x (decided x).given (said_of x.vectors (sent_by x))) x.buffer)
  unfolding answered_by
  answer_says = (
    rw (answered_is x taken) (ap (λ (b : List ℕ). Answered (record { length = length b; place = (decided x).place })) answer_is),
    rw (answered_is x taken) (ap (λ (b : List ℕ). over b x.buffer) answer_is),
  )

-- A success blames no AVP.
pub success_nowhere : (dialect : Dialect) (req t : List ℕ) (count : ℕ) (v : List ℕ) → (decide dialect req t count v).given.verdict.result ≡ Base 2001
    → (decide dialect req t count v).place ≡ 0
unfolding performed_by number_of
success_nowhere dialect req t count v =
    decide_by_lem dialect req t count v (λ d. d.given.verdict.result ≡ Base 2001 → d.place ≡ 0)
    (λ f b r. absurd (omega (arith, fails_most f.result b, ap number_of r))) (λ seen e p c r. refl)
