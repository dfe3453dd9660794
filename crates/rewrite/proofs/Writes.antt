-- What the functions that write leave, each by what its parts left.
use Rattle.octets.specs.Standard.{ℕ, ◌+◌, ◌*◌, ◌≤◌, Bool, true, false, cond, not, ◌||◌, true≢false, ◌≡◌, refl, sym, ◌∙◌, ap, List, ◌++◌, arith}
use Rattle.octets.specs.Standard.{eqb, length, get_or, set, take, drop, length-set, length-take, length-drop, drop-drop, drop_at, take_at}
use Rattle.octets.specs.Standard.{length-take-le, mid_of, put_mid, put_same}
use Rattle.octets.specs.Name.{same}
use Rattle.octets.specs.Run.{put_name}
use Rattle.octets.proofs.Names.{same_eq, same_refl, same_yes, same_no}
use Rattle.record.specs.Fields.{state_of, bits_of, server_of, cleared, pending_set}
use Rattle.record.specs.RecordBlock.{record_of}
use Rattle.record.specs.Sets.{same_set}
use Rattle.record.specs.declared.subscriber.Record.{Record}
use Rattle.blocks.specs.Blocks.{block_of}
use Rattle.blocks.specs.Sealed.{sealed}
use Rattle.blocks.specs.Changed.{changed_in}
use Rattle.rewrite.specs.Renew.{renewed, settled, challenged}
use Rattle.rewrite.specs.Fitting.{Fitting, change_of, ChangeFits}
use Rattle.rewrite.specs.Change.{differ}
use Rattle.rewrite.specs.declared.Change.{Change}
use Rattle.rewrite.specs.declared.Change.TheVariants.{Settled, Challenged}
use Rattle.rewrite.proofs.Bytes.{renewed_length}

-- A block: three bytes, the name's field, the check word.
module _ (b : List ℕ) (state bits : ℕ) (name : List ℕ) (whole : length b ≡ 512) where
  pub draft_fits : (n : ℕ) → n ≤ 96 → 272 + n ≤ length (set (set (set b 8 state) 9 bits) 15 (length name))
  draft_fits n h = simp length-set (omega arith)

  pub renew_put : {x y : List ℕ} → x ≡ put_name (set (set (set b 8 state) 9 bits) 15 (length name)) 272 name 96 → y ≡ sealed x → y ≡ renewed b state bits name
  unfolding renewed
  renew_put e f = rw (← e) f

-- Pending cleared.
pub fits_most : (state : ℕ) (name : List ℕ) → Fitting state name → length name ≤ 96
fits_most state name f = f.most

pub settle_block : (b : List ℕ) (state : ℕ) (name : List ℕ) {r : Record} {bits : ℕ} {y : List ℕ} → r ≡ record_of b → bits ≡ cleared r.bits
    → y ≡ renewed b state bits name
    → y ≡ settled state name b
unfolding settled record_of
settle_block b state name d e f = f ∙ rw (e, d)

-- Pending set, and the name stored.
module _ (b name : List ℕ) {s : List ℕ} {x : Bool} (server : s ≡ server_of b) (alike : x ≡ same s name) where
  pub challenge_block : {r : Record} {bits : ℕ} {y : List ℕ} → (eqb (get_or b 8 0) 0 || not x) ≡ true → r ≡ record_of b → bits ≡ pending_set r.bits
      → y ≡ renewed b (get_or b 8 0) bits name → y ≡ challenged name b
  unfolding challenged record_of
  challenge_block c d e f = let q : (eqb (get_or b 8 0) 0 || not (same (server_of b) name)) ≡ true = rw (← server, ← alike) c in rw q (f ∙ rw (e, d))

  pub challenge_none : (eqb (get_or b 8 0) 0 || not x) ≡ false → b ≡ challenged name b
  unfolding challenged
  challenge_none c = let q : (eqb (get_or b 8 0) 0 || not (same (server_of b) name)) ≡ false = rw (← server, ← alike) c in rw q

-- Whether bytes changed.
pub differ_same : (x : List ℕ) → differ x x ≡ 0
unfolding differ
differ_same x = rw (same_refl x)

pub differ_none : (x : List ℕ) → 0 ≡ differ x x
differ_none x = sym (differ_same x)

-- Either change.
module _ (c : Change) (name : List ℕ) where
  pub fits_settled : (state : ℕ) → c ≡ Settled state → ChangeFits c name → Fitting state name
  fits_settled state e f = rw e at f

  pub fits_challenged : c ≡ Challenged → ChangeFits c name → length name ≤ 96
  fits_challenged e f = let g : (1 ≤ length name) × (length name ≤ 96) = rw e at f in g.1

  module _ (b : List ℕ) where
    pub change_settled : (state : ℕ) {y : List ℕ} → c ≡ Settled state → y ≡ settled state name b → y ≡ change_of c name b
    unfolding change_of
    change_settled state e f = rw e f

    pub change_challenged : {y : List ℕ} → c ≡ Challenged → y ≡ challenged name b → y ≡ change_of c name b
    unfolding change_of
    change_challenged e f = rw e f

-- a table has other bytes exactly if the block that was lent has
mid_put : (a n : ℕ) (t y : List ℕ) → a ≤ length t → length y ≡ n → mid_of a n (put_mid a n t y) ≡ y
mid_put a n t y h l =
    rw (drop_at (take a t) (y ++ drop n (drop a t)) a (length-take-le a t h))
    (ap (λ (m : ℕ). take m (y ++ drop n (drop a t))) (sym l) ∙ take_at y (drop n (drop a t)) (length y) refl)

lent_differs : (t y : List ℕ) (a n : ℕ) → a ≤ length t → length y ≡ n → differ (mid_of a n t) y ≡ differ t (put_mid a n t y)
unfolding differ
lent_differs t y a n h l = go (same (mid_of a n t) y) refl
  where
    go : (x : Bool) → same (mid_of a n t) y ≡ x → ◌≡◌ {A = ℕ} (cond x 0 1) (cond (same t (put_mid a n t y)) 0 1)
    go true f =
        let q : mid_of a n t ≡ y = same_eq (mid_of a n t) y f in
        rw (same_yes t (put_mid a n t y) (sym (put_same a n t) ∙ ap (put_mid a n t) q))
    go false f = rw (same_no t (put_mid a n t y) (λ q. true≢false (sym (same_yes (mid_of a n t) y (ap (mid_of a n) q ∙ mid_put a n t y h l)) ∙ f)))

pub in_differs : (change : List ℕ → List ℕ) (t : List ℕ) (k : ℕ) → length (change (block_of t k)) ≡ length (block_of t k) → 512 * k + 512 ≤ length t
    → differ (block_of t k) (change (block_of t k)) ≡ differ t (changed_in t k change)
unfolding changed_in block_of
in_differs change t k e h =
    let n : length (take 512 (drop (512 * k) t)) ≡ 512 = rw length-take (rw length-drop (omega arith)) in
    lent_differs t (change (take 512 (drop (512 * k) t))) (512 * k) 512 (omega arith) (e ∙ n) ∙ rw drop-drop

challenged_length : (name b : List ℕ) → length (challenged name b) ≡ length b
unfolding challenged
challenged_length name b = go (eqb (state_of b) 0 || not (same (server_of b) name))
  where
    go : (x : Bool) → length (cond x (renewed b (state_of b) (pending_set (bits_of b)) name) b) ≡ length b
    go true = renewed_length b (state_of b) (pending_set (bits_of b)) name
    go false = refl

change_length : (c : Change) (name b : List ℕ) → length (change_of c name b) ≡ length b
unfolding change_of settled
change_length (Settled state) name b = renewed_length b state (cleared (bits_of b)) name
change_length Challenged name b = challenged_length name b

pub change_differs : (t : List ℕ) (k : ℕ) (c : Change) (name : List ℕ) {x y z : List ℕ} {r : ℕ} → 512 * k + 512 ≤ length t → x ≡ block_of t k
    → y ≡ change_of c name x → r ≡ differ x y → z ≡ changed_in t k (change_of c name) → r ≡ differ t z
change_differs t k c name h d e f g =
    f ∙ rw (e, d, g) (in_differs (change_of c name) t k (change_length c name (block_of t k)) h)

pub if_yes : (c : Bool) (a b : List ℕ) {y : List ℕ} → c ≡ true → y ≡ a → y ≡ cond c a b
if_yes c a b e f = rw e f

pub if_no : (c : Bool) (a b : List ℕ) → c ≡ false → b ≡ cond c a b
if_no c a b e = rw e

-- Two blocks of a table.
pub set_read : (t : List ℕ) (k j : ℕ) {a b : List ℕ} {r : Bool} → a ≡ block_of t k → b ≡ block_of t j → r ≡ same_set a b → r ≡ same_set (block_of t k) (block_of t j)
set_read t k j e f g = rw (← e, ← f) g
