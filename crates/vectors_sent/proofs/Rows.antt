-- Rows of calls: what is used stays used, what is sent was unused, and so nothing is sent twice.
use Rattle.octets.specs.Standard.{ℕ, suc, ◌<◌, List, [], ◌∷◌, ◌++◌, Bool, true, false, ◌||◌, true≢false, ◌≡◌, refl, sym, ap, ◌∙◌, arith, length, get_or}
use Rattle.octets.specs.Standard.{eqb, eq-eqb, ne_eqb}
use Rattle.vectors.specs.Sendable.{Rising}
use Rattle.blocks.specs.Changed.{is_one}
use Rattle.vectors.specs.VectorFile.{check_vectors}
use Rattle.calling.specs.Lent.{Lent, table_only}
use Rattle.calling.specs.Serve.{serve_table, serve}
use Rattle.blocks.proofs.Changed.{one_append}
use Rattle.vectors_sent.specs.Sent.{sent_by, used_at}
use Rattle.vectors_sent.specs.Row.{Turn, lending, left_by, sent_over, Once}
use Rattle.vectors_sent.proofs.Blocks.{unsent_kept, sent_unused, sent_used, length_kept, check_kept, rising}

-- Numbers that rise are there once; so are those of two rows that have none in common.
below : (from : ℕ) (ks : List ℕ) → Rising from ks → (j : ℕ) → j < from → is_one ks j ≡ false
unfolding is_one
below from [] r j h = refl
below from (k ∷ ks) r j h = rw (ne_eqb j k (omega (arith, r.0))) (below (suc k) ks r.1 j (omega (arith, r.0)))

rising_once : (from : ℕ) (ks : List ℕ) → Rising from ks → Once ks
rising_once from [] r = tt
rising_once from (k ∷ ks) r = (below (suc k) ks r.1 k (omega arith), rising_once (suc k) ks r.1)

head_listed : (k : ℕ) (ks : List ℕ) → is_one (k ∷ ks) k ≡ true
unfolding is_one
head_listed k ks = rw (eq-eqb k k refl)

tail_listed : (i : ℕ) (is : List ℕ) (k : ℕ) → is_one is k ≡ true → is_one (i ∷ is) k ≡ true
unfolding is_one
tail_listed i is k e = go (eqb k i)
  where
    go : (x : Bool) → (x || is_one is k) ≡ true
    go true = refl
    go false = e

once_join : (is js : List ℕ) → Once is → Once js → ((k : ℕ) → is_one is k ≡ true → is_one js k ≡ false) → Once (is ++ js)
once_join [] js a b h = b
once_join (i ∷ is) js a b h =
    (rw (one_append is js i, a.0) (h i (head_listed i is)), once_join is js a.1 b (λ k e. h k (tail_listed i is k e)))

-- One call: what is used stays used, and what is unused afterwards was so before.
module _ (x : Lent) (k : ℕ) where
  call_used : used_at x.vectors k ≡ 1 → used_at (serve_table x).vectors k ≡ 1
  call_used e = go (is_one (sent_by x) k) refl
    where
      go : (y : Bool) → is_one (sent_by x) k ≡ y → used_at (serve_table x).vectors k ≡ 1
      go true f = sent_used x k f
      go false f = ap (λ (b : List ℕ). get_or b 1 0) (unsent_kept x k f) ∙ e

  call_unused : used_at (serve_table x).vectors k ≡ 0 → used_at x.vectors k ≡ 0
  call_unused e = go (is_one (sent_by x) k) refl
    where
      go : (y : Bool) → is_one (sent_by x) k ≡ y → used_at x.vectors k ≡ 0
      go true f = sent_unused x k f
      go false f = ap (λ (b : List ℕ). get_or b 1 0) (sym (unsent_kept x k f)) ∙ e

-- Rows of them, over areas: each call is the one over the table at the front.
pub row_used : (v : List ℕ) (cs : List Turn) (k : ℕ) → used_at v k ≡ 1 → used_at (left_by v cs) k ≡ 1
unfolding left_by
row_used v [] k e = e
row_used v (c ∷ cs) k e = row_used (serve (lending v c)).vectors cs k (call_used (table_only (lending v c)) k e)

-- of a row that begins with a call: sent by it, or by those after it
sent_first : (v : List ℕ) (c : Turn) (cs : List Turn) (k : ℕ) (P : Type 0) → is_one (sent_over v (c ∷ cs)) k ≡ true
    → (is_one (sent_by (table_only (lending v c))) k ≡ true → P) → (is_one (sent_over (serve (lending v c)).vectors cs) k ≡ true → P) → P
unfolding sent_over
sent_first v c cs k P e f g = go (is_one is k) refl (sym (one_append is js k) ∙ e)
  where
    is : List ℕ
    is = sent_by (table_only (lending v c))

    js : List ℕ
    js = sent_over (serve (lending v c)).vectors cs

    go : (x : Bool) → is_one is k ≡ x → (x || is_one js k) ≡ true → P
    go true a b = f a
    go false a b = g b

pub row_sent_unused : (v : List ℕ) (cs : List Turn) (k : ℕ) → is_one (sent_over v cs) k ≡ true → used_at v k ≡ 0
unfolding is_one sent_over
row_sent_unused v [] k e = absurd (true≢false (sym e))
row_sent_unused v (c ∷ cs) k e =
    let after = (serve (lending v c)).vectors in
    sent_first v c cs k (used_at v k ≡ 0) e (sent_unused (table_only (lending v c)) k)
    (λ f. call_unused (table_only (lending v c)) k (row_sent_unused after cs k f))

pub row_sent_used : (v : List ℕ) (cs : List Turn) (k : ℕ) → is_one (sent_over v cs) k ≡ true → used_at (left_by v cs) k ≡ 1
unfolding is_one sent_over left_by
row_sent_used v [] k e = absurd (true≢false (sym e))
row_sent_used v (c ∷ cs) k e =
    let after = (serve (lending v c)).vectors in
    sent_first v c cs k (used_at (left_by after cs) k ≡ 1) e (λ f. row_used after cs k (sent_used (table_only (lending v c)) k f)) (row_sent_used after cs k)

-- what is used is not sent
pub row_never : (v : List ℕ) (cs : List Turn) (k : ℕ) → used_at v k ≡ 1 → is_one (sent_over v cs) k ≡ false
row_never v cs k e = go (is_one (sent_over v cs) k) refl
  where
    go : (x : Bool) → is_one (sent_over v cs) k ≡ x → x ≡ false
    go true f = absurd (omega (arith, e, row_sent_unused v cs k f))
    go false f = refl

pub row_once : (v : List ℕ) (cs : List Turn) → Once (sent_over v cs)
unfolding sent_over
row_once v [] = tt
row_once v (c ∷ cs) =
    let x = table_only (lending v c) in
    let after = (serve (lending v c)).vectors in
    once_join (sent_by x) (sent_over after cs) (rising_once 0 (sent_by x) (rising x)) (row_once after cs) (λ k e. row_never after cs k (sent_used x k e))

-- the file over a row
pub row_check : (v : List ℕ) (cs : List Turn) → check_vectors (left_by v cs) ≡ check_vectors v
unfolding left_by
row_check v [] = refl
row_check v (c ∷ cs) = row_check (serve (lending v c)).vectors cs ∙ check_kept (table_only (lending v c))

pub row_length : (v : List ℕ) (cs : List Turn) → length (left_by v cs) ≡ length v
unfolding left_by
row_length v [] = refl
row_length v (c ∷ cs) = row_length (serve (lending v c)).vectors cs ∙ length_kept (table_only (lending v c))

pub left_join : (v : List ℕ) (cs ds : List Turn) → left_by v (cs ++ ds) ≡ left_by (left_by v cs) ds
unfolding left_by
left_join v [] ds = refl
left_join v (c ∷ cs) ds = left_join (serve (lending v c)).vectors cs ds
