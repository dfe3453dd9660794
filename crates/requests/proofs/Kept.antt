-- What a request that was read holds: what the dialect needs came, and each AVP that was taken keeps rule (h).
use Rattle.octets.specs.Standard.{ℕ, zero, suc, ◌+◌, ◌/◌, ◌%◌, ◌≤◌, ◌<◌, add-zero, add-suc, suc-add, ◌≡◌, refl, sym, ap, ◌∙◌, List, [], ◌∷◌, Option, none, some}
use Rattle.octets.specs.Standard.{none-ne-some, Bool, true, false, not, cond, ◌&&◌, true≢false, ◌⊎◌, inl, inr, arith, length, get_or, set}
use Rattle.octets.specs.Standard.{replicate, eqb, leb, eqb-true, leb-true}
use Rattle.octets.proofs.All.{and_left, and_right}
use Rattle.octets.proofs.Chains.{chain_says}
use Rattle.diameter.specs.Avp.{padded, avp_flags, data_of, reserved, marked}
use Rattle.diameter.specs.Walk.{Walk, ended, faulty, avp}
use Rattle.diameter.specs.AvpAt.{present}
use Rattle.reading.specs.declared.Content.TheVariants.{Sized}
use Rattle.reading.specs.declared.Dialect.{Dialect}
use Rattle.reading.specs.declared.Kind.{Kind}
use Rattle.reading.specs.declared.Ruled.{Ruled}
use Rattle.reading.specs.declared.Ruled.TheVariants.{Taken, Skipped, Fault}
use Rattle.reading.specs.declared.Use.{Use}
use Rattle.reading.specs.declared.Use.TheVariants.{Unknown, Unnamed, Needed, Optional, Repeated, Several}
use Rattle.reading.specs.declared.Verdict.{Verdict}
use Rattle.reading.specs.Kinds.{kinds, known, unknown, kind_of, row_of, use_in, use_of, is_needed, session_id, server_name}
use Rattle.reading.specs.Contents.{fault_unless, plain_fault}
use Rattle.reading.specs.Rules.{content_fault, of_content, of_use, rule_by, rule, Seen}
use Rattle.reading.proofs.Columns.{use_any}
use Rattle.requests.specs.Judged.{nothing, Judged, bad, fine, on_rule, judge}
use Rattle.diameter.specs.Message.{version_of, message_flags, body_of}
use Rattle.reading.specs.Verdicts.{lack_of, fault_of}
use Rattle.requests.specs.Request.{cx, sh, spoken, spoken_sh, header_fault_by, header_fault, header_fault_sh, first_other, missing_from, missing, complete}
use Rattle.requests.specs.Request.{read_walk, read_by, read_in, read_sh, given, data_if, data_seen}

-- every AVP that was taken holds what its kind must
abbrev pub AllKept : Dialect → Seen → Type 0
AllKept dialect seen = (k : ℕ) (a : List ℕ) → get_or seen k none ≡ some a → content_fault dialect (row_of k).content a ≡ 0

pub bad_fine : {A : Type 0} (v : Verdict) (seen : Seen) → bad v ≡ fine seen → A
bad_fine v seen e = let z : ◌≡◌ {A = ℕ} 0 1 = cc in absurd (omega arith)

-- an AVP with bad content is not taken
data TakenIf (fault : ℕ) : Ruled → Type 0 where
  taken : fault ≡ 0 → TakenIf fault Taken
  skipped : TakenIf fault Skipped
  faulted : (n : ℕ) → TakenIf fault (Fault n)

taken_if : (fault : ℕ) (x : Bool) (a b : Ruled) → TakenIf fault a → TakenIf fault b → TakenIf fault (cond x a b)
taken_if fault true a b p q = p
taken_if fault false a b p q = q

content_taken : (fault : ℕ) → TakenIf fault (of_content fault)
content_taken fault = go (eqb fault 0) refl
  where
    go : (x : Bool) → eqb fault 0 ≡ x → TakenIf fault (cond x Taken (Fault fault))
    go true e = taken (eqb-true _ _ e)
    go false e = faulted fault

use_taken : (u : Use) (earlier : Bool) (flags fault : ℕ) → TakenIf fault (of_use u earlier flags fault)
use_taken Unknown earlier flags fault = taken_if fault (marked flags) _ _ (faulted 5001) skipped
use_taken Unnamed earlier flags fault = skipped
use_taken Needed earlier flags fault = taken_if fault earlier _ _ (faulted 5009) (content_taken fault)
use_taken Optional earlier flags fault = taken_if fault earlier _ _ (faulted 5009) (content_taken fault)
use_taken Repeated earlier flags fault = content_taken fault
use_taken Several earlier flags fault = content_taken fault

rule_taken : (dialect : Dialect) (seen : Seen) (a : List ℕ) → TakenIf (content_fault dialect (row_of (kind_of a)).content a) (rule dialect seen a)
unfolding rule rule_by
rule_taken dialect seen a =
    taken_if _ (not (eqb (reserved (avp_flags a)) 0)) _ _ (faulted 3009) (use_taken (use_of dialect a) (present (get_or seen (kind_of a) none)) (avp_flags a) _)

set_cases : {P : Type 0} (l : Seen) (i k : ℕ) (x : Option (List ℕ)) (b : List ℕ) → get_or (set l i x) k none ≡ some b → (k ≡ i → x ≡ some b → P)
    → (get_or l k none ≡ some b → P) → P
set_cases [] i k x b e p q = q e
set_cases (y ∷ l) zero zero x b e p q = p refl e
set_cases (y ∷ l) zero (suc k) x b e p q = q e
set_cases (y ∷ l) (suc i) zero x b e p q = q e
set_cases (y ∷ l) (suc i) (suc k) x b e p q = set_cases l i k x b e (λ z. p (ap suc z)) q

taken_kept : (dialect : Dialect) (seen : Seen) (a : List ℕ) → AllKept dialect seen → content_fault dialect (row_of (kind_of a)).content a ≡ 0
    → AllKept dialect (set seen (kind_of a) (some a))
taken_kept dialect seen a h g k b e = set_cases seen (kind_of a) k (some a) b e (λ i j. let ab : a ≡ b = cc in rw (i, ← ab) g) (h k b)

judge_kept : (dialect : Dialect) (at : ℕ) (w : Walk) (seen out : Seen) → AllKept dialect seen → judge dialect at w seen ≡ fine out → AllKept dialect out
unfolding judge
judge_kept dialect at ended seen out h e = let d : seen ≡ out = cc in rw d at h
judge_kept dialect at (faulty t) seen out h e = bad_fine _ _ e
judge_kept dialect at (avp a w) seen out h e = go (rule dialect seen a) (rule_taken dialect seen a) e (judge_kept dialect (at + padded (length a)) w)
  where
    go : (x : Ruled) → TakenIf (content_fault dialect (row_of (kind_of a)).content a) x → on_rule x seen a at (judge dialect (at + padded (length a)) w) ≡ fine out
        → ((σ τ : Seen) → AllKept dialect σ → judge dialect (at + padded (length a)) w σ ≡ fine τ → AllKept dialect τ) → AllKept dialect out
    go Taken (taken g) d next = next (set seen (kind_of a) (some a)) out (taken_kept dialect seen a h g) d
    go Skipped skipped d next = next seen out h d
    go (Fault n) (faulted m) d next = bad_fine _ _ d

nothing_kept : (dialect : Dialect) → AllKept dialect nothing
unfolding nothing
nothing_kept dialect k a e = absurd (none-ne-some a (sym (none_there kinds k) ∙ e))
  where
    none_there : (n i : ℕ) → ◌≡◌ {A = Option (List ℕ)} (get_or (replicate n none) i none) none
    none_there zero i = refl
    none_there (suc n) zero = refl
    none_there (suc n) (suc i) = none_there n i

-- a request without fault: its walk, and nothing is missing
complete_fine : (dialect : Dialect) (j : Judged) (seen : Seen) → complete dialect j ≡ fine seen → (j ≡ fine seen) × (missing dialect seen ≡ 0)
unfolding complete
complete_fine dialect (bad v) seen e = bad_fine v seen e
complete_fine dialect (fine σ) seen e = go (eqb (missing dialect σ) 0) refl e
  where
    go : (x : Bool) → eqb (missing dialect σ) 0 ≡ x → cond x (fine σ) (bad (lack_of (missing dialect σ))) ≡ fine seen
        → (fine σ ≡ fine seen) × (missing dialect seen ≡ 0)
    go true p d = let q : σ ≡ seen = cc in (d, rw (← q) (eqb-true _ _ p))
    go false p d = bad_fine _ _ d

walk_fine : (dialect : Dialect) (w : Walk) (seen : Seen) → read_walk dialect w ≡ fine seen
    → (judge dialect 20 w nothing ≡ fine seen) × (missing dialect seen ≡ 0)
unfolding read_walk
walk_fine dialect w seen e = go (first_other w) e
  where
    go : (x : Bool) → cond x (bad (lack_of session_id)) (complete dialect (judge dialect 20 w nothing)) ≡ fine seen
        → (judge dialect 20 w nothing ≡ fine seen) × (missing dialect seen ≡ 0)
    go true d = bad_fine _ _ d
    go false d = complete_fine dialect (judge dialect 20 w nothing) seen d

by_fine : (fault : ℕ) (dialect : Dialect) (req : List ℕ) (seen : Seen) → read_by fault dialect req ≡ fine seen
    → (judge dialect 20 (body_of req) nothing ≡ fine seen) × (missing dialect seen ≡ 0)
by_fine fault dialect req seen e = go (eqb fault 0) e
  where
    go : (x : Bool) → cond x (read_walk dialect (body_of req)) (bad (fault_of fault)) ≡ fine seen
        → (judge dialect 20 (body_of req) nothing ≡ fine seen) × (missing dialect seen ≡ 0)
    go true d = walk_fine dialect (body_of req) seen d
    go false d = bad_fine _ _ d

pub request_fine : (dialect : Dialect) (req : List ℕ) (seen : Seen) → read_in dialect req ≡ fine seen
    → (judge dialect 20 (body_of req) nothing ≡ fine seen) × (missing dialect seen ≡ 0)
unfolding read_in
request_fine dialect req seen e = by_fine (header_fault dialect req) dialect req seen e

sh_fine : (dialect : Dialect) (req : List ℕ) (seen : Seen) → read_sh dialect req ≡ fine seen
    → (judge dialect 20 (body_of req) nothing ≡ fine seen) × (missing dialect seen ≡ 0)
unfolding read_sh
sh_fine dialect req seen e = by_fine (header_fault_sh dialect req) dialect req seen e

pub read_kept : (dialect : Dialect) (req : List ℕ) (seen : Seen) → read_in dialect req ≡ fine seen → AllKept dialect seen
read_kept dialect req seen e = judge_kept dialect 20 (body_of req) nothing seen (nothing_kept dialect) (request_fine dialect req seen e).0

pub sh_kept : (dialect : Dialect) (req : List ℕ) (seen : Seen) → read_sh dialect req ≡ fine seen → AllKept dialect seen
sh_kept dialect req seen e = judge_kept dialect 20 (body_of req) nothing seen (nothing_kept dialect) (sh_fine dialect req seen e).0

-- what is needed came
missing_zero : (dialect : Dialect) (seen : Seen) (ks : List Kind) (n : ℕ) → 0 < n → missing_from dialect seen ks n ≡ 0 → (i : ℕ) → i < length ks
    → is_needed (use_in dialect (get_or ks i unknown)) ≡ true → present (get_or seen (n + i) none) ≡ true
unfolding missing_from
missing_zero dialect seen [] n p e i h t = absurd (omega arith)
missing_zero dialect seen (k ∷ ks) n p e i h t =
    go (is_needed (use_in dialect k)) (present (get_or seen n none)) refl refl e (missing_zero dialect seen ks (suc n) (omega arith)) i h t
  where
    later : (j : ℕ) → present (get_or seen (suc n + j) none) ≡ true → present (get_or seen (n + suc j) none) ≡ true
    later j d = rw (add-suc n j, ← suc-add n j) d

    go : (x y : Bool) → is_needed (use_in dialect k) ≡ x → present (get_or seen n none) ≡ y → cond (x && not y) n (missing_from dialect seen ks (suc n)) ≡ 0
        → (missing_from dialect seen ks (suc n) ≡ 0 → (j : ℕ) → j < length ks → is_needed (use_in dialect (get_or ks j unknown)) ≡ true
        → present (get_or seen (suc n + j) none) ≡ true)
        → (j : ℕ) → j < length (k ∷ ks) → is_needed (use_in dialect (get_or (k ∷ ks) j unknown)) ≡ true → present (get_or seen (n + j) none) ≡ true
    go true false ex ey d next j l u = absurd (omega arith)
    go true true ex ey d next zero l u = rw add-zero ey
    go false y ex ey d next zero l u = absurd (true≢false (sym u ∙ ex))
    go true true ex ey d next (suc j) l u = later j (next d j (omega arith) u)
    go false y ex ey d next (suc j) l u = later j (next d j (omega arith) u)

none_missing : (dialect : Dialect) (seen : Seen) (k : ℕ) → missing dialect seen ≡ 0 → k < kinds → is_needed (use_in dialect (row_of k)) ≡ true
    → given seen k ≡ true
unfolding missing row_of known
none_missing dialect seen zero e h t =
    use_any (λ (u : Use). is_needed u ≡ true → given seen zero ≡ true) dialect unknown (λ f d. never d) never never never never t
  where
    never : false ≡ true → given seen zero ≡ true
    never d = absurd (true≢false (sym d))
none_missing dialect seen (suc i) e h t =
    let d = missing_zero dialect seen known 1 (omega arith) e i (omega arith) t in
    let n : 1 + i ≡ suc i = omega arith in
    rw n at d

module _ (dialect : Dialect) (req : List ℕ) (seen : Seen) (k : ℕ) where
  pub read_needed : read_in dialect req ≡ fine seen → k < kinds → is_needed (use_in dialect (row_of k)) ≡ true → given seen k ≡ true
  read_needed e h t = none_missing dialect seen k (request_fine dialect req seen e).1 h t

  pub sh_needed : read_sh dialect req ≡ fine seen → k < kinds → is_needed (use_in dialect (row_of k)) ≡ true → given seen k ≡ true
  sh_needed e h t = none_missing dialect seen k (sh_fine dialect req seen e).1 h t

-- of a request that was read the header has no fault, and the application has its command
fine_first : (x : Bool) (w : Judged) (v : Verdict) {seen : Seen} → cond x w (bad v) ≡ fine seen → x ≡ true
fine_first true w v e = refl
fine_first false w v {seen} e = bad_fine v seen e

unspoken : (version error : Bool) → ◌≡◌ {A = ℕ} (cond version 5011 (cond error 3008 3001)) 0 → ⊥
unspoken true error e = omega arith
unspoken false true e = omega arith
unspoken false false e = omega arith

header_speaks : (has : Bool) (d : Dialect) (req : List ℕ) → header_fault_by has d req ≡ 0 → has ≡ true
header_speaks true d req e = refl
header_speaks false d req e = absurd (unspoken (not (eqb (version_of req) 1)) (eqb (message_flags req / 32 % 2) 1) e)

pub header_spoken : (d : Dialect) (req : List ℕ) → header_fault d req ≡ 0 → (d.terms.application ≡ cx) × (300 ≤ d.command) × (d.command ≤ 303)
unfolding header_fault
header_spoken d req e =
    let s = chain_says (eqb d.terms.application cx) (leb 300 d.command ∷ leb d.command 303 ∷ []) (header_speaks (spoken d) d req e) in
    (eqb-true _ _ (s 0), leb-true _ _ (s 1), leb-true _ _ (s 2))

pub read_spoken : (d : Dialect) (req : List ℕ) (seen : Seen) → read_in d req ≡ fine seen → (d.terms.application ≡ cx) × (300 ≤ d.command) × (d.command ≤ 303)
unfolding read_in
read_spoken d req seen e = header_spoken d req (eqb-true _ _ (fine_first (eqb (header_fault d req) 0) _ _ e))

pub read_command : (d : Dialect) (req : List ℕ) (seen : Seen) → read_in d req ≡ fine seen → (300 ≤ d.command) × (d.command ≤ 303)
read_command d req seen e = let r = read_spoken d req seen e in (r.1, r.2)

pub sh_spoken : (d : Dialect) (req : List ℕ) (seen : Seen) → read_sh d req ≡ fine seen → (d.terms.application ≡ sh) × (d.command ≡ 306)
unfolding read_sh header_fault_sh
sh_spoken d req seen e =
    let f : spoken_sh d ≡ true = header_speaks (spoken_sh d) d req (eqb-true _ _ (fine_first (eqb (header_fault_sh d req) 0) _ _ e)) in
    (eqb-true _ _ (and_left (eqb d.terms.application sh) _ f), eqb-true _ _ (and_right (eqb d.terms.application sh) _ f))

-- on Cx a kind has its use by the command
pub cx_use : (d : Dialect) (k : Kind) → d.terms.application ≡ cx → use_in d k
    ≡ cond (eqb d.command 300) k.uses.uar (cond (eqb d.command 301) k.uses.sar (cond (eqb d.command 302) k.uses.lir k.uses.mar))
unfolding use_in
cx_use d k e = rw e

-- the limits of lengths; of a kind that did not come the length is 0
pub no_fault : (good : Bool) (n : ℕ) → fault_unless good (suc n) ≡ 0 → good ≡ true
no_fault true n e = refl
no_fault false n e = absurd (omega arith)

module _ (dialect : Dialect) (seen : Seen) (k : ℕ) (h : AllKept dialect seen) where
  -- the data of the AVP that was taken are of that length
  sized : (least most : ℕ) → (row_of k).content ≡ Sized least most → (a : List ℕ) → get_or seen k none ≡ some a
      → (leb least (length (data_of a)) && leb (length (data_of a)) most) ≡ true
  unfolding content_fault plain_fault
  sized least most e a d = no_fault _ 5003 (rw e at (h k a d))

  if_data : (o : Option (List ℕ)) (most : ℕ) → ((a : List ℕ) → o ≡ some a → length (data_of a) ≤ most) → length (data_if o) ≤ most
  if_data none most f = omega arith
  if_data (some a) most f = f a refl

  pub data_most : (least most : ℕ) → (row_of k).content ≡ Sized least most → length (data_seen seen k) ≤ most
  data_most least most e = if_data (get_or seen k none) most (λ a d. leb-true _ _ (and_right (leb least (length (data_of a))) _ (sized least most e a d)))

  if_given : (o : Option (List ℕ)) (least : ℕ) → present o ≡ true → ((a : List ℕ) → o ≡ some a → least ≤ length (data_of a)) → least ≤ length (data_if o)
  if_given none least t f = absurd (true≢false (sym t))
  if_given (some a) least t f = f a refl

  pub data_least : (least most : ℕ) → (row_of k).content ≡ Sized least most → given seen k ≡ true → least ≤ length (data_seen seen k)
  data_least least most e t = if_given (get_or seen k none) least t (λ a d. leb-true _ _ (and_left (leb least (length (data_of a))) _ (sized least most e a d)))

-- "Server-Name 602 (1 to 96 bytes)", which a SAR and a MAR (none of the other three that are read) need
module _ (dialect : Dialect) (req : List ℕ) (seen : Seen) (e : read_in dialect req ≡ fine seen) where
  pub server_most : length (data_seen seen server_name) ≤ 96
  unfolding row_of known
  server_most = data_most dialect seen server_name (read_kept dialect req seen e) 1 96 refl

  server_needed : (dialect.command ≡ 301) ⊎ ((dialect.command ≡ 300 → ⊥) × (dialect.command ≡ 301 → ⊥) × (dialect.command ≡ 302 → ⊥))
      → is_needed (use_in dialect (row_of server_name)) ≡ true
  unfolding row_of known
  server_needed o = let r = read_spoken dialect req seen e in rw (cx_use dialect (row_of server_name) r.0) (go o (r.1, r.2))
    where
      go : (dialect.command ≡ 301) ⊎ ((dialect.command ≡ 300 → ⊥) × (dialect.command ≡ 301 → ⊥) × (dialect.command ≡ 302 → ⊥))
          → (300 ≤ dialect.command) × (dialect.command ≤ 303)
          → is_needed (cond (eqb dialect.command 300) Unnamed (cond (eqb dialect.command 301) Needed (cond (eqb dialect.command 302) Unnamed Needed)))
          ≡ true
      go (inl c) r = rw c
      go (inr (a, b, c)) r = let n : dialect.command ≡ 303 = omega arith in rw n

  pub server_least : (dialect.command ≡ 301) ⊎ ((dialect.command ≡ 300 → ⊥) × (dialect.command ≡ 301 → ⊥) × (dialect.command ≡ 302 → ⊥))
      → 1 ≤ length (data_seen seen server_name)
  unfolding row_of known
  server_least c =
      data_least dialect seen server_name (read_kept dialect req seen e) 1 96 refl
      (read_needed dialect req seen server_name e (omega arith) (server_needed c))
