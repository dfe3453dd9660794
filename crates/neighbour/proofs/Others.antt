-- A request about my subscription sees my records alone, and lines of others do not matter.
use Rattle.std.specs.Prelude.{Ok}
use Rattle.octets.specs.Standard.{ℕ, Bool, true, false, cond, true≢false, ◌≡◌, refl, sym, ◌∙◌, ap, ◌⊎◌, inl, inr, List, [], ◌∷◌}
use Rattle.octets.specs.Standard.{arith, length}
use Rattle.octets.specs.Name.{same}
use Rattle.octets.proofs.Names.{same_yes, same_no}
use Rattle.record.specs.Fields.{public_of, private_of}
use Rattle.blocks.specs.Blocks.{block_of}
use Rattle.table.specs.Area.{table_in, check_area}
use Rattle.table.specs.SoundTable.{SoundTable}
use Rattle.diameter.specs.Put.{All}
use Rattle.calling.specs.Lent.{Lent}
use Rattle.seen_alike.specs.Shown.{Each}
use Rattle.neighbour.specs.Seen.{header_apart, SameApart, SameLine, having, records_of, publics_of, users_of, SameHaving, SameSeen}
use Rattle.neighbour.specs.Mine.{AboutMine, OtherLines, none, stays, added, taken_away, changed}
use Rattle.neighbour.proofs.Records.{Roomy, records_roomy, having_all}
use Rattle.neighbour.proofs.Lines.{line_shows, having_lines}

-- the check says that a table is sound
pub table_sound : (x : Lent) (count : ℕ) → check_area x.table (length x.profile) ≡ Ok count → SoundTable (table_in x.table) count
unfolding check_area
table_sound x count e = record { file = length x.profile; checked = e }

-- two facts of each
all_both : {X : Type 0} (P Q R : X → Type 0) → ((a : X) → P a → Q a → R a) → (xs : List X) → All P xs → All Q xs → All R xs
all_both P Q R f [] p q = tt
all_both P Q R f (a ∷ xs) p q = (f a p.0 q.0, all_both P Q R f xs p.1 q.1)

pub all_more : {X : Type 0} (P R : X → Type 0) → ((a : X) → P a → R a) → (xs : List X) → All P xs → All R xs
all_more P R f [] p = tt
all_more P R f (a ∷ xs) p = (f a p.0, all_more P R f xs p.1)

-- records of a public identity that are mine are among mine
abbrev pub Owned : List ℕ → List ℕ → Type 0
Owned mine b = private_of b ≡ mine

having_mine : (mine name : List ℕ) (bs : List (List ℕ)) → All (Owned mine) (having public_of name bs)
    → having public_of name bs ≡ having public_of name (having private_of mine bs)
unfolding having
having_mine mine name [] a = refl
having_mine mine name (b ∷ bs) a = go (same (public_of b) name) (same (private_of b) mine) refl refl a (having_mine mine name bs)
  where
    public : List (List ℕ)
    public = having public_of name bs

    both : List (List ℕ)
    both = having public_of name (having private_of mine bs)

    go : (p q : Bool) → same (public_of b) name ≡ p → same (private_of b) mine ≡ q → All (Owned mine) (cond p (b ∷ public) public)
        → (All (Owned mine) public → public ≡ both)
        → cond p (b ∷ public) public ≡ having public_of name (cond q (b ∷ having private_of mine bs) (having private_of mine bs))
    go true true e f r next = rw e (ap (λ (cs : List (List ℕ)). b ∷ cs) (next r.1))
    go true false e f r next = absurd (true≢false (sym (same_yes (private_of b) mine r.0) ∙ f))
    go false true e f r next = rw e (next r)
    go false false e f r next = next r

-- MY RECORDS ARE THE SAME.
module _ (x y : Lent) (count many : ℕ) (first : SoundTable (table_in x.table) count) (second : SoundTable (table_in y.table) many) (mine : List ℕ)
    (request : x.request ≡ y.request) (terms : x.terms ≡ y.terms)
    (header : SameApart header_apart (block_of (table_in x.table) 0) (block_of (table_in y.table) 0)) (here : AboutMine x count mine)
    (there : AboutMine y many mine) (lines : SameHaving x y count many private_of mine) where
  roomy_here : All Roomy (records_of x count)
  roomy_here = records_roomy (table_in x.table) count first count (omega arith)

  roomy_there : All Roomy (records_of y many)
  roomy_there = records_roomy (table_in y.table) many second many (omega arith)

  public_same : (name : List ℕ) → All (Owned mine) (having public_of name (records_of x count)) → All (Owned mine) (having public_of name (records_of y many))
      → SameHaving x y count many public_of name
  public_same name a b =
      rw (having_mine mine name (records_of x count) a, having_mine mine name (records_of y many) b)
      (having_lines x.profile y.profile public_of (λ b c s. s.public) name (having private_of mine (records_of x count))
      (having private_of mine (records_of y many)) (having_all private_of mine Roomy (records_of x count) roomy_here)
      (having_all private_of mine Roomy (records_of y many) roomy_there) lines)

  user_same : (name : List ℕ) → (name ≡ mine) ⊎ (having private_of name (records_of x count) ≡ [])
      → (name ≡ mine) ⊎ (having private_of name (records_of y many) ≡ []) → SameHaving x y count many private_of name
  user_same name (inl e) b = rw e lines
  user_same name (inr e) (inl f) = rw f lines
  user_same name (inr e) (inr f) = rw (e, f) tt

  pub mine_seen : SameSeen x y count many
  mine_seen =
      record {
        request = request;
        terms = terms;
        header = header;
        publics =
            all_both (λ (name : List ℕ). All (Owned mine) (having public_of name (records_of x count)))
            (λ (name : List ℕ). All (Owned mine) (having public_of name (records_of y many))) (SameHaving x y count many public_of) public_same (publics_of x)
            here.publics (rw (← request, ← terms) at there.publics);
        users =
            all_both (λ (name : List ℕ). (name ≡ mine) ⊎ (having private_of name (records_of x count) ≡ []))
            (λ (name : List ℕ). (name ≡ mine) ⊎ (having private_of name (records_of y many) ≡ [])) (SameHaving x y count many private_of) user_same (users_of x)
            here.users (rw (← request, ← terms) at there.users);
        owners =
            all_more (λ (name : List ℕ). All (Owned mine) (having public_of name (records_of x count)))
            (λ (name : List ℕ). All (λ (b : List ℕ). SameHaving x y count many private_of (private_of b)) (having public_of name (records_of x count)))
            (λ name a.
            all_more (Owned mine) (λ (b : List ℕ). SameHaving x y count many private_of (private_of b)) (λ b e. rw e lines)
            (having public_of name (records_of x count)) a)
            (publics_of x) here.publics;
      }

-- LINES OF OTHERS.
pub lines_mine : (file other mine : List ℕ) {bs cs : List (List ℕ)} → OtherLines file other mine bs cs → All Roomy bs → All Roomy cs
    → Each (SameLine file other) (having private_of mine bs) (having private_of mine cs)
unfolding having
lines_mine file other mine none l r = tt
lines_mine file other mine (stays b c {bs} {cs} line rest) l r =
    rw (← (line_shows file other b c line l.0 r.0).private) (go (same (private_of b) mine) (lines_mine file other mine rest l.1 r.1))
  where
    go : (p : Bool) → Each (SameLine file other) (having private_of mine bs) (having private_of mine cs)
        → Each (SameLine file other) (cond p (b ∷ having private_of mine bs) (having private_of mine bs))
        (cond p (c ∷ having private_of mine cs) (having private_of mine cs))
    go true next = (line, next)
    go false next = next
lines_mine file other mine (added c n rest) l r = rw (same_no (private_of c) mine n) (lines_mine file other mine rest l r.1)
lines_mine file other mine (taken_away b n rest) l r = rw (same_no (private_of b) mine n) (lines_mine file other mine rest l.1 r)
lines_mine file other mine (changed b c m n rest) l r =
    rw (same_no (private_of b) mine m, same_no (private_of c) mine n) (lines_mine file other mine rest l.1 r.1)
