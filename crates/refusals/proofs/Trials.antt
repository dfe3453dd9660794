-- Laws of trials in order, by induction: what holds of each and of what is otherwise.
use Rattle.octets.specs.Standard.{List, [], ◌∷◌, ◌++◌, Bool, true, false, cond, ◌||◌, true≢false, ◌≡◌, refl, sym}
use Rattle.diameter.specs.Put.{All}
use Rattle.refusals.specs.Trial.{Trial, tried, any_holds}

-- What holds of every one that may be given, and of what is otherwise, holds of what comes.
pub tried_by : {X : Type 0} (P : Bool → X → Type 0) (Q : Trial → Type 0) (give : Trial → X) (otherwise : X)
    → ((r : Trial) → Q r → r.holds ≡ true → P true (give r)) → P false otherwise
    → (rs : List Trial) → All Q rs → P (any_holds rs) (tried give otherwise rs)
unfolding tried any_holds
tried_by P Q give otherwise f o [] h = o
tried_by P Q give otherwise f o (r ∷ rs) h = go r.holds refl (tried_by P Q give otherwise f o rs h.1)
  where
    go : (x : Bool) → r.holds ≡ x → P (any_holds rs) (tried give otherwise rs) → P (x || any_holds rs) (cond x (give r) (tried give otherwise rs))
    go true e next = f r h.0 e
    go false e next = next

-- If one of them holds, what is otherwise does not matter.
pub tried_alike : {X : Type 0} (give : Trial → X) (o p : X) (rs : List Trial) → any_holds rs ≡ true → tried give o rs ≡ tried give p rs
unfolding tried any_holds
tried_alike give o p [] e = absurd (true≢false (sym e))
tried_alike give o p (r ∷ rs) e = go r.holds e (tried_alike give o p rs)
  where
    go : (x : Bool) → (x || any_holds rs) ≡ true → (any_holds rs ≡ true → tried give o rs ≡ tried give p rs)
        → cond x (give r) (tried give o rs) ≡ cond x (give r) (tried give p rs)
    go true h next = refl
    go false h next = next h

-- Trials of which none holds do not matter before others.
pub tried_past : {X : Type 0} (give : Trial → X) (o : X) (rs ss : List Trial) → any_holds rs ≡ false → tried give o (rs ++ ss) ≡ tried give o ss
unfolding tried any_holds
tried_past give o [] ss e = refl
tried_past give o (r ∷ rs) ss e = go r.holds e (tried_past give o rs ss)
  where
    go : (x : Bool) → (x || any_holds rs) ≡ false → (any_holds rs ≡ false → tried give o (rs ++ ss) ≡ tried give o ss)
        → cond x (give r) (tried give o (rs ++ ss)) ≡ tried give o ss
    go true h next = absurd (true≢false h)
    go false h next = next h
