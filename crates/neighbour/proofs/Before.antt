-- Calls about others leave my records as they were, and all identities: a request about my subscription sees the same before and after them.
use Rattle.std.specs.Prelude.{Ok}
use Rattle.octets.specs.Standard.{ℕ, zero, suc, ◌≤◌, Bool, true, false, cond, ◌≡◌, refl, sym, ◌∙◌, ap, ◌≢◌, ◌⊎◌, inl, inr, some, List, [], ◌∷◌}
use Rattle.octets.specs.Standard.{arith, length, ◌<◌, get_or}
use Rattle.octets.specs.Name.{same}
use Rattle.octets.proofs.Names.{same_eq}
use Rattle.octets.proofs.Parts.{part_alike}
use Rattle.record.specs.Fields.{public_size, private_size, public_of, private_of}
use Rattle.blocks.specs.Blocks.{block_of}
use Rattle.blocks.proofs.Blocks.{block_length}
use Rattle.table.specs.Area.{table_in, check_area}
use Rattle.table.specs.Check.{check_table}
use Rattle.table.specs.Named.{private_at}
use Rattle.table.specs.SoundTable.{SoundTable}
use Rattle.table.proofs.Sound.{sound_block, sound_public}
use Rattle.diameter.specs.Put.{All}
use Rattle.calling.specs.Lent.{Lent, table_only, dialect_in}
use Rattle.vectors.specs.VectorFile.{check_vectors}
use Rattle.calling.specs.Call.{Answer, Answered}
use Rattle.calling.specs.Serve.{check_of, serve_table, serve}
use Rattle.calling.proofs.Areas.{served_in}
use Rattle.calling.proofs.Kept.{vectors_checked}
use Rattle.rewrite.specs.Keeps.{alterable}
use Rattle.rewrite.proofs.Bytes.{kept_low}
use Rattle.rewrite.proofs.Sound.{sound_private}
use Rattle.demands.specs.Frame.{subscription_of}
use Rattle.demands.proofs.Frame.{others_kept, header_kept, bytes_kept, sound_kept}
use Rattle.seen_alike.specs.Shown.{Each}
use Rattle.neighbour.specs.Seen.{SameLine, records, having, records_of, publics_of, users_of, SameSeen}
use Rattle.neighbour.specs.Mine.{AboutMine, Turn, turn_over, after_turn, after_turns, AboutOthers}
use Rattle.neighbour.proofs.Records.{each_join}
use Rattle.neighbour.proofs.Calls.{also_answered}
use Rattle.neighbour.proofs.Others.{Owned, all_more, table_sound, mine_seen}

-- A record afterwards has the identities that it had, and if it is mine it is as it was.
record Twin (mine b c : List ℕ) : Type 0 where
  public : public_of b ≡ public_of c
  private : private_of b ≡ private_of c
  same_one : private_of b ≡ mine → b ≡ c

module _ (mine : List ℕ) where
  records_twin : (t u : List ℕ) (count : ℕ) → ((k : ℕ) → 1 ≤ k → k ≤ count → Twin mine (block_of t k) (block_of u k)) → (n : ℕ) → n ≤ count
      → Each (Twin mine) (records t n) (records u n)
  unfolding records
  records_twin t u count twin zero h = tt
  records_twin t u count twin (suc n) h =
      each_join (Twin mine) (records t n) (records u n) (block_of t (suc n) ∷ []) (block_of u (suc n) ∷ []) (records_twin t u count twin n (omega arith))
      (twin (suc n) (omega arith) h, tt)

  mine_twin : (file : List ℕ) (bs cs : List (List ℕ)) → Each (Twin mine) bs cs
      → Each (SameLine file file) (having private_of mine bs) (having private_of mine cs)
  unfolding having
  mine_twin file [] [] e = tt
  mine_twin file [] (c ∷ cs) e = absurd e
  mine_twin file (b ∷ bs) [] e = absurd e
  mine_twin file (b ∷ bs) (c ∷ cs) (w, e) = rw (← w.private) (go (same (private_of b) mine) refl (mine_twin file bs cs e))
    where
      go : (p : Bool) → same (private_of b) mine ≡ p → Each (SameLine file file) (having private_of mine bs) (having private_of mine cs)
          → Each (SameLine file file) (cond p (b ∷ having private_of mine bs) (having private_of mine bs))
          (cond p (c ∷ having private_of mine cs) (having private_of mine cs))
      go true f next =
          let q : b ≡ c = w.same_one (same_eq (private_of b) mine f) in
          (record { block = record { bytes = λ i h g. rw q }; profile = rw q }, next)
      go false f next = next

  owned_twin : (name : List ℕ) (bs cs : List (List ℕ)) → Each (Twin mine) bs cs → All (Owned mine) (having public_of name bs)
      → All (Owned mine) (having public_of name cs)
  unfolding having
  owned_twin name [] [] e a = tt
  owned_twin name [] (c ∷ cs) e a = absurd e
  owned_twin name (b ∷ bs) [] e a = absurd e
  owned_twin name (b ∷ bs) (c ∷ cs) (w, e) a = rw (← w.public) (go (same (public_of b) name) a (owned_twin name bs cs e))
    where
      go : (p : Bool) → All (Owned mine) (cond p (b ∷ having public_of name bs) (having public_of name bs))
          → (All (Owned mine) (having public_of name bs) → All (Owned mine) (having public_of name cs))
          → All (Owned mine) (cond p (c ∷ having public_of name cs) (having public_of name cs))
      go true r next = (sym w.private ∙ r.0, next r.1)
      go false r next = next r

  none_twin : (name : List ℕ) (bs cs : List (List ℕ)) → Each (Twin mine) bs cs → having private_of name bs ≡ [] → having private_of name cs ≡ []
  unfolding having
  none_twin name [] [] e a = refl
  none_twin name [] (c ∷ cs) e a = absurd e
  none_twin name (b ∷ bs) [] e a = absurd e
  none_twin name (b ∷ bs) (c ∷ cs) (w, e) a = rw (← w.private) (go (same (private_of b) name) a (none_twin name bs cs e))
    where
      go : (p : Bool) → cond p (b ∷ having private_of name bs) (having private_of name bs) ≡ []
          → (having private_of name bs ≡ [] → having private_of name cs ≡ [])
          → cond p (c ∷ having private_of name cs) (having private_of name cs) ≡ []
      go true r next = let z : ◌≡◌ {A = ℕ} 0 1 = cc in absurd (omega arith)
      go false r next = next r

  module _ (count : ℕ) where
    -- what a row of calls leaves of what was lent
    record After (x y : Lent) : Type 0 where
      request : x.request ≡ y.request
      profile : x.profile ≡ y.profile
      terms : x.terms ≡ y.terms
      buffer : x.buffer ≡ y.buffer
      vectors : check_vectors x.vectors ≡ check_vectors y.vectors
      sound : check_area y.table (length y.profile) ≡ Ok count
      header : block_of (table_in x.table) 0 ≡ block_of (table_in y.table) 0
      each : (k : ℕ) → 1 ≤ k → k ≤ count → Twin mine (block_of (table_in x.table) k) (block_of (table_in y.table) k)

    twin_again : (b c d : List ℕ) → Twin mine b c → Twin mine c d → Twin mine b d
    twin_again b c d v w =
        record {
          public = v.public ∙ w.public;
          private = v.private ∙ w.private;
          same_one = λ e. v.same_one e ∙ w.same_one (sym v.private ∙ e);
        }

    after_again : (x y z : Lent) → After x y → After y z → After x z
    after_again x y z a b =
        record {
          request = a.request ∙ b.request;
          profile = a.profile ∙ b.profile;
          terms = a.terms ∙ b.terms;
          buffer = a.buffer ∙ b.buffer;
          vectors = a.vectors ∙ b.vectors;
          sound = b.sound;
          header = a.header ∙ b.header;
          each = λ k l h. twin_again _ _ _ (a.each k l h) (b.each k l h);
        }

    -- one call
    module _ (x : Lent) (sound : check_area x.table (length x.profile) ≡ Ok count) (c : Turn)
        (others : subscription_of (dialect_in (turn_over x c)) c.request (table_in x.table) count ≢ some mine) where
      abbrev z : Lent
      z = table_only (turn_over x c)

      abbrev t : List ℕ
      t = table_in x.table

      abbrev u : List ℕ
      u = (serve_table z).table

      found : check_of z ≡ Ok count
      unfolding check_area
      found = sound

      left : check_table u (length x.profile) ≡ Ok count
      left = sound_kept z count found

      was : SoundTable t count
      was = record { file = length x.profile; checked = found }

      is : SoundTable u count
      is = record { file = length x.profile; checked = left }

      module _ (k : ℕ) (l : 1 ≤ k) (h : k ≤ count) where
        size : length (block_of t k) ≡ length (block_of u k)
        size = block_length t k (sound_block t count was k h) ∙ sym (block_length u k (sound_block u count is k h))

        byte : (i : ℕ) → i < 512 → alterable i ≡ false → get_or (block_of t k) i 0 ≡ get_or (block_of u k) i 0
        byte i a e = sym (bytes_kept z count found k i h a e)

        public_kept : public_of (block_of t k) ≡ public_of (block_of u k)
        unfolding public_of
        public_kept =
            let n : public_size (block_of t k) ≤ 128 = sound_public t count was k l h in
            rw (← byte 13 (omega arith) refl)
            (part_alike (block_of t k) (block_of u k) 16 (public_size (block_of t k)) size
            (λ i a b. byte i (omega arith) (kept_low i (omega arith) (omega arith))))

        private_kept : private_of (block_of t k) ≡ private_of (block_of u k)
        unfolding private_of
        private_kept =
            let n : private_size (block_of t k) ≤ 128 = sound_private t count was k l h in
            rw (← byte 14 (omega arith) refl)
            (part_alike (block_of t k) (block_of u k) 144 (private_size (block_of t k)) size
            (λ i a b. byte i (omega arith) (kept_low i (omega arith) (omega arith))))

        call_twin : Twin mine (block_of t k) (block_of u k)
        unfolding private_at
        call_twin =
            record {
              public = public_kept;
              private = private_kept;
              same_one = λ e. sym (others_kept z count found k h (λ q. others (sym q ∙ ap some e)));
            }

      call_after : After x (after_turn x c)
      unfolding check_area
      call_after =
          record {
            request = refl;
            profile = refl;
            terms = refl;
            buffer = refl;
            vectors = sym (vectors_checked z);
            sound = rw (served_in (turn_over x c)) left;
            header = rw (served_in (turn_over x c)) (sym (header_kept z count found));
            each = λ k l h. rw (served_in (turn_over x c)) (call_twin k l h);
          }

    -- the row
    row_after : (x : Lent) → check_area x.table (length x.profile) ≡ Ok count → (cs : List Turn) → AboutOthers mine count x cs
        → After x (after_turns x cs)
    unfolding after_turns
    row_after x sound [] o =
        record {
          request = refl;
          profile = refl;
          terms = refl;
          buffer = refl;
          vectors = refl;
          sound = sound;
          header = refl;
          each = λ k l h. record { public = refl; private = refl; same_one = λ e. refl };
        }
    row_after x sound (c ∷ cs) o =
        let a : After x (after_turn x c) = call_after x sound c o.0 in
        after_again x (after_turn x c) (after_turns (after_turn x c) cs) a (row_after (after_turn x c) a.sound cs o.1)

    -- a request about mine sees the same before and after
    module _ (x : Lent) (cs : List Turn) (asked : AboutMine x count mine) (sound : check_area x.table (length x.profile) ≡ Ok count)
        (o : AboutOthers mine count x cs) where
      abbrev y : Lent
      y = after_turns x cs

      a : After x y
      a = row_after x sound cs o

      twins : Each (Twin mine) (records_of x count) (records_of y count)
      twins = records_twin (table_in x.table) (table_in y.table) count a.each count (omega arith)

      pub row_answered : (a : Answer) → (serve x).call ≡ Answered a → (b : Answer) × ((serve y).call ≡ Answered b)
      row_answered = also_answered x y count sound a.sound a.request a.terms a.buffer a.vectors

      pub row_sound : check_area y.table (length y.profile) ≡ Ok count
      row_sound = a.sound

      user_after : (name : List ℕ) → (name ≡ mine) ⊎ (having private_of name (records_of x count) ≡ [])
          → (name ≡ mine) ⊎ (having private_of name (records_of y count) ≡ [])
      user_after name (inl e) = inl e
      user_after name (inr e) = inr (none_twin name (records_of x count) (records_of y count) twins e)

      about_after : AboutMine y count mine
      about_after =
          record {
            publics =
                rw (← a.request, ← a.terms)
                (all_more (λ (name : List ℕ). All (Owned mine) (having public_of name (records_of x count)))
                (λ (name : List ℕ). All (Owned mine) (having public_of name (records_of y count)))
                (λ name. owned_twin name (records_of x count) (records_of y count) twins) (publics_of x) asked.publics);
            users =
                rw (← a.request, ← a.terms)
                (all_more (λ (name : List ℕ). (name ≡ mine) ⊎ (having private_of name (records_of x count) ≡ []))
                (λ (name : List ℕ). (name ≡ mine) ⊎ (having private_of name (records_of y count) ≡ [])) user_after (users_of x) asked.users);
          }

      pub row_seen : SameSeen x y count count
      row_seen =
          mine_seen x y count count (table_sound x count sound) (table_sound y count row_sound) mine a.request a.terms
          (record { bytes = λ i h e. rw a.header }) asked about_after
          (rw (← a.profile) (mine_twin x.profile (records_of x count) (records_of y count) twins))
