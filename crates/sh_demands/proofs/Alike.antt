-- Two tables of which a request sees the same get the same answer.
use Rattle.std.specs.Prelude.{Option, Some, None}
use Rattle.octets.specs.Standard.{ℕ, zero, suc, List, Bool, true, false, cond, ◌≡◌, refl, ap, arith, ne_eqb}
use Rattle.record.specs.Fields.{host_of, realm_of}
use Rattle.blocks.specs.Blocks.{block_of}
use Rattle.diameter.specs.Message.{body_of}
use Rattle.reading.specs.declared.Dialect.{Dialect}
use Rattle.reading.specs.declared.Terms.{Terms}
use Rattle.reading.specs.declared.Verdict.{Verdict}
use Rattle.requests.specs.Judged.{Judged, bad, fine}
use Rattle.requests.specs.Request.{dialect_of, under_sh, read_sh, identity_of}
use Rattle.lookup.specs.Among.{Among}
use Rattle.lookup.specs.Find.{find_public}
use Rattle.lookup.proofs.Among.{public_among}
use Rattle.envelope.specs.Front.{origin_bytes}
use Rattle.user_data.specs.declared.References.{References}
use Rattle.sh.specs.Answer.{record_bytes, told_bytes, sh_body, sh_answer}
use Rattle.sh.specs.Referring.{references_of}
use Rattle.reading.specs.Verdicts.{fault_of}
use Rattle.sh.specs.Tell.{Telling, denied, tell_record, tell_found, tell_read, tell_judged, tell}
use Rattle.sh_demands.specs.Shown.{SameShown, SameFound, SameSight}

-- the same verdict, and the same bytes told
record SameTold (t u : List ℕ) (g h : Telling) : Type 0 where
  verdict : g.verdict ≡ h.verdict
  bytes : told_bytes t g ≡ told_bytes u h

told_none : (t u : List ℕ) (g h : Telling) → g.verdict ≡ h.verdict → g.block ≡ 0 → h.block ≡ 0 → SameTold t u g h
unfolding told_bytes
told_none t u g h e a b = record { verdict = e; bytes = rw (a, b) }

record_same : (r : References) (b c : List ℕ) → SameShown b c → record_bytes r b ≡ record_bytes r c
unfolding record_bytes
record_same r b c s = rw (s.state, s.pends, s.server)

module _ (t u : List ℕ) (r : References) where
  told_record : (j k : ℕ) → SameShown (block_of t (suc j)) (block_of u (suc k)) → SameTold t u (tell_record r (suc j)) (tell_record r (suc k))
  unfolding tell_record told_bytes
  told_record j k s = go r.other
    where
      go : (x : Bool)
          → SameTold t u (cond x (denied 5100) (record { verdict = fault_of 2001; block = suc j; asked = r }))
          (cond x (denied 5100) (record { verdict = fault_of 2001; block = suc k; asked = r }))
      go true = record { verdict = refl; bytes = refl }
      go false = record { verdict = refl; bytes = rw (ne_eqb (suc j) 0 (omega arith), ne_eqb (suc k) 0 (omega arith)) (record_same r _ _ s) }

  told_found : (count many : ℕ) (f g : Option ℕ) → Among count f → Among many g → SameFound t u f g → SameTold t u (tell_found r f) (tell_found r g)
  unfolding tell_found told_bytes
  told_found count many (Some zero) g a b s = absurd (omega (arith, a.from 0 refl))
  told_found count many (Some (suc j)) (Some zero) a b s = absurd (omega (arith, b.from 0 refl))
  told_found count many (Some (suc j)) (Some (suc k)) a b s = told_record j k s
  told_found count many (Some (suc j)) None a b s = absurd s
  told_found count many None (Some k) a b s = absurd s
  told_found count many None None a b s = record { verdict = refl; bytes = refl }

whole_same : (terms : Terms) (req t u : List ℕ) (g h : Telling) → SameTold t u g h → host_of (block_of t 0) ≡ host_of (block_of u 0)
    → realm_of (block_of t 0) ≡ realm_of (block_of u 0)
    → sh_answer terms req t g ≡ sh_answer terms req u h
unfolding sh_answer sh_body origin_bytes
whole_same terms req t u g h s a b = rw (s.bytes, s.verdict, a, b)

-- What is told of two tables that show the same, and the answer.
module _ (req : List ℕ) (peer : ℕ) (t u : List ℕ) (count many : ℕ) (sight : SameSight req peer t u count many) where
  abbrev d : Dialect
  d = dialect_of (under_sh peer) req

  told_same : SameTold t u (tell d req t count) (tell d req u many)
  unfolding tell tell_judged tell_read told_bytes
  told_same = go (read_sh d req) refl
    where
      go : (j : Judged) → read_sh d req ≡ j → SameTold t u (tell_judged req t count j) (tell_judged req u many j)
      go (bad v) e = record { verdict = refl; bytes = refl }
      go (fine seen) e =
          told_found t u (references_of (body_of req)) count many (find_public t count (identity_of seen)) (find_public u many (identity_of seen))
          (public_among t count (identity_of seen) refl) (public_among u many (identity_of seen) refl) (sight.found seen e)

  pub place_same : (tell d req t count).verdict.place ≡ (tell d req u many).verdict.place
  place_same = ap (λ (v : Verdict). v.place) told_same.verdict

  pub answer_same : sh_answer (under_sh peer) req t (tell d req t count) ≡ sh_answer (under_sh peer) req u (tell d req u many)
  answer_same = whole_same (under_sh peer) req t u (tell d req t count) (tell d req u many) told_same sight.host sight.realm
