-- Which answer a User-Data-Request gets that was read, and what its 702 says.
use Rattle.std.specs.Prelude.{Ok, Option, Some, None}
use Rattle.octets.specs.Standard.{ℕ, List, Bool, true, false, ◌≡◌, ◌≢◌, refl, sym, ap, ◌∙◌, arith, eqb, ne_eqb, length}
use Rattle.record.specs.Fields.{state_of, bits_of, server_of, pending}
use Rattle.blocks.specs.Blocks.{block_of}
use Rattle.table.specs.Area.{table_in, check_area}
use Rattle.table.specs.SoundTable.{SoundTable}
use Rattle.lookup.specs.Find.{find_public}
use Rattle.lookup.proofs.Halves.{one_block, found_only, only_found, found_no, no_found}
use Rattle.diameter.specs.Message.{body_of}
use Rattle.reading.specs.Rules.{Seen}
use Rattle.reading.specs.Verdicts.{number_of, fault_of}
use Rattle.reading.specs.declared.Outcome.{Outcome}
use Rattle.reading.specs.declared.Outcome.TheVariants.{Base, Experimental}
use Rattle.requests.specs.Judged.{fine}
use Rattle.requests.specs.Request.{read_sh, identity_of}
use Rattle.user_data.specs.UserData.{sh_data, user_data_bytes}
use Rattle.user_data.specs.declared.References.{References}
use Rattle.user_data.proofs.Told.{shows_name, shows_clean, tells_name, tells_state}
use Rattle.sh.specs.Answer.{record_bytes, told_bytes, sh_body, sh_answer}
use Rattle.sh.specs.Referring.{references_of}
use Rattle.sh.specs.Tell.{Telling, denied, tell_record, tell_found, tell_read, tell_judged, tell}
use Rattle.ndushavire_sh.specs.Lent.{Lent, dialect_in}
use Rattle.ndushavire_sh.specs.Serve.{told_of, answered, sh_serve}
use Rattle.sh_demands.specs.Call.{turned_away}
use Rattle.sh_demands.specs.Saying.{Holds, refers_else, Known, saying, Says}
use Rattle.sh_demands.proofs.Refusing.{answered_is}

module _ (x : Lent) (count : ℕ) (sound : check_area x.table (length x.profile) ≡ Ok count) (seen : Seen)
    (read : read_sh (dialect_in x) x.request ≡ fine seen) where
  abbrev t : List ℕ
  t = table_in x.table

  abbrev name : List ℕ
  name = identity_of seen

  abbrev asked : References
  asked = references_of (body_of x.request)

  abbrev granted : ℕ → Telling
  granted k = record { verdict = fault_of 2001; block = k; asked = asked }

  abbrev result : Outcome
  result = (told_of x count).verdict.result

  -- the check of an area is that of the table at its front
  table_sound : SoundTable t count
  unfolding check_area
  table_sound = record { file = length x.profile; checked = sound }

  told_by : told_of x count ≡ tell_found asked (find_public t count name)
  unfolding tell tell_judged tell_read
  told_by = rw read

  found_by : (k : ℕ) → Holds x count name k → find_public t count name ≡ Some k
  found_by k h =
      only_found t count name k
      (record {
        from = h.from;
        to = h.to;
        named = h.named;
        alone = λ j a b q. one_block t count table_sound j k a h.from b h.to (q ∙ sym h.named);
      })

  -- What is told, in each of the three cases.
  tells_unknown : ((k : ℕ) → Holds x count name k → ⊥) → told_of x count ≡ denied 5001
  unfolding tell_found
  tells_unknown f = told_by ∙ rw (no_found t count name (λ j a b q. f j (record { from = a; to = b; named = q })))

  tells_other : (k : ℕ) → Holds x count name k → refers_else x ≡ true → told_of x count ≡ denied 5100
  unfolding tell_found tell_record references_of
  tells_other k h e = told_by ∙ rw (found_by k h, e)

  tells_known : (k : ℕ) → Holds x count name k → refers_else x ≡ false → told_of x count ≡ granted k
  unfolding tell_found tell_record references_of
  tells_known k h e = told_by ∙ rw (found_by k h, e)

  -- So no result is given in another case.
  differ : (g h : Telling) → number_of g.verdict.result ≢ number_of h.verdict.result → result ≡ g.verdict.result → told_of x count ≡ h → ⊥
  differ g h n e f = n (ap number_of (sym e ∙ ap (λ (r : Telling). r.verdict.result) f))

  pub unknown_only : result ≡ Experimental 5001 → (k : ℕ) → Holds x count name k → ⊥
  unfolding number_of
  unknown_only e k h = go (refers_else x) refl
    where
      go : (b : Bool) → refers_else x ≡ b → ⊥
      go true f = differ (denied 5001) (denied 5100) (λ z. omega (arith, z)) e (tells_other k h f)
      go false f = differ (denied 5001) (granted k) (λ z. omega (arith, z)) e (tells_known k h f)

  holds_at_lem : (k : ℕ) → find_public t count name ≡ Some k → Holds x count name k
  holds_at_lem k e = let o = found_only t count name table_sound k e in record { from = o.from; to = o.to; named = o.named }

  tells_nothing : find_public t count name ≡ None → told_of x count ≡ denied 5001
  tells_nothing e = tells_unknown (λ k h. found_no t count name e k h.from h.to h.named)

  pub other_only : result ≡ Experimental 5100 → Known x count name true
  unfolding number_of
  other_only r = go (find_public t count name) (refers_else x) refl refl
    where
      go : (f : Option ℕ) (o : Bool) → find_public t count name ≡ f → refers_else x ≡ o → Known x count name true
      go None o e g = absurd (differ (denied 5100) (denied 5001) (λ z. omega (arith, z)) r (tells_nothing e))
      go (Some k) true e g = record { block = k; holds = holds_at_lem k e; other = g }
      go (Some k) false e g = absurd (differ (denied 5100) (granted k) (λ z. omega (arith, z)) r (tells_known k (holds_at_lem k e) g))

  pub known_only : result ≡ Base 2001 → Known x count name false
  unfolding number_of
  known_only r = go (find_public t count name) (refers_else x) refl refl
    where
      go : (f : Option ℕ) (o : Bool) → find_public t count name ≡ f → refers_else x ≡ o → Known x count name false
      go None o e g = absurd (differ (granted 0) (denied 5001) (λ z. omega (arith, z)) r (tells_nothing e))
      go (Some k) true e g = absurd (differ (granted 0) (denied 5100) (λ z. omega (arith, z)) r (tells_other k (holds_at_lem k e) g))
      go (Some k) false e g = record { block = k; holds = holds_at_lem k e; other = g }

  -- The call.
  module _ (taken : turned_away x ≡ false) where
    says : (g : Telling) → told_of x count ≡ g → sh_serve x ≡ saying x g
    unfolding answered
    says g e = answered_is x count sound taken ∙ ap (saying x) e

    pub says_unknown : ((k : ℕ) → Holds x count name k → ⊥) → sh_serve x ≡ saying x (denied 5001)
    says_unknown f = says (denied 5001) (tells_unknown f)

    pub says_other : (k : ℕ) → Holds x count name k → refers_else x ≡ true → sh_serve x ≡ saying x (denied 5100)
    says_other k h e = says (denied 5100) (tells_other k h e)

    pub says_record : (k : ℕ) → Holds x count name k → refers_else x ≡ false → Says x (block_of t k) (sh_serve x)
    unfolding sh_answer sh_body told_bytes record_bytes user_data_bytes references_of
    says_record k h e =
        let b = block_of t k in
        let some : eqb k 0 ≡ false = ne_eqb k 0 (λ z. omega (arith, z, h.from)) in
        record {
          text = sh_data asked (state_of b) (pending (bits_of b)) (server_of b);
          answers = says (granted k) (tells_known k h e) ∙ rw some;
          shown = shows_name asked (state_of b) (pending (bits_of b)) (server_of b);
          clean = shows_clean asked (state_of b) (pending (bits_of b)) (server_of b);
          name = tells_name asked (state_of b) (pending (bits_of b)) (server_of b);
          state = tells_state asked (state_of b) (pending (bits_of b)) (server_of b);
        }
