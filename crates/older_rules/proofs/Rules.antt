-- Rules that check a table alike, decide alike over a sound one, and say so alike, are one call.
use Rattle.std.specs.Prelude.{Result, Ok, Err}
use Rattle.octets.specs.Standard.{ℕ, ◌≡◌, refl, length}
use Rattle.reading.specs.Rules.{Seen}
use Rattle.requests.specs.Judged.{Judged, bad, fine}
use Rattle.choices.specs.declared.Given.{Given}
use Rattle.choices.specs.declared.plan.Deed.{Deed}
use Rattle.deciding.specs.Rules.{Rules}
use Rattle.deciding.specs.Decide.{performed_by, judged_by, decide_by}
use Rattle.calling.specs.Lent.{Lent, dialect_in}
use Rattle.refusals.specs.Trial.{tried}
use Rattle.calling.specs.Serve.{answered_by, decision_by, serve_found, serve_table_by}

module _ (r s : Rules) (x : Lent) where
  -- of what is given, the answer
  abbrev pub AnswersAlike : Type 0
  AnswersAlike = (g : Given) → r.answer x.terms x.request x.table x.profile x.vectors g
      ≡ s.answer x.terms x.request x.table x.profile x.vectors g

  found_same : (c : Result ℕ ℕ) → AnswersAlike → ((count : ℕ) → c ≡ Ok count → decision_by r x count ≡ decision_by s x count)
      → serve_found r x c ≡ serve_found s x c
  unfolding serve_found tried answered_by
  found_same (Ok count) a h = rw (h count refl, a (decision_by s x count).given)
  found_same (Err block) a h = refl

  pub rules_same : r.check x.table (length x.profile) ≡ s.check x.table (length x.profile) → AnswersAlike
      → ((count : ℕ) → s.check x.table (length x.profile) ≡ Ok count → decision_by r x count ≡ decision_by s x count)
      → serve_table_by r x ≡ serve_table_by s x
  unfolding serve_table_by
  rules_same e a h = rw e (found_same (s.check x.table (length x.profile)) a h)

  -- of one request, by how it is read, by what it asks for, by its plan and by what is written
  pub decided_same : (count : ℕ) → r.read (dialect_in x) x.request ≡ s.read (dialect_in x) x.request
      → r.beyond x.terms x.request ≡ s.beyond x.terms x.request
      → ((seen : Seen) → r.plan (dialect_in x) x.request x.table count x.vectors seen
      ≡ s.plan (dialect_in x) x.request x.table count x.vectors seen)
      → ((seen : Seen) (d : Deed) → r.carry x.request x.table count seen d ≡ s.carry x.request x.table count seen d)
      → decision_by r x count ≡ decision_by s x count
  unfolding decide_by judged_by performed_by
  decided_same count reads beyond plans carries = rw reads (go (s.read (dialect_in x) x.request))
    where
      go : (j : Judged) → judged_by r (dialect_in x) x.request x.table count x.vectors j
          ≡ judged_by s (dialect_in x) x.request x.table count x.vectors j
      go (bad f) = refl
      go (fine seen) = rw (beyond, plans seen, carries _ _)
