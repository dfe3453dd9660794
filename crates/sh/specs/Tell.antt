-- What a User-Data-Request comes to over a sound table of count records: "unknown identity X5001, then any other data reference X5100".
use Rattle.std.specs.Prelude.{ℕ, List, false, cond, Option, Some, None, Result, Ok, Err}
use Rattle.diameter.specs.Message.{body_of}
use Rattle.reading.specs.Rules.{Seen}
use Rattle.reading.specs.Verdicts.{fault_of}
use Rattle.reading.specs.declared.Dialect.{Dialect}
use Rattle.reading.specs.declared.Outcome.TheVariants.{Experimental}
use Rattle.reading.specs.declared.Verdict.{Verdict}
use Rattle.requests.specs.Judged.{Judged, bad, fine}
use Rattle.requests.specs.Request.{read_sh, identity_of}
use Rattle.lookup.specs.Find.{find_public}
use Rattle.user_data.specs.declared.References.{References}
use Rattle.sh.specs.Referring.{references_of}
use Rattle.sh.specs.declared.telling.Told.{Told}

-- the verdict; the block of the record that is told of, 0 for none; what was asked of it
pub record Telling : Type 0 where
  pub verdict : Verdict
  pub block : ℕ
  pub asked : References

-- nothing is told but a verdict: a fault that reading found, or an X result
abbrev pub unasked : References
unasked = record { state = false; name = false; other = false }

abbrev pub tell_none : Verdict → Telling
tell_none v = record { verdict = v; block = 0; asked = unasked }

abbrev pub denial : ℕ → Verdict
denial n = record { result = Experimental n; place = 0; lacks = 0 }

abbrev pub denied : ℕ → Telling
denied n = tell_none (denial n)

-- of a record's block, "any other data reference X5100"; of the record that was found or not, "unknown identity X5001"
unfoldable pub tell_record : References → ℕ → Telling
tell_record r k = cond r.other (denied 5100) (record { verdict = fault_of 2001; block = k; asked = r })

unfoldable pub tell_found : References → Option ℕ → Telling
tell_found r (Some k) = tell_record r k
tell_found r None = denied 5001

-- "for the one Public-Identity that 700 must hold"
unfoldable pub tell_read : List ℕ → List ℕ → ℕ → Seen → Telling
tell_read req t count seen = tell_found (references_of (body_of req)) (find_public t count (identity_of seen))

unfoldable pub tell_judged : List ℕ → List ℕ → ℕ → Judged → Telling
tell_judged req t count (bad v) = tell_none v
tell_judged req t count (fine seen) = tell_read req t count seen

unfoldable pub tell : Dialect → List ℕ → List ℕ → ℕ → Telling
tell d req t count = tell_judged req t count (read_sh d req)

-- what the code's answer says
abbrev pub telling_of : Result Told Verdict → Telling
telling_of (Ok a) = record { verdict = a.verdict; block = a.block; asked = a.asked }
telling_of (Err v) = tell_none v
