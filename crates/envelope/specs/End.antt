-- How every answer ends.
use Rattle.std.specs.Prelude.{ℕ, List, [], ◌++◌, eqb}
use Rattle.std.proofs.Math.Option.{Option, none, some}
use Rattle.diameter.specs.Walk.{Walk, ended, faulty, avp}
use Rattle.diameter.specs.Message.{body_of}
use Rattle.pen.specs.Bytes.{copied, if_there}
use Rattle.pen.specs.Groups.{failed}
use Rattle.reading.specs.Kinds.{kind_of, proxy_info}
use Rattle.reading.specs.declared.Verdict.{Verdict}
use Rattle.failed.specs.Failing.{failed_by}

-- "Failed-AVP 279; every Proxy-Info before the first length fault, other faults or not"
abbrev pub failed_part : Option (List ℕ) → List ℕ
failed_part none = []
failed_part (some a) = failed a

unfoldable pub proxy : List ℕ → List ℕ
proxy a = if_there (eqb (kind_of a) proxy_info) (copied a)

unfoldable pub proxies : Walk → List ℕ
proxies ended = []
proxies (faulty t) = []
proxies (avp a w) = proxy a ++ proxies w

unfoldable pub end_bytes : List ℕ → Verdict → List ℕ
end_bytes req v = failed_part (failed_by req v) ++ proxies (body_of req)
