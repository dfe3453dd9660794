-- How every answer begins: "Then Session-Id ..; 260 (266, 258); Result-Code 268 or Experimental-Result 297; 277 of 1; 264; 296".
use Rattle.std.specs.Prelude.{ℕ, List, ◌++◌}
use Rattle.record.specs.Fields.{host_of, realm_of}
use Rattle.pen.specs.Bytes.{copied, avp_bytes, number_bytes}
use Rattle.pen.specs.Groups.{vendor_application, experimental}
use Rattle.reading.specs.declared.Outcome.{Outcome}
use Rattle.reading.specs.declared.Outcome.TheVariants.{Base, Experimental}
use Rattle.reading.specs.declared.Terms.{Terms}

-- "Result-Code 268 or Experimental-Result 297 (266, 298)"
unfoldable pub result_bytes : Outcome → List ℕ
result_bytes (Base n) = number_bytes 268 n
result_bytes (Experimental n) = experimental n

-- up to 277; then what the header block h names
unfoldable pub front_bytes : Terms → List ℕ → Outcome → List ℕ
front_bytes terms session result = copied session ++ vendor_application terms.application ++ result_bytes result ++ number_bytes 277 1

unfoldable pub origin_bytes : List ℕ → List ℕ
origin_bytes h = avp_bytes 264 (host_of h) ++ avp_bytes 296 (realm_of h)
