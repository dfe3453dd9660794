-- What Failed-AVP holds: the AVP at a verdict's place, or an example of the kind that is missing.
use Rattle.std.specs.Prelude.{ℕ, List, [], Bool, true, false, cond, length, take, drop, set, replicate, eqb, leb, ltb}
use Rattle.std.proofs.Math.Option.{Option, none, some}
use Rattle.diameter.specs.Avp.{avp_head, avp_len}
use Rattle.pen.specs.Bytes.{avp_bytes, vendor_bytes}
use Rattle.reading.specs.declared.Content.{Content}
use Rattle.reading.specs.declared.Content.TheVariants.{Free, Number, Sized, Members}
use Rattle.reading.specs.declared.Kind.{Kind}
use Rattle.reading.specs.declared.Verdict.{Verdict}
use Rattle.reading.specs.Kinds.{row_of}
use Rattle.reading.specs.Verdicts.{number_of}

-- the header of the AVP at the front, nothing "if that header is cut off"
unfoldable pub head_part : List ℕ → List ℕ
head_part t = cond (leb (avp_head t) (length t)) (take (avp_head t) t) []

-- "its header alone with the length set to 8 or 12"
unfoldable pub alone : List ℕ → List ℕ
alone h = set (set (set h 5 0) 6 0) 7 (length h)

-- "the faulty top-level AVP; for B5014 its header alone .., and a 279 without data if that header is cut off"
unfoldable pub failed_of : ℕ → List ℕ → List ℕ
failed_of n t = cond (eqb n 5014) (alone (head_part t)) (take (avp_len t) t)

-- "for B5005 an example with zero data, 4 bytes for 4-byte kinds, else none"; "277, 623, 614 and 624 are the 4-byte kinds";
-- "607, a 4-byte kind"
abbrev pub is_four : Content → Bool
is_four Free = false
is_four (Number least most) = true
is_four (Sized least most) = false
is_four (Members g) = false

abbrev pub example_size : Bool → ℕ
example_size four = cond four 4 0

unfoldable pub sample : ℕ → ℕ → Bool → List ℕ
sample code vendor four = cond (eqb vendor 0) (avp_bytes code (replicate (example_size four) 0)) (vendor_bytes code (replicate (example_size four) 0))

unfoldable pub example_of : Kind → List ℕ
example_of k = sample k.code k.vendor (is_four k.content)

abbrev pub example : ℕ → List ℕ
example n = example_of (row_of n)

-- by the verdict on a request; "Header faults and X results have none, nor have B5003 and B5012": no place is blamed there, and no kind is missing
unfoldable pub failed_by : List ℕ → Verdict → Option (List ℕ)
failed_by req v =
    cond (ltb 0 v.lacks) (some (example v.lacks))
    (cond (ltb 0 v.place) (some (failed_of (number_of v.result) (drop v.place req)))
    none)
