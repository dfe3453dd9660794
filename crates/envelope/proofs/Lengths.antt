-- How long the parts of every answer are at the most.
use Rattle.octets.specs.Standard.{ℕ, ◌+◌, ◌≤◌, List, Bool, true, false, cond, none, some, ◌≡◌, arith, length, drop, length-append, length-take}
use Rattle.octets.specs.Standard.{length-drop, ltb}
use Rattle.record.specs.Fields.{host_of, realm_of}
use Rattle.blocks.specs.Blocks.{block_of}
use Rattle.table.specs.SoundTable.{SoundTable}
use Rattle.pen.specs.Bytes.{copied_size}
use Rattle.pen.proofs.Sizes.{copied_length, avp_length, number_length}
use Rattle.pen.proofs.Groups.{application_length, experimental_length, failed_length}
use Rattle.reading.specs.Verdicts.{number_of}
use Rattle.reading.specs.declared.Verdict.{Verdict}
use Rattle.failed.specs.Failing.{failed_of, example, failed_by}
use Rattle.failed.proofs.Short.{fault_length, example_length}
use Rattle.envelope.specs.End.{failed_part}
use Rattle.reading.specs.declared.Outcome.{Outcome}
use Rattle.reading.specs.declared.Terms.{Terms}
use Rattle.reading.specs.declared.Outcome.TheVariants.{Base, Experimental}
use Rattle.parts.proofs.Fields.{host_length, realm_length}
use Rattle.envelope.specs.Front.{result_bytes, front_bytes, origin_bytes}
use Rattle.envelope.specs.Header.{header_bytes}

result_length : (o : Outcome) → length (result_bytes o) ≤ 32
unfolding result_bytes
result_length (Base n) = omega (arith, number_length 268 n)
result_length (Experimental n) = omega (arith, experimental_length n)

pub front_length : (terms : Terms) (session : List ℕ) (o : Outcome) → length (front_bytes terms session o) ≤ 76 + copied_size (length session)
unfolding front_bytes
front_length terms session o =
    simp length-append (omega (arith, copied_length session, application_length terms.application, result_length o, number_length 277 1))

pub header_length : (req : List ℕ) (o : Outcome) (n : ℕ) → 20 ≤ length req → length (header_bytes req o n) ≡ 20
unfolding header_bytes
header_length req o n h = simp (length-take, length-drop) (omega arith)

-- What Failed-AVP holds is no more than the request itself, or an example.
holds_short : (a : List ℕ) → length a ≤ 16384 → length (failed_part (some a)) ≤ 16400
holds_short a h = omega (arith, failed_length a)

pub failed_short : (req : List ℕ) (v : Verdict) → length req ≤ 16384 → length (failed_part (failed_by req v)) ≤ 16400
unfolding failed_by
failed_short req v h = go (ltb 0 v.lacks) (ltb 0 v.place)
  where
    n : ℕ
    n = number_of v.result

    t : List ℕ
    t = drop v.place req

    go : (x y : Bool) → length (failed_part (cond x (some (example v.lacks)) (cond y (some (failed_of n t)) none))) ≤ 16400
    go true y = holds_short (example v.lacks) (omega (arith, example_length v.lacks))
    go false true = holds_short (failed_of n t) (omega (arith, fault_length n t, length-drop v.place req))
    go false false = omega arith

-- what the table's limits bound
module _ (t : List ℕ) (count : ℕ) (s : SoundTable t count) where
  pub origin_length : length (origin_bytes (block_of t 0)) ≤ 144
  unfolding origin_bytes
  origin_length =
      let h = block_of t 0 in
      simp length-append (omega (arith, avp_length 264 (host_of h), avp_length 296 (realm_of h), host_length t count s, realm_length t count s))
