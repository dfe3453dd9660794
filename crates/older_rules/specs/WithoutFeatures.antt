-- 02 [11], "Features.": the rules as they were before. 628 was an unknown kind, nothing was asked for beyond a set, and no answer had a list of features. They
-- stand here to say what has not changed, and nothing but the theorems beside them uses them.
use Rattle.std.specs.Prelude.{ℕ, ◌+◌, ◌≡◌, List, ◌++◌, Bool, false, cond, length, eqb}
use Rattle.blocks.specs.Blocks.{block_of}
use Rattle.table.specs.Check.{check_table}
use Rattle.diameter.specs.Avp.{padded, avp_flags}
use Rattle.diameter.specs.Message.{body_of}
use Rattle.diameter.specs.Walk.{Walk, ended, faulty, avp, some_avp}
use Rattle.reading.specs.Features.{is_features}
use Rattle.reading.specs.Kinds.{session_id}
use Rattle.reading.specs.Rules.{Seen, rule_by, rule}
use Rattle.reading.specs.Verdicts.{fault_at, fault_of, lack_of}
use Rattle.reading.specs.declared.Dialect.{Dialect}
use Rattle.reading.specs.declared.Ruled.{Ruled}
use Rattle.reading.specs.declared.Terms.{Terms}
use Rattle.reading.specs.declared.Use.TheVariants.{Unknown}
use Rattle.requests.specs.Judged.{Judged, bad, fine, nothing, on_rule}
use Rattle.requests.specs.Request.{header_fault, first_other, complete, session_of}
use Rattle.choices.specs.declared.Given.{Given}
use Rattle.envelope.specs.Front.{front_bytes, origin_bytes}
use Rattle.envelope.specs.Header.{header_bytes}
use Rattle.answering.specs.Answer.{rest_bytes}
use Rattle.deciding.specs.Deeds.{carried_out}
use Rattle.deciding.specs.Plans.{plan_read}
use Rattle.deciding.specs.Rules.{Rules}

-- a request of which no AVP before its first length fault is a 628
abbrev pub NoFeatures : Walk → Type 0
NoFeatures w = some_avp is_features w ≡ false

-- (d) "kind (vendor, code) unknown: with M B5001, else skipped"
unfoldable pub rule_before : Dialect → Seen → List ℕ → Ruled
rule_before d seen a = cond (is_features a) (rule_by Unknown false (avp_flags a) 0) (rule d seen a)

unfoldable pub judge_before : Dialect → ℕ → Walk → Seen → Judged
judge_before d at ended seen = fine seen
judge_before d at (faulty t) seen = bad (fault_at 5014 at)
judge_before d at (avp a w) seen = on_rule (rule_before d seen a) seen a at (judge_before d (at + padded (length a)) w)

unfoldable pub read_before : Dialect → List ℕ → Judged
read_before d req =
    cond (eqb (header_fault d req) 0)
    (cond (first_other (body_of req)) (bad (lack_of session_id)) (complete d (judge_before d 20 (body_of req) nothing)))
    (bad (fault_of (header_fault d req)))

abbrev pub nothing_beyond : Terms → List ℕ → Bool
nothing_beyond terms req = false

-- the answer, with nothing between 296 and what a decision gives
unfoldable pub body_before : Terms → List ℕ → List ℕ → List ℕ → List ℕ → Given → List ℕ
body_before terms req t file v g =
    (front_bytes terms (session_of (body_of req)) g.verdict.result ++ origin_bytes (block_of t 0)) ++ rest_bytes req t file v g

unfoldable pub answer_before : Terms → List ℕ → List ℕ → List ℕ → List ℕ → Given → List ℕ
answer_before terms req t file v g =
    header_bytes req g.verdict.result (20 + length (body_before terms req t file v g)) ++ body_before terms req t file v g

abbrev pub before_features : Rules
before_features =
    record { check = check_table; read = read_before; beyond = nothing_beyond; plan = plan_read; carry = carried_out; answer = answer_before }
